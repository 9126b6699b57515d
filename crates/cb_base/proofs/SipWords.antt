-- The words of a SipHash message: the whole ones, and then the last.
use Rattle.std.proofs.Common.{◌≡◌, ℕ, ◌<◌, arith, set, ◌-◌, ◌*◌, ◌/◌, ◌%◌, List, [], ◌∷◌, ◌++◌, length, drop, map, replicate, refl, sym, ap, ◌∙◌}
use Rattle.std.proofs.lemmas.List.Sums.{fold-append}
use Rattle.std.specs.List.{fold}
use Rattle.std.specs.Int.{w64, from_le_bytes}
use Rattle.std.specs.Simd.{first_chunks}
use Rattle.cb_base.specs.declared.sip_hash.SipState.{SipState}
use Rattle.cb_base.specs.SipHash.{last_word, sip_end, sip_start, siphash_2_4, with_word}

-- Eight zeros with these bytes at their beginning and a byte at the end.
pub padded : (rest : List ℕ) (byte : ℕ) → length rest < 8 → set (rest ++ drop (length rest) (0 ∷ 0 ∷ 0 ∷ 0 ∷ 0 ∷ 0 ∷ 0 ∷ 0 ∷ [])) 7 byte ≡ rest ++ replicate (7 - length rest) 0 ++ byte ∷ []
padded [] byte few = refl
padded (a ∷ []) byte few = refl
padded (a ∷ b ∷ []) byte few = refl
padded (a ∷ b ∷ c ∷ []) byte few = refl
padded (a ∷ b ∷ c ∷ d ∷ []) byte few = refl
padded (a ∷ b ∷ c ∷ d ∷ e ∷ []) byte few = refl
padded (a ∷ b ∷ c ∷ d ∷ e ∷ f ∷ []) byte few = refl
padded (a ∷ b ∷ c ∷ d ∷ e ∷ f ∷ g ∷ []) byte few = refl
padded (a ∷ b ∷ c ∷ d ∷ e ∷ f ∷ g ∷ h ∷ more) byte few = absurd (omega (arith, few))

-- The bytes of the last word, where those that fill no word are known.
pub last_word_by : (bytes rest : List ℕ) → rest ≡ drop (length bytes / 8 * 8) bytes → length rest ≡ length bytes % 8 → from_le_bytes w64 (rest ++ replicate (7 - length rest) 0 ++ (length bytes % 256) ∷ []) ≡ last_word bytes
last_word_by bytes rest cut count = ap (λ n. from_le_bytes w64 (rest ++ replicate (7 - n) 0 ++ (length bytes % 256) ∷ [])) count ∙ ap (λ xs. from_le_bytes w64 (xs ++ replicate (7 - length bytes % 8) 0 ++ (length bytes % 256) ∷ [])) cut

-- What comes of a state that all whole words went into, and then the last.
pub sip_by : (k0 k1 : ℕ) (bytes : List ℕ) (state : SipState) (last out : ℕ) → state ≡ fold with_word (sip_start k0 k1) (map (from_le_bytes w64) (first_chunks 8 (length bytes / 8) bytes)) → last ≡ last_word bytes → out ≡ sip_end (with_word state last) → out ≡ siphash_2_4 k0 k1 bytes
unfolding siphash_2_4
sip_by k0 k1 bytes state last out words final ends =
    ends
    ∙ ap (λ s. sip_end (with_word s last)) words
    ∙ ap (λ m. sip_end (with_word (fold with_word (sip_start k0 k1) (map (from_le_bytes w64) (first_chunks 8 (length bytes / 8) bytes))) m)) final
    ∙ ap sip_end (sym (fold-append with_word (sip_start k0 k1) (map (from_le_bytes w64) (first_chunks 8 (length bytes / 8) bytes)) (last_word bytes ∷ [])))
