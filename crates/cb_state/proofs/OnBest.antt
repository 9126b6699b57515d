-- Whether a hash stands on the active chain.
use Rattle.std.proofs.Common.{◌≡◌, ℕ, zero, suc, ◌<◌, true, List, [], ◌∷◌, length, map, refl, sym, subst, ◌∙◌, arith, inl, inr, ◌⊎◌}
use Rattle.std.specs.Prelude.{Contains, is_some, slice_index_or}
use Rattle.std.proofs.lemmas.Bool.{cases_Bool, false≢true}
use Rattle.cb_base.specs.declared.hash.Hash256.{Hash256}
use Rattle.cb_block.specs.declared.header.Header.{Header}
use Rattle.cb_chain.specs.Entries.{block_hash, same}
use Rattle.cb_chain.specs.Following.{place_in}
use Rattle.cb_chain.proofs.BlockIndexes.{same-true, same-refl}

has_first : (x : Hash256) (xs : List Hash256) → Contains (x ∷ xs) x
has_first x xs = (0, omega arith, refl)

has_later : (x y : Hash256) (xs : List Hash256) → Contains xs y → Contains (x ∷ xs) y
has_later x y xs at = (suc at.0, omega (arith, at.1), at.2)

has_cases : (x y : Hash256) (xs : List Hash256) (k : ℕ) → k < suc (length xs) → slice_index_or (x ∷ xs) k y ≡ y → (x ≡ y) ⊎ Contains xs y
has_cases x y xs zero lt e = inl e
has_cases x y xs (suc k) lt e = inr (k, omega (arith, lt), e)

-- a hash has a place among headers exactly if it is that of one
pub placed : (headers : List Header) (height : ℕ) (hash : Hash256) → is_some (place_in headers height hash) ≡ true → Contains (map block_hash headers) hash
placed [] height hash is = absurd (false≢true is)
placed (header ∷ headers) height hash is =
    elim (cases_Bool (same hash (block_hash header))) [
      | inl alike ↦ subst (Contains (map block_hash (header ∷ headers))) (sym (same-true hash (block_hash header) alike)) (has_first (block_hash header) (map block_hash headers))
      | inr differs ↦ has_later (block_hash header) hash (map block_hash headers) (placed headers (suc height) hash (rw differs at is))
    ]

pub there : (headers : List Header) (height : ℕ) (hash : Hash256) → Contains (map block_hash headers) hash → is_some (place_in headers height hash) ≡ true
there [] height hash at = absurd (omega (arith, at.1))
there (header ∷ headers) height hash at =
    elim (cases_Bool (same hash (block_hash header))) [
      | inl alike ↦ rw alike refl
      | inr differs ↦
          elim (has_cases (block_hash header) hash (map block_hash headers) at.0 at.1 at.2) [
            | inl e ↦ absurd (false≢true (sym differs ∙ subst (λ (h : Hash256). same hash h ≡ true) (sym e) (same-refl hash)))
            | inr later ↦ rw differs (there headers (suc height) hash later)
          ]
    ]
