-- Short ids: what is read is spelled so, and what was written is read again.
use Rattle.std.proofs.Common.{◌≡◌, ℕ, zero, suc, ◌+◌, ◌*◌, ◌/◌, ◌%◌, ◌^◌, ◌<◌, List, [], ◌∷◌, ◌++◌, length, take, Ok, refl, sym, ap, subst, ◌∙◌, arith}
use Rattle.std.specs.List.{flat_map}
use Rattle.std.specs.Int.{w64, to_le_bytes, from_le_bytes}
use Rattle.std.proofs.lemmas.List.{length-append, take_at}
use Rattle.std.proofs.lemmas.List.Concat.{flat_map-cons}
use Rattle.cb_base.specs.CompactSize.{compact_text}
use Rattle.cb_base.specs.Reading.{Read, ◌>>=◌, bytes_at}
use Rattle.cb_base.proofs.Fields.{AreBytes, AreBytes-take, bind_ok, ok_is, Takes, wide64, bytes_take, bytes_again}
use Rattle.cb_block.specs.TxText.{list_text}
use Rattle.cb_block.proofs.Parts.{IsKind}
use Rattle.cb_wire.specs.ShortForms.{IsShortId, short_id_at, short_id_text}

one_more : (byte : ℕ) (bytes : List ℕ) → byte < 256 → AreBytes bytes → AreBytes (byte ∷ bytes)
one_more byte bytes lt are zero = lt
one_more byte bytes lt are (suc i) = are i

none_more : AreBytes []
none_more i = omega arith

-- six bytes are the low ones of their number, which is below 2 ^ 48
six_laws : (six : List ℕ) → length six ≡ 6 → AreBytes six
    → (take 6 (to_le_bytes w64 (from_le_bytes w64 (six ++ 0 ∷ 0 ∷ []))) ≡ six) × (from_le_bytes w64 (six ++ 0 ∷ 0 ∷ []) < 2 ^ 48)
six_laws [] len are = absurd (omega (arith, len))
six_laws (a ∷ []) len are = absurd (omega (arith, len))
six_laws (a ∷ b ∷ []) len are = absurd (omega (arith, len))
six_laws (a ∷ b ∷ c ∷ []) len are = absurd (omega (arith, len))
six_laws (a ∷ b ∷ c ∷ d ∷ []) len are = absurd (omega (arith, len))
six_laws (a ∷ b ∷ c ∷ d ∷ e ∷ []) len are = absurd (omega (arith, len))
six_laws (a ∷ b ∷ c ∷ d ∷ e ∷ f ∷ g ∷ more) len are = absurd (omega (arith, len))
six_laws (a ∷ b ∷ c ∷ d ∷ e ∷ f ∷ []) len are =
    let eight : AreBytes (a ∷ b ∷ c ∷ d ∷ e ∷ f ∷ 0 ∷ 0 ∷ []) =
    one_more a (b ∷ c ∷ d ∷ e ∷ f ∷ 0 ∷ 0 ∷ []) (are 0)
    (one_more b (c ∷ d ∷ e ∷ f ∷ 0 ∷ 0 ∷ []) (are 1)
    (one_more c (d ∷ e ∷ f ∷ 0 ∷ 0 ∷ []) (are 2)
    (one_more d (e ∷ f ∷ 0 ∷ 0 ∷ []) (are 3)
    (one_more e (f ∷ 0 ∷ 0 ∷ []) (are 4)
    (one_more f (0 ∷ 0 ∷ []) (are 5)
    (one_more 0 (0 ∷ []) (omega arith)
    (one_more 0 [] (omega arith) none_more))))))) in
    (ap (take 6) (wide64.back (a ∷ b ∷ c ∷ d ∷ e ∷ f ∷ 0 ∷ 0 ∷ []) refl eight), omega (arith, are 0, are 1, are 2, are 3, are 4, are 5))

-- a number below 2 ^ 48 has no more than six bytes
low_bytes : (id : ℕ) → id < 2 ^ 48 → take 6 (to_le_bytes w64 id) ++ 0 ∷ 0 ∷ [] ≡ to_le_bytes w64 id
low_bytes id lt =
    let seventh : 0 ≡ id / 2 ^ 48 % 256 = omega (arith, lt) in
    let eighth : 0 ≡ id / 2 ^ 56 % 256 = omega (arith, lt) in
    ap (λ (x : ℕ). take 6 (to_le_bytes w64 id) ++ x ∷ 0 ∷ []) seventh ∙ ap (λ (x : ℕ). take 6 (to_le_bytes w64 id) ++ (id / 2 ^ 48 % 256) ∷ x ∷ []) eighth

short_id_takes : (bytes : List ℕ) (x : ℕ) (rest : List ℕ) → AreBytes bytes → short_id_at bytes ≡ Ok (x, rest) → Takes bytes (short_id_text x) rest × IsShortId x
unfolding short_id_at
short_id_takes bytes x rest are e =
    let b = bind_ok (bytes_at 6 bytes) (λ six. Ok (from_le_bytes w64 (six.0 ++ 0 ∷ 0 ∷ []), six.1)) (x, rest) e in
    let t = bytes_take 6 bytes b.0.0 b.0.1 are b.1 in
    let front : take 6 bytes ≡ b.0.0 = ap (take 6) t.0.parts ∙ take_at b.0.0 b.0.1 6 t.1 in
    let laws = six_laws b.0.0 t.1 (subst AreBytes front (AreBytes-take 6 bytes are)) in
    let made : ℕ × List ℕ = (from_le_bytes w64 (b.0.0 ++ 0 ∷ 0 ∷ []), b.0.1) in
    let spelled : Takes bytes (short_id_text made.0) b.0.1 = subst (λ (text : List ℕ). Takes bytes text b.0.1) (sym laws.0) t.0 in
    subst (λ (y : ℕ × List ℕ). Takes bytes (short_id_text y.0) y.1 × IsShortId y.0) (ok_is made (x, rest) b.2) (spelled, laws.1)

short_id_again : (x : ℕ) (rest : List ℕ) → IsShortId x → short_id_at (short_id_text x ++ rest) ≡ Ok (x, rest)
unfolding short_id_at
short_id_again x rest lt =
    let same : from_le_bytes w64 (short_id_text x ++ 0 ∷ 0 ∷ []) ≡ x = ap (from_le_bytes w64) (low_bytes x lt) ∙ wide64.again x (omega (arith, lt)) in
    ap (λ (r : Read (List ℕ)). r >>= λ six. Ok (from_le_bytes w64 (six.0 ++ 0 ∷ 0 ∷ []), six.1)) (bytes_again 6 (short_id_text x) rest refl)
    ∙ ap (λ (n : ℕ). Ok (n, rest)) same

pub short_id_long : (x : ℕ) → length (short_id_text x) ≡ 6
short_id_long x = refl

pub short_id_kind : IsKind ℕ short_id_text short_id_at IsShortId 6
short_id_kind = record { takes = short_id_takes; again = short_id_again; long = λ x is. omega (arith, short_id_long x) }

each_long : (ids : List ℕ) → length (flat_map short_id_text ids) ≡ length ids * 6
each_long [] = refl
each_long (id ∷ ids) = omega (arith, ap length (flat_map-cons short_id_text id ids), length-append (short_id_text id) (flat_map short_id_text ids), short_id_long id, each_long ids)

pub ids_long : (ids : List ℕ) → length (list_text short_id_text ids) ≡ length (compact_text (length ids)) + length ids * 6
unfolding list_text
ids_long ids = omega (arith, length-append (compact_text (length ids)) (flat_map short_id_text ids), each_long ids)
