-- A field that is read is the field that was written, and what was written is read again: signed numbers, hashes,
-- scripts and lists behind their count.
use Rattle.std.proofs.Common.{◌≡◌, ℕ, zero, suc, ◌*◌, ◌^◌, ◌<◌, ◌≤◌, true, false, cond, ltb, ℤ, pos, negsuc, List, [], ◌∷◌, ◌++◌, length, SFits, Ok, Err, refl, sym, ap, subst, ◌∙◌, append_assoc, arith, inl, inr}
use Rattle.std.specs.List.{flat_map, AllByRecursion}
use Rattle.std.specs.Int.{Width, w32, w64, byte_len, to_le_bytes, cast_signed, cast_unsigned}
use Rattle.std.proofs.lemmas.Bool.{cases_lt, lt-ltb, le-ltb}
use Rattle.std.proofs.lemmas.Int.{to_z-of_z, of_z-to_z}
use Rattle.std.proofs.lemmas.List.{length-append}
use Rattle.std.proofs.lemmas.List.Concat.{flat_map-cons}
use Rattle.cb_base.specs.declared.fault.Fault.TheVariants.{Truncated}
use Rattle.cb_base.specs.declared.hash.Hash256.{Hash256}
use Rattle.cb_base.specs.CompactSize.{compact_text, compact_at}
use Rattle.cb_base.specs.Reading.{Read, ◌>>=◌, bytes_at, number_at, signed_at}
use Rattle.cb_base.proofs.Fields.{AreBytes, bind_ok, guard_ok, ok_is, Takes, Takes-then, IsWide, wide32, wide64, number_takes, number_again, bytes_take, bytes_again}
use Rattle.cb_base.proofs.Compact.{compact_takes, compact_again}
use Rattle.cb_block.specs.TxText.{script_text, list_text}
use Rattle.cb_block.specs.TxReading.{count_at, items_at, list_at, hash_at, script_at}

-- ---- signed numbers

pub record IsSigned (w : Width) (limit : ℕ) : Type 0 where
  pub wide : IsWide w limit
  pub back : (n : ℕ) → n < limit → cast_unsigned w (cast_signed w n) ≡ n
  pub fits : (n : ℕ) → n < limit → SFits w (cast_signed w n)
  pub again : (z : ℤ) → SFits w z → cast_signed w (cast_unsigned w z) ≡ z
  pub below : (z : ℤ) → SFits w z → cast_unsigned w z < limit

signed_fits32 : (n : ℕ) → n < 2 ^ 32 → SFits w32 (cast_signed w32 n)
signed_fits32 n lt =
    elim (cases_lt n (2 ^ 31)) [
      | inl low ↦ let e : ltb n (2 ^ 31) ≡ true = lt-ltb _ _ low in rw e (record { sfits = low })
      | inr high ↦ let e : ltb n (2 ^ 31) ≡ false = le-ltb _ _ high in rw e (record { sfits = omega arith })
    ]

signed_fits64 : (n : ℕ) → n < 2 ^ 64 → SFits w64 (cast_signed w64 n)
signed_fits64 n lt =
    elim (cases_lt n (2 ^ 63)) [
      | inl low ↦ let e : ltb n (2 ^ 63) ≡ true = lt-ltb _ _ low in rw e (record { sfits = low })
      | inr high ↦ let e : ltb n (2 ^ 63) ≡ false = le-ltb _ _ high in rw e (record { sfits = omega arith })
    ]

unsigned_below32 : (z : ℤ) → SFits w32 z → cast_unsigned w32 z < 2 ^ 32
unsigned_below32 (pos n) f = omega (arith, f.sfits)
unsigned_below32 (negsuc n) f = omega (arith, f.sfits)

unsigned_below64 : (z : ℤ) → SFits w64 z → cast_unsigned w64 z < 2 ^ 64
unsigned_below64 (pos n) f = omega (arith, f.sfits)
unsigned_below64 (negsuc n) f = omega (arith, f.sfits)

pub signed32 : IsSigned w32 (2 ^ 32)
signed32 = record { wide = wide32; back = λ n lt. of_z-to_z w32 n lt; fits = signed_fits32; again = λ z f. to_z-of_z w32 z f; below = unsigned_below32 }

pub signed64 : IsSigned w64 (2 ^ 64)
signed64 = record { wide = wide64; back = λ n lt. of_z-to_z w64 n lt; fits = signed_fits64; again = λ z f. to_z-of_z w64 z f; below = unsigned_below64 }

-- a signed number is an unsigned one, read otherwise
signed_is : (w : Width) (bytes : List ℕ) → signed_at w bytes ≡ (number_at w bytes >>= λ n. Ok (cast_signed w n.0, n.1))
signed_is w bytes =
    elim (cases_lt (length bytes) (byte_len w)) [
      | inl lt ↦ let e : ltb (length bytes) (byte_len w) ≡ true = lt-ltb _ _ lt in rw e refl
      | inr le ↦ let e : ltb (length bytes) (byte_len w) ≡ false = le-ltb _ _ le in rw e refl
    ]

pub signed_takes : (w : Width) (limit : ℕ) (s : IsSigned w limit) (bytes : List ℕ) (z : ℤ) (rest : List ℕ) → AreBytes bytes → signed_at w bytes ≡ Ok (z, rest) → Takes bytes (to_le_bytes w (cast_unsigned w z)) rest × SFits w z
signed_takes w limit s bytes z rest are e =
    let b = bind_ok (number_at w bytes) (λ n. Ok (cast_signed w n.0, n.1)) (z, rest) (sym (signed_is w bytes) ∙ e) in
    let t = number_takes w limit s.wide bytes b.0.0 b.0.1 are b.1 in
    let made : Takes bytes (to_le_bytes w (cast_unsigned w (cast_signed w b.0.0))) b.0.1 = subst (λ (n : ℕ). Takes bytes (to_le_bytes w n) b.0.1) (sym (s.back b.0.0 t.1)) t.0 in
    subst (λ (x : ℤ × List ℕ). Takes bytes (to_le_bytes w (cast_unsigned w x.0)) x.1 × SFits w x.0) (ok_is (cast_signed w b.0.0, b.0.1) (z, rest) b.2) (made, s.fits b.0.0 t.1)

pub signed_again : (w : Width) (limit : ℕ) (s : IsSigned w limit) (z : ℤ) (rest : List ℕ) → SFits w z → signed_at w (to_le_bytes w (cast_unsigned w z) ++ rest) ≡ Ok (z, rest)
signed_again w limit s z rest f =
    signed_is w (to_le_bytes w (cast_unsigned w z) ++ rest)
    ∙ ap (λ (r : Read ℕ). r >>= λ n. Ok (cast_signed w n.0, n.1)) (number_again w limit s.wide (cast_unsigned w z) rest (s.below z f))
    ∙ ap (λ (y : ℤ). Ok (y, rest)) (s.again z f)

-- ---- hashes and scripts

pub hash_takes : (bytes : List ℕ) (h : Hash256) (rest : List ℕ) → AreBytes bytes → hash_at bytes ≡ Ok (h, rest) → Takes bytes h.0 rest × (length h.0 ≡ 32)
unfolding hash_at
hash_takes bytes h rest are e =
    let b = bind_ok (bytes_at 32 bytes) (λ x. Ok (record { 0 = x.0 }, x.1)) (h, rest) e in
    let t = bytes_take 32 bytes b.0.0 b.0.1 are b.1 in
    let made : Hash256 × List ℕ = (record { 0 = b.0.0 }, b.0.1) in
    subst (λ (x : Hash256 × List ℕ). Takes bytes x.0.0 x.1 × (length x.0.0 ≡ 32)) (ok_is made (h, rest) b.2) t

pub hash_again : (h : Hash256) (rest : List ℕ) → length h.0 ≡ 32 → hash_at (h.0 ++ rest) ≡ Ok (h, rest)
unfolding hash_at
hash_again h rest len = rw (bytes_again 32 h.0 rest len) refl

pub script_takes : (bytes s rest : List ℕ) → AreBytes bytes → script_at bytes ≡ Ok (s, rest) → Takes bytes (script_text s) rest × (length s < 2 ^ 64)
unfolding script_at script_text
script_takes bytes s rest are e =
    let b = bind_ok (compact_at bytes) (λ n. bytes_at n.0 n.1) (s, rest) e in
    let t = compact_takes bytes b.0.0 b.0.1 are b.1 in
    let u = bytes_take b.0.0 b.0.1 s rest t.0.rest_bytes b.2 in
    let both = Takes-then bytes (compact_text b.0.0) b.0.1 s rest t.0 u.0 in
    (subst (λ (n : ℕ). Takes bytes (compact_text n ++ s) rest) (sym u.1) both, omega (arith, u.1, t.1))

pub script_again : (s rest : List ℕ) → length s < 2 ^ 64 → script_at (script_text s ++ rest) ≡ Ok (s, rest)
unfolding script_at script_text
script_again s rest lt =
    ap script_at (append_assoc (compact_text (length s)) s rest)
    ∙ ap (λ (r : Read ℕ). r >>= λ n. bytes_at n.0 n.1) (compact_again (length s) (s ++ rest) lt)
    ∙ bytes_again (length s) s rest refl

-- ---- lists behind their count

-- what a kind of item is read and written by
pub record IsKind (A : Type 0) (text : A → List ℕ) (item_at : List ℕ → Read A) (Is : A → Type 0) (least : ℕ) : Type 0 where
  pub takes : (bytes : List ℕ) (x : A) (rest : List ℕ) → AreBytes bytes → item_at bytes ≡ Ok (x, rest) → Takes bytes (text x) rest × Is x
  pub again : (x : A) (rest : List ℕ) → Is x → item_at (text x ++ rest) ≡ Ok (x, rest)
  pub long : (x : A) → Is x → least ≤ length (text x)

module _ (A : Type 0) (text : A → List ℕ) (item_at : List ℕ → Read A) (Is : A → Type 0) (least : ℕ) (kind : IsKind A text item_at Is least) where
  items_take : (n : ℕ) (bytes : List ℕ) (x : List A × List ℕ) → AreBytes bytes → items_at item_at n bytes ≡ Ok x → Takes bytes (flat_map text x.0) x.1 × (length x.0 ≡ n) × AllByRecursion Is x.0
  unfolding items_at
  items_take zero bytes x are e =
      let made : List A × List ℕ = ([], bytes) in
      subst (λ (y : List A × List ℕ). Takes bytes (flat_map text y.0) y.1 × (length y.0 ≡ 0) × AllByRecursion Is y.0) (ok_is made x e) (record { parts = refl; rest_bytes = are }, refl, tt)
  items_take (suc n) bytes x are e =
      let a = bind_ok (item_at bytes) (λ first. items_at item_at n first.1 >>= λ others. Ok (first.0 ∷ others.0, others.1)) x e in
      let b = bind_ok (items_at item_at n a.0.1) (λ others. Ok (a.0.0 ∷ others.0, others.1)) x a.2 in
      let first = kind.takes bytes a.0.0 a.0.1 are a.1 in
      let second = items_take n a.0.1 b.0 first.0.rest_bytes b.1 in
      let both = Takes-then bytes (text a.0.0) a.0.1 (flat_map text b.0.0) b.0.1 first.0 second.0 in
      let made : List A × List ℕ = (a.0.0 ∷ b.0.0, b.0.1) in
      subst (λ (y : List A × List ℕ). Takes bytes (flat_map text y.0) y.1 × (length y.0 ≡ suc n) × AllByRecursion Is y.0) (ok_is made x b.2) (rw flat_map-cons both, ap suc second.1, (first.1, second.2))

  items_again : (xs : List A) (rest : List ℕ) → AllByRecursion Is xs → items_at item_at (length xs) (flat_map text xs ++ rest) ≡ Ok (xs, rest)
  unfolding items_at
  items_again [] rest are = refl
  items_again (x ∷ xs) rest are =
      let regrouped : flat_map text (x ∷ xs) ++ rest ≡ text x ++ (flat_map text xs ++ rest) = ap (λ (y : List ℕ). y ++ rest) (flat_map-cons text x xs) ∙ append_assoc (text x) (flat_map text xs) rest in
      ap (items_at item_at (suc (length xs))) regrouped ∙ rw (kind.again x (flat_map text xs ++ rest) are.0, items_again xs rest are.1) refl

  items_long : (xs : List A) → AllByRecursion Is xs → length xs * least ≤ length (flat_map text xs)
  items_long [] are = omega arith
  items_long (x ∷ xs) are =
      omega (arith, length-append (text x) (flat_map text xs), kind.long x are.0, items_long xs are.1, ap length (flat_map-cons text x xs))

  pub list_takes : (bytes : List ℕ) (xs : List A) (rest : List ℕ) → AreBytes bytes → list_at least item_at bytes ≡ Ok (xs, rest) → Takes bytes (list_text text xs) rest × (length xs < 2 ^ 64) × AllByRecursion Is xs
  unfolding list_at count_at list_text
  list_takes bytes xs rest are e =
      let a = bind_ok (count_at least bytes) (λ n. items_at item_at n.0 n.1) (xs, rest) e in
      let b = bind_ok (compact_at bytes) (λ n. cond (ltb (length n.1) (n.0 * least)) (Err Truncated) (Ok n)) a.0 a.1 in
      let g = guard_ok (ltb (length b.0.1) (b.0.0 * least)) Truncated b.0 a.0 b.2 in
      let same : compact_at bytes ≡ Ok (a.0.0, a.0.1) = b.1 ∙ ap (λ (x : ℕ × List ℕ). Ok x) g.1 in
      let t = compact_takes bytes a.0.0 a.0.1 are same in
      let u = items_take a.0.0 a.0.1 (xs, rest) t.0.rest_bytes a.2 in
      let both = Takes-then bytes (compact_text a.0.0) a.0.1 (flat_map text xs) rest t.0 u.0 in
      (subst (λ (n : ℕ). Takes bytes (compact_text n ++ flat_map text xs) rest) (sym u.1) both, omega (arith, u.1, t.1), u.2)

  pub list_again : (xs : List A) (rest : List ℕ) → length xs < 2 ^ 64 → AllByRecursion Is xs → list_at least item_at (list_text text xs ++ rest) ≡ Ok (xs, rest)
  unfolding list_at count_at list_text
  list_again xs rest few are =
      let after = flat_map text xs ++ rest in
      let fits : ltb (length after) (length xs * least) ≡ false = le-ltb _ _ (omega (arith, items_long xs are, length-append (flat_map text xs) rest)) in
      let counted : count_at least (compact_text (length xs) ++ after) ≡ Ok (length xs, after) =
      ap (λ (r : Read ℕ). r >>= λ n. cond (ltb (length n.1) (n.0 * least)) (Err Truncated) (Ok n)) (compact_again (length xs) after few) ∙ rw fits refl in
      ap (list_at least item_at) (append_assoc (compact_text (length xs)) (flat_map text xs) rest)
      ∙ ap (λ (r : Read ℕ). r >>= λ n. items_at item_at n.0 n.1) counted
      ∙ items_again xs rest are
