-- Lists with a limit: what is read is spelled so, what was written is read again, and how many bytes it has.
use Rattle.std.proofs.Common.{◌≡◌, ℕ, zero, suc, ◌+◌, ◌*◌, ◌^◌, ◌<◌, ◌≤◌, Bool, true, false, cond, ltb, eqb, List, [], ◌∷◌, ◌++◌, length, drop, min, ◌-◌, All, Result, Ok, Err, refl, sym, ap, subst, ◌∙◌, append_assoc, arith}
use Rattle.std.specs.List.{flat_map, AllByRecursion}
use Rattle.std.specs.Int.{w16, w32, w64, to_le_bytes}
use Rattle.std.proofs.lemmas.Bool.{ltb-false, le-ltb, eqb-true, ne_eqb}
use Rattle.std.proofs.lemmas.List.{length-append, drop_at}
use Rattle.std.proofs.lemmas.List.Concat.{flat_map-cons}
use Rattle.std.proofs.lemmas.List.Elements.{All-from_recursion, recursion_from_All}
use Rattle.cb_base.specs.declared.fault.Fault.{Fault}
use Rattle.cb_base.specs.declared.fault.Fault.TheVariants.{Truncated, TooMany, BadBool}
use Rattle.cb_base.specs.declared.hash.Hash256.{Hash256}
use Rattle.cb_base.specs.CompactSize.{compact_at, compact_text}
use Rattle.cb_base.specs.Reading.{Read, ◌>>=◌, number_at}
use Rattle.cb_base.proofs.Fields.{AreBytes, AreBytes-drop, bind_ok, guard_ok, ok_is, Takes, Takes-then, wide32, number_takes, number_again}
use Rattle.cb_base.proofs.Compact.{compact_takes, compact_again}
use Rattle.cb_block.specs.TxText.{list_text}
use Rattle.cb_block.specs.TxReading.{hash_at, items_at, count_at, list_at}
use Rattle.cb_block.proofs.Parts.{hash_takes, hash_again, IsKind, list_takes, list_again}
use Rattle.cb_block.specs.declared.header.Header.{Header}
use Rattle.cb_block.specs.BlockReading.{header_at, listed_header_at}
use Rattle.cb_block.specs.BlockText.{IsHeader, header_text, listed_header_text}
use Rattle.cb_block.proofs.Headers.{header_again, header_laws_at}
use Rattle.cb_wire.specs.declared.inventory.Inventory.{Inventory}
use Rattle.cb_wire.specs.declared.inventory.Inventory.TheVariants as kinds
use Rattle.cb_wire.specs.Kinds.{IsOtherKind}
use Rattle.cb_wire.specs.Lists.{IsEntry, IsHash, entry_at, entry_text, hash_in, hash_text, kind_of, named, limited_at, listed_at}

-- a test that met no fault, with what was read behind it
pub refused_not : {A : Type 0} (b : Bool) (d : Fault) (r : Result A Fault) (y : A) → cond b (Err d) r ≡ Ok y → (b ≡ false) × (r ≡ Ok y)
refused_not true d r y e = absurd cc
refused_not false d r y e = (refl, e)

-- the same where the fault stands last
taken_only : {A : Type 0} (b : Bool) (d : Fault) (x y : A) → cond b (Ok x) (Err d) ≡ Ok y → (b ≡ true) × (x ≡ y)
taken_only true d x y e = (refl, cc)
taken_only false d x y e = absurd cc

-- as many items are read as were asked for
items_count : {A : Type 0} (item_at : List ℕ → Read A) (n : ℕ) (bytes : List ℕ) (x : List A × List ℕ) → items_at item_at n bytes ≡ Ok x → length x.0 ≡ n
unfolding items_at
items_count {A = A} item_at zero bytes x e =
    let made : List A × List ℕ = ([], bytes) in
    ap (λ (p : List A × List ℕ). length p.0) (sym (ok_is made x e))
items_count {A = A} item_at (suc n) bytes x e =
    let a = bind_ok (item_at bytes) (λ first. items_at item_at n first.1 >>= λ others. Ok (first.0 ∷ others.0, others.1)) x e in
    let b = bind_ok (items_at item_at n a.0.1) (λ others. Ok (a.0.0 ∷ others.0, others.1)) x a.2 in
    let made : List A × List ℕ = (a.0.0 ∷ b.0.0, b.0.1) in
    ap (λ (p : List A × List ℕ). length p.0) (sym (ok_is made x b.2)) ∙ ap suc (items_count item_at n a.0.1 b.0 b.1)

-- what is read with a limit is read without it, and is within the limit
listed_is : {A : Type 0} (most size : ℕ) (item_at : List ℕ → Read A) (bytes : List ℕ) (x : List A × List ℕ) → listed_at most size item_at bytes ≡ Ok x
    → (list_at size item_at bytes ≡ Ok x) × (length x.0 ≤ most)
unfolding listed_at limited_at list_at count_at
listed_is most size item_at bytes x e =
    let a = bind_ok (limited_at most size bytes) (λ n. items_at item_at n.0 n.1) x e in
    let b = bind_ok (compact_at bytes) (λ n. cond (ltb most n.0) (Err TooMany) (cond (ltb (length n.1) (n.0 * size)) (Err Truncated) (Ok n))) a.0 a.1 in
    let g = refused_not (ltb most b.0.0) TooMany (cond (ltb (length b.0.1) (b.0.0 * size)) (Err Truncated) (Ok b.0)) a.0 b.2 in
    let h = guard_ok (ltb (length b.0.1) (b.0.0 * size)) Truncated b.0 a.0 g.1 in
    let counted : count_at size bytes ≡ Ok a.0 = ap (λ (r : Read ℕ). r >>= λ n. cond (ltb (length n.1) (n.0 * size)) (Err Truncated) (Ok n)) b.1 ∙ g.1 in
    let few : b.0.0 ≤ most = ltb-false _ _ g.0 in
    let same : b.0.0 ≡ a.0.0 = ap (λ (p : ℕ × List ℕ). p.0) h.1 in
    let count : length x.0 ≡ a.0.0 = items_count item_at a.0.0 a.0.1 x a.2 in
    (ap (λ (r : Read ℕ). r >>= λ n. items_at item_at n.0 n.1) counted ∙ a.2, omega (arith, few, same, count))

-- and what is read without the limit and is within it is read with it
listed_from : {A : Type 0} (most size : ℕ) (item_at : List ℕ → Read A) (bytes : List ℕ) (x : List A × List ℕ) → list_at size item_at bytes ≡ Ok x → length x.0 ≤ most
    → listed_at most size item_at bytes ≡ Ok x
unfolding listed_at limited_at list_at count_at
listed_from most size item_at bytes x e few =
    let a = bind_ok (count_at size bytes) (λ n. items_at item_at n.0 n.1) x e in
    let b = bind_ok (compact_at bytes) (λ n. cond (ltb (length n.1) (n.0 * size)) (Err Truncated) (Ok n)) a.0 a.1 in
    let h = guard_ok (ltb (length b.0.1) (b.0.0 * size)) Truncated b.0 a.0 b.2 in
    let same : b.0.0 ≡ a.0.0 = ap (λ (p : ℕ × List ℕ). p.0) h.1 in
    let count : length x.0 ≡ a.0.0 = items_count item_at a.0.0 a.0.1 x a.2 in
    let le : b.0.0 ≤ most = omega (arith, few, same, count) in
    let fits : ltb most b.0.0 ≡ false = le-ltb _ _ le in
    let counted : limited_at most size bytes ≡ Ok a.0 =
    ap (λ (r : Read ℕ). r >>= λ n. cond (ltb most n.0) (Err TooMany) (cond (ltb (length n.1) (n.0 * size)) (Err Truncated) (Ok n))) b.1
    ∙ ap (λ (t : Bool). cond t (Err TooMany) (cond (ltb (length b.0.1) (b.0.0 * size)) (Err Truncated) (Ok b.0))) fits ∙ b.2 in
    ap (λ (r : Read ℕ). r >>= λ n. items_at item_at n.0 n.1) counted ∙ a.2

module _ (A : Type 0) (text : A → List ℕ) (item_at : List ℕ → Read A) (Is : A → Type 0) (most size : ℕ) (kind : IsKind A text item_at Is size) where
  pub listed_takes : (bytes : List ℕ) (xs : List A) (rest : List ℕ) → AreBytes bytes → listed_at most size item_at bytes ≡ Ok (xs, rest)
      → Takes bytes (list_text text xs) rest × ((length xs ≤ most) × All Is xs)
  listed_takes bytes xs rest are e =
      let l = listed_is most size item_at bytes (xs, rest) e in
      let t = list_takes A text item_at Is size kind bytes xs rest are l.0 in
      (t.0, (l.1, All-from_recursion Is xs t.2))

  pub listed_again : most < 2 ^ 64 → (xs : List A) (rest : List ℕ) → (length xs ≤ most) × All Is xs → listed_at most size item_at (list_text text xs ++ rest) ≡ Ok (xs, rest)
  listed_again lt xs rest is =
      let few : length xs < 2 ^ 64 = omega (arith, lt, is.0) in
      listed_from most size item_at (list_text text xs ++ rest) (xs, rest) (list_again A text item_at Is size kind xs rest few (recursion_from_All Is xs is.1)) is.0

-- ---- hashes

pub hash_kind : IsKind Hash256 hash_text hash_at IsHash 32
hash_kind = record { takes = hash_takes; again = hash_again; long = λ h is. omega (arith, is) }

-- ---- entries of inventory

by_kind : (k : ℕ) (h : Hash256) (a b c : Bool) → eqb k 1 ≡ a → eqb k 2 ≡ b → eqb k 4 ≡ c
    → (kind_of (cond a (kinds.Tx h) (cond b (kinds.Block h) (cond c (kinds.CompactBlock h) (kinds.Other k h)))) ≡ k)
    × (hash_in (cond a (kinds.Tx h) (cond b (kinds.Block h) (cond c (kinds.CompactBlock h) (kinds.Other k h)))) ≡ h)
by_kind k h true b c p q r = (sym (eqb-true k 1 p), refl)
by_kind k h false true c p q r = (sym (eqb-true k 2 q), refl)
by_kind k h false false true p q r = (sym (eqb-true k 4 r), refl)
by_kind k h false false false p q r = (refl, refl)

-- an entry is of the type and the hash that it was made of
kind_named : (k : ℕ) (h : Hash256) → kind_of (named k h) ≡ k
kind_named k h = (by_kind k h (eqb k 1) (eqb k 2) (eqb k 4) refl refl refl).0

hash_named : (k : ℕ) (h : Hash256) → hash_in (named k h) ≡ h
hash_named k h = (by_kind k h (eqb k 1) (eqb k 2) (eqb k 4) refl refl refl).1

-- a type without a name stands as it came
pub other_named : (k : ℕ) (h : Hash256) → IsOtherKind k → named k h ≡ kinds.Other k h
other_named k h is =
    rw (ne_eqb k 1 is.tx, ne_eqb k 2 is.block, ne_eqb k 4 is.compact) refl

entry_takes : (bytes : List ℕ) (x : Inventory) (rest : List ℕ) → AreBytes bytes → entry_at bytes ≡ Ok (x, rest) → Takes bytes (entry_text x) rest × IsEntry x
unfolding entry_at entry_text
entry_takes bytes x rest are e =
    let a = bind_ok (number_at w32 bytes) (λ kind. hash_at kind.1 >>= λ hash. Ok (named kind.0 hash.0, hash.1)) (x, rest) e in
    let b = bind_ok (hash_at a.0.1) (λ hash. Ok (named a.0.0 hash.0, hash.1)) (x, rest) a.2 in
    let t = number_takes w32 (2 ^ 32) wide32 bytes a.0.0 a.0.1 are a.1 in
    let u = hash_takes a.0.1 b.0.0 b.0.1 t.0.rest_bytes b.1 in
    let both = Takes-then bytes (to_le_bytes w32 a.0.0) a.0.1 b.0.0.0 b.0.1 t.0 u.0 in
    let made : Inventory × List ℕ = (named a.0.0 b.0.0, b.0.1) in
    let kind : kind_of made.0 ≡ a.0.0 = kind_named a.0.0 b.0.0 in
    let hash : hash_in made.0 ≡ b.0.0 = hash_named a.0.0 b.0.0 in
    let is : IsEntry made.0 = record {
      kind = subst (λ (n : ℕ). n < 2 ^ 32) (sym kind) t.1;
      known = ap (λ (n : ℕ). named n (hash_in made.0)) kind ∙ ap (named a.0.0) hash;
      hash = ap (λ (h : Hash256). length h.0) hash ∙ u.1;
    } in
    let text : to_le_bytes w32 a.0.0 ++ b.0.0.0 ≡ entry_text made.0 =
    ap (λ (n : ℕ). to_le_bytes w32 n ++ b.0.0.0) (sym kind) ∙ ap (λ (h : Hash256). to_le_bytes w32 (kind_of made.0) ++ h.0) (sym hash) in
    subst (λ (y : Inventory × List ℕ). Takes bytes (entry_text y.0) y.1 × IsEntry y.0) (ok_is made (x, rest) b.2) (subst (λ (t : List ℕ). Takes bytes t b.0.1) text both, is)

entry_again : (x : Inventory) (rest : List ℕ) → IsEntry x → entry_at (entry_text x ++ rest) ≡ Ok (x, rest)
unfolding entry_at entry_text
entry_again x rest is =
    ap entry_at (append_assoc (to_le_bytes w32 (kind_of x)) (hash_in x).0 rest)
    ∙ rw (number_again w32 (2 ^ 32) wide32 (kind_of x) ((hash_in x).0 ++ rest) is.kind, hash_again (hash_in x) rest is.hash) (ap (λ (y : Inventory). Ok (y, rest)) is.known)

entry_long : (x : Inventory) → IsEntry x → length (entry_text x) ≡ 36
unfolding entry_text
entry_long x is = omega (arith, is.hash, length-append (to_le_bytes w32 (kind_of x)) (hash_in x).0)

pub entry_kind : IsKind Inventory entry_text entry_at IsEntry 36
entry_kind = record { takes = entry_takes; again = entry_again; long = λ x is. omega (arith, entry_long x is) }

-- ---- headers in a list

header_takes : (bytes : List ℕ) (x : Header) (rest : List ℕ) → AreBytes bytes → header_at bytes ≡ Ok (x, rest) → Takes bytes (header_text x) rest × IsHeader x
header_takes bytes x rest are e =
    let found = (header_laws_at bytes bytes (Ok x) rest refl are e).found in
    let tail : drop (length (header_text x)) bytes ≡ rest = ap (drop (length (header_text x))) found.1 ∙ drop_at (header_text x) rest (length (header_text x)) refl in
    (record { parts = found.1; rest_bytes = subst AreBytes tail (AreBytes-drop (length (header_text x)) bytes are) }, found.0)

listed_header_takes : (bytes : List ℕ) (x : Header) (rest : List ℕ) → AreBytes bytes → listed_header_at bytes ≡ Ok (x, rest) → Takes bytes (listed_header_text x) rest × IsHeader x
unfolding listed_header_at listed_header_text
listed_header_takes bytes x rest are e =
    let a = bind_ok (header_at bytes) (λ header. compact_at header.1 >>= λ count. cond (eqb count.0 0) (Ok (header.0, count.1)) (Err BadBool)) (x, rest) e in
    let b = bind_ok (compact_at a.0.1) (λ count. cond (eqb count.0 0) (Ok (a.0.0, count.1)) (Err BadBool)) (x, rest) a.2 in
    let g = taken_only (eqb b.0.0 0) BadBool (a.0.0, b.0.1) (x, rest) b.2 in
    let t = header_takes bytes a.0.0 a.0.1 are a.1 in
    let u = compact_takes a.0.1 b.0.0 b.0.1 t.0.rest_bytes b.1 in
    let none : b.0.0 ≡ 0 = eqb-true b.0.0 0 g.0 in
    let v : Takes a.0.1 (compact_text 0) b.0.1 = subst (λ (n : ℕ). Takes a.0.1 (compact_text n) b.0.1) none u.0 in
    let both = Takes-then bytes (header_text a.0.0) a.0.1 (compact_text 0) b.0.1 t.0 v in
    subst (λ (y : Header × List ℕ). Takes bytes (listed_header_text y.0) y.1 × IsHeader y.0) g.1 (both, t.1)

listed_header_again : (x : Header) (rest : List ℕ) → IsHeader x → listed_header_at (listed_header_text x ++ rest) ≡ Ok (x, rest)
unfolding listed_header_at listed_header_text
listed_header_again x rest is =
    ap listed_header_at (append_assoc (header_text x) (compact_text 0) rest)
    ∙ ap (λ (r : Read Header). r >>= λ header. compact_at header.1 >>= λ count. cond (eqb count.0 0) (Ok (header.0, count.1)) (Err BadBool)) (header_again x (compact_text 0 ++ rest) is)
    ∙ ap (λ (r : Read ℕ). r >>= λ count. cond (eqb count.0 0) (Ok (x, count.1)) (Err BadBool)) (compact_again 0 rest (omega arith))

header_long : (x : Header) → IsHeader x → length (header_text x) ≡ 80
unfolding header_text
header_long x is =
    let tail = to_le_bytes w32 x.time ++ (to_le_bytes w32 x.bits ++ to_le_bytes w32 x.nonce) in
    omega (arith, is.prev, is.root, length-append x.prev.0 (x.root.0 ++ tail), length-append x.root.0 tail)

listed_header_long : (x : Header) → IsHeader x → length (listed_header_text x) ≡ 81
unfolding listed_header_text compact_text
listed_header_long x is = omega (arith, header_long x is, length-append (header_text x) (compact_text 0))

pub listed_header_kind : IsKind Header listed_header_text listed_header_at IsHeader 81
listed_header_kind = record { takes = listed_header_takes; again = listed_header_again; long = λ x is. omega (arith, listed_header_long x is) }

-- ---- how many bytes

by_width : (a b c : Bool) (w x y z : List ℕ) → length w ≤ 9 → length x ≤ 9 → length y ≤ 9 → length z ≤ 9 → length (cond a w (cond b x (cond c y z))) ≤ 9
by_width true b c w x y z p q r s = p
by_width false true c w x y z p q r s = q
by_width false false true w x y z p q r s = r
by_width false false false w x y z p q r s = s

pub compact_most : (n : ℕ) → length (compact_text n) ≤ 9
unfolding compact_text
compact_most n =
    by_width (ltb n 253) (ltb n 65536) (ltb n 4294967296) (n ∷ []) (253 ∷ to_le_bytes w16 n) (254 ∷ to_le_bytes w32 n) (255 ∷ to_le_bytes w64 n) (omega arith) (omega arith) (omega arith) (omega arith)

items_length : {A : Type 0} (text : A → List ℕ) (Is : A → Type 0) (size : ℕ) → ((x : A) → Is x → length (text x) ≡ size) → (xs : List A) → AllByRecursion Is xs → length (flat_map text xs) ≡ length xs * size
items_length text Is size each [] are = omega arith
items_length text Is size each (x ∷ xs) are =
    omega (arith, ap length (flat_map-cons text x xs), length-append (text x) (flat_map text xs), each x are.0, items_length text Is size each xs are.1)

list_most : {A : Type 0} (text : A → List ℕ) (Is : A → Type 0) (size : ℕ) → ((x : A) → Is x → length (text x) ≡ size) → (xs : List A) → All Is xs → length (list_text text xs) ≤ 9 + length xs * size
unfolding list_text
list_most text Is size each xs are =
    omega (arith, compact_most (length xs), length-append (compact_text (length xs)) (flat_map text xs), items_length text Is size each xs (recursion_from_All Is xs are))

pub hashes_most : (xs : List Hash256) → length xs ≤ 101 → All IsHash xs → length (list_text hash_text xs) ≤ 3241
hashes_most xs few are = let m = list_most hash_text IsHash 32 (λ x is. is) xs are in omega (arith, m, few)

pub entries_most : (xs : List Inventory) → length xs ≤ 50000 → All IsEntry xs → length (list_text entry_text xs) ≤ 1800009
entries_most xs few are = let m = list_most entry_text IsEntry 36 entry_long xs are in omega (arith, m, few)

pub headers_most : (xs : List Header) → length xs ≤ 2000 → All IsHeader xs → length (list_text listed_header_text xs) ≤ 162009
headers_most xs few are = let m = list_most listed_header_text IsHeader 81 listed_header_long xs are in omega (arith, m, few)

-- a number that is exact up to the greatest of 64 bits is exact where it is small
pub exact_size : (len r : ℕ) → r ≡ min len (2 ^ 64 - 1) → len ≤ 4000000 → r ≡ len
exact_size len r e le = omega (arith, e, le)

sized : {A : Type 0} (text : A → List ℕ) (most : ℕ) (slice xs : List A) (r : ℕ) → slice ≡ xs → length (list_text text slice) ≤ most → most ≤ 4000000 → r ≡ min (length (list_text text slice)) (2 ^ 64 - 1)
    → (r ≡ length (list_text text xs)) × (r ≤ most)
sized text most slice xs r same le small is =
    let exact : r ≡ length (list_text text slice) = exact_size (length (list_text text slice)) r is (omega (arith, le, small)) in
    (exact ∙ ap (λ ys. length (list_text text ys)) same, omega (arith, exact, le))

pub entries_sized : (slice xs : List Inventory) (r : ℕ) → slice ≡ xs → length xs ≤ 50000 → r ≡ min (length (list_text entry_text slice)) (2 ^ 64 - 1) → All IsEntry slice
    → (r ≡ length (list_text entry_text xs)) × (r ≤ 1800009)
entries_sized slice xs r same few is kept =
    sized entry_text 1800009 slice xs r same (entries_most slice (subst (λ (ys : List Inventory). length ys ≤ 50000) (sym same) few) kept) (omega arith) is

pub headers_sized : (slice xs : List Header) (r : ℕ) → slice ≡ xs → length xs ≤ 2000 → r ≡ min (length (list_text listed_header_text slice)) (2 ^ 64 - 1) → All IsHeader slice
    → (r ≡ length (list_text listed_header_text xs)) × (r ≤ 162009)
headers_sized slice xs r same few is kept =
    sized listed_header_text 162009 slice xs r same (headers_most slice (subst (λ (ys : List Header). length ys ≤ 2000) (sym same) few) kept) (omega arith) is

pub hashes_sized : (slice xs : List Hash256) (r : ℕ) → slice ≡ xs → length xs ≤ 101 → r ≡ min (length (list_text hash_text slice)) (2 ^ 64 - 1) → All IsHash slice
    → (r ≡ length (list_text hash_text xs)) × (r ≤ 3241)
hashes_sized slice xs r same few is kept =
    sized hash_text 3241 slice xs r same (hashes_most slice (subst (λ (ys : List Hash256). length ys ≤ 101) (sym same) few) kept) (omega arith) is
