-- The numbers of a list's transactions: one more behind the others, one less.
use Rattle.std.proofs.Common.{◌≡◌, ◌≤◌, ℕ, ◌+◌, ◌<◌, List, [], ◌∷◌, ◌++◌, cond, map, refl, sym, ap, ◌∙◌, subst, arith, append_assoc}
use Rattle.std.proofs.lemmas.Bool.{lt-leb}
use Rattle.std.proofs.lemmas.List.{append-nil}
use Rattle.std.specs.Prelude.{◌≢◌, filter, nat_le}
use Rattle.std.specs.List.{AllByRecursion}
use Rattle.cb_block.specs.declared.tx.Tx.{Tx}
use Rattle.cb_pool.specs.declared.members.Pooled.{Pooled}
use Rattle.cb_pool.specs.Listing.{AreNumbered, Differ, number_after, since_of}
use Rattle.cb_block.specs.Txid.{txid_of}

module _ {X : Type 0} where
  all_weaker : (P Q : X → Type 0) (xs : List X) → ((x : X) → P x → Q x) → AllByRecursion P xs → AllByRecursion Q xs
  all_weaker P Q [] f all = tt
  all_weaker P Q (x ∷ xs) f all = (f x all.0, all_weaker P Q xs f all.1)

  all_with : (P : X → Type 0) (xs ys : List X) (x : X) → AllByRecursion P (xs ++ ys) → P x → AllByRecursion P ((xs ++ x ∷ []) ++ ys)
  all_with P [] ys x all one = (one, all)
  all_with P (y ∷ xs) ys x all one = (all.0, all_with P xs ys x all.1 one)

  all_without : (P : X → Type 0) (xs ys : List X) (x : X) → AllByRecursion P (xs ++ x ∷ ys) → AllByRecursion P (xs ++ ys)
  all_without P [] ys x all = all.1
  all_without P (y ∷ xs) ys x all = (all.0, all_without P xs ys x all.1)

differ_with : (xs ys : List Pooled) (pooled : Pooled) → Differ (xs ++ ys) → AllByRecursion (λ (other : Pooled). other.number ≢ pooled.number) (xs ++ ys) → Differ ((xs ++ pooled ∷ []) ++ ys)
differ_with [] ys pooled differ others = (others, differ)
differ_with (first ∷ xs) ys pooled differ others =
    (all_with (λ (other : Pooled). other.number ≢ first.number) xs ys pooled differ.0 (λ e. others.0 (sym e)), differ_with xs ys pooled differ.1 others.1)

differ_without : (xs ys : List Pooled) (pooled : Pooled) → Differ (xs ++ pooled ∷ ys) → Differ (xs ++ ys)
differ_without [] ys pooled differ = differ.1
differ_without (first ∷ xs) ys pooled differ =
    (all_without (λ (other : Pooled). other.number ≢ first.number) xs ys pooled differ.0, differ_without xs ys pooled differ.1)

-- one more takes the next number, and stands before others
pub numbered_more : (xs ys : List Pooled) (tx : Tx) (next : ℕ) → AreNumbered (xs ++ ys) next → AreNumbered ((xs ++ record { tx = tx; number = next } ∷ []) ++ ys) (number_after next)
numbered_more xs ys tx next h = λ lt.
    let pooled : Pooled = record { tx = tx; number = next } in
    let before : next < 18446744073709551615 = omega (arith, lt) in
    let after : number_after next ≡ next + 1 = omega (arith, lt) in
    let old = h before in (
      subst (λ (n : ℕ). AllByRecursion (λ (one : Pooled). one.number < n) ((xs ++ pooled ∷ []) ++ ys)) (sym after)
          (all_with (λ (one : Pooled). one.number < next + 1) xs ys pooled (all_weaker (λ (one : Pooled). one.number < next) (λ (one : Pooled). one.number < next + 1) (xs ++ ys) (λ x below. omega (arith, below)) old.0) (omega arith)),
      differ_with xs ys pooled old.1 (all_weaker (λ (one : Pooled). one.number < next) (λ (one : Pooled). one.number ≢ next) (xs ++ ys) (λ x below e. absurd (omega (arith, below, e))) old.0),
    )

pub numbered_last : (xs : List Pooled) (tx : Tx) (next : ℕ) → AreNumbered xs next → AreNumbered (xs ++ record { tx = tx; number = next } ∷ []) (number_after next)
numbered_last xs tx next h =
    let one : List Pooled = xs ++ record { tx = tx; number = next } ∷ [] in
    subst (λ (l : List Pooled). AreNumbered l (number_after next)) (append-nil one)
    (numbered_more xs [] tx next (subst (λ (l : List Pooled). AreNumbered l next) (sym (append-nil xs)) h))

pub numbered_less : (xs ys : List Pooled) (pooled : Pooled) (next : ℕ) → AreNumbered (xs ++ pooled ∷ ys) next → AreNumbered (xs ++ ys) next
numbered_less xs ys pooled next h = λ lt.
    let old = h lt in
    (all_without (λ (one : Pooled). one.number < next) xs ys pooled old.0, differ_without xs ys pooled old.1)

-- one that comes next is the last of those before the rest
pub numbered_moved : (xs ys : List Pooled) (pooled : Pooled) (next : ℕ) → AreNumbered (xs ++ pooled ∷ ys) next → AreNumbered ((xs ++ pooled ∷ []) ++ ys) next
numbered_moved xs ys pooled next h = subst (λ (l : List Pooled). AreNumbered l next) (sym (append_assoc xs (pooled ∷ []) ys)) h

-- Where the numbers haven't run out, nothing has the next one or one behind it.
pub none_since : (list : List Pooled) (next number : ℕ) → AreNumbered list next → next < 18446744073709551615 → next ≤ number → since_of list number ≡ []
none_since list next number numbered low past = go list (numbered low).0 where
  go : (l : List Pooled) → AllByRecursion (λ (pooled : Pooled). pooled.number < next) l → since_of l number ≡ []
  go [] all = refl
  go (pooled ∷ l) all =
      let below : pooled.number < number = omega (arith, all.0, past) in
      let rest = filter (λ (it : Pooled). nat_le number it.number) l in
      ap (λ b. map (λ (it : Pooled). txid_of it.tx) (cond b (pooled ∷ rest) rest)) (lt-leb number pooled.number below) ∙ go l all.1
