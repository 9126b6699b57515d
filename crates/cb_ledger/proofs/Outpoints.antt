-- Maps under outpoints: what a hash map has at each outpoint, as a finite map.
use Rattle.std.proofs.Common.{◌≡◌, ℕ, Bool, true, false, cond, List, [], ◌∷◌, length, Some, None, is_some, refl, sym, ap, subst, ◌∙◌, inl, inr}
use Rattle.std.specs.Cmp.{IsTotalOrder, eq_by_cmp_equiv, nat_cmp_total, tied_itself}
use Rattle.std.specs.Cmp.Lexicographic.{slice_cmp, nat_list_cmp_total}
use Rattle.std.specs.FinMap.{FinMap, empty, from_entries, find, get, insert, remove, get-empty, get-from_entries, get-insert, get-remove, same_map}
use Rattle.std.specs.Map.{lookup}
use Rattle.std.specs.Ordering.{nat_cmp, is_eq, eq_by_cmp}
use Rattle.std.specs.declared.cmp.Ordering.{Ordering}
use Rattle.std.specs.declared.cmp.Ordering.TheVariants.{Less, Equal, Greater}
use Rattle.std.proofs.lemmas.Bool.{cases_Bool, false≢true}
use Rattle.std.proofs.lemmas.Cmp.{on_total, then_total}
use Rattle.std.proofs.lemmas.Map.Lookups.{CmpEqualImpliesEq, exact_pairs, exact_unsigned, exact_bytes}
use Rattle.cb_block.specs.declared.tx.OutPoint.{OutPoint}
use Rattle.cb_block.proofs.Repeats.{same, same-true, same-refl}
use Rattle.cb_ledger.specs.Unspent.{outpoint_cmp}

pub total_order : IsTotalOrder outpoint_cmp
total_order = then_total (on_total (λ (p : OutPoint). p.txid.0) nat_list_cmp_total) (on_total (λ (p : OutPoint). p.index) nat_cmp_total)

-- outpoints that compare alike are one
pub exact : CmpEqualImpliesEq outpoint_cmp
exact a b h =
    ap (λ (p : List ℕ × ℕ). record { txid = record { 0 = p.0 }; index = p.1 }) (exact_pairs (slice_cmp nat_cmp) nat_cmp exact_bytes exact_unsigned (a.txid.0, a.index) (b.txid.0, b.index) h)

equal_from : (r : Ordering) → is_eq r ≡ true → r ≡ Equal
equal_from Less e = absurd (false≢true e)
equal_from Equal e = refl
equal_from Greater e = absurd (false≢true e)

-- the order's test for one outpoint
abbrev pub is_same : OutPoint → OutPoint → Bool
is_same = eq_by_cmp outpoint_cmp

pub is_same-true : (a b : OutPoint) → is_same a b ≡ true → a ≡ b
is_same-true a b e = exact a b (equal_from (outpoint_cmp a b) e)

pub is_same-refl : (a : OutPoint) → is_same a a ≡ true
is_same-refl a = ap is_eq (tied_itself total_order a)

pub is_same-symm : (a b : OutPoint) → is_same a b ≡ is_same b a
is_same-symm a b = (eq_by_cmp_equiv total_order).symm a b

-- `==` of the program says the same
pub same_is : (a b : OutPoint) → same a b ≡ is_same a b
same_is a b =
    elim (cases_Bool (same a b)) [
      | inl is ↦ is ∙ sym (subst (λ (x : OutPoint). is_same a x ≡ true) (same-true a b is) (is_same-refl a))
      | inr isnt ↦
          elim (cases_Bool (is_same a b)) [
            | inl equal ↦ absurd (false≢true (sym isnt ∙ subst (λ (x : OutPoint). same a x ≡ true) (is_same-true a b equal) (same-refl a)))
            | inr differs ↦ isnt ∙ sym differs
          ]
    ]

pub flipped : (k q : OutPoint) → same k q ≡ is_same q k
flipped k q = same_is k q ∙ is_same-symm k q

module _ {X : Type 0} where
  pub find_is : (es : List (OutPoint × X)) (q : OutPoint) → lookup (same q) es ≡ find outpoint_cmp q es
  find_is [] q = refl
  find_is (e ∷ es) q = ap (λ b. cond b (Some e.1) (lookup (same q) es)) (same_is q e.0) ∙ ap (cond (is_same q e.0) (Some e.1)) (find_is es q)

  -- what the map of the entries has
  pub get_is : (es : List (OutPoint × X)) (q : OutPoint) → get (from_entries {R = outpoint_cmp} es) q ≡ lookup (same q) es
  get_is es q = get-from_entries total_order es q ∙ sym (find_is es q)

  -- two maps that have the same everywhere are one
  pub maps_same : (m n : FinMap outpoint_cmp X) → ((q : OutPoint) → get m q ≡ get n q) → m ≡ n
  maps_same m n h = same_map total_order exact m n h

  pub get_insert : (m : FinMap outpoint_cmp X) (k : OutPoint) (v : X) (q : OutPoint) → get (insert m k v) q ≡ cond (is_same q k) (Some v) (get m q)
  get_insert m k v q = get-insert total_order m k v q

  pub get_remove : (m : FinMap outpoint_cmp X) (k q : OutPoint) → get (remove m k) q ≡ cond (is_same q k) None (get m q)
  get_remove m k q = get-remove total_order m k q

  -- entries that have the same everywhere
  pub entries_same : (es fs : List (OutPoint × X)) → ((q : OutPoint) → lookup (same q) fs ≡ lookup (same q) es) → from_entries {R = outpoint_cmp} fs ≡ from_entries es
  entries_same es fs h = maps_same _ _ (λ q. get_is fs q ∙ h q ∙ sym (get_is es q))

  -- entries that differ at one outpoint, which has a value
  pub entries_insert : (es fs : List (OutPoint × X)) (k : OutPoint) (v : X) → ((q : OutPoint) → lookup (same q) fs ≡ cond (same k q) (Some v) (lookup (same q) es)) → from_entries {R = outpoint_cmp} fs ≡ insert (from_entries es) k v
  entries_insert es fs k v h =
      maps_same _ _ (λ q. get_is fs q ∙ h q ∙ ap (λ b. cond b (Some v) (lookup (same q) es)) (flipped k q) ∙ ap (cond (is_same q k) (Some v)) (sym (get_is es q)) ∙ sym (get_insert (from_entries es) k v q))

  -- or none
  pub entries_remove : (es fs : List (OutPoint × X)) (k : OutPoint) → ((q : OutPoint) → lookup (same q) fs ≡ cond (same k q) None (lookup (same q) es)) → from_entries {R = outpoint_cmp} fs ≡ remove (from_entries es) k
  entries_remove es fs k h =
      maps_same _ _ (λ q. get_is fs q ∙ h q ∙ ap (λ b. cond b None (lookup (same q) es)) (flipped k q) ∙ ap (cond (is_same q k) None) (sym (get_is es q)) ∙ sym (get_remove (from_entries es) k q))

  -- an entry is something
  pub entries_none : (es : List (OutPoint × X)) → from_entries {R = outpoint_cmp} es ≡ empty → length es ≡ 0
  entries_none [] e = refl
  entries_none (entry ∷ es) e =
      let here : get (from_entries {R = outpoint_cmp} (entry ∷ es)) entry.0 ≡ Some entry.1 =
      get_insert (from_entries es) entry.0 entry.1 entry.0 ∙ ap (λ b. cond b (Some entry.1) (get (from_entries {R = outpoint_cmp} es) entry.0)) (is_same-refl entry.0)
      in
      let gone : Some entry.1 ≡ None = sym here ∙ ap (λ (m : FinMap outpoint_cmp X). get m entry.0) e ∙ get-empty outpoint_cmp entry.0 in
      absurd (let z : true ≡ false = ap is_some gone in false≢true (sym z))
