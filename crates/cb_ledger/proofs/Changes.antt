-- Changes over the unspent outputs: what an outpoint has after them, one more, and taking them back.
use Rattle.std.proofs.Common.{◌≡◌, ℕ, zero, suc, ◌+◌, ◌<◌, ◌≤◌, ℤ, Bool, true, false, cond, List, [], ◌∷◌, ◌++◌, length, get_or, set, take, drop, Some, None, Option, Ok, refl, sym, ap, subst, ◌∙◌, arith, inl, inr, is_some, drop-cons, append_assoc}
use Rattle.std.proofs.lemmas.List.{append-nil, take_all, drop_all}
use Rattle.std.specs.Prelude.{◌≢◌, unwrap_or}
use Rattle.std.specs.List.{AllByRecursion, IsDistinct}
use Rattle.std.specs.FinMap as map
use Rattle.std.specs.Map.{lookup, keys_of}
use Rattle.std.proofs.lemmas.Bool.{cases_Bool, false≢true}
use Rattle.std.proofs.lemmas.List.{take_more, length-take}
use Rattle.cb_block.specs.declared.tx.OutPoint.{OutPoint}
use Rattle.cb_block.specs.declared.tx.Tx.{Tx}
use Rattle.cb_block.proofs.Repeats.{same, same-refl}
use Rattle.cb_ledger.specs.declared.undo.CoinChange.{CoinChange}
use Rattle.cb_ledger.specs.Unspent.{Unspent}
use Rattle.cb_ledger.specs.Spend.{spend}
use Rattle.cb_ledger.specs.Undo.{set_at, changed, changes_of, values_of, StandOnce, LeadsBack}
use Rattle.cb_ledger.proofs.Outpoints.{is_same, is_same-true, same_is, flipped, maps_same, get_insert, get_remove}

-- what stands at an outpoint, or else what was there
abbrev pub over : Option (Option ℤ) → Option ℤ → Option ℤ
over = unwrap_or

-- what the changes have at an outpoint
abbrev pub found : OutPoint → List CoinChange → Option (Option ℤ)
found q [] = None
found q (c ∷ cs) = cond (is_same q c.point) (Some c.value) (found q cs)

pub get_set_at : (u : Unspent) (k : OutPoint) (v : Option ℤ) (q : OutPoint) → map.get (set_at u k v) q ≡ cond (is_same q k) v (map.get u q)
get_set_at u k None q = get_remove u k q
get_set_at u k (Some v) q = get_insert u k v q

over_cond : (b : Bool) (v : Option ℤ) (x : Option (Option ℤ)) (y : Option ℤ) → over (cond b (Some v) x) y ≡ cond b v (over x y)
over_cond true v x y = refl
over_cond false v x y = refl

pub get_changed : (u : Unspent) (cs : List CoinChange) (q : OutPoint) → map.get (changed u cs) q ≡ over (found q cs) (map.get u q)
unfolding changed
get_changed u [] q = refl
get_changed u (c ∷ cs) q =
    get_set_at (changed u cs) c.point c.value q ∙ ap (cond (is_same q c.point) c.value) (get_changed u cs q) ∙ sym (over_cond (is_same q c.point) c.value (found q cs) (map.get u q))

-- ---- the changes that a hash map has

pub found_is : (es : List (OutPoint × Option ℤ)) (q : OutPoint) → found q (changes_of es) ≡ lookup (same q) es
found_is [] q = refl
found_is (e ∷ es) q = ap (λ b. cond b (Some e.1) (found q (changes_of es))) (sym (same_is q e.0)) ∙ ap (cond (same q e.0) (Some e.1)) (found_is es q)

pub value_is : (u : Unspent) (es : List (OutPoint × Option ℤ)) (q : OutPoint) → map.get (changed u (changes_of es)) q ≡ over (lookup (same q) es) (map.get u q)
value_is u es q = get_changed u (changes_of es) q ∙ ap (λ o. over o (map.get u q)) (found_is es q)

-- one entry more, or another
pub changed_note : (es fs : List (OutPoint × Option ℤ)) (k : OutPoint) (v : Option ℤ) → ((q : OutPoint) → lookup (same q) fs ≡ cond (same k q) (Some v) (lookup (same q) es))
    → (u : Unspent) → changed u (changes_of fs) ≡ set_at (changed u (changes_of es)) k v
changed_note es fs k v h u =
    maps_same _ _ (λ q. value_is u fs q ∙ ap (λ o. over o (map.get u q)) (h q) ∙ over_cond (same k q) v (lookup (same q) es) (map.get u q)
    ∙ ap (λ b. cond b v (over (lookup (same q) es) (map.get u q))) (flipped k q) ∙ ap (cond (is_same q k) v) (sym (value_is u es q)) ∙ sym (get_set_at (changed u (changes_of es)) k v q))

-- the same everywhere
pub changed_same : (es fs : List (OutPoint × Option ℤ)) → ((q : OutPoint) → lookup (same q) fs ≡ lookup (same q) es) → (u : Unspent) → changed u (changes_of fs) ≡ changed u (changes_of es)
changed_same es fs h u = maps_same _ _ (λ q. value_is u fs q ∙ ap (λ o. over o (map.get u q)) (h q) ∙ sym (value_is u es q))

-- ---- one change under those of a hash map

-- an outpoint that they touch: a value under them isn't seen
pub kept_under : (es : List (OutPoint × Option ℤ)) (k : OutPoint) (v : Option ℤ) → is_some (lookup (same k) es) ≡ true → (u : Unspent) → changed u (changes_of es) ≡ changed (set_at u k v) (changes_of es)
kept_under es k v there u =
    maps_same _ _ (λ q. value_is u es q ∙ hidden q ∙ ap (over (lookup (same q) es)) (sym (get_set_at u k v q)) ∙ sym (value_is (set_at u k v) es q)) where
      by : (o : Option (Option ℤ)) (x y : Option ℤ) → is_some o ≡ true → over o x ≡ over o y
      by None x y e = absurd (false≢true e)
      by (Some value) x y e = refl

      hidden : (q : OutPoint) → over (lookup (same q) es) (map.get u q) ≡ over (lookup (same q) es) (cond (is_same q k) v (map.get u q))
      hidden q =
          elim (cases_Bool (is_same q k)) [
            | inl is ↦ by (lookup (same q) es) (map.get u q) (cond (is_same q k) v (map.get u q)) (subst (λ (x : OutPoint). is_some (lookup (same x) es) ≡ true) (sym (is_same-true q k is)) there)
            | inr isnt ↦ rw isnt refl
          ]

-- another one: one entry more
pub added_under : (es fs : List (OutPoint × Option ℤ)) (k : OutPoint) (v : Option ℤ) → ((q : OutPoint) → lookup (same q) fs ≡ cond (same k q) (Some v) (lookup (same q) es)) → is_some (lookup (same k) es) ≡ false
    → (u : Unspent) → changed u (changes_of fs) ≡ changed (set_at u k v) (changes_of es)
added_under es fs k v h absent u =
    maps_same _ _ (λ q. value_is u fs q ∙ ap (λ o. over o (map.get u q)) (h q) ∙ over_cond (same k q) v (lookup (same q) es) (map.get u q) ∙ ap (λ b. cond b v (over (lookup (same q) es) (map.get u q))) (flipped k q)
    ∙ seen q ∙ ap (over (lookup (same q) es)) (sym (get_set_at u k v q)) ∙ sym (value_is (set_at u k v) es q)) where
      by : (o : Option (Option ℤ)) (x : Option ℤ) → is_some o ≡ false → x ≡ over o x
      by None x e = refl
      by (Some value) x e = absurd (false≢true (sym e))

      seen : (q : OutPoint) → cond (is_same q k) v (over (lookup (same q) es) (map.get u q)) ≡ over (lookup (same q) es) (cond (is_same q k) v (map.get u q))
      seen q =
          elim (cases_Bool (is_same q k)) [
            | inl is ↦ rw is (by (lookup (same q) es) v (subst (λ (x : OutPoint). is_some (lookup (same x) es) ≡ false) (sym (is_same-true q k is)) absent))
            | inr isnt ↦ rw isnt refl
          ]

-- a change behind others is made first
pub changed_behind : (u : Unspent) (cs : List CoinChange) (c : CoinChange) → changed u (cs ++ c ∷ []) ≡ changed (set_at u c.point c.value) cs
unfolding changed
changed_behind u [] c = refl
changed_behind u (d ∷ cs) c = ap (λ m. set_at m d.point d.value) (changed_behind u cs c)

-- ---- changes put over those of a hash map, from the last to the first

pub over_step : (first es fs : List (OutPoint × Option ℤ)) (cs : List CoinChange) (left j : ℕ) (d : CoinChange) → left ≡ suc j → j < length cs
    → ((q : OutPoint) → lookup (same q) fs ≡ cond (same (get_or cs j d).point q) (Some (get_or cs j d).value) (lookup (same q) es))
    → ((u : Unspent) → changed u (changes_of es) ≡ changed (changed u (changes_of first)) (drop left cs)) → (u : Unspent) → changed u (changes_of fs) ≡ changed (changed u (changes_of first)) (drop j cs)
unfolding changed
over_step first es fs cs left j d e lt h so_far u =
    let c = get_or cs j d in
    let drop_is : drop j cs ≡ c ∷ drop left cs = drop-cons cs j d lt ∙ ap (λ (n : ℕ). c ∷ drop n cs) (sym e) in
    changed_note es fs c.point c.value h u ∙ ap (λ m. set_at m c.point c.value) (so_far u) ∙ ap (changed (changed u (changes_of first))) (sym drop_is)

pub over_starts : (es : List (OutPoint × Option ℤ)) (cs : List CoinChange) (u : Unspent) → changed u (changes_of es) ≡ changed (changed u (changes_of es)) (drop (length cs) cs)
unfolding changed
over_starts es cs u = let none : drop (length cs) cs ≡ [] = drop_all (length cs) cs (omega arith) in rw none refl

pub over_ends : (es first : List (OutPoint × Option ℤ)) (cs : List CoinChange) (left : ℕ) → left ≡ 0
    → ((u : Unspent) → changed u (changes_of es) ≡ changed (changed u (changes_of first)) (drop left cs)) → (u : Unspent) → changed u (changes_of es) ≡ changed (changed u (changes_of first)) cs
over_ends es first cs left e so_far u = so_far u ∙ ap (λ (n : ℕ). changed (changed u (changes_of first)) (drop n cs)) e

-- ---- changes put under them, from the first to the last

pub under_step : (first es fs : List (OutPoint × Option ℤ)) (cs : List CoinChange) (i : ℕ) (d : CoinChange) → i < length cs
    → ((u : Unspent) → changed u (changes_of fs) ≡ changed (set_at u (get_or cs i d).point (get_or cs i d).value) (changes_of es))
    → ((u : Unspent) → changed u (changes_of es) ≡ changed (changed u (take i cs)) (changes_of first)) → (u : Unspent) → changed u (changes_of fs) ≡ changed (changed u (take (i + 1) cs)) (changes_of first)
under_step first es fs cs i d lt one so_far u =
    let c = get_or cs i d in
    let more : take (i + 1) cs ≡ take i cs ++ c ∷ [] = take_more cs i d lt in
    one u ∙ so_far (set_at u c.point c.value) ∙ ap (λ m. changed m (changes_of first)) (sym (changed_behind u (take i cs) c)) ∙ ap (λ (l : List CoinChange). changed (changed u l) (changes_of first)) (sym more)

pub under_starts : (es : List (OutPoint × Option ℤ)) (cs : List CoinChange) (u : Unspent) → changed u (changes_of es) ≡ changed (changed u (take 0 cs)) (changes_of es)
unfolding changed
under_starts es cs u = refl

pub under_ends : (es first : List (OutPoint × Option ℤ)) (cs : List CoinChange) (i : ℕ) → length cs ≤ i
    → ((u : Unspent) → changed u (changes_of es) ≡ changed (changed u (take i cs)) (changes_of first)) → (u : Unspent) → changed u (changes_of es) ≡ changed (changed u cs) (changes_of first)
under_ends es first cs i le so_far u = so_far u ∙ ap (λ (l : List CoinChange). changed (changed u l) (changes_of first)) (take_all i cs le)

-- ---- no changes

pub changed_none : (u : Unspent) (cs : List CoinChange) → cs ≡ [] → changed u cs ≡ u
unfolding changed
changed_none u cs e = rw e refl

pub changed_empty : (u : Unspent) (es : List (OutPoint × Option ℤ)) → length es ≡ 0 → changed u (changes_of es) ≡ u
unfolding changed
changed_empty u [] e = refl
changed_empty u (entry ∷ es) e = cc

-- ---- each outpoint once

apart_all : (k : OutPoint) (es : List (OutPoint × Option ℤ)) → AllByRecursion (λ y. same k y ≡ false) (keys_of es) → AllByRecursion (λ other. other.point ≢ k) (changes_of es)
apart_all k [] h = tt
apart_all k (e ∷ es) h =
    (λ (p : e.0 ≡ k). false≢true (sym h.0 ∙ subst (λ (x : OutPoint). same k x ≡ true) (sym p) (same-refl k)), apart_all k es h.1)

pub once_from_distinct : (es : List (OutPoint × Option ℤ)) → IsDistinct same (keys_of es) → StandOnce (changes_of es)
unfolding IsDistinct
once_from_distinct [] h = tt
once_from_distinct (e ∷ es) h = (apart_all e.0 es h.0, once_from_distinct es h.1)

found_none : (k : OutPoint) (cs : List CoinChange) → AllByRecursion (λ other. other.point ≢ k) cs → found k cs ≡ None
found_none k [] h = refl
found_none k (c ∷ cs) h =
    elim (cases_Bool (is_same k c.point)) [
      | inl is ↦ absurd (h.0 (sym (is_same-true k c.point is)))
      | inr isnt ↦ rw isnt (found_none k cs h.1)
    ]

-- none of the later ones is at the outpoint of one
once_at : (cs : List CoinChange) (j : ℕ) (d : CoinChange) → j < length cs → StandOnce cs → found (get_or cs j d).point (drop (suc j) cs) ≡ None
once_at [] j d lt h = absurd (omega arith)
once_at (c ∷ cs) zero d lt h = found_none c.point cs h.0
once_at (c ∷ cs) (suc j) d lt h = once_at cs j d (omega arith) h.1

apart_values : (u : Unspent) (k : OutPoint) (cs : List CoinChange) → AllByRecursion (λ other. other.point ≢ k) cs → AllByRecursion (λ other. other.point ≢ k) (values_of u cs)
apart_values u k [] h = tt
apart_values u k (c ∷ cs) h = (h.0, apart_values u k cs h.1)

pub once_values : (u : Unspent) (cs : List CoinChange) → StandOnce cs → StandOnce (values_of u cs)
once_values u [] h = tt
once_values u (c ∷ cs) h = (apart_values u c.point cs h.0, once_values u cs h.1)

pub length_values : (u : Unspent) (cs : List CoinChange) → length (values_of u cs) ≡ length cs
length_values u [] = refl
length_values u (c ∷ cs) = ap suc (length_values u cs)

-- what outpoints have, once all are looked at
pub values_end : (u : Unspent) (xs cs : List CoinChange) (i : ℕ) → length cs ≤ i → xs ++ values_of u (drop i cs) ≡ values_of u cs → xs ≡ values_of u cs
values_end u xs cs i le so_far =
    let none : drop i cs ≡ [] = drop_all i cs le in
    sym (append-nil xs) ∙ ap (λ (l : List CoinChange). xs ++ values_of u l) (sym none) ∙ so_far

-- ---- taking changes back

found_values : (u : Unspent) (cs : List CoinChange) (q : OutPoint) (x : Option ℤ) → over (found q (values_of u cs)) (over (found q cs) (map.get u q)) ≡ map.get u q
found_values u [] q x = refl
found_values u (c ∷ cs) q x =
    elim (cases_Bool (is_same q c.point)) [
      | inl is ↦ rw is (ap (map.get u) (sym (is_same-true q c.point is)))
      | inr isnt ↦ rw isnt (found_values u cs q x)
    ]

-- what was there leads back
pub changed_back : (u : Unspent) (cs : List CoinChange) → changed (changed u cs) (values_of u cs) ≡ u
changed_back u cs =
    maps_same _ _ (λ q. get_changed (changed u cs) (values_of u cs) q ∙ ap (over (found q (values_of u cs))) (get_changed u cs q) ∙ found_values u cs q None)

-- changes over others lead back, if what the outpoints had before is kept
pub leads_over : (u base : Unspent) (old next changes undo : List CoinChange) (txs : List Tx) → base ≡ changed u old → spend base txs ≡ Ok (changed base changes) → undo ≡ values_of base changes
    → changed u next ≡ changed (changed u old) changes → LeadsBack undo txs (changed u old) (changed u next)
leads_over u base old next changes undo txs base_is told undo_is next_is =
    let after : changed base changes ≡ changed u next = ap (λ m. changed m changes) base_is ∙ sym next_is in
    record {
      spent = ap (λ m. spend m txs) (sym base_is) ∙ told ∙ ap Ok after;
      back = ap (changed (changed u next)) undo_is ∙ ap (λ m. changed m (values_of base changes)) (sym after) ∙ changed_back base changes ∙ base_is;
    }

-- ---- exchanging from the last to the first

get_mid : {A : Type 0} (front : List A) (x : A) (back : List A) (d : A) → get_or (front ++ x ∷ back) (length front) d ≡ x
get_mid [] x back d = refl
get_mid (y ∷ front) x back d = get_mid front x back d

set_mid : {A : Type 0} (front : List A) (x : A) (back : List A) (y : A) → set (front ++ x ∷ back) (length front) y ≡ front ++ y ∷ back
set_mid [] x back y = refl
set_mid (z ∷ front) x back y = ap (λ ys. z ∷ ys) (set_mid front x back y)

-- The changes from a place on are made, and what they changed stands in their place.
pub record IsExchanged (u : Unspent) (room : ℕ) (cs : List CoinChange) (left : ℕ) (now : Unspent) (room_left : ℕ) (have : List CoinChange) : Type 0 where
  pub within : left ≤ length cs
  pub made : now ≡ changed u (drop left cs)
  pub kept : have ≡ take left cs ++ values_of u (drop left cs)
  pub room_kept : room + left ≤ room_left + length cs

pub exchange_starts : (u : Unspent) (room : ℕ) (cs : List CoinChange) → IsExchanged u room cs (length cs) u room cs
unfolding changed
exchange_starts u room cs =
    let none : drop (length cs) cs ≡ [] = drop_all (length cs) cs (omega arith) in
    record {
      within = omega arith;
      made = rw none refl;
      kept = rw none (sym (append-nil (take (length cs) cs) ∙ take_all (length cs) cs (omega arith)));
      room_kept = omega arith;
    }

pub exchange_step : (u : Unspent) (room : ℕ) (cs : List CoinChange) (left j : ℕ) (now : Unspent) (room_left : ℕ) (have : List CoinChange) (d : CoinChange) (next : Unspent) (next_room : ℕ) (had : Option ℤ)
    → left ≡ suc j → StandOnce cs → IsExchanged u room cs left now room_left have
    → had ≡ map.get now (get_or have j d).point → next ≡ set_at now (get_or have j d).point (get_or have j d).value → room_left ≤ next_room + 1
    → IsExchanged u room cs j next next_room (set have j (record { point = (get_or have j d).point; value = had }))
unfolding changed
exchange_step u room cs left j now room_left have d next next_room had e once h had_is next_is room_is =
    let c = get_or cs j d in
    let vals = values_of u (drop left cs) in
    let lt : j < length cs = omega (arith, h.within) in
    let left_is : left ≡ j + 1 = omega arith in
    let more : take left cs ≡ take j cs ++ c ∷ [] = ap (λ (n : ℕ). take n cs) left_is ∙ take_more cs j d lt in
    let have_is : have ≡ take j cs ++ c ∷ vals = h.kept ∙ ap (λ (front : List CoinChange). front ++ vals) more ∙ append_assoc (take j cs) (c ∷ []) vals in
    let place : length (take j cs) ≡ j = omega (arith, length-take j cs) in
    let item : get_or have j d ≡ c = ap (λ (l : List CoinChange). get_or l j d) have_is ∙ subst (λ (n : ℕ). get_or (take j cs ++ c ∷ vals) n d ≡ c) place (get_mid (take j cs) c vals d) in
    let drop_is : drop j cs ≡ c ∷ drop left cs = drop-cons cs j d lt ∙ ap (λ (n : ℕ). c ∷ drop n cs) (sym e) in
    let none : found c.point (drop left cs) ≡ None = ap (λ (n : ℕ). found c.point (drop n cs)) e ∙ once_at cs j d lt once in
    let before : had ≡ map.get u c.point =
    had_is ∙ ap (λ (x : CoinChange). map.get now x.point) item ∙ ap (λ (m : Unspent). map.get m c.point) h.made ∙ get_changed u (drop left cs) c.point ∙ ap (λ o. over o (map.get u c.point)) none in
    let put : CoinChange = record { point = (get_or have j d).point; value = had } in
    let put_is : put ≡ record { point = c.point; value = map.get u c.point } = ap (λ (x : CoinChange). record { point = x.point; value = had }) item ∙ ap (λ (v : Option ℤ). record { point = c.point; value = v }) before in
    let set_is : set have j put ≡ take j cs ++ put ∷ vals = ap (λ (l : List CoinChange). set l j put) have_is ∙ subst (λ (n : ℕ). set (take j cs ++ c ∷ vals) n put ≡ take j cs ++ put ∷ vals) place (set_mid (take j cs) c vals put) in
    record {
      within = omega arith;
      made = next_is ∙ ap (λ (x : CoinChange). set_at now x.point x.value) item ∙ ap (λ (m : Unspent). set_at m c.point c.value) h.made ∙ ap (changed u) (sym drop_is);
      kept = set_is ∙ ap (λ (x : CoinChange). take j cs ++ x ∷ vals) put_is ∙ ap (λ (l : List CoinChange). take j cs ++ values_of u l) (sym drop_is);
      room_kept = omega (arith, h.room_kept);
    }

pub exchange_ends : (u : Unspent) (room : ℕ) (cs : List CoinChange) (left : ℕ) (now : Unspent) (room_left : ℕ) (have : List CoinChange) → left ≡ 0 → IsExchanged u room cs left now room_left have
    → (now ≡ changed u cs) × (have ≡ values_of u cs) × (room ≤ room_left + length cs)
exchange_ends u room cs left now room_left have e h =
    let all : drop left cs ≡ cs = ap (λ (n : ℕ). drop n cs) e in
    let none : take left cs ≡ [] = ap (λ (n : ℕ). take n cs) e in (
      h.made ∙ ap (changed u) all,
      h.kept ∙ ap (λ (front : List CoinChange). front ++ values_of u (drop left cs)) none ∙ ap (values_of u) all,
      omega (arith, h.room_kept),
    )

-- ---- the changes of a hash map, one after the other

pub changes_more : (xs : List CoinChange) (e : OutPoint × Option ℤ) (rest left : List (OutPoint × Option ℤ)) (all : List CoinChange) → left ≡ e ∷ rest → xs ++ changes_of left ≡ all
    → (xs ++ record { point = e.0; value = e.1 } ∷ []) ++ changes_of rest ≡ all
changes_more xs e rest left all is h =
    let c : CoinChange = record { point = e.0; value = e.1 } in
    append_assoc xs (c ∷ []) (changes_of rest) ∙ ap (λ l. xs ++ changes_of l) (sym is) ∙ h
