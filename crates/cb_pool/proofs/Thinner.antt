-- A pool's transactions and what they change, once some are taken out.
use Rattle.std.proofs.Common.{◌≡◌, ℕ, ◌<◌, ◌≤◌, ◌⊎◌, ◌||◌, ℤ, pos, Bool, true, false, cond, List, [], ◌∷◌, ◌++◌, length, None, Option, Some, is_some, refl, sym, ap, subst, ◌∙◌, arith, inl, inr, append_assoc}
use Rattle.std.specs.Prelude.{◌≢◌, filter, not, Result, Ok, Err, IsOk, OnErr}
use Rattle.std.specs.FinMap as finite
use Rattle.std.specs.List.{AllByRecursion, list_any}
use Rattle.std.specs.Map.{keys_of, lookup}
use Rattle.std.proofs.lemmas.Bool.{cases_Bool, false≢true}
use Rattle.std.proofs.lemmas.List.{append-nil}
use Rattle.cb_base.specs.declared.hash.Hash256.{Hash256}
use Rattle.cb_block.specs.declared.tx.OutPoint.{OutPoint}
use Rattle.cb_block.specs.declared.tx.Tx.{Tx}
use Rattle.cb_block.proofs.Repeats.{same-refl, same-true}
use Rattle.cb_ledger.specs.Undo.{changed, changes_of}
use Rattle.cb_ledger.specs.Unspent.{Unspent, outpoint_cmp}
use Rattle.cb_ledger.proofs.Changes.{over, value_is}
use Rattle.cb_ledger.proofs.Outpoints.{maps_same}
use Rattle.cb_pool.specs.declared.marks.OutputMark.{OutputMark}
use Rattle.cb_pool.specs.declared.members.Pooled.{Pooled}
use Rattle.cb_pool.specs.Leaving.{AreMembers, IsChanged, after_txs}
use Rattle.cb_pool.specs.Listing.{AreNumbered, Differ, txs_of}
use Rattle.cb_pool.specs.Rules.{StandsAlone}
use Rattle.cb_block.specs.Txid.{txid_of}
use Rattle.cb_pool.specs.Staying.{Agree, Covers, Marking, is_gone, mark_at, same_point, staying}
use Rattle.cb_pool.specs.Touching.{IsTouched}
use Rattle.cb_pool.proofs.Named.{AreNamed, pooled_of}
use Rattle.cb_pool.proofs.Thinned.{stay_short}
use Rattle.cb_pool.proofs.Untouched.{changed_at, insert_here, kept_at, kept_behind, untouched}

-- ---- the list

abbrev pub taken_out : List Hash256 → List (Hash256 × Pooled) → List (Hash256 × Pooled)
taken_out gone entries = filter (λ (entry : Hash256 × Pooled). not (is_gone gone entry.0)) entries

pub pooled_out : (gone : List Hash256) (entries : List (Hash256 × Pooled)) → AreNamed entries → pooled_of (taken_out gone entries) ≡ staying gone (pooled_of entries)
pooled_out gone [] names = refl
pooled_out gone (entry ∷ entries) names =
    elim (cases_Bool (is_gone gone entry.0)) [
      | inl is ↦ let there : is_gone gone (txid_of entry.1.tx) ≡ true = ap (is_gone gone) (sym names.0) ∙ is in rw (is, there) (pooled_out gone entries names.1)
      | inr isnt ↦
          let there : is_gone gone (txid_of entry.1.tx) ≡ false = ap (is_gone gone) (sym names.0) ∙ isnt in
          rw (isnt, there) (ap (λ (l : List Pooled). entry.1 ∷ l) (pooled_out gone entries names.1))
    ]

names_out : (gone : List Hash256) (entries : List (Hash256 × Pooled)) → AreNamed entries → AreNamed (taken_out gone entries)
names_out gone [] names = tt
names_out gone (entry ∷ entries) names =
    elim (cases_Bool (is_gone gone entry.0)) [
      | inl is ↦ rw is (names_out gone entries names.1)
      | inr isnt ↦ rw isnt (names.0, names_out gone entries names.1)
    ]

all_out : (P : Pooled → Type 0) (gone : List Hash256) (list : List Pooled) → AllByRecursion P list → AllByRecursion P (staying gone list)
all_out P gone [] all = tt
all_out P gone (first ∷ list) all =
    elim (cases_Bool (is_gone gone (txid_of first.tx))) [
      | inl is ↦ rw is (all_out P gone list all.1)
      | inr isnt ↦ rw isnt (all.0, all_out P gone list all.1)
    ]

differ_out : (gone : List Hash256) (list : List Pooled) → Differ list → Differ (staying gone list)
differ_out gone [] differ = tt
differ_out gone (first ∷ list) differ =
    elim (cases_Bool (is_gone gone (txid_of first.tx))) [
      | inl is ↦ rw is (differ_out gone list differ.1)
      | inr isnt ↦ rw isnt (all_out (λ (other : Pooled). other.number ≢ first.number) gone list differ.0, differ_out gone list differ.1)
    ]

pub numbers_out : (gone : List Hash256) (list : List Pooled) (next : ℕ) → AreNumbered list next → AreNumbered (staying gone list) next
numbers_out gone list next numbers = λ below. let both = numbers below in (all_out (λ (pooled : Pooled). pooled.number < next) gone list both.0, differ_out gone list both.1)

touched_out : (gone : List Hash256) (list : List Pooled) (q : OutPoint) → IsTouched (txs_of (staying gone list)) q → IsTouched (txs_of list) q
touched_out gone [] q touched = touched
touched_out gone (first ∷ list) q touched =
    elim (cases_Bool (is_gone gone (txid_of first.tx))) [
      | inl is ↦ let later : IsTouched (txs_of (staying gone list)) q = rw is at touched in inr (touched_out gone list q later)
      | inr isnt ↦
          let either : IsTouched (first.tx ∷ txs_of (staying gone list)) q = rw isnt at touched in
          elim either [
            | inl here ↦ inl here
            | inr later ↦ inr (touched_out gone list q later)
          ]
    ]

-- ---- the changes

-- what those that stay change at an output with a mark, the list changes too
pub held_from : (marks : Marking) (coins changes : List (OutPoint × Option ℤ)) (gone : List Hash256) (list : List Pooled) → ((u : Unspent) → changed u (changes_of coins) ≡ after_txs u (txs_of list))
    → Covers marks changes (txs_of (staying gone list)) → (q : OutPoint) → is_some (mark_at marks q) ≡ true → is_some (lookup (same_point q) changes) ≡ true → is_some (lookup (same_point q) coins) ≡ true
held_from marks coins changes gone list after covers q marked there =
    elim (cases_Bool (is_some (lookup (same_point q) coins))) [
      | inl is ↦ is
      | inr isnt ↦
          let other : ¬ IsTouched (txs_of list) q = untouched q (txs_of list) (λ u. ap (λ (m : Unspent). finite.get m q) (sym (after u)) ∙ kept_at coins q isnt u) in
          let seen : IsChanged changes q = changed_at changes q there in
          let stays : (u : Unspent) → finite.get u q ≡ seen.0 = λ u. sym (kept_behind q u (txs_of (staying gone list)) (λ touched. other (touched_out gone list q touched))) ∙ sym (covers u q marked) ∙ seen.1 u in
          let bare : Unspent = finite.empty in
          let one : Unspent = finite.insert bare q (pos 0) in
          let none : finite.get bare q ≡ None = finite.get-empty outpoint_cmp q in
          let some : finite.get one q ≡ Some (pos 0) = insert_here q bare q (pos 0) refl in
          let both : None ≡ Some (pos 0) = sym none ∙ stays bare ∙ sym (stays one) ∙ some in
          absurd (let nothing : None ≡ Some (pos 0) = both in cc)
    ]

pub members_out : (entries next : List (Hash256 × Pooled)) (coins others changes : List (OutPoint × Option ℤ)) (marks : Marking) (gone : List Hash256) → AreMembers entries (pooled_of entries) coins → next ≡ taken_out gone entries
    → Agree marks (txs_of (pooled_of entries)) (txs_of (staying gone (pooled_of entries))) → Covers marks changes (txs_of (staying gone (pooled_of entries)))
    → ((q : OutPoint) → lookup (same_point q) others ≡ cond (is_some (mark_at marks q)) (lookup (same_point q) changes) (lookup (same_point q) coins)) → AreMembers next (pooled_of next) others
members_out entries next coins others changes marks gone members next_is agree covers put =
    let list = pooled_of entries in
    let kept = staying gone list in
    let left : pooled_of (taken_out gone entries) ≡ kept = pooled_out gone entries members.names in
    let at : (u : Unspent) (q : OutPoint) → over (lookup (same_point q) others) (finite.get u q) ≡ finite.get (after_txs u (txs_of kept)) q = λ u q.
    elim (cases_Bool (is_some (mark_at marks q))) [
      | inl is ↦
          let there : lookup (same_point q) others ≡ lookup (same_point q) changes = put q ∙ rw is refl in
          ap (λ (o : Option (Option ℤ)). over o (finite.get u q)) there ∙ sym (value_is u changes q) ∙ covers u q is
      | inr isnt ↦
          let there : lookup (same_point q) others ≡ lookup (same_point q) coins = put q ∙ rw isnt refl in
          ap (λ (o : Option (Option ℤ)). over o (finite.get u q)) there ∙ sym (value_is u coins q) ∙ ap (λ (m : Unspent). finite.get m q) (members.after u) ∙ agree u q (nothing (mark_at marks q) isnt)
    ] in
    rw (next_is, left) (record {
      names = names_out gone entries members.names;
      alone = all_out (λ (pooled : Pooled). StandsAlone pooled.tx) gone list members.alone;
      few = omega (arith, members.few, stay_short gone list);
      after = λ u. maps_same (changed u (changes_of others)) (after_txs u (txs_of kept)) (λ q. value_is u others q ∙ at u q);
    })
  where
    nothing : (m : Option OutputMark) → is_some m ≡ false → m ≡ None
    nothing None e = refl
    nothing (Some mark) e = absurd (false≢true (sym e))

-- ---- changes put in key by key

abbrev pub is_done : List OutPoint → OutPoint → Bool
is_done done q = list_any (same_point q) done

done_more : (done : List OutPoint) (k q : OutPoint) → is_done (done ++ k ∷ []) q ≡ cond (same_point q k) true (is_done done q)
done_more [] k q =
    elim (cases_Bool (same_point q k)) [
      | inl is ↦ rw is refl
      | inr isnt ↦ rw isnt refl
    ]
done_more (first ∷ done) k q =
    elim (cases_Bool (same_point q first)) [
      | inl is ↦ rw is (elim (cases_Bool (same_point q k)) [ inl here ↦ rw here refl | inr not_here ↦ rw not_here refl ])
      | inr isnt ↦ rw isnt (done_more done k q)
    ]

pub done_all : (marks : Marking) (q : OutPoint) → is_done (keys_of marks) q ≡ is_some (mark_at marks q)
done_all [] q = refl
done_all (entry ∷ marks) q =
    elim (cases_Bool (same_point q entry.0)) [
      | inl is ↦ rw is refl
      | inr isnt ↦ rw isnt (done_all marks q)
    ]

-- of the marks' outputs `done` have what the changes have there
pub record Putting (marks : Marking) (old now changes : List (OutPoint × Option ℤ)) (rest : List OutPoint) : Type 0 where
  pub done : List OutPoint
  pub whole : done ++ rest ≡ keys_of marks
  pub put : (q : OutPoint) → lookup (same_point q) now ≡ cond (is_done done q) (lookup (same_point q) changes) (lookup (same_point q) old)

pub putting_none : (marks : Marking) (old changes : List (OutPoint × Option ℤ)) → Putting marks old old changes (keys_of marks)
putting_none marks old changes = record { done = []; whole = refl; put = λ q. refl }

other_way : (k q : OutPoint) → same_point k q ≡ false → same_point q k ≡ false
other_way k q isnt =
    elim (cases_Bool (same_point q k)) [
      | inl is ↦ absurd (false≢true (sym isnt ∙ subst (λ (p : OutPoint). same_point k p ≡ true) (sym (same-true q k is)) (same-refl k)))
      | inr not_so ↦ not_so
    ]

pub putting_more : (marks : Marking) (old now next changes : List (OutPoint × Option ℤ)) (k : OutPoint) (rest : List OutPoint) (value : Option (Option ℤ)) → Putting marks old now changes (k ∷ rest) → lookup (same_point k) changes ≡ value
    → ((q : OutPoint) → lookup (same_point q) next ≡ cond (same_point k q) value (lookup (same_point q) now)) → Putting marks old next changes rest
putting_more marks old now next changes k rest value so_far has updates = record {
  done = so_far.done ++ k ∷ [];
  whole = append_assoc so_far.done (k ∷ []) rest ∙ so_far.whole;
  put = λ q.
      elim (cases_Bool (same_point k q)) [
        | inl is ↦
            let e : k ≡ q = same-true k q is in
            let back : same_point q k ≡ true = subst (λ (p : OutPoint). same_point p k ≡ true) e (same-refl k) in
            let in_it : is_done (so_far.done ++ k ∷ []) q ≡ true = done_more so_far.done k q ∙ rw back refl in
            let here : lookup (same_point q) next ≡ lookup (same_point q) changes = updates q ∙ rw is (sym has ∙ ap (λ (p : OutPoint). lookup (same_point p) changes) e) in
            rw in_it here
        | inr isnt ↦
            let back : same_point q k ≡ false = other_way k q isnt in
            let as_before : is_done (so_far.done ++ k ∷ []) q ≡ is_done so_far.done q = done_more so_far.done k q ∙ rw back refl in
            let there : lookup (same_point q) next ≡ lookup (same_point q) now = updates q ∙ rw isnt refl in
            rw as_before (there ∙ so_far.put q)
      ];
}

done_among : (done rest : List OutPoint) (k : OutPoint) → is_done (done ++ k ∷ rest) k ≡ true
done_among [] rest k = rw (same-refl k) refl
done_among (first ∷ done) rest k =
    elim (cases_Bool (same_point k first)) [
      | inl is ↦ rw is refl
      | inr isnt ↦ rw isnt (done_among done rest k)
    ]

-- the next output has something there already
pub put_there : (marks : Marking) (old now changes : List (OutPoint × Option ℤ)) (k : OutPoint) (rest : List OutPoint) → Putting marks old now changes (k ∷ rest)
    → ((q : OutPoint) → is_some (mark_at marks q) ≡ true → is_some (lookup (same_point q) changes) ≡ true → is_some (lookup (same_point q) old) ≡ true) → is_some (lookup (same_point k) changes) ≡ true
    → is_some (lookup (same_point k) now) ≡ true
put_there marks old now changes k rest so_far held some =
    elim (cases_Bool (is_done so_far.done k)) [
      | inl is ↦ let here : lookup (same_point k) now ≡ lookup (same_point k) changes = so_far.put k ∙ rw is refl in ap is_some here ∙ some
      | inr isnt ↦
          let there : lookup (same_point k) now ≡ lookup (same_point k) old = so_far.put k ∙ rw isnt refl in
          let marked : is_some (mark_at marks k) ≡ true = sym (done_all marks k) ∙ ap (λ (l : List OutPoint). is_done l k) (sym so_far.whole) ∙ done_among so_far.done rest k in
          ap is_some there ∙ held k marked some
    ]

pub put_all : (marks : Marking) (old now changes : List (OutPoint × Option ℤ)) → Putting marks old now changes [] → (q : OutPoint) → lookup (same_point q) now ≡ cond (is_some (mark_at marks q)) (lookup (same_point q) changes) (lookup (same_point q) old)
put_all marks old now changes so_far q =
    let all : so_far.done ≡ keys_of marks = sym (append-nil so_far.done) ∙ so_far.whole in
    let is : is_done so_far.done q ≡ is_some (mark_at marks q) = ap (λ (l : List OutPoint). is_done l q) all ∙ done_all marks q in
    so_far.put q ∙ ap (λ (b : Bool). cond b (lookup (same_point q) changes) (lookup (same_point q) old)) is

-- what can fail for a new key alone doesn't fail
pub ok_there : {A B : Type 0} (r : Result A B) (found : Option (Option ℤ)) → OnErr r (found ≡ None) → is_some found ≡ true → IsOk r
ok_there (Ok x) found h some = refl
ok_there (Err y) found h some = absurd (false≢true (ap is_some (sym h) ∙ some))
