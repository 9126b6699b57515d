use Rattle.std.proofs.Common.{◌≡◌, ◌+◌, ◌-◌, ◌<◌, ◌≤◌, ℕ, suc, List, [], ◌∷◌, ◌++◌, drop, length, map, sym, ap, ◌∙◌, arith, append_assoc, append-nil, subst}
use Rattle.std.proofs.lemmas.List.{length-map}
use Rattle.std.specs.Vec.Iter.{into_iter_items}
use Rattle.cb_compact.specs.Differences.{Rise}
use Rattle.cb_compact.specs.Forms.{places_of}
use Rattle.cb_compact.specs.Slots.{laid_out}
use Rattle.cb_compact.specs.Tables.{found_tx}
use Rattle.cb_compact.specs.declared.table.Found.{Found}
use Rattle.cb_compact.proofs.Slotting.{laid_kept, laid_none, laid_unpassed}
use Rattle.cb_compact.proofs.placing.lay_out.Goals as goal
use Rattle.cb_compact.proofs.placing.lay_out.Goals.{in-Some+in_ok-push-2, in_default}

le_next : {a b : ℕ} → a ≤ b → a ≤ b + 1
le_next few = omega (arith, few)

-- There are as many places as ids and whole transactions.
as_many : (found : List Found) (given : ℕ) → length found + given ≡ length (map found_tx found) + given
as_many found given = ap (λ n. n + given) (sym (length-map found found_tx))

-- One place less is left.
one_less : {left rest place passed all : ℕ} → left ≡ suc rest → left + (place - passed) ≡ all → passed ≤ place → rest + (place + 1 - passed) ≡ all
one_less one sum few = omega (arith, one, sum, few)

pub loop-place-preserved : goal.loop-place-preserved
loop-place-preserved c =
    let l = c.loop-place in
    let found = c.args.found.items in
    let given = c.args.prefilled.now in
    let total = length found + length given in
    let within : l.place < total = omega (arith, c.loop-place-test.true) in
    let bound = laid_unpassed total l.place l.passed given (map found_tx found) (as_many found (length given)) within l.invariant.2 l.invariant.3 c.if-is_given.ensures l.invariant.1 in
    elim c.match-next.branch [
      | in-Some+in_ok-push-2 w ↦
          let it : Found = w.in-Some.found in
          let rest = into_iter_items c.next.new.self in
          let others = map found_tx rest in
          let behind = laid_out (l.place + 1) (drop l.passed given) others in
          let rest_is : into_iter_items l.others ≡ it ∷ rest = w.in-Some.ensures.items in
          let step : laid_out l.place (drop l.passed given) (map found_tx (into_iter_items l.others)) ≡ found_tx it ∷ behind =
          ap (λ list. laid_out l.place (drop l.passed given) (map found_tx list)) rest_is ∙ laid_kept l.place total (drop l.passed given) (found_tx it) others bound.1 in
          let pushed : c.match-next.list.items ≡ l.list.items ++ found_tx it ∷ [] = ap (λ list. list.items) w.list-is ∙ w.in_ok-push-2.ensures.items ∙ ap (λ slot. l.list.items ++ slot ∷ []) w.into_tx.ensures in (
            ap (λ list. list ++ behind) pushed ∙ append_assoc l.list.items (found_tx it ∷ []) behind ∙ ap (λ list. l.list.items ++ list) (sym step) ∙ l.invariant.0,
            bound.1,
            l.invariant.2,
            le_next l.invariant.3,
            one_less (ap length rest_is) l.invariant.4 l.invariant.3,
          )
      | in_default w ↦ absurd (omega (arith, w.in_default.ensures.cases.0, l.others.rest.ok.0, l.invariant.4, bound.0, length-map found found_tx))
    ]

pub returns-clause-same : goal.returns-clause-same
returns-clause-same c =
    let l = c.loop-place in
    let found = c.args.found.items in
    let given = c.args.prefilled.now in
    let total = length found + length given in
    let last : l.place ≡ total = omega (arith, c.loop-place-test.false, l.auto.place-end) in
    let others = map found_tx (into_iter_items l.others) in
    let few : length others ≡ 0 = omega (arith, length-map (into_iter_items l.others) found_tx, l.invariant.4, l.invariant.2, l.invariant.3, last) in
    let none = laid_none l.place (drop l.passed given) others few (subst (λ n. Rise l.place n (places_of (drop l.passed given))) (sym last) l.invariant.1) in
    sym (ap (λ list. l.list.items ++ list) none ∙ append-nil l.list.items) ∙ l.invariant.0
