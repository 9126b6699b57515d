use Rattle.std.proofs.Common.{arith, ◌∙◌, None, [], get_or, sym}
use Rattle.cb_ledger.specs.declared.undo.CoinChange.{CoinChange}
use Rattle.cb_ledger.proofs.Changes.{added_under, kept_under, under_starts, under_step, under_ends}
use Rattle.cb_ledger.proofs.overlay.put_under.Goals as goal
use Rattle.cb_ledger.proofs.overlay.put_under.Goals.{then-not-contains_key, else-not-contains_key}

pub loop-change-init : goal.loop-change-init
loop-change-init c = record {
  room = omega (arith, c.requires);
  made = under_starts c.args.touched.now.entries c.args.changes.now;
}

pub loop-change-preserved : goal.loop-change-preserved
loop-change-preserved c =
    let none : CoinChange = record { point = record { txid = record { 0 = [] }; index = 0 }; value = None } in
    let i = c.loop-change.change-index in
    let item = get_or c.args.changes.now i none in
    elim c.if-not-contains_key.branch [
      | then-not-contains_key w ↦
          let updates = rw w.unwrap.ensures at w.insert-had.ensures.updates in
          rw w.touched-is (record {
            room = omega (arith, c.loop-change.invariant.room, w.insert-had.ensures.spare);
            made = under_step c.args.touched.now.entries c.loop-change.touched.entries w.insert-had.new.self.entries c.args.changes.now i none c.loop-change-test.true
                (added_under c.loop-change.touched.entries w.insert-had.new.self.entries item.point item.value updates.0 (sym c.contains_key.ensures ∙ w.if-not-contains_key.true)) c.loop-change.invariant.made;
          })
      | else-not-contains_key w ↦
          rw w.touched-is (record {
            room = omega (arith, c.loop-change.invariant.room);
            made = under_step c.args.touched.now.entries c.loop-change.touched.entries c.loop-change.touched.entries c.args.changes.now i none c.loop-change-test.true
                (kept_under c.loop-change.touched.entries item.point item.value (sym c.contains_key.ensures ∙ w.if-not-contains_key.false)) c.loop-change.invariant.made;
          })
    ]

pub returns : goal.returns
returns c = under_ends c.loop-change.touched.entries c.args.touched.now.entries c.args.changes.now c.loop-change.change-index c.loop-change-test.false c.loop-change.invariant.made
