use Rattle.std.proofs.Common.{◌≡◌, ◌-◌, suc, arith, None, []}
use Rattle.cb_ledger.specs.declared.undo.CoinChange.{CoinChange}
use Rattle.cb_ledger.proofs.Changes.{over_starts, over_step, over_ends}
use Rattle.cb_ledger.proofs.overlay.put_over.Goals as goal

pub loop-left-init : goal.loop-left-init
loop-left-init c = record {
  within = omega arith;
  room = c.requires;
  made = over_starts c.args.touched.now.entries c.args.changes.now;
}

pub loop-left-preserved : goal.loop-left-preserved
loop-left-preserved c =
    let none : CoinChange = record { point = record { txid = record { 0 = [] }; index = 0 }; value = None } in
    let one : c.loop-left.left ≡ suc (c.loop-left.left - 1) = omega (arith, c.loop-left-test.true) in
    let updates = rw c.unwrap.ensures at c.insert-had.ensures.updates in
    record {
      within = omega (arith, c.loop-left.invariant.within);
      room = omega (arith, c.loop-left.invariant.room, c.insert-had.ensures.spare);
      made = over_step c.args.touched.now.entries c.loop-left.touched.entries c.insert-had.new.self.entries c.args.changes.now c.loop-left.left (c.loop-left.left - 1) none one (omega (arith, c.loop-left.invariant.within)) updates.0 c.loop-left.invariant.made;
    }

pub returns : goal.returns
returns c = over_ends c.loop-left.touched.entries c.args.touched.now.entries c.args.changes.now c.loop-left.left (omega (arith, c.loop-left-test.false)) c.loop-left.invariant.made
