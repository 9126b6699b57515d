use Rattle.std.proofs.Common.{◌≡◌, ◌-◌, suc, arith, None, []}
use Rattle.cb_ledger.specs.declared.undo.CoinChange.{CoinChange}
use Rattle.cb_ledger.proofs.Changes.{exchange_starts, exchange_step, exchange_ends}
use Rattle.cb_ledger.proofs.connecting.exchange_all.Goals as goal

pub loop-left-init : goal.loop-left-init
loop-left-init c = exchange_starts c.args.ledger.now.unspent c.args.ledger.now.room c.args.changes.now

pub loop-left-preserved : goal.loop-left-preserved
loop-left-preserved c =
    let none : CoinChange = record { point = record { txid = record { 0 = [] }; index = 0 }; value = None } in
    let one : c.loop-left.left ≡ suc (c.loop-left.left - 1) = omega (arith, c.loop-left-test.true) in
    exchange_step c.args.ledger.now.unspent c.args.ledger.now.room c.args.changes.now c.loop-left.left (c.loop-left.left - 1) c.loop-left.ledger.unspent c.loop-left.ledger.room c.loop-left.changes none c.set.new.self.unspent c.set.new.self.room c.set.result one c.requires.once c.loop-left.invariant c.set.ensures.before c.set.ensures.after c.set.ensures.room

pub returns-clause-after : goal.returns-clause-after
returns-clause-after c =
    (exchange_ends c.args.ledger.now.unspent c.args.ledger.now.room c.args.changes.now c.loop-left.left c.loop-left.ledger.unspent c.loop-left.ledger.room c.loop-left.changes (omega (arith, c.loop-left-test.false)) c.loop-left.invariant).0
