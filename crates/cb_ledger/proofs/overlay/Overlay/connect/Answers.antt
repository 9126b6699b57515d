use Rattle.cb_ledger.proofs.Changes.{leads_over}
use Rattle.cb_ledger.proofs.overlay.Overlay.connect.Goals as goal

pub returns-clause-undo : goal.returns-clause-undo
returns-clause-undo c =
    let u = c.args.ledger.now.unspent in
    leads_over u c.new-base.result c.args.self.now c.take_back.new.self c.in_ok-changes.changes c.in_ok-undo.undo c.args.block.now.txs c.new-base.ensures c.in_ok-changes.ensures.told c.in_ok-undo.ensures.same (c.in_ok-take_back.ensures.ok u)
