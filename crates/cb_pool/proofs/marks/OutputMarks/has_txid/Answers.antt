use Rattle.std.proofs.Common.{◌≡◌, ◌∙◌, None, sym, subst}
use Rattle.cb_pool.specs.Staying.{Marking, mark_at}
use Rattle.cb_pool.proofs.Marking.{unnamed}
use Rattle.cb_pool.proofs.marks.OutputMarks.has_txid.Goals as goal

pub returns : goal.returns
returns c = λ isnt index.
    subst (λ (m : Marking). mark_at m (record { txid = c.args.txid.now; index = index }) ≡ None) c.self.view_is
    (unnamed c.self.inside.points.entries c.self.inside.txids.keys c.args.txid.now index c.self.invariant (sym c.contains.ensures ∙ isnt))
