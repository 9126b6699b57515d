use Rattle.std.proofs.Common.{ap, sym, ◌∙◌}
use Rattle.cb_chain.specs.Best.{best, unspent_after}
use Rattle.cb_chain.specs.Entries.{Tree}
use Rattle.cb_chain.proofs.chain.Chain.ledger.Goals as goal

pub returns : goal.returns
returns c = ap (λ (tree : Tree). unspent_after tree (best tree)) (sym c.self.view_is) ∙ c.self.invariant.0.ledger
