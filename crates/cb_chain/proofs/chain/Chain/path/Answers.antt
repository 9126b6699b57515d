use Rattle.std.proofs.Common.{sym, ◌∙◌}
use Rattle.cb_chain.proofs.Heights.{path_none, fork_low}
use Rattle.cb_chain.proofs.chain.Chain.path.Goals as goal

pub returns-in_default-clause-exact : goal.returns-in_default-clause-exact
returns-in_default-clause-exact c =
    path_none c.self.inside.tree.block_indexes c.args.self.now c.args.from.now c.new.result.items c.self.view_is c.in_default.ensures.place c.new.ensures.items

pub headers_from-requires-clause-height : goal.headers_from-requires-clause-height
headers_from-requires-clause-height c =
    fork_low c.self.inside.tree.block_indexes c.as_slice-2.result.now c.args.from.now c.fork_of-fork.result c.place.ensures.tree (c.as_slice-2.ensures.value ∙ c.self.invariant.0.places)
    (c.fork_of-fork.ensures c.args.from.now (sym c.in-Some.ensures.place))
