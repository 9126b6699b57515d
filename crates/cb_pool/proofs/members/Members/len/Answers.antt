use Rattle.std.proofs.Common.{subst}
use Rattle.std.specs.Prelude.{All}
use Rattle.cb_pool.specs.Listing.{NamesDiffer, Roomy, txs_of}
use Rattle.cb_pool.specs.Rules.{StandsAlone}
use Rattle.cb_pool.proofs.LawLemmas.{all_alone, names_differ}
use Rattle.cb_pool.proofs.Named.{pooled_of}
use Rattle.cb_pool.proofs.members.Members.len.Goals as goal

pub returns-clause-alone : goal.returns-clause-alone
returns-clause-alone c =
    subst (λ (held : Roomy). All StandsAlone (txs_of held.list)) c.self.view_is (all_alone (pooled_of c.self.inside.entries.entries) c.self.invariant.alone)

pub returns-clause-names : goal.returns-clause-names
returns-clause-names c =
    subst (λ (held : Roomy). NamesDiffer (txs_of held.list)) c.self.view_is (names_differ c.self.inside.entries.entries c.self.invariant.names c.len.ensures.unique)
