use Rattle.std.proofs.Common.{List, subst}
use Rattle.std.specs.Prelude.{All, IsOk}
use Rattle.cb_block.specs.declared.tx.Tx.{Tx}
use Rattle.cb_ledger.specs.Spend.{spend}
use Rattle.cb_pool.specs.Rules.{StandsAlone}
use Rattle.cb_pool.proofs.LawLemmas.{alone_in, spends_what_is_there}
use Rattle.cb_pool.proofs.laws.each_spends_what_is_there.Goals as goal

pub returns : goal.returns
returns c = λ before after tx point is named not_made.
    let u = c.args.ledger.now.unspent in
    spends_what_is_there u before after tx point (alone_in before after tx (subst (All StandsAlone) is c.each_stands_alone.ensures.alone)) (subst (λ (l : List Tx). IsOk (spend u l)) is c.requires) named not_made
