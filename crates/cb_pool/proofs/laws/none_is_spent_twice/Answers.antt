use Rattle.std.proofs.Common.{◌≡◌, ◌++◌, ◌∷◌, List, subst, sym}
use Rattle.std.proofs.Common.{append_assoc}
use Rattle.std.specs.Prelude.{All, IsOk}
use Rattle.cb_block.specs.declared.tx.Tx.{Tx}
use Rattle.cb_ledger.specs.Spend.{spend}
use Rattle.cb_pool.specs.Rules.{StandsAlone}
use Rattle.cb_pool.proofs.LawLemmas.{alone_in, not_spent_again}
use Rattle.cb_pool.proofs.laws.none_is_spent_twice.Goals as goal

pub returns : goal.returns
returns c = λ before between after tx other point is named not_made.
    let u = c.args.ledger.now.unspent in
    let all : All StandsAlone (before ++ tx ∷ (between ++ other ∷ after)) = subst (All StandsAlone) is c.each_stands_alone.ensures.alone in
    let moved : before ++ tx ∷ (between ++ other ∷ after) ≡ (before ++ tx ∷ between) ++ other ∷ after = sym (append_assoc before (tx ∷ between) (other ∷ after)) in
    not_spent_again u before between after tx other point (alone_in before (between ++ other ∷ after) tx all) (alone_in (before ++ tx ∷ between) after other (subst (All StandsAlone) moved all))
    (subst (λ (l : List Tx). IsOk (spend u l)) is c.requires) named not_made
