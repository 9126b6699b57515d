use Rattle.std.proofs.Common.{◌∙◌, ap, sym}
use Rattle.std.specs.Prelude.{is_some}
use Rattle.cb_chain.specs.Best.{active}
use Rattle.cb_state.proofs.OnBest.{placed, there}
use Rattle.cb_state.proofs.blocks.is_on_best.Goals as goal

pub returns : goal.returns
returns c =
    let tree = c.args.chain.now in
    let hash = c.args.hash.now in
    let told = c.is_some.ensures ∙ ap is_some c.active_height.ensures.height in (
      λ is. placed (active tree) 0 hash (sym told ∙ is),
      λ on. told ∙ there (active tree) 0 hash on,
    )
