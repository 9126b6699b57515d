use Rattle.std.proofs.Common.{◌≡◌, ◌∙◌, ap, subst, sym, length, rules}
use Rattle.cb_block.specs.declared.block.Block.{Block}
use Rattle.cb_block.specs.BlockText.{header_text}
use Rattle.cb_pool.specs.Listing.{Listing, txs_of}
use Rattle.cb_pool.specs.Rules.{StandsAlone}
use Rattle.std.specs.Prelude.{All}
use Rattle.cb_state.proofs.MinedLaws.{meets_rules}
use Rattle.cb_state.proofs.mining.mined_meets_rules.Goals as goal

pub returns : goal.returns
returns c =
    let text : length c.text-text.result ≡ 80 = search rules in
    let long : length (header_text c.args.block.now.header) ≡ 80 = ap (λ (b : Block). length (header_text b.header)) (sym c.block.ensures.same) ∙ ap length (sym c.text-text.ensures.bytes) ∙ text in
    meets_rules c.args.state.now c.args.mark c.args.block.now (subst (λ (l : Listing). All StandsAlone (txs_of l.list)) c.pool.ensures.pool c.each_stands_alone.ensures.alone) long c.requires
