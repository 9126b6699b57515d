use Rattle.std.proofs.Common.{◌≡◌, ◌∙◌, None, ap, length, rules, subst, sym}
use Rattle.cb_block.specs.declared.block.Block.{Block}
use Rattle.cb_block.specs.BlockText.{header_text}
use Rattle.cb_chain.specs.Entries.{Tree}
use Rattle.cb_hall.proofs.NextTip.{IsTipOf, Knows, fares}
use Rattle.cb_hall.proofs.mined.mined_fares.Goals as goal

pub returns : goal.returns
returns c =
    let state = c.args.state.now in
    let block = c.args.block.now in
    let height = c.tip_height-height.result in
    let u = c.ledger-ledger.result.now.unspent in
    let shown : IsTipOf c.chain-chain.result.now height u = record { historic = c.has_history.ensures; tall = c.tip_height-height.ensures; unspent = c.ledger-ledger.ensures } in
    let text : length c.text-text.result ≡ 80 = search rules in
    let knows : Knows state c.args.mark block height u =
    record {
      mined = c.requires;
      tip = subst (λ (tree : Tree). IsTipOf tree height u) c.chain-chain.ensures shown;
      wait = c.pool-pool.ensures.wait;
      rules = c.mined_meets_rules.ensures;
      long = ap (λ (b : Block). length (header_text b.header)) (sym c.block.ensures.same) ∙ ap length (sym c.text-text.ensures.bytes) ∙ text;
    } in
    λ taken new takes. fares state new c.args.mark block height u None taken knows takes
