use Rattle.std.proofs.Common.{◌≡◌, ℕ, List, ◌-◌, ◌<◌, length, get_or, Option, Some, ap, sym, ◌∙◌, arith}
use Rattle.std.specs.Prelude.{unwrap_or}
use Rattle.std.proofs.lemmas.Option.{slice_get-get_or}
use Rattle.cb_chain.specs.declared.side_branch.SideBranch.{SideBranch}
use Rattle.cb_chain.specs.Keeping.{tree_of}
use Rattle.cb_chain.proofs.Ledgers.{rests}
use Rattle.cb_chain.proofs.PathsDown.{length_active, length_places}
use Rattle.cb_chain.proofs.reorganising.switch.Goals as goal

pub put_on-requires-clause-fork : goal.put_on-requires-clause-fork
put_on-requires-clause-fork c =
    let block_indexes = c.args.tree.now.block_indexes in
    omega (arith, ap length c.in_ok-reserve-2.ensures.items, ap length c.requires.active, length_places (tree_of block_indexes), length_active block_indexes c.requires.tree, c.in_ok-fork.ensures.fork.low)

pub returns-clause-side_branch : goal.returns-clause-side_branch
returns-clause-side_branch c =
    let path = c.args.active.now.items in
    let items : c.reserve-2.new.self.items ≡ path = c.in_ok-reserve-2.ensures.items in
    let low : length path - 1 < length path = omega (arith, ap length c.requires.active, length_places (tree_of c.args.tree.now.block_indexes)) in
    let last : c.len-3.result - 1 ≡ length path - 1 = omega (arith, c.len-3.ensures, c.reserve-2.new.self.ok.0, ap length items) in
    let read : c.index-tip.result.now ≡ get_or path (length path - 1) c.index-tip.result.now =
    c.index-tip.ensures ∙ ap (λ (ps : List ℕ). get_or ps (c.len-3.result - 1) c.index-tip.result.now) items ∙ ap (λ (n : ℕ). get_or path n c.index-tip.result.now) last in
    rests path c.args.ledger.now.unspent c.exchange.new.self.unspent c.exchange.new.undo c.args.side_branch.now c.unwrap_or-last.result c.at-fresh.result c.rest_on.result (c.exchange.ensures.back ∙ c.in_ok-reserve.ensures.same)
    (c.unwrap_or-last.ensures ∙ ap (λ (o : Option SideBranch). unwrap_or o c.at-fresh.result) c.take.ensures.value)
    (slice_get-get_or path (length path - 1) c.index-tip.result.now low ∙ ap Some (sym read ∙ sym c.at-fresh.ensures.end)) c.at-fresh.ensures.overlay c.rest_on.ensures
