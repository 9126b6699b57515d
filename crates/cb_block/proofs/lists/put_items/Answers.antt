use Rattle.std.proofs.Common.{◌+◌, ◌<◌, length, vec_capacity, arith}
use Rattle.std.proofs.lemmas.Grind.{common_steps}
use Rattle.std.proofs.lemmas.List.Elements.{All-more}
use Rattle.std.proofs.lemmas.Result.{err_from_is_err_and}
use Rattle.cb_block.specs.TxText.{list_text}
use Rattle.cb_block.proofs.Appends.{no_room}
use Rattle.cb_block.proofs.lists.put_items.Goals as goal

pub loop-item-preserved : goal.loop-item-preserved
loop-item-preserved g c = (
  grind (arith, common_steps),
  All-more g.T.Coded.is_kept c.args.items.now c.loop-item.item-index c.item-item.result c.loop-item-test.true c.loop-item.invariant.1 (rw (← c.item-item.is) c.in_ok-put.ensures.kept),
  omega (arith, c.loop-item.invariant.2, c.put.ensures.capacity),
)

pub returns-in_err-put-clause-full : goal.returns-in_err-put-clause-full
returns-in_err-put-clause-full g c =
    let p = err_from_is_err_and c.from_residual-in_err-put.result c.from_residual-in_err-put.ensures.1 in
    let short : vec_capacity c.args.out.now < length c.args.out.now.items + length (list_text g.T.Coded.text c.args.items.now) =
    no_room g.T.Coded.text c.args.items.now c.loop-item.item-index c.item-item.result (vec_capacity c.args.out.now) (vec_capacity c.loop-item.out) c.args.out.now.items c.loop-item.out.items c.loop-item.invariant.0 c.loop-item-test.true c.item-item.is c.loop-item.invariant.2 (omega (arith, c.in_err-put.ensures.full, c.loop-item.out.ok.0)) in
    rw p.1 (omega (arith, short, c.args.out.now.ok.0))
