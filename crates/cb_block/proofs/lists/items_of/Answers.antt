use Rattle.std.proofs.Common.{◌∷◌, [], length, ap, arith}
use Rattle.std.proofs.lemmas.List.{length-append}
use Rattle.std.proofs.lemmas.Result.{err_from_is_err_and}
use Rattle.cb_block.specs.TxReading.{items_at}
use Rattle.cb_block.proofs.Loop.{goes_on, ends, is_done}
use Rattle.cb_block.proofs.lists.items_of.Goals as goal

pub returns-in_err-read-clause-exact : goal.returns-in_err-read-clause-exact
returns-in_err-read-clause-exact g c =
    let p = err_from_is_err_and c.from_residual-in_err-read.result c.from_residual-in_err-read.ensures.1 in
    rw (p.1, p.2) (ends _ g.T.Coded.item_at c.in_err-read.field-0.0 c.loop.items.items c.args.count c.loop.counter c.loop.cursor (items_at g.T.Coded.item_at c.args.count c.args.cursor.now) c.loop-test.true c.in_err-read.ensures c.loop.invariant.read)

pub loop-preserved : goal.loop-preserved
loop-preserved g c =
    let e = c.in_ok-push.ensures.items in
    record {
      read = rw e (goes_on _ g.T.Coded.item_at c.loop.items.items c.args.count c.loop.counter c.loop.cursor c.in_ok-read.field-0 c.read.new.cursor (items_at g.T.Coded.item_at c.args.count c.args.cursor.now) c.loop-test.true c.in_ok-read.ensures c.loop.invariant.read);
      few = omega (arith, ap length e, length-append c.loop.items.items (c.in_ok-read.field-0 ∷ []), c.loop.invariant.few);
      within = omega (arith, c.loop-test.true);
    }

pub returns-clause-exact : goal.returns-clause-exact
returns-clause-exact g c = is_done _ g.T.Coded.item_at c.loop.items.items c.args.count c.loop.counter c.loop.cursor (items_at g.T.Coded.item_at c.args.count c.args.cursor.now) c.loop-test.false c.loop.invariant.read

pub returns-in_err-read-clause-unpaid : goal.returns-in_err-read-clause-unpaid
returns-in_err-read-clause-unpaid g c = λ none. absurd (omega (arith, none, c.loop-test.true))

pub returns-in_err-push-clause-unpaid : goal.returns-in_err-push-clause-unpaid
returns-in_err-push-clause-unpaid g c = λ none. absurd (omega (arith, none, c.loop-test.true))
