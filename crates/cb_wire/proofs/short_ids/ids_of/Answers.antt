use Rattle.std.proofs.Common.{ℕ, [], inr, rules}
use Rattle.std.proofs.lemmas.List.Elements.{All-nil, All-push, All-same}
use Rattle.std.proofs.lemmas.Result.{err_from_is_err_and}
use Rattle.cb_block.specs.TxReading.{items_at}
use Rattle.cb_block.proofs.Loop.{goes_on, ends, is_done}
use Rattle.cb_wire.specs.ShortForms.{IsShortId, short_id_at}
use Rattle.cb_wire.proofs.short_ids.ids_of.Goals as goal

pub returns-in_err-read_short_id-clause-exact : goal.returns-in_err-read_short_id-clause-exact
returns-in_err-read_short_id-clause-exact c =
    let p = err_from_is_err_and c.from_residual-in_err-read_short_id.result c.from_residual-in_err-read_short_id.ensures.1 in
    rw (p.1, p.2) (ends ℕ short_id_at c.in_err-read_short_id.field-0.0 c.loop.ids.items c.args.count c.loop.counter c.loop.cursor (items_at short_id_at c.args.count c.args.cursor.now) c.loop-test.true (inr c.in_err-read_short_id.ensures.exact) c.loop.invariant.read)

pub loop-init : goal.loop-init
loop-init c = record {
  read = search rules;
  low = All-same IsShortId c.in_ok-ids.ids.items [] c.in_ok-ids.ensures.items (All-nil IsShortId);
}

pub loop-preserved : goal.loop-preserved
loop-preserved c =
    let e = c.in_ok-push.ensures.items in
    record {
      read = rw e (goes_on ℕ short_id_at c.loop.ids.items c.args.count c.loop.counter c.loop.cursor c.in_ok-read_short_id.field-0 c.read_short_id.new.cursor (items_at short_id_at c.args.count c.args.cursor.now) c.loop-test.true c.in_ok-read_short_id.ensures.exact c.loop.invariant.read);
      low = rw e (All-push IsShortId c.loop.ids.items c.in_ok-read_short_id.field-0 c.loop.invariant.low c.in_ok-read_short_id.ensures.low);
    }

pub returns-clause-exact : goal.returns-clause-exact
returns-clause-exact c = is_done ℕ short_id_at c.loop.ids.items c.args.count c.loop.counter c.loop.cursor (items_at short_id_at c.args.count c.args.cursor.now) c.loop-test.false c.loop.invariant.read
