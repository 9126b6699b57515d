use Rattle.std.proofs.Common.{◌+◌, ◌∙◌, arith}
use Rattle.cb_pool.specs.Listing.{txs_of}
use Rattle.cb_state.proofs.Fits.{bytes_next, compact_short, first_size, fit_first, fit_next, most_here, size_alone, size_low}
use Rattle.cb_state.proofs.mining.fitting.Goals as goal

pub loop-count-init : goal.loop-count-init
loop-count-init c = record {
  size = first_size c.args.coinbase.now c.size-size.result c.requires c.size-size.ensures;
  fit = fit_first c.args.coinbase.now (txs_of c.args.pool.now.list) c.requires;
}

pub overflow_add-size-in-loop-count : goal.overflow_add-size-in-loop-count
overflow_add-size-in-loop-count c =
    let one = size_alone c.waiting_at.result.now c.deref.result.now c.size-size-in-loop-count.result (c.deref.ensures ∙ c.tx.ensures.same) c.tx.ensures.alone c.size-size-in-loop-count.ensures in
    omega (arith, one.1, size_low _ c.loop-count.size c.loop-count.invariant.size c.loop-count.invariant.fit)

pub overflow_add-size-in-loop-count-2 : goal.overflow_add-size-in-loop-count-2
overflow_add-size-in-loop-count-2 c =
    let one = size_alone c.waiting_at.result.now c.deref.result.now c.size-size-in-loop-count.result (c.deref.ensures ∙ c.tx.ensures.same) c.tx.ensures.alone c.size-size-in-loop-count.ensures in
    omega (arith, one.1, size_low _ c.loop-count.size c.loop-count.invariant.size c.loop-count.invariant.fit, c.compact_size.ensures, compact_short (c.loop-count.count + 2))

pub returns-then-size-compact_size-gt-MOST_BYTES-clause-fitting : goal.returns-then-size-compact_size-gt-MOST_BYTES-clause-fitting
returns-then-size-compact_size-gt-MOST_BYTES-clause-fitting c =
    let tx = c.waiting_at.result.now in
    let waiting = txs_of c.args.pool.now.list in
    let one = size_alone tx c.deref.result.now c.size-size-in-loop-count.result (c.deref.ensures ∙ c.tx.ensures.same) c.tx.ensures.alone c.size-size-in-loop-count.ensures in
    most_here c.args.coinbase.now waiting c.loop-count.count tx (c.loop-count.size + c.size-size-in-loop-count.result) c.waiting_at.ensures c.loop-count.invariant.fit
    (omega (arith, one.0, c.loop-count.invariant.size, bytes_next c.args.coinbase.now waiting c.loop-count.count tx c.waiting_at.ensures))
    (omega (arith, c.compact_size.ensures, c.if-size-compact_size-gt-MOST_BYTES.true))

pub loop-count-preserved : goal.loop-count-preserved
loop-count-preserved c =
    let tx = c.waiting_at.result.now in
    let waiting = txs_of c.args.pool.now.list in
    let one = size_alone tx c.deref.result.now c.size-size-in-loop-count.result (c.deref.ensures ∙ c.tx.ensures.same) c.tx.ensures.alone c.size-size-in-loop-count.ensures in
    record {
      size = omega (arith, one.0, c.loop-count.invariant.size, bytes_next c.args.coinbase.now waiting c.loop-count.count tx c.waiting_at.ensures);
      fit = fit_next c.args.coinbase.now waiting c.loop-count.count tx (c.loop-count.size + c.size-size-in-loop-count.result) c.waiting_at.ensures
          (omega (arith, one.0, c.loop-count.invariant.size, bytes_next c.args.coinbase.now waiting c.loop-count.count tx c.waiting_at.ensures))
          (omega (arith, c.compact_size.ensures, c.if-size-compact_size-gt-MOST_BYTES.false));
    }
