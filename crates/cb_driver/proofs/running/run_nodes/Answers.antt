use Rattle.std.proofs.Common.{rules, length, arith, subst, sym}
use Rattle.std.specs.List.{AllZip}
use Rattle.cb_node.specs.Node.{HasFinished}
use Rattle.cb_driver.specs.Summary.{AreReported, IsReported, TellsReport}
use Rattle.cb_driver.proofs.Summing.{run_whole_ok}
use Rattle.cb_driver.proofs.Walks.{zip_through}
use Rattle.cb_driver.proofs.running.run_nodes.Goals as goal

pub returns-in-Whole-clause-runs : goal.returns-in-Whole-clause-runs
returns-in-Whole-clause-runs g c =
    run_whole_ok (λ reports. AllZip (λ end report. TellsReport end.desks.items report) c.as_slice.result.now reports) (AreReported g.row.N.Denot)
    (λ reports told. (
      c.as_slice.result.now,
      zip_through (λ node end. HasFinished node.crew end.read end.desks.items) (λ end report. TellsReport end.desks.items report) (λ end report. IsReported end.read end.desks.items report)
          (λ node end report finished tells. (node.crew, finished, tells)) c.play-played.new.nodes.list.items c.as_slice.result.now reports
          (subst (AllZip (λ node end. HasFinished node.crew end.read end.desks.items) c.play-played.new.nodes.list.items) (sym c.as_slice.ensures.value) c.finish-ends.ensures.each) told,
    ))
    c.args.orders.sizes.nodes c.args.orders.stats (g.R.Source.remaining c.args.reader.now) (g.W.Sink.contents c.args.writer.now) (g.W.Sink.contents c.play-played.new.writer)
    (g.W.Sink.contents c.conclude.new.writer) c.in-Whole.tally (length c.as_slice.result.now) c.play-played.result c.conclude.result c.play-played.ensures.plays (search rules)
    (omega (arith, c.as_slice.ensures.len, c.finish-ends.ensures.count, c.play-played.ensures.count, c.in-Ok.ensures.count)) c.conclude.ensures.printed
