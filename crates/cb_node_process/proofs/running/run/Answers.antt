use Rattle.cb_driver.specs.Auditing.{IsOfAnEnd}
use Rattle.cb_node_process.proofs.Endings.{opened_in, told_all}
use Rattle.cb_node_process.proofs.running.run.Goals as goal

pub returns-in-Ok : goal.returns-in-Ok
returns-in-Ok g c = record {
  told =
      told_all (IsOfAnEnd g.row.R.Denot) c.tell_end.result (g.W.Sink.contents c.args.writer.now) (g.W.Sink.contents c.serve-served.new.writer) (g.W.Sink.contents c.tell_end.new.writer) c.finish-end.result.1 c.is_well-well.result c.in-Ok.well c.finish-end.result.2
      (c.note_all_ends.new.self.node.crew, c.finish-end.result.0, c.finish-end.ensures)
      (opened_in c.serve-served.result c.in-Ok.broken c.in-Ok.well (g.W.Sink.contents c.args.writer.now) (g.W.Sink.contents c.serve-served.new.writer) c.in-Ok.is c.serve-served.ensures.told) c.is_well-well.ensures c.tell_end.ensures.told c.tell_end.ensures.fully c.tell_end.ensures.status;
  halts = c.tell_end.ensures.halts;
}
