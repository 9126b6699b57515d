use Rattle.std.proofs.Common.{◌≡◌, Result, ap, subst, sym, ◌∙◌}
use Rattle.cb_driver.specs.Auditing.{IsOfAnEnd}
use Rattle.cb_process.specs.Starting.{IsDeaf}
use Rattle.cb_node_process.specs.Telling.{TellsAll}
use Rattle.cb_process.specs.declared.orders.NodeOrders.{NodeOrders}
use Rattle.cb_command.specs.declared.node_words.BadWords.{BadWords}
use Rattle.cb_command.specs.Command.{RunsNode}
use Rattle.cb_command.specs.NodeWords.{bad_words_text}
use Rattle.cb_command.proofs.Running.{node_ran, node_refused, quiet_of}
use Rattle.cb_command.proofs.commanding.start_node.Goals as goal

pub returns-in-Ok : goal.returns-in-Ok
returns-in-Ok g c =
    record {
      runs = subst (λ (node : Result NodeOrders BadWords). RunsNode (IsOfAnEnd g.row.N.Denot) (c.settle.new.errors ≡ c.args.errors.now) (g.W.Sink.contents c.args.writer.now) (g.W.Sink.contents c.run_node.new.writer) (g.W.Sink.has_failed c.run_node.new.writer) (g.E.Sink.contents c.args.errors.now) (g.E.Sink.contents c.settle.new.errors) (g.E.Sink.has_failed c.settle.new.errors) node c.settle.result) (sym c.in-Ok.is) (node_ran (TellsAll (IsOfAnEnd g.row.N.Denot) (g.W.Sink.contents c.args.writer.now) (g.W.Sink.contents c.run_node.new.writer)) (c.run_node.new.errors ≡ c.args.errors.now) (c.settle.new.errors ≡ c.run_node.new.errors) (c.settle.new.errors ≡ c.args.errors.now)
          (g.E.Sink.contents c.args.errors.now) (g.E.Sink.contents c.run_node.new.errors) (g.E.Sink.contents c.settle.new.errors) (IsDeaf c.in-Ok.orders (g.E.Sink.contents c.args.errors.now)) (g.W.Sink.has_failed c.run_node.new.writer) (g.E.Sink.has_failed c.run_node.new.errors)
          (g.E.Sink.has_failed c.settle.new.errors) c.run_node.result c.settle.result c.run_node.ensures.told c.run_node.ensures.halts (quiet_of g.E.Sink.contents c.run_node.new.errors c.args.errors.now (g.E.Sink.has_failed c.run_node.new.errors) c.run_node.result c.run_node.ensures.quiet) c.settle.ensures.settled (λ before after. after ∙ before)
          (λ after. ap g.E.Sink.contents after) c.settle.ensures.stays);
    }

pub returns-in-Err : goal.returns-in-Err
returns-in-Err g c =
    record {
      runs = subst (λ (node : Result NodeOrders BadWords). RunsNode (IsOfAnEnd g.row.N.Denot) (c.settle-in-Err.new.errors ≡ c.args.errors.now) (g.W.Sink.contents c.args.writer.now) (g.W.Sink.contents c.args.writer.now) (g.W.Sink.has_failed c.args.writer.now) (g.E.Sink.contents c.args.errors.now) (g.E.Sink.contents c.settle-in-Err.new.errors) (g.E.Sink.has_failed c.settle-in-Err.new.errors) node c.settle-in-Err.result) (sym c.in-Err.is) (node_refused (c.settle-in-Err.new.errors ≡ c.refuse_words.new.errors) (g.E.Sink.contents c.args.errors.now) (g.E.Sink.contents c.refuse_words.new.errors) (g.E.Sink.contents c.settle-in-Err.new.errors) (bad_words_text c.in-Err.bad)
          (g.W.Sink.has_failed c.args.writer.now) (g.E.Sink.has_failed c.refuse_words.new.errors) (g.E.Sink.has_failed c.settle-in-Err.new.errors) c.refuse_words.result c.settle-in-Err.result c.refuse_words.ensures.told c.refuse_words.ensures.err (quiet_of g.E.Sink.contents c.refuse_words.new.errors c.args.errors.now (g.E.Sink.has_failed c.refuse_words.new.errors) c.refuse_words.result c.refuse_words.ensures.quiet)
          c.settle-in-Err.ensures.settled (λ after. ap g.E.Sink.contents after) c.settle-in-Err.ensures.stays);
    }
