use Rattle.std.proofs.Common.{rules, ◌≡◌, ◌⊎◌, Result, ap, map, refl, sym, inl, inr, ◌∙◌, arith}
use Rattle.std.specs.Prelude.{string_bytes}
use Rattle.clap.specs.Words.{kind_of}
use Rattle.cb_commands.specs.SimInput.{SimulatesKnown}
use Rattle.cb_driver.specs.Auditing.{IsOfAnEnd}
use Rattle.cb_driver.specs.Summary.{AreReported, RunsKnown}
use Rattle.cb_driver.specs.declared.running.RunOrders.{RunOrders}
use Rattle.cb_command.specs.Command.{EndsNet, Halts, RunsNode}
use Rattle.cb_command.specs.declared.commanding.Task.TheVariants.{Decode, Serve, Sim, Run, Node, Net}
use Rattle.cb_command.specs.declared.node_words.BadWords.{BadWords}
use Rattle.cb_net_plan.specs.declared.settings.NetSettings.{NetSettings}
use Rattle.cb_net_plan.specs.declared.bad_net.BadNet.{BadNet}
use Rattle.cb_net.specs.Playing.{RunsNet}
use Rattle.cb_process.specs.declared.orders.NodeOrders.{NodeOrders}
use Rattle.cb_command.proofs.Entering.{failed_parse}
use Rattle.cb_command.proofs.Running.{decoded, done, for_net, for_node, for_orders, net_ran, runs_task}
use Rattle.cb_command.proofs.commanding.command.Goals as goal

pub returns-in-Ok-Decode-clause-ran : goal.returns-in-Ok-Decode-clause-ran
returns-in-Ok-Decode-clause-ran g c =
    runs_task _ _ _ _ _ _ c.in-Ok-Decode.field-0 Decode (map string_bytes c.as_slice.result.now) (map string_bytes c.args.words.items) (search rules) (ap (map string_bytes) c.as_slice.ensures.value)
    c.in-Ok-Decode.ensures.kinds c.in-Ok-Decode.ensures.task
    (λ orders node is.
    decoded (c.settle.new.errors ≡ c.args.errors.now) (g.R.Source.remaining c.args.reader.now) (g.W.Sink.contents c.args.writer.now) (g.W.Sink.contents c.decode.new.writer) (g.R.Source.has_failed c.decode.new.reader) (g.W.Sink.has_failed c.decode.new.writer) (g.E.Sink.contents c.args.errors.now) (g.E.Sink.contents c.settle.new.errors)
    (g.E.Sink.has_failed c.settle.new.errors) c.decode.result c.code_of.result c.settle.result c.code_of.ensures c.decode.ensures.report c.decode.ensures.halts
    c.settle.ensures.settled)

pub returns-in-Ok-Serve-clause-ran : goal.returns-in-Ok-Serve-clause-ran
returns-in-Ok-Serve-clause-ran g c =
    runs_task _ _ _ _ _ _ c.in-Ok-Serve.field-0 Serve (map string_bytes c.as_slice.result.now) (map string_bytes c.args.words.items) (search rules) (ap (map string_bytes) c.as_slice.ensures.value)
    c.in-Ok-Serve.ensures.kinds c.in-Ok-Serve.ensures.task
    (λ orders node is. c.answer_peer.ensures)

pub returns-in-Ok-Sim-clause-ran : goal.returns-in-Ok-Sim-clause-ran
returns-in-Ok-Sim-clause-ran g c =
    runs_task _ _ _ _ _ _ c.in-Ok-Sim.field-0 Sim (map string_bytes c.as_slice.result.now) (map string_bytes c.args.words.items) (search rules) (ap (map string_bytes) c.as_slice.ensures.value)
    c.in-Ok-Sim.ensures.kinds c.in-Ok-Sim.ensures.task
    (λ orders node is.
    done (SimulatesKnown (g.R.Source.remaining c.args.reader.now) (g.W.Sink.contents c.args.writer.now) (g.W.Sink.contents c.simulate.new.writer)) (c.settle-in-Ok-Sim.new.errors ≡ c.args.errors.now) (g.R.Source.remaining c.args.reader.now) (g.R.Source.has_failed c.simulate.new.reader) (g.W.Sink.has_failed c.simulate.new.writer) (g.E.Sink.contents c.args.errors.now) (g.E.Sink.contents c.settle-in-Ok-Sim.new.errors)
    (g.E.Sink.has_failed c.settle-in-Ok-Sim.new.errors) c.simulate.result c.settle-in-Ok-Sim.result c.simulate.ensures.report c.simulate.ensures.halts c.settle-in-Ok-Sim.ensures.settled)

pub returns-in-Ok-Run-clause-ran : goal.returns-in-Ok-Run-clause-ran
returns-in-Ok-Run-clause-ran g c =
    runs_task _ _ _ _ _ _ c.in-Ok-Run.field-0 (Run c.in-Ok-Run.orders) (map string_bytes c.as_slice.result.now) (map string_bytes c.args.words.items) (search rules) (ap (map string_bytes) c.as_slice.ensures.value)
    c.in-Ok-Run.ensures.kinds c.in-Ok-Run.ensures.task
    (λ orders node is.
    for_orders
    (λ (o : RunOrders).
    (RunsKnown (AreReported g.row.N.Denot) o.sizes.nodes o.stats (g.R.Source.remaining c.args.reader.now) (g.W.Sink.contents c.args.writer.now) (g.W.Sink.contents c.run_nodes.new.writer) c.settle-in-Ok-Run.result × (c.settle-in-Ok-Run.new.errors ≡ c.args.errors.now))
    ⊎ Halts (g.R.Source.remaining c.args.reader.now) (g.R.Source.has_failed c.run_nodes.new.reader) (g.W.Sink.has_failed c.run_nodes.new.writer) (g.E.Sink.contents c.args.errors.now) (g.E.Sink.contents c.settle-in-Ok-Run.new.errors)
    (g.E.Sink.has_failed c.settle-in-Ok-Run.new.errors) c.settle-in-Ok-Run.result)
    c.in-Ok-Run.orders orders node (map string_bytes c.as_slice.result.now)
    (done (RunsKnown (AreReported g.row.N.Denot) c.in-Ok-Run.orders.sizes.nodes c.in-Ok-Run.orders.stats (g.R.Source.remaining c.args.reader.now) (g.W.Sink.contents c.args.writer.now) (g.W.Sink.contents c.run_nodes.new.writer)) (c.settle-in-Ok-Run.new.errors ≡ c.args.errors.now) (g.R.Source.remaining c.args.reader.now) (g.R.Source.has_failed c.run_nodes.new.reader) (g.W.Sink.has_failed c.run_nodes.new.writer) (g.E.Sink.contents c.args.errors.now) (g.E.Sink.contents c.settle-in-Ok-Run.new.errors)
    (g.E.Sink.has_failed c.settle-in-Ok-Run.new.errors) c.run_nodes.result c.settle-in-Ok-Run.result
    c.run_nodes.ensures.runs c.run_nodes.ensures.halts c.settle-in-Ok-Run.ensures.settled)
    is)

pub returns-in-Ok-Node-clause-ran : goal.returns-in-Ok-Node-clause-ran
returns-in-Ok-Node-clause-ran g c =
    runs_task _ _ _ _ _ _ c.in-Ok-Node.field-0 (Node c.in-Ok-Node.node) (map string_bytes c.as_slice.result.now) (map string_bytes c.args.words.items) (search rules) (ap (map string_bytes) c.as_slice.ensures.value)
    c.in-Ok-Node.ensures.kinds c.in-Ok-Node.ensures.task
    (λ orders node is. (
      refl,
      for_node
          (λ (n : Result NodeOrders BadWords).
          RunsNode (IsOfAnEnd g.row.N.Denot) (c.start_node.new.errors ≡ c.args.errors.now) (g.W.Sink.contents c.args.writer.now) (g.W.Sink.contents c.start_node.new.writer) (g.W.Sink.has_failed c.start_node.new.writer) (g.E.Sink.contents c.args.errors.now) (g.E.Sink.contents c.start_node.new.errors)
          (g.E.Sink.has_failed c.start_node.new.errors) n c.start_node.result)
          c.in-Ok-Node.node orders node (map string_bytes c.as_slice.result.now) c.start_node.ensures.runs is,
    ))

pub returns-in-Ok-Net-clause-ran : goal.returns-in-Ok-Net-clause-ran
returns-in-Ok-Net-clause-ran g c =
    runs_task _ _ _ _ _ _ c.in-Ok-Net.field-0 (Net c.in-Ok-Net.net) (map string_bytes c.as_slice.result.now) (map string_bytes c.args.words.items) (search rules) (ap (map string_bytes) c.as_slice.ensures.value)
    c.in-Ok-Net.ensures.kinds c.in-Ok-Net.ensures.task
    (λ orders node is. (
      refl,
      for_net
          (λ (n : Result NetSettings BadNet).
          RunsNet (c.run_net.new.writer ≡ c.args.writer.now) (c.settle-in-Ok-Net.new.errors ≡ c.args.errors.now) (g.W.Sink.contents c.args.writer.now) (g.W.Sink.contents c.run_net.new.writer) (g.E.Sink.contents c.args.errors.now) (g.E.Sink.contents c.settle-in-Ok-Net.new.errors) n c.settle-in-Ok-Net.result
          ⊎ EndsNet (g.W.Sink.has_failed c.run_net.new.writer) (g.E.Sink.contents c.args.errors.now) (g.E.Sink.contents c.settle-in-Ok-Net.new.errors) (g.E.Sink.has_failed c.settle-in-Ok-Net.new.errors) c.settle-in-Ok-Net.result)
          c.in-Ok-Net.net orders node (map string_bytes c.as_slice.result.now) (map string_bytes c.args.words.items) (ap (map string_bytes) c.as_slice.ensures.value)
          (net_ran g.E.Sink.contents
          (λ errors status. RunsNet (c.run_net.new.writer ≡ c.args.writer.now) (errors ≡ c.args.errors.now) (g.W.Sink.contents c.args.writer.now) (g.W.Sink.contents c.run_net.new.writer) (g.E.Sink.contents c.args.errors.now) (g.E.Sink.contents errors) c.in-Ok-Net.net status)
          c.args.errors.now c.run_net.new.errors c.settle-in-Ok-Net.new.errors (g.W.Sink.has_failed c.run_net.new.writer) (g.E.Sink.has_failed c.run_net.new.errors) (g.E.Sink.has_failed c.settle-in-Ok-Net.new.errors)
          c.run_net.result c.settle-in-Ok-Net.result c.run_net.ensures.runs c.run_net.ensures.err c.run_net.ensures.quiet c.settle-in-Ok-Net.ensures.settled c.settle-in-Ok-Net.ensures.stays)
          is,
    ))

pub returns-clause-ran : goal.returns-clause-ran
returns-clause-ran g c =
    elim (failed_parse _ _ (kind_of c.in-Err.error) (ap (map string_bytes) c.as_slice.ensures.value) c.in-Err.ensures.passes c.in-Err.ensures.kinds c.settle_refusal.ensures.memory c.settle_refusal.ensures.ends) [
      | inl refused ↦ inl (refused.0, refused.1, refl, refl)
      | inr lacked ↦ inr (inl (lacked, refl, refl))
    ]

pub returns-clause-refused : goal.returns-clause-refused
returns-clause-refused g c = λ one.
    elim (failed_parse _ _ (kind_of c.in-Err.error) (ap (map string_bytes) c.as_slice.ensures.value) c.in-Err.ensures.passes c.in-Err.ensures.kinds c.settle_refusal.ensures.memory c.settle_refusal.ensures.ends) [
      | inl refused ↦ (refused.0, refl, refl)
      | inr lacked ↦ absurd (let four : 4 ≡ 1 = (sym lacked.1) ∙ one in omega (arith, four))
    ]
