use Rattle.std.proofs.Common.{◌≡◌, ℕ, true, refl}
use Rattle.cb_driver.specs.Auditing.{IsOfAnEnd}
use Rattle.cb_process.specs.Starting.{IsDeaf}
use Rattle.cb_node_process.specs.Telling.{TellsAll}
use Rattle.cb_node_process.proofs.Endings.{deaf_ends, ran_deaf, ran_quietly, run_ends, three_is_one, which}
use Rattle.cb_node_process.proofs.running.run_node.Goals as goal

pub returns-in-Ok-clause-told : goal.returns-in-Ok-clause-told
returns-in-Ok-clause-told g c =
    ran_quietly (c.args.errors.now ≡ c.args.errors.now) (TellsAll (IsOfAnEnd g.row.R.Denot) (g.W.Sink.contents c.args.writer.now) (g.W.Sink.contents c.run_logged.new.writer)) (λ (status : ℕ). IsDeaf c.args.orders (g.E.Sink.contents c.args.errors.now) (g.E.Sink.contents c.args.errors.now) × (status ≡ 3))
    c.in-Ok.ended refl c.in-Ok.ensures.told

pub returns-in-Ok-clause-status : goal.returns-in-Ok-clause-status
returns-in-Ok-clause-status g c = which (IsOfAnEnd g.row.R.Denot) (g.W.Sink.contents c.args.writer.now) (g.W.Sink.contents c.run_logged.new.writer) c.in-Ok.ended c.in-Ok.ensures.told

pub returns-in-Ok-clause-halts : goal.returns-in-Ok-clause-halts
returns-in-Ok-clause-halts g c = run_ends (g.W.Sink.has_failed c.run_logged.new.writer ≡ true) (g.E.Sink.has_failed c.args.errors.now ≡ true) c.in-Ok.ended c.in-Ok.ensures.halts

pub returns-clause-told : goal.returns-clause-told
returns-clause-told g c =
    ran_deaf (λ (status : ℕ). TellsAll (IsOfAnEnd g.row.R.Denot) (g.W.Sink.contents c.args.writer.now) (g.W.Sink.contents c.run_logged.new.writer) status × (c.tell_deaf.new.errors ≡ c.args.errors.now)) (IsDeaf c.args.orders (g.E.Sink.contents c.args.errors.now) (g.E.Sink.contents c.tell_deaf.new.errors))
    c.tell_deaf.result c.tell_deaf.ensures.told c.tell_deaf.ensures.status

pub returns-clause-status : goal.returns-clause-status
returns-clause-status g c = three_is_one c.tell_deaf.result c.tell_deaf.ensures.status

pub returns-clause-halts : goal.returns-clause-halts
returns-clause-halts g c = deaf_ends (g.W.Sink.has_failed c.run_logged.new.writer ≡ true) (g.E.Sink.has_failed c.tell_deaf.new.errors) c.tell_deaf.result c.tell_deaf.ensures.err
