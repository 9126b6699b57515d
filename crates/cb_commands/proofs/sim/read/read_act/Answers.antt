use Rattle.std.proofs.Common.{ap, ◌∙◌}
use Rattle.cb_commands.specs.SimLine.{act_in}
use Rattle.cb_commands.proofs.SimRead.{act_answer, no_act}
use Rattle.cb_commands.proofs.sim.read.read_act.Goals as goal

pub returns-in-Ok : goal.returns-in-Ok
returns-in-Ok c = act_answer c.args.text.now c.act_of.result (c.act_of.ensures ∙ ap act_in c.in-Ok.ensures.cases.0)

pub returns-in-Err : goal.returns-in-Err
returns-in-Err c = no_act c.args.text.now c.in-Err.ensures.cases.0
