use Rattle.std.proofs.Common.{rules}
use Rattle.cb_control.proofs.ScriptRead.{script_is_among, script_is_read}
use Rattle.cb_control.proofs.script_line.read_script_order.Goals as goal

pub returns-in-Ok-clause-exact : goal.returns-in-Ok-clause-exact
returns-in-Ok-clause-exact c = script_is_read c.args.nodes c.args.text.now c.in-Ok.text.now c.map_err.result (search rules) (search rules) (search rules)

pub returns-in-Ok-clause-among : goal.returns-in-Ok-clause-among
returns-in-Ok-clause-among c = script_is_among c.args.nodes c.args.text.now c.in-Ok.text.now c.map_err.result (search rules) (search rules) (search rules)
