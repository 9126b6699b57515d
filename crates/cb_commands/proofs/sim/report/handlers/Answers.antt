use Rattle.std.specs.String.{string_bytes}
use Rattle.cb_commands.specs.SimReport.{handler_text}
use Rattle.cb_commands.proofs.SimReportLemmas.{line_more}
use Rattle.cb_commands.proofs.sim.report.handlers.Goals as goal

pub loop-handler-preserved : goal.loop-handler-preserved
loop-handler-preserved c = line_more (handler_text c.args.system.now.crew) c.loop-handler.handler (string_bytes c.args.out.now) (string_bytes c.loop-handler.out) (string_bytes c.handler_line.new.out) c.loop-handler.invariant c.in_ok-handler_line.ensures.text
