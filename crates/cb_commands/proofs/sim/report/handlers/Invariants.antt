use Rattle.std.proofs.Common.{◌≡◌, ◌++◌, string_bytes}
use Rattle.std.specs.List.{flat_map, range_with_len}
use Rattle.cb_commands.specs.SimReport.{handler_text}
use Rattle.cb_commands.proofs.sim.report.handlers.Given as goal

abbrev pub invariant-loop-handler : goal.invariant-loop-handler
invariant-loop-handler l = string_bytes l.out ≡ string_bytes l.fn.out ++ flat_map (handler_text l.system.crew) (range_with_len 0 l.handler)
