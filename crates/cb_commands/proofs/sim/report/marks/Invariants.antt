use Rattle.std.proofs.Common.{◌≡◌, ◌++◌, take, string_bytes}
use Rattle.std.specs.Prelude.{codes}
use Rattle.std.specs.List.{flat_map}
use Rattle.cb_crew.specs.Text.{mark_text}
use Rattle.cb_commands.proofs.sim.report.marks.Given as goal

abbrev pub invariant-loop-mark : goal.invariant-loop-mark
invariant-loop-mark l = string_bytes l.out ≡ string_bytes l.initial.out ++ flat_map (λ m. codes "," ++ mark_text m) (take l.mark-index l.rest)
