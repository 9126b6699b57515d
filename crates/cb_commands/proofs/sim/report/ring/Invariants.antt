use Rattle.std.proofs.Common.{◌≡◌, ◌++◌, map, string_bytes}
use Rattle.std.specs.Prelude.{codes}
use Rattle.std.specs.List.{flat_map}
use Rattle.std.specs.Fmt.{decimal}
use Rattle.cb_commands.proofs.sim.report.ring.Given as goal

abbrev pub invariant-loop-desk : goal.invariant-loop-desk
invariant-loop-desk l = string_bytes l.out ≡ string_bytes l.initial.out ++ flat_map (λ d. codes "," ++ decimal d) (map (λ d. d.now) l.yielded)
