-- How a System answers an act.
use Rattle.std.specs.Prelude.{Result, Ok, Err}
use Rattle.cb_base.specs.declared.fault.Fault.{Fault}
use Rattle.cb_base.specs.declared.fault.Fault.TheVariants as fault

-- Success: the act was possible and was done. `NotEnabled`: it wasn't possible, and nothing
-- changed. `Memory`: it was possible, but an allocation failed, and nothing changed.
abbrev pub Answers : (enabled step takes_memory same : Type 0) → Result (Unit {0}) Fault → Type 0
Answers enabled step takes_memory same (Ok done) = step
Answers enabled step takes_memory same (Err fault.NotEnabled) = (enabled → ⊥) × same
Answers enabled step takes_memory same (Err fault.Memory) = enabled × takes_memory × same
Answers enabled step takes_memory same (Err other) = ⊥
