-- Which of the blocks that a peer hands over count as given by it.
use Rattle.std.specs.Prelude.{ℕ, Bool, true, false, Option, None, Some}
use Rattle.cb_base.specs.declared.fault.Fault.{Fault}
use Rattle.cb_work.specs.declared.traffic.BlockPath.{BlockPath}
use Rattle.cb_work.specs.declared.traffic.Brought.{Brought}

-- A block that came this way, by so many bytes of payload. It counts if it was in flight, or if the
-- hall took it as new.
abbrev pub brought_by : BlockPath → ℕ → Bool → Option Fault → Option Brought
brought_by path payload true refused = Some (record { path = path; payload = payload })
brought_by path payload false None = Some (record { path = path; payload = payload })
brought_by path payload false (Some fault) = None
