-- How a run ends: the exit status, and the line on standard error.
use Rattle.std.specs.Prelude.{◌≡◌, ℕ, Bool, true, List, [], codes, ⊤, Option}
use Rattle.cb_control.specs.declared.ending.Status.{Status}
use Rattle.cb_control.specs.declared.ending.Status.TheVariants.{Success, Usage, Refused, RunFailed, NoMemory}
use Rattle.cb_control.specs.declared.ending.Halt.{Halt}
use Rattle.cb_control.specs.declared.ending.Halt.TheVariants.{Memory, TooManyLines, ReadFailed, WriteFailed}
use Rattle.cb_control.specs.Lines.{HasManyLines}

-- the exit status as a number
abbrev pub status_code : Status → ℕ
status_code Success = 0
status_code Usage = 1
status_code Refused = 2
status_code RunFailed = 3
status_code NoMemory = 4

abbrev pub halt_status : Halt → Status
halt_status Memory = NoMemory
halt_status TooManyLines = RunFailed
halt_status ReadFailed = RunFailed
halt_status WriteFailed = RunFailed

-- the line on standard error; empty if memory ran out, which the exit status tells
abbrev pub halt_line : Halt → List ℕ
halt_line Memory = []
halt_line TooManyLines = codes "too many lines\n"
halt_line ReadFailed = codes "read failed\n"
halt_line WriteFailed = codes "write failed\n"

-- The cause of a halt: the input has too many lines, a read failed, or a write failed. Nothing is
-- said of memory.
abbrev pub HasCause : Option (List ℕ) → Bool → Bool → Halt → Type 0
HasCause input read_failed write_failed Memory = ⊤
HasCause input read_failed write_failed TooManyLines = HasManyLines input
HasCause input read_failed write_failed ReadFailed = read_failed ≡ true
HasCause input read_failed write_failed WriteFailed = write_failed ≡ true
