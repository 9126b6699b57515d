-- What is printed for a line of a script, and what it does to the exit status.
use Rattle.std.specs.Prelude.{◌≡◌, ◌⊎◌, ℕ, Bool, true, false, ◌||◌, not, if◌then◌else◌, ⊤, List, [], ◌++◌, codes, Option, Some, None, Result, Ok, Err}
use Rattle.std.specs.Fmt.{decimal}
use Rattle.cb_control.specs.declared.ending.Halt.{Halt}
use Rattle.cb_control.specs.declared.ending.Halt.TheVariants as halts
use Rattle.cb_control.specs.declared.ending.Status.{Status}
use Rattle.cb_control.specs.declared.ending.Status.TheVariants as statuses
use Rattle.cb_control.specs.declared.refusal.Refusal.{Refusal}
use Rattle.cb_control.specs.declared.refusal.Refusal.TheVariants.{Fault, NoSlot, Io, NotSettled}
use Rattle.cb_control.specs.declared.script_line.ScriptOrder.{ScriptOrder}
use Rattle.cb_control.specs.declared.script_line.ScriptOrder.TheVariants.{Link, Wait, Obey}
use Rattle.cb_control.specs.declared.script_text.Tally.{Tally}
use Rattle.cb_control.specs.declared.verdict.Verdict.{Verdict}
use Rattle.cb_control.specs.declared.verdict.Verdict.TheVariants as verdicts
use Rattle.cb_control.specs.Refusals.{refusal_status, refusal_words}

-- what is printed for the line of this number: nothing if it was done, else why it was refused
abbrev pub outcome_text : ℕ → Option Refusal → List ℕ
outcome_text number None = []
outcome_text number (Some refusal) =
    decimal number ++ (codes " " ++ (refusal_words refusal ++ codes "\n"))

-- what a node can make of what it is to do: it does it, or refuses it, or lacks a slot or a socket
abbrev pub IsOfNode : Option Refusal → Type 0
IsOfNode None = ⊤
IsOfNode (Some (Fault fault)) = ⊤
IsOfNode (Some NoSlot) = ⊤
IsOfNode (Some Io) = ⊤
IsOfNode (Some other) = ⊥

-- What can become of an order. Only a `wait` can end with nodes that didn't settle, and nothing
-- else but that it is done.
abbrev pub CanEnd : ScriptOrder → Option Refusal → Type 0
CanEnd Wait outcome = (outcome ≡ None) ⊎ (outcome ≡ Some NotSettled)
CanEnd (Link first second) outcome = IsOfNode outcome
CanEnd (Obey node deed) outcome = IsOfNode outcome

-- why what was to be printed wasn't: memory ran out, or the writer is marked as failed
abbrev pub LacksOrFails : Bool → Halt → Type 0
LacksOrFails failed halt = (halt ≡ halts.Memory) ⊎ ((halt ≡ halts.WriteFailed) × (failed ≡ true))

-- all went well so far
abbrev pub good : Tally
good = record { refused = false; failed = false }

-- after a line that was refused, by the status that tells of it
abbrev pub tally_with : Tally → Status → Tally
tally_with tally statuses.Refused = record tally { refused = true }
tally_with tally other = record tally { failed = true }

-- after one more line
abbrev pub tally_after : Tally → Option Refusal → Tally
tally_after tally None = tally
tally_after tally (Some refusal) = tally_with tally (refusal_status refusal)

-- the audit says yes
abbrev pub says_yes : Verdict → Bool
says_yes (verdicts.Yes answers dropped) = true
says_yes other = false

-- what the report of a node's end tells of its audit, if memory was enough for it
abbrev pub agreement : Verdict → Result Bool Halt
agreement (verdicts.Yes answers dropped) = Ok true
agreement verdicts.Memory = Err halts.Memory
agreement other = Ok false

-- after the audit of a node
abbrev pub tally_audited : Tally → Bool → Tally
tally_audited tally agrees = record tally { failed = tally.failed || not agrees }

-- the exit status: 3 if something failed, else 2 if something was refused
abbrev pub status_of : Tally → ℕ
status_of tally = if tally.failed then 3 else if tally.refused then 2 else 0
