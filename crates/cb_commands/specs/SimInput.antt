-- What `sim` prints for its whole input.
use Rattle.std.specs.Prelude.{◌≡◌, ℕ, false, List, [], ◌∷◌, ◌++◌, ⊤, Option, Some, None}
use Rattle.std.specs.Str.Lines.{lines}
use Rattle.cb_commands.specs.declared.sim.Flow.{Flow}
use Rattle.cb_commands.specs.declared.sim.RunStage.TheVariants.{Opening}
use Rattle.cb_commands.specs.SimRun.{SimState, DoesLine, final_text, status_of}

-- The lines, one after another, lead the run from old to new and print this. After a line that
-- can't be read, all others do nothing (`LineAt`).
abbrev pub DoesLines : List (List ℕ) → SimState → List ℕ → SimState → Type 0
DoesLines [] old printed new = (printed ≡ []) × (new ≡ old)
DoesLines (line ∷ more) old printed new =
    (flow : Flow) × (first : List ℕ) × (rest : List ℕ) × (between : SimState)
    × DoesLine line old flow first between × (printed ≡ first ++ rest)
    × DoesLines more between rest new

-- a run before its first line
abbrev pub opening_run : SimState
opening_run = record { lines = 0; stage = Opening; refused = false }

-- what is printed for all lines of the input, then the report, and the exit status
pub record Simulates (input out : List ℕ) (status : ℕ) : Type 0 where
  pub printed : List ℕ
  pub at_end : SimState
  pub does : DoesLines (lines input) opening_run printed at_end
  pub out_is : out ≡ printed ++ final_text at_end.stage
  pub status_is : status ≡ status_of at_end.stage at_end.refused

-- the same, if the bytes of the reader and the writer are known
abbrev pub SimulatesKnown : Option (List ℕ) → Option (List ℕ) → Option (List ℕ) → ℕ → Type 0
SimulatesKnown None old new status = ⊤
SimulatesKnown (Some input) None new status = ⊤
SimulatesKnown (Some input) (Some held) None status = ⊥
SimulatesKnown (Some input) (Some held) (Some holds) status =
    (out : List ℕ) × (holds ≡ held ++ out) × Simulates input out status
