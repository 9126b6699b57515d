-- What a trace keeps of its history: it lets entries go only at checkpoints that are due.
use Rattle.std.specs.Prelude.{◌⊎◌, ◌≤◌, ◌<◌, List, ◌++◌, length, All}
use Rattle.std.specs.List.{flat_map}
use Rattle.cb_trace.specs.declared.trace.TraceEntry.{TraceEntry}
use Rattle.cb_trace.specs.Trace.{StandsFor, TraceView, held_of}

-- These are enough entries for a checkpoint: 65,000 or more, or they hold more than 8,000,000
-- bytes.
abbrev pub AreEnough : List TraceEntry → Type 0
AreEnough entries = (65000 ≤ length entries) ⊎ (8000000 < held_of entries)

-- The trace keeps its history, but for what its checkpoints dropped. Each of them dropped enough
-- entries (`pieces`).
pub record KeepsHistory (trace : TraceView) : Type 0 where
  pub pieces : List (List TraceEntry)
  pub enough : All AreEnough pieces
  pub stands : StandsFor trace (flat_map (λ piece. piece) pieces ++ trace.entries)

-- A trace that kept its history keeps it still.
abbrev pub StillKeeps : TraceView → TraceView → Type 0
StillKeeps old new = KeepsHistory old → KeepsHistory new
