-- A connection's tick flag and probe flag: what the looks at them answered.
use Rattle.std.specs.Prelude.{◌≡◌, ℕ, ◌-◌, ◌^◌, min, List, [], ◌∷◌, ◌++◌, length, filter, if◌then◌else◌}
use Rattle.std.specs.List.{flat_map}
use Rattle.cb_peer_state.specs.declared.event.Event.{Event}
use Rattle.cb_peer_state.specs.declared.event.Event.TheVariants as events
use Rattle.cb_work.specs.declared.flags.Beats.{Beats}

-- The timer events that are due by a look, in order.
abbrev pub due_by : Beats → List Event
due_by answer =
    (if answer.tick then events.Tick ∷ [] else [])
    ++ (if answer.probe then events.Probe ∷ [] else [])

-- The timer events that are due by these looks, in order.
abbrev pub due_in : List Beats → List Event
due_in answers = flat_map due_by answers

-- How many of these looks found the tick flag set.
abbrev pub ticks_in : List Beats → ℕ
ticks_in answers = length (filter (λ answer. answer.tick) answers)

-- How many of these looks found the probe flag set.
abbrev pub probes_in : List Beats → ℕ
probes_in answers = length (filter (λ answer. answer.probe) answers)

-- A number as a counter of 64 bits shows it, which stops at its maximum.
abbrev pub counter : ℕ → ℕ
counter number = min number (2 ^ 64 - 1)

-- These three counters are those of the answers: how often the flags were looked at, and how often
-- each was set.
abbrev pub HasLooked : ℕ → ℕ → ℕ → List Beats → Type 0
HasLooked looked found probes answers =
    (looked ≡ counter (length answers)) × (found ≡ counter (ticks_in answers))
    × (probes ≡ counter (probes_in answers))
