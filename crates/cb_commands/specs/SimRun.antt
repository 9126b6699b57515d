-- A run of `sim`: its stage, and what a line does to it.
use Rattle.std.specs.Prelude.{◌≡◌, ℕ, ◌+◌, ◌-◌, ◌^◌, min, Bool, true, if◌then◌else◌, ◌⊎◌, List, [], ◌∷◌, ◌++◌, codes}
use Rattle.std.specs.Fmt.{decimal}
use Rattle.cb_base.specs.Fault.{fault_text}
use Rattle.cb_base.specs.declared.fault.Fault.TheVariants.{NotEnabled}
use Rattle.cb_crew.specs.declared.act.Act.{Act}
use Rattle.cb_crew.specs.CrewModel.{Crew, Machine, IsEnabled, Step, opening_crew}
use Rattle.cb_commands.specs.declared.sim.Flow.{Flow}
use Rattle.cb_commands.specs.declared.sim.Flow.TheVariants.{Next, Stop}
use Rattle.cb_commands.specs.declared.sim.RunStage.{RunStage}
use Rattle.cb_commands.specs.declared.sim.RunStage.TheVariants.{Opening, Running, Unreadable}
use Rattle.cb_commands.specs.declared.sim.read.Sizes.{Sizes}
use Rattle.cb_commands.specs.SimLine.{TellsAct, TellsSizes}
use Rattle.cb_commands.specs.SimReport.{report_text}

-- how contracts see a Simulation
pub record SimState : Type 0 where
  pub lines : ℕ  -- how many lines came, up to 2^64 - 1
  pub stage : RunStage  -- the stage of the run
  pub refused : Bool  -- whether an act was refused

-- the number of the next line
abbrev pub line_after : ℕ → ℕ
line_after n = min (n + 1) (2 ^ 64 - 1)

-- what is printed for a line that can't be read
abbrev pub unreadable_text : ℕ → List ℕ
unreadable_text n = decimal n ++ codes " unreadable" ++ 10 ∷ []

-- what is printed for an act that isn't possible
abbrev pub refusal_text : ℕ → List ℕ
refusal_text n = decimal n ++ codes " " ++ fault_text NotEnabled ++ 10 ∷ []

-- the same run at the next line and another stage
abbrev pub at_stage : SimState → RunStage → SimState
at_stage old stage = record { lines = line_after old.lines; stage = stage; refused = old.refused }

-- The line can't be read. That is printed, and the run is over.
abbrev pub IsUnreadable : SimState → Flow → List ℕ → SimState → Type 0
IsUnreadable old flow printed new =
    (flow ≡ Stop) × (printed ≡ unreadable_text (line_after old.lines))
    × (new ≡ at_stage old Unreadable)

-- The line has the sizes of the crew. The crew is then in its opening state.
abbrev pub Opens : List ℕ → SimState → Flow → List ℕ → SimState → Type 0
Opens text old flow printed new =
    (sizes : Sizes) × TellsSizes text sizes × (flow ≡ Next) × (printed ≡ [])
    × (new
    ≡ at_stage old
    (Running
    (record { capacity = sizes.capacity; crew = opening_crew sizes.peers sizes.handlers })))

-- The act is possible and is done.
abbrev pub Comes : Machine → Act → SimState → List ℕ → SimState → Type 0
Comes m act old printed new =
    (crew : Crew) × Step m.capacity m.crew act crew × (printed ≡ [])
    × (new ≡ at_stage old (Running (record { capacity = m.capacity; crew = crew })))

-- The act isn't possible. That is printed, and the crew is unchanged.
abbrev pub IsRefused : Machine → Act → SimState → List ℕ → SimState → Type 0
IsRefused m act old printed new =
    (IsEnabled m.capacity m.crew act → ⊥) × (printed ≡ refusal_text (line_after old.lines))
    × (new ≡ record { lines = line_after old.lines; stage = Running m; refused = true })

-- The line is an act, which is done or refused.
abbrev pub Acts : Machine → List ℕ → SimState → Flow → List ℕ → SimState → Type 0
Acts m text old flow printed new =
    (act : Act) × TellsAct text act × (flow ≡ Next)
    × (Comes m act old printed new ⊎ IsRefused m act old printed new)

-- what a line does, by the stage of the run
abbrev pub LineAt : RunStage → List ℕ → SimState → Flow → List ℕ → SimState → Type 0
LineAt Opening text old flow printed new =
    Opens text old flow printed new
    ⊎ (((sizes : Sizes) → TellsSizes text sizes → ⊥) × IsUnreadable old flow printed new)
LineAt (Running m) text old flow printed new =
    Acts m text old flow printed new
    ⊎ (((act : Act) → TellsAct text act → ⊥) × IsUnreadable old flow printed new)
LineAt Unreadable text old flow printed new =
    (flow ≡ Stop) × (printed ≡ []) × (new ≡ at_stage old Unreadable)

-- A line with this text leads the run from old to new, prints this, and tells whether the run goes
-- on.
abbrev pub DoesLine : List ℕ → SimState → Flow → List ℕ → SimState → Type 0
DoesLine text old flow printed new = LineAt old.stage text old flow printed new

-- the exit status of a run that ends at this stage
abbrev pub status_of : RunStage → Bool → ℕ
status_of Opening refused = 3
status_of (Running m) refused = if refused then 2 else 0
status_of Unreadable refused = 3

-- what is printed at the end: that there was no first line, or the report, or nothing if a line
-- couldn't be read
abbrev pub final_text : RunStage → List ℕ
final_text Opening = codes "1 unreadable" ++ 10 ∷ []
final_text (Running m) = report_text m.crew
final_text Unreadable = []
