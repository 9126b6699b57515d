-- What a line does to a run, at the fields of a Simulation.
use Rattle.std.proofs.Common.{◌≡◌, ℕ, Bool, true, List, [], refl, sym, ap, subst, inl, inr}
use Rattle.cb_crew.specs.declared.act.Act.{Act}
use Rattle.cb_crew.specs.CrewModel.{Machine, IsEnabled, opening_crew}
use Rattle.cb_commands.specs.declared.sim.Flow.{Flow}
use Rattle.cb_commands.specs.declared.sim.Flow.TheVariants.{Next, Stop}
use Rattle.cb_commands.specs.declared.sim.RunStage.{RunStage}
use Rattle.cb_commands.specs.declared.sim.RunStage.TheVariants.{Opening, Running, Unreadable}
use Rattle.cb_commands.specs.declared.sim.read.Sizes.{Sizes}
use Rattle.cb_commands.specs.SimLine.{TellsAct, TellsSizes}
use Rattle.cb_commands.specs.SimRun.{SimState, DoesLine, LineAt, line_after, unreadable_text, refusal_text}

abbrev pub state_at : ℕ → RunStage → Bool → SimState
state_at lines stage refused = record { lines = lines; stage = stage; refused = refused }

-- a line at a stage that is known
at_known : (known : RunStage) (text : List ℕ) (lines : ℕ) (stage : RunStage) (refused : Bool) (flow : Flow) (printed : List ℕ) (new : SimState) → stage ≡ known → LineAt known text (state_at lines stage refused) flow printed new → DoesLine text (state_at lines stage refused) flow printed new
at_known known text lines stage refused flow printed new is does = subst (λ (s : RunStage). LineAt s text (state_at lines stage refused) flow printed new) (sym is) does

pub opens : (text : List ℕ) (lines : ℕ) (stage : RunStage) (refused : Bool) (n : ℕ) (sizes : Sizes) (m : Machine) → stage ≡ Opening → n ≡ line_after lines → TellsSizes text sizes → (m.capacity ≡ sizes.capacity) × (m.crew ≡ opening_crew sizes.peers sizes.handlers) → DoesLine text (state_at lines stage refused) Next [] (state_at n (Running m) refused)
opens text lines stage refused n sizes m is count told opening =
    at_known Opening text lines stage refused Next [] (state_at n (Running m) refused) is (inl (sizes, told, refl, refl, rw (count, ← opening.0, ← opening.1) refl))

pub cannot_open : (text : List ℕ) (lines : ℕ) (stage : RunStage) (refused : Bool) (n : ℕ) (flow : Flow) → stage ≡ Opening → n ≡ line_after lines → ((s : Sizes) → TellsSizes text s → ⊥) → flow ≡ Stop → DoesLine text (state_at lines stage refused) flow (unreadable_text n) (state_at n Unreadable refused)
cannot_open text lines stage refused n flow is count none stop =
    at_known Opening text lines stage refused flow (unreadable_text n) (state_at n Unreadable refused) is (inr (none, (stop, ap unreadable_text count, ap (λ k. state_at k Unreadable refused) count)))

pub refuses : (text : List ℕ) (lines : ℕ) (stage : RunStage) (refused : Bool) (n : ℕ) (m : Machine) (a : Act) → stage ≡ Running m → n ≡ line_after lines → TellsAct text a → (IsEnabled m.capacity m.crew a → ⊥) → DoesLine text (state_at lines stage refused) Next (refusal_text n) (state_at n (Running m) true)
refuses text lines stage refused n m a is count told fails =
    at_known (Running m) text lines stage refused Next (refusal_text n) (state_at n (Running m) true) is
    (inl (a, told, refl, inr (fails, ap refusal_text count, ap (λ k. state_at k (Running m) true) count)))
