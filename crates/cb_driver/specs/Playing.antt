-- What is printed while a script is played.
use Rattle.std.specs.Prelude.{◌≡◌, ◌↔◌, ℕ, ◌+◌, ◌≤◌, ⊤, List, [], ◌∷◌, ◌++◌, length, Option, Some, None}
use Rattle.std.specs.Str.Lines.{lines}
use Rattle.cb_node.specs.Node.{NodeState}
use Rattle.cb_control.specs.declared.order.Deed.{Deed}
use Rattle.cb_control.specs.declared.order.Deed.TheVariants.{Kick}
use Rattle.cb_control.specs.declared.refusal.Refusal.{Refusal}
use Rattle.cb_control.specs.declared.refusal.Refusal.TheVariants.{NoSlot, Unreadable}
use Rattle.cb_control.specs.declared.script_line.ScriptOrder.{ScriptOrder}
use Rattle.cb_control.specs.declared.script_line.ScriptOrder.TheVariants.{Link, Wait, Obey}
use Rattle.cb_control.specs.declared.script_text.Tally.{Tally}
use Rattle.cb_control.specs.Outcomes.{CanEnd, good, outcome_text, tally_after}
use Rattle.cb_control.specs.ScriptLine.{ReadsScript}
use Rattle.cb_driver.specs.declared.playing.Played.{Played}
use Rattle.cb_driver.specs.declared.playing.Played.TheVariants as played

-- Each node has 64 slots.
abbrev pub HasSlots : NodeState → Type 0
HasSlots node = length node.used ≡ 64

-- A kick of a slot that nodes don't have is told so, and no other kick is.
abbrev pub TellsKick : Deed → Option Refusal → Type 0
TellsKick (Kick slot) outcome = (outcome ≡ Some NoSlot) ↔ (64 ≤ slot)
TellsKick other outcome = ⊤

-- what can become of an order
abbrev pub CanBecome : ScriptOrder → Option Refusal → Type 0
CanBecome Wait outcome = CanEnd Wait outcome
CanBecome (Link first second) outcome = CanEnd (Link first second) outcome
CanBecome (Obey node deed) outcome = CanEnd (Obey node deed) outcome × TellsKick deed outcome

-- These lines, the first of which has this number, can all be read. This is printed for them, and
-- they lead from the old tally to the new one.
abbrev pub PlaysLines : ℕ → ℕ → List (List ℕ) → Tally → List ℕ → Tally → Type 0
PlaysLines nodes number [] old printed new = (printed ≡ []) × (new ≡ old)
PlaysLines nodes number (text ∷ more) old printed new =
    (order : ScriptOrder) × (outcome : Option Refusal) × (rest : List ℕ)
    × ReadsScript nodes text (Some order) × CanBecome order outcome
    × (printed ≡ outcome_text number outcome ++ rest)
    × PlaysLines nodes (number + 1) more (tally_after old outcome) rest new

-- A line can't be read. What the lines before it print is followed by its number.
pub record PlaysUpTo (nodes : ℕ) (input out : List ℕ) : Type 0 where
  pub before : List (List ℕ)
  pub line : List ℕ
  pub after : List (List ℕ)
  pub text : List ℕ
  pub tally : Tally
  pub lines_are : lines input ≡ before ++ (line ∷ after)
  pub plays : PlaysLines nodes 1 before good text tally
  pub unreadable : ReadsScript nodes line None
  pub out_is : out ≡ text ++ outcome_text (length before + 1) (Some Unreadable)

-- what is printed for a whole script, by how its playing ended
abbrev pub Plays : ℕ → List ℕ → List ℕ → Played → Type 0
Plays nodes input out (played.Whole tally) = PlaysLines nodes 1 (lines input) good out tally
Plays nodes input out played.Unreadable = PlaysUpTo nodes input out

-- the same, if the bytes of the reader and the writer are known
abbrev pub PlaysKnown : ℕ → Option (List ℕ) → Option (List ℕ) → Option (List ℕ) → Played → Type 0
PlaysKnown nodes None old new how = ⊤
PlaysKnown nodes (Some input) None new how = ⊤
PlaysKnown nodes (Some input) (Some held) None how = ⊥
PlaysKnown nodes (Some input) (Some held) (Some holds) how =
    (out : List ℕ) × (holds ≡ held ++ out) × Plays nodes input out how
