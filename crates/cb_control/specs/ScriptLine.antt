-- How a line of a script gives an order: the node's number stands behind the word.
use Rattle.std.specs.Prelude.{◌≡◌, ℕ, ◌^◌, ◌<◌, ⊤, List, ◌∷◌, ◌++◌, codes, Option, Some, MatchOption}
use Rattle.std.specs.Str.{IsUtf8}
use Rattle.cb_control.specs.Words.{number_in}
use Rattle.cb_control.specs.declared.order.Deed.{Deed}
use Rattle.cb_control.specs.declared.order.Deed.TheVariants.{Tx, Submit, Mine, Kick, Checkpoint}
use Rattle.cb_control.specs.declared.script_line.ScriptOrder.{ScriptOrder}
use Rattle.cb_control.specs.declared.script_line.ScriptOrder.TheVariants.{Link, Wait, Obey}
use Rattle.cb_control.specs.OrderLine.{Names}
use Rattle.cb_control.specs.Written.{block_in, tx_in}

-- a word and two texts behind it that are read as these values, with one space before each
abbrev pub NamesTwo : {A B : Type 0} → List ℕ → (List ℕ → Option A) → (List ℕ → Option B) → List ℕ
    → A → B → Type 0
NamesTwo word value other line a b =
    (first second : List ℕ) × (line ≡ word ++ 32 ∷ (first ++ 32 ∷ second)) × (value first ≡ Some a)
    × (other second ≡ Some b)

-- The line of what one of so many nodes is to do. It mines one block at a time.
abbrev pub GivesNode : ℕ → List ℕ → ℕ → Deed → Type 0
GivesNode nodes line node (Tx tx) = NamesTwo (codes "tx") (number_in nodes) tx_in line node tx
GivesNode nodes line node (Submit block) =
    NamesTwo (codes "block") (number_in nodes) block_in line node block
GivesNode nodes line node (Mine count) =
    Names (codes "mine") (number_in nodes) line node × (count ≡ 1)
GivesNode nodes line node (Kick slot) =
    NamesTwo (codes "kick") (number_in nodes) (number_in (2 ^ 16)) line node slot
GivesNode nodes line node Checkpoint = Names (codes "checkpoint") (number_in nodes) line node

-- the line of an order to so many nodes
abbrev pub GivesScript : ℕ → List ℕ → ScriptOrder → Type 0
GivesScript nodes line (Obey node deed) = GivesNode nodes line node deed
GivesScript nodes line (Link first second) =
    NamesTwo (codes "link") (number_in nodes) (number_in nodes) line first second
GivesScript nodes line Wait = line ≡ codes "wait"

-- The line gives this order, or none. One that isn't UTF-8 gives none.
abbrev pub ReadsScript : ℕ → List ℕ → Option ScriptOrder → Type 0
ReadsScript nodes line read =
    MatchOption read ((order : ScriptOrder) → IsUtf8 line → GivesScript nodes line order → ⊥)
    (λ order. IsUtf8 line × GivesScript nodes line order)

-- the nodes of the order are among so many
abbrev pub IsAmong : ℕ → ScriptOrder → Type 0
IsAmong nodes Wait = ⊤
IsAmong nodes (Link first second) = (first < nodes) × (second < nodes)
IsAmong nodes (Obey node deed) = node < nodes
