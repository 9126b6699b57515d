-- What a reader puts into its peer's inbox.
use Rattle.std.specs.Prelude.{ℕ, List, [], ◌∷◌, length, map, Option, Some, None}
use Rattle.cb_wire.specs.declared.item.Item.{Item}
use Rattle.cb_wire.specs.declared.item.Item.TheVariants.{Good}
use Rattle.cb_wire.specs.Grammar.{payload_text}
use Rattle.cb_session.specs.declared.input.Input.{Input}
use Rattle.cb_session.specs.declared.input.Input.TheVariants as inputs

-- The number of payload bytes of an item.
abbrev pub item_payload : Item → ℕ
item_payload (Good message) = length (payload_text message)
item_payload other = 0

-- How many payload bytes an input stands for.
abbrev pub payload_of : Input → ℕ
payload_of (inputs.Said item) = item_payload item
payload_of other = 0

-- Items as inputs.
abbrev pub said : List Item → List Input
said items = map (λ item. inputs.Said item) items

-- An input if there is one.
abbrev pub maybe : Option Input → List Input
maybe None = []
maybe (Some input) = input ∷ []
