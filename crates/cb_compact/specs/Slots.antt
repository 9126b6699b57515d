-- A block that is rebuilt from its compact form (BIP 152): what stands at each place, what is
-- missing, and the whole list. Pairs are candidates: transactions with their short ids.
use Rattle.std.specs.Prelude.{◌≡◌, ℕ, ◌+◌, ◌-◌, ⊤, Bool, false, ◌==◌, List, [], ◌∷◌, ◌++◌, map, filter, take, drop, Option, Some, None}
use Rattle.std.specs.List.{list_any}
use Rattle.cb_block.specs.declared.tx.Tx.{Tx}
use Rattle.cb_block.specs.declared.header.Header.{Header}
use Rattle.cb_compact.specs.declared.form.Prefilled.{Prefilled}
use Rattle.cb_compact.specs.declared.named_tx.Pair.{Pair}

-- whether an id is in a list of ids
abbrev pub is_among : ℕ → List ℕ → Bool
is_among id ids = list_any (λ other. other == id) ids

-- no id occurs twice
abbrev pub AreDifferent : List ℕ → Type 0
AreDifferent [] = ⊤
AreDifferent (id ∷ others) = (is_among id others ≡ false) × AreDifferent others

-- the pairs that have this id
abbrev pub with_id : ℕ → List Pair → List Pair
with_id id pairs = filter (λ pair. pair.id == id) pairs

-- the transaction of the only pair, if there is exactly one
abbrev pub only_tx : List Pair → Option Tx
only_tx [] = None
only_tx (pair ∷ []) = Some pair.tx
only_tx (pair ∷ other ∷ others) = None

-- the transaction for an id: that of the only pair with this id, if there is exactly one
abbrev pub choice : List Pair → ℕ → Option Tx
choice pairs id = only_tx (with_id id pairs)

-- The slots from place `first` on: the prefilled transactions at their rising places, and the
-- others in order between them.
abbrev pub laid_out : ℕ → List Prefilled → List (Option Tx) → List (Option Tx)
laid_out first [] others = others
laid_out first (given ∷ more) others =
    take (given.place - first) others ++ Some given.tx
    ∷ laid_out (given.place + 1) more (drop (given.place - first) others)

-- The slots of the block: at each place the prefilled transaction, or the one for the id of the
-- place, or none.
abbrev pub slots : List ℕ → List Prefilled → List Pair → List (Option Tx)
slots ids prefilled pairs = laid_out 0 prefilled (map (choice pairs) ids)

-- the places, from `first` on, whose slots are empty
abbrev pub missing : ℕ → List (Option Tx) → List ℕ
missing first [] = []
missing first (None ∷ others) = first ∷ missing (first + 1) others
missing first (Some tx ∷ others) = missing (first + 1) others

-- all transactions: those of the slots, and the given ones in the empty slots, in order
abbrev pub filled : List (Option Tx) → List Tx → List Tx
filled [] txs = []
filled (Some tx ∷ others) txs = tx ∷ filled others txs
filled (None ∷ others) [] = filled others []
filled (None ∷ others) (tx ∷ txs) = tx ∷ filled others txs

-- a block of which some transactions may be missing
pub record Unfilled : Type 0 where
  pub header : Header
  pub slots : List (Option Tx)
