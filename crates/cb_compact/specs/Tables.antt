-- The table in which the short ids of pairs are looked up.
use Rattle.std.specs.Prelude.{◌≡◌, ℕ, zero, suc, false, nat_eq, List, [], ◌∷◌, map, slice_get, Option, Some, None}
use Rattle.std.specs.Map.{lookup}
use Rattle.cb_block.specs.declared.tx.Tx.{Tx}
use Rattle.cb_compact.specs.Slots.{is_among, with_id}
use Rattle.cb_compact.specs.declared.named_tx.Pair.{Pair}
use Rattle.cb_compact.specs.declared.table.Found.{Found}
use Rattle.cb_compact.specs.declared.table.Found.TheVariants.{Nobody, One, Several}
use Rattle.cb_compact.specs.declared.table.Table.{Table}

-- what was found: no pair, one, or several
abbrev pub found_of : List Pair → Found
found_of [] = Nobody
found_of (pair ∷ []) = One pair.tx
found_of (pair ∷ other ∷ others) = Several

-- one more pair was found
abbrev pub one_more : Found → Tx → Found
one_more Nobody tx = One tx
one_more (One other) tx = Several
one_more Several tx = Several

-- the transaction, if exactly one pair was found
abbrev pub found_tx : Found → Option Tx
found_tx Nobody = None
found_tx (One tx) = Some tx
found_tx Several = None

-- what was found for each of the ids, in order
abbrev pub all_found : List ℕ → List Pair → List Found
all_found ids pairs = map (λ id. found_of (with_id id pairs)) ids

-- the place of an id in the list of ids, if it is there
abbrev pub IsPlace : List ℕ → ℕ → Option ℕ → Type 0
IsPlace ids id None = is_among id ids ≡ false
IsPlace ids id (Some place) = slice_get ids place ≡ Some id

-- the entries have the place of each id
abbrev pub ArePlaces : List ℕ → List (ℕ × ℕ) → Type 0
ArePlaces ids entries = (id : ℕ) → IsPlace ids id (lookup (nat_eq id) entries)

-- The table of the ids: the place of each, and what was found for each among the pairs.
pub record IsTable (ids : List ℕ) (pairs : List Pair) (table : Table) : Type 0 where
  pub places : ArePlaces ids table.places.entries
  pub found : table.found.items ≡ all_found ids pairs

-- one more pair was found for the id at this place
abbrev pub more_at : ℕ → Tx → List Found → List Found
more_at place tx [] = []
more_at zero tx (found ∷ others) = one_more found tx ∷ others
more_at (suc place) tx (found ∷ others) = found ∷ more_at place tx others

-- one more pair was looked up: it is found if its id has a place
abbrev pub with_pair : Option ℕ → Tx → List Found → List Found
with_pair None tx found = found
with_pair (Some place) tx found = more_at place tx found
