-- Changes to the UTXO set, and how they are undone.
use Rattle.std.specs.Prelude.{◌≡◌, ◌≢◌, ⊤, ℤ, List, [], ◌∷◌, Ok, Option, None, Some}
use Rattle.std.specs.List.{AllByRecursion}
use Rattle.std.specs.FinMap as map
use Rattle.cb_block.specs.declared.tx.OutPoint.{OutPoint}
use Rattle.cb_block.specs.declared.tx.Tx.{Tx}
use Rattle.cb_ledger.specs.declared.undo.CoinChange.{CoinChange}
use Rattle.cb_ledger.specs.Spend.{spend}
use Rattle.cb_ledger.specs.Unspent.{Unspent}

-- an outpoint gets a value, or is removed
abbrev pub set_at : Unspent → OutPoint → Option ℤ → Unspent
set_at u point None = map.remove u point
set_at u point (Some value) = map.insert u point value

-- the UTXO set after the changes; if an outpoint occurs twice, the first of its changes counts
unfoldable pub changed : Unspent → List CoinChange → Unspent
changed u [] = u
changed u (change ∷ changes) = set_at (changed u changes) change.point change.value

-- no outpoint occurs twice
abbrev pub StandOnce : List CoinChange → Type 0
StandOnce [] = ⊤
StandOnce (change ∷ changes) =
    AllByRecursion (λ other. other.point ≢ change.point) changes × StandOnce changes

-- the changes of a list of pairs
abbrev pub changes_of : List (OutPoint × Option ℤ) → List CoinChange
changes_of [] = []
changes_of (entry ∷ entries) = record { point = entry.0; value = entry.1 } ∷ changes_of entries

-- what the outpoints of these changes have in the UTXO set
abbrev pub values_of : Unspent → List CoinChange → List CoinChange
values_of u [] = []
values_of u (change ∷ changes) =
    record { point = change.point; value = map.get u change.point } ∷ values_of u changes

-- The changes undo the transactions: they lead from the UTXO set after them to the one before.
pub record LeadsBack (changes : List CoinChange) (txs : List Tx) (before after : Unspent)
    : Type 0 where
  pub spent : spend before txs ≡ Ok after
  pub back : changed after changes ≡ before
