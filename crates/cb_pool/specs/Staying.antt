-- Which transactions of a pool stay once others are spent first, worked out from the outputs at
-- which the UTXO sets differ.
use Rattle.std.specs.Prelude.{◌≡◌, ◌<◌, ◌⊎◌, ⊤, ℕ, Bool, true, false, ◌&&◌, ◌==◌, nat_eq, not, if◌then◌else◌, List, [], ◌++◌, length, filter, ℤ, Option, None, Some, is_some, IsOk, Ok}
use Rattle.std.specs.Cmp.Lexicographic.{pointwise}
use Rattle.std.specs.FinMap as finite
use Rattle.std.specs.List.{list_any}
use Rattle.std.specs.Map.{lookup}
use Rattle.cb_base.specs.declared.hash.Hash256.{Hash256}
use Rattle.cb_block.specs.declared.tx.OutPoint.{OutPoint}
use Rattle.cb_block.specs.declared.tx.TxIn.{TxIn}
use Rattle.cb_block.specs.declared.tx.Tx.{Tx}
use Rattle.cb_ledger.specs.Spend.{is_coinbase, spend, spend_tx}
use Rattle.cb_ledger.specs.Touched.{IsNamed}
use Rattle.cb_ledger.specs.Undo.{changed, changes_of}
use Rattle.cb_ledger.specs.Unspent.{Unspent}
use Rattle.cb_pool.specs.declared.marks.OutputMark.{OutputMark}
use Rattle.cb_pool.specs.declared.marks.OutputMark.TheVariants.{Gone, Holds, Same, Unknown}
use Rattle.cb_pool.specs.declared.members.Pooled.{Pooled}
use Rattle.cb_pool.specs.Folding.{Refolds}
use Rattle.cb_pool.specs.Leaving.{after_txs}
use Rattle.cb_pool.specs.Listing.{txs_of}
use Rattle.cb_pool.specs.Rules.{same}
use Rattle.cb_block.specs.Txid.{txid_of}
use Rattle.cb_pool.specs.Touching.{IsTouchedBy}

abbrev pub Marking : Type 0
Marking = List (OutPoint × OutputMark)

abbrev pub same_point : OutPoint → OutPoint → Bool
same_point a b = pointwise nat_eq a.txid.0 b.txid.0 && (a.index == b.index)

-- the mark of an output
abbrev pub mark_at : Marking → OutPoint → Option OutputMark
mark_at marks point = lookup (same_point point) marks

-- What a mark says of an output's value in one UTXO set and in another. Without a mark it is the
-- same.
abbrev pub Says : Option OutputMark → Option ℤ → Option ℤ → Type 0
Says None was now = was ≡ now
Says (Some Gone) was now = now ≡ None
Says (Some (Holds value)) was now = now ≡ Some value
Says (Some Same) was now = was ≡ now
Says (Some Unknown) was now = ⊤

-- the marks tell where the two UTXO sets differ
abbrev pub Tells : Marking → Unspent → Unspent → Type 0
Tells marks was now =
    (point : OutPoint) → Says (mark_at marks point) (finite.get was point) (finite.get now point)

-- no mark, or one that says that nothing differs
abbrev pub IsLevel : Option OutputMark → Type 0
IsLevel None = ⊤
IsLevel (Some Gone) = ⊥
IsLevel (Some (Holds value)) = ⊥
IsLevel (Some Same) = ⊤
IsLevel (Some Unknown) = ⊥

-- the outputs of these inputs have the mark, and all others the ones that they had
abbrev pub AreMarked : List TxIn → OutputMark → Marking → Marking → Type 0
AreMarked inputs mark old new =
    (point : OutPoint)
    → (IsNamed inputs point × (mark_at new point ≡ Some mark))
    ⊎ ((¬ IsNamed inputs point) × (mark_at new point ≡ mark_at old point))

-- the same of a transaction of a block; a coinbase spends nothing
abbrev pub AreSpent : List TxIn → Marking → Marking → Type 0
AreSpent inputs old new =
    ((is_coinbase inputs ≡ true) × (new ≡ old))
    ⊎ ((is_coinbase inputs ≡ false) × AreMarked inputs Gone old new)

-- the txid is among these
abbrev pub is_gone : List Hash256 → Hash256 → Bool
is_gone gone txid = list_any (same txid) gone

-- those of a list whose txids aren't among these
abbrev pub staying : List Hash256 → List Pooled → List Pooled
staying gone list = filter (λ pooled. not (is_gone gone (txid_of pooled.tx))) list

-- The marks lead from the UTXO set before a transaction of the pool to the one behind it, while the
-- other UTXO set stays. What it touches has a mark.
pub record Moves (tx : Tx) (old new : Marking) : Type 0 where
  pub tells : (was now next : Unspent) → spend_tx was tx ≡ Ok next → Tells old was now
      → Tells new next now
  pub marked : (point : OutPoint) → mark_at new point ≡ None
      → (mark_at old point ≡ None) × (¬ IsTouchedBy tx point)

-- What became of a transaction of the pool. It stays if nothing differs at the outputs that it
-- touches. It leaves if one that it spends is gone; then what it spent is no longer known, and the
-- marks lead from behind it.
pub data Turned (tx : Tx) (old new : Marking) (gone more : List Hash256) : Type 0 where
  stays : new ≡ old → more ≡ gone
      → ((point : OutPoint) → IsTouchedBy tx point → IsLevel (mark_at old point))
      → Turned tx old new gone more
  leaves : (point : OutPoint) → IsNamed tx.inputs point → mark_at old point ≡ Some Gone
      → ((txid : Hash256)
      → is_gone more txid ≡ (if same (txid_of tx) txid then true else is_gone gone txid))
      → Moves tx old new → Turned tx old new gone more

-- Behind these transactions and behind those of them that stay, an output without a mark is the
-- same.
abbrev pub Agree : Marking → List Tx → List Tx → Type 0
Agree marks all kept =
    (u : Unspent) (point : OutPoint) → mark_at marks point ≡ None
    → finite.get (after_txs u all) point ≡ finite.get (after_txs u kept) point

-- Behind these transactions an output with a mark is what the changes say.
abbrev pub Covers : Marking → List (OutPoint × Option ℤ) → List Tx → Type 0
Covers marks coins kept =
    (u : Unspent) (point : OutPoint) → is_some (mark_at marks point) ≡ true
    → finite.get (changed u (changes_of coins)) point ≡ finite.get (after_txs u kept) point

-- the new pool's list is that of those that apply in order
pub record StaysOf (after : Unspent) (list kept : List Pooled) : Type 0 where
  pub refolds : (next : ℕ)
      → Refolds after [] (record { list = list; next = next }) (record { list = kept; next = next })
  pub spends : IsOk (spend after (txs_of kept))

-- What contracts see of a plan for thinning a pool out: the marks, the txids of those that leave,
-- and the changes of those that stay, at the outputs with marks.
pub record Thin : Type 0 where
  pub marks : Marking
  pub gone : List Hash256
  pub coins : List (OutPoint × Option ℤ)

-- The plan fits the list: it says what those that stay leave in every UTXO set.
pub record Fits (plan : Thin) (list : List Pooled) : Type 0 where
  pub outside : Agree plan.marks (txs_of list) (txs_of (staying plan.gone list))
  pub inside : Covers plan.marks plan.coins (txs_of (staying plan.gone list))

-- The plan fits the list, and keeps those that apply in order over the UTXO set.
pub record ThinsOut (after : Unspent) (plan : Thin) (list : List Pooled) : Type 0 where
  pub fits : Fits plan list
  pub stay : StaysOf after list (staying plan.gone list)
