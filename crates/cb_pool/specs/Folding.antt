-- What becomes of the mempool over another UTXO set: transactions are offered in order, and each is
-- taken if it applies after those taken before it.
use Rattle.std.specs.Prelude.{◌≡◌, ◌≤◌, ◌⊎◌, ◌+◌, ℕ, is_some, if◌then◌else◌, List, [], ◌∷◌, ◌++◌, length, map, Option, None, Some, unwrap_or}
use Rattle.cb_block.specs.declared.tx.Tx.{Tx}
use Rattle.cb_ledger.specs.Unspent.{Unspent}
use Rattle.cb_pool.specs.declared.members.Pooled.{Pooled}
use Rattle.cb_pool.specs.Leaving.{touched_by_all}
use Rattle.cb_pool.specs.Listing.{Listing, Plan, number_after, txs_of}
use Rattle.cb_pool.specs.Rules.{Applies}

-- an offered transaction; one from the pool has its arrival number
pub record Offer : Type 0 where
  pub tx : Tx
  pub number : Option ℕ

abbrev pub new_offer : Tx → Offer
new_offer tx = record { tx = tx; number = None }

abbrev pub old_offer : Pooled → Offer
old_offer pooled = record { tx = pooled.tx; number = Some pooled.number }

-- `kept` are those of the offers that apply, each after `taken` and those kept before it.
abbrev pub Folds : Unspent → List Tx → List Offer → List Offer → Type 0
Folds u taken [] kept = kept ≡ []
Folds u taken (offer ∷ offers) kept =
    (Applies u taken offer.tx
    × ((rest : List Offer) × (kept ≡ offer ∷ rest)
    × Folds u (taken ++ offer.tx ∷ []) offers rest))
    ⊎ ((¬ Applies u taken offer.tx) × Folds u taken offers kept)

-- the next number after these offers, of which each new one takes a number
abbrev pub next_after : ℕ → List Offer → ℕ
next_after next [] = next
next_after next (offer ∷ offers) =
    next_after (if is_some offer.number then next else number_after next) offers

-- Transactions from the pool keep their numbers, and new ones take the next ones.
abbrev pub numbered : ℕ → List Offer → List Pooled
numbered next [] = []
numbered next (offer ∷ offers) =
    record { tx = offer.tx; number = unwrap_or offer.number next }
    ∷ numbered (if is_some offer.number then next else number_after next) offers

-- The new pool has what applies in order: of the first transactions, and then of the old pool.
pub record Refolds (u : Unspent) (first : List Tx) (old new : Listing) : Type 0 where
  pub kept : List Offer
  pub folds : Folds u [] (map new_offer first ++ map old_offer old.list) kept
  pub list_is : new.list ≡ numbered old.next kept
  pub next_is : new.next ≡ next_after old.next kept

-- The state of a loop over the offers `all`, of which `rest` is still to come. What `rest` and any
-- later offers lead to, with the ones kept so far in front, is what `all` and those later offers
-- lead to. The list has grown by the kept ones with their numbers.
pub record Took (u : Unspent) (all rest : List Offer) (next : ℕ) (old now : List Pooled) (last : ℕ)
    : Type 0 where
  pub kept : List Offer
  pub folds : (more others : List Offer) → Folds u (txs_of now) (rest ++ more) others
      → Folds u (txs_of old) (all ++ more) (kept ++ others)
  pub list_is : now ≡ old ++ numbered next kept
  pub next_is : last ≡ next_after next kept

-- the plan has room for its own transactions and for those of the list
pub record HasRoom (plan : Plan) (list : List Pooled) : Type 0 where
  pub places : length plan.first + length list ≤ plan.places
  pub coins : touched_by_all plan.first + touched_by_all (txs_of list) ≤ plan.coins
