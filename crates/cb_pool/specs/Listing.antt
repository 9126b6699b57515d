-- What contracts see of a pool: its transactions in order, each with its arrival number.
use Rattle.std.specs.Prelude.{◌≡◌, ◌≢◌, ◌<◌, false, ℕ, ◌+◌, ⊤, min, nat_le, List, [], ◌∷◌, ◌++◌, map, filter}
use Rattle.std.specs.List.{AllByRecursion}
use Rattle.cb_base.specs.declared.hash.Hash256.{Hash256}
use Rattle.cb_block.specs.declared.tx.Tx.{Tx}
use Rattle.cb_pool.specs.declared.members.Pooled.{Pooled}
use Rattle.cb_pool.specs.Rules.{is_named_in}
use Rattle.cb_block.specs.Txid.{txid_of}

-- the transactions in order with their numbers, and the number of the next one
pub record Listing : Type 0 where
  pub list : List Pooled
  pub next : ℕ

abbrev pub txs_of : List Pooled → List Tx
txs_of list = map (λ pooled. pooled.tx) list

-- the number after another; the largest one of 64 bits is followed by itself
abbrev pub number_after : ℕ → ℕ
number_after number = min (number + 1) 18446744073709551615

-- one more transaction at the end, with the next number
abbrev pub with_last : Listing → Tx → Listing
with_last old tx = record {
  list = old.list ++ record { tx = tx; number = old.next } ∷ [];
  next = number_after old.next;
}

-- the txids of the transactions whose number is at least this one
abbrev pub since_of : List Pooled → ℕ → List Hash256
since_of list number =
    map (λ pooled. txid_of pooled.tx) (filter (λ pooled. nat_le number pooled.number) list)

-- the transactions in order, for how many more transactions there is room, and for how many more
-- outputs that they spend or make
pub record Roomy : Type 0 where
  pub list : List Pooled
  pub places : ℕ
  pub coins : ℕ

-- no two numbers are equal
abbrev pub Differ : List Pooled → Type 0
Differ [] = ⊤
Differ (pooled ∷ list) = AllByRecursion (λ other. other.number ≢ pooled.number) list × Differ list

-- As long as the next number isn't the largest one of 64 bits, each number is below it, and no two
-- are equal.
abbrev pub AreNumbered : List Pooled → ℕ → Type 0
AreNumbered list next =
    next < 18446744073709551615 → AllByRecursion (λ pooled. pooled.number < next) list × Differ list

-- What contracts see of a plan for refolding: the transactions that are offered first, for how many
-- transactions it has room, and for how many outputs that they spend or make.
pub record Plan : Type 0 where
  pub first : List Tx
  pub places : ℕ
  pub coins : ℕ

-- no two of the transactions have the same txid
abbrev pub NamesDiffer : List Tx → Type 0
NamesDiffer [] = ⊤
NamesDiffer (tx ∷ txs) = (is_named_in txs (txid_of tx) ≡ false) × NamesDiffer txs
