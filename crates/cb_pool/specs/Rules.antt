-- Which transactions a pool takes, and why it refuses others.
use Rattle.std.specs.Prelude.{◌≡◌, ◌≢◌, ◌<◌, ◌≤◌, Bool, true, false, if◌then◌else◌, nat_eq, is_some, List, [], ◌∷◌, ◌++◌, length, Option, None, Some, Err, IsOk}
use Rattle.std.specs.Cmp.Lexicographic.{pointwise}
use Rattle.cb_base.specs.declared.fault.Fault.{Fault}
use Rattle.cb_base.specs.declared.fault.Fault.TheVariants.{BadCoinbase, BadTx, Known, NoInput, Overspent, PoolFull, Remade, Size64}
use Rattle.cb_base.specs.declared.hash.Hash256.{Hash256}
use Rattle.cb_block.specs.declared.tx.Tx.{Tx}
use Rattle.cb_block.specs.TxRules.{IsCoinbase, IsLeastBroken, MeetsFirst, MeetsRules}
use Rattle.cb_block.specs.TxText.{tx_text}
use Rattle.cb_ledger.specs.Spend.{spend}
use Rattle.cb_ledger.specs.Unspent.{Unspent}
use Rattle.cb_block.specs.Txid.{txid_of}

abbrev pub same : Hash256 → Hash256 → Bool
same a b = pointwise nat_eq a.0 b.0

-- the first of the transactions with the txid
abbrev pub named_in : List Tx → Hash256 → Option Tx
named_in [] txid = None
named_in (tx ∷ txs) txid = if same txid (txid_of tx) then Some tx else named_in txs txid

abbrev pub is_named_in : List Tx → Hash256 → Bool
is_named_in txs txid = is_some (named_in txs txid)

-- The transaction passes the checks that need no UTXO set: it breaks no transaction rule, is no
-- coinbase, and doesn't have the size of two joined hashes, 64 bytes (CVE-2017-12842).
pub record StandsAlone (tx : Tx) : Type 0 where
  pub rules : MeetsRules tx
  pub ordinary : ¬ IsCoinbase tx
  pub size : length (tx_text tx) ≢ 64

-- What can be checked without memory doesn't speak against the transaction: it meets the first five
-- rules and is no coinbase. The sixth rule needs memory if there are two inputs or more; the
-- transaction is then longer than 64 bytes.
abbrev pub IsUntold : Tx → Type 0
IsUntold tx = MeetsFirst tx × (¬ IsCoinbase tx) × (length tx.inputs < 2 → length (tx_text tx) ≢ 64)

-- The transaction can be taken after those taken before: none of them has its txid, it can be spent
-- after them over the UTXO set, and fewer than 10,000 are taken.
pub record Applies (u : Unspent) (taken : List Tx) (tx : Tx) : Type 0 where
  pub alone : StandsAlone tx
  pub fresh : is_named_in taken (txid_of tx) ≡ false
  pub spends : IsOk (spend u (taken ++ tx ∷ []))
  pub fits : length taken < 10000

-- The transaction passes its own checks and its txid is new, but it can't be spent after the
-- others.
abbrev pub CannotSpend : Unspent → List Tx → Tx → Fault → Type 0
CannotSpend u taken tx fault =
    StandsAlone tx × (is_named_in taken (txid_of tx) ≡ false)
    × (spend u (taken ++ tx ∷ []) ≡ Err fault)

-- The first reason why the transaction doesn't pass its own checks.
abbrev pub RefusesAlone : Tx → Fault → Type 0
RefusesAlone tx (BadTx rule) = IsLeastBroken tx rule
RefusesAlone tx BadCoinbase = MeetsRules tx × IsCoinbase tx
RefusesAlone tx Size64 = MeetsRules tx × (¬ IsCoinbase tx) × (length (tx_text tx) ≡ 64)
RefusesAlone tx other = ⊥

-- The first reason why the transaction isn't taken after the others.
abbrev pub Refuses : Unspent → List Tx → Tx → Fault → Type 0
Refuses u taken tx Known = StandsAlone tx × (is_named_in taken (txid_of tx) ≡ true)
Refuses u taken tx NoInput = CannotSpend u taken tx NoInput
Refuses u taken tx Overspent = CannotSpend u taken tx Overspent
Refuses u taken tx Remade = CannotSpend u taken tx Remade
Refuses u taken tx PoolFull =
    StandsAlone tx × (is_named_in taken (txid_of tx) ≡ false) × IsOk (spend u (taken ++ tx ∷ []))
    × (10000 ≤ length taken)
Refuses u taken tx other = RefusesAlone tx other
