-- The transactions of a compact block (BIP 152): short ids of those that it leaves out, and
-- prefilled transactions.
use Rattle.std.specs.Prelude.{◌≡◌, ◌⊎◌, ℕ, ◌+◌, ◌*◌, ◌^◌, ◌<◌, ◌≤◌, List, [], ◌∷◌, ◌++◌, length, take, nat_lt, ◌==◌, if◌then◌else◌, All, Ok, Err}
use Rattle.std.specs.Int.{w64, to_le_bytes, from_le_bytes}
use Rattle.cb_base.specs.declared.fault.Fault.TheVariants.{Truncated, TooMany, Empty}
use Rattle.cb_base.specs.CompactSize.{compact_at, compact_text}
use Rattle.cb_base.specs.Reading.{Read, ◌>>=◌, bytes_at}
use Rattle.cb_block.specs.TxReading.{count_at, items_at, list_at, tx_at}
use Rattle.cb_block.specs.TxText.{IsTx, list_text, tx_text}
use Rattle.cb_wire.specs.declared.prefilled.PrefilledTransaction.{PrefilledTransaction}

-- ---- a short id: 6 bytes, little-endian

abbrev pub short_id_text : ℕ → List ℕ
short_id_text id = take 6 (to_le_bytes w64 id)

unfoldable pub short_id_at : List ℕ → Read ℕ
short_id_at bytes = do
  six ← bytes_at 6 bytes
  Ok (from_le_bytes w64 (six.0 ++ 0 ∷ 0 ∷ []), six.1)

abbrev pub IsShortId : ℕ → Type 0
IsShortId id = id < 2 ^ 48

-- ---- a prefilled transaction: its differentially encoded index, and the transaction

unfoldable pub prefilled_text : PrefilledTransaction → List ℕ
prefilled_text p = compact_text p.difference ++ tx_text p.tx

unfoldable pub prefilled_at : List ℕ → Read PrefilledTransaction
prefilled_at bytes = do
  difference ← compact_at bytes
  tx ← tx_at difference.1
  Ok (record { difference = difference.0; tx = tx.0 }, tx.1)

pub record IsPrefilled (p : PrefilledTransaction) : Type 0 where
  pub difference : p.difference < 2 ^ 64
  pub tx : IsTx p.tx

-- ---- both lists

pub record ShortForm : Type 0 where
  pub ids : List ℕ
  pub prefilled : List PrefilledTransaction

-- there are 1 to 16,666 transactions in all, and each short id has 6 bytes
pub record IsShortForm (f : ShortForm) : Type 0 where
  pub some : 1 ≤ length f.ids + length f.prefilled
  pub few : length f.ids + length f.prefilled ≤ 16666
  pub ids : All IsShortId f.ids

unfoldable pub short_form_text : ShortForm → List ℕ
short_form_text f = list_text short_id_text f.ids ++ list_text prefilled_text f.prefilled

-- Reads the count of prefilled transactions after `ids` short ids. The sum is checked first, then
-- whether the prefilled transactions fit in the remaining bytes, at 11 bytes each.
unfoldable pub prefilled_count_at : ℕ → List ℕ → Read ℕ
prefilled_count_at ids bytes = do
  n ← compact_at bytes
  if ids + n.0 == 0
      then Err Empty
      else (if nat_lt 16666 (ids + n.0)
      then Err TooMany
      else (if nat_lt (length n.1) (n.0 * 11) then Err Truncated else Ok n))

unfoldable pub short_form_at : List ℕ → Read ShortForm
short_form_at bytes = do
  ids ← list_at 6 short_id_at bytes
  n ← prefilled_count_at (length ids.0) ids.1
  prefilled ← items_at prefilled_at n.0 n.1
  Ok (record { ids = ids.0; prefilled = prefilled.0 }, prefilled.1)

-- Reading allocates: there are short ids, or there are none and the count of prefilled transactions
-- can be read.
abbrev pub FormTakesMemory : List ℕ → Type 0
FormTakesMemory bytes =
    (n : ℕ × List ℕ) × (count_at 6 bytes ≡ Ok n)
    × ((0 < n.0) ⊎ ((m : ℕ × List ℕ) × (prefilled_count_at 0 n.1 ≡ Ok m)))
