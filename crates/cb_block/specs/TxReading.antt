-- Reading a transaction from the left, up to the first fault.
use Rattle.std.specs.Prelude.{◌≡◌, ℕ, zero, suc, ◌*◌, ◌<◌, ◌⊎◌, List, [], ◌∷◌, length, nat_lt, if◌then◌else◌, Result, Ok, Err}
use Rattle.std.specs.Int.{w32, w64}
use Rattle.cb_base.specs.declared.fault.Fault.{Fault}
use Rattle.cb_base.specs.declared.fault.Fault.TheVariants.{Memory, Truncated}
use Rattle.cb_base.specs.declared.hash.Hash256.{Hash256}
use Rattle.cb_base.specs.CompactSize.{compact_at}
use Rattle.cb_base.specs.Reading.{Read, ◌>>=◌, bytes_at, number_at, signed_at}
use Rattle.cb_block.specs.declared.tx.TxIn.{TxIn}
use Rattle.cb_block.specs.declared.tx.TxOut.{TxOut}
use Rattle.cb_block.specs.declared.tx.Tx.{Tx}

-- The count of items that have at least so many bytes each. A count whose items can't fit in the
-- bytes left is refused.
unfoldable pub count_at : ℕ → List ℕ → Read ℕ
count_at least bytes = do
  n ← compact_at bytes
  if nat_lt (length n.1) (n.0 * least) then Err Truncated else Ok n

-- n items, one after the other
unfoldable pub items_at : {A : Type 0} → (List ℕ → Read A) → ℕ → List ℕ → Read (List A)
items_at item_at zero bytes = Ok ([], bytes)
items_at item_at (suc n) bytes = do
  first ← item_at bytes
  others ← items_at item_at n first.1
  Ok (first.0 ∷ others.0, others.1)

-- a list: its count, then its items
unfoldable pub list_at : {A : Type 0} → ℕ → (List ℕ → Read A) → List ℕ → Read (List A)
list_at least item_at bytes = do
  n ← count_at least bytes
  items_at item_at n.0 n.1

-- a script: its length, then its bytes
unfoldable pub script_at : List ℕ → Read (List ℕ)
script_at bytes = do
  n ← compact_at bytes
  bytes_at n.0 n.1

-- a hash of 32 bytes
unfoldable pub hash_at : List ℕ → Read Hash256
hash_at bytes = do
  hash ← bytes_at 32 bytes
  Ok (record { 0 = hash.0 }, hash.1)

unfoldable pub input_at : List ℕ → Read TxIn
input_at bytes = do
  txid ← hash_at bytes
  index ← number_at w32 txid.1
  script ← script_at index.1
  sequence ← number_at w32 script.1
  Ok (
    record {
      prev = record { txid = txid.0; index = index.0 };
      script = script.0;
      sequence = sequence.0;
    },
    sequence.1,
  )

unfoldable pub output_at : List ℕ → Read TxOut
output_at bytes = do
  value ← signed_at w64 bytes
  script ← script_at value.1
  Ok (record { value = value.0; script = script.0 }, script.1)

-- an input has at least 41 bytes, an output at least 9
unfoldable pub tx_at : List ℕ → Read Tx
tx_at bytes = do
  version ← signed_at w32 bytes
  inputs ← list_at 41 input_at version.1
  outputs ← list_at 9 output_at inputs.1
  lock_time ← number_at w32 outputs.1
  Ok (
    record {
      version = version.0;
      inputs = inputs.0;
      outputs = outputs.0;
      lock_time = lock_time.0;
    },
    lock_time.1,
  )

-- the version, then the count of inputs
unfoldable pub first_count_at : List ℕ → Read ℕ
first_count_at bytes = do
  version ← signed_at w32 bytes
  count_at 41 version.1

-- a count can be read, and it isn't 0: memory is allocated for the items
abbrev pub CountsSome : ℕ → List ℕ → Type 0
CountsSome least bytes = (n : ℕ × List ℕ) × (count_at least bytes ≡ Ok n) × (0 < n.0)

-- Reading a transaction allocates: it has inputs, or it has none and a count of outputs that counts
-- some.
abbrev pub TakesMemory : List ℕ → Type 0
TakesMemory bytes =
    (n : ℕ × List ℕ) × (first_count_at bytes ≡ Ok n) × ((0 < n.0) ⊎ CountsSome 9 n.1)

-- A step of a reader that allocates returned what the definition says, or memory ran out. After a
-- fault, the bytes that are left (new) can be any.
abbrev pub GivesInMemory : {A : Type 0} → Read A → Result A Fault → List ℕ → Type 0
GivesInMemory read (Ok value) new = read ≡ Ok (value, new)
GivesInMemory read (Err fault) new = (fault ≡ Memory) ⊎ (read ≡ Err fault)
