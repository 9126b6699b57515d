-- Lists in messages of Bitcoin's peer-to-peer protocol (inv, getdata, notfound, headers,
-- getheaders, getblocktxn): a count, which has a limit, then the items.
use Rattle.std.specs.Prelude.{◌≡◌, ℕ, ◌*◌, ◌^◌, ◌<◌, List, ◌++◌, length, nat_eq, nat_lt, if◌then◌else◌, Ok, Err}
use Rattle.std.specs.Int.{w32, to_le_bytes}
use Rattle.cb_base.specs.declared.fault.Fault.TheVariants.{Truncated, TooMany}
use Rattle.cb_base.specs.declared.hash.Hash256.{Hash256}
use Rattle.cb_base.specs.CompactSize.{compact_at}
use Rattle.cb_base.specs.Reading.{Read, ◌>>=◌, number_at}
use Rattle.cb_block.specs.TxReading.{hash_at, items_at}
use Rattle.cb_wire.specs.declared.inventory.Inventory.{Inventory}
use Rattle.cb_wire.specs.declared.inventory.Inventory.TheVariants as kinds

-- Reads a count of items that have at least `size` bytes each. A count above the limit is refused
-- first. A count whose items don't fit in the remaining bytes is refused next.
unfoldable pub limited_at : ℕ → ℕ → List ℕ → Read ℕ
limited_at most size bytes = do
  n ← compact_at bytes
  if nat_lt most n.0
      then Err TooMany
      else (if nat_lt (length n.1) (n.0 * size) then Err Truncated else Ok n)

-- reads such a count and that many items
unfoldable pub listed_at : {A : Type 0} → ℕ → ℕ → (List ℕ → Read A) → List ℕ → Read (List A)
listed_at most size item_at bytes = do
  n ← limited_at most size bytes
  items_at item_at n.0 n.1

-- such a count can be read and isn't 0: memory is allocated for the items
abbrev pub CountsSome : ℕ → ℕ → List ℕ → Type 0
CountsSome most size bytes = (n : ℕ × List ℕ) × (limited_at most size bytes ≡ Ok n) × (0 < n.0)

-- ---- a hash

abbrev pub hash_text : Hash256 → List ℕ
hash_text hash = hash.0

abbrev pub IsHash : Hash256 → Type 0
IsHash hash = length hash.0 ≡ 32

-- ---- an inventory entry: a type and a hash

abbrev pub kind_of : Inventory → ℕ
kind_of (kinds.Tx txid) = 1
kind_of (kinds.Block hash) = 2
kind_of (kinds.CompactBlock hash) = 4
kind_of (kinds.Other kind hash) = kind

abbrev pub hash_in : Inventory → Hash256
hash_in (kinds.Tx txid) = txid
hash_in (kinds.Block hash) = hash
hash_in (kinds.CompactBlock hash) = hash
hash_in (kinds.Other kind hash) = hash

-- The entry of a type and a hash.
abbrev pub named : ℕ → Hash256 → Inventory
named kind hash =
    if nat_eq kind 1 then kinds.Tx hash else if nat_eq kind 2 then kinds.Block hash
    else if nat_eq kind 4 then kinds.CompactBlock hash else kinds.Other kind hash

unfoldable pub entry_text : Inventory → List ℕ
entry_text entry = to_le_bytes w32 (kind_of entry) ++ (hash_in entry).0

unfoldable pub entry_at : List ℕ → Read Inventory
entry_at bytes = do
  kind ← number_at w32 bytes
  hash ← hash_at kind.1
  Ok (named kind.0 hash.0, hash.1)

-- A known type stands under its name.
pub record IsEntry (entry : Inventory) : Type 0 where
  pub kind : kind_of entry < 2 ^ 32
  pub known : named (kind_of entry) (hash_in entry) ≡ entry
  pub hash : length (hash_in entry).0 ≡ 32
