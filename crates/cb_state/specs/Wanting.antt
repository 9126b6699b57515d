-- Which inventory entries are wanted (Bitcoin's protocol, `inv`).
use Rattle.std.specs.Prelude.{◌≡◌, Bool, true, false, ◌&&◌, not, nat_eq, if◌then◌else◌, List, [], ◌∷◌, ◌++◌, filter, Option, None, Some}
use Rattle.std.specs.List.{list_any}
use Rattle.std.specs.Option.{option_map_or}
use Rattle.cb_base.specs.declared.hash.Hash256.{Hash256}
use Rattle.cb_chain.specs.Best.{best}
use Rattle.cb_chain.specs.Entries.{Entry, entry_of, is_lacking, same}
use Rattle.cb_chain.specs.Locator.{locator_of}
use Rattle.cb_pool.specs.Listing.{txs_of}
use Rattle.cb_pool.specs.Rules.{is_named_in}
use Rattle.cb_wire.specs.declared.inventory.Inventory.{Inventory}
use Rattle.cb_wire.specs.declared.inventory.Inventory.TheVariants.{Tx, Block, CompactBlock, Other}
use Rattle.cb_state.specs.declared.wanting.Need.{Need}
use Rattle.cb_state.specs.State.{RelayState}

abbrev pub same_entry : Inventory → Inventory → Bool
same_entry (Tx a) (Tx b) = same a b
same_entry (Block a) (Block b) = same a b
same_entry (CompactBlock a) (CompactBlock b) = same a b
same_entry (Other kind a) (Other other b) = nat_eq kind other && same a b
same_entry a b = false

-- Each different entry once, at its first place.
unfoldable pub once : List Inventory → List Inventory
once [] = []
once (entry ∷ entries) = entry ∷ filter (λ other. not (same_entry entry other)) (once entries)

-- Wanted are transactions that aren't in the mempool, and blocks that are neither kept nor marked
-- bad.
abbrev pub is_wanted : RelayState → Inventory → Bool
is_wanted state (Tx txid) = not (is_named_in (txs_of state.pool.list) txid)
is_wanted state (Block hash) = is_lacking state.tree hash
is_wanted state other = false

abbrev pub wanted_of : RelayState → List Inventory → List Inventory
wanted_of state entries = filter (is_wanted state) (once entries)

abbrev pub is_block : Inventory → Bool
is_block (Block hash) = true
is_block other = false

abbrev pub blocks_of : List Inventory → List Inventory
blocks_of entries = filter is_block entries

-- The header is known, and its parent is the tip.
abbrev pub stands_on_tip : RelayState → Option Entry → Bool
stands_on_tip state None = false
stands_on_tip state (Some entry) = same entry.header.prev (best state.tree)

-- The hash of the block, if the list is one block alone.
abbrev pub only_block : List Inventory → Option Hash256
only_block (Block hash ∷ []) = Some hash
only_block other = None

-- There is exactly one block, and its parent is the tip.
abbrev pub is_near : RelayState → List Inventory → Bool
is_near state blocks =
    option_map_or (λ hash. stands_on_tip state (entry_of state.tree hash)) (only_block blocks) false

pub record IsNeed (state : RelayState) (entries : List Inventory) (need : Need) : Type 0 where
  pub wanted : need.entries ≡ wanted_of state entries
  pub near : need.near ≡ is_near state (blocks_of need.entries)
  pub locator : need.locator
      ≡ (if list_any is_block need.entries then locator_of state.tree else [])

-- ---- while entries are gone through

abbrev pub is_listed : List Inventory → Inventory → Bool
is_listed listed entry = list_any (λ other. same_entry other entry) listed

-- The list with the entry appended, unless it is listed.
abbrev pub with_entry : List Inventory → Inventory → List Inventory
with_entry listed entry = if is_listed listed entry then listed else listed ++ entry ∷ []

-- The same, if the entry is wanted.
abbrev pub with_wanted : RelayState → List Inventory → Inventory → List Inventory
with_wanted state listed entry = if is_wanted state entry then with_entry listed entry else listed

-- The two predicates tell exactly the listed txids and the listed block hashes.
pub record AreNoted (is_tx is_noted_block : Hash256 → Bool) (listed : List Inventory) : Type 0 where
  pub txs : (txid : Hash256) → is_tx txid ≡ is_listed listed (Tx txid)
  pub blocks : (hash : Hash256) → is_noted_block hash ≡ is_listed listed (Block hash)
