-- The best chain (Bitcoin's consensus, where each block has the same work): the highest of the
-- blocks whose whole path can be connected, the first kept among equals. It is computed from the
-- tree alone, each time from the genesis block on.
use Rattle.std.specs.Prelude.{Bool, true, false, ◌&&◌, nat_lt, is_ok, if◌then◌else◌, List, [], ◌∷◌, reverse, Option, None, Some, unwrap_or, Result, Ok, Err}
use Rattle.std.specs.FinMap as map
use Rattle.cb_base.specs.declared.fault.Fault.{Fault}
use Rattle.cb_base.specs.declared.hash.Hash256.{Hash256}
use Rattle.cb_block.specs.declared.header.Header.{Header}
use Rattle.cb_block.specs.declared.block.Block.{Block}
use Rattle.cb_block.specs.Genesis.{genesis_header}
use Rattle.cb_ledger.specs.Spend.{spend}
use Rattle.cb_ledger.specs.Unspent.{Unspent}
use Rattle.cb_chain.specs.Entries.{Entry, Tree, block_hash, genesis_hash, same, height_of}

-- why the path to a block can't be connected: a block of it isn't kept, or is the first that can't
-- be spent after those below it
pub data Stop : Type 0 where
  missing : Hash256 → Stop
  faulty : Hash256 → Fault → Stop

abbrev pub stopped_at : Hash256 → Result Unspent Fault → Result Unspent Stop
stopped_at hash (Ok u) = Ok u
stopped_at hash (Err fault) = Err (faulty hash fault)

-- spends a block over the UTXO set, if it is kept
abbrev pub spend_block : Hash256 → Option Block → Unspent → Result Unspent Stop
spend_block hash None u = Err (missing hash)
spend_block hash (Some block) u = stopped_at hash (spend u block.txs)

-- spends a block after its path
abbrev pub then_spend : Entry → Result Unspent Stop → Result Unspent Stop
then_spend entry (Ok u) = spend_block (block_hash entry.header) entry.block u
then_spend entry (Err stop) = Err stop

-- The UTXO set after a block's whole path, or where the path stops. For an unknown hash it stops at
-- that hash. The outputs of the genesis block aren't unspent.
unfoldable pub unspent_after : Tree → Hash256 → Result Unspent Stop
unspent_after [] hash = if same hash genesis_hash then Ok map.empty else Err (missing hash)
unspent_after (entry ∷ older) hash =
    if same hash (block_hash entry.header)
    then then_spend entry (unspent_after older entry.header.prev)
    else unspent_after older hash

-- one known header is higher than another
abbrev pub is_higher : Tree → Hash256 → Hash256 → Bool
is_higher tree one other =
    nat_lt (unwrap_or (height_of tree other) 0) (unwrap_or (height_of tree one) 0)

-- the tip: a newer block replaces it only if it is higher
unfoldable pub best : Tree → Hash256
best [] = genesis_hash
best (entry ∷ older) =
    let hash = block_hash entry.header in
    if is_ok (unspent_after (entry ∷ older) hash) && is_higher (entry ∷ older) hash (best older)
    then hash
    else best older

-- the headers from a known one down to the genesis block's
unfoldable pub branch : Tree → Hash256 → List Header
branch [] hash = if same hash genesis_hash then genesis_header ∷ [] else []
branch (entry ∷ older) hash =
    if same hash (block_hash entry.header)
    then entry.header ∷ branch older entry.header.prev
    else branch older hash

-- the active chain: the headers from the genesis block's up to the tip's, each at the place of its
-- height
abbrev pub active : Tree → List Header
active tree = reverse (branch tree (best tree))

-- `first` is on the path of the kept block `hash`, or is that block
unfoldable pub leads_through : Tree → Hash256 → Hash256 → Bool
leads_through [] first hash = false
leads_through (entry ∷ older) first hash =
    if same hash (block_hash entry.header)
    then (if same hash first then true else leads_through older first entry.header.prev)
    else leads_through older first hash
