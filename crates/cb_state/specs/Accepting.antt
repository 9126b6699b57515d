-- What a transaction, a block and headers do to the shared state, and what the answer is (Bitcoin's
-- protocol).
use Rattle.std.specs.Prelude.{◌≡◌, ◌⊎◌, ℤ, Bool, true, false, List, [], ◌∷◌, drop, filter, map, reverse, Option, None, Some, Result, Ok, Err}
use Rattle.std.specs.List.{flat_map}
use Rattle.cb_base.specs.declared.fault.Fault.{Fault}
use Rattle.cb_base.specs.declared.fault.Fault.TheVariants.{NoParent}
use Rattle.cb_base.specs.declared.hash.Hash256.{Hash256}
use Rattle.cb_block.specs.declared.block.Block.{Block}
use Rattle.cb_block.specs.declared.header.Header.{Header}
use Rattle.cb_block.specs.Work.{HasWork}
use Rattle.cb_block.specs.declared.tx.OutPoint.{OutPoint}
use Rattle.cb_block.specs.declared.tx.Tx.{Tx}
use Rattle.cb_ledger.specs.Unspent.{Unspent}
use Rattle.cb_chain.specs.declared.change.Change.{Change}
use Rattle.cb_chain.specs.Calls.{AcceptsBlock, block_fault}
use Rattle.cb_chain.specs.Entries.{Tree, block_hash, block_of, is_lacking}
use Rattle.cb_chain.specs.Following.{headers_above}
use Rattle.cb_chain.specs.Headers.{TakesHeaders}
use Rattle.cb_chain.specs.Locator.{locator_of}
use Rattle.cb_pool.specs.Folding.{HasRoom, Refolds}
use Rattle.cb_pool.specs.Listing.{Plan, txs_of, with_last}
use Rattle.cb_pool.specs.Rules.{Applies, Refuses}
use Rattle.cb_pool.specs.Values.{IsValueAfter}
use Rattle.cb_state.specs.declared.connection.Connection.{Connection}
use Rattle.cb_state.specs.declared.accepting.Heads.{Heads}
use Rattle.cb_state.specs.declared.accepting.Taken.{Taken}
use Rattle.cb_state.specs.Announcers.{with_announcer}
use Rattle.cb_state.specs.State.{RelayState, IsUnspent}

-- The chain's block locator is part of the answer if the parent isn't known.
abbrev pub locator_for : Option Fault → List Hash256 → List Hash256
locator_for (Some NoParent) locator = locator
locator_for other locator = []

-- A transaction is appended to the mempool, or is refused and changes nothing. `u` is the tip's
-- UTXO set.
abbrev pub TakesTxOver : Unspent → RelayState → Tx → Option Fault → RelayState → Type 0
TakesTxOver u old tx None new =
    Applies u (txs_of old.pool.list) tx × (new ≡ record old { pool = with_last old.pool tx })
TakesTxOver u old tx (Some fault) new = Refuses u (txs_of old.pool.list) tx fault × (new ≡ old)

-- The same over the UTXO set of the tip.
abbrev pub TakesTx : RelayState → Tx → Option Fault → RelayState → Type 0
TakesTx old tx refused new = (u : Unspent) × IsUnspent old.tree u × TakesTxOver u old tx refused new

-- Whether a transaction would be appended to the mempool, or why it would be refused.
abbrev pub JudgesTxOver : Unspent → RelayState → Tx → Option Fault → Type 0
JudgesTxOver u state tx None = Applies u (txs_of state.pool.list) tx
JudgesTxOver u state tx (Some fault) = Refuses u (txs_of state.pool.list) tx fault

-- The same over the UTXO set of the tip.
abbrev pub JudgesTx : RelayState → Tx → Option Fault → Type 0
JudgesTx state tx refused = (u : Unspent) × IsUnspent state.tree u × JudgesTxOver u state tx refused

-- What an output is worth after the mempool's transactions over the UTXO set of the tip.
abbrev pub IsPooledValue : RelayState → OutPoint → Option ℤ → Type 0
IsPooledValue state point value =
    (u : Unspent) × IsUnspent state.tree u × IsValueAfter u (txs_of state.pool.list) point value

-- ---- a block

-- The transactions of a block; none without a block.
abbrev pub txs_under : Option Block → List Tx
txs_under None = []
txs_under (Some block) = block.txs

-- The transactions of these blocks, without coinbases, in order.
abbrev pub txs_in : Tree → List Hash256 → List Tx
txs_in tree hashes = flat_map (λ hash. drop 1 (txs_under (block_of tree hash))) hashes

-- The transactions of disconnected blocks. `off` lists the blocks from the tip down; here the
-- lowest block's come first.
abbrev pub txs_put_off : Tree → List Hash256 → List Tx
txs_put_off tree off = txs_in tree (reverse off)

-- The transactions of the active chain's blocks above its fork point with the parent's branch.
abbrev pub txs_above : Tree → Hash256 → List Tx
txs_above tree parent = txs_in tree (map block_hash (headers_above tree parent))

-- A plan for the case that a block on this parent becomes the tip. The transactions above the fork
-- point come first, and there is room for them and for the mempool.
pub record IsPlanOn (state : RelayState) (parent : Hash256) (plan : Plan) : Type 0 where
  pub first : plan.first ≡ txs_above state.tree parent
  pub room : HasRoom plan state.pool.list

abbrev pub has_some : List Hash256 → Bool
has_some [] = false
has_some (hash ∷ hashes) = true

-- Whether the block became the tip.
abbrev pub became_tip : Result Change Fault → Bool
became_tip (Ok change) = has_some change.on
became_tip (Err fault) = false

-- If the block became the tip, the mempool is rebuilt on the new UTXO set, with the transactions of
-- disconnected blocks first. Otherwise the mempool stays.
pub data Follows (old : RelayState) (answer : Result Change Fault) (new : RelayState) : Type 0 where
  stays : became_tip answer ≡ false → new.pool ≡ old.pool → Follows old answer new
  folds : (change : Change) → answer ≡ Ok change → became_tip answer ≡ true → (u : Unspent)
      → IsUnspent new.tree u
      → Refolds u (txs_put_off old.tree change.off) old.pool new.pool → Follows old answer new

-- Why the block was refused, if it was.
abbrev pub refused_for : Result Change Fault → Option Fault
refused_for (Ok change) = None
refused_for (Err fault) = Some fault

-- If the block became the tip and a connection is named, that connection becomes the last
-- announcer.
abbrev pub announcers_after : List Connection → Bool → Option Connection → List Connection
announcers_after announcers true (Some connection) = with_announcer announcers connection
announcers_after announcers became other = announcers

-- A block is given to the state, with the connection to be rewarded for a new tip, if there is one.
pub record TakesBlock (old : RelayState) (block : Block) (from : Option Connection) (taken : Taken)
    (new : RelayState) : Type 0 where
  pub answer : Result Change Fault
  pub chain : AcceptsBlock old.tree block answer new.tree
  pub pool : Follows old answer new
  pub announcers : new.announcers ≡ announcers_after old.announcers (became_tip answer) from
  pub refused : taken.refused ≡ refused_for answer
  pub locator : taken.locator ≡ locator_for taken.refused (locator_of new.tree)

-- Memory may lack for a block: nothing speaks against its header, or its parent is missing, and a
-- locator is told.
abbrev pub MayLackMemory : Tree → Header → Type 0
MayLackMemory tree header =
    HasWork header × ((block_fault tree header ≡ None) ⊎ (block_fault tree header ≡ Some NoParent))

-- ---- headers

-- The chain takes the headers in order, and nothing else changes. `met` are the hashes of the
-- headers that were accepted or already known. `lack` are those of them whose blocks are neither
-- kept nor marked bad.
pub record TakesHeads (old : RelayState) (headers : List Header) (heads : Heads) (new : RelayState)
    : Type 0 where
  pub met : List Hash256
  pub chain : TakesHeaders old.tree headers heads.refused met new.tree
  pub pool : new.pool ≡ old.pool
  pub announcers : new.announcers ≡ old.announcers
  pub lack : heads.lack ≡ filter (is_lacking new.tree) met
  pub locator : heads.locator ≡ locator_for heads.refused (locator_of new.tree)
