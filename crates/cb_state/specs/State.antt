-- The state that a node's peers share.
use Rattle.std.specs.Prelude.{◌≡◌, List, [], Ok, IsOk}
use Rattle.cb_ledger.specs.Spend.{spend}
use Rattle.cb_ledger.specs.Unspent.{Unspent}
use Rattle.cb_chain.specs.Best.{best, unspent_after}
use Rattle.cb_chain.specs.Entries.{Tree}
use Rattle.cb_pool.specs.Listing.{Listing, txs_of}
use Rattle.cb_state.specs.declared.connection.Connection.{Connection}

-- The header tree with the kept blocks, the mempool, and the announcers.
pub record RelayState : Type 0 where
  pub tree : Tree
  pub pool : Listing
  pub announcers : List Connection

-- `u` is the UTXO set of the tip.
abbrev pub IsUnspent : Tree → Unspent → Type 0
IsUnspent tree u = unspent_after tree (best tree) ≡ Ok u

-- The mempool's transactions can be spent in order on the tip's UTXO set.
abbrev pub WaitOn : Tree → Listing → Type 0
WaitOn tree pool = (u : Unspent) → IsUnspent tree u → IsOk (spend u (txs_of pool.list))

-- The state at the start: the genesis block alone, an empty mempool and no announcers.
abbrev pub opening : RelayState
opening = record { tree = []; pool = record { list = []; next = 0 }; announcers = [] }
