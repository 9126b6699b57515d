-- Requests (Bitcoin's peer-to-peer protocol, `getdata`, `getheaders`; BIP 152 for `getblocktxn`).
use Rattle.std.specs.Prelude.{List, [], ◌∷◌, replicate}
use Rattle.cb_base.specs.declared.hash.Hash256.{Hash256}
use Rattle.cb_wire.specs.declared.block_transactions.BlockTransactionsRequest.{BlockTransactionsRequest}
use Rattle.cb_wire.specs.declared.inventory.Inventory.{Inventory}
use Rattle.cb_wire.specs.declared.inventory.Inventory.TheVariants.{Block}
use Rattle.cb_wire.specs.declared.message.Message.{Message}
use Rattle.cb_wire.specs.declared.message.Message.TheVariants.{GetBlockTxn, GetData, GetHeaders}

-- The request for entries. Without entries there is none.
abbrev pub asking_for : List Inventory → List Message
asking_for [] = []
asking_for (first ∷ others) = GetData (first ∷ others) ∷ []

-- The request for one whole block.
abbrev pub asking_block : Hash256 → Message
asking_block hash = GetData (Block hash ∷ [])

-- The request for transactions that a compact block lacks (BIP 152).
abbrev pub asking_txs : BlockTransactionsRequest → Message
asking_txs request = GetBlockTxn request

-- The request for the headers after a block locator, as many as the peer sends.
abbrev pub asking_headers : List Hash256 → Message
asking_headers locator = GetHeaders (record {
  version = 70014;
  locator = locator;
  stop = record { 0 = replicate 32 0 };
})
