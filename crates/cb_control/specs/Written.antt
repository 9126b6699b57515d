-- What texts of hex write: hashes, transactions and blocks.
use Rattle.std.specs.Prelude.{List, ℕ, reverse, codes, Option, Some, None, option_and_then, option_map}
use Rattle.std.specs.Result.{result_ok}
use Rattle.hex.specs.Hex.{decode_of, decode_sized}
use Rattle.cb_base.specs.declared.hash.Hash256.{Hash256}
use Rattle.cb_block.specs.declared.tx.Tx.{Tx}
use Rattle.cb_block.specs.declared.block.Block.{Block}
use Rattle.cb_wire.specs.declared.message.Message.{Message}
use Rattle.cb_wire.specs.declared.message.Message.TheVariants as messages
use Rattle.cb_wire.specs.Grammar.{message_at}

-- the hash that 64 digits write: 32 bytes in hex, the last byte first
abbrev pub hash_in : List ℕ → Option Hash256
hash_in text = option_map (λ bytes. record { 0 = reverse bytes }) (result_ok (decode_sized text 32))

-- the message with this name whose payload is written in hex
abbrev pub message_in : List ℕ → List ℕ → Option Message
message_in name text =
    option_and_then (λ payload. result_ok (message_at name payload)) (result_ok (decode_of text))

-- the transaction of a `tx`, and the block of a `block`
abbrev pub the_tx : Message → Option Tx
the_tx (messages.Tx tx) = Some tx
the_tx other = None

abbrev pub the_block : Message → Option Block
the_block (messages.Block block) = Some block
the_block other = None

-- the transaction that is written in hex, and the block
abbrev pub tx_in : List ℕ → Option Tx
tx_in text = option_and_then the_tx (message_in (codes "tx") text)

abbrev pub block_in : List ℕ → Option Block
block_in text = option_and_then the_block (message_in (codes "block") text)
