-- The commands of messages, as they are counted.
use Rattle.std.specs.Prelude.{ℕ}
pub use Rattle.cb_wire.specs.Grammar.{payload_text}
use Rattle.cb_wire.specs.declared.message.Message.{Message}
use Rattle.cb_wire.specs.declared.message.Message.TheVariants.{Version, Verack, Ping, Pong, SendHeaders, SendCmpct, Inv, GetData, NotFound, Headers, GetHeaders, Tx, Block, CmpctBlock, GetBlockTxn, BlockTxn, Unknown}

-- the row of a message: one for each command, and one for those that are unknown
abbrev pub row_of : Message → ℕ
row_of (Version version) = 0
row_of Verack = 1
row_of (Ping nonce) = 2
row_of (Pong nonce) = 3
row_of SendHeaders = 4
row_of (SendCmpct relay) = 5
row_of (Inv entries) = 6
row_of (GetData entries) = 7
row_of (NotFound entries) = 8
row_of (Headers headers) = 9
row_of (GetHeaders request) = 10
row_of (Tx tx) = 11
row_of (Block block) = 12
row_of (CmpctBlock block) = 13
row_of (GetBlockTxn request) = 14
row_of (BlockTxn txs) = 15
row_of (Unknown name payload) = 16
