-- The grammar of messages: how each payload is written, and how it is read from left to right. Each
-- message has one row in each table. Payloads of several fields are defined in cb_wire.
use Rattle.std.specs.Prelude.{◌≡◌, ℕ, ◌≤◌, ◌<◌, ◌^◌, ◌⊎◌, List, [], ◌∷◌, length, All, Option, Some, None, Result, Ok, Err, IsOk}
use Rattle.std.specs.Int.{w64, to_le_bytes}
use Rattle.cb_base.specs.declared.fault.Fault.{Fault}
use Rattle.cb_base.specs.declared.fault.Fault.TheVariants.{Trailing}
use Rattle.cb_base.specs.Reading.{◌>>=◌, number_at}
use Rattle.cb_block.specs.TxText.{list_text, tx_text, IsTx}
use Rattle.cb_block.specs.TxReading as transactions
use Rattle.cb_block.specs.BlockText.{block_text, IsBlock, IsHeader, listed_header_text}
use Rattle.cb_block.specs.BlockReading as blocks
use Rattle.cb_wire.specs.declared.command.Command.{Command}
use Rattle.cb_wire.specs.declared.command.Command.TheVariants as known
use Rattle.cb_wire.specs.declared.message.Message.{Message}
use Rattle.cb_wire.specs.declared.message.Message.TheVariants.{Version, Verack, Ping, Pong, SendHeaders, SendCmpct, Inv, GetData, NotFound, Headers, GetHeaders, Tx, Block, CmpctBlock, GetBlockTxn, BlockTxn, Unknown}
use Rattle.cb_wire.specs.Command.{command_name, known_command, IsUnknownName}
use Rattle.cb_wire.specs.Lists.{CountsSome, IsEntry, entry_at, entry_text, limited_at, listed_at}
use Rattle.cb_wire.specs.BlockTransactions as fetched
use Rattle.cb_wire.specs.CompactBlocks as compacts
use Rattle.cb_wire.specs.Requests as requests
use Rattle.cb_wire.specs.Version as versions

-- the name of a message's command
abbrev pub name_of : Message → List ℕ
name_of (Version version) = command_name known.Version
name_of Verack = command_name known.Verack
name_of (Ping nonce) = command_name known.Ping
name_of (Pong nonce) = command_name known.Pong
name_of SendHeaders = command_name known.SendHeaders
name_of (SendCmpct relay) = command_name known.SendCmpct
name_of (Inv entries) = command_name known.Inv
name_of (GetData entries) = command_name known.GetData
name_of (NotFound entries) = command_name known.NotFound
name_of (Headers headers) = command_name known.Headers
name_of (GetHeaders request) = command_name known.GetHeaders
name_of (Tx tx) = command_name known.Tx
name_of (Block block) = command_name known.Block
name_of (CmpctBlock block) = command_name known.CmpctBlock
name_of (GetBlockTxn request) = command_name known.GetBlockTxn
name_of (BlockTxn txs) = command_name known.BlockTxn
name_of (Unknown name payload) = name

-- the payload of a message, as it is written
abbrev pub payload_text : Message → List ℕ
payload_text (Version version) = versions.version_text version
payload_text Verack = []
payload_text (Ping nonce) = to_le_bytes w64 nonce
payload_text (Pong nonce) = to_le_bytes w64 nonce
payload_text SendHeaders = []
payload_text (SendCmpct relay) = requests.compact_relay_text relay
payload_text (Inv entries) = list_text entry_text entries
payload_text (GetData entries) = list_text entry_text entries
payload_text (NotFound entries) = list_text entry_text entries
payload_text (Headers headers) = list_text listed_header_text headers
payload_text (GetHeaders request) = requests.request_text request
payload_text (Tx tx) = tx_text tx
payload_text (Block block) = block_text block
payload_text (CmpctBlock block) = compacts.compact_block_text block
payload_text (GetBlockTxn request) = fetched.txs_request_text request
payload_text (BlockTxn txs) = fetched.block_txs_text txs
payload_text (Unknown name payload) = payload

-- The bytes are a payload of the message. Only a version has several payloads: see
-- `IsVersionPayload`.
abbrev pub IsPayload : List ℕ → Message → Type 0
IsPayload bytes (Version version) = versions.IsVersionPayload bytes version
IsPayload bytes message = payload_text message ≡ bytes

-- the bytes spell the message under this command's name
pub record Spells (name bytes : List ℕ) (message : Message) : Type 0 where
  pub under : name_of message ≡ name
  pub spelled : IsPayload bytes message

-- The range of a message, which its types guarantee: numbers are in the range of their fields,
-- hashes have 32 bytes, an unknown name isn't a known one. Lists are within their limits: 50,000
-- inventory entries, 2,000 headers, 101 hashes of a locator, 256 bytes of user agent, 1 to 16,666
-- transactions of a compact block, 16,666 of a request for them.
abbrev pub IsMessage : Message → Type 0
IsMessage (Version version) = versions.IsVersion version
IsMessage Verack = Unit {0}
IsMessage (Ping nonce) = nonce < 2 ^ 64
IsMessage (Pong nonce) = nonce < 2 ^ 64
IsMessage SendHeaders = Unit {0}
IsMessage (SendCmpct relay) = relay.version < 2 ^ 64
IsMessage (Inv entries) = (length entries ≤ 50000) × All IsEntry entries
IsMessage (GetData entries) = (length entries ≤ 50000) × All IsEntry entries
IsMessage (NotFound entries) = (length entries ≤ 50000) × All IsEntry entries
IsMessage (Headers headers) = (length headers ≤ 2000) × All IsHeader headers
IsMessage (GetHeaders request) = requests.IsRequest request
IsMessage (Tx tx) = IsTx tx
IsMessage (Block block) = IsBlock block
IsMessage (CmpctBlock block) = compacts.IsCompactBlock block
IsMessage (GetBlockTxn request) = fetched.IsTxsRequest request
IsMessage (BlockTxn txs) = fetched.IsBlockTxs txs
IsMessage (Unknown name payload) = IsUnknownName name

-- The payload has at most 4,000,000 bytes. Messages whose fields each have a limit of their own are
-- always below it.
abbrev pub IsWithinLimits : Message → Type 0
IsWithinLimits (Tx tx) = length (tx_text tx) ≤ 4000000
IsWithinLimits (Block block) = length (block_text block) ≤ 4000000
IsWithinLimits (CmpctBlock block) = length (compacts.compact_block_text block) ≤ 4000000
IsWithinLimits (BlockTxn txs) = length (fetched.block_txs_text txs) ≤ 4000000
IsWithinLimits (Unknown name payload) = length payload ≤ 4000000
IsWithinLimits message = Unit {0}

-- a message in its range and within the limit
pub record IsProper (message : Message) : Type 0 where
  pub kept : IsMessage message
  pub limits : IsWithinLimits message

-- the value, if no bytes are left over
abbrev pub whole : {A : Type 0} → A × List ℕ → Result A Fault
whole (value, []) = Ok value
whole (value, byte ∷ bytes) = Err Trailing

-- reads the payload of a known command from left to right: the message, or the fault of the first
-- field that can't be read
abbrev pub payload_at : Command → List ℕ → Result Message Fault
payload_at known.Version bytes = versions.version_at bytes >>= λ version. Ok (Version version)
payload_at known.Verack bytes = whole (Verack, bytes)
payload_at known.Ping bytes = number_at w64 bytes >>= λ nonce. whole (Ping nonce.0, nonce.1)
payload_at known.Pong bytes = number_at w64 bytes >>= λ nonce. whole (Pong nonce.0, nonce.1)
payload_at known.SendHeaders bytes = whole (SendHeaders, bytes)
payload_at known.SendCmpct bytes =
    requests.compact_relay_at bytes >>= λ relay. whole (SendCmpct relay.0, relay.1)
payload_at known.Inv bytes =
    listed_at 50000 36 entry_at bytes >>= λ entries. whole (Inv entries.0, entries.1)
payload_at known.GetData bytes =
    listed_at 50000 36 entry_at bytes >>= λ entries. whole (GetData entries.0, entries.1)
payload_at known.NotFound bytes =
    listed_at 50000 36 entry_at bytes >>= λ entries. whole (NotFound entries.0, entries.1)
payload_at known.Headers bytes =
    listed_at 2000 81 blocks.listed_header_at bytes
    >>= λ headers. whole (Headers headers.0, headers.1)
payload_at known.GetHeaders bytes =
    requests.request_at bytes >>= λ request. whole (GetHeaders request.0, request.1)
payload_at known.Tx bytes = transactions.tx_at bytes >>= λ tx. whole (Tx tx.0, tx.1)
payload_at known.Block bytes = blocks.block_at bytes >>= λ block. whole (Block block.0, block.1)
payload_at known.CmpctBlock bytes =
    compacts.compact_block_at bytes >>= λ block. whole (CmpctBlock block.0, block.1)
payload_at known.GetBlockTxn bytes =
    fetched.txs_request_at bytes >>= λ request. whole (GetBlockTxn request.0, request.1)
payload_at known.BlockTxn bytes =
    fetched.block_txs_at bytes >>= λ txs. whole (BlockTxn txs.0, txs.1)

-- the same for any name: the payload of an unknown command is kept as it is
abbrev pub message_under : Option Command → List ℕ → List ℕ → Result Message Fault
message_under (Some command) name bytes = payload_at command bytes
message_under None name bytes = Ok (Unknown name bytes)

unfoldable pub message_at : List ℕ → List ℕ → Result Message Fault
message_at name bytes = message_under (known_command name) name bytes

-- the fault of the first field from the left that can't be read
abbrev pub IsFaulty : List ℕ → List ℕ → Fault → Type 0
IsFaulty name bytes fault = message_at name bytes ≡ Err fault

-- The fault comes before any allocation. In messages with lists or transactions, that is up to the
-- first count. In the other known commands it is anywhere in the payload.
abbrev pub IsUnpaid : Option Command → List ℕ → Fault → Type 0
IsUnpaid (Some known.Inv) bytes fault = limited_at 50000 36 bytes ≡ Err fault
IsUnpaid (Some known.GetData) bytes fault = limited_at 50000 36 bytes ≡ Err fault
IsUnpaid (Some known.NotFound) bytes fault = limited_at 50000 36 bytes ≡ Err fault
IsUnpaid (Some known.Headers) bytes fault = limited_at 2000 81 bytes ≡ Err fault
IsUnpaid (Some known.GetHeaders) bytes fault = requests.request_count_at bytes ≡ Err fault
IsUnpaid (Some known.Tx) bytes fault = transactions.first_count_at bytes ≡ Err fault
IsUnpaid (Some known.Block) bytes fault = blocks.first_count_at bytes ≡ Err fault
IsUnpaid (Some known.CmpctBlock) bytes fault = compacts.compact_block_count_at bytes ≡ Err fault
IsUnpaid (Some known.GetBlockTxn) bytes fault = fetched.txs_request_count_at bytes ≡ Err fault
IsUnpaid (Some known.BlockTxn) bytes fault = fetched.block_txs_count_at bytes ≡ Err fault
IsUnpaid (Some command) bytes fault = payload_at command bytes ≡ Err fault
IsUnpaid None bytes fault = ⊥

-- Reading allocates: for a list that isn't empty, a version with a user agent, a transaction or
-- block with items, a whole transaction or block, a compact block with short ids or prefilled
-- transactions, or an unknown command, whose name is copied.
abbrev pub IsPaid : Option Command → List ℕ → Type 0
IsPaid (Some known.Version) bytes = versions.TakesMemory bytes
IsPaid (Some known.Inv) bytes = CountsSome 50000 36 bytes
IsPaid (Some known.GetData) bytes = CountsSome 50000 36 bytes
IsPaid (Some known.NotFound) bytes = CountsSome 50000 36 bytes
IsPaid (Some known.Headers) bytes = CountsSome 2000 81 bytes
IsPaid (Some known.GetHeaders) bytes = requests.TakesMemory bytes
IsPaid (Some known.Tx) bytes = transactions.TakesMemory bytes ⊎ IsOk (payload_at known.Tx bytes)
IsPaid (Some known.Block) bytes = blocks.TakesMemory bytes ⊎ IsOk (payload_at known.Block bytes)
IsPaid (Some known.CmpctBlock) bytes = compacts.CompactBlockTakesMemory bytes
IsPaid (Some known.GetBlockTxn) bytes = fetched.TxsRequestTakesMemory bytes
IsPaid (Some known.BlockTxn) bytes = fetched.BlockTxsTakesMemory bytes
IsPaid (Some command) bytes = ⊥
IsPaid None bytes = Unit {0}

-- The message owns no memory, so that a copy allocates nothing and can't fail.
abbrev pub HoldsNothing : Message → Type 0
HoldsNothing (Version version) = length version.agent ≡ 0
HoldsNothing (Inv entries) = length entries ≡ 0
HoldsNothing (GetData entries) = length entries ≡ 0
HoldsNothing (NotFound entries) = length entries ≡ 0
HoldsNothing (Headers headers) = length headers ≡ 0
HoldsNothing (GetHeaders request) = length request.locator ≡ 0
HoldsNothing (Tx tx) = ⊥
HoldsNothing (Block block) = ⊥
HoldsNothing (CmpctBlock block) = ⊥
HoldsNothing (GetBlockTxn request) = length request.differences ≡ 0
HoldsNothing (BlockTxn txs) = txs.txs ≡ []
HoldsNothing (Unknown name payload) = ⊥
HoldsNothing message = Unit {0}
