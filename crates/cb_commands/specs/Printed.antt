-- What `decode` prints.
use Rattle.std.specs.Prelude.{ℕ, List, [], ◌++◌, length, reverse, codes, if◌then◌else◌, Option, Some, None}
use Rattle.std.specs.List.{flat_map}
use Rattle.std.specs.Fmt.{decimal, signed_decimal}
use Rattle.cb_base.specs.declared.fault.Fault.{Fault}
use Rattle.cb_base.specs.Fault.{fault_text}
use Rattle.hex.specs.Hex.{encode_lower}
use Rattle.cb_base.specs.declared.hash.Hash256.{Hash256}
use Rattle.cb_base.specs.DoubleHash.{double_hash}
use Rattle.cb_block.specs.TxText.{tx_text}
use Rattle.cb_block.specs.declared.tx.Tx as transactions
use Rattle.cb_block.specs.BlockText.{header_text}
use Rattle.cb_block.specs.declared.block.Block as blocks
use Rattle.cb_block.specs.declared.header.Header as headers
use Rattle.cb_wire.specs.declared.message.Message.{Message}
use Rattle.cb_wire.specs.declared.message.Message.TheVariants.{Version, Verack, Ping, Pong, SendHeaders, SendCmpct, Inv, GetData, NotFound, Headers, GetHeaders, Tx, Block, CmpctBlock, GetBlockTxn, BlockTxn, Unknown}
use Rattle.cb_wire.specs.declared.block_transactions.BlockTransactions.{BlockTransactions}
use Rattle.cb_wire.specs.declared.block_transactions.BlockTransactionsRequest.{BlockTransactionsRequest}
use Rattle.cb_wire.specs.declared.compact_block.HeaderAndShortIds.{HeaderAndShortIds}
use Rattle.cb_wire.specs.declared.inventory.Inventory.{Inventory}
use Rattle.cb_wire.specs.Lists.{hash_in, kind_of}
use Rattle.cb_wire.specs.declared.requests.CompactRelay.{CompactRelay}
use Rattle.cb_wire.specs.declared.requests.HeadersRequest.{HeadersRequest}
use Rattle.cb_wire.specs.declared.version.Version as versions
use Rattle.cb_wire.specs.declared.item.Item.{Item}
use Rattle.cb_wire.specs.declared.item.Item.TheVariants.{Good, Damaged, Bad}
use Rattle.cb_wire.specs.Command.{command_name}

-- a hash as people write it: its bytes reversed, in lower-case hex
abbrev pub hash_shown : Hash256 → List ℕ
hash_shown hash = encode_lower (reverse hash.0)

-- a transaction: its txid, and how many bytes it has
abbrev pub tx_line : transactions.Tx → List ℕ
tx_line tx =
    codes "tx " ++ hash_shown (double_hash (tx_text tx)) ++ codes " "
    ++ decimal (length (tx_text tx)) ++ codes "\n"

-- a block: its hash, and how many transactions it has
abbrev pub block_line : blocks.Block → List ℕ
block_line block =
    codes "block " ++ hash_shown (double_hash (header_text block.header)) ++ codes " "
    ++ decimal (length block.txs) ++ codes "\n"

-- a compact block: its hash, how many short ids it has, and how many transactions are prefilled
abbrev pub compact_block_line : HeaderAndShortIds → List ℕ
compact_block_line block =
    codes "cmpctblock " ++ hash_shown (double_hash (header_text block.header)) ++ codes " ids "
    ++ decimal (length block.txs.ids) ++ codes " prefilled "
    ++ decimal (length block.txs.prefilled) ++ codes "\n"

-- a `getblocktxn`: the block's hash, and how many transactions are asked for
abbrev pub txs_request_line : BlockTransactionsRequest → List ℕ
txs_request_line request =
    codes "getblocktxn " ++ hash_shown request.block ++ codes " "
    ++ decimal (length request.differences) ++ codes "\n"

-- a `blocktxn`: the block's hash, and how many transactions it has
abbrev pub block_txs_line : BlockTransactions → List ℕ
block_txs_line txs =
    codes "blocktxn " ++ hash_shown txs.block ++ codes " " ++ decimal (length txs.txs) ++ codes "\n"

-- a `version`: its number, the services, the height, and the user agent in hex
abbrev pub version_line : versions.Version → List ℕ
version_line v =
    codes "version " ++ signed_decimal v.version ++ codes " services " ++ decimal v.services
    ++ codes " height " ++ signed_decimal v.height ++ codes " agent " ++ encode_lower v.agent
    ++ codes "\n"

-- a `sendcmpct`: the high-bandwidth flag as 0 or 1, and the version
abbrev pub compact_relay_line : CompactRelay → List ℕ
compact_relay_line relay =
    codes "sendcmpct " ++ (if relay.high_bandwidth then codes "1 " else codes "0 ")
    ++ decimal relay.version ++ codes "\n"

-- a `getheaders`: how many hashes its locator has, and the hash to stop at
abbrev pub counted_line : ℕ → Hash256 → List ℕ
counted_line count stop =
    codes "getheaders " ++ decimal count ++ codes " " ++ hash_shown stop ++ codes "\n"

abbrev pub request_line : HeadersRequest → List ℕ
request_line request = counted_line (length request.locator) request.stop

-- an inventory entry: two spaces, its type and its hash
abbrev pub entry_line : Inventory → List ℕ
entry_line entry =
    codes "  " ++ decimal (kind_of entry) ++ codes " " ++ hash_shown (hash_in entry) ++ codes "\n"

-- an inventory list: the message's name, how many entries there are, then the entries
abbrev pub entries_text : List ℕ → List Inventory → List ℕ
entries_text name entries =
    name ++ codes " " ++ decimal (length entries) ++ codes "\n" ++ flat_map entry_line entries

-- a block header: two spaces and its hash
abbrev pub header_line : headers.Header → List ℕ
header_line header = codes "  " ++ hash_shown (double_hash (header_text header)) ++ codes "\n"

-- a `headers`: how many there are, then the headers
abbrev pub headers_text : List headers.Header → List ℕ
headers_text list =
    codes "headers " ++ decimal (length list) ++ codes "\n" ++ flat_map header_line list

-- a message: its name and what it carries
abbrev pub message_text : Message → List ℕ
message_text (Version version) = version_line version
message_text SendHeaders = codes "sendheaders\n"
message_text (SendCmpct relay) = compact_relay_line relay
message_text (Inv entries) = entries_text (codes "inv") entries
message_text (GetData entries) = entries_text (codes "getdata") entries
message_text (NotFound entries) = entries_text (codes "notfound") entries
message_text (Headers list) = headers_text list
message_text (GetHeaders request) = request_line request
message_text Verack = codes "verack\n"
message_text (Ping nonce) = codes "ping " ++ decimal nonce ++ codes "\n"
message_text (Pong nonce) = codes "pong " ++ decimal nonce ++ codes "\n"
message_text (Tx tx) = tx_line tx
message_text (Block block) = block_line block
message_text (CmpctBlock block) = compact_block_line block
message_text (GetBlockTxn request) = txs_request_line request
message_text (BlockTxn txs) = block_txs_line txs
message_text (Unknown name payload) =
    codes "unknown " ++ name ++ codes " " ++ decimal (length payload) ++ codes "\n"

-- an item: its message, or what is wrong with it
abbrev pub item_text : Item → List ℕ
item_text (Good message) = message_text message
item_text Damaged = codes "damaged\n"
item_text (Bad command fault) =
    codes "bad " ++ command_name command ++ codes " " ++ fault_text fault ++ codes "\n"

-- items, one after another
abbrev pub items_text : List Item → List ℕ
items_text items = flat_map item_text items

-- a stream's fault, if it has one
abbrev pub broken_text : Option Fault → List ℕ
broken_text None = []
broken_text (Some fault) = codes "broken " ++ fault_text fault ++ codes "\n"
