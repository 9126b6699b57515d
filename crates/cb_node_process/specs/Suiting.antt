-- What kind of answer each call has, and for what it fails, under the names of Bitcoin Core's
-- methods.
use Rattle.std.specs.Prelude.{◌≡◌, ◌⊎◌, ⊤, Bool, true, false, Option, Some, None}
use Rattle.cb_base.specs.DoubleHash.{double_hash}
use Rattle.cb_base.specs.declared.hash.Hash256.{Hash256}
use Rattle.cb_rpc_call.specs.declared.call.Call.{Call}
use Rattle.cb_rpc_call.specs.declared.call.Call.TheVariants as calls
use Rattle.cb_rpc_call.specs.declared.call.ReadCall.{ReadCall}
use Rattle.cb_rpc_call.specs.declared.call.ReadCall.TheVariants as reads
use Rattle.cb_rpc_call.specs.declared.call.Detail.{Detail}
use Rattle.cb_rpc_call.specs.declared.call.Detail.TheVariants as details
use Rattle.cb_rpc_call.specs.declared.fault.RpcFault.{RpcFault}
use Rattle.cb_rpc_call.specs.declared.fault.RpcFault.TheVariants as faults
use Rattle.cb_rpc.specs.declared.told.CallResult.{CallResult}
use Rattle.cb_rpc.specs.declared.told.CallResult.TheVariants as tells
use Rattle.cb_rpc.specs.declared.told.TxPlace.{TxPlace}
use Rattle.cb_block.specs.TxText.{tx_text}
use Rattle.cb_block.specs.declared.tx.Tx.{Tx}

-- ---- kinds of answers

abbrev pub IsNumber : CallResult → Type 0
IsNumber (tells.Number number) = ⊤
IsNumber other = ⊥

abbrev pub IsHash : CallResult → Type 0
IsHash (tells.Hash hash) = ⊤
IsHash other = ⊥

abbrev pub AreHashes : CallResult → Type 0
AreHashes (tells.Hashes hashes) = ⊤
AreHashes other = ⊥

abbrev pub AreEntries : CallResult → Type 0
AreEntries (tells.Entries entries) = ⊤
AreEntries other = ⊥

abbrev pub AreTips : CallResult → Type 0
AreTips (tells.Tips tips) = ⊤
AreTips other = ⊥

abbrev pub IsChain : CallResult → Type 0
IsChain (tells.Chain report) = ⊤
IsChain other = ⊥

abbrev pub IsMempool : CallResult → Type 0
IsMempool (tells.Mempool report) = ⊤
IsMempool other = ⊥

abbrev pub IsNetwork : CallResult → Type 0
IsNetwork (tells.Network report) = ⊤
IsNetwork other = ⊥

abbrev pub AreTotals : CallResult → Type 0
AreTotals (tells.Totals report) = ⊤
AreTotals other = ⊥

abbrev pub ArePeers : CallResult → Type 0
ArePeers (tells.Peers peers) = ⊤
ArePeers other = ⊥

abbrev pub AreWords : CallResult → Type 0
AreWords (tells.Words words) = ⊤
AreWords other = ⊥

-- a header with this hash, in hex or as fields
abbrev pub IsHeader : Hash256 → Bool → CallResult → Type 0
IsHeader hash true (tells.Header report) = report.hash ≡ hash
IsHeader hash false (tells.HeaderHex header) = ⊤
IsHeader hash verbose other = ⊥

-- a block with this hash, with so much detail
abbrev pub IsBlock : Hash256 → Detail → CallResult → Type 0
IsBlock hash details.Hex (tells.BlockHex block) = ⊤
IsBlock hash details.Txids (tells.BlockTxids report block) = report.hash ≡ hash
IsBlock hash details.Txs (tells.BlockTxs report block) = report.hash ≡ hash
IsBlock hash detail other = ⊥

-- the entry of this transaction
abbrev pub IsEntry : Hash256 → CallResult → Type 0
IsEntry txid (tells.Entry report) = report.txid ≡ txid
IsEntry txid other = ⊥

-- where a transaction stands is told exactly if a block was named, which is that block
abbrev pub IsIn : Option Hash256 → Option TxPlace → Type 0
IsIn None None = ⊤
IsIn (Some hash) (Some place) = place.block ≡ hash
IsIn block place = ⊥

-- this transaction in hex, or as fields with its hex
abbrev pub IsTx : Hash256 → Bool → Option Hash256 → CallResult → Type 0
IsTx txid true block (tells.Tx report) =
    (report.txid ≡ txid) × ((report.hex ≡ true) × IsIn block report.place)
IsTx txid false block (tells.TxHex tx) = ⊤
IsTx txid verbose block other = ⊥

-- this transaction as fields alone
abbrev pub IsDecoded : Tx → CallResult → Type 0
IsDecoded tx (tells.Tx report) =
    (report.tx ≡ tx)
    × ((report.txid ≡ double_hash (tx_text tx))
    × ((report.hex ≡ false) × (report.place ≡ None)))
IsDecoded tx other = ⊥

-- an unspent output, or that there is none
abbrev pub IsOutput : CallResult → Type 0
IsOutput (tells.Output report) = ⊤
IsOutput tells.Nothing = ⊤
IsOutput other = ⊥

-- whether the mempool would take this transaction
abbrev pub IsJudged : Tx → CallResult → Type 0
IsJudged tx (tells.Judged report) = report.txid ≡ double_hash (tx_text tx)
IsJudged tx other = ⊥

-- why a block was refused, or nothing
abbrev pub IsTaken : CallResult → Type 0
IsTaken (tells.Refusal fault) = ⊤
IsTaken tells.Nothing = ⊤
IsTaken other = ⊥

-- a level, the one that was asked for
abbrev pub IsLevel : CallResult → Type 0
IsLevel (tells.Level level) = ⊤
IsLevel other = ⊥

-- ---- answers and failures of each call

-- what answers a call that only reads
abbrev pub SuitsRead : ReadCall → CallResult → Type 0
SuitsRead reads.BlockCount told = IsNumber told
SuitsRead reads.BestBlockHash told = IsHash told
SuitsRead (reads.BlockHash height) told = IsHash told
SuitsRead (reads.BlockHeader hash verbose) told = IsHeader hash verbose told
SuitsRead (reads.Block hash detail) told = IsBlock hash detail told
SuitsRead reads.ChainTips told = AreTips told
SuitsRead reads.ChainInfo told = IsChain told
SuitsRead (reads.RawMempool true) told = AreEntries told
SuitsRead (reads.RawMempool false) told = AreHashes told
SuitsRead reads.MempoolInfo told = IsMempool told
SuitsRead (reads.MempoolEntry txid) told = IsEntry txid told
SuitsRead (reads.RawTransaction txid verbose block) told = IsTx txid verbose block told
SuitsRead (reads.TxOut point pool) told = IsOutput told
SuitsRead (reads.DecodeTransaction tx) told = IsDecoded tx told
SuitsRead (reads.TestAccept tx) told = IsJudged tx told

-- what answers a call
abbrev pub Suits : Call → CallResult → Type 0
Suits (calls.Read call) told = SuitsRead call told
Suits (calls.SendTransaction tx) told = told ≡ tells.Hash (double_hash (tx_text tx))
Suits (calls.SubmitBlock block) told = IsTaken told
Suits (calls.SubmitHeader header) told = told ≡ tells.Nothing
Suits (calls.Generate count) told = AreHashes told
Suits calls.NetworkInfo told = IsNetwork told
Suits calls.NetTotals told = AreTotals told
Suits calls.ConnectionCount told = IsNumber told
Suits calls.PeerInfo told = ArePeers told
Suits (calls.AddNode address aim) told = told ≡ tells.Nothing
Suits (calls.DisconnectNode whom) told = told ≡ tells.Nothing
Suits (calls.SetNetworkActive on) told = told ≡ tells.Switch on
Suits calls.Ping told = told ≡ tells.Nothing
Suits calls.Uptime told = IsNumber told
Suits (calls.Logging level) told = IsLevel told
Suits (calls.Help method) told = AreWords told
Suits calls.Stop told = AreWords told

-- for what a call that only reads fails
abbrev pub Fails : ReadCall → RpcFault → Type 0
Fails reads.BlockCount fault = ⊥
Fails reads.BestBlockHash fault = ⊥
Fails (reads.BlockHash height) fault = fault ≡ faults.HeightOutOfRange
Fails (reads.BlockHeader hash verbose) fault = fault ≡ faults.NoBlock
Fails (reads.Block hash detail) fault =
    (fault ≡ faults.NoBlock) ⊎ ((fault ≡ faults.NoBlockData) ⊎ (fault ≡ faults.Memory))
Fails reads.ChainTips fault = fault ≡ faults.Memory
Fails reads.ChainInfo fault = (fault ≡ faults.NoBlock) ⊎ (fault ≡ faults.Memory)
Fails (reads.RawMempool verbose) fault = fault ≡ faults.Memory
Fails reads.MempoolInfo fault = fault ≡ faults.Memory
Fails (reads.MempoolEntry txid) fault = (fault ≡ faults.NotInMempool) ⊎ (fault ≡ faults.Memory)
Fails (reads.RawTransaction txid verbose block) fault =
    (fault ≡ faults.NoBlock)
    ⊎ ((fault ≡ faults.NoBlockData) ⊎ ((fault ≡ faults.NoTransaction) ⊎ (fault ≡ faults.Memory)))
Fails (reads.TxOut point pool) fault = fault ≡ faults.Memory
Fails (reads.DecodeTransaction tx) fault = fault ≡ faults.Memory
Fails (reads.TestAccept tx) fault = fault ≡ faults.Memory
