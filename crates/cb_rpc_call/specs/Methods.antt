-- The methods: their names, their parameters, and how `help` tells of them (those of Bitcoin Core's
-- daemon).
use Rattle.std.specs.Prelude.{ℕ, Bool, List, [], ◌∷◌, ◌++◌, length, codes, find, Option}
use Rattle.std.specs.List.{join_by, list_any}
use Rattle.std.specs.Str.{bytes_eq}
use Rattle.cb_rpc_call.specs.declared.method.Method.{Method}
use Rattle.cb_rpc_call.specs.declared.method.Method.TheVariants.{GetBlockCount, GetBestBlockHash, GetBlockHash, GetBlockHeader, GetBlock, GetChainTips, GetBlockchainInfo, GetRawMempool, GetMempoolInfo, GetMempoolEntry, GetRawTransaction, GetTxOut, DecodeRawTransaction, SendRawTransaction, TestMempoolAccept, SubmitBlock, SubmitHeader, Generate, GetNetworkInfo, GetNetTotals, GetConnectionCount, GetPeerInfo, AddNode, DisconnectNode, SetNetworkActive, Ping, Uptime, Logging, Help, Stop}

-- A method's name, the names of its parameters in the order of their places, names that some of
-- them have besides, and how it is called: what stands in round brackets may be left out.
pub record Row : Type 0 where
  pub name : List ℕ
  pub parameters : List (List ℕ)
  pub others : List (List ℕ)
  pub usage : List ℕ

abbrev pub row : Method → Row
row GetBlockCount = record {
  name = codes "getblockcount";
  parameters = [];
  others = [];
  usage = codes "getblockcount";
}
row GetBestBlockHash = record {
  name = codes "getbestblockhash";
  parameters = [];
  others = [];
  usage = codes "getbestblockhash";
}
row GetBlockHash = record {
  name = codes "getblockhash";
  parameters = codes "height" ∷ [];
  others = [];
  usage = codes "getblockhash height";
}
row GetBlockHeader = record {
  name = codes "getblockheader";
  parameters = codes "blockhash" ∷ codes "verbose" ∷ [];
  others = [];
  usage = codes "getblockheader \"blockhash\" ( verbose )";
}
row GetBlock = record {
  name = codes "getblock";
  parameters = codes "blockhash" ∷ codes "verbosity" ∷ [];
  others = codes "verbose" ∷ [];
  usage = codes "getblock \"blockhash\" ( verbosity )";
}
row GetChainTips = record {
  name = codes "getchaintips";
  parameters = [];
  others = [];
  usage = codes "getchaintips";
}
row GetBlockchainInfo = record {
  name = codes "getblockchaininfo";
  parameters = [];
  others = [];
  usage = codes "getblockchaininfo";
}
row GetRawMempool = record {
  name = codes "getrawmempool";
  parameters = codes "verbose" ∷ [];
  others = [];
  usage = codes "getrawmempool ( verbose )";
}
row GetMempoolInfo = record {
  name = codes "getmempoolinfo";
  parameters = [];
  others = [];
  usage = codes "getmempoolinfo";
}
row GetMempoolEntry = record {
  name = codes "getmempoolentry";
  parameters = codes "txid" ∷ [];
  others = [];
  usage = codes "getmempoolentry \"txid\"";
}
row GetRawTransaction = record {
  name = codes "getrawtransaction";
  parameters = codes "txid" ∷ codes "verbosity" ∷ codes "blockhash" ∷ [];
  others = codes "verbose" ∷ [];
  usage = codes "getrawtransaction \"txid\" ( verbosity \"blockhash\" )";
}
row GetTxOut = record {
  name = codes "gettxout";
  parameters = codes "txid" ∷ codes "n" ∷ codes "include_mempool" ∷ [];
  others = [];
  usage = codes "gettxout \"txid\" n ( include_mempool )";
}
row DecodeRawTransaction = record {
  name = codes "decoderawtransaction";
  parameters = codes "hexstring" ∷ [];
  others = [];
  usage = codes "decoderawtransaction \"hexstring\"";
}
row SendRawTransaction = record {
  name = codes "sendrawtransaction";
  parameters = codes "hexstring" ∷ codes "maxfeerate" ∷ [];
  others = [];
  usage = codes "sendrawtransaction \"hexstring\" ( maxfeerate )";
}
row TestMempoolAccept = record {
  name = codes "testmempoolaccept";
  parameters = codes "rawtxs" ∷ codes "maxfeerate" ∷ [];
  others = [];
  usage = codes "testmempoolaccept [\"rawtx\"] ( maxfeerate )";
}
row SubmitBlock = record {
  name = codes "submitblock";
  parameters = codes "hexdata" ∷ codes "dummy" ∷ [];
  others = [];
  usage = codes "submitblock \"hexdata\" ( \"dummy\" )";
}
row SubmitHeader = record {
  name = codes "submitheader";
  parameters = codes "hexdata" ∷ [];
  others = [];
  usage = codes "submitheader \"hexdata\"";
}
row Generate = record {
  name = codes "generate";
  parameters = codes "nblocks" ∷ codes "maxtries" ∷ [];
  others = [];
  usage = codes "generate nblocks ( maxtries )";
}
row GetNetworkInfo = record {
  name = codes "getnetworkinfo";
  parameters = [];
  others = [];
  usage = codes "getnetworkinfo";
}
row GetNetTotals = record {
  name = codes "getnettotals";
  parameters = [];
  others = [];
  usage = codes "getnettotals";
}
row GetConnectionCount = record {
  name = codes "getconnectioncount";
  parameters = [];
  others = [];
  usage = codes "getconnectioncount";
}
row GetPeerInfo = record {
  name = codes "getpeerinfo";
  parameters = [];
  others = [];
  usage = codes "getpeerinfo";
}
row AddNode = record {
  name = codes "addnode";
  parameters = codes "node" ∷ codes "command" ∷ [];
  others = [];
  usage = codes "addnode \"node\" \"command\"";
}
row DisconnectNode = record {
  name = codes "disconnectnode";
  parameters = codes "address" ∷ codes "nodeid" ∷ [];
  others = [];
  usage = codes "disconnectnode ( \"address\" nodeid )";
}
row SetNetworkActive = record {
  name = codes "setnetworkactive";
  parameters = codes "state" ∷ [];
  others = [];
  usage = codes "setnetworkactive state";
}
row Ping = record {
  name = codes "ping";
  parameters = [];
  others = [];
  usage = codes "ping";
}
row Uptime = record {
  name = codes "uptime";
  parameters = [];
  others = [];
  usage = codes "uptime";
}
row Logging = record {
  name = codes "logging";
  parameters = codes "level" ∷ [];
  others = [];
  usage = codes "logging ( \"level\" )";
}
row Help = record {
  name = codes "help";
  parameters = codes "command" ∷ [];
  others = [];
  usage = codes "help ( \"command\" )";
}
row Stop = record {
  name = codes "stop";
  parameters = [];
  others = [];
  usage = codes "stop";
}

-- in the order in which `help` lists them
abbrev pub methods : List Method
methods =
    GetBlockCount
    ∷ GetBestBlockHash
    ∷ GetBlockHash
    ∷ GetBlockHeader
    ∷ GetBlock
    ∷ GetChainTips
    ∷ GetBlockchainInfo
    ∷ GetRawMempool
    ∷ GetMempoolInfo
    ∷ GetMempoolEntry
    ∷ GetRawTransaction
    ∷ GetTxOut
    ∷ DecodeRawTransaction
    ∷ SendRawTransaction
    ∷ TestMempoolAccept
    ∷ SubmitBlock
    ∷ SubmitHeader
    ∷ Generate
    ∷ GetNetworkInfo
    ∷ GetNetTotals
    ∷ GetConnectionCount
    ∷ GetPeerInfo
    ∷ AddNode
    ∷ DisconnectNode
    ∷ SetNetworkActive
    ∷ Ping
    ∷ Uptime
    ∷ Logging
    ∷ Help
    ∷ Stop
    ∷ []

abbrev pub method_name : Method → List ℕ
method_name method = (row method).name

-- the method with this name
abbrev pub method_in : List ℕ → Option Method
method_in name = find (λ method. bytes_eq name (method_name method)) methods

abbrev pub usage : Method → List ℕ
usage method = (row method).usage

-- a line for each method
abbrev pub usages : List ℕ
usages = join_by usage (10 ∷ []) methods

-- how many arguments it takes at most
abbrev pub most : Method → ℕ
most method = length (row method).parameters

-- whether it has a parameter with this name
abbrev pub takes : Method → List ℕ → Bool
takes method name = list_any (bytes_eq name) ((row method).parameters ++ (row method).others)
