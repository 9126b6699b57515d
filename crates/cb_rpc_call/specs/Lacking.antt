-- Methods of Bitcoin Core's daemon that the node can't answer.
use Rattle.std.specs.Prelude.{ℕ, List, [], ◌∷◌, codes, find, Option}
use Rattle.std.specs.List.{list_any}
use Rattle.std.specs.Str.{bytes_eq}
use Rattle.cb_rpc_call.specs.declared.fault.Lacking.{Lacking}
use Rattle.cb_rpc_call.specs.declared.fault.Lacking.TheVariants.{Wallet, Disk, Scripts, Mining}

-- those that need what is lacking
abbrev pub lacking_names : Lacking → List (List ℕ)
lacking_names Wallet =
    codes "getnewaddress" ∷ codes "getrawchangeaddress" ∷ codes "getaddressinfo"
    ∷ codes "getaddressesbylabel" ∷ codes "getbalance" ∷ codes "getbalances"
    ∷ codes "getunconfirmedbalance" ∷ codes "getreceivedbyaddress" ∷ codes "sendtoaddress"
    ∷ codes "sendmany" ∷ codes "send" ∷ codes "sendall" ∷ codes "listunspent"
    ∷ codes "lockunspent" ∷ codes "listlockunspent" ∷ codes "createwallet" ∷ codes "loadwallet"
    ∷ codes "unloadwallet" ∷ codes "listwallets" ∷ codes "listwalletdir"
    ∷ codes "getwalletinfo" ∷ codes "backupwallet" ∷ codes "restorewallet"
    ∷ codes "importprivkey" ∷ codes "importaddress" ∷ codes "importdescriptors"
    ∷ codes "dumpprivkey" ∷ codes "dumpwallet" ∷ codes "signmessage"
    ∷ codes "signrawtransactionwithwallet" ∷ codes "fundrawtransaction"
    ∷ codes "walletcreatefundedpsbt" ∷ codes "walletprocesspsbt" ∷ codes "walletpassphrase"
    ∷ codes "walletlock" ∷ codes "encryptwallet" ∷ codes "keypoolrefill"
    ∷ codes "listtransactions" ∷ codes "listsinceblock" ∷ codes "gettransaction"
    ∷ codes "abandontransaction" ∷ codes "bumpfee" ∷ codes "rescanblockchain" ∷ codes "settxfee"
    ∷ codes "generatetoaddress" ∷ []
lacking_names Disk =
    codes "pruneblockchain" ∷ codes "gettxoutsetinfo" ∷ codes "dumptxoutset"
    ∷ codes "loadtxoutset" ∷ codes "scantxoutset" ∷ codes "scanblocks" ∷ codes "getblockfilter"
    ∷ codes "getblockstats" ∷ codes "getchaintxstats" ∷ codes "getindexinfo"
    ∷ codes "gettxoutproof" ∷ codes "verifychain" ∷ codes "savemempool" ∷ codes "importmempool"
    ∷ codes "preciousblock" ∷ codes "invalidateblock" ∷ codes "reconsiderblock" ∷ []
lacking_names Scripts =
    codes "estimatesmartfee" ∷ codes "estimaterawfee" ∷ codes "createrawtransaction"
    ∷ codes "combinerawtransaction" ∷ codes "signrawtransactionwithkey" ∷ codes "decodescript"
    ∷ codes "createmultisig" ∷ codes "createpsbt" ∷ codes "combinepsbt" ∷ codes "decodepsbt"
    ∷ codes "finalizepsbt" ∷ codes "submitpackage" ∷ codes "getdescriptorinfo"
    ∷ codes "deriveaddresses" ∷ codes "validateaddress" ∷ []
lacking_names Mining =
    codes "getblocktemplate" ∷ codes "getmininginfo" ∷ codes "getnetworkhashps"
    ∷ codes "prioritisetransaction" ∷ codes "generateblock" ∷ codes "generatetodescriptor" ∷ []

-- what a method needs that the node doesn't have
abbrev pub lacking_in : List ℕ → Option Lacking
lacking_in name =
    find (λ lacking. list_any (bytes_eq name) (lacking_names lacking))
    (Wallet ∷ Disk ∷ Scripts ∷ Mining ∷ [])
