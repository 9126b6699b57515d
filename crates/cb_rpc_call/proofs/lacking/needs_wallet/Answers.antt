-- None of the names is the method's.
use Rattle.std.proofs.Common.{refl, codes}
use Rattle.cb_rpc_call.proofs.Names.{differs}
use Rattle.cb_rpc_call.proofs.lacking.needs_wallet.Goals as goal

pub returns-in_default : goal.returns-in_default
returns-in_default c =
    let d = c.in_default in
    rw (
      differs c.args.name.now (codes "getnewaddress") d.not-getnewaddress,
      differs c.args.name.now (codes "getrawchangeaddress") d.not-getrawchangeaddress,
      differs c.args.name.now (codes "getaddressinfo") d.not-getaddressinfo,
      differs c.args.name.now (codes "getaddressesbylabel") d.not-getaddressesbylabel,
      differs c.args.name.now (codes "getbalance") d.not-getbalance,
      differs c.args.name.now (codes "getbalances") d.not-getbalances,
      differs c.args.name.now (codes "getunconfirmedbalance") d.not-getunconfirmedbalance,
      differs c.args.name.now (codes "getreceivedbyaddress") d.not-getreceivedbyaddress,
      differs c.args.name.now (codes "sendtoaddress") d.not-sendtoaddress,
      differs c.args.name.now (codes "sendmany") d.not-sendmany,
      differs c.args.name.now (codes "send") d.not-send,
      differs c.args.name.now (codes "sendall") d.not-sendall,
      differs c.args.name.now (codes "listunspent") d.not-listunspent,
      differs c.args.name.now (codes "lockunspent") d.not-lockunspent,
      differs c.args.name.now (codes "listlockunspent") d.not-listlockunspent,
      differs c.args.name.now (codes "createwallet") d.not-createwallet,
      differs c.args.name.now (codes "loadwallet") d.not-loadwallet,
      differs c.args.name.now (codes "unloadwallet") d.not-unloadwallet,
      differs c.args.name.now (codes "listwallets") d.not-listwallets,
      differs c.args.name.now (codes "listwalletdir") d.not-listwalletdir,
      differs c.args.name.now (codes "getwalletinfo") d.not-getwalletinfo,
      differs c.args.name.now (codes "backupwallet") d.not-backupwallet,
      differs c.args.name.now (codes "restorewallet") d.not-restorewallet,
      differs c.args.name.now (codes "importprivkey") d.not-importprivkey,
      differs c.args.name.now (codes "importaddress") d.not-importaddress,
      differs c.args.name.now (codes "importdescriptors") d.not-importdescriptors,
      differs c.args.name.now (codes "dumpprivkey") d.not-dumpprivkey,
      differs c.args.name.now (codes "dumpwallet") d.not-dumpwallet,
      differs c.args.name.now (codes "signmessage") d.not-signmessage,
      differs c.args.name.now (codes "signrawtransactionwithwallet") d.not-signrawtransactionwithwallet,
      differs c.args.name.now (codes "fundrawtransaction") d.not-fundrawtransaction,
      differs c.args.name.now (codes "walletcreatefundedpsbt") d.not-walletcreatefundedpsbt,
      differs c.args.name.now (codes "walletprocesspsbt") d.not-walletprocesspsbt,
      differs c.args.name.now (codes "walletpassphrase") d.not-walletpassphrase,
      differs c.args.name.now (codes "walletlock") d.not-walletlock,
      differs c.args.name.now (codes "encryptwallet") d.not-encryptwallet,
      differs c.args.name.now (codes "keypoolrefill") d.not-keypoolrefill,
      differs c.args.name.now (codes "listtransactions") d.not-listtransactions,
      differs c.args.name.now (codes "listsinceblock") d.not-listsinceblock,
      differs c.args.name.now (codes "gettransaction") d.not-gettransaction,
      differs c.args.name.now (codes "abandontransaction") d.not-abandontransaction,
      differs c.args.name.now (codes "bumpfee") d.not-bumpfee,
      differs c.args.name.now (codes "rescanblockchain") d.not-rescanblockchain,
      differs c.args.name.now (codes "settxfee") d.not-settxfee,
      differs c.args.name.now (codes "generatetoaddress") d.not-generatetoaddress,
    )
    refl
