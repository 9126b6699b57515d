-- None of the names is the method's.
use Rattle.std.proofs.Common.{refl, codes}
use Rattle.cb_rpc_call.proofs.Names.{differs}
use Rattle.cb_rpc_call.proofs.lacking.needs_scripts.Goals as goal

pub returns-in_default : goal.returns-in_default
returns-in_default c =
    let d = c.in_default in
    rw (
      differs c.args.name.now (codes "estimatesmartfee") d.not-estimatesmartfee,
      differs c.args.name.now (codes "estimaterawfee") d.not-estimaterawfee,
      differs c.args.name.now (codes "createrawtransaction") d.not-createrawtransaction,
      differs c.args.name.now (codes "combinerawtransaction") d.not-combinerawtransaction,
      differs c.args.name.now (codes "signrawtransactionwithkey") d.not-signrawtransactionwithkey,
      differs c.args.name.now (codes "decodescript") d.not-decodescript,
      differs c.args.name.now (codes "createmultisig") d.not-createmultisig,
      differs c.args.name.now (codes "createpsbt") d.not-createpsbt,
      differs c.args.name.now (codes "combinepsbt") d.not-combinepsbt,
      differs c.args.name.now (codes "decodepsbt") d.not-decodepsbt,
      differs c.args.name.now (codes "finalizepsbt") d.not-finalizepsbt,
      differs c.args.name.now (codes "submitpackage") d.not-submitpackage,
      differs c.args.name.now (codes "getdescriptorinfo") d.not-getdescriptorinfo,
      differs c.args.name.now (codes "deriveaddresses") d.not-deriveaddresses,
      differs c.args.name.now (codes "validateaddress") d.not-validateaddress,
    )
    refl
