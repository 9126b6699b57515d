-- Want of memory where a transaction or a block in hex is read.
use Rattle.std.specs.Prelude.{◌≡◌, ◌⊎◌, ⊤, Result, Ok, Err}
use Rattle.cb_rpc_call.specs.declared.fault.RpcFault.{RpcFault}
use Rattle.cb_rpc_call.specs.declared.fault.RpcFault.TheVariants.{BadBlock, BadTransaction, Memory}

-- so far that hex was read, with this outcome
abbrev pub IsOfHex : {A : Type 0} → Result A RpcFault → Type 0
IsOfHex (Ok a) = ⊤
IsOfHex (Err BadTransaction) = ⊤
IsOfHex (Err BadBlock) = ⊤
IsOfHex (Err other) = ⊥

-- What is wanted came, or memory ran out when the hex was read. Nothing else takes any.
abbrev pub InMemory : {A : Type 0} → Result A RpcFault → Result A RpcFault → Type 0
InMemory wanted result = (result ≡ wanted) ⊎ ((result ≡ Err Memory) × IsOfHex wanted)
