-- Calls about peers.
use Rattle.std.specs.Prelude.{◌≡◌, ℕ, ◌^◌, if◌then◌else◌, List, codes, Option, Some, None, Result, Ok, Err}
use Rattle.std.specs.Net.Grammar.{IsSocketText}
use Rattle.std.specs.Str.{bytes_eq}
use Rattle.std.specs.declared.net.socket_addr.SocketAddr.{SocketAddr}
use Rattle.json.specs.Json.{Json}
use Rattle.json.specs.Find.{as_str}
use Rattle.cb_rpc_call.specs.Arguments.{◌>>=◌, argument, needed, number_of, switch_of, text_of}
use Rattle.cb_rpc_call.specs.declared.call.Aim.{Aim}
use Rattle.cb_rpc_call.specs.declared.call.Aim.TheVariants.{Add, Remove, Once}
use Rattle.cb_rpc_call.specs.declared.call.Call.{Call}
use Rattle.cb_rpc_call.specs.declared.call.Call.TheVariants as calls
use Rattle.cb_rpc_call.specs.declared.call.Whom.TheVariants.{Address, Id}
use Rattle.cb_rpc_call.specs.declared.fault.RpcFault.{RpcFault}
use Rattle.cb_rpc_call.specs.declared.fault.RpcFault.TheVariants.{BadAddress, BadWord, Usage}
use Rattle.cb_rpc_call.specs.declared.method.Method.TheVariants as methods

-- The call with the address that a text writes: an IP address and a port, as std spells them. It is
-- refused if the text writes none.
abbrev pub IsAddressed : (SocketAddr → Call) → List ℕ → Result Call RpcFault → Type 0
IsAddressed call text (Ok made) =
    (address : SocketAddr) × IsSocketText text address × (made ≡ call address)
IsAddressed call text (Err fault) =
    ((address : SocketAddr) → IsSocketText text address → ⊥) × (fault ≡ BadAddress)

-- ---- addnode

abbrev pub aim_in : List ℕ → Result Aim RpcFault
aim_in word =
    if bytes_eq word (codes "add")
    then Ok Add
    else if bytes_eq word (codes "remove")
    then Ok Remove
    else if bytes_eq word (codes "onetry")
    then Ok Once
    else Err BadWord

abbrev pub aim_of : Json → Result Aim RpcFault
aim_of j = do
  word ← text_of j
  aim_in word

-- what `addnode` is told: the text of the address, and what is done with it
abbrev pub added : Json → Result (List ℕ × Aim) RpcFault
added request = do
  text ← needed methods.AddNode text_of (argument 0 (codes "node") request)
  aim ← needed methods.AddNode aim_of (argument 1 (codes "command") request)
  Ok (text, aim)

abbrev pub ReadsAdded : Result (List ℕ × Aim) RpcFault → Result Call RpcFault → Type 0
ReadsAdded (Ok told) result = IsAddressed (λ address. calls.AddNode address told.1) told.0 result
ReadsAdded (Err fault) result = result ≡ Err fault

abbrev pub ReadsAddNode : Json → Result Call RpcFault → Type 0
ReadsAddNode request result = ReadsAdded (added request) result

-- ---- disconnectnode

abbrev pub ReadsAddress : Result (List ℕ) RpcFault → Result Call RpcFault → Type 0
ReadsAddress (Ok text) result =
    IsAddressed (λ address. calls.DisconnectNode (Address address)) text result
ReadsAddress (Err fault) result = result ≡ Err fault

abbrev pub id_call : Json → Result Call RpcFault
id_call j = do
  id ← number_of (2 ^ 64) j
  Ok (calls.DisconnectNode (Id id))

-- beside an id, the address has to be an empty text
abbrev pub id_beside : Option (List ℕ) → Json → Result Call RpcFault
id_beside (Some text) id =
    if bytes_eq text (codes "") then id_call id else Err (Usage methods.DisconnectNode)
id_beside None id = Err (Usage methods.DisconnectNode)

-- the id alone
abbrev pub unnamed_call : Option Json → Result Call RpcFault
unnamed_call (Some id) = id_call id
unnamed_call None = Err (Usage methods.DisconnectNode)

-- the address, and maybe an id
abbrev pub ReadsNamed : Json → Option Json → Result Call RpcFault → Type 0
ReadsNamed address (Some id) result = result ≡ id_beside (as_str address) id
ReadsNamed address None result = ReadsAddress (text_of address) result

abbrev pub ReadsWhom : Option Json → Option Json → Result Call RpcFault → Type 0
ReadsWhom (Some address) id result = ReadsNamed address id result
ReadsWhom None id result = result ≡ unnamed_call id

abbrev pub ReadsDisconnectNode : Json → Result Call RpcFault → Type 0
ReadsDisconnectNode request result =
    ReadsWhom (argument 0 (codes "address") request) (argument 1 (codes "nodeid") request) result

-- ---- setnetworkactive

abbrev pub set_network_active_call : Json → Result Call RpcFault
set_network_active_call request = do
  state ← needed methods.SetNetworkActive switch_of (argument 0 (codes "state") request)
  Ok (calls.SetNetworkActive state)
