-- Why a node, or its server of calls, can't be started.
use Rattle.std.specs.Prelude.{ℕ, List, codes}
use Rattle.std.specs.declared.io.ErrorKind.{ErrorKind}
use Rattle.std.specs.declared.io.ErrorKind.TheVariants as kinds
use Rattle.cb_rpc_serve.specs.declared.start_fault.StartFault.{StartFault}
use Rattle.cb_rpc_serve.specs.declared.start_fault.StartFault.TheVariants as start

-- why, by the kind of the failure of a socket
abbrev pub fault_of_kind : ErrorKind → StartFault
fault_of_kind kinds.AddrInUse = start.PortInUse
fault_of_kind kinds.AddrNotAvailable = start.NotOurs
fault_of_kind kinds.PermissionDenied = start.NotAllowed
fault_of_kind kinds.OutOfMemory = start.Memory
fault_of_kind kind = start.NoMeans

-- the same in words
abbrev pub cause_text : StartFault → List ℕ
cause_text start.Memory = codes "memory ran out"
cause_text start.PortInUse = codes "the port is in use"
cause_text start.NotOurs = codes "the address isn't this machine's"
cause_text start.NotAllowed = codes "it isn't allowed"
cause_text start.NoMeans = codes "no socket or no thread can be made"
