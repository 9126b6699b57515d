-- What a node tells of a fault.
use Rattle.std.specs.Prelude.{⊤}
use Rattle.cb_base.specs.declared.fault.Fault.{Fault}
use Rattle.cb_base.specs.declared.fault.Fault.TheVariants as faults
use Rattle.cb_node.specs.declared.fault.NodeFault.{NodeFault}
use Rattle.cb_node.specs.declared.fault.NodeFault.TheVariants as node

-- what a node tells of a fault of the hall
abbrev pub node_fault : Fault → NodeFault
node_fault faults.Memory = node.Memory
node_fault fault = node.Hall fault

-- a socket or a thread failed, of whatever kind the failure is
abbrev pub IsIo : NodeFault → Type 0
IsIo (node.Io kind) = ⊤
IsIo other = ⊥
