use Rattle.std.proofs.Common.{◌≤◌, length, take, vec_capacity, vec_len}
use Rattle.cb_process.specs.Dialling.{AreDialled, addresses_of}
use Rattle.cb_process.proofs.aiming.targets_of.Given as goal

-- those that are dialled of the addresses so far, and room for all
abbrev pub invariant-loop-address : goal.invariant-loop-address
invariant-loop-address l = (vec_len l.targets ≤ l.address-index) × (length l.addresses ≤ vec_capacity l.targets) × AreDialled l.own (take l.address-index l.addresses) (addresses_of l.targets.items)
