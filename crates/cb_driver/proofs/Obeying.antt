-- What can become of an order.
use Rattle.std.proofs.Common.{◌≡◌, ◌≢◌, ◌≤◌, ℕ, length, Option, Some, Result, Ok, Err, IfOk, refl, sym, subst}
use Rattle.std.specs.Prelude.{◌↔◌}
use Rattle.cb_control.specs.declared.order.Deed.{Deed}
use Rattle.cb_control.specs.declared.order.Deed.TheVariants.{Tx, Submit, Mine, Kick, Checkpoint}
use Rattle.cb_control.specs.declared.refusal.Refusal.{Refusal}
use Rattle.cb_control.specs.declared.refusal.Refusal.TheVariants as refusals
use Rattle.cb_control.specs.declared.reply.Reply.{Reply}
use Rattle.cb_control.specs.declared.script_line.ScriptOrder.TheVariants.{Link, Obey}
use Rattle.cb_control.specs.Outcomes.{IsOfNode}
use Rattle.cb_control.specs.declared.ending.Halt.{Halt}
use Rattle.cb_node.specs.declared.fault.NodeFault.{NodeFault}
use Rattle.cb_node.specs.declared.fault.NodeFault.TheVariants as faults
use Rattle.cb_node.specs.Node.{NodeState}
use Rattle.cb_driver.specs.Deeds.{TellsSlot, refusal_of}
use Rattle.cb_driver.specs.Playing.{CanBecome, HasSlots}

pub links : (first second : ℕ) (result : Result (Option Refusal) Halt) → IfOk result (λ outcome. IsOfNode outcome) → IfOk result (λ outcome. CanBecome (Link first second) outcome)
links first second (Ok outcome) is = is
links first second (Err halt) is = is

pub obeys : (number : ℕ) (deed : Deed) (node : NodeState) (done : Result Reply NodeFault) (result : Result (Option Refusal) Halt) → HasSlots node → TellsSlot (length node.used) deed done
    → IfOk result (λ outcome. IsOfNode outcome) → IfOk result (λ outcome. (outcome ≡ Some refusals.NoSlot) ↔ (done ≡ Err faults.NoSlot)) → IfOk result (λ outcome. CanBecome (Obey number deed) outcome)
obeys number deed node done (Err halt) has tells is told = is
obeys number (Tx tx) node done (Ok outcome) has tells is told = (is, tt)
obeys number (Submit block) node done (Ok outcome) has tells is told = (is, tt)
obeys number (Mine count) node done (Ok outcome) has tells is told = (is, tt)
obeys number Checkpoint node done (Ok outcome) has tells is told = (is, tt)
obeys number (Kick slot) node done (Ok outcome) has tells is told = (
  is,
  (λ e. subst (λ (n : ℕ). n ≤ slot) has (tells.0 (told.0 e)), λ le. told.1 (tells.1 (subst (λ (n : ℕ). n ≤ slot) (sym has) le))),
)

-- why a node refuses a call, if not for memory
refused_so : (fault : NodeFault) → fault ≢ faults.Memory → IsOfNode (Some (refusal_of fault))
refused_so (faults.Io kind) not = tt
refused_so faults.NoSlot not = tt
refused_so faults.Memory not = absurd (not refl)
refused_so (faults.Hall fault) not = tt

pub of_node : (fault : NodeFault) (refusal : Refusal) → refusal ≡ refusal_of fault → fault ≢ faults.Memory → IsOfNode (Some refusal)
of_node fault refusal is not = subst (λ (r : Refusal). IsOfNode (Some r)) (sym is) (refused_so fault not)
