-- Each call of a node leaves what it is like.
use Rattle.std.proofs.Common.{◌≡◌, ℕ, Bool, true, false, Option, None, Some, Result, Ok, Err, IfOk, IsTrue, OnErr, OnOk, refl, ap}
use Rattle.cb_base.specs.declared.fault.Fault.{Fault}
use Rattle.cb_base.specs.declared.hash.Hash256.{Hash256}
use Rattle.cb_block.specs.declared.block.Block.{Block}
use Rattle.cb_hall.specs.Badge.{BadgeState}
use Rattle.cb_net_node.specs.Nodes.{HasBegun, Mines, NotesTip, OpensNext, Uses, at_once, is_honest, unused}
use Rattle.cb_net_node.specs.declared.node.SimulatedNode.{SimulatedNode}

abbrev role_same : (old new : SimulatedNode) → new ≡ old → new.role ≡ old.role
role_same old new same = ap (λ (node : SimulatedNode). node.role) same

begun_by : (r : Result (Unit {0}) Fault) (peers : ℕ) (old new : SimulatedNode) → OnOk r (HasBegun peers old new) → OnErr r (new ≡ old) → new.role ≡ old.role
begun_by (Ok x) peers old new begun same = ap (λ (node : SimulatedNode). node.role) begun.others
begun_by (Err fault) peers old new begun same = role_same old new same

begun_if : (honest : Bool) (r : Result (Unit {0}) Fault) (peers : ℕ) (old new : SimulatedNode) → is_honest old ≡ honest → (is_honest old ≡ true → OnOk r (HasBegun peers old new)) → (is_honest old ≡ false → (r ≡ Ok tt) × (new ≡ old)) → OnErr r (new ≡ old)
    → new.role ≡ old.role
begun_if true r peers old new is begun other same = begun_by r peers old new (begun is) same
begun_if false r peers old new is begun other same = role_same old new (other is).1

pub begun_alike : (r : Result (Unit {0}) Fault) (peers : ℕ) (old new : SimulatedNode) → (is_honest old ≡ true → OnOk r (HasBegun peers old new)) → (is_honest old ≡ false → (r ≡ Ok tt) × (new ≡ old)) → OnErr r (new ≡ old) → new.role ≡ old.role
begun_alike r peers old new begun other same = begun_if (is_honest old) r peers old new refl begun other same

opened_by : (r : Result BadgeState Fault) (peer : ℕ) (old new : SimulatedNode) → IfOk r (λ badge. OpensNext peer badge old new) → OnErr r (new ≡ old) → new.role ≡ old.role
opened_by (Ok badge) peer old new opens same = ap (λ (node : SimulatedNode). node.role) opens.others
opened_by (Err fault) peer old new opens same = role_same old new same

badged_if : (first : Option BadgeState) (r : Result BadgeState Fault) (peer : ℕ) (old new : SimulatedNode) → unused old peer ≡ first → ((badge : BadgeState) → unused old peer ≡ Some badge → (r ≡ Ok badge) × Uses peer old new)
    → (unused old peer ≡ None → IfOk r (λ badge. OpensNext peer badge old new)) → OnErr r (new ≡ old) → new.role ≡ old.role
badged_if None r peer old new is uses opens same = opened_by r peer old new (opens is) same
badged_if (Some badge) r peer old new is uses opens same = ap (λ (node : SimulatedNode). node.role) (uses badge is).1.others

pub badged_alike : (r : Result BadgeState Fault) (peer : ℕ) (old new : SimulatedNode) → ((badge : BadgeState) → unused old peer ≡ Some badge → (r ≡ Ok badge) × Uses peer old new) → (unused old peer ≡ None → IfOk r (λ badge. OpensNext peer badge old new)) → OnErr r (new ≡ old)
    → new.role ≡ old.role
badged_alike r peer old new uses opens same = badged_if (unused old peer) r peer old new refl uses opens same

pub mined_alike : (r : Result Block Fault) (mark : ℕ) (old new : SimulatedNode) → IfOk r (λ block. Mines mark block old new) → OnErr r (new ≡ old) → new.role ≡ old.role
mined_alike (Ok block) mark old new mines same = ap (λ (node : SimulatedNode). node.role) mines.others
mined_alike (Err fault) mark old new mines same = role_same old new same

pub noted_alike : (other : Bool) (now : ℕ) (block : Hash256) (old new : SimulatedNode) → (IsTrue other → NotesTip now block old new) → (other ≡ false → new ≡ old) → new.role ≡ old.role
noted_alike true now block old new notes same = ap (λ (node : SimulatedNode). node.role) (notes refl).others
noted_alike false now block old new notes same = role_same old new (same refl)

pub taken_alike : (old new : SimulatedNode) → new ≡ record old { hall = new.hall } → new.role ≡ old.role
taken_alike old new is = ap (λ (node : SimulatedNode). node.role) is

pub sent_alike : (old new : SimulatedNode) (free : ℕ) → new ≡ record old { free_at = free } → new.role ≡ old.role
sent_alike old new free is = ap (λ (node : SimulatedNode). node.role) is

pub forgot_alike : (old new : SimulatedNode) → new ≡ record old { came = None; way = at_once } → new.role ≡ old.role
forgot_alike old new is = ap (λ (node : SimulatedNode). node.role) is

pub counted_alike : (old new : SimulatedNode) → new ≡ record old { way = new.way } → new.role ≡ old.role
counted_alike old new is = ap (λ (node : SimulatedNode). node.role) is
