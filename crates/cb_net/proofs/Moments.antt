-- From one moment of a network to a later one.
use Rattle.std.proofs.Common.{◌≡◌, ◌∙◌, ℕ, List, refl, ap, arith, Some, None, false, get_or, option_map, set, slice_get}
use Rattle.std.proofs.Math.Seq.{map-set_same}
use Rattle.cb_net_node.specs.declared.node.SimulatedNode.{SimulatedNode}
use Rattle.std.proofs.lemmas.Option.{slice_get-map}
use Rattle.cb_net_node.specs.Nodes.{is_honest}
use Rattle.cb_net.specs.Counting.{is_honest_at, is_honest_one}
use Rattle.cb_net.specs.Moments.{Ages, IsLater, Lasts, Relays, roles_in}
use Rattle.cb_net.specs.declared.net.Net.{Net}
use Rattle.cb_net.specs.declared.world.World.{World}

pub relays_none : (world : World) → Relays world world
relays_none world = record { roles = refl; time = omega arith; block = refl }

pub relays_then : (a b c : World) → Relays a b → Relays b c → Relays a c
relays_then a b c one two = record { roles = two.roles ∙ one.roles; time = omega arith; block = two.block ∙ one.block }

pub relays_later : (a b : World) → Relays a b → IsLater a b
relays_later a b one = record { roles = one.roles; time = one.time }

pub later_then : (a b c : World) → IsLater a b → IsLater b c → IsLater a c
later_then a b c one two = record { roles = two.roles ∙ one.roles; time = omega arith }

pub ages_none : (net : Net) → Ages net net
ages_none net = record { settings = refl; roles = refl; time = omega arith; left = omega arith; relayed = refl }

pub ages_then : (a b c : Net) → Ages a b → Ages b c → Ages a c
ages_then a b c one two = record { settings = two.settings ∙ one.settings; roles = two.roles ∙ one.roles; time = omega arith; left = omega arith; relayed = two.relayed ∙ one.relayed }

pub ages_last : (a b : Net) → Ages a b → Lasts a b
ages_last a b one = record { settings = one.settings; roles = one.roles; time = one.time; left = one.left }

-- what a node's role says of it
pub honest_here : (nodes : List SimulatedNode) (place : ℕ) (node : SimulatedNode) → slice_get nodes place ≡ Some node → is_honest_at (roles_in nodes) place ≡ is_honest node
honest_here nodes place node here =
    ap is_honest_one (slice_get-map (λ (one : SimulatedNode). one.role) nodes place ∙ ap (option_map (λ (one : SimulatedNode). one.role)) here)

pub honest_nowhere : (nodes : List SimulatedNode) (place : ℕ) → slice_get nodes place ≡ None → is_honest_at (roles_in nodes) place ≡ false
honest_nowhere nodes place here =
    ap is_honest_one (slice_get-map (λ (one : SimulatedNode). one.role) nodes place ∙ ap (option_map (λ (one : SimulatedNode). one.role)) here)

-- a node is replaced by one that is like it
pub roles_set : (nodes : List SimulatedNode) (place : ℕ) (node : SimulatedNode) → node.role ≡ (get_or nodes place node).role → roles_in (set nodes place node) ≡ roles_in nodes
roles_set nodes place node same = map-set_same (λ (one : SimulatedNode). one.role) nodes place node node same
