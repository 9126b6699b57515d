-- Which nodes of a network are linked.
use Rattle.std.specs.Prelude.{◌≡◌, ℕ, ◌+◌, zero, suc, Bool, true, false, ◌==◌, ◌&&◌, ◌||◌, List, [], ◌∷◌, ◌++◌, Option, Some, None, if◌then◌else◌, length, nat_le, slice_get, ⊤}
use Rattle.std.specs.List.{list_any}
use Rattle.cb_net_plan.specs.declared.draws.Draws.{Draws}
use Rattle.cb_net_plan.specs.declared.links.PlannedLink.{PlannedLink}
use Rattle.cb_net_plan.specs.declared.roles.Role.{Role}
use Rattle.cb_net_plan.specs.declared.roles.Role.TheVariants.{Honest, Lies, Stalls}
use Rattle.cb_net_plan.specs.Draws.{after, below, between}

-- a link is between these two nodes
abbrev pub joins : PlannedLink → ℕ → ℕ → Bool
joins link a b = (link.first == a && link.second == b) || (link.first == b && link.second == a)

-- some link is between them
abbrev pub are_linked : List PlannedLink → ℕ → ℕ → Bool
are_linked links a b = list_any (λ link. joins link a b) links

-- ---- how they are drawn

-- the draws as they go on, how long a message is under way, the honest nodes and the links so far
pub record Outline : Type 0 where
  pub draws : Draws
  pub low : ℕ
  pub high : ℕ
  pub honest : List ℕ
  pub links : List PlannedLink

-- a number was drawn
abbrev pub drawn : Outline → Outline
drawn outline = record outline { draws = after outline.draws }

-- Two nodes are linked with a latency that is drawn, unless they are one or are linked already.
unfoldable pub linked : ℕ → ℕ → Outline → Outline
linked a b outline =
    if a == b || are_linked outline.links a b then drawn outline
    else record (drawn outline) {
      links = outline.links
          ++ (record {
            first = a;
            second = b;
            latency = between outline.low outline.high outline.draws;
          }) ∷ [];
    }

abbrev pub linked_to : ℕ → Option ℕ → Outline → Outline
linked_to node None outline = outline
linked_to node (Some lower) outline = linked node lower outline

-- one of the honest nodes so far, if there are any
abbrev pub drawn_honest : Outline → Option ℕ
drawn_honest outline =
    slice_get outline.honest (below (length outline.honest) outline.draws)

-- An honest node is linked to one of the honest nodes before it, and any other to one of all the
-- nodes before it.
unfoldable pub joined : ℕ → Role → Outline → Outline
joined node Honest outline =
    record (linked_to node (drawn_honest outline) (drawn outline)) {
      honest = outline.honest ++ node ∷ [];
    }
joined node Stalls outline = linked node (below node outline.draws) (drawn outline)
joined node Lies outline = linked node (below node outline.draws) (drawn outline)

-- the nodes from this one on, of these roles
abbrev pub all_joined : ℕ → List Role → Outline → Outline
all_joined node [] outline = outline
all_joined node (role ∷ roles) outline = all_joined (node + 1) roles (joined node role outline)

-- two nodes are drawn and linked, if there are fewer links than are wanted
unfoldable pub tried : ℕ → ℕ → Outline → Outline
tried nodes wanted outline =
    let second = drawn outline in
    if nat_le wanted (length outline.links) then outline
    else linked (below nodes outline.draws) (below nodes second.draws) (drawn second)

-- so many times
abbrev pub all_tried : ℕ → ℕ → ℕ → Outline → Outline
all_tried zero nodes wanted outline = outline
all_tried (suc tries) nodes wanted outline =
    all_tried tries nodes wanted (tried nodes wanted outline)

-- ---- what they come to

-- from one node to another by links, over nodes of a kind
pub data Way (Kind : ℕ → Type 0) (links : List PlannedLink) : ℕ → ℕ → Type 0 where
  here : (node : ℕ) → Way Kind links node node
  over : (from next to : ℕ) → are_linked links from next ≡ true → Kind next
      → Way Kind links next to → Way Kind links from to

-- no link is between two nodes that another one behind it is between
abbrev pub AreApart : List PlannedLink → Type 0
AreApart [] = ⊤
AreApart (link ∷ links) = (are_linked links link.first link.second ≡ false) × AreApart links
