-- What a plan comes to.
use Rattle.std.proofs.Common.{◌≡◌, ℕ, zero, suc, ◌+◌, ◌*◌, ◌/◌, ◌<◌, ◌≤◌, List, [], ◌∷◌, Some, length, refl, sym, ap, subst, ◌∙◌, inl, inr, arith, zero-mul}
use Rattle.std.specs.Prelude.{◌==◌, slice_get}
use Rattle.std.specs.List.{All}
use Rattle.std.proofs.lemmas.Bool.Decides.{nat_tests}
use Rattle.std.proofs.lemmas.List.Elements.{All-from_recursion}
use Rattle.cb_net_plan.specs.declared.draws.Draws.{Draws}
use Rattle.cb_net_plan.specs.declared.links.PlannedLink.{PlannedLink}
use Rattle.cb_net_plan.specs.declared.roles.Role.{Role}
use Rattle.cb_net_plan.specs.declared.settings.NetSettings.{NetSettings}
use Rattle.cb_net_plan.specs.Links.{Outline, all_joined, all_tried}
use Rattle.cb_net_plan.specs.Planning.{AreLinks, AreRoles, IsLink, planned, planned_roles, planned_start}
use Rattle.cb_net_plan.specs.Roles.{roles_of}
use Rattle.cb_net_plan.proofs.Graph.{IsDrawn, all_joined_drawn, all_tried_drawn}
use Rattle.cb_net_plan.proofs.Outlines.{is}
use Rattle.cb_net_plan.proofs.Rolling.{count_roles, first_honest, length_roles}

-- ---- roles

pub roles_hold : (settings : NetSettings) → AreRoles settings (planned_roles settings)
unfolding planned_roles
roles_hold settings =
    let draws : Draws = record { state = settings.seed } in record {
      all = length_roles settings.nodes settings.stall settings.lie draws;
      first = first_honest settings.nodes settings.stall settings.lie draws;
      stall = λ few. (count_roles settings.nodes settings.stall settings.lie draws few).0;
      lie = λ few. (count_roles settings.nodes settings.stall settings.lie draws few).1;
    }

-- ---- links

got_lt : (X : Type 0) (xs : List X) (k : ℕ) (x : X) → slice_get xs k ≡ Some x → k < length xs
got_lt X [] k x e = absurd cc
got_lt X (y ∷ ys) zero x e = omega arith
got_lt X (y ∷ ys) (suc k) x e = let lt = got_lt X ys k x e in omega (arith, lt)

start_drawn : (settings : NetSettings) (roles : List Role) → IsDrawn roles (settings.latency_low * 1000) (settings.latency_high * 1000) 0 (planned_start settings)
unfolding planned_start
start_drawn settings roles = record {
  low_is = refl;
  high_is = refl;
  ends = tt;
  apart = tt;
  timed = λ up. tt;
  known = tt;
  some = λ one. absurd (omega (arith, one));
  connected = λ node lt. absurd (omega (arith, lt));
  honest = λ node lt h. absurd (omega (arith, lt));
}

-- what all links are, if there are nodes
drawn_all : (settings : NetSettings) → 0 < settings.nodes → IsDrawn (planned_roles settings) (settings.latency_low * 1000) (settings.latency_high * 1000) settings.nodes (planned settings)
unfolding planned
drawn_all settings one =
    let roles = planned_roles settings in
    let hold = roles_hold settings in
    let low = settings.latency_low * 1000 in
    let high = settings.latency_high * 1000 in
    let ends = settings.nodes * settings.links in
    let first = all_joined_drawn roles low high roles 0 (planned_start settings) (hold.first one) (λ k. ap (slice_get roles) (let e : k ≡ 0 + k = omega arith in e)) (omega arith) (start_drawn settings roles) in
    all_tried_drawn roles low high ends (ends / 2) settings.nodes (all_joined 0 roles (planned_start settings)) (sym hold.all) one
    (subst (λ (n : ℕ). IsDrawn roles low high n (all_joined 0 roles (planned_start settings))) hold.all first)

-- there are none if there are no nodes
tried_none : (tries nodes wanted : ℕ) (outline : Outline) → tries ≡ 0 → all_tried tries nodes wanted outline ≡ outline
tried_none tries nodes wanted outline e = subst (λ (n : ℕ). all_tried n nodes wanted outline ≡ outline) (sym e) refl

no_roles : (nodes stall lie : ℕ) (draws : Draws) → nodes ≡ 0 → roles_of nodes stall lie draws ≡ []
no_roles nodes stall lie draws e = ap (λ (n : ℕ). roles_of n stall lie draws) e

none_planned : (settings : NetSettings) → settings.nodes ≡ 0 → (planned settings).links ≡ []
unfolding planned planned_roles planned_start
none_planned settings none =
    let ends = settings.nodes * settings.links in
    let no_tries : ends ≡ 0 = ap (λ (n : ℕ). n * settings.links) none ∙ zero-mul settings.links in
    ap (λ (o : Outline). o.links) (tried_none ends settings.nodes (ends / 2) (all_joined 0 (planned_roles settings) (planned_start settings)) no_tries)
    ∙ ap (λ (roles : List Role). (all_joined 0 roles (planned_start settings)).links) (no_roles settings.nodes settings.stall settings.lie _ none)

abbrev Times : NetSettings → PlannedLink → Type 0
Times settings link = (settings.latency_low * 1000 ≤ link.latency) × (link.latency ≤ settings.latency_high * 1000)

no_links : (settings : NetSettings) (links : List PlannedLink) → settings.nodes ≡ 0 → links ≡ [] → AreLinks settings (planned_roles settings) links
no_links settings links none e =
    subst (AreLinks settings (planned_roles settings)) (sym e) (record {
      ends = All-from_recursion (IsLink settings.nodes) [] tt;
      apart = tt;
      latency = λ up. All-from_recursion (Times settings) [] tt;
      connected = λ node lt. absurd (omega (arith, lt, none));
      honest = λ node h. absurd (let lt = got_lt Role (planned_roles settings) node _ h in let all = (roles_hold settings).all in omega (arith, lt, all, none));
    })

some_links : (settings : NetSettings) (outline : Outline) → IsDrawn (planned_roles settings) (settings.latency_low * 1000) (settings.latency_high * 1000) settings.nodes outline → AreLinks settings (planned_roles settings) outline.links
some_links settings outline drawn =
    let all = (roles_hold settings).all in record {
      ends = subst (λ (n : ℕ). All (IsLink n) outline.links) all (All-from_recursion (IsLink (length (planned_roles settings))) outline.links drawn.ends);
      apart = drawn.apart;
      latency = λ up. All-from_recursion (Times settings) outline.links (drawn.timed (omega (arith, up)));
      connected = drawn.connected;
      honest = λ node h. drawn.honest node (let lt = got_lt Role (planned_roles settings) node _ h in omega (arith, lt, all)) h;
    }

pub links_hold : (settings : NetSettings) → AreLinks settings (planned_roles settings) (planned settings).links
links_hold settings =
    elim (is (settings.nodes == 0)) [
      | inl t ↦ let none : settings.nodes ≡ 0 = grind (arith, nat_tests) in no_links settings (planned settings).links none (none_planned settings none)
      | inr f ↦ let one : 0 < settings.nodes = grind (arith, nat_tests) in some_links settings (planned settings) (drawn_all settings one)
    ]
