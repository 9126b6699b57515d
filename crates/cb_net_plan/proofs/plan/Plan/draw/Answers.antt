use Rattle.std.proofs.Common.{◌≡◌, ◌∙◌, ◌*◌, ◌-◌, ◌/◌, [], ap, length, sym, subst, List}
use Rattle.cb_net_plan.specs.declared.links.PlannedLink.{PlannedLink}
use Rattle.cb_net_plan.specs.declared.roles.Role.{Role}
use Rattle.cb_net_plan.specs.Links.{Outline, all_joined, all_tried}
use Rattle.cb_net_plan.specs.Planning.{AreLinks, AreRoles, planned, planned_roles, planned_start}
use Rattle.cb_net_plan.specs.Roles.{after_many, roles_of}
use Rattle.cb_net_plan.specs.Sketching.{outline_of}
use Rattle.cb_net_plan.proofs.Planning.{links_hold, roles_hold}
use Rattle.cb_net_plan.proofs.Rolling.{length_roles}
use Rattle.cb_net_plan.proofs.plan.Plan.draw.Goals as goal

pub join_all-requires-clause-all : goal.join_all-requires-clause-all
join_all-requires-clause-all c =
    let settings = c.args.settings.now in
    ap length (c.as_slice.ensures.value ∙ c.in_ok-roles.ensures.exact)
    ∙ length_roles settings.nodes settings.stall settings.lie c.new-draws.result

pub returns-clause-exact : goal.returns-clause-exact
unfolding planned planned_roles planned_start
returns-clause-exact c =
    let settings = c.args.settings.now in
    let roles : c.in_ok-roles.roles.items ≡ planned_roles settings =
    c.in_ok-roles.ensures.exact ∙ ap (roles_of settings.nodes settings.stall settings.lie) c.new-draws.ensures in
    let draws = c.in_ok-roles.ensures.draws ∙ ap (after_many (settings.nodes - 1)) c.new-draws.ensures in
    let start : outline_of c.new-sketch.result ≡ planned_start settings =
    c.new-sketch.ensures.outline ∙ (λ i. record {
      draws = draws i;
      low = c.from-low.ensures i * 1000;
      high = c.from-high.ensures i * 1000;
      honest = [];
      links = [];
    }) in
    let joined : outline_of c.join_all.new.sketch ≡ all_joined 0 (planned_roles settings) (planned_start settings) =
    c.in_ok-join_all.ensures.outline ∙ (λ i. all_joined 0 ((c.as_slice.ensures.value ∙ roles) i) (start i)) in
    let all : outline_of c.add_links.new.sketch ≡ planned settings =
    c.in_ok-add_links.ensures.outline
    ∙ (λ i. all_tried (c.from.ensures i * c.from-2.ensures i) settings.nodes (c.from.ensures i * c.from-2.ensures i / 2) (joined i)) in record {
      roles = roles;
      links = c.finish-links.ensures.0 ∙ ap (λ (outline : Outline). outline.links) all;
      draws = c.finish-links.ensures.1 ∙ ap (λ (outline : Outline). outline.draws) all;
    }

pub returns-clause-roles : goal.returns-clause-roles
unfolding planned_roles
returns-clause-roles c =
    let settings = c.args.settings.now in
    let roles : c.in_ok-roles.roles.items ≡ planned_roles settings =
    c.in_ok-roles.ensures.exact ∙ ap (roles_of settings.nodes settings.stall settings.lie) c.new-draws.ensures in
    subst (AreRoles settings) (sym roles) (roles_hold settings)

pub returns-clause-links : goal.returns-clause-links
returns-clause-links c =
    let settings = c.args.settings.now in
    let plan = returns-clause-exact c in
    subst (λ (links : List PlannedLink). AreLinks settings c.in_ok-roles.roles.items links) (sym plan.links)
    (subst (λ (roles : List Role). AreLinks settings roles (planned settings).links) (sym plan.roles) (links_hold settings))
