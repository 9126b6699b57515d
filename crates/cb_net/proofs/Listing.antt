-- Traces and verdicts that are listed one after another.
use Rattle.std.proofs.Common.{◌≡◌, ◌∙◌, ℕ, ◌+◌, ◌/◌, ◌<◌, ◌≤◌, List, [], ◌∷◌, ◌++◌, length, take, get_or, refl, sym, ap, subst, append_assoc, Option}
use Rattle.std.specs.List.{flat_map}
use Rattle.std.proofs.lemmas.List.{append-nil, map-append, take_all, take_more}
use Rattle.std.proofs.lemmas.Option.{slice_get_past}
use Rattle.std.proofs.lemmas.List.Concat.{flat_map-append}
use Rattle.cb_audit.specs.Order.{AuditedTrace}
use Rattle.cb_net_plan.specs.declared.roles.Role.{Role}
use Rattle.cb_net_node.specs.declared.link.SimulatedLink.{SimulatedLink}
use Rattle.cb_net_node.specs.declared.node.SimulatedNode.{SimulatedNode}
use Rattle.cb_net.specs.Audits.{AreVerdicts, IsVerdict, side_at, traces_at, traces_on}
use Rattle.cb_net.specs.Moments.{roles_in}
use Rattle.cb_net.specs.declared.audits.AuditVerdict.{AuditVerdict}

pub one_more : {A : Type 0} (xs : List A) (n : ℕ) (here : A) → n < length xs → here ≡ get_or xs n here → take (n + 1) xs ≡ take n xs ++ here ∷ []
one_more xs n here low is = take_more xs n here low ∙ ap (λ (x : _). take n xs ++ x ∷ []) (sym is)

-- one list after another
pub flat_more : {A B : Type 0} (f : A → List B) (so_far more : List B) (xs : List A) (n : ℕ) (here : A) → so_far ≡ flat_map f (take n xs) → n < length xs → here ≡ get_or xs n here → more ≡ so_far ++ f here
    → more ≡ flat_map f (take (n + 1) xs)
flat_more f so_far more xs n here is low own added =
    added ∙ ap (λ (l : List _). l ++ f here) is ∙ ap (λ (l : List _). flat_map f (take n xs) ++ l) (sym (append-nil (f here)))
    ∙ sym (ap (flat_map f) (one_more xs n here low own) ∙ flat_map-append f (take n xs) (here ∷ []))

pub flat_all : {A B : Type 0} (f : A → List B) (so_far : List B) (xs : List A) (n : ℕ) → so_far ≡ flat_map f (take n xs) → length xs ≤ n → so_far ≡ flat_map f xs
flat_all f so_far xs n is past = is ∙ ap (flat_map f) (take_all n xs past)

-- one list after another, behind a list
pub behind_none : {A B : Type 0} (f : A → List B) (list : List B) (xs : List A) → list ≡ list ++ flat_map f (take 0 xs)
behind_none f list xs = sym (append-nil list)

pub behind_more : {A B : Type 0} (f : A → List B) (list so_far more : List B) (xs : List A) (n : ℕ) (here : A) → so_far ≡ list ++ flat_map f (take n xs) → n < length xs → here ≡ get_or xs n here → more ≡ so_far ++ f here
    → more ≡ list ++ flat_map f (take (n + 1) xs)
behind_more f list so_far more xs n here is low own added =
    added ∙ ap (λ (l : List _). l ++ f here) is ∙ append_assoc list (flat_map f (take n xs)) (f here)
    ∙ ap (λ (l : List _). list ++ l) (flat_more f (flat_map f (take n xs)) (flat_map f (take n xs) ++ f here) xs n here refl low own refl)

pub behind_all : {A B : Type 0} (f : A → List B) (list so_far : List B) (xs : List A) (n : ℕ) → so_far ≡ list ++ flat_map f (take n xs) → length xs ≤ n → so_far ≡ list ++ flat_map f xs
behind_all f list so_far xs n is past = is ∙ ap (λ (l : List _). list ++ flat_map f l) (take_all n xs past)

-- one verdict after another
pub one_verdict_more : (links : List SimulatedLink) (nodes : List SimulatedNode) (verdicts : List AuditVerdict) (node : SimulatedNode) (verdict : AuditVerdict) → AreVerdicts links nodes verdicts → IsVerdict links node verdict
    → AreVerdicts links (nodes ++ node ∷ []) (verdicts ++ verdict ∷ [])
one_verdict_more links [] [] node verdict are is = (is, tt)
one_verdict_more links [] (one ∷ verdicts) node verdict are is = absurd are
one_verdict_more links (one ∷ nodes) [] node verdict are is = absurd are
one_verdict_more links (one ∷ nodes) (first ∷ verdicts) node verdict are is = (are.0, one_verdict_more links nodes verdicts node verdict are.1 is)

pub verdicts_more : (links : List SimulatedLink) (nodes : List SimulatedNode) (so_far more : List AuditVerdict) (n : ℕ) (node : SimulatedNode) (verdict : AuditVerdict) → AreVerdicts links (take n nodes) so_far → n < length nodes → node ≡ get_or nodes n node
    → more ≡ so_far ++ verdict ∷ [] → IsVerdict links node verdict → AreVerdicts links (take (n + 1) nodes) more
verdicts_more links nodes so_far more n node verdict are low own added is =
    let P : List SimulatedNode → Type 0 = λ list. AreVerdicts links list more in
    let Q : List AuditVerdict → Type 0 = λ list. AreVerdicts links (take n nodes ++ node ∷ []) list in
    subst P (sym (one_more nodes n node low own)) (subst Q (sym added) (one_verdict_more links (take n nodes) so_far node verdict are is))

pub verdicts_all : (links : List SimulatedLink) (nodes : List SimulatedNode) (verdicts : List AuditVerdict) (n : ℕ) → AreVerdicts links (take n nodes) verdicts → length nodes ≤ n → AreVerdicts links nodes verdicts
verdicts_all links nodes verdicts n are past =
    let P : List SimulatedNode → Type 0 = λ list. AreVerdicts links list verdicts in
    subst P (take_all n nodes past) are

-- one node after another
pub roles_more : (so_far more : List SimulatedNode) (roles : List Role) (n : ℕ) (role : Role) (node : SimulatedNode) → roles_in so_far ≡ take n roles → n < length roles → role ≡ get_or roles n role → node.role ≡ role
    → more ≡ so_far ++ node ∷ [] → roles_in more ≡ take (n + 1) roles
roles_more so_far more roles n role node is low own like added =
    ap roles_in added ∙ map-append (λ (one : SimulatedNode). one.role) so_far (node ∷ []) ∙ ap (λ (l : List Role). l ++ node.role ∷ []) is
    ∙ ap (λ (r : Role). take n roles ++ r ∷ []) like ∙ sym (one_more roles n role low own)

pub roles_all : (nodes : List SimulatedNode) (roles : List Role) (n : ℕ) → roles_in nodes ≡ take n roles → length roles ≤ n → roles_in nodes ≡ roles
roles_all nodes roles n is past = is ∙ take_all n roles past

-- there is no such link
pub none_there : (links : List SimulatedLink) (end : ℕ) (list : List AuditedTrace) → length links ≤ end / 2 → list ≡ list ++ traces_at links end
unfolding traces_at
none_there links end list past = sym (ap (λ (one : Option SimulatedLink). list ++ traces_on (side_at end) one) (slice_get_past links (end / 2) past) ∙ append-nil list)
