-- Links as they are drawn.
use Rattle.std.proofs.Common.{◌≡◌, ◌≢◌, ℕ, ◌≤◌, ◌<◌, Bool, true, false, cond, not, List, [], ◌∷◌, ◌++◌, Option, Some, None, length, refl, sym, ap, subst, ◌∙◌, inl, inr, arith, ◌⊎◌}
use Rattle.std.specs.Prelude.{◌==◌, ◌&&◌, ◌||◌, if◌then◌else◌, nat_le, max, min}
use Rattle.std.specs.HashSet.{HashSet, contains}
use Rattle.std.specs.Result.{OnOk}
use Rattle.std.specs.declared.result.Result.{Result}
use Rattle.std.specs.declared.result.Result.TheVariants.{Err, Ok}
use Rattle.std.proofs.lemmas.Bool.Decides.{nat_tests}
use Rattle.cb_net_plan.specs.declared.links.PlannedLink.{PlannedLink}
use Rattle.cb_net_plan.specs.declared.roles.Role.{Role}
use Rattle.cb_net_plan.specs.declared.roles.Role.TheVariants.{Honest, Lies, Stalls}
use Rattle.cb_net_plan.specs.Draws.{after, below, between}
use Rattle.cb_net_plan.specs.Links.{Outline, are_linked, drawn, drawn_honest, joined, joins, linked, linked_to, tried}
use Rattle.cb_net_plan.specs.Sketching.{same_pair}
use Rattle.cb_net_plan.proofs.Drawing.{other_is, same_is}

pub is : (b : Bool) → (b ≡ true) ⊎ (b ≡ false)
is true = inl refl
is false = inr refl

-- ---- who is linked

pub or_true : (a : Bool) → (a || true) ≡ true
or_true true = refl
or_true false = refl

or_swap : (a b : Bool) → (a || b) ≡ (b || a)
or_swap true true = refl
or_swap true false = refl
or_swap false true = refl
or_swap false false = refl

or_chain : (a b c : Bool) → ((a || b) || c) ≡ (a || (b || c))
or_chain true b c = refl
or_chain false b c = refl

joins_back : (link : PlannedLink) (a b : ℕ) → joins link a b ≡ joins link b a
joins_back link a b = or_swap (link.first == a && link.second == b) (link.first == b && link.second == a)

pub linked_back : (links : List PlannedLink) (a b : ℕ) → are_linked links a b ≡ are_linked links b a
linked_back [] a b = refl
linked_back (link ∷ links) a b = λ i. joins_back link a b i || linked_back links a b i

pub linked_more : (links more : List PlannedLink) (a b : ℕ) → are_linked (links ++ more) a b ≡ (are_linked links a b || are_linked more a b)
linked_more [] more a b = refl
linked_more (link ∷ links) more a b = ap (λ rest. joins link a b || rest) (linked_more links more a b) ∙ sym (or_chain (joins link a b) (are_linked links a b) (are_linked more a b))

-- ---- one more link

pub linked_itself : (a b : ℕ) (outline : Outline) → a ≡ b → drawn outline ≡ linked a b outline
unfolding linked
linked_itself a b outline e =
    sym (ap (λ (c : Bool). if c || are_linked outline.links a b then drawn outline else record (drawn outline) { links = outline.links ++ (record { first = a; second = b; latency = between outline.low outline.high outline.draws }) ∷ [] }) (same_is a b e))

pub linked_already : (a b : ℕ) (outline : Outline) → are_linked outline.links a b ≡ true → drawn outline ≡ linked a b outline
unfolding linked
linked_already a b outline e =
    sym (ap (λ (c : Bool). if c then drawn outline else record (drawn outline) { links = outline.links ++ (record { first = a; second = b; latency = between outline.low outline.high outline.draws }) ∷ [] }) (ap (λ (c : Bool). a == b || c) e ∙ or_true (a == b)))

-- the link that is drawn between two
abbrev pub new_link : ℕ → ℕ → Outline → PlannedLink
new_link a b outline = record { first = a; second = b; latency = between outline.low outline.high outline.draws }

pub linked_newly : (a b : ℕ) (outline : Outline) → a ≢ b → are_linked outline.links a b ≡ false → record (drawn outline) { links = outline.links ++ new_link a b outline ∷ [] } ≡ linked a b outline
unfolding linked
linked_newly a b outline n e =
    sym (ap (λ (c : Bool). if c then drawn outline else record (drawn outline) { links = outline.links ++ (record { first = a; second = b; latency = between outline.low outline.high outline.draws }) ∷ [] }) (λ i. other_is a b n i || e i))

-- ---- pairs, the lower one first

pair_is : (a b : ℕ) (links : List PlannedLink) → are_linked links (min a b) (max a b) ≡ are_linked links a b
pair_is a b links = elim (is (nat_le a b)) [
  | inl t ↦ let low : min a b ≡ a = grind (arith, nat_tests) in let high : max a b ≡ b = grind (arith, nat_tests) in λ i. are_linked links (low i) (high i)
  | inr f ↦ let low : min a b ≡ b = grind (arith, nat_tests) in let high : max a b ≡ a = grind (arith, nat_tests) in (λ i. are_linked links (low i) (high i)) ∙ linked_back links b a
]

pair_joins : (a b x y latency : ℕ) → x ≤ y → same_pair (min a b, max a b) (x, y) ≡ joins (record { first = a; second = b; latency = latency }) x y
pair_joins a b x y latency up = grind (arith, nat_tests)

not_false : (b : Bool) → not b ≡ false → b ≡ true
not_false true e = refl
not_false false e = sym e

not_true : (b : Bool) → not b ≡ true → b ≡ false
not_true true e = sym e
not_true false e = refl

-- pairs of nodes, the lower one first, are those that are linked
abbrev pub Tells : {S : Type 0} → HashSet (ℕ × ℕ) S → List PlannedLink → Type 0
Tells pairs links = (a b : ℕ) → a ≤ b → contains same_pair pairs (a, b) ≡ are_linked links a b

told : {S : Type 0} (pairs : HashSet (ℕ × ℕ) S) (links : List PlannedLink) (a b low high : ℕ) → Tells pairs links → low ≡ min a b → high ≡ max a b → contains same_pair pairs (low, high) ≡ are_linked links a b
told pairs links a b low high tells l h =
    tells low high (omega (arith, l, h)) ∙ (λ i. are_linked links (l i) (h i)) ∙ pair_is a b links

pub told_old : {S : Type 0} (pairs : HashSet (ℕ × ℕ) S) (links : List PlannedLink) (a b low high : ℕ) (is_new : Bool) → Tells pairs links → low ≡ min a b → high ≡ max a b → is_new ≡ not (contains same_pair pairs (low, high)) → is_new ≡ false → are_linked links a b ≡ true
told_old pairs links a b low high is_new tells l h new e = sym (told pairs links a b low high tells l h) ∙ not_false (contains same_pair pairs (low, high)) (sym new ∙ e)

pub told_new : {S : Type 0} (pairs : HashSet (ℕ × ℕ) S) (links : List PlannedLink) (a b low high : ℕ) (is_new : Bool) → Tells pairs links → low ≡ min a b → high ≡ max a b → is_new ≡ not (contains same_pair pairs (low, high)) → is_new ≡ true → are_linked links a b ≡ false
told_new pairs links a b low high is_new tells l h new e = sym (told pairs links a b low high tells l h) ∙ not_true (contains same_pair pairs (low, high)) (sym new ∙ e)

either_way : (a b : Bool) → cond a true b ≡ (b || (a || false))
either_way true true = refl
either_way true false = refl
either_way false true = refl
either_way false false = refl

-- one more pair is told
pub tells_more : {S : Type 0} (old new : HashSet (ℕ × ℕ) S) (links : List PlannedLink) (a b latency low high : ℕ) → Tells old links → low ≡ min a b → high ≡ max a b
    → ((pair : ℕ × ℕ) → contains same_pair new pair ≡ cond (same_pair (low, high) pair) true (contains same_pair old pair))
    → Tells new (links ++ (record { first = a; second = b; latency = latency }) ∷ [])
tells_more old new links a b latency low high tells l h puts = λ x y up.
    let link : PlannedLink = record { first = a; second = b; latency = latency } in
    puts (x, y)
    ∙ (λ i. cond (same_pair (l i, h i) (x, y)) true (tells x y up i))
    ∙ (λ i. cond (pair_joins a b x y latency up i) true (are_linked links x y))
    ∙ either_way (joins link x y) (are_linked links x y)
    ∙ sym (linked_more links (link ∷ []) x y)

-- ---- one more node

pub joined_other : (node : ℕ) (role : Role) (outline : Outline) → (role ≡ Stalls) ⊎ (role ≡ Lies) → linked node (below node outline.draws) (drawn outline) ≡ joined node role outline
unfolding joined
joined_other node role outline is = elim is [
  | inl e ↦ subst (λ (r : Role). linked node (below node outline.draws) (drawn outline) ≡ joined node r outline) (sym e) refl
  | inr e ↦ subst (λ (r : Role). linked node (below node outline.draws) (drawn outline) ≡ joined node r outline) (sym e) refl
]

pub joined_honest : (node : ℕ) (outline : Outline) → record (linked_to node (drawn_honest outline) (drawn outline)) { honest = outline.honest ++ node ∷ [] } ≡ joined node Honest outline
unfolding joined
joined_honest node outline = refl

-- ---- one more try

pub tried_enough : (nodes wanted : ℕ) (outline : Outline) → wanted ≤ length outline.links → outline ≡ tried nodes wanted outline
unfolding tried
tried_enough nodes wanted outline le =
    let t : nat_le wanted (length outline.links) ≡ true = grind (arith, nat_tests) in
    sym (ap (λ (c : Bool). if c then outline else linked (below nodes outline.draws) (below nodes (drawn outline).draws) (drawn (drawn outline))) t)

pub tried_more : (nodes wanted : ℕ) (outline : Outline) → length outline.links < wanted → linked (below nodes outline.draws) (below nodes (after outline.draws)) (drawn (drawn outline)) ≡ tried nodes wanted outline
unfolding tried
tried_more nodes wanted outline lt =
    let f : nat_le wanted (length outline.links) ≡ false = grind (arith, nat_tests) in
    sym (ap (λ (c : Bool). if c then outline else linked (below nodes outline.draws) (below nodes (drawn outline).draws) (drawn (drawn outline))) f)

-- the honest nodes stay
honest_if : (b : Bool) (a c : Outline) → a.honest ≡ c.honest → (if b then a else c).honest ≡ c.honest
honest_if true a c e = e
honest_if false a c e = refl

linked_honest : (a b : ℕ) (outline : Outline) → (linked a b outline).honest ≡ outline.honest
unfolding linked
linked_honest a b outline = honest_if (a == b || are_linked outline.links a b) (drawn outline) (record (drawn outline) { links = outline.links ++ new_link a b outline ∷ [] }) refl

pub linked_to_honest : (node : ℕ) (lower : Option ℕ) (outline : Outline) → (linked_to node lower outline).honest ≡ outline.honest
linked_to_honest node None outline = refl
linked_to_honest node (Some lower) outline = linked_honest node lower outline

-- what holds after a call that may fail
pub on_ok : {A B : Type 0} (r : Result A B) (P Q : Type 0) → (P → Q) → OnOk r P → OnOk r Q
on_ok (Ok x) P Q f p = f p
on_ok (Err x) P Q f p = tt
