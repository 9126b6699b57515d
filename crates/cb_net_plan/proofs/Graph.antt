-- What the links come to.
use Rattle.std.proofs.Common.{◌≡◌, ◌≢◌, ℕ, zero, suc, ◌+◌, ◌-◌, ◌%◌, ◌≤◌, ◌<◌, Bool, true, false, List, [], ◌∷◌, ◌++◌, Option, Some, None, length, refl, sym, ap, subst, ◌∙◌, inl, inr, arith}
use Rattle.std.specs.Prelude.{◌==◌, ◌&&◌, ◌||◌, nat_le, slice_get, unwrap_or, ⊤}
use Rattle.std.specs.List.{AllByRecursion}
use Rattle.std.proofs.lemmas.Bool.Decides.{nat_tests}
use Rattle.std.proofs.lemmas.List.{length-append}
use Rattle.cb_net_plan.specs.declared.draws.Draws.{Draws}
use Rattle.cb_net_plan.specs.declared.links.PlannedLink.{PlannedLink}
use Rattle.cb_net_plan.specs.declared.roles.Role.{Role}
use Rattle.cb_net_plan.specs.declared.roles.Role.TheVariants.{Honest, Lies, Stalls}
use Rattle.cb_net_plan.specs.Draws.{after, below, between, first_number}
use Rattle.cb_net_plan.specs.Links.{AreApart, Outline, Way, all_joined, all_tried, are_linked, drawn, drawn_honest, here, joined, joins, linked, linked_to, over, tried}
use Rattle.cb_net_plan.specs.Planning.{IsLink}
use Rattle.cb_net_plan.specs.Roles.{IsHonest}
use Rattle.cb_net_plan.proofs.Drawing.{below_lt, between_le, same_is}
use Rattle.cb_net_plan.proofs.Outlines.{is, joined_honest, joined_other, linked_already, linked_itself, linked_more, linked_newly, new_link, or_true, tried_enough, tried_more}

-- ---- lists

all_push : {X : Type 0} (P : X → Type 0) (xs : List X) (x : X) → AllByRecursion P xs → P x → AllByRecursion P (xs ++ x ∷ [])
all_push P [] x all one = (one, tt)
all_push P (y ∷ ys) x all one = (all.0, all_push P ys x all.1 one)

all_more : {X : Type 0} (P Q : X → Type 0) (xs : List X) → ((x : X) → P x → Q x) → AllByRecursion P xs → AllByRecursion Q xs
all_more P Q [] f all = tt
all_more P Q (x ∷ xs) f all = (f x all.0, all_more P Q xs f all.1)

all_got : (X : Type 0) (P : X → Type 0) (xs : List X) (k : ℕ) (x : X) → AllByRecursion P xs → slice_get xs k ≡ Some x → P x
all_got X P [] k x all e = absurd cc
all_got X P (y ∷ ys) zero x all e = subst P (ap (λ (o : Option X). unwrap_or o y) e) all.0
all_got X P (y ∷ ys) (suc k) x all e = all_got X P ys k x all.1 e

got : {X : Type 0} (xs : List X) (k : ℕ) → k < length xs → (x : X) × (slice_get xs k ≡ Some x)
got [] k h = absurd (omega (arith, h))
got (y ∷ ys) zero h = (y, refl)
got (y ∷ ys) (suc k) h = got ys k (omega (arith, h))

-- ---- ways

grown : (Kind : ℕ → Type 0) (old new : List PlannedLink) → ((a b : ℕ) → are_linked old a b ≡ true → are_linked new a b ≡ true) → (from to : ℕ) → Way Kind old from to → Way Kind new from to
grown Kind old new more from to (here node) = here node
grown Kind old new more from to (over a b c joined kind way) = over a b c (more a b joined) kind (grown Kind old new more b c way)

-- ---- one more link

linked_keeps : (P : Outline → Type 0) (a b : ℕ) (outline : Outline) → P (drawn outline)
    → (a ≢ b → are_linked outline.links a b ≡ false → P (record (drawn outline) { links = outline.links ++ new_link a b outline ∷ [] }))
    → P (linked a b outline)
linked_keeps P a b outline old new =
    elim (is (a == b)) [
      | inl t ↦ let e : a ≡ b = grind (arith, nat_tests) in subst P (linked_itself a b outline e) old
      | inr f ↦ let n : a ≢ b = grind (arith, nat_tests) in elim (is (are_linked outline.links a b)) [
        | inl t' ↦ subst P (linked_already a b outline t') old
        | inr f' ↦ subst P (linked_newly a b outline n f') (new n f')
      ]
    ]

or_first : (a b : Bool) → a ≡ true → (a || b) ≡ true
or_first true b e = refl
or_first false b e = absurd cc

grows : (a b : ℕ) (outline : Outline) (x y : ℕ) → are_linked outline.links x y ≡ true → are_linked (linked a b outline).links x y ≡ true
grows a b outline x y e =
    linked_keeps (λ o. are_linked o.links x y ≡ true) a b outline e
    (λ n f. linked_more outline.links (new_link a b outline ∷ []) x y ∙ or_first (are_linked outline.links x y) (are_linked (new_link a b outline ∷ []) x y) e)

new_joins : (a b : ℕ) (outline : Outline) → are_linked (new_link a b outline ∷ []) a b ≡ true
new_joins a b outline = or_first (joins (new_link a b outline) a b) false (or_first (a == a && b == b) (a == b && b == a) ((λ i. same_is a a refl i && same_is b b refl i)))

now_linked : (a b : ℕ) (outline : Outline) → a ≢ b → are_linked (linked a b outline).links a b ≡ true
now_linked a b outline n =
    elim (is (are_linked outline.links a b)) [
      | inl t ↦ grows a b outline a b t
      | inr f ↦ subst (λ (o : Outline). are_linked o.links a b ≡ true) (linked_newly a b outline n f)
          (linked_more outline.links (new_link a b outline ∷ []) a b ∙ (λ i. are_linked outline.links a b || new_joins a b outline i) ∙ or_true (are_linked outline.links a b))
    ]

or_second : (a b : Bool) → (a || b) ≡ false → b ≡ false
or_second true b e = absurd cc
or_second false b e = e

or_neither : (a b : Bool) → (a || b) ≡ false → a ≡ false
or_neither true b e = absurd cc
or_neither false b e = refl

joins_turn : (x y : PlannedLink) → joins x y.first y.second ≡ joins y x.first x.second
joins_turn x y = turn x.first x.second y.first y.second where
  turn : (a b c d : ℕ) → ((a == c && b == d) || (a == d && b == c)) ≡ ((c == a && d == b) || (c == b && d == a))
  turn a b c d = grind (arith, nat_tests)

apart_push : (links : List PlannedLink) (link : PlannedLink) → AreApart links → are_linked links link.first link.second ≡ false → AreApart (links ++ link ∷ [])
apart_push [] link apart f = (refl, tt)
apart_push (x ∷ xs) link apart f = (
  linked_more xs (link ∷ []) x.first x.second
      ∙ (λ i. apart.0 i || (joins_turn link x i || false))
      ∙ ap (λ (b : Bool). b || false) (or_neither (joins x link.first link.second) (are_linked xs link.first link.second) f),
  apart_push xs link apart.1 (or_second (joins x link.first link.second) (are_linked xs link.first link.second) f),
)

-- ---- what the links are while they are drawn

-- so many nodes are joined, of these roles, with latencies from low to high
pub record IsDrawn (roles : List Role) (low high nodes : ℕ) (outline : Outline) : Type 0 where
  pub low_is : outline.low ≡ low
  pub high_is : outline.high ≡ high
  pub ends : AllByRecursion (IsLink (length roles)) outline.links
  pub apart : AreApart outline.links
  pub timed : low ≤ high → AllByRecursion (λ link. (low ≤ link.latency) × (link.latency ≤ high)) outline.links
  pub known : AllByRecursion (λ node. (node < nodes) × IsHonest roles node) outline.honest
  pub some : 0 < nodes → 0 < length outline.honest
  pub connected : (node : ℕ) → node < nodes → Way (λ node. ⊤) outline.links node 0
  pub honest : (node : ℕ) → node < nodes → IsHonest roles node → Way (IsHonest roles) outline.links node 0

-- a number was drawn
drawn_more : (roles : List Role) (low high nodes : ℕ) (outline : Outline) → IsDrawn roles low high nodes outline → IsDrawn roles low high nodes (drawn outline)
drawn_more roles low high nodes outline is = record {
  low_is = is.low_is;
  high_is = is.high_is;
  ends = is.ends;
  apart = is.apart;
  timed = is.timed;
  known = is.known;
  some = is.some;
  connected = is.connected;
  honest = is.honest;
}

in_range : (low high low' high' : ℕ) (draws : Draws) → low' ≡ low → high' ≡ high → low ≤ high → (low ≤ between low' high' draws) × (between low' high' draws ≤ high)
unfolding between
in_range low high low' high' draws l h up =
    let le : low' + first_number draws % (high' - low' + 1) ≤ high' = between_le low' high' (first_number draws) (omega (arith, l, h, up)) in
    (omega (arith, l), omega (arith, h, le))

-- two nodes were linked
linked_drawn : (roles : List Role) (low high nodes : ℕ) (a b : ℕ) (outline : Outline) → a < length roles → b < length roles → IsDrawn roles low high nodes outline → IsDrawn roles low high nodes (linked a b outline)
linked_drawn roles low high nodes a b outline within within' is =
    linked_keeps (IsDrawn roles low high nodes) a b outline (drawn_more roles low high nodes outline is)
    (λ n f. let more : (x y : ℕ) → are_linked outline.links x y ≡ true → are_linked (outline.links ++ new_link a b outline ∷ []) x y ≡ true =
    λ x y e. linked_more outline.links (new_link a b outline ∷ []) x y ∙ or_first (are_linked outline.links x y) (are_linked (new_link a b outline ∷ []) x y) e in
    record {
      low_is = is.low_is;
      high_is = is.high_is;
      ends = all_push (IsLink (length roles)) outline.links (new_link a b outline) is.ends (record { first = within; second = within'; two = n });
      apart = apart_push outline.links (new_link a b outline) is.apart f;
      timed = λ up. all_push (λ link. (low ≤ link.latency) × (link.latency ≤ high)) outline.links (new_link a b outline) (is.timed up) (in_range low high outline.low outline.high outline.draws is.low_is is.high_is up);
      known = is.known;
      some = is.some;
      connected = λ node lt. grown (λ node. ⊤) outline.links (outline.links ++ new_link a b outline ∷ []) more node 0 (is.connected node lt);
      honest = λ node lt h. grown (IsHonest roles) outline.links (outline.links ++ new_link a b outline ∷ []) more node 0 (is.honest node lt h);
    })

-- two nodes more were tried
tried_drawn : (roles : List Role) (low high wanted nodes : ℕ) (outline : Outline) → nodes ≡ length roles → 0 < nodes → IsDrawn roles low high nodes outline → IsDrawn roles low high nodes (tried nodes wanted outline)
tried_drawn roles low high wanted nodes outline all one is_drawn =
    elim (is (nat_le wanted (length outline.links))) [
      | inl t ↦ let le : wanted ≤ length outline.links = grind (arith, nat_tests) in
          subst (IsDrawn roles low high nodes) (tried_enough nodes wanted outline le) is_drawn
      | inr f ↦ let lt : length outline.links < wanted = grind (arith, nat_tests) in
          subst (IsDrawn roles low high nodes) (tried_more nodes wanted outline lt)
          (linked_drawn roles low high nodes _ _ (drawn (drawn outline))
          (subst (λ (n : ℕ). below nodes outline.draws < n) all (below_lt nodes outline.draws one))
          (subst (λ (n : ℕ). below nodes (after outline.draws) < n) all (below_lt nodes (after outline.draws) one))
          (drawn_more roles low high nodes (drawn outline) (drawn_more roles low high nodes outline is_drawn)))
    ]

pub all_tried_drawn : (roles : List Role) (low high tries wanted nodes : ℕ) (outline : Outline) → nodes ≡ length roles → 0 < nodes → IsDrawn roles low high nodes outline → IsDrawn roles low high nodes (all_tried tries nodes wanted outline)
all_tried_drawn roles low high zero wanted nodes outline all one is = is
all_tried_drawn roles low high (suc tries) wanted nodes outline all one is = all_tried_drawn roles low high tries wanted nodes (tried nodes wanted outline) all one (tried_drawn roles low high wanted nodes outline all one is)

-- ---- one more node

-- a node has ways to the first one
next_node : (roles : List Role) (low high node : ℕ) (outline : Outline) (honest : List ℕ) → IsDrawn roles low high node outline
    → AllByRecursion (λ other. (other < node + 1) × IsHonest roles other) honest → 0 < length honest
    → Way (λ node. ⊤) outline.links node 0 → (IsHonest roles node → Way (IsHonest roles) outline.links node 0)
    → IsDrawn roles low high (node + 1) (record outline { honest = honest })
next_node roles low high node outline honest is_drawn known some way honest_way = record {
  low_is = is_drawn.low_is;
  high_is = is_drawn.high_is;
  ends = is_drawn.ends;
  apart = is_drawn.apart;
  timed = is_drawn.timed;
  known = known;
  some = λ one. some;
  connected = λ other lt. elim (is (other == node)) [
    | inl t ↦ let e : node ≡ other = grind (arith, nat_tests) in subst (λ (n : ℕ). Way (λ node. ⊤) outline.links n 0) e way
    | inr f ↦ is_drawn.connected other (grind (arith, nat_tests))
  ];
  honest = λ other lt h. elim (is (other == node)) [
    | inl t ↦ let e : other ≡ node = grind (arith, nat_tests) in subst (λ (n : ℕ). Way (IsHonest roles) outline.links n 0) (sym e) (honest_way (subst (IsHonest roles) e h))
    | inr f ↦ is_drawn.honest other (grind (arith, nat_tests)) h
  ];
}

later : (roles : List Role) (node : ℕ) (honest : List ℕ) → AllByRecursion (λ other. (other < node) × IsHonest roles other) honest → AllByRecursion (λ other. (other < node + 1) × IsHonest roles other) honest
later roles node honest known = all_more (λ other. (other < node) × IsHonest roles other) (λ other. (other < node + 1) × IsHonest roles other) honest (λ other k. (let lt = k.0 in omega (arith, lt), k.1)) known

-- one that isn't honest isn't the first
not_first : (roles : List Role) (node : ℕ) (role : Role) → IsHonest roles 0 → slice_get roles node ≡ Some role → (role ≡ Honest → ⊥) → 0 < node
not_first roles zero role first e other = absurd (other (ap (λ (o : Option Role). unwrap_or o role) (sym e ∙ first)))
not_first roles (suc node) role first e other = omega arith

other_drawn : (roles : List Role) (low high node : ℕ) (role : Role) (outline : Outline) → IsHonest roles 0 → slice_get roles node ≡ Some role → (role ≡ Honest → ⊥) → node < length roles → IsDrawn roles low high node outline → IsDrawn roles low high (node + 1) (linked node (below node outline.draws) (drawn outline))
other_drawn roles low high node role outline first e other within is_drawn =
    let some = not_first roles node role first e other in
    let lower = below node outline.draws in
    let lt : lower < node = below_lt node outline.draws some in
    let new = linked node lower (drawn outline) in
    let now = linked_drawn roles low high node node lower (drawn outline) within (omega (arith, lt, within)) (drawn_more roles low high node outline is_drawn) in
    next_node roles low high node new new.honest now (later roles node new.honest now.known) (now.some some)
    (over node lower 0 (now_linked node lower (drawn outline) (omega (arith, lt))) tt (now.connected lower lt))
    (λ h. absurd (other (ap (λ (o : Option Role). unwrap_or o role) (sym e ∙ h))))

long_push : (xs : List ℕ) (x : ℕ) → 0 < length (xs ++ x ∷ [])
long_push xs x = grind (arith, length-append)

honest_to : (roles : List Role) (low high node : ℕ) (outline : Outline) (lower : Option ℕ) → drawn_honest outline ≡ lower → IsHonest roles node → node < length roles → IsDrawn roles low high node outline
    → IsDrawn roles low high (node + 1) (record (linked_to node lower (drawn outline)) { honest = outline.honest ++ node ∷ [] })
honest_to roles low high node outline None e honest within is_drawn =
    let none : node ≡ 0 = elim (is (node == 0)) [
      | inl t ↦ grind (arith, nat_tests)
      | inr f ↦ let some = is_drawn.some (grind (arith, nat_tests)) in
          let found = got outline.honest (below (length outline.honest) outline.draws) (below_lt (length outline.honest) outline.draws some) in
          absurd (let no : Some found.0 ≡ None = sym found.1 ∙ e in cc)
    ] in
    next_node roles low high node (drawn outline) (outline.honest ++ node ∷ []) (drawn_more roles low high node outline is_drawn)
    (all_push (λ other. (other < node + 1) × IsHonest roles other) outline.honest node (later roles node outline.honest is_drawn.known) (omega arith, honest))
    (long_push outline.honest node)
    (subst (λ (n : ℕ). Way (λ node. ⊤) outline.links n 0) (sym none) (here 0))
    (λ h. subst (λ (n : ℕ). Way (IsHonest roles) outline.links n 0) (sym none) (here 0))
honest_to roles low high node outline (Some lower) e honest within is_drawn =
    let known = all_got ℕ (λ other. (other < node) × IsHonest roles other) outline.honest (below (length outline.honest) outline.draws) lower is_drawn.known e in
    let lt = known.0 in
    let now = linked_drawn roles low high node node lower (drawn outline) within (omega (arith, lt, within)) (drawn_more roles low high node outline is_drawn) in
    let joined = now_linked node lower (drawn outline) (omega (arith, lt)) in
    next_node roles low high node (linked node lower (drawn outline)) (outline.honest ++ node ∷ []) now
    (all_push (λ other. (other < node + 1) × IsHonest roles other) outline.honest node (later roles node outline.honest is_drawn.known) (omega arith, honest))
    (long_push outline.honest node)
    (over node lower 0 joined tt (now.connected lower lt))
    (λ h. over node lower 0 joined known.1 (now.honest lower lt known.1))

joined_drawn : (roles : List Role) (low high node : ℕ) (role : Role) (outline : Outline) → IsHonest roles 0 → slice_get roles node ≡ Some role → node < length roles → IsDrawn roles low high node outline → IsDrawn roles low high (node + 1) (joined node role outline)
joined_drawn roles low high node Honest outline first e within is_drawn =
    subst (IsDrawn roles low high (node + 1)) (joined_honest node outline) (honest_to roles low high node outline (drawn_honest outline) refl e within is_drawn)
joined_drawn roles low high node Stalls outline first e within is_drawn =
    subst (IsDrawn roles low high (node + 1)) (joined_other node Stalls outline (inl refl)) (other_drawn roles low high node Stalls outline first e (λ e. cc) within is_drawn)
joined_drawn roles low high node Lies outline first e within is_drawn =
    subst (IsDrawn roles low high (node + 1)) (joined_other node Lies outline (inr refl)) (other_drawn roles low high node Lies outline first e (λ e. cc) within is_drawn)

-- the nodes from one on were joined
pub all_joined_drawn : (roles : List Role) (low high : ℕ) (rest : List Role) (node : ℕ) (outline : Outline) → IsHonest roles 0
    → ((k : ℕ) → slice_get rest k ≡ slice_get roles (node + k)) → node + length rest ≡ length roles
    → IsDrawn roles low high node outline → IsDrawn roles low high (length roles) (all_joined node rest outline)
all_joined_drawn roles low high [] node outline first same long is_drawn =
    let all : node ≡ length roles = omega (arith, long) in subst (λ (n : ℕ). IsDrawn roles low high n outline) all is_drawn
all_joined_drawn roles low high (role ∷ rest) node outline first same long is_drawn =
    let at : node + 0 ≡ node = omega arith in
    let e : slice_get roles node ≡ Some role = ap (slice_get roles) (sym at) ∙ sym (same 0) in
    all_joined_drawn roles low high rest (node + 1) (joined node role outline) first
    (λ k. same (suc k) ∙ ap (slice_get roles) (let more : node + suc k ≡ node + 1 + k = omega arith in more))
    (omega (arith, long))
    (joined_drawn roles low high node role outline first e (omega (arith, long)) is_drawn)
