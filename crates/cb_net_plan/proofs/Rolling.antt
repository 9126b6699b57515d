-- The roles as they are drawn.
use Rattle.std.proofs.Common.{◌≡◌, ℕ, ◌+◌, ◌-◌, ◌≤◌, ◌<◌, zero, suc, Bool, cond, length, inl, inr, List, [], ◌∷◌, ◌++◌, refl, sym, ap, subst, ◌∙◌, arith, append_assoc}
use Rattle.cb_net_plan.specs.declared.draws.Draws.{Draws}
use Rattle.cb_net_plan.specs.declared.roles.Role.{Role}
use Rattle.cb_net_plan.specs.Draws.{after, below}
use Rattle.std.specs.Prelude.{count_by, if◌then◌else◌, nat_lt}
use Rattle.std.proofs.lemmas.Bool.Decides.{nat_tests}
use Rattle.std.proofs.lemmas.List.Sums.{sum_by-cons}
use Rattle.cb_net_plan.specs.declared.roles.Role.TheVariants.{Honest, Lies, Stalls}
use Rattle.cb_net_plan.specs.Roles.{IsHonest, after_many, lies, role_at, roles_from, roles_of, stalls, still_to_lie, still_to_stall}
use Rattle.cb_net_plan.proofs.Outlines.{is}
use Rattle.cb_net_plan.proofs.Drawing.{below_lt}

-- one role more
pub roles_more : (left rest stall lie : ℕ) (draws : Draws) → left ≡ suc rest
    → roles_from left stall lie draws ≡ role_at (below left draws) stall lie ∷ roles_from rest (still_to_stall (role_at (below left draws) stall lie) stall) (still_to_lie (role_at (below left draws) stall lie) lie) (after draws)
roles_more left rest stall lie draws e =
    subst (λ (n : ℕ). roles_from n stall lie draws ≡ role_at (below n draws) stall lie ∷ roles_from rest (still_to_stall (role_at (below n draws) stall lie) stall) (still_to_lie (role_at (below n draws) stall lie) lie) (after draws)) (sym e) refl

pub after_one : (left rest : ℕ) (draws : Draws) → left ≡ suc rest → after_many left draws ≡ after_many rest (after draws)
after_one left rest draws e = subst (λ (n : ℕ). after_many n draws ≡ after_many rest (after draws)) (sym e) refl

-- the roles so far with one more, and those that are drawn behind it
pub one_role : (left rest number stall lie stall' lie' : ℕ) (draws draws' : Draws) (role : Role) (roles roles' all : List Role)
    → left ≡ suc rest → number ≡ below left draws → role ≡ role_at number stall lie
    → stall' ≡ still_to_stall role stall → lie' ≡ still_to_lie role lie → draws' ≡ after draws
    → roles' ≡ roles ++ role ∷ [] → roles ++ roles_from left stall lie draws ≡ all
    → roles' ++ roles_from rest stall' lie' draws' ≡ all
one_role left rest number stall lie stall' lie' draws draws' role roles roles' all one n is s l d more whole =
    let so : role ≡ role_at (below left draws) stall lie = is ∙ ap (λ (number : ℕ). role_at number stall lie) n in
    (λ i. more i ++ roles_from rest (s i) (l i) (d i))
    ∙ append_assoc roles (role ∷ []) (roles_from rest (still_to_stall role stall) (still_to_lie role lie) (after draws))
    ∙ (λ i. roles ++ so i ∷ roles_from rest (still_to_stall (so i) stall) (still_to_lie (so i) lie) (after draws))
    ∙ ap (λ (rest : List Role). roles ++ rest) (sym (roles_more left rest stall lie draws one))
    ∙ whole

pub one_less : (nodes node : ℕ) → node < nodes → nodes - node ≡ suc (nodes - (node + 1))
one_less nodes node lt = omega (arith, lt)

pub length_from : (left stall lie : ℕ) (draws : Draws) → length (roles_from left stall lie draws) ≡ left
length_from zero stall lie draws = refl
length_from (suc left) stall lie draws =
    let more = length_from left (still_to_stall (role_at (below (suc left) draws) stall lie) stall) (still_to_lie (role_at (below (suc left) draws) stall lie) lie) (after draws) in omega (arith, more)

pub length_roles : (nodes stall lie : ℕ) (draws : Draws) → length (roles_of nodes stall lie draws) ≡ nodes
length_roles zero stall lie draws = refl
length_roles (suc others) stall lie draws = let more = length_from others stall lie draws in omega (arith, more)

pub first_honest : (nodes stall lie : ℕ) (draws : Draws) → 0 < nodes → IsHonest (roles_of nodes stall lie draws) 0
first_honest zero stall lie draws some = absurd (omega (arith, some))
first_honest (suc others) stall lie draws some = refl

-- ---- how many stall and how many lie

-- what a role says of the number that it was drawn by
Means : Role → ℕ → ℕ → ℕ → Type 0
Means Stalls number stall lie = number < stall
Means Lies number stall lie = (stall ≤ number) × (number < stall + lie)
Means Honest number stall lie = stall + lie ≤ number

role_means : (number stall lie : ℕ) → Means (role_at number stall lie) number stall lie
unfolding Means
role_means number stall lie =
    elim (is (nat_lt number stall)) [
      | inl t ↦ let lt : number < stall = grind (arith, nat_tests) in
          subst (λ (r : Role). Means r number stall lie) (sym (ap (λ (b : Bool). if b then Stalls else (if nat_lt number (stall + lie) then Lies else Honest)) t)) lt
      | inr f ↦ let ge : stall ≤ number = grind (arith, nat_tests) in elim (is (nat_lt number (stall + lie))) [
        | inl t' ↦ let lt : number < stall + lie = grind (arith, nat_tests) in
            subst (λ (r : Role). Means r number stall lie) (sym (λ i. if f i then Stalls else (if t' i then Lies else Honest))) (ge, lt)
        | inr f' ↦ let ge' : stall + lie ≤ number = grind (arith, nat_tests) in
            subst (λ (r : Role). Means r number stall lie) (sym (λ i. if f i then Stalls else (if f' i then Lies else Honest))) ge'
      ]
    ]

abbrev pub AreCounted : List Role → ℕ → ℕ → Type 0
AreCounted roles stall lie = (count_by stalls roles ≡ stall) × (count_by lies roles ≡ lie)

counted : (role : Role) (left stall lie number : ℕ) (rest : ℕ → ℕ → List Role) → Means role number stall lie → number ≤ left → stall + lie ≤ left + 1
    → ((stall lie : ℕ) → stall + lie ≤ left → AreCounted (rest stall lie) stall lie)
    → AreCounted (role ∷ rest (still_to_stall role stall) (still_to_lie role lie)) stall lie
unfolding Means
counted Stalls left stall lie number rest means le few all =
    let most : stall - 1 + lie ≤ left = omega (arith, means, few) in
    let so = all (stall - 1) lie most in (
      sum_by-cons (λ role. cond (stalls role) 1 0) Stalls (rest (stall - 1) lie) ∙ (let e = so.0 in omega (arith, e, means)),
      so.1,
    )
counted Lies left stall lie number rest means le few all =
    let most : stall + (lie - 1) ≤ left = omega (arith, means, few) in
    let so = all stall (lie - 1) most in (
      so.0,
      sum_by-cons (λ role. cond (lies role) 1 0) Lies (rest stall (lie - 1)) ∙ (let e = so.1 in omega (arith, e, means)),
    )
counted Honest left stall lie number rest means le few all =
    let most : stall + lie ≤ left = omega (arith, means, le) in all stall lie most

count_from : (left stall lie : ℕ) (draws : Draws) → stall + lie ≤ left → AreCounted (roles_from left stall lie draws) stall lie
count_from zero stall lie draws few = (omega (arith, few), omega (arith, few))
count_from (suc left) stall lie draws few =
    let number = below (suc left) draws in
    let lt : number < suc left = below_lt (suc left) draws (omega arith) in
    counted (role_at number stall lie) left stall lie number (λ s l. roles_from left s l (after draws)) (role_means number stall lie) (omega (arith, lt)) (omega (arith, few)) (λ s l le. count_from left s l (after draws) le)

pub count_roles : (nodes stall lie : ℕ) (draws : Draws) → stall + lie < nodes → AreCounted (roles_of nodes stall lie draws) stall lie
count_roles zero stall lie draws few = absurd (omega (arith, few))
count_roles (suc others) stall lie draws few = count_from others stall lie draws (omega (arith, few))
