-- What each node of a network is like.
use Rattle.std.specs.Prelude.{◌≡◌, ℕ, ◌+◌, ◌-◌, zero, suc, Bool, true, false, List, [], ◌∷◌, Some, if◌then◌else◌, nat_lt, slice_get}
use Rattle.cb_net_plan.specs.declared.draws.Draws.{Draws}
use Rattle.cb_net_plan.specs.declared.roles.Role.{Role}
use Rattle.cb_net_plan.specs.declared.roles.Role.TheVariants.{Honest, Lies, Stalls}
use Rattle.cb_net_plan.specs.Draws.{after, below}

-- The role that a number gives, where so many of those that are left are to stall and so many to
-- lie: the lowest numbers stall, and the next ones lie.
abbrev pub role_at : ℕ → ℕ → ℕ → Role
role_at number stall lie =
    if nat_lt number stall then Stalls
    else (if nat_lt number (stall + lie) then Lies else Honest)

-- how many are still to stall, and to lie, behind one with this role
abbrev pub still_to_stall : Role → ℕ → ℕ
still_to_stall Stalls stall = stall - 1
still_to_stall Lies stall = stall
still_to_stall Honest stall = stall

abbrev pub still_to_lie : Role → ℕ → ℕ
still_to_lie Lies lie = lie - 1
still_to_lie Stalls lie = lie
still_to_lie Honest lie = lie

-- the roles of so many nodes that are left: each is drawn below how many are left
abbrev pub roles_from : ℕ → ℕ → ℕ → Draws → List Role
roles_from zero stall lie draws = []
roles_from (suc left) stall lie draws =
    let role = role_at (below (suc left) draws) stall lie in
    role ∷ roles_from left (still_to_stall role stall) (still_to_lie role lie) (after draws)

-- all roles: the first node is honest
abbrev pub roles_of : ℕ → ℕ → ℕ → Draws → List Role
roles_of zero stall lie draws = []
roles_of (suc others) stall lie draws = Honest ∷ roles_from others stall lie draws

-- the draws behind so many more
abbrev pub after_many : ℕ → Draws → Draws
after_many zero draws = draws
after_many (suc more) draws = after_many more (after draws)

-- ---- who is what

abbrev pub stalls : Role → Bool
stalls Honest = false
stalls Stalls = true
stalls Lies = false

abbrev pub lies : Role → Bool
lies Honest = false
lies Stalls = false
lies Lies = true

-- there is a node of this number, and it is honest
abbrev pub IsHonest : List Role → ℕ → Type 0
IsHonest roles node = slice_get roles node ≡ Some Honest
