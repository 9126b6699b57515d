-- The one peer of `serve`.
use Rattle.std.proofs.Common.{◌≡◌, List, [], ◌∷◌, ◌++◌}
use Rattle.cb_hall.specs.Badge.{BadgeState, first_of, fresh_badge}

-- the only badge of a hall of one peer
pub only_badge : (rest : List BadgeState) (badge : BadgeState) → fresh_badge (first_of 0) ∷ [] ≡ rest ++ badge ∷ [] → badge ≡ fresh_badge (first_of 0)
only_badge [] badge e = cc
only_badge (other ∷ []) badge e = absurd (let clash = e in cc)
only_badge (other ∷ next ∷ rest) badge e = absurd (let clash = e in cc)
