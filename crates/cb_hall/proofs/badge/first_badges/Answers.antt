use Rattle.std.proofs.Common.{◌≡◌, List, ℕ, ◌++◌, ◌∷◌, [], ◌+◌, arith, sym, ap, ◌∙◌}
use Rattle.std.specs.Prelude.{map}
use Rattle.std.specs.List.{range_with_len}
use Rattle.std.proofs.lemmas.List.{map-append}
use Rattle.cb_hall.specs.Badge.{BadgeState, first_of, fresh_badge}
use Rattle.cb_hall.proofs.Badges.{range_with_len_more}
use Rattle.cb_hall.proofs.badge.first_badges.Goals as goal

pub loop-peer-preserved : goal.loop-peer-preserved
loop-peer-preserved c =
    c.in_ok-push.ensures.items
    ∙ ap (λ (badge : BadgeState). c.loop-peer.badges.items ++ badge ∷ []) c.new.ensures
    ∙ ap (λ (badges : List BadgeState). badges ++ fresh_badge (first_of c.loop-peer.peer) ∷ []) c.loop-peer.invariant
    ∙ sym (ap (map (λ (peer : ℕ). fresh_badge (first_of peer)))
    (range_with_len_more 0 c.loop-peer.peer ∙ ap (λ (k : ℕ). range_with_len 0 c.loop-peer.peer ++ k ∷ []) (let z : 0 + c.loop-peer.peer ≡ c.loop-peer.peer = omega arith in z))
    ∙ map-append (λ (peer : ℕ). fresh_badge (first_of peer)) (range_with_len 0 c.loop-peer.peer) (c.loop-peer.peer ∷ []))
