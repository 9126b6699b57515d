-- What follows where one hand holds the desks of all peers.
use Rattle.std.proofs.Common.{◌≡◌, ℕ, ◌<◌, cond, eqb, ltb, length, ap, ◌∙◌, arith}
use Rattle.std.specs.List.{sum_by, count_by, range_with_len}
use Rattle.std.proofs.lemmas.Bool.{lt-ltb}
use Rattle.std.proofs.lemmas.List.{length-map}
use Rattle.std.proofs.lemmas.List.FromFn.{length-range_with_len}
use Rattle.cb_crew.specs.Ring.{Shown, HandState, HoldsAll, peers_of}
use Rattle.cb_crew.proofs.RingSums.{ones, in_range}

-- they are as many as the peers
pub all_count : {X : Type 0} (hand : HandState X) → HoldsAll hand → length hand.held ≡ length hand.names
all_count {X} hand all =
    let weighed : sum_by (λ (_ : ℕ). 1) (peers_of hand.held) ≡ sum_by (λ (_ : ℕ). 1) (range_with_len 0 (length hand.names)) = all (λ _. 1) in
    omega (
      arith,
      weighed,
      ones (peers_of hand.held),
      ones (range_with_len 0 (length hand.names)),
      length-map hand.held (λ (s : Shown X). s.peer),
      length-range_with_len 0 (length hand.names),
    )

-- each peer's stands among them once, and no other
pub all_once : {X : Type 0} (hand : HandState X) → HoldsAll hand → (p : ℕ) → count_by (eqb p) (peers_of hand.held) ≡ cond (ltb p (length hand.names)) 1 0
all_once hand all p = all (λ x. cond (eqb p x) 1 0) ∙ in_range p (length hand.names)

pub one_of_each : {X : Type 0} (hand : HandState X) → HoldsAll hand → (p : ℕ) → p < length hand.names → count_by (eqb p) (peers_of hand.held) ≡ 1
one_of_each hand all p lt = all_once hand all p ∙ ap (λ b. cond b 1 0) (lt-ltb p (length hand.names) lt)
