-- What a hand learns from the rule of its ring.
use Rattle.std.proofs.Common.{◌≡◌, ℕ, zero, suc, ◌+◌, ◌<◌, ◌≤◌, List, [], ◌∷◌, length, get_or, sym, ap, subst, ◌∙◌, arith}
use Rattle.std.specs.List.{sum_by, range_with_len}
use Rattle.std.proofs.lemmas.List.{length-map}
use Rattle.std.proofs.lemmas.List.FromFn.{length-range_with_len}
use Rattle.std.proofs.lemmas.List.Sums.{sum_by-cons}
use Rattle.atomic_table.specs.Seated.{TableId}
use Rattle.crossbeam_queue.specs.Fifo.{Learns}
use Rattle.cb_crew.specs.Desks.{DesksReached}
use Rattle.cb_crew.proofs.DesksLaws.{handlers_stay, desks_count, at_most_one}
use Rattle.cb_crew.specs.Ring.{Shown, CrewStage, making, running, IsHeld, HoldsInTurn, peers_of}
use Rattle.cb_crew.specs.RingRule.{RingCrew, HandView, AreDesks, AtStage, IsRing}
use Rattle.cb_crew.specs.Hand.{state_of}
use Rattle.cb_crew.proofs.RingSums.{ones, one_below, sum_alone, first_below, alone}
use Rattle.cb_crew.proofs.RingMoves.{stage_is}

-- while desks are made, as many wait as there are names
pub all_wait : {X : Type 0} (seat : ℕ) (v : HandView X) → v.crew.stage ≡ making → 0 < length v.numbers → Learns IsRing seat v (λ waiting. length waiting ≡ length v.crew.names)
all_wait {X} seat v stage live waiting views r at =
    let knows = (r.hands seat v at).knows live in
    let in_order : peers_of waiting ≡ range_with_len 0 (length r.crew.names) = subst (λ (t : CrewStage). AtStage t r.crew waiting views) (stage_is r.crew v making knows stage) r.moves in
    let same : length v.crew.names ≡ length r.crew.names = ap (λ (c : RingCrew). length c.names) knows in
    let count : length (peers_of waiting) ≡ length (range_with_len 0 (length r.crew.names)) = ap (length {A = ℕ}) in_order in
    omega (arith, same, count, length-map waiting (λ (t : Shown X). t.peer), length-range_with_len 0 (length r.crew.names))

-- while a hand holds a desk, fewer wait than there are peers
pub has_room : {X : Type 0} (seat : ℕ) (v : HandView X) (s : Shown X) → 0 < length v.numbers → IsHeld v.held s → Learns IsRing seat v (λ waiting. length waiting < length v.crew.names)
has_room {X} seat v s live held waiting views r at =
    let knows = (r.hands seat v at).knows live in
    let same : length v.crew.names ≡ length r.crew.names = ap (λ (c : RingCrew). length c.names) knows in
    let weighed : sum_by (λ (_ : ℕ). 1) (peers_of waiting) + sum_by (λ (u : HandView X). sum_by (λ (_ : ℕ). 1) (peers_of u.held)) views ≡ sum_by (λ (_ : ℕ). 1) (range_with_len 0 (length r.crew.names)) = r.each_desk (λ _. 1) in
    let below : sum_by (λ (_ : ℕ). 1) (peers_of v.held) ≤ sum_by (λ (u : HandView X). sum_by (λ (_ : ℕ). 1) (peers_of u.held)) views = one_below (λ (u : HandView X). sum_by (λ (_ : ℕ). 1) (peers_of u.held)) views seat v at in
    let one : length v.held ≡ 1 = ap (length {A = Shown X}) held.only in
    omega (
      arith,
      same,
      weighed,
      below,
      one,
      ones (peers_of v.held),
      ones (peers_of waiting),
      ones (range_with_len 0 (length r.crew.names)),
      length-map v.held (λ (t : Shown X). t.peer),
      length-map waiting (λ (t : Shown X). t.peer),
      length-range_with_len 0 (length r.crew.names),
    )

-- handlers that hold one desk at the most hold no more desks than they are many
within : (held : List (List ℕ)) → ((j : ℕ) → length (get_or held j []) ≤ 1) → sum_by (length {A = ℕ}) held ≤ length held
within [] one = omega arith
within (x ∷ held) one =
    let first : length x ≤ 1 = one 0 in
    omega (arith, first, sum_by-cons (length {A = ℕ}) x held, within held (λ j. one (suc j)))

-- and fewer where one of them holds none
short : (held : List (List ℕ)) (a : ℕ) → a < length held → get_or held a [] ≡ [] → ((j : ℕ) → length (get_or held j []) ≤ 1) → sum_by (length {A = ℕ}) held < length held
short [] a lt free one = absurd (omega arith)
short (x ∷ held) zero lt free one =
    let none : length x ≡ 0 = ap (length {A = ℕ}) free in
    omega (arith, none, sum_by-cons (length {A = ℕ}) x held, within held (λ j. one (suc j)))
short (x ∷ held) (suc a) lt free one =
    let first : length x ≤ 1 = one 0 in
    omega (arith, first, sum_by-cons (length {A = ℕ}) x held, short held a (omega arith) free (λ j. one (suc j)))

-- while a hand holds none, fewer desks are held than there are handlers
pub few_held : {X : Type 0} (seat : ℕ) (v : HandView X) → v.crew.stage ≡ running → 0 < length v.numbers → v.held ≡ [] → Learns IsRing seat v (λ waiting. length v.crew.names < length waiting + v.crew.handlers)
few_held {X} seat v stage live free waiting views r at =
    let knows = (r.hands seat v at).knows live in
    let d : AreDesks r.crew waiting views = subst (λ (t : CrewStage). AtStage t r.crew waiting views) (stage_is r.crew v running knows stage) r.moves in
    let a : ℕ = get_or v.numbers 0 0 in
    let names_same : length v.crew.names ≡ length r.crew.names = ap (λ (c : RingCrew). length c.names) knows in
    let handlers_same : v.crew.handlers ≡ r.crew.handlers = ap (λ (c : RingCrew). c.handlers) knows in
    let stays : length d.desks.held ≡ r.crew.handlers = handlers_stay d.reached in
    let exists : a < length d.desks.held = omega (arith, first_below views r.crew.handlers seat v r.each_handler at live, stays) in
    let none : get_or d.desks.held a [] ≡ [] = (d.holds seat v at live).first ∙ ap peers_of free in
    let fewer : sum_by (length {A = ℕ}) d.desks.held < length d.desks.held = short d.desks.held a exists none (at_most_one d.reached) in
    let counted : length d.desks.ring + sum_by (length {A = ℕ}) d.desks.held ≡ length r.crew.names = desks_count d.reached in
    let ring_length : length d.desks.ring ≡ length (peers_of waiting) = ap (length {A = ℕ}) d.ring_is in
    omega (arith, names_same, handlers_same, stays, fewer, counted, ring_length, length-map waiting (λ (t : Shown X). t.peer))

-- a hand that stands for all handlers knows what is left: all that it doesn't hold
pub left_over : {X : Type 0} (seat : ℕ) (v : HandView X) → 0 < length v.numbers → length v.numbers ≡ v.crew.handlers → Learns IsRing seat v (λ waiting. (h : ℕ → ℕ) → sum_by h (peers_of waiting) + sum_by h (peers_of v.held) ≡ sum_by h (range_with_len 0 (length v.crew.names)))
left_over {X} seat v live all waiting views r at h =
    let knows = (r.hands seat v at).knows live in
    let everyone : length v.numbers ≡ r.crew.handlers = all ∙ ap (λ (c : RingCrew). c.handlers) knows in
    let same : sum_by h (range_with_len 0 (length v.crew.names)) ≡ sum_by h (range_with_len 0 (length r.crew.names)) = ap (λ (c : RingCrew). sum_by h (range_with_len 0 (length c.names))) knows in
    let mine : sum_by (λ (u : HandView X). sum_by h (peers_of u.held)) views ≡ sum_by h (peers_of v.held) =
    sum_alone (λ (u : HandView X). sum_by h (peers_of u.held)) views seat v at
    (λ j u apart e. ap (λ (ds : List (Shown X)). sum_by h (peers_of ds)) ((r.hands j u e).idle (alone views r.crew.handlers seat j v u r.each_handler at everyone apart e)))
    in
    let weighed : sum_by h (peers_of waiting) + sum_by (λ (u : HandView X). sum_by h (peers_of u.held)) views ≡ sum_by h (range_with_len 0 (length r.crew.names)) = r.each_desk h in
    omega (arith, same, mine, weighed)

-- while the crew runs, what a hand holds a handler holds of desks that move as the crew's core has it
pub in_turn : {X : Type 0} (seat : ℕ) (v : HandView X) → v.crew.stage ≡ running → 0 < length v.numbers → Learns IsRing seat v (λ waiting. (ring : TableId) → HoldsInTurn (state_of ring v))
in_turn seat v stage live waiting views r at ring =
    let knows = (r.hands seat v at).knows live in
    let d : AreDesks r.crew waiting views = subst (λ (t : CrewStage). AtStage t r.crew waiting views) (stage_is r.crew v running knows stage) r.moves in
    record {
      desks = d.desks;
      reached = subst (λ (c : RingCrew). DesksReached (length c.names) c.handlers d.desks) (sym knows) d.reached;
      handler = get_or v.numbers 0 0;
      exists = subst (λ (c : RingCrew). get_or v.numbers 0 0 < c.handlers) (sym knows) (first_below views r.crew.handlers seat v r.each_handler at live);
      holds = (d.holds seat v at live).first;
    }
