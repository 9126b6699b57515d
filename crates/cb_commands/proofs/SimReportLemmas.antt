-- One line more of a report.
use Rattle.std.proofs.Common.{◌≡◌, ℕ, ◌+◌, List, [], ◌∷◌, ◌++◌, length, map, sym, ap, ◌∙◌, append_assoc}
use Rattle.std.specs.Prelude.{codes}
use Rattle.std.specs.Borrow.{Bor}
use Rattle.std.specs.Fmt.{decimal}
use Rattle.std.specs.Iterator.{Yields}
use Rattle.std.specs.VecDeque.Iter.{deque_iter_steps, deque_iter_rest}
use Rattle.std.specs.declared.collections.vec_deque.Iter.{Iter}
use Rattle.cb_commands.specs.SimReport.{joined}
use Rattle.std.specs.List.{flat_map, range_with_len}
use Rattle.std.proofs.lemmas.List.{flat_map_more, append-nil, nil_from_length}
use Rattle.cb_crew.proofs.SystemLemmas.{numbers_more}

pub line_more : (line : ℕ → List ℕ) (n : ℕ) (start old new : List ℕ) → old ≡ start ++ flat_map line (range_with_len 0 n) → new ≡ old ++ line n → new ≡ start ++ flat_map line (range_with_len 0 (n + 1))
line_more line n start old new was is =
    is ∙ (ap (λ text. text ++ line n) was ∙ (flat_map_more line start (range_with_len 0 n) n ∙ ap (λ ns. start ++ flat_map line ns) (numbers_more n)))

-- what the iterator of a queue gave and what it has left is what it had
pub queue_given : (s : Iter ℕ) (given : List (Bor ℕ)) (t : Iter ℕ) → Yields deque_iter_steps s given t → deque_iter_rest s ≡ map (λ y. y.now) given ++ deque_iter_rest t
queue_given s [] t steps = ap deque_iter_rest steps
queue_given s (y ∷ given) t steps = steps.1 ∙ ap (λ ns. y.now ∷ ns) (queue_given steps.0 given t steps.2)

-- the ring's line, from what was printed in turn
pub ring_line : (ring rest given left : List ℕ) (first : ℕ) (start opened filled closed : List ℕ) → ring ≡ first ∷ rest → rest ≡ given ++ left → length left ≡ 0 → opened ≡ start ++ (codes "ring " ++ decimal first) → filled ≡ opened ++ flat_map (λ d. codes "," ++ decimal d) given → closed ≡ filled ++ 10 ∷ [] → closed ≡ start ++ (codes "ring " ++ joined decimal ring ++ 10 ∷ [])
ring_line ring rest given left first start opened filled closed is parts none o f d =
    let all : rest ≡ given = parts ∙ (ap (λ ns. given ++ ns) (nil_from_length left none) ∙ append-nil given) in
    let tail : List ℕ = flat_map (λ n. codes "," ++ decimal n) given in
    rw (d, f, o, is, all) (
    append_assoc (start ++ (codes "ring " ++ decimal first)) tail (10 ∷ [])
    ∙ (append_assoc start (codes "ring " ++ decimal first) (tail ++ 10 ∷ []) ∙ ap (λ ns. start ++ (codes "ring " ++ ns)) (sym (append_assoc (decimal first) tail (10 ∷ []))))
    )
