-- Each node that had a block came to it in one way.
use Rattle.std.proofs.Common.{◌≡◌, ℕ, ◌+◌, ◌-◌, Bool, true, false, cond, not, ◌&&◌, List, [], ◌∷◌, length, Option, None, Some, if◌then◌else◌, is_some, refl, ◌∙◌, arith}
use Rattle.std.specs.Prelude.{count_by, IsPermutation}
use Rattle.std.specs.List.{cons_option}
use Rattle.std.specs.Option.{option_map}
use Rattle.std.proofs.lemmas.List.Sorted.{length_permutation}
use Rattle.std.proofs.lemmas.List.Sums.{sum_by-cons}
use Rattle.cb_net_node.specs.Arrivals.{had_at_once, had_by_asking, had_whole, times_of}
use Rattle.cb_net_node.specs.Nodes.{is_honest}
use Rattle.cb_net_node.specs.declared.node.SimulatedNode.{SimulatedNode}

-- one more node, by what it is like, when it had the block, and what it asked for
one_more : (h : Bool) (came : Option ℕ) (asked whole : Bool) (mined : ℕ) (rest : List ℕ) (a b c : ℕ) → a + b + c ≡ length rest →
    (cond (h && is_some came && not asked && not whole) 1 0 + a) + (cond (h && is_some came && asked && not whole) 1 0 + b) + (cond (h && is_some came && whole) 1 0 + c)
    ≡ length (cons_option (if h then option_map (λ time. time - mined) came else None) rest)
one_more false came asked whole mined rest a b c e = omega arith
one_more true None asked whole mined rest a b c e = omega arith
one_more true (Some time) true true mined rest a b c e = omega arith
one_more true (Some time) true false mined rest a b c e = omega arith
one_more true (Some time) false true mined rest a b c e = omega arith
one_more true (Some time) false false mined rest a b c e = omega arith

one_way_each : (mined : ℕ) (nodes : List SimulatedNode) → count_by had_at_once nodes + count_by had_by_asking nodes + count_by had_whole nodes ≡ length (times_of mined nodes)
one_way_each mined [] = refl
one_way_each mined (node ∷ nodes) =
    let once : count_by had_at_once (node ∷ nodes) ≡ cond (had_at_once node) 1 0 + count_by had_at_once nodes = sum_by-cons (λ (x : SimulatedNode). cond (had_at_once x) 1 0) node nodes in
    let asked : count_by had_by_asking (node ∷ nodes) ≡ cond (had_by_asking node) 1 0 + count_by had_by_asking nodes = sum_by-cons (λ (x : SimulatedNode). cond (had_by_asking x) 1 0) node nodes in
    let whole : count_by had_whole (node ∷ nodes) ≡ cond (had_whole node) 1 0 + count_by had_whole nodes = sum_by-cons (λ (x : SimulatedNode). cond (had_whole x) 1 0) node nodes in
    (λ i. once i + asked i + whole i)
    ∙ one_more (is_honest node) node.came node.way.asked node.way.whole mined (times_of mined nodes) (count_by had_at_once nodes) (count_by had_by_asking nodes) (count_by had_whole nodes) (one_way_each mined nodes)

pub one_way : (mined : ℕ) (nodes : List SimulatedNode) (times : List ℕ) (once asked whole : ℕ) → IsPermutation (times_of mined nodes) times
    → once ≡ count_by had_at_once nodes → asked ≡ count_by had_by_asking nodes → whole ≡ count_by had_whole nodes → once + asked + whole ≡ length times
one_way mined nodes times once asked whole same o a w =
    let all = one_way_each mined nodes in
    let long = length_permutation (times_of mined nodes) times same in
    omega (arith, o, a, w, all, long)
