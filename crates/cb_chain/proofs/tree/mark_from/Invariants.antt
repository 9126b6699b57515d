use Rattle.std.proofs.Common.{◌≡◌, ◌-◌, ◌≤◌, List, length, vec_capacity}
use Rattle.cb_chain.specs.Keeping.{IsMarked}
use Rattle.cb_chain.specs.Marking.{BlockIndex, marks_of}
use Rattle.cb_chain.proofs.Branches.{Walked}
use Rattle.cb_chain.proofs.tree.mark_from.Given as goal

abbrev pub invariant-loop-turn : goal.invariant-loop-turn
invariant-loop-turn l =
    ((block_indexes : List BlockIndex) → IsMarked block_indexes l.fn.marks l.fn.newest l.fn.elder l.fn.first → (now : List BlockIndex) × Walked block_indexes l.fn.first l.turn l.found.items now × (l.marks ≡ marks_of now))
    × (vec_capacity l.fn.found ≤ vec_capacity l.found)

abbrev pub decreases-loop-turn : goal.decreases-loop-turn
decreases-loop-turn l = length l.fn.marks - l.turn
