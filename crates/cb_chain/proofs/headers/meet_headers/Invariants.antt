use Rattle.std.proofs.Common.{◌≡◌, ◌+◌, ◌%◌, ◌<◌, ◌≤◌, drop, length, vec_capacity, vec_len}
use Rattle.cb_chain.specs.Headers.{HasFour}
use Rattle.cb_chain.specs.Keeping.{tree_of}
use Rattle.cb_chain.specs.SideBranches.{KeepsChains}
use Rattle.cb_chain.proofs.Headings.{GoesThrough}
use Rattle.cb_chain.proofs.headers.meet_headers.Given as goal

abbrev pub invariant-loop-i : goal.invariant-loop-i
invariant-loop-i l =
    GoesThrough (tree_of l.fn.tree.block_indexes) l.headers l.met.items (tree_of l.tree.block_indexes) (drop l.i l.headers)
    × KeepsChains l.fn.tree l.tree
    × (length l.headers ≤ l.tree.room + l.i)
    × (vec_len l.met ≡ l.i)
    × (length l.headers ≤ vec_capacity l.met)
    × (0 < l.i % 4 → HasFour l.headers l.i l.four)
