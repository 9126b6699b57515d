use Rattle.std.proofs.Common.{◌≡◌, ◌++◌, drop}
use Rattle.cb_state.specs.Wanting.{blocks_of}
use Rattle.cb_state.proofs.OnceEach.{blocks_in}
use Rattle.cb_state.proofs.wanting.only_block.Given as goal

abbrev pub invariant-loop-entry : goal.invariant-loop-entry
invariant-loop-entry l = blocks_in l.only ++ blocks_of (drop l.entry-index l.entries) ≡ blocks_of l.entries
