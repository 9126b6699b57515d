use Rattle.std.proofs.Common.{◌≡◌, take}
use Rattle.cb_chain.proofs.tree.copy_undos.Given as goal

abbrev pub invariant-loop-undo : goal.invariant-loop-undo
invariant-loop-undo l = l.copies.items ≡ take l.undo-index l.undos
