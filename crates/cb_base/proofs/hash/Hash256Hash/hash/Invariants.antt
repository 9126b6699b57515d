use Rattle.std.proofs.Common.{◌≡◌, take}
use Rattle.std.specs.List.{fold}
use Rattle.cb_base.proofs.hash.Hash256Hash.hash.Given as goal

abbrev pub invariant-loop-word : goal.invariant-loop-word
invariant-loop-word g l = l.state ≡ fold g.H.Hasher.write l.fn.state (take l.word-index l.words)
