use Rattle.std.proofs.Common.{◌≡◌, take}
use Rattle.cb_audit.proofs.same_lists.same_list.Given as goal

-- the first values are the same
abbrev pub invariant-loop-place : goal.invariant-loop-place
invariant-loop-place g l = take l.place l.ours ≡ take l.place l.theirs
