use Rattle.std.proofs.Common.{drop}
use Rattle.cb_hall.proofs.Replaying.{IsPlayed}
use Rattle.cb_hall.proofs.hall.Hall.replay_with_seed.Given as goal

abbrev pub invariant-loop-call : goal.invariant-loop-call
invariant-loop-call l = IsPlayed l.journal l.calls (drop l.call-index l.calls)
