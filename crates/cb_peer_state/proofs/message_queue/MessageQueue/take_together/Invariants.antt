use Rattle.std.proofs.Common.{◌≡◌, ◌-◌, ◌≤◌, true, false, All, length, vec_capacity}
use Rattle.cb_peer_state.specs.MessageQueue.{WereTaken}
use Rattle.cb_peer_state.specs.Outgoing.{IsSmall}
use Rattle.cb_peer_state.proofs.message_queue.MessageQueue.take_together.Given as goal

-- the list has what isn't waiting any more; behind a first message that isn't small there is none
abbrev pub invariant-loop-batch : goal.invariant-loop-batch
invariant-loop-batch l = record {
  taken : WereTaken l.fn.self.waiting l.batch.items l.self.waiting;
  some : 1 ≤ length l.batch.items;
  small : l.is_small ≡ true → All IsSmall l.batch.items;
  alone : l.is_small ≡ false → length l.batch.items ≤ 1;
  few : length l.batch.items ≤ 64;
  room : 64 ≤ vec_capacity l.batch;
  takes : l.self.takes ≡ l.fn.self.takes;
}

abbrev pub decreases-loop-batch : goal.decreases-loop-batch
decreases-loop-batch l = 64 - length l.batch.items
