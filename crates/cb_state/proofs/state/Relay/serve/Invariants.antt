use Rattle.std.proofs.Common.{◌≡◌, ◌≤◌, ◌++◌, length, drop}
use Rattle.std.specs.Prelude.{vec_capacity}
use Rattle.cb_state.specs.Serving.{pieces_of}
use Rattle.cb_state.proofs.state.Relay.serve.Given as goal

abbrev pub invariant-loop-entry : goal.invariant-loop-entry
invariant-loop-entry l = record {
  told : l.list.items ++ pieces_of l.self (drop l.entry-index l.asked) ≡ pieces_of l.self l.asked;
  few : length l.list.items ≤ l.entry-index;
  room : length l.asked ≤ vec_capacity l.list;
}
