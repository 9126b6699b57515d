use Rattle.std.proofs.Common.{◌≡◌, drop, take}
use Rattle.cb_chain.specs.Laws.{accepted_headers}
use Rattle.cb_state.proofs.headers.headers_from.Given as goal

abbrev pub invariant-loop-step : goal.invariant-loop-step
invariant-loop-step l = l.headers.items ≡ take l.step (drop l.place (accepted_headers l.chain))
