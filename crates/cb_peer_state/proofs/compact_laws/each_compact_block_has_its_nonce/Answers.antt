use Rattle.cb_peer_state.proofs.CompactLaws.{counted, run_counted, run_differs}
use Rattle.cb_peer_state.proofs.compact_laws.each_compact_block_has_its_nonce.Goals as goal

pub returns-clause-step : goal.returns-clause-step
returns-clause-step c = λ s event. (counted s event).0

pub returns-clause-next : goal.returns-clause-next
returns-clause-next c = λ s event. (counted s event).1

pub returns-clause-run : goal.returns-clause-run
returns-clause-run c = run_counted

pub returns-clause-different : goal.returns-clause-different
returns-clause-different c = run_differs
