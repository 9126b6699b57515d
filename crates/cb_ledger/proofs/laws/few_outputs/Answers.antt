use Rattle.std.specs.Prelude.{slice_index_or}
use Rattle.cb_ledger.proofs.Lengths.{few_outputs}
use Rattle.cb_ledger.proofs.laws.few_outputs.Goals as goal

pub returns : goal.returns
returns c = λ txs meet k d lt. few_outputs (slice_index_or txs k d) (meet k d lt)
