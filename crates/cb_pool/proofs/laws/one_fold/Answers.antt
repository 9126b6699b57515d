use Rattle.cb_pool.proofs.LawLemmas.{one_refold}
use Rattle.cb_pool.proofs.laws.one_fold.Goals as goal

pub returns : goal.returns
returns c = one_refold
