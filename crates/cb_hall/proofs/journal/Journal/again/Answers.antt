use Rattle.std.proofs.Common.{◌∙◌}
use Rattle.std.proofs.lemmas.Result.{err_from_is_err_and}
use Rattle.cb_hall.proofs.journal.Journal.again.Goals as goal

pub returns-in_err-latest-clause-memory : goal.returns-in_err-latest-clause-memory
returns-in_err-latest-clause-memory c =
    let p = err_from_is_err_and c.from_residual-in_err-latest.result c.from_residual-in_err-latest.ensures.1 in rw p.1 (p.2 ∙ c.in_err-latest.ensures.memory)
