use Rattle.cb_compact.proofs.Honest.{fits, rebuilt}
use Rattle.cb_compact.proofs.laws.an_honest_form_is_rebuilt.Goals as goal

pub returns-clause-rebuilt : goal.returns-clause-rebuilt
returns-clause-rebuilt c = rebuilt

pub returns-clause-fits : goal.returns-clause-fits
returns-clause-fits c = fits
