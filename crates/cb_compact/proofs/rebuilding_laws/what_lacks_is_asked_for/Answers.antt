use Rattle.cb_compact.proofs.Asked.{lacks_exact, lacks_under}
use Rattle.cb_compact.proofs.rebuilding_laws.what_lacks_is_asked_for.Goals as goal

pub returns-clause-under : goal.returns-clause-under
returns-clause-under c = lacks_under

pub returns-clause-exact : goal.returns-clause-exact
returns-clause-exact c = lacks_exact
