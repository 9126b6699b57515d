use Rattle.cb_compact.proofs.OwnPairs.{own_honest, own_rebuilt}
use Rattle.cb_compact.proofs.laws.a_form_is_rebuilt_from_its_own_pairs.Goals as goal

pub returns-clause-honest : goal.returns-clause-honest
returns-clause-honest c = own_honest

pub returns-clause-whole : goal.returns-clause-whole
returns-clause-whole c = own_rebuilt
