use Rattle.cb_trace.proofs.Wishes.{wished_few, wished_once}
use Rattle.cb_trace.proofs.laws.send_headers_goes_out_once.Goals as goal

pub returns-clause-once : goal.returns-clause-once
returns-clause-once c = λ settings entries. wished_few settings entries

pub returns-clause-exactly : goal.returns-clause-exactly
returns-clause-exactly c = λ settings entries. wished_once settings entries
