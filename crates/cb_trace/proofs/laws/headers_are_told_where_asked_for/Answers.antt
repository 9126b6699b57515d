use Rattle.cb_trace.proofs.Followed.{asked_by_headers, few_headers, sends_what_follows}
use Rattle.cb_trace.proofs.laws.headers_are_told_where_asked_for.Goals as goal

pub returns-clause-asked : goal.returns-clause-asked
returns-clause-asked c = λ settings entries by. asked_by_headers settings entries by

pub returns-clause-unasked : goal.returns-clause-unasked
returns-clause-unasked c = λ settings entries none. sends_what_follows settings entries none

pub returns-clause-few : goal.returns-clause-few
returns-clause-few c = λ settings entries none. few_headers settings entries none
