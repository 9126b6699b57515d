use Rattle.cb_compact.proofs.Indexes.{differences_of_sums, sums_of_differences, sums_rise}
use Rattle.cb_compact.proofs.laws.differences_lead_back.Goals as goal

pub returns-clause-indexes : goal.returns-clause-indexes
returns-clause-indexes c = sums_of_differences 0

pub returns-clause-list : goal.returns-clause-list
returns-clause-list c = differences_of_sums 0

pub returns-clause-rise : goal.returns-clause-rise
returns-clause-rise c = sums_rise 0
