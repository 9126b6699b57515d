use Rattle.cb_trace.proofs.Missing.{asked_needed, in_flight_needed, wanted_lacking}
use Rattle.cb_trace.proofs.laws.blocks_are_fetched_as_told.Goals as goal

pub returns-clause-flight : goal.returns-clause-flight
returns-clause-flight c = λ settings entries hash e. in_flight_needed settings entries hash e

pub returns-clause-wanted : goal.returns-clause-wanted
returns-clause-wanted c = λ settings entries hash e. wanted_lacking settings entries hash e

pub returns-clause-asked : goal.returns-clause-asked
returns-clause-asked c = λ settings entries hash e. asked_needed settings entries hash e
