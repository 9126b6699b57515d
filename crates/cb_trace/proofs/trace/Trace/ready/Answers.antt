use Rattle.std.proofs.Common.{inr}
use Rattle.cb_trace.proofs.Keeping.{grown_keeps, rested_keeps, roomed_keeps}
use Rattle.cb_trace.proofs.Traces.{lacks_base}
use Rattle.cb_trace.proofs.trace.Trace.ready.Goals as goal

-- no checkpoint was taken
pub returns-then-not-rest-clause-readied : goal.returns-then-not-rest-clause-readied
returns-then-not-rest-clause-readied c =
    let failed = c.if-not-rest.true in
    inr (lacks_base c.args.self.now c.rest.new.self c.starve.new.self (c.rest.ensures.same failed) (c.rest.ensures.due failed) (c.rest.ensures.needs failed) c.starve.ensures.grows c.starve.ensures.closed)

pub returns-then-not-rest-clause-roomy : goal.returns-then-not-rest-clause-roomy
returns-then-not-rest-clause-roomy c = λ room _. (c.rest.ensures.due c.if-not-rest.true, c.rest.ensures.needs c.if-not-rest.true)

pub returns-then-reserve-clause-keeps : goal.returns-then-reserve-clause-keeps
returns-then-reserve-clause-keeps c = λ keeps. roomed_keeps c.rest.new.self c.reserve.new.self _ c.reserve.ensures.same (rested_keeps c.args.self.now c.rest.new.self (c.rest.ensures.rests c.if-not-rest.false) keeps)

pub returns-clause-keeps : goal.returns-clause-keeps
returns-clause-keeps c = λ keeps.
    grown_keeps c.reserve.new.self c.starve-2.new.self _ c.starve-2.ensures.grows
    (roomed_keeps c.rest.new.self c.reserve.new.self _ c.reserve.ensures.same (rested_keeps c.args.self.now c.rest.new.self (c.rest.ensures.rests c.if-not-rest.false) keeps))
