use Rattle.std.proofs.Common.{refl}
use Rattle.cb_trace.proofs.Traces.{ended_at_once}
use Rattle.cb_trace.proofs.trace.Trace.starve.Goals as goal

pub returns-clause-grows : goal.returns-clause-grows
returns-clause-grows c = (ended_at_once c.args.self.now _ _ _ _ c.requires.going refl refl c.put-silent.ensures).0

pub returns-clause-closed : goal.returns-clause-closed
returns-clause-closed c = (ended_at_once c.args.self.now _ _ _ _ c.requires.going refl refl c.put-silent.ensures).1
