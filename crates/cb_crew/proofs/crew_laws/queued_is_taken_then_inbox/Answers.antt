use Rattle.cb_crew.proofs.LineLaws.{queued_parts}
use Rattle.cb_crew.proofs.CrewLaws.{sound_run}
use Rattle.cb_crew.proofs.crew_laws.queued_is_taken_then_inbox.Goals as goal

pub returns : goal.returns
returns c = λ peers handlers capacity acts s r p. queued_parts ((sound_run peers handlers capacity acts s r).lines p)
