use Rattle.cb_crew.proofs.LineLaws.{follows, ended_is, few}
use Rattle.cb_crew.proofs.CrewLaws.{sound_run}
use Rattle.cb_crew.proofs.crew_laws.opens_follow_ends.Goals as goal

pub returns-clause-follow : goal.returns-clause-follow
returns-clause-follow c = λ peers handlers capacity acts s r p. follows ((sound_run peers handlers capacity acts s r).lines p)

pub returns-clause-flag : goal.returns-clause-flag
returns-clause-flag c = λ peers handlers capacity acts s r p. ended_is ((sound_run peers handlers capacity acts s r).lines p)

pub returns-clause-few : goal.returns-clause-few
returns-clause-few c = λ peers handlers capacity acts s r p. few ((sound_run peers handlers capacity acts s r).lines p)
