use Rattle.cb_crew.specs.CrewModel.{is_open, line_of}
use Rattle.cb_crew.proofs.LineLaws.{taken_begins}
use Rattle.cb_crew.proofs.PartsLaws.{begun_part, whole_part, parts_count}
use Rattle.cb_crew.proofs.CrewLaws.{sound_run}
use Rattle.cb_crew.proofs.crew_laws.connections_in_order.Goals as goal

pub returns-clause-begins : goal.returns-clause-begins
returns-clause-begins c =
    λ peers handlers capacity acts s r p k.
    begun_part is_open (line_of s p).taken (line_of s p).queued (taken_begins ((sound_run peers handlers capacity acts s r).lines p)) k

pub returns-clause-whole : goal.returns-clause-whole
returns-clause-whole c =
    λ peers handlers capacity acts s r p k behind.
    whole_part is_open (line_of s p).taken (line_of s p).queued (taken_begins ((sound_run peers handlers capacity acts s r).lines p)) k behind

pub returns-clause-count : goal.returns-clause-count
returns-clause-count c = parts_count is_open
