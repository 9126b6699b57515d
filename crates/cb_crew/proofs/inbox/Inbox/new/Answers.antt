use Rattle.cb_crew.proofs.Moves.{begins, forks}
use Rattle.cb_crew.proofs.inbox.Inbox.new.Goals as goal

pub ruled-requires-clause-rule : goal.ruled-requires-clause-rule
ruled-requires-clause-rule g c = begins _

pub another-taking-requires-clause-rule : goal.another-taking-requires-clause-rule
another-taking-requires-clause-rule g c = forks _ _ _
