use Rattle.cb_command.proofs.Entering.{named, taken}
use Rattle.cb_command.proofs.commanding.words_name_commands.Goals as goal

pub returns-clause-named : goal.returns-clause-named
returns-clause-named c = named

pub returns-clause-taken : goal.returns-clause-taken
returns-clause-taken c = taken
