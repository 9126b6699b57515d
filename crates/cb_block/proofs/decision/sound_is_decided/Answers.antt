use Rattle.cb_block.proofs.Deciding.{sound_from, sound_to, unsound_is}
use Rattle.cb_block.proofs.decision.sound_is_decided.Goals as goal

pub returns-clause-from : goal.returns-clause-from
returns-clause-from c = sound_from

pub returns-clause-to : goal.returns-clause-to
returns-clause-to c = sound_to

pub returns-clause-unsound : goal.returns-clause-unsound
returns-clause-unsound c = unsound_is
