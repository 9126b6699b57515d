use Rattle.cb_compact.proofs.Sending.{shortened_honest}
use Rattle.cb_compact.proofs.rebuilding_laws.a_shortened_block_is_honest.Goals as goal

pub returns : goal.returns
returns c = shortened_honest
