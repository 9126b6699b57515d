use Rattle.cb_base.proofs.Compact as compact
use Rattle.cb_base.proofs.compact_size.one_spelling.Goals as goal

pub returns : goal.returns
returns c = compact.one_spelling
