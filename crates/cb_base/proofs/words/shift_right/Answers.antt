use Rattle.cb_base.proofs.LaneLemmas.{shifts_right}
use Rattle.cb_base.proofs.words.shift_right.Goals as goal

pub returns : goal.returns
returns c = shifts_right c.args.by c.args.x c.fits-x.0
