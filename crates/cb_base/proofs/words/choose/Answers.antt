use Rattle.cb_base.proofs.LaneLemmas.{choose_goes, choose_rests}
use Rattle.cb_base.proofs.words.choose.Goals as goal

pub returns-clause-goes : goal.returns-clause-goes
returns-clause-goes c = choose_goes c.args.going c.args.next c.args.past c.fits-going.0 c.fits-next.0 c.fits-past.0

pub returns-clause-rests : goal.returns-clause-rests
returns-clause-rests c = choose_rests c.args.going c.args.next c.args.past c.fits-going.0 c.fits-next.0 c.fits-past.0
