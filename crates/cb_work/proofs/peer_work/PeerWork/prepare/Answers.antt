use Rattle.cb_work.proofs.peer_work.PeerWork.prepare.Goals as goal

pub returns-clause-serves : goal.returns-clause-serves
returns-clause-serves g c = λ items beats s. c.make_room.ensures.serves items beats (c.begin_anew.ensures.serves items beats s)
