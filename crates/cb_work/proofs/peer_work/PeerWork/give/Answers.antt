use Rattle.cb_work.proofs.Ticking.{no_beat}
use Rattle.cb_work.proofs.peer_work.PeerWork.give.Goals as goal

pub returns-in-Item-Said-clause-serves : goal.returns-in-Item-Said-clause-serves
returns-in-Item-Said-clause-serves g c = λ items beats s. rw (c.in-Item-Said.is, c.in-Item-Said.field-0-is) (no_beat g.H.Oracle.told g.H.Oracle.refused g.S.Sink.contents g.S.Sink.has_failed c.begin.new.self _ beats (c.begin.ensures.serves items beats s))

pub returns-in-Item-Broken-clause-serves : goal.returns-in-Item-Broken-clause-serves
returns-in-Item-Broken-clause-serves g c = λ items beats s. rw (c.in-Item-Broken.is, c.in-Item-Broken.field-0-is) (no_beat g.H.Oracle.told g.H.Oracle.refused g.S.Sink.contents g.S.Sink.has_failed c.begin-in-Item-Broken.new.self _ beats (c.begin-in-Item-Broken.ensures.serves items beats s))

pub returns-in-Item-NoMemory-clause-serves : goal.returns-in-Item-NoMemory-clause-serves
returns-in-Item-NoMemory-clause-serves g c = λ items beats s. rw (c.in-Item-NoMemory.is, c.in-Item-NoMemory.field-0-is) (c.lose.ensures.serves items beats s)

pub returns-in-End-clause-serves : goal.returns-in-End-clause-serves
returns-in-End-clause-serves g c = λ items beats s. rw (c.in-End.is) (no_beat g.H.Oracle.told g.H.Oracle.refused g.S.Sink.contents g.S.Sink.has_failed c.begin-in-End.new.self _ beats (c.begin-in-End.ensures.serves items beats s))
