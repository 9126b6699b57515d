use Rattle.cb_wire.proofs.Texts.{texts-stream, text_alone}
use Rattle.cb_wire.proofs.laws.texts_are_a_stream.Goals as goal

pub returns-clause-stream : goal.returns-clause-stream
returns-clause-stream c = texts-stream

pub returns-clause-alone : goal.returns-clause-alone
returns-clause-alone c = text_alone
