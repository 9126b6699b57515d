-- A connection's questions and answers: as the hall's journal tells them, and as its trace does.
-- The journal is the log of the hall's calls, the trace that of a connection's events.
use Rattle.std.specs.Prelude.{List, [], ◌∷◌, ◌++◌, Option, None, Some, if◌then◌else◌}
use Rattle.cb_state.specs.declared.connection.Connection.{Connection}
use Rattle.cb_state.specs.Announcers.{same_connection}
use Rattle.cb_hall.specs.declared.answer.Answer.{Answer}
use Rattle.cb_hall.specs.declared.question.Question.{Question}
use Rattle.cb_hall.specs.declared.entry.Entry.{Entry}
use Rattle.cb_hall.specs.declared.entry.Entry.TheVariants.{Asked}
use Rattle.cb_peer_state.specs.declared.event.Event.{Event}
use Rattle.cb_peer_state.specs.declared.event.Event.TheVariants.{Told}
use Rattle.cb_trace.specs.declared.trace.TraceEntry.{TraceEntry}
use Rattle.cb_trace.specs.Trace.{TraceView, asked_from, base_account}

-- A question and its answer. A trace may have an answer that nobody asked for.
pub record Turn : Type 0 where
  pub question : Option Question
  pub answer : Answer

-- ---- by the journal

abbrev pub turn_of : Connection → Connection → Question → Answer → List Turn
turn_of connection other question answer =
    if same_connection other connection
    then record { question = Some question; answer = answer } ∷ []
    else []

-- The questions of a connection among the entries, in order, each with its answer. `answers` are
-- the answers to all questions among them.
abbrev pub turns_of : Connection → List Entry → List Answer → List Turn
turns_of connection [] answers = []
turns_of connection (Asked other question ∷ entries) [] = []
turns_of connection (Asked other question ∷ entries) (answer ∷ answers) =
    turn_of connection other question answer ++ turns_of connection entries answers
turns_of connection (entry ∷ entries) answers = turns_of connection entries answers

-- ---- by the trace

abbrev pub answer_in : Event → List Answer
answer_in (Told answer) = answer ∷ []
answer_in other = []

-- The answers among a trace's entries, in order.
abbrev pub answers_in : List TraceEntry → List Answer
answers_in [] = []
answers_in (entry ∷ entries) = answer_in entry.event ++ answers_in entries

-- Each question with the answer of the same place.
abbrev pub paired : List (Option Question) → List Answer → List Turn
paired [] answers = []
paired (question ∷ questions) [] = []
paired (question ∷ questions) (answer ∷ answers) =
    record { question = question; answer = answer } ∷ paired questions answers

-- The answers since a trace's base, in order, each with the question that was open before it. There
-- are as many questions as answers (`each_answer_has_its_question`).
abbrev pub turns_in : TraceView → List Turn
turns_in trace = paired (asked_from (base_account trace) trace.entries) (answers_in trace.entries)

-- Where there is no trace there are none.
abbrev pub turns_by : Option TraceView → List Turn
turns_by None = []
turns_by (Some trace) = turns_in trace
