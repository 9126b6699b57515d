-- What a connection asked the hall, and the answers.
use Rattle.std.specs.Prelude.{◌≡◌, ℕ, ◌+◌, true, List, ◌++◌, length, map}
use Rattle.cb_base.specs.declared.fault.Fault.{Fault}
use Rattle.cb_base.specs.declared.fault.Fault.TheVariants.{JournalFull}
use Rattle.cb_state.specs.declared.connection.Connection.{Connection}
use Rattle.cb_hall.specs.declared.answer.Answer.{Answer}
use Rattle.cb_hall.specs.declared.entry.Entry.{Entry}
use Rattle.cb_hall.specs.declared.entry.Entry.TheVariants.{Asked}
use Rattle.cb_hall.specs.declared.question.Question.{Question}
use Rattle.cb_hall.specs.Journal.{JournalState}
use Rattle.cb_hall.specs.Replica.{Leads}
use Rattle.cb_hall.specs.Badge.{BadgeState}
use Rattle.cb_hall.specs.Hall.{HasHistory, IsFull}

-- A question and the hall's answer.
pub record Reply : Type 0 where
  pub question : Question
  pub answer : Answer

-- The journal's entries for a connection's questions, and the answers to them.
abbrev pub asked_by : Connection → List Reply → List Entry
asked_by connection replies = map (λ reply. Asked connection reply.question) replies

abbrev pub told_by : List Reply → List Answer
told_by replies = map (λ reply. reply.answer) replies

-- The hall or the badge is full, and the badge is marked.
abbrev pub IsMarkedFull : JournalState → BadgeState → Type 0
IsMarkedFull hall badge = (badge.full ≡ true) × IsFull hall badge

-- What a refused call leaves. With `JournalFull` the hall or the badge is full, and the badge is
-- marked. Of any other fault nothing is stated here.
abbrev pub IsRefused : JournalState → BadgeState → Fault → Type 0
IsRefused hall badge JournalFull = IsMarkedFull hall badge
IsRefused hall badge other = Unit {0}

-- A badge's calls lead from one hall and badge to another. These questions were granted, in order.
-- They are the last of all calls. Each was answered from the state that the calls before it led to.
pub record Asks (old new : JournalState) (had has : BadgeState) (replies : List Reply)
    : Type 0 where
  pub leads : Leads old.latest (asked_by had.connection replies) (told_by replies) new.latest
  pub history : (past : List Entry) (answers : List Answer) → HasHistory old past answers
      → HasHistory new (past ++ asked_by had.connection replies) (answers ++ told_by replies)
  pub connection : has.connection ≡ had.connection
  pub count : has.count ≡ had.count + length replies
  pub marked : had.full ≡ true → has.full ≡ true
