-- The hall: the state that the journal of all calls leads to (state machine replication), and what
-- a call does to it.
use Rattle.std.specs.Prelude.{◌≡◌, ◌⊎◌, ℕ, ◌+◌, ◌≤◌, ◌^◌, List, [], ◌∷◌, ◌++◌, length, Option, None, Some}
use Rattle.cb_chain.specs.Best.{best}
use Rattle.cb_chain.specs.Laws.{height_in}
use Rattle.cb_state.specs.declared.connection.Connection.{Connection}
use Rattle.cb_state.specs.State.{RelayState}
use Rattle.cb_hall.specs.declared.answer.Answer.{Answer}
use Rattle.cb_hall.specs.declared.entry.Entry.{Entry}
use Rattle.cb_hall.specs.declared.entry.Entry.TheVariants as entries
use Rattle.cb_hall.specs.declared.entry.Local.{Local}
use Rattle.cb_hall.specs.declared.question.Question.{Question}
use Rattle.cb_hall.specs.Connections.{latest_of}
use Rattle.cb_hall.specs.Journal.{JournalState, Notes}
use Rattle.cb_hall.specs.Replica.{Leads, heard, opening}
use Rattle.cb_hall.specs.Badge.{BadgeState, counted}
use Rattle.cb_hall.specs.declared.summary.Look.{Look}

-- `past` are all calls since the start, and `answers` the answers to the questions among them. The
-- dropped calls led from the start to the state before the journal's entries. The entries are the
-- last calls and lead from there to the current state.
pub record HasHistory (hall : JournalState) (past : List Entry) (answers : List Answer)
    : Type 0 where
  pub dropped : List Entry
  pub told : List Answer
  pub before : Leads opening dropped told hall.base
  pub since : List Answer
  pub after : Leads hall.base hall.entries since hall.latest
  pub calls : past ≡ dropped ++ hall.entries
  pub heard_all : answers ≡ told ++ since

-- One more call: it is the journal's one new entry and the last of all calls.
pub record Grows (old : JournalState) (entry : Entry) (told : Option Answer) (new : JournalState)
    : Type 0 where
  pub notes : Notes old entry told new
  pub history : (past : List Entry) (answers : List Answer) → HasHistory old past answers
      → HasHistory new (past ++ entry ∷ []) (answers ++ heard entry told)

-- These calls are noted one after another.
abbrev pub NotesAll : JournalState → List Entry → JournalState → Type 0
NotesAll old [] new = new ≡ old
NotesAll old (call ∷ calls) new =
    (told : Option Answer) × (next : JournalState) × Notes old call told next
    × NotesAll next calls new

-- ---- calls

-- A peer's latest connection, and its next one.
abbrev pub latest_connection : JournalState → ℕ → Connection
latest_connection hall peer = record {
  peer = peer;
  generation = latest_of hall.latest.connections peer;
}

abbrev pub next_connection : JournalState → ℕ → Connection
next_connection hall peer = record {
  peer = peer;
  generation = latest_of hall.latest.connections peer + 1;
}

-- No more questions of this badge are granted: the hall or the badge has granted 2^62.
abbrev pub IsFull : JournalState → BadgeState → Type 0
IsFull hall badge = (2 ^ 62 ≤ hall.latest.entries) ⊎ (2 ^ 62 ≤ badge.count)

-- A question was granted. It is one more call of the badge's connection, the badge counts it, and
-- the answer is the one that the journal determines.
pub record Grants (old new : JournalState) (had has : BadgeState) (question : Question)
    (answer : Answer) : Type 0 where
  pub grows : Grows old (entries.Asked had.connection question) (Some answer) new
  pub badge : has ≡ counted had

-- A transaction or block from the node's own user is one more call.
abbrev pub Submitted : JournalState → Local → JournalState → Answer → Type 0
Submitted old local new answer = Grows old (entries.Submitted local) (Some answer) new

-- ---- what is seen of it

-- The summary of a state: the tip's height and hash, and the size of the mempool.
abbrev pub look_of : RelayState → Look
look_of relay = record {
  height = height_in relay.tree (best relay.tree);
  tip = best relay.tree;
  pool = length relay.pool.list;
}
