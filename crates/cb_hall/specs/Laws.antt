-- Laws of all calls of a hall, as a connection sees them.
use Rattle.std.specs.Prelude.{◌≡◌, ◌≢◌, ⊤, ℕ, ◌+◌, ◌<◌, Bool, true, false, List, [], ◌∷◌, ◌++◌, length, filter, Option, None, Some}
use Rattle.cb_state.specs.declared.connection.Connection.{Connection}
use Rattle.cb_state.specs.Announcers.{is_among, same_connection}
use Rattle.cb_hall.specs.declared.answer.Answer.{Answer}
use Rattle.cb_hall.specs.declared.answer.Answer.TheVariants.{Kicked}
use Rattle.cb_hall.specs.declared.connections.Connected.{Connected}
use Rattle.cb_hall.specs.declared.entry.Entry.{Entry}
use Rattle.cb_hall.specs.declared.entry.Entry.TheVariants.{Asked, Kick, Opened}
use Rattle.cb_hall.specs.declared.question.Question.{Question}
use Rattle.cb_hall.specs.Connections.{connected_of, is_kicked, most_peers}
use Rattle.cb_hall.specs.Journal.{JournalState, Notes, new_journal}
use Rattle.cb_hall.specs.Replica.{Leads, ReplicaState, Steps}
use Rattle.cb_hall.specs.Badge.{BadgeState, first_of, fresh_badge, marked}
use Rattle.cb_hall.specs.Hall.{Grants, HasHistory, next_connection}

-- The connection stays kicked. Each of its questions, anywhere among the calls, is answered with
-- `Kicked` and leaves the state that peers share unchanged.
pub record AreTurnedAway (old : ReplicaState) (calls : List Entry) (connection : Connection)
    (new : ReplicaState) : Type 0 where
  pub stays : is_kicked new.connections connection ≡ true
  pub told : (before after : List Entry) (question : Question) (answers : List Answer)
      (asked next : ReplicaState) (answer : Option Answer)
      → calls ≡ before ++ Asked connection question ∷ after → Leads old before answers asked
      → Steps asked (Asked connection question) answer next
      → (answer ≡ Some Kicked) × (next.relay ≡ asked.relay)

-- No question of this connection is answered with `Kicked`.
abbrev pub IsLetIn : ReplicaState → Connection → Type 0
IsLetIn asked connection = (question : Question) (answer : Option Answer) (next : ReplicaState)
    → Steps asked (Asked connection question) answer next → answer ≢ Some Kicked

-- One of the calls kicked this connection.
abbrev pub WasKicked : List Entry → Connection → Type 0
WasKicked calls connection =
    (before after : List Entry) × (calls ≡ before ++ Kick connection ∷ after)

abbrev pub is_question_of : Connection → Entry → Bool
is_question_of connection (Asked other question) = same_connection other connection
is_question_of connection other = false

-- How many of the calls are questions of this connection.
abbrev pub questions_of : Connection → List Entry → ℕ
questions_of connection calls = length (filter (is_question_of connection) calls)

-- No two of the connections are equal.
abbrev pub AreApart : List Connection → Type 0
AreApart [] = ⊤
AreApart (connection ∷ others) = (is_among others connection ≡ false) × AreApart others

-- A connection that existed still exists, and its count grew by the number of its questions among
-- the calls.
abbrev pub CountsItsQuestions : ReplicaState → List Entry → Connection → ReplicaState → Type 0
CountsItsQuestions old calls connection new =
    (had : Connected) → connected_of old.connections connection ≡ Some had
    → (has : Connected) × (connected_of new.connections connection ≡ Some has)
    × (has.count ≡ had.count + questions_of connection calls)

-- ---- badges

-- A hall and one of its badges, as calls leave them. The badge is one of a new hall or of an opened
-- connection. Then its own questions are granted or refused, others call, and the hall takes
-- checkpoints.
pub data IsHeld : JournalState → BadgeState → Type 0 where
  is_first : (peer : ℕ) → peer < most_peers → IsHeld new_journal (fresh_badge (first_of peer))
  is_opened : (old new : JournalState) (peer : ℕ) (past : List Entry) (answers : List Answer)
      → HasHistory old past answers
      → Notes old (Opened (next_connection old peer)) None new
      → IsHeld new (fresh_badge (next_connection old peer))
  is_granted : (old new : JournalState) (had has : BadgeState) (question : Question)
      (answer : Answer)
      → IsHeld old had → Grants old new had has question answer → IsHeld new has
  is_refused : (hall : JournalState) (badge : BadgeState) → IsHeld hall badge
      → IsHeld hall (marked badge)
  is_passed : (old new : JournalState) (badge : BadgeState) (entry : Entry) (told : Option Answer)
      → IsHeld old badge → is_question_of badge.connection entry ≡ false
      → Notes old entry told new → IsHeld new badge
  is_checked : (hall : JournalState) (badge : BadgeState) → IsHeld hall badge
      → IsHeld (record { base = hall.latest; entries = []; latest = hall.latest }) badge

-- The badge counts what the hall counts of its connection.
abbrev pub CountsAlike : JournalState → BadgeState → Type 0
CountsAlike hall badge =
    (connected : Connected)
    × (connected_of hall.latest.connections badge.connection ≡ Some connected)
    × (connected.count ≡ badge.count)
