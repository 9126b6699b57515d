-- A journal: the log of the hall's calls, in bounded memory. It holds the state that earlier calls
-- led to, the calls since, and the state that all of them lead to.
use Rattle.std.specs.Prelude.{◌≡◌, ◌⊎◌, ℕ, ◌+◌, ◌≤◌, Bool, ◌||◌, nat_le, nat_lt, if◌then◌else◌, List, [], ◌∷◌, ◌++◌, length, min, Option, None, Some}
use Rattle.cb_hall.specs.declared.answer.Answer.{Answer}
use Rattle.cb_hall.specs.declared.entry.Entry.{Entry}
use Rattle.cb_hall.specs.Replica.{Leads, ReplicaState, Steps, heard, opening}
use Rattle.cb_hall.specs.Weight.{entry_weight, journal_weight}

pub record JournalState : Type 0 where
  pub base : ReplicaState
  pub entries : List Entry
  pub latest : ReplicaState

-- Some calls led from the start to the base, and the entries lead from the base to the latest
-- state.
pub record IsPast (base : ReplicaState) (entries : List Entry) (latest : ReplicaState)
    : Type 0 where
  pub dropped : List Entry
  pub told : List Answer
  pub before : Leads opening dropped told base
  pub answers : List Answer
  pub since : Leads base entries answers latest

-- At most 1,000,000 entries. They count for at most 64,000,000 bytes, unless there is only one.
abbrev pub IsBounded : List Entry → Type 0
IsBounded entries =
    (length entries ≤ 1000000) × ((journal_weight entries ≤ 64000000) ⊎ (length entries ≤ 1))

-- A journal without calls.
abbrev pub new_journal : JournalState
new_journal = record { base = opening; entries = []; latest = opening }

-- With one more entry there would be too many, or they would count for too many bytes.
abbrev pub is_to_begin_anew : List Entry → Entry → Bool
is_to_begin_anew entries entry =
    nat_le 1000000 (length entries) || nat_lt 64000000 (entry_weight entry + journal_weight entries)

-- One more call. Its entry is appended, or the journal starts over with it if the entries would be
-- too many or too long.
pub record Notes (old : JournalState) (entry : Entry) (told : Option Answer) (new : JournalState)
    : Type 0 where
  pub steps : Steps old.latest entry told new.latest
  pub base : new.base ≡ (if is_to_begin_anew old.entries entry then old.latest else old.base)
  pub entries : new.entries
      ≡ (if is_to_begin_anew old.entries entry then entry ∷ [] else old.entries ++ entry ∷ [])

-- The oldest call was applied to the base, and left the journal.
pub record Advances (old : JournalState) (entry : Entry) (told : Option Answer) (new : JournalState)
    : Type 0 where
  pub front : old.entries ≡ entry ∷ new.entries
  pub steps : Steps old.base entry told new.base
  pub latest : new.latest ≡ old.latest

-- The same, or there was no call.
abbrev pub MovesOn : JournalState → Option (Entry × Option Answer) → JournalState → Type 0
MovesOn old None new = (new ≡ old) × (old.entries ≡ [])
MovesOn old (Some moved) new = Advances old moved.0 moved.1 new

-- ---- how the code keeps it

-- The journal starts over with a call.
pub record BeginsWith (old : JournalState) (entry : Entry) (told : Option Answer)
    (new : JournalState) : Type 0 where
  pub steps : Steps old.latest entry told new.latest
  pub base : new.base ≡ old.latest
  pub entries : new.entries ≡ entry ∷ []

-- One more entry is replayed.
pub record Again (old : ReplicaState) (entry : Entry) (had : List Answer) (new : ReplicaState)
    (has : List Answer) : Type 0 where
  pub told : Option Answer
  pub steps : Steps old entry told new
  pub has_all : has ≡ had ++ heard entry told

-- The weight is that of the entries, capped at 2^64 - 1. At most 2^62 entries led to the latest
-- state.
pub record IsJournal (base : ReplicaState) (entries : List Entry) (weight : ℕ)
    (latest : ReplicaState) : Type 0 where
  pub weighed : weight ≡ min (journal_weight entries) 18446744073709551615
  pub bounded : IsBounded entries
  pub few : latest.entries ≤ 4611686018427387904
  pub past : IsPast base entries latest
