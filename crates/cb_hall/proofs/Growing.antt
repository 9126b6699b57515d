-- One call more, and all calls since the beginning.
use Rattle.std.proofs.Common.{◌≡◌, ◌∙◌, ℕ, ◌+◌, Bool, true, false, List, [], ◌∷◌, ◌++◌, Option, None, Some, if◌then◌else◌, refl, sym, ap, subst, append_assoc}
use Rattle.std.specs.Prelude.{Err, Ok, OnOk, Result}
use Rattle.std.proofs.lemmas.List.{append-nil}
use Rattle.cb_base.specs.declared.fault.Fault.{Fault}
use Rattle.cb_state.specs.declared.connection.Connection.{Connection}
use Rattle.cb_hall.specs.declared.answer.Answer.{Answer}
use Rattle.cb_hall.specs.declared.entry.Entry.{Entry}
use Rattle.cb_hall.specs.declared.entry.Entry.TheVariants.{Asked, Kick, Opened, Submitted}
use Rattle.cb_hall.specs.declared.entry.Local.{Local}
use Rattle.cb_hall.specs.declared.question.Question.{Question}
use Rattle.cb_hall.specs.Connections.{latest_of}
use Rattle.cb_hall.specs.Journal.{IsPast, JournalState, Notes, is_to_begin_anew, new_journal}
use Rattle.cb_hall.specs.Replica.{Leads, ReplicaState, Steps, heard, opening}
use Rattle.cb_hall.proofs.Leading.{leads_one, leads_then}
use Rattle.cb_hall.proofs.Once.{one_end}
use Rattle.cb_hall.specs.Badge.{BadgeState, counted}
use Rattle.cb_hall.specs.Hall.{Grants, Grows, HasHistory, latest_connection, next_connection}

-- all calls, by what a journal keeps of itself
pub history_of : (hall : JournalState) → IsPast hall.base hall.entries hall.latest → (past : List Entry) × (answers : List Answer) × HasHistory hall past answers
history_of hall past = (
  past.dropped ++ hall.entries,
  past.told ++ past.answers,
  record { dropped = past.dropped; told = past.told; before = past.before; since = past.answers; after = past.since; calls = refl; heard_all = refl },
)

pub history_leads : (hall : JournalState) (past : List Entry) (answers : List Answer) → HasHistory hall past answers → Leads opening past answers hall.latest
history_leads hall past answers h =
    subst (λ (es : List Entry). Leads opening es answers hall.latest) (sym h.calls)
    (subst (λ (xs : List Answer). Leads opening (h.dropped ++ hall.entries) xs hall.latest) (sym h.heard_all)
    (leads_then opening hall.base hall.latest h.dropped hall.entries h.told h.since h.before h.after))

pub one_history : (hall other : JournalState) (past : List Entry) (answers again : List Answer) → HasHistory hall past answers → HasHistory other past again
    → (answers ≡ again) × (hall.latest ≡ other.latest)
one_history hall other past answers again h k =
    one_end opening hall.latest other.latest past answers again (history_leads hall past answers h) (history_leads other past again k)

-- no call
pub no_history : HasHistory new_journal [] []
no_history = record { dropped = []; told = []; before = (refl, refl); since = []; after = (refl, refl); calls = refl; heard_all = refl }

-- ---- one more

history_more : (anew : Bool) (old new : JournalState) (entry : Entry) (told : Option Answer) → Steps old.latest entry told new.latest
    → new.base ≡ (if anew then old.latest else old.base) → new.entries ≡ (if anew then entry ∷ [] else old.entries ++ entry ∷ [])
    → (past : List Entry) (answers : List Answer) → HasHistory old past answers → HasHistory new (past ++ entry ∷ []) (answers ++ heard entry told)
history_more true old new entry told step base entries past answers h =
    record {
      dropped = h.dropped ++ old.entries;
      told = h.told ++ h.since;
      before =
          subst (λ (s : ReplicaState). Leads opening (h.dropped ++ old.entries) (h.told ++ h.since) s) (sym base)
          (leads_then opening old.base old.latest h.dropped old.entries h.told h.since h.before h.after);
      since = heard entry told;
      after =
          subst (λ (s : ReplicaState). Leads s new.entries (heard entry told) new.latest) (sym base)
          (subst (λ (es : List Entry). Leads old.latest es (heard entry told) new.latest) (sym entries) (leads_one old.latest new.latest entry told step));
      calls = ap (λ (es : List Entry). es ++ entry ∷ []) h.calls ∙ ap (λ (es : List Entry). (h.dropped ++ old.entries) ++ es) (sym entries);
      heard_all = ap (λ (xs : List Answer). xs ++ heard entry told) h.heard_all;
    }
history_more false old new entry told step base entries past answers h =
    record {
      dropped = h.dropped;
      told = h.told;
      before = subst (λ (s : ReplicaState). Leads opening h.dropped h.told s) (sym base) h.before;
      since = h.since ++ heard entry told;
      after =
          subst (λ (s : ReplicaState). Leads s new.entries (h.since ++ heard entry told) new.latest) (sym base)
          (subst (λ (es : List Entry). Leads old.base es (h.since ++ heard entry told) new.latest) (sym entries)
          (leads_then old.base old.latest new.latest old.entries (entry ∷ []) h.since (heard entry told) h.after (leads_one old.latest new.latest entry told step)));
      calls =
          ap (λ (es : List Entry). es ++ entry ∷ []) h.calls ∙ append_assoc h.dropped old.entries (entry ∷ [])
          ∙ ap (λ (es : List Entry). h.dropped ++ es) (sym entries);
      heard_all = ap (λ (xs : List Answer). xs ++ heard entry told) h.heard_all ∙ append_assoc h.told h.since (heard entry told);
    }

pub grows_by : (old new : JournalState) (entry : Entry) (told : Option Answer) → Notes old entry told new → Grows old entry told new
grows_by old new entry told notes =
    record { notes = notes; history = history_more (is_to_begin_anew old.entries entry) old new entry told notes.steps notes.base notes.entries }

-- ---- by what a hall has inside

-- an opening and a kick aren't answered
pub opened_by : (old inside new : JournalState) (peer generation : ℕ) (told : Option Answer) → inside ≡ old → generation ≡ latest_of old.latest.connections peer
    → Notes inside (Opened (record { peer = peer; generation = generation + 1 })) told new → Grows old (Opened (next_connection old peer)) None new
opened_by old inside new peer generation told is latest notes =
    let entry = Opened (record { peer = peer; generation = generation + 1 }) in
    let grown : Grows inside entry None new = subst (λ (t : Option Answer). Grows inside entry t new) notes.steps.does.0.0 (grows_by inside new entry told notes) in
    subst (λ (g : ℕ). Grows old (Opened (record { peer = peer; generation = g + 1 })) None new) latest (subst (λ (j : JournalState). Grows j entry None new) is grown)

pub kick_by : (old inside new : JournalState) (peer generation : ℕ) (told : Option Answer) → inside ≡ old → generation ≡ latest_of old.latest.connections peer
    → Notes inside (Kick (record { peer = peer; generation = generation })) told new → Grows old (Kick (latest_connection old peer)) None new
kick_by old inside new peer generation told is latest notes =
    let entry = Kick (record { peer = peer; generation = generation }) in
    let grown : Grows inside entry None new = subst (λ (t : Option Answer). Grows inside entry t new) notes.steps.does.0.0 (grows_by inside new entry told notes) in
    subst (λ (g : ℕ). Grows old (Kick (record { peer = peer; generation = g })) None new) latest (subst (λ (j : JournalState). Grows j entry None new) is grown)

-- questions and what the node's own user hands in are answered
pub grants_by : (old inside new : JournalState) (had has : BadgeState) (connection : Connection) (question : Question) (told : Option Answer) (answer : Answer) → inside ≡ old
    → connection ≡ had.connection → told ≡ Some answer → Notes inside (Asked connection question) told new → has ≡ counted had → Grants old new had has question answer
grants_by old inside new had has connection question told answer is same heard notes badge =
    let grown : Grows inside (Asked connection question) (Some answer) new =
    subst (λ (t : Option Answer). Grows inside (Asked connection question) t new) heard (grows_by inside new (Asked connection question) told notes) in
    record {
      grows =
          subst (λ (j : JournalState). Grows j (Asked had.connection question) (Some answer) new) is
          (subst (λ (k : Connection). Grows inside (Asked k question) (Some answer) new) same grown);
      badge = badge;
    }

pub submitted_by : (old inside new : JournalState) (local : Local) (told : Option Answer) (answer : Answer) → inside ≡ old → told ≡ Some answer → Notes inside (Submitted local) told new
    → Grows old (Submitted local) (Some answer) new
submitted_by old inside new local told answer is heard notes =
    subst (λ (j : JournalState). Grows j (Submitted local) (Some answer) new) is
    (subst (λ (t : Option Answer). Grows inside (Submitted local) t new) heard (grows_by inside new (Submitted local) told notes))

pub history_by : (old inside : JournalState) → inside ≡ old → IsPast inside.base inside.entries inside.latest → (past : List Entry) × (answers : List Answer) × HasHistory old past answers
history_by old inside is past = subst (λ (j : JournalState). (past : List Entry) × (answers : List Answer) × HasHistory j past answers) is (history_of inside past)

-- nothing is dropped by a checkpoint, but all stands before the journal then
pub history_checked : (old new : JournalState) → new ≡ record { base = old.latest; entries = []; latest = old.latest } → (past : List Entry) (answers : List Answer)
    → HasHistory old past answers → HasHistory new past answers
history_checked old new is past answers h =
    subst (λ (j : JournalState). HasHistory j past answers) (sym is)
    record {
      dropped = past;
      told = answers;
      before = history_leads old past answers h;
      since = [];
      after = (refl, refl);
      calls = sym (append-nil past);
      heard_all = sym (append-nil answers);
    }

pub checked_by : (old inside new : JournalState) (result : Result Unit Fault) → inside ≡ old → OnOk result (new ≡ record { base = inside.latest; entries = []; latest = inside.latest })
    → OnOk result ((past : List Entry) (answers : List Answer) → HasHistory old past answers → HasHistory new past answers)
checked_by old inside new (Ok done) is same =
    λ past answers h. history_checked inside new same past answers (subst (λ (j : JournalState). HasHistory j past answers) (sym is) h)
checked_by old inside new (Err fault) is same = tt
