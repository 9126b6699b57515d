-- Calls that are played one after another, from the beginning.
use Rattle.std.proofs.Common.{◌≡◌, ◌∙◌, ◌<◌, ◌≤◌, ◌^◌, ℕ, ◌+◌, List, [], ◌∷◌, ◌++◌, length, drop, get_or, Option, refl, sym, ap, subst, append_assoc, arith}
use Rattle.std.proofs.lemmas.List.{append-nil, drop_all, drop_more}
use Rattle.cb_hall.specs.declared.answer.Answer.{Answer}
use Rattle.cb_hall.specs.declared.entry.Entry.{Entry}
use Rattle.cb_hall.specs.Connections.{Slots, first_slots}
use Rattle.cb_hall.specs.Journal.{JournalState, Notes, new_journal}
use Rattle.cb_hall.specs.Replica.{AreFit, IsFit, ReplicaState, heard}
use Rattle.cb_hall.proofs.Once.{one_step}
use Rattle.cb_hall.specs.Hall.{HasHistory, NotesAll}
use Rattle.cb_hall.proofs.Growing.{grows_by, no_history}

-- All calls but those that are left were played, and those can still come.
pub record IsPlayed (hall : JournalState) (calls left : List Entry) : Type 0 where
  pub played : List Entry
  pub answers : List Answer
  pub history : HasHistory hall played answers
  pub parts : calls ≡ played ++ left
  pub fit : AreFit hall.latest.connections left
  pub count : hall.latest.entries + length left ≡ length calls
  -- whatever the rest leads to, all calls lead to from the beginning
  pub rest : (end : JournalState) → NotesAll hall left end → NotesAll new_journal calls end

pub played_none : (hall : JournalState) (calls left : List Entry) → hall ≡ new_journal → left ≡ calls → AreFit first_slots calls → IsPlayed hall calls left
played_none hall calls left is same fit =
    subst (λ (es : List Entry). IsPlayed hall calls es) (sym same)
    (subst (λ (j : JournalState). IsPlayed j calls calls) (sym is) record { played = []; answers = []; history = no_history; parts = refl; fit = fit; count = (let none : 0 + length calls ≡ length calls = omega arith in none); rest = λ end h. h })

played_next : (old new : JournalState) (calls left : List Entry) (call copy : Entry) (told : Option Answer) → IsPlayed old calls (call ∷ left) → copy ≡ call → Notes old copy told new → IsPlayed new calls left
played_next old new calls left call copy told is same notes =
    let one = subst (λ (e : Entry). Notes old e told new) same notes in
    record {
      played = is.played ++ call ∷ [];
      answers = is.answers ++ heard call told;
      history = (grows_by old new call told one).history is.played is.answers is.history;
      parts = is.parts ∙ sym (append_assoc is.played (call ∷ []) left);
      fit = subst (λ (s : Slots). AreFit s left) (sym one.steps.does.1) is.fit.1;
      count = (let was = is.count in let more = one.steps.entries in omega (arith, was, more));
      rest = λ end h. is.rest end (told, new, one, h);
    }

-- ---- by the place in the list

played_at : (hall : JournalState) (calls items : List Entry) (k : ℕ) (none : Entry) → IsPlayed hall calls (drop k items) → k < length items
    → IsPlayed hall calls (get_or items k none ∷ drop (k + 1) items)
played_at hall calls items k none is low = subst (λ (left : List Entry). IsPlayed hall calls left) (drop_more items k none low) is

pub played_fit : (hall : JournalState) (calls items : List Entry) (k : ℕ) (none item copy : Entry) → IsPlayed hall calls (drop k items) → k < length items → item ≡ get_or items k none
    → copy ≡ item → IsFit hall.latest.connections copy
played_fit hall calls items k none item copy is low at same =
    subst (λ (e : Entry). IsFit hall.latest.connections e) (sym (same ∙ at)) (played_at hall calls items k none is low).fit.0

pub played_more : (old new : JournalState) (calls items : List Entry) (k : ℕ) (none item copy : Entry) (told : Option Answer) → IsPlayed old calls (drop k items) → k < length items
    → item ≡ get_or items k none → copy ≡ item → Notes old copy told new → IsPlayed new calls (drop (k + 1) items)
played_more old new calls items k none item copy told is low at same notes =
    played_next old new calls (drop (k + 1) items) (get_or items k none) copy told (played_at old calls items k none is low) (same ∙ at) notes

pub played_all : (hall : JournalState) (calls items : List Entry) (k : ℕ) → IsPlayed hall calls (drop k items) → length items ≤ k → (answers : List Answer) × HasHistory hall calls answers
played_all hall calls items k is past =
    let none : drop k items ≡ [] = drop_all k items past in
    let all : calls ≡ is.played = is.parts ∙ ap (λ (es : List Entry). is.played ++ es) none ∙ append-nil is.played in
    (is.answers, subst (λ (es : List Entry). HasHistory hall es is.answers) (sym all) is.history)

-- as many were noted as aren't left
pub played_few : (hall : JournalState) (calls items : List Entry) (k : ℕ) (none : Entry) → IsPlayed hall calls (drop k items) → k < length items → length calls ≤ 2 ^ 62 → hall.latest.entries < 2 ^ 62
played_few hall calls items k none is low few = let count = (played_at hall calls items k none is low).count in omega (arith, count, few)

pub played_notes : (hall : JournalState) (calls items : List Entry) (k : ℕ) → IsPlayed hall calls (drop k items) → length items ≤ k → NotesAll new_journal calls hall
played_notes hall calls items k is past =
    let none : drop k items ≡ [] = drop_all k items past in
    is.rest hall (subst (λ (left : List Entry). NotesAll hall left hall) (sym none) refl)

-- ---- calls that are noted lead to one journal

noted_once : (old new other : JournalState) (entry : Entry) (told again : Option Answer) → Notes old entry told new → Notes old entry again other → new ≡ other
noted_once old new other entry told again one two =
    let latest = (one_step old.latest new.latest other.latest entry told again one.steps two.steps).1 in
    ap (λ (b : ReplicaState). record { base = b; entries = new.entries; latest = new.latest }) (one.base ∙ sym two.base)
    ∙ ap (λ (es : List Entry). record { base = other.base; entries = es; latest = new.latest }) (one.entries ∙ sym two.entries)
    ∙ ap (λ (s : ReplicaState). record { base = other.base; entries = other.entries; latest = s }) latest

pub all_noted_once : (old new other : JournalState) (calls : List Entry) → NotesAll old calls new → NotesAll old calls other → new ≡ other
all_noted_once old new other [] one two = one ∙ sym two
all_noted_once old new other (call ∷ calls) (told, next, first, rest) (again, after, second, others) =
    all_noted_once after new other calls (subst (λ (j : JournalState). NotesAll j calls new) (noted_once old next after call told again first second) rest) others
