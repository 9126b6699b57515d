-- The questions and answers of a trace.
use Rattle.std.proofs.Common.{◌≡◌, ◌∙◌, ℕ, suc, ◌+◌, ◌<◌, ◌≤◌, List, [], ◌∷◌, ◌++◌, length, drop, get_or, Option, refl, sym, ap, append_assoc, arith}
use Rattle.std.specs.Prelude.{if◌then◌else◌}
use Rattle.std.proofs.lemmas.List.{append-nil, drop_all, drop_more, length-append}
use Rattle.cb_hall.specs.declared.answer.Answer.{Answer}
use Rattle.cb_hall.specs.declared.question.Question.{Question}
use Rattle.cb_peer_state.specs.declared.event.Event.{Event}
use Rattle.cb_peer_state.specs.declared.event.Event.TheVariants as events
use Rattle.cb_peer_state.specs.Event.{is_told, kind_of}
use Rattle.cb_peer_state.specs.Questions.{pending_question}
use Rattle.cb_trace.specs.declared.trace.TraceEntry.{TraceEntry}
use Rattle.cb_trace.specs.Fold.{Account, account_step}
use Rattle.cb_trace.specs.Trace.{asked_at, asked_from}
use Rattle.cb_audit.specs.Turns.{Turn, answer_in, answers_in, paired}

pub paired_none : (questions : List (Option Question)) → paired questions [] ≡ []
paired_none [] = refl
paired_none (question ∷ questions) = refl

-- ---- as many questions as answers

one_each : (question : Option Question) (event : Event) → length (if is_told (kind_of event) then question ∷ [] else []) ≡ length (answer_in event)
one_each question (events.Said item) = refl
one_each question (events.Broken fault) = refl
one_each question events.Tick = refl
one_each question events.Probe = refl
one_each question (events.Told answer) = refl
one_each question events.ReaderEnd = refl
one_each question events.NoMemory = refl
one_each question events.HallFull = refl
one_each question events.WriteFault = refl

pub as_many : (account : Account) (entries : List TraceEntry) → length (asked_from account entries) ≡ length (answers_in entries)
as_many account [] = refl
as_many account (entry ∷ entries) =
    let one = one_each (pending_question account.session) entry.event in
    let others = as_many (account_step account entry) entries in
    length-append (asked_at account entry) (asked_from (account_step account entry) entries)
    ∙ ap (λ (n : ℕ). n + length (asked_from (account_step account entry) entries)) one
    ∙ ap (λ (n : ℕ). length (answer_in entry.event) + n) others
    ∙ sym (length-append (answer_in entry.event) (answers_in entries))

pub paired_length : (questions : List (Option Question)) (answers : List Answer) → length questions ≡ length answers → length (paired questions answers) ≡ length answers
paired_length [] [] same = refl
paired_length [] (answer ∷ answers) same = absurd (omega (arith, same))
paired_length (question ∷ questions) [] same = refl
paired_length (question ∷ questions) (answer ∷ answers) same = ap suc (paired_length questions answers (omega (arith, same)))

-- ---- one entry more

-- What was paired, and what is still to be, are all.
abbrev pub IsPaired : List Turn → List (Option Question) → List TraceEntry → List Turn → Type 0
IsPaired turns questions left all = turns ++ paired questions (answers_in left) ≡ all

pub paired_first : (questions : List (Option Question)) (entries : List TraceEntry) (turns : List Turn) (left : List TraceEntry) → turns ≡ [] → left ≡ entries
    → IsPaired turns questions left (paired questions (answers_in entries))
paired_first questions entries turns left none is =
    ap (λ (l : List Turn). l ++ paired questions (answers_in left)) none ∙ ap (λ (l : List TraceEntry). paired questions (answers_in l)) is

left_of : (entries : List TraceEntry) (i : ℕ) (entry : TraceEntry) → i < length entries → entry ≡ get_or entries i entry → answers_in (drop i entries) ≡ answer_in entry.event ++ answers_in (drop (i + 1) entries)
left_of entries i entry low is = ap answers_in (drop_more entries i entry low ∙ ap (λ (e : TraceEntry). e ∷ drop (i + 1) entries) (sym is))

pub paired_other : (turns all : List Turn) (questions : List (Option Question)) (entries : List TraceEntry) (i : ℕ) (entry : TraceEntry) → i < length entries → entry ≡ get_or entries i entry → answer_in entry.event ≡ []
    → IsPaired turns questions (drop i entries) all → IsPaired turns questions (drop (i + 1) entries) all
paired_other turns all questions entries i entry low is other paired_all =
    ap (λ (l : List Answer). turns ++ paired questions l) (sym (left_of entries i entry low is ∙ ap (λ (l : List Answer). l ++ answers_in (drop (i + 1) entries)) other)) ∙ paired_all

-- it isn't an answer
no_answer : (event : Event) → ((answer : Answer) → event ≡ events.Told answer → ⊥) → answer_in event ≡ []
no_answer (events.Said item) not = refl
no_answer (events.Broken fault) not = refl
no_answer events.Tick not = refl
no_answer events.Probe not = refl
no_answer (events.Told answer) not = absurd (not answer refl)
no_answer events.ReaderEnd not = refl
no_answer events.NoMemory not = refl
no_answer events.HallFull not = refl
no_answer events.WriteFault not = refl

pub paired_passed : (turns all : List Turn) (questions : List (Option Question)) (entries : List TraceEntry) (i : ℕ) (entry : TraceEntry) → i < length entries → entry ≡ get_or entries i entry
    → ((answer : Answer) → entry.event ≡ events.Told answer → ⊥) → IsPaired turns questions (drop i entries) all → IsPaired turns questions (drop (i + 1) entries) all
paired_passed turns all questions entries i entry low is not paired_all = paired_other turns all questions entries i entry low is (no_answer entry.event not) paired_all

pub paired_more : (turns all : List Turn) (questions : List (Option Question)) (question : Option Question) (answer : Answer) (entries : List TraceEntry) (i : ℕ) (entry : TraceEntry) → i < length entries → entry ≡ get_or entries i entry
    → entry.event ≡ events.Told answer
    → IsPaired turns (question ∷ questions) (drop i entries) all → IsPaired (turns ++ record { question = question; answer = answer } ∷ []) questions (drop (i + 1) entries) all
paired_more turns all questions question answer entries i entry low is told paired_all =
    append_assoc turns (record { question = question; answer = answer } ∷ []) (paired questions (answers_in (drop (i + 1) entries)))
    ∙ ap (λ (l : List Answer). turns ++ paired (question ∷ questions) l)
    (sym (left_of entries i entry low is ∙ ap (λ (e : Event). answer_in e ++ answers_in (drop (i + 1) entries)) told))
    ∙ paired_all

-- no question is left
pub paired_stays : (turns all : List Turn) (entries : List TraceEntry) (i : ℕ) → IsPaired turns [] (drop i entries) all → IsPaired turns [] (drop (i + 1) entries) all
paired_stays turns all entries i paired_all = paired_all

pub paired_short : (turns all : List Turn) (questions : List (Option Question)) (left : List TraceEntry) → questions ≡ [] → IsPaired turns questions left all → turns ≡ all
paired_short turns all questions left none paired_all =
    sym (append-nil turns) ∙ ap (λ (l : List (Option Question)). turns ++ paired l (answers_in left)) (sym none) ∙ paired_all

pub paired_end : (turns all : List Turn) (questions : List (Option Question)) (entries : List TraceEntry) (i : ℕ) → IsPaired turns questions (drop i entries) all → length entries ≤ i → turns ≡ all
paired_end turns all questions entries i paired_all past =
    sym (ap (λ (l : List TraceEntry). turns ++ paired questions (answers_in l)) (drop_all i entries past) ∙ ap (λ (l : List Turn). turns ++ l) (paired_none questions) ∙ append-nil turns) ∙ paired_all
