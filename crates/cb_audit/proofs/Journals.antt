-- The journal's entries, one behind another, and what is seen of each connection.
use Rattle.std.proofs.Common.{◌≡◌, ◌∙◌, ℕ, ◌+◌, ◌<◌, ◌≤◌, Bool, true, false, cond, List, [], ◌∷◌, ◌++◌, length, drop, get_or, Option, Some, None, refl, sym, ap, subst, append_assoc, arith}
use Rattle.std.proofs.lemmas.List.{append-nil, drop_all, drop_more, length-append}
use Rattle.cb_state.specs.declared.connection.Connection.{Connection}
use Rattle.cb_state.specs.Announcers.{same_connection}
use Rattle.cb_hall.specs.declared.answer.Answer.{Answer}
use Rattle.cb_hall.specs.declared.question.Question.{Question}
use Rattle.cb_hall.specs.declared.entry.Entry.{Entry}
use Rattle.cb_hall.specs.declared.entry.Entry.TheVariants.{Asked, Kick, Opened, Submitted}
use Rattle.cb_hall.specs.Connections.{AreCounted, Slots}
use Rattle.cb_hall.specs.Journal.{IsPast, JournalState}
use Rattle.cb_hall.specs.Replica.{IsFit, Leads, ReplicaState, Steps, heard}
use Rattle.cb_hall.proofs.Leading.{leads_length, leads_one, leads_then, step_fit}
use Rattle.cb_hall.proofs.Once.{one_step}
use Rattle.cb_audit.specs.declared.heard.Difference.{Difference}
use Rattle.cb_audit.specs.declared.heard.Heard.{Heard}
use Rattle.cb_audit.specs.declared.place.Place.{Place}
use Rattle.cb_audit.specs.Audit.{Answered}
use Rattle.cb_audit.specs.Comparing.{AreFew, Seen}
use Rattle.cb_audit.specs.Counting.{granted, told_by}
use Rattle.cb_audit.specs.Heard.{Compares, IsHeard, IsPartway, IsSplit, seen_more, seen_of}
use Rattle.cb_audit.specs.Order.{AuditedTrace, trace_of}
use Rattle.cb_audit.specs.Turns.{Turn, turn_of, turns_of}
use Rattle.cb_audit.proofs.Accounts.{heard_like}
use Rattle.cb_audit.proofs.Numbers.{granted_few}

-- ---- turns of one entry more

turns_asked : (c d : Connection) (q : Question) (done next : List Entry) (said : Option Answer) (others more : List Answer) (answer : Answer) → said ≡ Some answer
    → turns_of c (done ++ next) (others ++ more) ≡ turns_of c done others ++ turns_of c next more
    → turns_of c ((Asked d q ∷ done) ++ next) ((heard (Asked d q) said ++ others) ++ more) ≡ turns_of c (Asked d q ∷ done) (heard (Asked d q) said ++ others) ++ turns_of c next more
turns_asked c d q done next said others more answer is same =
    subst
    (λ (t : Option Answer).
    turns_of c ((Asked d q ∷ done) ++ next) ((heard (Asked d q) t ++ others) ++ more) ≡ turns_of c (Asked d q ∷ done) (heard (Asked d q) t ++ others) ++ turns_of c next more)
    (sym is)
    (ap (λ (l : List Turn). turn_of c d q answer ++ l) same ∙ sym (append_assoc (turn_of c d q answer) (turns_of c done others) (turns_of c next more)))

-- the turns of entries behind others
pub turns_more : (c : Connection) (old new : ReplicaState) (done next : List Entry) (told more : List Answer) → Leads old done told new → turns_of c (done ++ next) (told ++ more) ≡ turns_of c done told ++ turns_of c next more
turns_more c old new [] next told more h = ap (λ (l : List Answer). turns_of c next (l ++ more)) h.0
turns_more c old new (Asked d q ∷ done) next told more (said, mid, others, step, all, rest) =
    subst (λ (l : List Answer). turns_of c ((Asked d q ∷ done) ++ next) (l ++ more) ≡ turns_of c (Asked d q ∷ done) l ++ turns_of c next more) (sym all)
    (turns_asked c d q done next said others more step.does.0.0 step.does.0.1 (turns_more c mid new done next others more rest))
turns_more c old new (Kick d ∷ done) next told more (said, mid, others, step, all, rest) =
    subst (λ (l : List Answer). turns_of c (done ++ next) (l ++ more) ≡ turns_of c done l ++ turns_of c next more) (sym all) (turns_more c mid new done next others more rest)
turns_more c old new (Opened d ∷ done) next told more (said, mid, others, step, all, rest) =
    subst (λ (l : List Answer). turns_of c (done ++ next) (l ++ more) ≡ turns_of c done l ++ turns_of c next more) (sym all) (turns_more c mid new done next others more rest)
turns_more c old new (Submitted d ∷ done) next told more (said, mid, others, step, all, rest) =
    subst (λ (l : List Answer). turns_of c (done ++ next) (l ++ more) ≡ turns_of c done l ++ turns_of c next more) (sym all) (turns_more c mid new done next others more rest)

-- there are no more turns than entries
length_turn : (c d : Connection) (q : Question) (answer : Answer) (b : Bool) → length (cond {A = List Turn} b (record { question = Some q; answer = answer } ∷ []) []) ≤ 1
length_turn c d q answer true = omega arith
length_turn c d q answer false = omega arith

pub turns_few : (c : Connection) (entries : List Entry) (answers : List Answer) → length (turns_of c entries answers) ≤ length entries
turns_few c [] answers = omega arith
turns_few c (Asked d q ∷ entries) [] = omega arith
turns_few c (Asked d q ∷ entries) (answer ∷ answers) =
    let one = length_turn c d q answer (same_connection d c) in
    let rest = turns_few c entries answers in
    let sum = length-append (turn_of c d q answer) (turns_of c entries answers) in
    omega (arith, one, rest, sum)
turns_few c (Kick d ∷ entries) answers = let rest = turns_few c entries answers in omega (arith, rest)
turns_few c (Opened d ∷ entries) answers = let rest = turns_few c entries answers in omega (arith, rest)
turns_few c (Submitted d ∷ entries) answers = let rest = turns_few c entries answers in omega (arith, rest)

-- ---- one entry more

one_turn : (xs : List Turn) (t : Turn) (b : Bool) → xs ++ (cond b (t ∷ []) [] ++ []) ≡ cond b (xs ++ t ∷ []) xs
one_turn xs t true = refl
one_turn xs t false = append-nil xs

seen_asked : (old new : ReplicaState) (done : List Entry) (told : List Answer) (c : Connection) (q : Question) (answer : Answer) → Leads old done told new → (other : Connection)
    → seen_more (seen_of done told) c (record { question = Some q; answer = answer }) other ≡ seen_of (done ++ Asked c q ∷ []) (told ++ answer ∷ []) other
seen_asked old new done told c q answer leads other =
    sym (turns_more other old new done (Asked c q ∷ []) told (answer ∷ []) leads
    ∙ one_turn (turns_of other done told) (record { question = Some q; answer = answer }) (same_connection c other))

seen_other : (old new : ReplicaState) (done : List Entry) (told more : List Answer) (entry : Entry) → Leads old done told new → ((c : Connection) → turns_of c (entry ∷ []) more ≡ []) → (other : Connection)
    → seen_of done told other ≡ seen_of (done ++ entry ∷ []) (told ++ more) other
seen_other old new done told more entry leads none other =
    sym (turns_more other old new done (entry ∷ []) told more leads ∙ ap (λ (l : List Turn). turns_of other done told ++ l) (none other) ∙ append-nil (turns_of other done told))

pub compares_asked : (kept : Slots) (audited : List AuditedTrace) (old new : ReplicaState) (c : Connection) (q : Question) (answer : Answer) (before after : Heard) → Steps old (Asked c q) (Some answer) new
    → ((seen : Seen) → IsHeard kept audited seen before.places.items before.stranger
    → IsHeard kept audited (seen_more seen c (record { question = Some q; answer = answer })) after.places.items after.stranger)
    → Compares kept audited old (Asked c q) new before after
compares_asked kept audited old new c q answer before after steps more =
    record {
      said = Some answer;
      steps = steps;
      more = λ base done told leads h.
          heard_like kept audited (seen_more (seen_of done told) c (record { question = Some q; answer = answer })) (seen_of (done ++ Asked c q ∷ []) (told ++ answer ∷ [])) after.places.items after.stranger
          (seen_asked base old done told c q answer leads) (more (seen_of done told) h);
    }

compares_same : (kept : Slots) (audited : List AuditedTrace) (old new : ReplicaState) (entry : Entry) (said : Option Answer) (before after : Heard) → Steps old entry said new
    → ((c : Connection) → turns_of c (entry ∷ []) (heard entry said) ≡ []) → after ≡ before → Compares kept audited old entry new before after
compares_same kept audited old new entry said before after steps none same =
    record {
      said = said;
      steps = steps;
      more = λ base done told leads h.
          subst (λ (x : Heard). IsHeard kept audited (seen_of (done ++ entry ∷ []) (told ++ heard entry said)) x.places.items x.stranger) (sym same)
          (heard_like kept audited (seen_of done told) (seen_of (done ++ entry ∷ []) (told ++ heard entry said)) before.places.items before.stranger
          (seen_other base old done told (heard entry said) entry leads none) h);
    }

-- a question always has an answer
pub asked_answered : (old new : ReplicaState) (c : Connection) (q : Question) → Steps old (Asked c q) None new → ⊥
asked_answered old new c q step = (let never : None ≡ Some step.does.0.0 = step.does.0.1 in absurd (cc))

pub compares_other : (kept : Slots) (audited : List AuditedTrace) (old new : ReplicaState) (entry : Entry) (said : Option Answer) (before after : Heard) → Steps old entry said new
    → ((c : Connection) (q : Question) → entry ≡ Asked c q → ⊥) → after ≡ before → Compares kept audited old entry new before after
compares_other kept audited old new (Asked c q) said before after steps not same = absurd (not c q refl)
compares_other kept audited old new (Kick c) said before after steps not same = compares_same kept audited old new (Kick c) said before after steps (λ _. refl) same
compares_other kept audited old new (Opened c) said before after steps not same = compares_same kept audited old new (Opened c) said before after steps (λ _. refl) same
compares_other kept audited old new (Submitted l) said before after steps not same = compares_same kept audited old new (Submitted l) said before after steps (λ _. refl) same

-- by what the code matched
pub compares_heard : (kept : Slots) (audited : List AuditedTrace) (old new : ReplicaState) (entry : Entry) (c : Connection) (q : Question) (said : Option Answer) (answer : Answer) (before after : Heard) → Steps old entry said new
    → entry ≡ Asked c q → said ≡ Some answer
    → ((seen : Seen) → IsHeard kept audited seen before.places.items before.stranger
    → IsHeard kept audited (seen_more seen c (record { question = Some q; answer = answer })) after.places.items after.stranger)
    → Compares kept audited old entry new before after
compares_heard kept audited old new entry c q said answer before after steps is told more =
    subst (λ (e : Entry). Compares kept audited old e new before after) (sym is)
    (compares_asked kept audited old new c q answer before after
    (subst (λ (e : Entry). Steps old e (Some answer) new) is (subst (λ (t : Option Answer). Steps old entry t new) told steps)) more)

-- ---- the journal

-- so far, with what is still to come
pub record IsSoFar (kept : Slots) (audited : List AuditedTrace) (base : ReplicaState) (all left : List Entry) (here end : ReplicaState) (places : List Place) (stranger : Option Connection) : Type 0 where
  pub done : List Entry
  pub told : List Answer
  pub parts : done ++ left ≡ all
  pub way : IsPartway base done told here left end
  pub was_heard : IsHeard kept audited (seen_of done told) places stranger

pub so_far_first : (kept : Slots) (audited : List AuditedTrace) (base here end : ReplicaState) (all left : List Entry) (places : List Place) (stranger : Option Connection) → IsPast base all end → left ≡ all → here ≡ base
    → IsHeard kept audited (λ _. []) places stranger → IsSoFar kept audited base all left here end places stranger
so_far_first kept audited base here end all left places stranger past e f heard =
    record {
      done = [];
      told = [];
      parts = e;
      way =
          record {
            before = (refl, f);
            others = past.answers;
            after = subst (λ (s : ReplicaState). Leads s left past.answers end) (sym f) (subst (λ (es : List Entry). Leads base es past.answers end) (sym e) past.since);
          };
      was_heard = heard;
    }

so_far_entry : (kept : Slots) (audited : List AuditedTrace) (base here end : ReplicaState) (all items : List Entry) (k : ℕ) (entry : Entry) (places : List Place) (stranger : Option Connection)
    → IsSoFar kept audited base all (drop k items) here end places stranger → k < length items → entry ≡ get_or items k entry
    → IsSoFar kept audited base all (entry ∷ drop (k + 1) items) here end places stranger
so_far_entry kept audited base here end all items k entry places stranger so_far low is =
    subst (λ (left : List Entry). IsSoFar kept audited base all left here end places stranger) (drop_more items k entry low ∙ ap (λ (e : Entry). e ∷ drop (k + 1) items) (sym is)) so_far

pub so_far_fit : (kept : Slots) (audited : List AuditedTrace) (base here end : ReplicaState) (all items : List Entry) (k : ℕ) (entry : Entry) (places : List Place) (stranger : Option Connection)
    → IsSoFar kept audited base all (drop k items) here end places stranger → k < length items → entry ≡ get_or items k entry → IsFit here.connections entry
so_far_fit kept audited base here end all items k entry places stranger so_far low is =
    let r = (so_far_entry kept audited base here end all items k entry places stranger so_far low is).way.after in step_fit here r.1 entry r.0 r.3

pub so_far_few : (kept : Slots) (audited : List AuditedTrace) (base here end : ReplicaState) (all items : List Entry) (k : ℕ) (entry : Entry) (places : List Place) (stranger : Option Connection)
    → IsSoFar kept audited base all (drop k items) here end places stranger → k < length items → entry ≡ get_or items k entry → end.entries ≤ 4611686018427387904 → here.entries < 4611686018427387904
so_far_few kept audited base here end all items k entry places stranger so_far low is few =
    let w = (so_far_entry kept audited base here end all items k entry places stranger so_far low is).way in
    let long = leads_length here end (entry ∷ drop (k + 1) items) w.others w.after in omega (arith, long, few)

so_far_step : (kept : Slots) (audited : List AuditedTrace) (base here next end : ReplicaState) (all left : List Entry) (entry : Entry) (before after : Heard)
    → IsSoFar kept audited base all (entry ∷ left) here end before.places.items before.stranger → Compares kept audited here entry next before after
    → IsSoFar kept audited base all left next end after.places.items after.stranger
so_far_step kept audited base here next end all left entry before after so_far one =
    let r = so_far.way.after in
    let same = one_step here next r.1 entry one.said r.0 one.steps r.3 in
    record {
      done = so_far.done ++ entry ∷ [];
      told = so_far.told ++ heard entry one.said;
      parts = append_assoc so_far.done (entry ∷ []) left ∙ so_far.parts;
      way =
          record {
            before = leads_then base here next so_far.done (entry ∷ []) so_far.told (heard entry one.said) so_far.way.before (leads_one here next entry one.said one.steps);
            others = r.2;
            after = subst (λ (s : ReplicaState). Leads s left r.2 end) (sym same.1) r.5;
          };
      was_heard = one.more base so_far.done so_far.told so_far.way.before so_far.was_heard;
    }

pub so_far_next : (kept : Slots) (audited : List AuditedTrace) (base here next end : ReplicaState) (all items : List Entry) (k : ℕ) (entry : Entry) (before after : Heard)
    → IsSoFar kept audited base all (drop k items) here end before.places.items before.stranger → k < length items → entry ≡ get_or items k entry → Compares kept audited here entry next before after
    → IsSoFar kept audited base all (drop (k + 1) items) next end after.places.items after.stranger
so_far_next kept audited base here next end all items k entry before after so_far low is one =
    so_far_step kept audited base here next end all (drop (k + 1) items) entry before after (so_far_entry kept audited base here end all items k entry before.places.items before.stranger so_far low is) one

-- all was heard
pub record IsDone (kept : Slots) (audited : List AuditedTrace) (base : ReplicaState) (all : List Entry) (end : ReplicaState) (places : List Place) (stranger : Option Connection) : Type 0 where
  pub told : List Answer
  pub leads : Leads base all told end
  pub was_heard : IsHeard kept audited (seen_of all told) places stranger

done_all : (kept : Slots) (audited : List AuditedTrace) (base here end : ReplicaState) (all : List Entry) (places : List Place) (stranger : Option Connection)
    → IsSoFar kept audited base all [] here end places stranger → IsDone kept audited base all end places stranger
done_all kept audited base here end all places stranger so_far =
    let same : so_far.done ≡ all = sym (append-nil so_far.done) ∙ so_far.parts in
    let last : here ≡ end = sym so_far.way.after.1 in
    record {
      told = so_far.told;
      leads = subst (λ (s : ReplicaState). Leads base all so_far.told s) last (subst (λ (es : List Entry). Leads base es so_far.told here) same so_far.way.before);
      was_heard = subst (λ (es : List Entry). IsHeard kept audited (seen_of es so_far.told) places stranger) same so_far.was_heard;
    }

pub so_far_end : (kept : Slots) (audited : List AuditedTrace) (base here end : ReplicaState) (all items : List Entry) (k : ℕ) (places : List Place) (stranger : Option Connection)
    → IsSoFar kept audited base all (drop k items) here end places stranger → length items ≤ k → IsDone kept audited base all end places stranger
so_far_end kept audited base here end all items k places stranger so_far past =
    done_all kept audited base here end all places stranger (subst (λ (left : List Entry). IsSoFar kept audited base all left here end places stranger) (drop_all k items past) so_far)

-- ---- at the end

-- no place is too large for its field
few_seen : (kept : Slots) (audited : List AuditedTrace) (entries : List Entry) (told : List Answer) → ((c : Connection) → granted kept c ≤ 4611686018427387904) → ((c : Connection) → told_by (trace_of audited c) ≤ 4611686018427387904)
    → length entries ≤ 1000000 → AreFew kept audited (seen_of entries told)
few_seen kept audited entries told granted_few told_few few =
    record {
      granted_few = granted_few;
      told_few = told_few;
      seen_few = λ c. (let own = turns_few c entries told in omega (arith, own, few));
    }

-- the answers are those of the journal, and what was found is the first difference
pub answered : (journal : JournalState) (audited : List AuditedTrace) (places : List Place) (stranger : Option Connection) (most : ℕ) (found : Option Difference)
    → IsDone journal.base.connections audited journal.base journal.entries journal.latest places stranger → AreCounted most journal.base.connections → most ≤ 4611686018427387904
    → ((c : Connection) → told_by (trace_of audited c) ≤ 4611686018427387904) → length journal.entries ≤ 1000000
    → ((seen : Seen) → AreFew journal.base.connections audited seen → IsHeard journal.base.connections audited seen places stranger → IsSplit journal.base.connections audited seen found)
    → Answered journal (λ seen. IsSplit journal.base.connections audited seen found)
answered journal audited places stranger most found done are low told_few few split = (
  done.told,
  done.leads,
  split (seen_of journal.entries done.told)
      (few_seen journal.base.connections audited journal.entries done.told (granted_few journal.base.connections most are low) told_few few) done.was_heard,
)
