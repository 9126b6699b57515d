-- What follows where all that a reader queued was taken.
use Rattle.std.proofs.Common.{◌≡◌, ℕ, zero, suc, inl, inr, ◌≤◌, Bool, true, false, cond, List, [], ◌∷◌, ◌++◌, length, refl, sym, ap, subst, ◌∙◌, arith}
use Rattle.std.specs.List.{All, AllZip, Contains, slice_split, onto_first, flat_map}
use Rattle.std.proofs.lemmas.Bool.{false≢true, cases_lt, lt-ltb, le-ltb}
use Rattle.std.proofs.lemmas.List.{append-nil, append_assoc, length-append, nil_from_length}
use Rattle.std.proofs.lemmas.List.Elements.{All-push}
use Rattle.cb_crew.specs.Laws.{IsBeginning, OpensFollowEnds}
use Rattle.cb_crew.proofs.LineLaws.{follows, taken_begins}
use Rattle.cb_crew.specs.declared.queued.Queued.{Queued}
use Rattle.cb_crew.specs.declared.queued.Queued.TheVariants as queued
use Rattle.cb_crew.specs.Queued.{is_end, is_open, has_ended}
use Rattle.cb_crew.specs.Rule.{IsOfALine, longer}
use Rattle.cb_crew.specs.declared.work.Given.{Given}
use Rattle.cb_crew.specs.declared.work.Given.TheVariants as given
use Rattle.cb_crew.specs.Work.{AreWorksOf, WorksOn, given_by, connections_of}
use Rattle.cb_crew.specs.Seat.{SeatState, IsFullBy, told_of_taken}
use Rattle.cb_crew.specs.Desk.{DeskState, first_label, HasServedAll, IsDesk, desk_note, desk_told}
use Rattle.cb_crew.specs.Headline.{NothingAfterEnd, InOrder, IsSettled, works_of}
use Rattle.cb_crew.proofs.Works.{split_some}

-- ---- all was taken

begins_length : {Q : Type 0} (front whole : List Q) → IsBeginning front whole → length front ≤ length whole
begins_length front whole b = omega (arith, ap length b.1, length-append front b.0)

begins_same : {Q : Type 0} (front whole : List Q) → IsBeginning front whole → length whole ≤ length front → front ≡ whole
begins_same front whole b le = sym (b.1 ∙ (ap (λ rest. front ++ rest) (nil_from_length b.0 (omega (arith, le, ap length b.1, length-append front b.0))) ∙ append-nil front))

begins_then : {Q : Type 0} (front mid whole : List Q) → IsBeginning front mid → IsBeginning mid whole → IsBeginning front whole
begins_then front mid whole a b = (a.0 ++ b.0, b.1 ∙ (ap (λ ms. ms ++ b.0) a.1 ∙ append_assoc front a.0 b.0))

pub told_length : {Q : Type 0} (known told : List Q) → length told ≤ length (longer known told)
told_length known told =
    elim (cases_lt (length told) (length known)) [
      | inl lt ↦ rw (lt-ltb (length told) (length known) lt) (omega (arith, lt))
      | inr le ↦ rw (le-ltb (length told) (length known) le) (omega arith)
    ]

-- what a reader's seat was told was taken is a beginning of what it queued
pub told_begins : {M O : Type 0} (queued taken : List (Queued M O)) → IsOfALine true false queued taken → IsBeginning taken queued
told_begins queued taken s = subst (IsBeginning taken) (sym (s.knows.all_queued refl)) (begins_then taken s.line.taken s.line.queued s.knows.taken_begins (taken_begins s.reached))

-- the marks that a reader queued follow one another as marks do
pub marks_follow : {M O : Type 0} (queued taken : List (Queued M O)) → IsOfALine true false queued taken → OpensFollowEnds is_end is_open false queued
marks_follow queued taken s = subst (OpensFollowEnds is_end is_open false) (sym (s.knows.all_queued refl)) (follows s.reached)

-- Of a desk all that it was told was queued was taken, and then the reader was told so: nothing that it queued is left.
pub all_taken : {M O : Type 0} (told queued known taken : List (Queued M O)) → IsBeginning (longer told queued) taken → IsOfALine true false queued (longer known taken) → taken ≡ queued
all_taken told queued known taken served seen =
    let many : length queued ≤ length taken = omega (arith, told_length told queued, begins_length (longer told queued) taken served) in
    let within : IsBeginning (longer known taken) queued = told_begins queued (longer known taken) seen in
    elim (cases_lt (length taken) (length known)) [
      | inl lt ↦ absurd (omega (arith, lt, many, begins_length (longer known taken) queued within, ap (λ (b : Bool). length (cond b known taken)) (lt-ltb (length taken) (length known) lt)))
      | inr le ↦ begins_same taken queued (subst (λ (b : Bool). IsBeginning (cond b known taken) queued) (le-ltb (length taken) (length known) le) within) many
    ]

-- ---- each connection ends once

abbrev AllOf : {A : Type 0} → (A → Type 0) → List A → Type 0
AllOf P [] = Unit {0}
AllOf P (x ∷ xs) = P x × AllOf P xs

abbrev Sound : {M O : Type 0} → Bool → List (Queued M O) → Type 0
Sound {M} behind marks = AllOf NothingAfterEnd (connections_of marks) × (behind ≡ true → (rest : List (List (Given M))) × (connections_of marks ≡ [] ∷ rest))

-- an item stands before all of the first connection, or the end before nothing
before_first : {M : Type 0} (g : Given M) (css : List (List (Given M))) → ((cs : List (Given M)) → NothingAfterEnd cs → NothingAfterEnd (g ∷ cs)) → AllOf NothingAfterEnd css → AllOf NothingAfterEnd (onto_first g css)
before_first g [] step all = (step [] tt, tt)
before_first g (cs ∷ css) step all = (step cs all.0, all.1)

first_given : {M O : Type 0} (mark : Queued M O) (g : Given M) (part : List (Queued M O)) (rest : List (List (Queued M O))) → given_by mark ≡ g ∷ [] → Rattle.std.specs.Prelude.map (flat_map given_by) (onto_first mark (part ∷ rest)) ≡ onto_first g (Rattle.std.specs.Prelude.map (flat_map given_by) (part ∷ rest))
first_given mark g part rest gives = rw gives refl

each_ends_once : {M O : Type 0} (behind : Bool) (marks : List (Queued M O)) → OpensFollowEnds is_end is_open behind marks → Sound behind marks
each_ends_once behind [] all = ((tt, tt), λ _. ([], refl))
each_ends_once behind (queued.Item item ∷ marks) all =
    let some = split_some is_open marks in
    let is : connections_of (queued.Item item ∷ marks) ≡ onto_first (given.Item item) (connections_of marks) = rw some.2 refl in
    (subst (AllOf NothingAfterEnd) (sym is) (before_first (given.Item item) (connections_of marks) (λ cs n. n) (each_ends_once false marks all.1).0), λ b. absurd (false≢true (all.0 ∙ b)))
each_ends_once behind (queued.End ∷ marks) all =
    let some = split_some is_open marks in
    let is : connections_of (queued.End ∷ marks) ≡ onto_first given.End (connections_of marks) = rw some.2 refl in
    let later = each_ends_once true marks all.1 in
    let first = later.1 refl in
    (subst (AllOf NothingAfterEnd) (sym (is ∙ ap (onto_first given.End) first.1)) (refl, (subst (AllOf NothingAfterEnd) first.1 later.0).1), λ b. absurd (false≢true (all.0 ∙ b)))
each_ends_once behind (queued.Open opening ∷ marks) all = ((tt, (each_ends_once false marks all.1).0), λ _. (connections_of marks, refl))

-- ---- the works of a desk

-- a beginning ends once, too
front_ends : {M : Type 0} (front rest : List (Given M)) → NothingAfterEnd (front ++ rest) → NothingAfterEnd front
front_ends [] rest n = tt
front_ends (given.Item item ∷ front) rest n = front_ends front rest n
front_ends (given.End ∷ []) rest n = refl
front_ends (given.End ∷ g ∷ front) rest n = absurd (no_more g (front ++ rest) n) where
  no_more : {M : Type 0} (g : Given M) (gs : List (Given M)) → g ∷ gs ≡ [] → ⊥
  no_more g gs is = omega (arith, ap length is)

abbrev ends : {M : Type 0} → Given M → Bool
ends (given.Item item) = false
ends given.End = true

-- with its end it is whole
front_whole : {M : Type 0} (front rest : List (Given M)) → NothingAfterEnd (front ++ rest) → Contains front given.End → front ≡ front ++ rest
front_whole [] rest n c = absurd (omega (arith, c.1))
front_whole (given.Item item ∷ front) rest n (zero, lt, is) = absurd (false≢true (ap ends is))
front_whole (given.Item item ∷ front) rest n (suc k, lt, is) = ap (λ gs. given.Item item ∷ gs) (front_whole front rest n (k, omega (arith, lt), is))
front_whole (given.End ∷ front) rest n c = ap (λ gs. given.End ∷ gs) (nil_from_length front (omega (arith, ap length n, length-append front rest)) ∙ sym n)

module _ {W M : Type 0} (label : W → ℕ) (was_given : W → List (Given M) → Type 0) (is_closed : W → Bool) where
  in_order : (work : W) (connection : List (Given M)) → NothingAfterEnd connection → WorksOn was_given is_closed work connection → InOrder was_given work connection
  in_order work connection once w = record {
    items = w.items;
    are_given = w.are_given;
    begin = w.begin;
    none_after = front_ends w.items w.begin.0 (subst NothingAfterEnd w.begin.1 once);
    whole = λ c. front_whole w.items w.begin.0 (subst NothingAfterEnd w.begin.1 once) c ∙ sym w.begin.1;
  }

  all_in_order : (works : List W) (css : List (List (Given M))) → AllOf NothingAfterEnd css → AllZip (WorksOn was_given is_closed) works css → AllZip (InOrder was_given) works css
  all_in_order [] [] once all = tt
  all_in_order [] (cs ∷ css) once all = absurd all
  all_in_order (work ∷ works) [] once all = absurd all
  all_in_order (work ∷ works) (cs ∷ css) once all = (in_order work cs once.0 all.0, all_in_order works css once.1 all.1)

  -- a desk is settled where all was taken that its reader queued, whose last mark is an end mark
  pub settled : (queued told known : List (Queued M W)) (desk : DeskState W M) → has_ended queued ≡ true → IsBeginning (longer told queued) desk.taken → IsOfALine true false queued (longer known desk.taken) → IsDesk label was_given is_closed desk → IsSettled label was_given is_closed queued desk
  settled queued told known desk ended served seen d =
      let all : desk.taken ≡ queued = all_taken told queued known desk.taken served seen in
      let once = (each_ends_once false queued (marks_follow queued (longer known desk.taken) seen)).0 in
      record {
        taken = all;
        served = record {
          whose = subst (λ ms. AreWorksOf label (first_label label desk) ms (works_of desk)) all d.whose;
          each = all_in_order (works_of desk) (connections_of queued) once (subst (λ ms. AllZip (WorksOn was_given is_closed) (works_of desk) (connections_of ms)) all d.works);
          closed = All-push (λ work. is_closed work ≡ true) desk.past desk.work d.past_closed (d.ended (ap has_ended all ∙ ended));
        };
      }

  -- the same, call by call
  pub settled_by : (desk told served noted : DeskState W M) (ended seat last note taken : SeatState (Queued M W)) → (note ≡ ended) × (seat ≡ ended) → told ≡ desk_told desk note → HasServedAll told served → (taken ≡ desk_note served) × (noted ≡ served) → last ≡ told_of_taken seat taken
      → IsOfALine true false last.queued last.taken → has_ended last.queued ≡ true → IsDesk label was_given is_closed noted → IsSettled label was_given is_closed ended.queued noted
  settled_by desk told served noted ended seat last note taken same learnt all noted_is last_is seen is_last d =
      let same_last : last ≡ told_of_taken ended (desk_note noted) = last_is ∙ (ap (λ (s : SeatState _). told_of_taken s taken) same.1 ∙ ap (told_of_taken ended) (noted_is.0 ∙ ap desk_note (sym noted_is.1))) in
      let begins : IsBeginning (longer desk.queued ended.queued) served.taken = subst (λ ms. IsBeginning ms served.taken) (all.same.1 ∙ ap (λ (s : DeskState W M). s.queued) (learnt ∙ ap (desk_told desk) same.0)) all.all_told in
      settled ended.queued desk.queued ended.taken noted (ap (λ (s : SeatState _). has_ended s.queued) (sym same_last) ∙ is_last)
      (subst (λ (s : DeskState W M). IsBeginning (longer desk.queued ended.queued) s.taken) (sym noted_is.1) begins)
      (subst (λ (s : SeatState _). IsOfALine true false s.queued s.taken) same_last seen)
      d

-- after that the inbox isn't full
pub not_full : {W M : Type 0} (desk told served noted : DeskState W M) (reader seat last note taken : SeatState (Queued M W)) (capacity : ℕ) → (note ≡ reader) × (seat ≡ reader) → told ≡ desk_told desk note → HasServedAll told served → (taken ≡ desk_note served) × (noted ≡ served) → last ≡ told_of_taken seat taken → 1 ≤ capacity → IsFullBy last capacity → ⊥
not_full desk told served noted reader seat last note taken capacity same learnt all noted_is last_is some full =
    let same_last : last ≡ told_of_taken reader (desk_note served) = last_is ∙ (ap (λ (s : SeatState _). told_of_taken s taken) same.1 ∙ ap (told_of_taken reader) noted_is.0) in
    let begins : IsBeginning (longer desk.queued reader.queued) served.taken = subst (λ ms. IsBeginning ms served.taken) (all.same.1 ∙ ap (λ (s : DeskState _ _). s.queued) (learnt ∙ ap (desk_told desk) same.0)) all.all_told in
    omega (
      arith,
      some,
      full,
      ap (λ (s : SeatState _). length s.taken) same_last,
      ap (λ (s : SeatState _). length s.queued) same_last,
      told_length reader.taken served.taken,
      told_length desk.queued reader.queued,
      begins_length (longer desk.queued reader.queued) served.taken begins,
    )
