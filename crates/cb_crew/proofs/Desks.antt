-- A desk keeps what its type says, over each thing that is done with it.
use Rattle.std.proofs.Common.{◌≡◌, ◌⊎◌, ℕ, inl, inr, ◌+◌, ◌<◌, ◌≤◌, Bool, true, false, cond, List, [], ◌∷◌, ◌++◌, length, map, refl, sym, ap, subst, ◌∙◌, arith}
use Rattle.std.specs.List.{AllZip, count_by}
use Rattle.std.proofs.lemmas.Bool.{false≢true, cases_lt}
use Rattle.std.proofs.lemmas.List.{append-nil, append_assoc, length-append, map-append}
use Rattle.std.proofs.lemmas.List.Elements.{All-push}
use Rattle.std.proofs.lemmas.List.Sums.{sum_by-append, sum_by-cons, sum_by_push}
use Rattle.std.proofs.lemmas.Grind.{flat_map-append}
use Rattle.cb_crew.specs.Line.{connections}
use Rattle.cb_crew.specs.Laws.{IsBeginning, OpensFollowEnds}
use Rattle.cb_crew.proofs.LineLaws.{queued_parts, follows, few, connections_push}
use Rattle.cb_crew.specs.declared.queued.Queued.{Queued}
use Rattle.cb_crew.specs.declared.queued.Queued.TheVariants as queued
use Rattle.cb_crew.specs.Queued.{is_end, is_open, has_ended}
use Rattle.cb_crew.specs.Rule.{IsOfALine}
use Rattle.cb_crew.specs.Seat.{InboxState, SeatState, taken_more}
use Rattle.cb_crew.proofs.Seats.{ended_now}
use Rattle.cb_crew.specs.declared.work.Given.{Given}
use Rattle.cb_crew.specs.declared.desk.Step.{Step}
use Rattle.cb_crew.specs.declared.desk.Step.TheVariants as step
use Rattle.cb_crew.specs.Past.{IsPushed}
use Rattle.cb_crew.specs.Work.{AreWorksOf, IsEnd, IsFresh, IsGivenNone, IsKeptOrLetGo, WorksOn, brought_by, connections_of, first_of, given_by, last_of, openings_of}
use Rattle.cb_crew.specs.Desk.{DeskState, Gives, HasServed, HasTaken, IsDesk, IsSameDesk, IsSameLine, IsServed, Opens, PassesOver, Stepped, desk_state, first_label}
use Rattle.cb_crew.proofs.Counting.{begin_both, begin_more, connections_on, connections_some, given_again, given_more, given_none, given_still, last_again, last_onto, one_given, sum_onto, zip_some}
use Rattle.cb_crew.proofs.LettingGo.{kept_closed}
use Rattle.cb_crew.proofs.Works.{onto_last, connections_more, connections_again, zip_all, zip_flip, zip_push, zip_refl, zip_last, zip_swap, zip_then, zip_weaker, follows_front, opens_last, works_more, works_passed, works_kept, works_fresh, works_count}

-- what is closed where it isn't open
closed_if : (b c : Bool) → (b ≡ false → c ≡ false) → c ≡ true → b ≡ true
closed_if true c live closed = refl
closed_if false c live closed = absurd (false≢true (sym (live refl) ∙ closed))

-- an open mark is no end mark
no_end : {M O : Type 0} (mark : Queued M O) → is_open mark ≡ true → is_end mark ≡ false
no_end (queued.Item item) opens = refl
no_end queued.End opens = absurd (false≢true opens)
no_end (queued.Open opening) opens = refl

-- ---- whose works they are

-- one work more leaves the first
first_stays : {W : Type 0} (past : List W) (old new : W) → first_of (past ++ old ∷ []) new ≡ first_of past old
first_stays [] old new = refl
first_stays (first ∷ past) old new = refl

module _ {W : Type 0} (label : W → ℕ) where
  -- the latest became another value of one label
  pub same_first : (past : List W) (old new : W) → label new ≡ label old → label (first_of past new) ≡ label (first_of past old)
  same_first [] old new same = same
  same_first (first ∷ past) old new same = refl

  same_labels : (past : List W) (old new : W) → label new ≡ label old → map label (past ++ new ∷ []) ≡ map label (past ++ old ∷ [])
  same_labels past old new same = map-append label past (new ∷ []) ∙ (ap (λ l. map label past ++ l ∷ []) same ∙ sym (map-append label past (old ∷ [])))

-- a mark that is no open mark brings no work
none_brought : {W M : Type 0} (mark : Queued M W) → is_open mark ≡ false → brought_by mark ≡ []
none_brought (queued.Item item) stays = refl
none_brought queued.End stays = refl
none_brought (queued.Open opening) stays = absurd (false≢true (sym stays))

same_openings : {W M : Type 0} (taken : List (Queued M W)) (mark : Queued M W) → is_open mark ≡ false → openings_of (taken ++ mark ∷ []) ≡ openings_of taken
same_openings {W} taken mark stays = flat_map-append brought_by taken (mark ∷ []) ∙ (ap (λ (ws : List W). openings_of taken ++ (ws ++ [])) (none_brought mark stays) ∙ append-nil (openings_of taken))

module _ {W M : Type 0} (label : W → ℕ) where
  -- the latest is another value of the same work, and none came
  whose_kept : (taken now : List (Queued M W)) (past : List W) (old new : W) → label new ≡ label old → openings_of now ≡ openings_of taken → AreWorksOf label (label (first_of past old)) taken (past ++ old ∷ []) → AreWorksOf label (label (first_of past new)) now (past ++ new ∷ [])
  whose_kept taken now past old new same none was =
      same_labels label past old new same ∙ (was ∙ (ap (λ l. l ∷ map label (openings_of taken)) (sym (same_first label past old new same)) ∙ ap (λ ws. label (first_of past new) ∷ map label ws) (sym none)))

  -- an open mark brought one
  whose_opened : (taken : List (Queued M W)) (past : List W) (old new opening : W) → label new ≡ label opening → AreWorksOf label (label (first_of past old)) taken (past ++ old ∷ []) → AreWorksOf label (label (first_of (past ++ old ∷ []) new)) (taken ++ queued.Open opening ∷ []) ((past ++ old ∷ []) ++ new ∷ [])
  whose_opened taken past old new opening same was =
      let more : openings_of (taken ++ queued.Open opening ∷ []) ≡ openings_of taken ++ opening ∷ [] = flat_map-append brought_by taken (queued.Open opening ∷ []) in
      map-append label (past ++ old ∷ []) (new ∷ [])
      ∙ (ap (λ ls. ls ++ label new ∷ []) was
      ∙ (ap (λ l. label (first_of past old) ∷ (map label (openings_of taken) ++ l ∷ [])) same
      ∙ (ap (λ ls. label (first_of past old) ∷ ls) (sym (map-append label (openings_of taken) (opening ∷ [])) ∙ ap (map label) (sym more))
      ∙ ap (λ w. label w ∷ map label (openings_of (taken ++ queued.Open opening ∷ []))) (sym (first_stays past old new)))))

module _ {W M : Type 0} (label : W → ℕ) (given : W → List (Given M) → Type 0) (is_closed : W → Bool) where
  -- its work was given nothing, and if it is open it was so before
  pub desk_kept : (inbox : InboxState) (seat now : SeatState (Queued M W)) (old new : W) (past : List W) → now.taken ≡ seat.taken → label new ≡ label old → (is_closed new ≡ false → is_closed old ≡ false) → ((items : List (Given M)) → given old items → given new items) → IsDesk label given is_closed (desk_state inbox seat old past) → IsDesk label given is_closed (desk_state inbox now new past)
  desk_kept inbox seat now old new past same labelled live step d = record {
    whose = whose_kept label seat.taken now.taken past old new labelled (ap openings_of same) d.whose;
    works = subst (λ ms. AllZip (WorksOn given is_closed) (past ++ new ∷ []) (connections_of ms)) (sym same)
        (zip_swap (WorksOn given is_closed) past old new (connections_of seat.taken) d.works (λ c w. works_kept given is_closed old new c live step w));
    past_closed = d.past_closed;
    ended = λ e. closed_if (is_closed new) (is_closed old) live (d.ended (ap has_ended (sym same) ∙ e));
  }

  -- a mark that is no open mark was taken, and given to its work if that was ready, and else passed over
  pub desk_given : (inbox : InboxState) (seat now : SeatState (Queued M W)) (old new : W) (past : List W) (mark : Queued M W) (item : Given M) (ready : Bool) → now ≡ taken_more seat mark → is_open mark ≡ false → given_by mark ≡ item ∷ [] → (is_end mark ≡ true → IsEnd item)
      → label new ≡ label old → (ready ≡ true → is_closed old ≡ false) → (ready ≡ false → is_closed old ≡ true)
      → (ready ≡ true → (items : List (Given M)) → given old items → given new (items ++ item ∷ [])) → (ready ≡ true → IsEnd item → is_closed new ≡ true) → (ready ≡ false → new ≡ old)
      → IsDesk label given is_closed (desk_state inbox seat old past) → IsDesk label given is_closed (desk_state inbox now new past)
  desk_given inbox seat now old new past mark item true took stays gives ends labelled live closed step last same d = record {
    whose = whose_kept label seat.taken now.taken past old new labelled (ap (λ (s : SeatState (Queued M W)). openings_of s.taken) took ∙ same_openings seat.taken mark stays) d.whose;
    works = subst (λ (s : SeatState (Queued M W)). AllZip (WorksOn given is_closed) (past ++ new ∷ []) (connections_of s.taken)) (sym took)
        (subst (AllZip (WorksOn given is_closed) (past ++ new ∷ [])) (sym (connections_more seat.taken mark stays ∙ ap (λ (gs : List (Given M)). onto_last (connections_of seat.taken) (gs ++ [])) gives))
        (zip_last (WorksOn given is_closed) past old new (connections_of seat.taken) (item ∷ []) d.works (λ c w. works_more given is_closed old new (item ∷ []) c (live refl) (step refl) w)));
    past_closed = d.past_closed;
    ended = λ e. last refl (ends (sym (ap (λ (s : SeatState (Queued M W)). has_ended s.taken) took ∙ ended_now seat.taken mark) ∙ e));
  }
  desk_given inbox seat now old new past mark item false took stays gives ends labelled live closed step last same d = record {
    whose = whose_kept label seat.taken now.taken past old new labelled (ap (λ (s : SeatState (Queued M W)). openings_of s.taken) took ∙ same_openings seat.taken mark stays) d.whose;
    works = subst (λ (s : SeatState (Queued M W)). AllZip (WorksOn given is_closed) (past ++ new ∷ []) (connections_of s.taken)) (sym took)
        (subst (AllZip (WorksOn given is_closed) (past ++ new ∷ [])) (sym (connections_more seat.taken mark stays ∙ ap (λ (gs : List (Given M)). onto_last (connections_of seat.taken) (gs ++ [])) gives))
        (subst (λ (w : W). AllZip (WorksOn given is_closed) (past ++ w ∷ []) (onto_last (connections_of seat.taken) (item ∷ []))) (sym (same refl))
        (zip_last (WorksOn given is_closed) past old old (connections_of seat.taken) (item ∷ []) d.works (λ c w. works_passed given is_closed old (item ∷ []) c (closed refl) w))));
    past_closed = d.past_closed;
    ended = λ _. ap is_closed (same refl) ∙ closed refl;
  }

  -- what an open mark stands behind, and how many connections there were before it
  opened_after : (queued taken : List (Queued M W)) (mark : Queued M W) → is_open mark ≡ true → IsOfALine false true queued (taken ++ mark ∷ []) → (has_ended taken ≡ true) × (connections is_open taken < 256)
  opened_after queued taken mark opens s =
      let all = s.knows.all_taken refl in
      let whole = queued_parts s.reached in
      let seen = follows s.reached in
      let front = follows_front is_end is_open false (taken ++ mark ∷ []) s.line.inbox (subst (λ ms. OpensFollowEnds is_end is_open false ms) (whole ∙ ap (λ ms. ms ++ s.line.inbox) (sym all)) seen) in
      (sym (opens_last is_end is_open false taken mark front) ∙ opens, omega (arith, few s.reached, ap (connections is_open) (whole ∙ ap (λ ms. ms ++ s.line.inbox) (sym all)), sum_by-append {X = Queued M W} (λ m. cond (is_open m) 1 0) (taken ++ mark ∷ []) s.line.inbox, connections_push is_open taken mark, ap {B = ℕ} (λ (b : Bool). cond b 1 0) opens))

  -- an open mark was taken, and nothing let go
  desk_opened : (ticked : W → List ℕ → Type 0) (is_whole : W → Type 0) (inbox : InboxState) (seat now : SeatState (Queued M W)) (old new opening : W) (past : List W) (mark : Queued M W) → mark ≡ queued.Open opening → label new ≡ label opening → now ≡ taken_more seat mark → is_open mark ≡ true → has_ended seat.taken ≡ true → IsFresh given ticked is_closed is_whole new → IsDesk label given is_closed (desk_state inbox seat old past) → IsDesk label given is_closed (desk_state inbox now new (past ++ old ∷ []))
  desk_opened ticked is_whole inbox seat now old new opening past mark brings labelled took opens behind fresh d = record {
    whose = subst (λ ms. AreWorksOf label (label (first_of (past ++ old ∷ []) new)) ms ((past ++ old ∷ []) ++ new ∷ [])) (ap (λ m. seat.taken ++ m ∷ []) (sym brings) ∙ sym (ap (λ (s : SeatState (Queued M W)). s.taken) took)) (whose_opened label seat.taken past old new opening labelled d.whose);
    works = subst (λ (s : SeatState (Queued M W)). AllZip (WorksOn given is_closed) ((past ++ old ∷ []) ++ new ∷ []) (connections_of s.taken)) (sym took)
        (subst (AllZip (WorksOn given is_closed) ((past ++ old ∷ []) ++ new ∷ [])) (sym (connections_again seat.taken mark opens))
        (zip_push (WorksOn given is_closed) (past ++ old ∷ []) (connections_of seat.taken) new [] d.works (works_fresh given is_closed ticked is_whole new fresh)));
    past_closed = All-push (λ work. is_closed work ≡ true) past old d.past_closed (d.ended behind);
    ended = λ e. absurd (false≢true (sym (ap (λ (s : SeatState (Queued M W)). has_ended s.taken) took ∙ (ended_now seat.taken mark ∙ no_end mark opens)) ∙ e));
  }

  module _ (ticked : W → List ℕ → Type 0) (weight : W → ℕ) where
    abbrev Kept : W → W → Type 0
    Kept = IsKeptOrLetGo label given ticked is_closed weight

    kept_label : (old new : W) → Kept old new → label new ≡ label old
    kept_label old new (inl same) = ap label same
    kept_label old new (inr gone) = gone.labelled

    kept_labels : (old now : List W) → AllZip Kept old now → map label now ≡ map label old
    kept_labels [] [] all = refl
    kept_labels [] (y ∷ now) all = absurd all
    kept_labels (x ∷ old) [] all = absurd all
    kept_labels (x ∷ old) (y ∷ now) all = ap (λ l. l ∷ map label now) (kept_label x y all.0) ∙ ap (λ ls. label x ∷ ls) (kept_labels old now all.1)

    kept_first : (old now : List W) (work : W) → AllZip Kept old now → label (first_of now work) ≡ label (first_of old work)
    kept_first [] [] work all = refl
    kept_first [] (y ∷ now) work all = absurd all
    kept_first (x ∷ old) [] work all = absurd all
    kept_first (x ∷ old) (y ∷ now) work all = kept_label x y all.0

    kept_works : (work new : W) (connection : List (Given M)) → Kept work new → WorksOn given is_closed work connection → WorksOn given is_closed new connection
    kept_works work new connection (inl same) w = subst (λ (v : W). WorksOn given is_closed v connection) (sym same) w
    kept_works work new connection (inr gone) w = works_kept given is_closed work new connection (λ live. absurd (false≢true (sym live ∙ gone.closed))) gone.given w

    kept_given : (work new : W) → Kept work new → (items : List (Given M)) → given work items → given new items
    kept_given work new (inl same) items was = subst (λ (v : W). given v items) (sym same) was
    kept_given work new (inr gone) items was = gone.given items was

    -- past works let go
    desk_let_go : (inbox : InboxState) (seat : SeatState (Queued M W)) (work : W) (past now : List W) → AllZip Kept past now → IsDesk label given is_closed (desk_state inbox seat work past) → IsDesk label given is_closed (desk_state inbox seat work now)
    desk_let_go inbox seat work past now kept d =
        let all = zip_push Kept past now work work kept (inl refl) in
        record {
          whose = kept_labels (past ++ work ∷ []) (now ++ work ∷ []) all ∙ (d.whose ∙ ap (λ l. l ∷ map label (openings_of seat.taken)) (sym (kept_first past now work kept)));
          works = zip_then (λ new old. Kept old new) (WorksOn given is_closed) (WorksOn given is_closed) (λ new old connection k w. kept_works old new connection k w)
              (now ++ work ∷ []) (past ++ work ∷ []) (connections_of seat.taken) (zip_flip Kept (past ++ work ∷ []) (now ++ work ∷ []) all) d.works;
          past_closed = zip_all Kept (λ work. is_closed work ≡ true) (λ work. is_closed work ≡ true) (kept_closed label given ticked is_closed weight) past now kept d.past_closed;
          ended = d.ended;
        }

    -- an open mark was taken: the work is past, and the next connection's work takes its place
    pub desk_pushed : (is_whole : W → Type 0) (inbox : InboxState) (seat now : SeatState (Queued M W)) (old new opening : W) (past works : List W) → label new ≡ label opening → now ≡ taken_more seat (queued.Open opening) → has_ended seat.taken ≡ true → IsFresh given ticked is_closed is_whole new → IsPushed label given ticked is_closed weight old past works
        → IsDesk label given is_closed (desk_state inbox seat old past) → IsDesk label given is_closed (desk_state inbox now new works)
    desk_pushed is_whole inbox seat now old new opening past works labelled took behind fresh pushed d =
        let kept = pushed.became.0 in
        let same = desk_kept inbox seat seat old pushed.latest past refl (kept_label old pushed.latest kept) (λ live. absurd (false≢true (sym live ∙ kept_closed label given ticked is_closed weight old pushed.latest kept (d.ended behind)))) (kept_given old pushed.latest kept) d in
        desk_let_go inbox now new (past ++ pushed.latest ∷ []) works pushed.past.each (desk_opened ticked is_whole inbox seat now pushed.latest new opening past (queued.Open opening) refl labelled took refl behind fresh same)

    -- the first connection's work has its label still
    pub first_pushed : (old new : DeskState W M) → IsPushed label given ticked is_closed weight old.work old.past new.past → first_label label new ≡ first_label label old
    first_pushed old new pushed =
        kept_first (old.past ++ pushed.latest ∷ []) new.past new.work pushed.past.each
        ∙ (ap label (first_stays old.past pushed.latest new.work) ∙ same_first label old.past old.work pushed.latest (kept_label old.work pushed.latest pushed.became.0))

  -- there is room for one more past work
  past_room : (inbox : InboxState) (seat : SeatState (Queued M W)) (work : W) (past : List W) → connections is_open seat.taken < 256 → IsDesk label given is_closed (desk_state inbox seat work past) → length past < 255
  past_room inbox seat work past few_ d = omega (arith, works_count given is_closed (past ++ work ∷ []) seat.taken d.works, length-append past (work ∷ []), few_)

  -- an open mark was taken: the connection had ended, and there is room for one more past work
  pub open_behind : (inbox : InboxState) (seat now : SeatState (Queued M W)) (work next : W) (past : List W) → now ≡ taken_more seat (queued.Open next) → IsOfALine false true now.queued now.taken → IsDesk label given is_closed (desk_state inbox seat work past) → (has_ended seat.taken ≡ true) × (length past < 255)
  open_behind inbox seat now work next past took line d =
      let after = opened_after now.queued seat.taken (queued.Open next) refl (subst (λ ms. IsOfALine false true now.queued ms) (ap (λ (s : SeatState (Queued M W)). s.taken) took) line) in
      (after.0, past_room inbox seat work past after.1 d)

-- ---- serving, mark by mark

opens_push : {M O : Type 0} (marks : List (Queued M O)) (mark : Queued M O) → count_by is_open (marks ++ mark ∷ []) ≡ count_by is_open marks + cond (is_open mark) 1 0
opens_push marks mark = sum_by_push (λ m. cond (is_open m) 1 0) marks mark

opens_same : {M O : Type 0} (marks : List (Queued M O)) (mark : Queued M O) → is_open mark ≡ false → count_by is_open (marks ++ mark ∷ []) ≡ count_by is_open marks
opens_same marks mark stays = omega (arith, opens_push marks mark, ap {B = ℕ} (λ (b : Bool). cond b 1 0) stays)

-- what is open where it doesn't close
open_if : (b c : Bool) → (b ≡ true → c ≡ true) → c ≡ false → b ≡ false
open_if true c stays open_ = absurd (false≢true (sym open_ ∙ stays refl))
open_if false c stays open_ = refl

module _ {W M : Type 0} (given : W → List (Given M) → Type 0) (is_closed : W → Bool) where
  pub taken_none : (old new : DeskState W M) → new.taken ≡ old.taken → new.past ≡ old.past → IsGivenNone given old.work new.work → (is_closed old.work ≡ true → is_closed new.work ≡ true) → HasTaken given is_closed old new 0 0
  taken_none old new same past none stays = record {
    marks = [];
    taken = same ∙ sym (append-nil old.taken);
    count = refl;
    gave = [] ∷ [];
    works = given_none given old new past none;
    sum = omega (arith, sum_by-cons (length {A = Given M}) [] []);
    begin = (([], refl), tt);
    all = λ _. refl;
    behind = λ _ one. absurd (omega (arith, one));
    stays = λ closed _. stays closed;
  }

  pub served_none : (old new : DeskState W M) → IsSameLine old new → new.past ≡ old.past → IsGivenNone given old.work new.work → (is_closed old.work ≡ true → is_closed new.work ≡ true) → HasServed given is_closed old new 0 0
  served_none old new same past none stays = record { same = same.0; has = taken_none old new same.1 past none stays }

  same_more : (old mid new : DeskState W M) → IsSameDesk old mid → IsSameDesk mid new → IsSameDesk old new
  same_more old mid new a b = (b.0 ∙ a.0, b.1 ∙ a.1)

  more_taken : (old mid new : DeskState W M) (marks : List (Queued M W)) (mark : Queued M W) → mid.taken ≡ old.taken ++ marks → new.taken ≡ mid.taken ++ mark ∷ [] → new.taken ≡ old.taken ++ (marks ++ mark ∷ [])
  more_taken old mid new marks mark was took = took ∙ (ap (λ ms. ms ++ mark ∷ []) was ∙ append_assoc old.taken marks (mark ∷ []))

  -- a mark was given to the work, which was open
  taken_worked : (old mid new : DeskState W M) (worked passed : ℕ) (mark : Queued M W) → new.taken ≡ mid.taken ++ mark ∷ [] → Gives given is_closed mid new mark → HasTaken given is_closed old mid worked passed → HasTaken given is_closed old new (worked + 1) passed
  taken_worked old mid new worked passed mark took s h =
      let same = opens_same h.marks mark s.item in
      let some : is_closed old.work ≡ true → 1 ≤ count_by is_open h.marks = λ closed. elim (cases_lt 0 (count_by is_open h.marks)) [
        | inl lt ↦ omega (arith, lt)
        | inr le ↦ absurd (false≢true (sym s.live ∙ h.stays closed (omega (arith, le))))
      ] in
      let on = connections_on h.marks mark s.item in
      record {
        marks = h.marks ++ mark ∷ [];
        taken = more_taken old mid new h.marks mark h.taken took;
        count = omega (arith, h.count, length-append h.marks (mark ∷ []));
        gave = onto_last h.gave (given_by mark);
        works = given_more given old mid new h.gave (given_by mark) s.past s.gave h.works;
        sum = omega (arith, sum_onto h.gave (given_by mark), one_given mark s.item, h.sum);
        begin = subst (AllZip IsBeginning (onto_last h.gave (given_by mark))) (sym on) (begin_both h.gave (connections_of h.marks) (given_by mark) (h.all s.live) h.begin);
        all = λ _. last_onto h.gave (given_by mark) ∙ (ap (λ gs. gs ++ given_by mark) (h.all s.live) ∙ (sym (last_onto (connections_of h.marks) (given_by mark)) ∙ ap last_of (sym on)));
        behind = λ closed _. omega (arith, some closed, same);
        stays = λ closed none. absurd (omega (arith, some closed, same, none));
      }

  -- a closed work was given nothing
  taken_over : (old mid new : DeskState W M) (worked passed : ℕ) (mark : Queued M W) → new.taken ≡ mid.taken ++ mark ∷ [] → PassesOver given is_closed mid new mark → HasTaken given is_closed old mid worked passed → HasTaken given is_closed old new worked (passed + 1)
  taken_over old mid new worked passed mark took s h =
      record {
        marks = h.marks ++ mark ∷ [];
        taken = more_taken old mid new h.marks mark h.taken took;
        count = omega (arith, h.count, length-append h.marks (mark ∷ []));
        gave = h.gave;
        works = given_still given old mid new h.gave s.past s.gave h.works;
        sum = h.sum;
        begin = subst (AllZip IsBeginning h.gave) (sym (connections_on h.marks mark s.item)) (begin_more h.gave (connections_of h.marks) (given_by mark) (connections_some h.marks) h.begin);
        all = λ live. absurd (false≢true (sym live ∙ s.closed));
        behind = λ closed one. omega (arith, h.behind closed one, opens_same h.marks mark s.item);
        stays = λ _ _. s.closed;
      }

  -- an open mark brought the next work
  taken_open : (old mid new : DeskState W M) (worked passed : ℕ) (mark : Queued M W) → new.taken ≡ mid.taken ++ mark ∷ [] → Opens given mid new mark → HasTaken given is_closed old mid worked passed → HasTaken given is_closed old new worked (passed + 1)
  taken_open old mid new worked passed mark took s h =
      let more = opens_push h.marks mark in
      let one = ap {B = ℕ} (λ (b : Bool). cond b 1 0) s.opens in
      let on = connections_again h.marks mark s.opens in
      record {
        marks = h.marks ++ mark ∷ [];
        taken = more_taken old mid new h.marks mark h.taken took;
        count = omega (arith, h.count, length-append h.marks (mark ∷ []));
        gave = h.gave ++ [] ∷ [];
        works = given_again given old mid new h.gave (zip_some IsBeginning h.gave (connections_of h.marks) h.begin (connections_some h.marks)) s.past s.nothing h.works;
        sum = omega (arith, sum_by_push (length {A = Given M}) h.gave [], h.sum);
        begin = subst (AllZip IsBeginning (h.gave ++ [] ∷ [])) (sym on) (zip_push IsBeginning h.gave (connections_of h.marks) [] [] h.begin ([], refl));
        all = λ _. last_again h.gave [] ∙ (sym (last_again (connections_of h.marks) []) ∙ ap last_of (sym on));
        behind = λ _ _. omega (arith, more, one);
        stays = λ _ none. absurd (omega (arith, none, more, one));
      }

  pub served_worked : (old mid new : DeskState W M) (worked passed : ℕ) → HasServed given is_closed old mid worked passed → Stepped given is_closed mid new step.Worked → HasServed given is_closed old new (worked + 1) passed
  served_worked old mid new worked passed h s = record { same = same_more old mid new h.same s.0; has = taken_worked old mid new worked passed s.1.0 s.1.1 s.1.2 h.has }

  taken_passed : (old mid new : DeskState W M) (worked passed : ℕ) (mark : Queued M W) → new.taken ≡ mid.taken ++ mark ∷ [] → Opens given mid new mark ⊎ PassesOver given is_closed mid new mark → HasTaken given is_closed old mid worked passed → HasTaken given is_closed old new worked (passed + 1)
  taken_passed old mid new worked passed mark took (inl opens) h = taken_open old mid new worked passed mark took opens h
  taken_passed old mid new worked passed mark took (inr over) h = taken_over old mid new worked passed mark took over h

  pub served_passed : (old mid new : DeskState W M) (worked passed : ℕ) → HasServed given is_closed old mid worked passed → Stepped given is_closed mid new step.Passed → HasServed given is_closed old new worked (passed + 1)
  served_passed old mid new worked passed h s = record { same = same_more old mid new h.same s.0; has = taken_passed old mid new worked passed s.1.0 s.1.1 s.1.2 h.has }

  -- nothing was left
  pub served_empty : (old mid new : DeskState W M) (budget worked passed : ℕ) → HasServed given is_closed old mid worked passed → worked + passed ≤ budget → Stepped given is_closed mid new step.Empty → IsServed given is_closed old new budget worked passed
  served_empty old mid new budget worked passed h within s = record {
    has = record {
      same = same_more old mid new h.same s.0.0;
      has = record {
        marks = h.has.marks;
        taken = s.0.1 ∙ h.has.taken;
        count = h.has.count;
        gave = h.has.gave;
        works = given_still given old mid new h.has.gave s.3 s.4 h.has.works;
        sum = h.has.sum;
        begin = h.has.begin;
        all = λ live. h.has.all (open_if (is_closed mid.work) (is_closed new.work) s.2 live);
        behind = h.has.behind;
        stays = λ closed none. s.2 (h.has.stays closed none);
      };
    };
    within = within;
    all_told = λ _. inl (subst (λ ms. IsBeginning ms new.taken) (sym s.0.0.1) (subst (IsBeginning mid.queued) (sym s.0.1) s.1));
  }

  -- the work closed
  pub served_closed : (old mid new : DeskState W M) (budget worked passed : ℕ) → HasServed given is_closed old mid worked passed → worked + passed < budget → Stepped given is_closed mid new step.Worked → is_closed new.work ≡ true → IsServed given is_closed old new budget (worked + 1) passed
  served_closed old mid new budget worked passed h within s closed = record {
    has = served_worked old mid new worked passed h s;
    within = omega (arith, within);
    all_told = λ _. inr (omega arith, closed);
  }

  -- the budget is spent
  pub served_whole : (old new : DeskState W M) (budget worked passed : ℕ) → HasServed given is_closed old new worked passed → worked + passed ≡ budget → IsServed given is_closed old new budget worked passed
  served_whole old new budget worked passed h all = record { has = h; within = omega (arith, all); all_told = λ less. absurd (omega (arith, all, less)) }

  -- what a step took comes to what was taken
  pub stepped_on : (old mid new : DeskState W M) (done : Step) → IsSameDesk old mid → IsBeginning old.taken mid.taken → Stepped given is_closed mid new done → IsSameDesk old new × IsBeginning old.taken new.taken
  stepped_on old mid new step.Worked same begin s = (same_more old mid new same s.0, (begin.0 ++ s.1.0 ∷ [], s.1.1 ∙ (ap (λ ms. ms ++ s.1.0 ∷ []) begin.1 ∙ append_assoc old.taken begin.0 (s.1.0 ∷ []))))
  stepped_on old mid new step.Passed same begin s = (same_more old mid new same s.0, (begin.0 ++ s.1.0 ∷ [], s.1.1 ∙ (ap (λ ms. ms ++ s.1.0 ∷ []) begin.1 ∙ append_assoc old.taken begin.0 (s.1.0 ∷ []))))
  stepped_on old mid new step.Empty same begin s = (same_more old mid new same s.0.0, (begin.0, s.0.1 ∙ begin.1))

  -- ---- one step

  -- a mark that is no open mark was given to its work if that was ready, and else passed over
  pub stepped_given : (inbox : InboxState) (seat now : SeatState (Queued M W)) (old mid new : W) (past : List W) (mark : Queued M W) (item : Given M) (ready : Bool) (done : Step) → now ≡ taken_more seat mark → is_open mark ≡ false → given_by mark ≡ item ∷ []
      → (ready ≡ true → is_closed old ≡ false) → (ready ≡ false → is_closed mid ≡ true) → ((items : List (Given M)) → given old items → given mid items)
      → (ready ≡ true → done ≡ step.Worked) → (ready ≡ true → (items : List (Given M)) → given mid items → given new (items ++ item ∷ [])) → (ready ≡ false → done ≡ step.Passed) → (ready ≡ false → new ≡ mid)
      → Stepped given is_closed (desk_state inbox seat old past) (desk_state inbox now new past) done
  stepped_given inbox seat now old mid new past mark item true done took stays gives live closed still worked more passed same =
      subst (Stepped given is_closed (desk_state inbox seat old past) (desk_state inbox now new past)) (sym (worked refl)) (
        (refl, ap (λ (s : SeatState (Queued M W)). s.queued) took),
        (
          mark,
          ap (λ (s : SeatState (Queued M W)). s.taken) took,
          record { item = stays; live = live refl; past = refl; gave = λ items was. subst (λ gs. given new (items ++ gs)) (sym gives) (more refl items (still items was)) },
        ),
      )
  stepped_given inbox seat now old mid new past mark item false done took stays gives live closed still worked more passed same =
      subst (Stepped given is_closed (desk_state inbox seat old past) (desk_state inbox now new past)) (sym (passed refl)) (
        (refl, ap (λ (s : SeatState (Queued M W)). s.queued) took),
        (
          mark,
          ap (λ (s : SeatState (Queued M W)). s.taken) took,
          inr (record { item = stays; closed = ap is_closed (same refl) ∙ closed refl; past = refl; gave = λ items was. subst (λ (w : W). given w items) (sym (same refl)) (still items was) }),
        ),
      )

  -- nothing was queued
  pub stepped_empty : (inbox : InboxState) (seat now : SeatState (Queued M W)) (old new : W) (past : List W) → now ≡ seat → IsBeginning seat.queued seat.taken → (is_closed new ≡ false → is_closed old ≡ false) → ((items : List (Given M)) → given old items → given new items) → Stepped given is_closed (desk_state inbox seat old past) (desk_state inbox now new past) step.Empty
  stepped_empty inbox seat now old new past same begin live still = (((refl, ap (λ (s : SeatState (Queued M W)). s.queued) same), ap (λ (s : SeatState (Queued M W)). s.taken) same), begin, closed_if (is_closed new) (is_closed old) live, refl, still)

  -- an open mark brought a work
  pub stepped_open : (label : W → ℕ) (ticked : W → List ℕ → Type 0) (weight : W → ℕ) (inbox : InboxState) (seat now : SeatState (Queued M W)) (old new next : W) (past works : List W) → now ≡ taken_more seat (queued.Open next) → new ≡ next → given new [] → IsPushed label given ticked is_closed weight old past works → Stepped given is_closed (desk_state inbox seat old past) (desk_state inbox now new works) step.Passed
  stepped_open label ticked weight inbox seat now old new next past works took same nothing pushed =
      let kept = kept_given label given is_closed ticked weight in (
        (refl, ap (λ (s : SeatState (Queued M W)). s.queued) took),
        (
          queued.Open next,
          ap (λ (s : SeatState (Queued M W)). s.taken) took,
          inl (record {
            opens = refl;
            brought = ap (λ (w : W). w ∷ []) (sym same);
            nothing = nothing;
            past = zip_then (IsGivenNone given) (IsGivenNone given) (IsGivenNone given) (λ x y z a b items was. b items (a items was)) (past ++ old ∷ []) (past ++ pushed.latest ∷ []) works
                (zip_push (IsGivenNone given) past past old pushed.latest (zip_refl (IsGivenNone given) (λ _ items was. was) past) (kept old pushed.latest pushed.became.0))
                (zip_weaker (IsKeptOrLetGo label given ticked is_closed weight) (IsGivenNone given) kept (past ++ pushed.latest ∷ []) works pushed.past.each);
          }),
        ),
      )
