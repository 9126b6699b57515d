-- What the works of past connections keep, as the oldest let go.
use Rattle.std.proofs.Common.{◌≡◌, ℕ, zero, suc, inl, inr, ◌+◌, ◌-◌, ◌^◌, ◌<◌, ◌≤◌, Bool, true, false, List, [], ◌∷◌, ◌++◌, length, drop, take, get_or, set, min, refl, sym, ap, subst, ◌∙◌, arith}
use Rattle.std.specs.List.{sum_by}
use Rattle.std.proofs.lemmas.Bool.{cases_lt, false≢true}
use Rattle.std.proofs.lemmas.List.{append-nil, append_assoc, drop_all, drop-set-lt, length-append, length-set, take-append-le, take_more_set}
use Rattle.std.proofs.lemmas.List.Elements.{All-append, All-cons, All-nil, All-push, length_all_zip}
use Rattle.std.proofs.lemmas.List.Sums.{get_or-le-sum_by, sum_by-append, sum_by-cons, sum_by-set, sum_by-take-drop, sum_by_push}
use Rattle.cb_crew.specs.declared.work.Given.{Given}
use Rattle.cb_crew.specs.Seat.{InboxState, SeatState}
use Rattle.cb_crew.specs.declared.queued.Queued.{Queued}
use Rattle.cb_crew.specs.Desk.{DeskState, KeepsWorks, NotTicked, PastAfter, desk_state}
use Rattle.cb_crew.specs.Past.{IsPushed, Keeps, OldestLetGo, StaysIfFew}
use Rattle.cb_crew.specs.Work.{HasLetGo, IsKeptOrLetGo, IsUnticked, first_of}
use Rattle.cb_crew.proofs.Ticks.{works_next}
use Rattle.cb_crew.proofs.Works.{zip_push, zip_refl, zip_then, zip_append, zip_set, zip_weaker}

-- a work that was closed wasn't ready, and so wasn't given anything
pub passed_still : {W : Type 0} {was now : W} {closed : Bool} (ready : Bool) → closed ≡ true → (ready ≡ true → closed ≡ false) → (ready ≡ false → now ≡ was) → now ≡ was
passed_still true closed live same = absurd (false≢true (sym (live refl) ∙ closed))
passed_still false closed live same = same refl

-- ---- sums of a list's beginning and end

-- a longer beginning has no less
take_le : {X : Type 0} (f : X → ℕ) (n m : ℕ) (xs : List X) → n ≤ m → sum_by f (take n xs) ≤ sum_by f (take m xs)
take_le f zero m xs le = omega arith
take_le f (suc n) zero xs le = absurd (omega (arith, le))
take_le f (suc n) (suc m) [] le = omega arith
take_le f (suc n) (suc m) (x ∷ xs) le = omega (arith, sum_by-cons f x (take n xs), sum_by-cons f x (take m xs), take_le f n m xs (omega (arith, le)))

-- an end of a longer list has no less
drop_le : {X : Type 0} (f : X → ℕ) (n : ℕ) (xs more : List X) → sum_by f (drop n xs) ≤ sum_by f (drop n (xs ++ more))
drop_le f zero xs more = omega (arith, sum_by-append f xs more)
drop_le f (suc n) [] more = omega arith
drop_le f (suc n) (x ∷ xs) more = drop_le f n xs more

-- two lists with one end have it still with more behind it
drop_both : {X : Type 0} (n : ℕ) (xs ys more : List X) → length xs ≡ length ys → drop n ys ≡ drop n xs → drop n (ys ++ more) ≡ drop n (xs ++ more)
drop_both zero xs ys more long same = ap (λ zs. zs ++ more) same
drop_both (suc n) [] [] more long same = refl
drop_both (suc n) [] (y ∷ ys) more long same = absurd (omega (arith, long))
drop_both (suc n) (x ∷ xs) [] more long same = absurd (omega (arith, long))
drop_both (suc n) (x ∷ xs) (y ∷ ys) more long same = drop_both n xs ys more (omega (arith, long)) same

module _ {W : Type 0} (weight : W → ℕ) where
  -- where more is kept than the oldest keep, another stands behind them
  pub one_keeps : (works : List W) (gone kept : ℕ) → Keeps weight works gone kept → 1000000 < kept → gone < length works
  one_keeps works gone kept k more = elim (cases_lt gone (length works)) [
    | inl lt ↦ lt
    | inr le ↦ absurd (omega (arith, k.together, k.none, more, sum_by-take-drop weight works gone, ap (sum_by weight) (drop_all gone works le)))
  ]

  -- the oldest that may keep something let go
  pub keeps_less : (works : List W) (gone kept weighs : ℕ) (new d : W) → gone < length works → d ≡ get_or works gone d → weight new ≡ 0 → weighs ≡ min (weight d) (2 ^ 64 - 1) → kept < 2 ^ 64 → Keeps weight works gone kept → Keeps weight (set works gone new) (gone + 1) (kept - weighs)
  keeps_less works gone kept weighs new d lt is none weighed fits k = record {
    together = omega (arith, sum_by-set weight works gone new d lt, get_or-le-sum_by weight works gone d lt, ap weight is, none, weighed, fits, k.together);
    none = ap (sum_by weight) (take_more_set works gone new lt) ∙ (sum_by_push weight (take gone works) new ∙ omega (arith, none, k.none));
    within = omega (arith, lt, length-set works gone new);
  }

  -- one more behind them
  pub keeps_more : (works now : List W) (gone kept weighs : ℕ) (work : W) → now ≡ works ++ work ∷ [] → weight work ≡ weighs → Keeps weight works gone kept → Keeps weight now gone (kept + weighs)
  keeps_more works now gone kept weighs work is weighed k = subst (λ ws. Keeps weight ws gone (kept + weighs)) (sym is) (record {
    together = sum_by_push weight works work ∙ omega (arith, weighed, k.together);
    none = ap (sum_by weight) (take-append-le gone works (work ∷ []) k.within) ∙ k.none;
    within = omega (arith, k.within, length-append works (work ∷ []));
  })

module _ {W M : Type 0} (label : W → ℕ) (given : W → List (Given M) → Type 0) (ticked : W → List ℕ → Type 0) (is_closed : W → Bool) (weight : W → ℕ) where
  abbrev Kept : W → W → Type 0
  Kept = IsKeptOrLetGo label given ticked is_closed weight

  abbrev LetGo : List W → List W → Type 0
  LetGo = OldestLetGo label given ticked is_closed weight

  kept_then : (a b c : W) → Kept a b → Kept b c → Kept a c
  kept_then a b c (inl same) next = subst (λ (w : W). Kept w c) same next
  kept_then a b c (inr gone) (inl same) = inr (subst (HasLetGo label given ticked is_closed weight a) (sym same) gone)
  kept_then a b c (inr gone) (inr more) = inr (record {
    nothing = more.nothing;
    labelled = more.labelled ∙ gone.labelled;
    given = λ items was. more.given items (gone.given items was);
    unticked = λ at was. more.unticked at (gone.unticked at was);
    closed = more.closed;
  })

  pub kept_closed : (old new : W) → Kept old new → is_closed old ≡ true → is_closed new ≡ true
  kept_closed old new (inl same) closed = ap is_closed same ∙ closed
  kept_closed old new (inr gone) closed = gone.closed

  pub past_same : (works : List W) → LetGo works works
  past_same works = record { each = zip_refl Kept (λ _. inl refl) works; latest = λ _ _. refl }

  pub past_then : (old mid new : List W) → LetGo old mid → LetGo mid new → LetGo old new
  past_then old mid new a b = record {
    each = zip_then Kept Kept Kept kept_then old mid new a.each b.each;
    latest = λ from few. b.latest from (subst (λ ws. sum_by weight ws ≤ 1000000) (sym (a.latest from few)) few) ∙ a.latest from few;
  }

  -- with more behind them
  pub past_more : (old new more : List W) → LetGo old new → LetGo (old ++ more) (new ++ more)
  past_more old new more a = record {
    each = zip_append Kept old new more more a.each (zip_refl Kept (λ _. inl refl) more);
    latest = λ from few. drop_both from old new more (length_all_zip Kept old new a.each) (a.latest from (omega (arith, few, drop_le weight from old more)));
  }

  -- the oldest that may keep something let go, since all together keep too much
  pub past_less : (old works : List W) (gone : ℕ) (new d : W) → gone < length works → d ≡ get_or works gone d → HasLetGo label given ticked is_closed weight d new → sum_by weight (take gone works) ≡ 0 → 1000000 < sum_by weight works → LetGo old works → LetGo old (set works gone new)
  past_less old works gone new d lt is let_go none much a = record {
    each = zip_set Kept old works gone new d lt (λ x kept. kept_then x (get_or works gone d) new kept (inr (subst (λ (w : W). HasLetGo label given ticked is_closed weight w new) is let_go))) a.each;
    latest = λ from few.
        let same = a.latest from few in
        let behind : gone < from = elim (cases_lt gone from) [
          | inl less ↦ less
          | inr le ↦ absurd (omega (arith, none, much, few, ap (sum_by weight) same, take_le weight from gone works le, sum_by-take-drop weight works from))
        ] in
        drop-set-lt from works gone new behind ∙ same;
  }

  -- ---- a desk's past works, as it is served

  abbrev After : DeskState W M → DeskState W M → Type 0
  After = PastAfter label given ticked is_closed weight

  -- no connection ended
  pub after_none : (old new : DeskState W M) → new.past ≡ old.past → (is_closed old.work ≡ true → new.work ≡ old.work) → After old new
  after_none old new same still = record {
    ended = [];
    few = All-nil (λ work. weight work ≤ 1000000);
    past = subst (λ ws. LetGo ws new.past) (sym (append-nil old.past)) (subst (LetGo old.past) (sym same) (past_same old.past));
    closed = λ closed. (inl (still closed), λ _. still closed);
  }

  -- one did
  pub after_open : (old new : DeskState W M) → IsPushed label given ticked is_closed weight old.work old.past new.past → After old new
  after_open old new pushed = record {
    ended = pushed.latest ∷ [];
    few = All-cons (λ work. weight work ≤ 1000000) pushed.latest [] pushed.few (All-nil (λ work. weight work ≤ 1000000));
    past = pushed.past;
    closed = λ _. pushed.became;
  }

  kept_unticked : (old new : W) → Kept old new → IsUnticked ticked old new
  kept_unticked old new (inl same) at was = subst (λ (w : W). ticked w at) (sym same) was
  kept_unticked old new (inr gone) at was = gone.unticked at was

  -- none was ticked as one ended
  pub unticked_open : (old new : DeskState W M) → IsPushed label given ticked is_closed weight old.work old.past new.past → ticked new.work [] → NotTicked ticked old new
  unticked_open old new pushed none =
      works_next ticked (IsUnticked ticked) old new pushed.latest (zip_weaker Kept (IsUnticked ticked) kept_unticked (old.past ++ pushed.latest ∷ []) new.past pushed.past.each)
      (λ now still at was. still at (kept_unticked old.work pushed.latest pushed.became.0 at was)) none

  stays_then : (work mid new : W) (ended more : List W) → StaysIfFew label given ticked is_closed weight work (first_of ended mid) → (is_closed mid ≡ true → StaysIfFew label given ticked is_closed weight mid (first_of more new)) → is_closed work ≡ true → StaysIfFew label given ticked is_closed weight work (first_of (ended ++ more) new)
  stays_then work mid new [] more a b closed =
      let next = b (kept_closed work mid a.0 closed) in
      (kept_then work mid (first_of more new) a.0 next.0, λ few. next.1 (subst (λ (w : W). weight w ≤ 1000000) (sym (a.1 few)) few) ∙ a.1 few)
  stays_then work mid new (first ∷ ended) more a b closed = a

  pub after_then : (old mid new : DeskState W M) → After old mid → After mid new → After old new
  after_then old mid new a b = record {
    ended = a.ended ++ b.ended;
    few = All-append (λ work. weight work ≤ 1000000) a.ended b.ended a.few b.few;
    past = subst (λ ws. LetGo ws new.past) (append_assoc old.past a.ended b.ended)
        (past_then ((old.past ++ a.ended) ++ b.ended) (mid.past ++ b.ended) new.past (past_more (old.past ++ a.ended) mid.past b.ended a.past) b.past);
    closed = λ closed. stays_then old.work mid.work new.work a.ended b.ended (a.closed closed) b.closed closed;
  }

  -- ---- what a desk's works keep

  -- the last stays, as far as the bound lets it
  last_stays : (past : List W) (work latest : W) (from : ℕ) → (weight work ≤ 1000000 → latest ≡ work) → sum_by weight (drop from (past ++ work ∷ [])) ≤ 1000000 → drop from (past ++ latest ∷ []) ≡ drop from (past ++ work ∷ [])
  last_stays [] work latest zero stays few = ap (λ w. w ∷ []) (stays (omega (arith, few, sum_by-cons weight work [])))
  last_stays [] work latest (suc from) stays few = refl
  last_stays (x ∷ past) work latest zero stays few = ap (λ w. x ∷ (past ++ w ∷ [])) (stays (omega (arith, few, sum_by-cons weight x (past ++ work ∷ []), sum_by_push weight past work)))
  last_stays (x ∷ past) work latest (suc from) stays few = last_stays past work latest from stays few

  past_last : (past : List W) (work latest : W) → StaysIfFew label given ticked is_closed weight work latest → LetGo (past ++ work ∷ []) (past ++ latest ∷ [])
  past_last past work latest stays = record {
    each = zip_push Kept past past work latest (zip_refl Kept (λ _. inl refl) past) stays.0;
    latest = λ from few. last_stays past work latest from stays.1 few;
  }

  module _ (is_whole : W → Type 0) where
    abbrev Keeping : DeskState W M → Type 0
    Keeping = KeepsWorks label given ticked is_closed is_whole weight

    -- none is past
    pub keeps_first : (inbox : InboxState) (seat : SeatState (Queued M W)) (work : W) → is_whole work → Keeping (desk_state inbox seat work [])
    keeps_first inbox seat work whole = record { latest = whole; ended = []; whole = All-nil is_whole; past = past_same [] }

    -- no connection ended
    pub keeps_on : (old new : DeskState W M) → new.past ≡ old.past → (is_whole old.work → is_whole new.work) → Keeping old → Keeping new
    keeps_on old new same still k = record { latest = still k.latest; ended = k.ended; whole = k.whole; past = subst (LetGo k.ended) (sym same) k.past }

    -- one did
    pub keeps_pushed : (old new : DeskState W M) → IsPushed label given ticked is_closed weight old.work old.past new.past → is_whole new.work → Keeping old → Keeping new
    keeps_pushed old new pushed whole k = record {
      latest = whole;
      ended = k.ended ++ old.work ∷ [];
      whole = All-push is_whole k.ended old.work k.whole k.latest;
      past = past_then (k.ended ++ old.work ∷ []) (old.past ++ old.work ∷ []) new.past (past_more k.ended old.past (old.work ∷ []) k.past)
          (past_then (old.past ++ old.work ∷ []) (old.past ++ pushed.latest ∷ []) new.past (past_last old.past old.work pushed.latest pushed.became) pushed.past);
    }
