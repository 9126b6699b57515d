-- What was ticked, as a desk is served mark by mark.
use Rattle.std.proofs.Common.{◌≡◌, ℕ, Bool, List, [], ◌∷◌, ◌++◌, length, All, refl, sym, ap, subst, ◌∙◌}
use Rattle.std.specs.List.{AllZip}
use Rattle.std.proofs.lemmas.List.{append_assoc}
use Rattle.std.proofs.lemmas.List.Elements.{All-append, All-cons, All-nil}
use Rattle.cb_crew.specs.declared.work.Given.{Given}
use Rattle.cb_crew.specs.Work.{IsTicked, IsUnticked}
use Rattle.cb_crew.specs.declared.queued.Queued.{Queued}
use Rattle.cb_crew.specs.Seat.{SeatState}
use Rattle.cb_crew.specs.Desk.{DeskState, NotTicked, TickedOnce, WorksAfter, desk_told}
use Rattle.cb_crew.proofs.Works.{zip_all, zip_parts, zip_push, zip_refl, zip_then}

abbrev Never : {W : Type 0} → (W → List ℕ → Type 0) → W → Type 0
Never ticked work = ticked work []

never_still : {W : Type 0} (ticked : W → List ℕ → Type 0) (works now : List W) → AllZip (IsUnticked ticked) works now → All (Never ticked) works → All (Never ticked) now
never_still ticked works now kept never = zip_all (IsUnticked ticked) (Never ticked) (Never ticked) (λ work after still is. still [] is) works now kept never

module _ {W M : Type 0} (ticked : W → List ℕ → Type 0) (becomes : W → W → Type 0) where
  -- the works of past connections are the same
  pub works_same : (old new : DeskState W M) → new.past ≡ old.past → becomes old.work new.work → WorksAfter ticked becomes old new
  works_same old new past became = record {
    earlier = old.past;
    latest = new.work;
    later = [];
    works = ap (λ ws. ws ++ new.work ∷ []) past;
    earlier_none = zip_refl (IsUnticked ticked) (λ work at t. t) old.past;
    became = became;
    later_none = All-nil (Never ticked);
  }

  -- a work came that was not ticked
  pub works_next : (old new : DeskState W M) (latest : W) → AllZip (IsUnticked ticked) (old.past ++ latest ∷ []) new.past → ((now : W) → IsUnticked ticked latest now → becomes old.work now) → Never ticked new.work → WorksAfter ticked becomes old new
  works_next old new latest past became none =
      let parts = zip_parts (IsUnticked ticked) old.past latest [] new.past past in
      record {
        earlier = parts.front;
        latest = parts.at;
        later = parts.behind ++ new.work ∷ [];
        works = ap (λ ws. ws ++ new.work ∷ []) parts.is ∙ append_assoc parts.front (parts.at ∷ parts.behind) (new.work ∷ []);
        earlier_none = parts.fronts;
        became = became parts.at parts.ats;
        later_none = All-append (Never ticked) parts.behind (new.work ∷ []) (never_still ticked [] parts.behind parts.behinds (All-nil (Never ticked))) (All-cons (Never ticked) new.work [] none (All-nil (Never ticked)));
      }

  -- one step more, in which none was ticked
  pub works_step : (old mid new : DeskState W M) → ((latest now : W) → becomes old.work latest → IsUnticked ticked latest now → becomes old.work now) → WorksAfter ticked becomes old mid → NotTicked ticked mid new → WorksAfter ticked becomes old new
  works_step old mid new keeps a b =
      let all = zip_push (IsUnticked ticked) mid.past b.earlier mid.work b.latest b.earlier_none b.became in
      let parts = zip_parts (IsUnticked ticked) a.earlier a.latest a.later (b.earlier ++ b.latest ∷ []) (subst (λ ws. AllZip (IsUnticked ticked) ws (b.earlier ++ b.latest ∷ [])) a.works all) in
      record {
        earlier = parts.front;
        latest = parts.at;
        later = parts.behind ++ b.later;
        works = b.works ∙ (sym (append_assoc b.earlier (b.latest ∷ []) b.later) ∙ (ap (λ ws. ws ++ b.later) parts.is ∙ append_assoc parts.front (parts.at ∷ parts.behind) b.later));
        earlier_none = zip_then (IsUnticked ticked) (IsUnticked ticked) (IsUnticked ticked) (λ x y z kept more at t. more at (kept at t)) old.past a.earlier parts.front a.earlier_none parts.fronts;
        became = keeps a.latest parts.at a.became parts.ats;
        later_none = All-append (Never ticked) parts.behind b.later (never_still ticked a.later parts.behind parts.behinds a.later_none) b.later_none;
      }

module _ {W M : Type 0} (given : W → List (Given M) → Type 0) (ticked : W → List ℕ → Type 0) (is_closed : W → Bool) where
  pub ticked_step : (old mid new : DeskState W M) → TickedOnce given ticked is_closed old mid → NotTicked ticked mid new → TickedOnce given ticked is_closed old new
  ticked_step old mid new a b = works_step ticked (IsTicked given ticked is_closed) old mid new (λ latest now is kept. record { once = λ live items at was t. kept (at ++ length items ∷ []) (is.once live items at was t); none = λ closed at t. kept at (is.none closed at t) }) a b

pub unticked_step : {W M : Type 0} (ticked : W → List ℕ → Type 0) (old mid new : DeskState W M) → NotTicked ticked old mid → NotTicked ticked mid new → NotTicked ticked old new
unticked_step ticked old mid new a b = works_step ticked (IsUnticked ticked) old mid new (λ latest now is kept at t. kept at (is at t)) a b

-- nothing was done
pub unticked_same : {W M : Type 0} (ticked : W → List ℕ → Type 0) (desk : DeskState W M) → NotTicked ticked desk desk
unticked_same ticked desk = works_same ticked (IsUnticked ticked) desk desk refl (λ at t. t)

-- a desk was told something and was served
pub unticked_told : {W M : Type 0} (ticked : W → List ℕ → Type 0) (desk told served new : DeskState W M) (note : SeatState (Queued M W)) → told ≡ desk_told desk note → NotTicked ticked told served → new ≡ served → NotTicked ticked desk new
unticked_told ticked desk told served new note told_is unticked same =
    let t = subst (λ d. NotTicked ticked d new) told_is (subst (NotTicked ticked told) (sym same) unticked) in
    record { earlier = t.earlier; latest = t.latest; later = t.later; works = t.works; earlier_none = t.earlier_none; became = t.became; later_none = t.later_none }
