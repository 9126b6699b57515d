-- What every work keeps, one call at a time.
use Rattle.std.proofs.Common.{◌≡◌, ℕ, Bool, true, false, List, ◌++◌, sym, ap, ◌∙◌}
use Rattle.std.specs.Prelude.{Option}
use Rattle.cb_base.specs.declared.fault.Fault.{Fault}
use Rattle.cb_state.specs.declared.connection.Connection.{Connection}
use Rattle.cb_hall.specs.Badge.{BadgeState}
use Rattle.cb_hall.specs.Histories.{Reply}
use Rattle.cb_peer_state.specs.declared.event.Event.{Event}
use Rattle.cb_peer_state.specs.Event.{begins, kind_of}
use Rattle.cb_session.specs.Conversation.{beat_in}
use Rattle.cb_crew.specs.declared.work.Given.{Given}
use Rattle.cb_session.specs.declared.input.Input.{Input}
use Rattle.cb_work.specs.PeerWork.{IsPeerWork, Serves, WorkState, is_over, items_after}
use Rattle.cb_work.proofs.Serving.{Begins, KeepsConnection, next_badge, serves_flags, serves_next}

-- the slot is still its peer's, and it served something
pub keeps : {S H F : Type 0} (told : H → BadgeState → List Reply → H → BadgeState → Type 0) (refused : H → BadgeState → Fault → Type 0) (contents : S → Option (List ℕ)) (has_failed : S → Bool) (is_stopped : F → Bool)
    (old new : WorkState S H F) (items : List (Given Input)) (beats : List Event) → IsPeerWork told refused contents has_failed is_stopped old
    → new.slot ≡ old.slot → new.badge.connection ≡ old.badge.connection → (is_over new ≡ true → is_stopped new.flags ≡ true)
    → Serves told refused contents has_failed new items beats → IsPeerWork told refused contents has_failed is_stopped new
keeps told refused contents has_failed is_stopped old new items beats p slot badge stopped serves =
    record {
      slot = slot ∙ p.slot ∙ ap (λ (c : Connection). c.peer) (sym badge);
      stopped = stopped;
      items = items;
      beats = beats;
      serves = serves;
    }

-- after an event that begins something new
pub keeps_next : {S H F : Type 0} (told : H → BadgeState → List Reply → H → BadgeState → Type 0) (refused : H → BadgeState → Fault → Type 0) (contents : S → Option (List ℕ)) (has_failed : S → Bool) (is_stopped : F → Bool)
    (same : KeepsConnection told) (old new : WorkState S H F) (event : Event) → IsPeerWork told refused contents has_failed is_stopped old
    → is_over old ≡ false → begins (kind_of event) ≡ true → Begins told refused contents has_failed old event new
    → new.slot ≡ old.slot → (is_over new ≡ true → is_stopped new.flags ≡ true) → IsPeerWork told refused contents has_failed is_stopped new
keeps_next told refused contents has_failed is_stopped same old new event p going begun leads slot stopped =
    keeps told refused contents has_failed is_stopped old new (items_after p.items event) (p.beats ++ beat_in event) p slot
    (next_badge told refused contents has_failed same old new event p.items p.beats going leads p.serves) stopped
    (serves_next told refused contents has_failed same old new event p.items p.beats going begun leads p.serves)

-- with other flags that say as much of the stop
pub keeps_flags : {S H F : Type 0} (told : H → BadgeState → List Reply → H → BadgeState → Type 0) (refused : H → BadgeState → Fault → Type 0) (contents : S → Option (List ℕ)) (has_failed : S → Bool) (is_stopped : F → Bool)
    (work : WorkState S H F) (flags : F) → is_stopped flags ≡ is_stopped work.flags
    → IsPeerWork told refused contents has_failed is_stopped work → IsPeerWork told refused contents has_failed is_stopped (record work { flags = flags })
keeps_flags told refused contents has_failed is_stopped work flags same p =
    record {
      slot = p.slot;
      stopped = λ over. same ∙ p.stopped over;
      items = p.items;
      beats = p.beats;
      serves = serves_flags told refused contents has_failed work flags p.items p.beats p.serves;
    }
