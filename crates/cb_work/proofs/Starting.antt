-- A new work.
use Rattle.std.proofs.Common.{◌≡◌, ℕ, Bool, false, List, [], refl}
use Rattle.std.specs.Prelude.{Option}
use Rattle.cb_base.specs.declared.fault.Fault.{Fault}
use Rattle.cb_hall.specs.Badge.{BadgeState}
use Rattle.cb_hall.specs.Histories.{Reply}
use Rattle.cb_peer_state.specs.Session.{openings}
use Rattle.cb_trace.specs.Kept.{KeepsHistory}
use Rattle.cb_trace.specs.Trace.{StandsFor}
use Rattle.cb_trace.proofs.Keeping.{new_keeps}
use Rattle.cb_session.proofs.Accounts.{IsOracle, not_both}
use Rattle.cb_session.proofs.Ending.{first_open}
use Rattle.cb_crew.specs.Work.{IsFresh}
use Rattle.cb_work.specs.declared.flags.Beats.{Beats}
use Rattle.cb_work.specs.PeerWork.{HoldsNothing, IsPeerWork, WasGiven, WasTicked, WorkState, is_over}
use Rattle.cb_work.proofs.Serving.{serves_first}
use Rattle.cb_work.proofs.Ticking.{each_all}

-- what a work begins with
pub record Begun {S H F : Type 0} (contents : S → Option (List ℕ)) (has_failed : S → Bool) (looks : F → List Beats → Type 0) (work : WorkState S H F) : Type 0 where
  pub stands : StandsFor work.trace []
  pub unsent : work.unsent ≡ openings work.trace.settings
  pub none : work.badge.count ≡ 0
  pub unmarked : work.badge.full ≡ false
  pub unwritten : work.written ≡ 0
  pub empty : HoldsNothing (contents work.sink)
  pub unfailed : has_failed work.sink ≡ false
  pub unlooked : looks work.flags []

-- it keeps what every work keeps
pub keeps_first : {S H F : Type 0} (told : H → BadgeState → List Reply → H → BadgeState → Type 0) (refused : H → BadgeState → Fault → Type 0) (contents : S → Option (List ℕ)) (has_failed : S → Bool) (looks : F → List Beats → Type 0) (is_stopped : F → Bool)
    (oracle : IsOracle told refused) (work : WorkState S H F) → work.slot ≡ work.badge.connection.peer → Begun contents has_failed looks work → IsPeerWork told refused contents has_failed is_stopped work
keeps_first told refused contents has_failed looks is_stopped oracle work slot b =
    record {
      slot = slot;
      stopped = λ over. not_both (is_over work) (first_open work.trace b.stands) over;
      items = [];
      beats = [];
      serves = serves_first told refused contents has_failed oracle work b.stands b.unsent b.none b.unmarked b.unwritten b.empty b.unfailed;
    }

-- and may begin a connection
pub fresh_first : {S H F : Type 0} (told : H → BadgeState → List Reply → H → BadgeState → Type 0) (refused : H → BadgeState → Fault → Type 0) (contents : S → Option (List ℕ)) (has_failed : S → Bool) (looks : F → List Beats → Type 0)
    (oracle : IsOracle told refused) (work : WorkState S H F) → Begun contents has_failed looks work
    → IsFresh (WasGiven told refused contents has_failed) (WasTicked told refused contents has_failed looks) is_over (λ (w : WorkState S H F). KeepsHistory w.trace) work
fresh_first told refused contents has_failed looks oracle work b =
    let serves = serves_first told refused contents has_failed oracle work b.stands b.unsent b.none b.unmarked b.unwritten b.empty b.unfailed in
    record {
      nothing = ([], serves);
      unticked = record { answers = []; looked = b.unlooked; often = refl; items = []; beats = []; serves = serves; each = each_all [] [] _ refl };
      live = first_open work.trace b.stands;
      whole = new_keeps work.trace b.stands;
    }
