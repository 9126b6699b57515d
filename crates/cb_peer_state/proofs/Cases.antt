-- What a session makes of messages and answers, case by case.
use Rattle.std.proofs.Common.{◌≡◌, Bool, true, false, cond, List, [], None, refl, sym, ap, ◌∙◌}
use Rattle.std.specs.Prelude.{not}
use Rattle.cb_block.specs.declared.block.Block.{Block}
use Rattle.cb_chain.specs.Entries.{block_hash}
use Rattle.cb_base.specs.declared.hash.Hash256.{Hash256}
use Rattle.cb_peer_state.specs.Fetching.{is_due}
use Rattle.cb_hall.specs.declared.answer.Answer.{Answer}
use Rattle.cb_wire.specs.declared.message.Message.{Message}
use Rattle.cb_peer_state.specs.declared.event.Event.{Event}
use Rattle.cb_peer_state.specs.declared.event.Event.TheVariants as events
use Rattle.cb_peer_state.specs.declared.stage.Stage.TheVariants.{About, Wanted, Fresh}
use Rattle.cb_peer_state.specs.declared.stage.Subject.TheVariants as subjects
use Rattle.cb_peer_state.specs.declared.state.CloseReason.TheVariants as reasons
use Rattle.cb_peer_state.specs.Receiving.{Outcome, asks, brought, ended, ends, heard_of, sends}
use Rattle.cb_block.specs.Decision.{is_sound_block}
use Rattle.cb_peer_state.specs.declared.session_state.SessionState.{SessionState}
use Rattle.cb_peer_state.specs.Session.{open_step, probed, stays, step_of, told}
use Rattle.cb_peer_state.specs.State.{dropping, is_closed, is_partial, is_ready, landing, with_partial}

pub by_test : {A : Type 0} (P : A → Type 0) (test : Bool) (x y : A) → (test ≡ true → P x) → (test ≡ false → P y) → P (cond test x y)
by_test P true x y one other = one refl
by_test P false x y one other = other refl

-- the end of an item
pub ends_cases : (P : Outcome → Type 0) (s : SessionState) (sent : List Message) → (is_ready s.state ≡ false → P (sends s sent)) → (is_ready s.state ≡ true → is_due s.fetch ≡ true → P (asks s sent Wanted)) → (is_ready s.state ≡ true → is_due s.fetch ≡ false → P (asks s sent Fresh)) → P (ends s sent)
unfolding ends
ends_cases P s sent idle due fresh =
    let ready : (b : Bool) → is_ready s.state ≡ b → P (cond (not b) (sends s sent) (cond (is_due s.fetch) (asks s sent Wanted) (asks s sent Fresh))) =
    elim [
      | true ↦ λ r. by_test P (is_due s.fetch) (asks s sent Wanted) (asks s sent Fresh) (due r) (fresh r)
      | false ↦ λ r. idle r
    ] in
    ready (is_ready s.state) refl

pub sent_at_end : (s : SessionState) (sent : List Message) → (ends s sent).messages ≡ sent
sent_at_end s sent = ends_cases (λ outcome. outcome.messages ≡ sent) s sent (λ _. refl) (λ _ _. refl) (λ _ _. refl)

-- what is kept of a block that came whole
pub dropping_cases : (P : SessionState → Type 0) (hash : Hash256) (s : SessionState) → P (with_partial None s) → P s → P (dropping hash s)
dropping_cases P hash s dropped same = by_test P (is_partial hash s.compact.partial) (with_partial None s) s (λ _. dropped) (λ _. same)

-- a block
pub brought_cases : (P : Outcome → Type 0) (s : SessionState) (block : Block) → (is_sound_block block ≡ true → P (asks (heard_of (block_hash block.header) (dropping (block_hash block.header) (landing (block_hash block.header) s))) [] (About subjects.Block))) → P (ended reasons.BadBlock s) → P (brought s block)
unfolding brought
brought_cases P s block sound unsound =
    by_test P (is_sound_block block) (asks (heard_of (block_hash block.header) (dropping (block_hash block.header) (landing (block_hash block.header) s))) [] (About subjects.Block)) (ended reasons.BadBlock s) sound (λ _. unsound)

-- an answer
pub step_told : (s kept : SessionState) (event : Event) (answer : Answer) → kept ≡ s → event ≡ events.Told answer → is_closed kept.state ≡ false → told kept.pending kept answer ≡ step_of s event
unfolding step_of open_step
step_told s kept event answer same is going =
    sym (ap (λ (closed : Bool). cond closed (stays kept) (open_step kept (events.Told answer))) going)
    ∙ ap (λ (t : SessionState). step_of t (events.Told answer)) same
    ∙ ap (step_of s) (sym is)

-- a probe
pub step_probed : (s kept : SessionState) (event : Event) → kept ≡ s → event ≡ events.Probe → is_closed kept.state ≡ false → probed kept ≡ step_of s event
unfolding step_of open_step
step_probed s kept event same is going =
    sym (ap (λ (closed : Bool). cond closed (stays kept) (open_step kept events.Probe)) going)
    ∙ ap (λ (t : SessionState). step_of t events.Probe) same
    ∙ ap (step_of s) (sym is)
