-- The law of a link with a neighbour that isn't a node, call by call.
use Rattle.std.proofs.Common.{◌≡◌, Bool, true, false, List, [], ◌++◌, Option, sym, ap, subst, ◌∙◌, append_assoc}
use Rattle.std.specs.Prelude.{not, option_to_list}
use Rattle.std.proofs.lemmas.Bool.{and_parts}
use Rattle.cb_wire.specs.declared.message.Message.{Message}
use Rattle.cb_hall.specs.Badge.{BadgeState}
use Rattle.cb_hall.specs.Histories.{Reply}
use Rattle.cb_peer_state.specs.declared.event.Event.{Event}
use Rattle.cb_peer_state.specs.declared.session_state.SessionState.{SessionState}
use Rattle.cb_peer_state.specs.declared.settings.Settings.{Settings}
use Rattle.cb_peer_state.specs.Session.{openings}
use Rattle.cb_peer_state.specs.State.{is_closed}
use Rattle.cb_trace.specs.Fold.{account_of, sends}
use Rattle.cb_trace.specs.Trace.{StandsFor, TraceView}
use Rattle.cb_session.specs.Conversation.{IsAnswered}
use Rattle.cb_net_node.specs.Talks.{GoesOn, Sends}
use Rattle.cb_net_node.specs.Ends.{Begins, with_hall}
use Rattle.cb_net_node.specs.Link.{AddUp}
use Rattle.cb_net_node.specs.LooseLink.{IsLooseLink, LooseView, is_loose_open}
use Rattle.cb_net_node.specs.declared.end.End.{End}
use Rattle.cb_net_node.specs.declared.end.Start.{Start}
use Rattle.cb_net_node.proofs.Handing.{Went, WentOn, lost_parts}

abbrev pub loose : Bool → End → List Message → LooseView
loose lasts end sent = record { end = end; sent = sent; lasts = lasts }

pub loose_begun : (start : Start) (end : End) (sent : List Message) → Begins start end → sent ≡ openings start.settings → IsLooseLink (loose true end sent)
unfolding account_of
loose_begun start end sent b e =
    record {
      history = [];
      stands = b.stands;
      taken = [];
      add_up = e ∙ ap openings (sym b.settings);
      answered = λ lasts going. ap (λ (s : SessionState). s.pending) b.stands.session;
    }

-- the session was given something
pub loose_sends : {H : Type 0} (told : H → BadgeState → List Reply → H → BadgeState → Type 0) (old new : End) (hall hall' : H) (inputs beats : List Event) (waiting waiting' : List Message)
    → Sends told (with_hall old hall) (with_hall new hall') inputs beats waiting waiting' → IsAnswered new.trace → IsLooseLink (loose true old waiting) → IsLooseLink (loose true new waiting')
loose_sends told old new hall hall' inputs beats waiting waiting' s answered l =
    let on : GoesOn told l.history (with_hall old hall) (with_hall new hall') inputs beats s.sent = s.talks.each l.history l.stands in
    record {
      history = on.later;
      stands = on.stands;
      taken = l.taken;
      add_up =
          ap (λ (m : List Message). l.taken ++ m) s.behind ∙ sym (append_assoc l.taken waiting s.sent) ∙ ap (λ (m : List Message). m ++ s.sent) l.add_up
          ∙ sym (ap (λ (k : Settings). sends k on.later) s.talks.settings ∙ on.sends_are);
      answered = λ lasts. answered;
    }

-- the link ended
pub loose_ended : (lasts : Bool) (old new : End) (waiting waiting' handed : List Message) → Went lasts handed old.trace new.trace → IsLooseLink (loose lasts old waiting) → IsLooseLink (loose false new waiting')
loose_ended lasts old new waiting waiting' handed w l =
    let on : WentOn lasts handed old.trace new.trace l.history = w.each l.history l.stands in
    record {
      history = on.later;
      stands = on.stands;
      taken = l.taken;
      add_up =
          subst (λ (m : List Message). AddUp false l.taken waiting' m) (sym (ap (λ (k : Settings). sends k on.later) w.settings ∙ on.sends_are))
          (lost_parts lasts l.taken waiting (sends old.trace.settings l.history) on.more l.add_up);
      answered = λ e. absurd (let clash : false ≡ true = e in cc);
    }

-- the neighbour took one
pub loose_taken : (end : End) (waiting waiting' : List Message) (one : Option Message) → waiting ≡ option_to_list one ++ waiting' → IsLooseLink (loose true end waiting) → IsLooseLink (loose true end waiting')
loose_taken end waiting waiting' one e l =
    record {
      history = l.history;
      stands = l.stands;
      taken = l.taken ++ option_to_list one;
      add_up = append_assoc l.taken (option_to_list one) waiting' ∙ ap (λ (m : List Message). l.taken ++ m) (sym e) ∙ l.add_up;
      answered = l.answered;
    }

-- something else was put on its way to the session
pub loose_put : (lasts : Bool) (old new : End) (waiting : List Message) → new.trace ≡ old.trace → IsLooseLink (loose lasts old waiting) → IsLooseLink (loose lasts new waiting)
loose_put lasts old new waiting same l =
    record {
      history = l.history;
      stands = subst (λ (t : TraceView). StandsFor t l.history) (sym same) l.stands;
      taken = l.taken;
      add_up = subst (λ (t : TraceView). AddUp lasts l.taken waiting (sends t.settings l.history)) (sym same) l.add_up;
      answered = λ e. subst (λ (t : TraceView). IsAnswered t) (sym same) (l.answered e);
    }

-- and so where it is known to last
pub loose_took : (lasts : Bool) (end : End) (waiting waiting' : List Message) (one : Option Message) → lasts ≡ true → waiting ≡ option_to_list one ++ waiting' → IsLooseLink (loose lasts end waiting) → IsLooseLink (loose lasts end waiting')
loose_took lasts end waiting waiting' one e first l =
    subst (λ (b : Bool). IsLooseLink (loose b end waiting')) (sym e) (loose_taken end waiting waiting' one first (subst (λ (b : Bool). IsLooseLink (loose b end waiting)) e l))

-- of the fields behind a view
pub loose_law : (lasts : Bool) (end : End) (sent : List Message) (view : LooseView) → loose lasts end sent ≡ view → is_loose_open view ≡ true → IsLooseLink (loose lasts end sent) → IsLooseLink (loose true end sent)
loose_law lasts end sent view same e l =
    subst (λ (b : Bool). IsLooseLink (loose b end sent))
    (and_parts lasts (not (is_closed end.trace.session.state)) (ap (λ (v : LooseView). is_loose_open v) same ∙ e)).0 l
