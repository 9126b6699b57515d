-- From what the works of a finished crew were given, what was made of each connection.
use Rattle.std.proofs.Common.{◌≡◌, ℕ, suc, ◌+◌, Bool, true, false, ◌||◌, List, [], ◌∷◌, ◌++◌, Option, refl, sym, ap, subst, ◌∙◌, length, All, arith, inl, inr, ◌⊎◌}
use Rattle.std.specs.Prelude.{◌≢◌, Contains}
use Rattle.std.specs.List.{AllZip, fold, list_any}
use Rattle.std.proofs.lemmas.List.Elements.{All-head, All-tail, All-weaker}
use Rattle.cb_base.specs.declared.fault.Fault.{Fault}
use Rattle.cb_crew.specs.Laws.{IsBeginning}
use Rattle.cb_hall.specs.Badge.{BadgeState}
use Rattle.cb_hall.specs.Histories.{Reply}
use Rattle.cb_wire.specs.Stream.{texts}
use Rattle.cb_peer_state.specs.declared.event.Event.{Event}
use Rattle.cb_peer_state.specs.declared.event.Event.TheVariants as events
use Rattle.cb_peer_state.specs.declared.settings.Settings.{Settings}
use Rattle.cb_peer_state.specs.declared.state.State.TheVariants.{Closed, Start}
use Rattle.cb_peer_state.specs.declared.state.CloseReason.TheVariants.{Bye}
use Rattle.cb_peer_state.specs.Event.{is_reader_end, is_told, loses}
use Rattle.cb_peer_state.specs.State.{is_closed}
use Rattle.cb_trace.specs.declared.trace.TraceEntry.{TraceEntry}
use Rattle.cb_trace.specs.Fold.{Account, account_of, account_step, first_account, has_kind, inputs_of, session_of}
use Rattle.cb_trace.specs.Kept.{KeepsHistory}
use Rattle.cb_trace.specs.Trace.{weight_of}
use Rattle.cb_trace.proofs.Entries.{entry_bye}
use Rattle.cb_trace.proofs.Handed.{each_given}
use Rattle.cb_session.specs.Serving.{has_end}
use Rattle.cb_crew.specs.declared.work.Given.{Given}
use Rattle.cb_crew.specs.declared.work.Given.TheVariants as given
use Rattle.cb_crew.specs.declared.reader_side.ReaderSide.{ReaderSide}
use Rattle.cb_crew.specs.Crew.{CrewState, all_queued}
use Rattle.cb_crew.specs.Desk.{DeskState, KeepsWorks, first_label}
use Rattle.cb_crew.specs.Headline.{InOrder, IsFinished, IsSettled, NothingAfterEnd, works_of}
use Rattle.cb_crew.specs.Work.{IsKeptOrLetGo, connections_of}
use Rattle.cb_session.specs.declared.input.Input.{Input}
use Rattle.cb_session.specs.declared.input.Input.TheVariants as inputs
use Rattle.cb_work.specs.PeerWork.{WasGiven, WorkState, events_of, is_over, was_starved}
use Rattle.cb_peers.specs.Headline.{IsHeadline, IsSameOrEmptied, KeepsTraces, ServesConnection, ServesPeer, ServesSide, peer_label}

-- ---- a session that the peer's own end ended was given that end

bye_fold : (account : Account) (entries : List TraceEntry) → (fold account_step account entries).session.state ≡ Closed Bye → (account.session.state ≡ Closed Bye) ⊎ (has_end entries ≡ true)
bye_fold account [] e = inl e
bye_fold account (entry ∷ entries) e =
    elim (bye_fold (account_step account entry) entries e) [
      | inl x ↦ elim (entry_bye account.count account.session entry x) [ inl y ↦ inl y | inr y ↦ inr (ap (λ b. b || has_end entries) y) ]
      | inr x ↦ inr (any_later (is_reader_end entry.event) (has_end entries) x)
    ]
  where
    any_later : (a b : Bool) → b ≡ true → (a || b) ≡ true
    any_later true b e = refl
    any_later false b e = e

bye_ended : (settings : Settings) (history : List TraceEntry) → (session_of settings history).state ≡ Closed Bye → has_end history ≡ true
unfolding account_of
bye_ended settings history e =
    elim (bye_fold (first_account settings) history e) [ inl x ↦ absurd (let y : Start ≡ Closed Bye = x in cc) | inr x ↦ x ]

end_is_input : (history : List TraceEntry) → has_end history ≡ true → list_any is_reader_end (inputs_of history) ≡ true
end_is_input [] e = absurd cc
end_is_input (entry ∷ history) e = by_event entry.event e (end_is_input history)
  where
    by_event : (event : Event) → (is_reader_end event || has_end history) ≡ true → (has_end history ≡ true → list_any is_reader_end (inputs_of history) ≡ true) → list_any is_reader_end (inputs_of (record { event = event; starved = entry.starved } ∷ history)) ≡ true
    by_event (events.Said item) e later = later e
    by_event (events.Broken fault) e later = later e
    by_event events.Tick e later = later e
    by_event events.Probe e later = later e
    by_event (events.Told answer) e later = later e
    by_event events.ReaderEnd e later = refl
    by_event events.NoMemory e later = later e
    by_event events.HallFull e later = later e
    by_event events.WriteFault e later = later e

-- ---- what was given, and what was queued

-- the events of a prefix are a prefix
events_begin : (items rest : List (Given Input)) → IsBeginning (events_of items) (events_of (items ++ rest))
events_begin [] rest = (events_of rest, refl)
events_begin (given.Item (inputs.Said item) ∷ items) rest = let later = events_begin items rest in (later.0, ap (λ (l : List Event). events.Said item ∷ l) later.1)
events_begin (given.Item (inputs.Broken fault) ∷ items) rest = let later = events_begin items rest in (later.0, ap (λ (l : List Event). events.Broken fault ∷ l) later.1)
events_begin (given.Item inputs.NoMemory ∷ items) rest = ([], refl)
events_begin (given.End ∷ items) rest = let later = events_begin items rest in (later.0, ap (λ (l : List Event). events.ReaderEnd ∷ l) later.1)

later_given : (item : Given Input) (items : List (Given Input)) → Contains items given.End → Contains (item ∷ items) given.End
later_given item items has = (suc has.0, omega (arith, has.1), has.2)

-- where the session was given the end, the work was
end_given : (items : List (Given Input)) → list_any is_reader_end (events_of items) ≡ true → Contains items given.End
end_given [] e = absurd cc
end_given (given.Item (inputs.Said item) ∷ items) e = later_given _ items (end_given items e)
end_given (given.Item (inputs.Broken fault) ∷ items) e = later_given _ items (end_given items e)
end_given (given.Item inputs.NoMemory ∷ items) e = absurd cc
end_given (given.End ∷ items) e = (0, omega arith, refl)

-- and memory didn't run out before it
end_kept : (items : List (Given Input)) → NothingAfterEnd items → list_any is_reader_end (events_of items) ≡ true → was_starved items ≡ false
end_kept [] none e = absurd cc
end_kept (given.Item (inputs.Said item) ∷ items) none e = end_kept items none e
end_kept (given.Item (inputs.Broken fault) ∷ items) none e = end_kept items none e
end_kept (given.Item inputs.NoMemory ∷ items) none e = absurd cc
end_kept (given.End ∷ items) none e = ap was_starved none

-- ---- one connection

-- what is missing, where the hall answered and nothing was lost
none_missing : (held_back missing : List ℕ) (answered lost lose : Bool) → (held_back ≢ [] → answered ≡ false) → (lost ≡ false → missing ≡ held_back) → lose ≡ lost → answered ≡ true → lose ≡ false → missing ≡ []
none_missing [] missing answered lost lose unasked whole same is none = whole (sym same ∙ none)
none_missing (byte ∷ others) missing answered lost lose unasked whole same is none =
    absurd (let silent : answered ≡ false = unasked (λ e. absurd (let clash : byte ∷ others ≡ [] = e in cc)) in let clash : true ≡ false = sym is ∙ silent in cc)

-- a badge that counted nothing before counts the replies
as_counted : (told replies count : ℕ) → told ≡ replies → count ≡ 0 + replies → told ≡ count
as_counted told replies count same counted = omega (arith, same, counted)

abbrev HasAll : {S H F : Type 0} → WorkState S H F → Type 0
HasAll work = KeepsHistory work.trace

abbrev trace_weight : {S H F : Type 0} → WorkState S H F → ℕ
trace_weight work = weight_of work.trace

module _ {S H F : Type 0} (told : H → BadgeState → List Reply → H → BadgeState → Type 0) (refused : H → BadgeState → Fault → Type 0) (contents : S → Option (List ℕ)) (has_failed : S → Bool)
    (counts : (a b : H) (x y : BadgeState) (replies : List Reply) → told a x replies b y → y.count ≡ x.count + length replies) where
  serves_connection : (work : WorkState S H F) (queued : List (Given Input)) → InOrder (WasGiven told refused contents has_failed) work queued → is_over work ≡ true → ServesConnection contents work queued
  serves_connection work queued order over =
      let serves = order.are_given.1 in
      let stands = serves.stands in
      let account = stands.sent.accounts in
      let history = account.history in
      let settings = work.trace.settings in
      let begin : IsBeginning (events_of order.items) (events_of queued) =
      subst (λ (l : List (Given Input)). IsBeginning (events_of order.items) (events_of l)) (sym order.begin.1) (events_begin order.items order.begin.0) in
      let ended : (session_of settings history).state ≡ Closed Bye → list_any is_reader_end (events_of order.items) ≡ true =
      (λ bye. ap (list_any is_reader_end) (sym account.inputs_are) ∙ end_is_input history (bye_ended settings history bye)) in
      record {
        history = history;
        stands = account.stands;
        in_order =
            record {
              later = begin.0;
              beginning = ap (λ (l : List Event). l ++ begin.0) account.inputs_are ∙ sym begin.1;
              none_after = account.stands.each;
              all_at_bye = λ bye. account.inputs_are ∙ ap events_of (order.whole (end_given order.items (ended bye)));
            };
        kept_at_bye = λ bye.
            let end = ended (ap (λ s. s.state) (sym account.stands.session) ∙ bye) in
            ap was_starved (sym (order.whole (end_given order.items end))) ∙ end_kept order.items order.none_after end;
        over = over;
        prompt = record { each = account.prompt; done = λ going. absurd (let clash : true ≡ false = sym over ∙ ap (λ s. is_closed s.state) account.stands.session ∙ going in cc) };
        session = account.stands.session;
        sink = serves.sink;
        empty = serves.empty;
        missing = stands.sent.missing;
        wrote = account.wrote;
        whole = none_missing (texts work.unsent) stands.sent.missing (has_kind is_told history) stands.sent.lost (has_kind loses history) stands.unasked stands.sent.whole account.losses;
        answers = as_counted _ _ _ account.each_told (counts serves.hall work.hall _ work.badge _ account.replies_are);
        blocks = each_given settings history;
      }

  -- ---- all of them

  serves_each : (works : List (WorkState S H F)) (queued : List (List (Given Input))) → AllZip (InOrder (WasGiven told refused contents has_failed)) works queued → All (λ work. is_over work ≡ true) works → AllZip (ServesConnection contents) works queued
  serves_each [] [] order over = tt
  serves_each [] (next ∷ queued) order over = absurd order
  serves_each (work ∷ works) [] order over = absurd order
  serves_each (work ∷ works) (next ∷ queued) order over =
      (serves_connection work next order.0 (All-head (λ (w : WorkState S H F). is_over w ≡ true) work works over), serves_each works queued order.1 (All-tail (λ (w : WorkState S H F). is_over w ≡ true) work works over))

  serves_sides : (sides : List (ReaderSide Input (WorkState S H F))) (desks : List (DeskState (WorkState S H F) Input)) → AllZip (λ side desk. IsSettled peer_label (WasGiven told refused contents has_failed) is_over (all_queued side) desk) sides desks → AllZip (ServesSide contents) sides desks
  serves_sides [] [] settled = tt
  serves_sides [] (desk ∷ desks) settled = absurd settled
  serves_sides (side ∷ sides) [] settled = absurd settled
  serves_sides (side ∷ sides) (desk ∷ desks) settled =
      let served : ServesPeer contents (first_label peer_label desk) (all_queued side) (works_of desk) =
      record { whose = settled.0.served.whose; each = serves_each (works_of desk) (connections_of (all_queued side)) settled.0.served.each settled.0.served.closed } in
      (record { taken = settled.0.taken; served = served }, serves_sides sides desks settled.1)

  -- a work that let go keeps no entry
  same_or_emptied : (ticked : WorkState S H F → List ℕ → Type 0) (old new : List (WorkState S H F))
      → AllZip (IsKeptOrLetGo peer_label (WasGiven told refused contents has_failed) ticked is_over trace_weight) old new → AllZip IsSameOrEmptied old new
  same_or_emptied ticked [] [] each = tt
  same_or_emptied ticked [] (work ∷ new) each = absurd each
  same_or_emptied ticked (work ∷ old) [] each = absurd each
  same_or_emptied ticked (work ∷ old) (other ∷ new) each =
      (elim each.0 [ inl same ↦ inl same | inr gone ↦ inr gone.nothing ], same_or_emptied ticked old new each.1)

  keeps_traces : (ticked : WorkState S H F → List ℕ → Type 0) (desk : DeskState (WorkState S H F) Input)
      → KeepsWorks peer_label (WasGiven told refused contents has_failed) ticked is_over HasAll trace_weight desk → KeepsTraces desk
  keeps_traces ticked desk keeps =
      record { latest = keeps.latest; ended = keeps.ended; whole = keeps.whole; each = same_or_emptied ticked keeps.ended desk.past keeps.past.each; recent = keeps.past.latest }

  pub is_headline : {ticked : WorkState S H F → List ℕ → Type 0} (crew : CrewState) (sides : List (ReaderSide Input (WorkState S H F))) (desks : List (DeskState (WorkState S H F) Input))
      → IsFinished peer_label (WasGiven told refused contents has_failed) ticked is_over HasAll trace_weight crew sides desks → IsHeadline contents crew sides desks
  is_headline {ticked} crew sides desks finished =
      record {
        peers = finished.peers;
        inboxes = finished.names;
        labels = finished.labels;
        each = serves_sides sides desks finished.settled;
        kept = All-weaker (KeepsWorks peer_label (WasGiven told refused contents has_failed) ticked is_over HasAll trace_weight) KeepsTraces (keeps_traces ticked) desks finished.kept;
      }
