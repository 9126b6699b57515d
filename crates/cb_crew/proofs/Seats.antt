-- What a seat keeps, over the steps of its queue.
use Rattle.std.proofs.Common.{◌≡◌, ℕ, ◌+◌, ◌≤◌, Bool, true, false, cond, List, [], ◌∷◌, ◌++◌, length, Option, Some, None, Result, Ok, Err, refl, sym, ap, subst, ◌∙◌, arith}
use mir.Val.{bool_byte}
use Rattle.std.specs.Prelude.{OnOk, IfErr, IfNone, MatchOption}
use Rattle.std.proofs.lemmas.List.{append-nil, length-append, nil_from_length}
use Rattle.std.proofs.lemmas.List.Sums.{sum_by-append}
use Rattle.crossbeam_queue.specs.Passes.{Pass, view, IsSamePass}
use Rattle.cb_crew.specs.Line.{Line, connections, empty_line, line_put}
use Rattle.cb_crew.specs.Line as line
use Rattle.crossbeam_queue.specs.Fifo.{Held}
use Rattle.cb_crew.specs.Laws.{IsBeginning, ends_last}
use Rattle.cb_crew.proofs.LineLaws.{few}
use Rattle.cb_crew.specs.declared.queued.Queued.{Queued}
use Rattle.cb_crew.specs.declared.queued.Queued.TheVariants as queued
use Rattle.cb_crew.specs.declared.rule.SeatView.{SeatView}
use Rattle.cb_crew.specs.Queued.{is_end, is_open, has_ended}
use Rattle.cb_crew.specs.Rule.{IsOfALine, queued_view}
use Rattle.cb_crew.specs.Seat.{SeatState, MayQueue, IsSeat, IsFirst, IsFullBy, Counts, seat_state, queued_more}
use Rattle.cb_crew.proofs.Moves.{owner_put, follows_line}

-- the last mark tells whether it ended
last_ends : {Q : Type 0} (ends : Q → Bool) (b : Bool) (marks : List Q) (mark : Q) → ends_last ends b (marks ++ mark ∷ []) ≡ ends mark
last_ends ends b [] mark = refl
last_ends ends b (m ∷ marks) mark = last_ends ends (ends m) marks mark

pub ended_now : {M O : Type 0} (marks : List (Queued M O)) (mark : Queued M O) → has_ended (marks ++ mark ∷ []) ≡ is_end mark
ended_now marks mark = last_ends is_end false marks mark

-- one connection more with an open mark
pub connections_now : {M O : Type 0} (marks : List (Queued M O)) (mark : Queued M O) → connections is_open (marks ++ mark ∷ []) ≡ connections is_open marks + cond (is_open mark) 1 0
connections_now marks mark = omega (arith, sum_by-append (λ m. cond (is_open m) 1 0) marks (mark ∷ []))

-- a reader's list grew by what may be queued behind it
pub sees_queued : {M O : Type 0} (takes : Bool) (queued taken : List (Queued M O)) (mark : Queued M O) → MayQueue queued mark → IsOfALine true takes queued taken → IsOfALine true takes (queued ++ mark ∷ []) taken
sees_queued takes queued taken mark may s = record {
  line = line_put is_end s.line mark;
  reached = line.put s.line mark s.reached (follows_line s.line queued mark s.reached (s.knows.all_queued refl) may);
  knows = owner_put s.line mark true takes queued taken s.knows refl;
}

-- a line that a reader knows has 256 connections at the most
pub few_connections : {M O : Type 0} (takes : Bool) (queued taken : List (Queued M O)) → IsOfALine true takes queued taken → connections is_open queued ≤ 256
few_connections takes queued taken s = subst (λ ms. connections is_open ms ≤ 256) (sym (s.knows.all_queued refl)) (few s.reached)

-- a seat whose queue gave its pass back with another view
pub seat_at : {M O : Type 0} (reads takes : Bool) (old new : Pass (Queued M O) (SeatView M O)) (v : SeatView M O) → IsSamePass old new → old.me.1 ≡ [] → view new ≡ v → v.reads ≡ reads → v.takes ≡ takes → IsOfALine reads takes v.queued v.taken → IsSeat reads takes new
seat_at reads takes old new v same rest is r t sees = record {
  at_rest = same.2 ∙ rest;
  reads_is = ap (λ (w : SeatView _ _). w.reads) is ∙ r;
  takes_is = ap (λ (w : SeatView _ _). w.takes) is ∙ t;
  sees = subst (λ (w : SeatView _ _). IsOfALine reads takes w.queued w.taken) (sym is) sees;
}

-- what is seen by a seat whose rights are these
pub sees_as : {M O : Type 0} (v : SeatView M O) (reads takes : Bool) → v.reads ≡ reads → v.takes ≡ takes → IsOfALine v.reads v.takes v.queued v.taken → IsOfALine reads takes v.queued v.taken
sees_as v reads takes r t sees = subst (λ (b : Bool). IsOfALine b takes v.queued v.taken) r (subst (λ (b : Bool). IsOfALine v.reads b v.queued v.taken) t sees)

-- a seat whose queue gave its pass back, with what it sees
pub seat_seen : {M O : Type 0} (reads takes : Bool) (old new : Pass (Queued M O) (SeatView M O)) → IsSamePass old new → old.me.1 ≡ [] → (view new).reads ≡ reads → (view new).takes ≡ takes → IsOfALine (view new).reads (view new).takes (view new).queued (view new).taken → IsSeat reads takes new
seat_seen reads takes old new same rest r t sees = record { at_rest = same.2 ∙ rest; reads_is = r; takes_is = t; sees = sees_as (view new) reads takes r t sees }

-- the first seat of an inbox with these rights
pub first_seat : {M O : Type 0} (reads takes : Bool) (pass : Pass (Queued M O) (SeatView M O)) → IsFirst reads takes pass → IsSeat reads takes pass
first_seat reads takes pass first = record {
  at_rest = first.at_rest;
  reads_is = ap (λ (w : SeatView _ _). w.reads) first.view_is;
  takes_is = ap (λ (w : SeatView _ _). w.takes) first.view_is;
  sees = subst (λ (w : SeatView _ _). IsOfALine reads takes w.queued w.taken) (sym first.view_is)
      (record { line = empty_line; reached = line.opening; knows = record { queued_begins = ([], refl); taken_begins = ([], refl); all_queued = λ _. refl; all_taken = λ _. refl } });
}

pub first_counts : {M O : Type 0} (pass : Pass (Queued M O) (SeatView M O)) → IsFirst true false pass → Counts pass 0 1
first_counts pass first = record {
  is_reader = first_seat true false pass first;
  count_is = sym (ap (λ (w : SeatView _ _). length w.queued) first.view_is);
  connected_is = sym (ap (λ (w : SeatView _ _). connections is_open w.queued) first.view_is);
}

as_byte : (b : Bool) → bool_byte b ≡ cond b 1 0
as_byte true = refl
as_byte false = refl

-- the reader's seat with its numbers, after it queued
pub counts_queued : {M O : Type 0} (old new : Pass (Queued M O) (SeatView M O)) (mark : Queued M O) (count connected more : ℕ) → Counts old count connected → IsSamePass old new → view new ≡ queued_view (view old) mark → MayQueue (view old).queued mark → more ≡ bool_byte (is_open mark) → Counts new (count + 1) (connected + more)
counts_queued old new mark count connected more counts same is may opens =
    let s = counts.is_reader in
    record {
      is_reader = seat_at true false old new (queued_view (view old) mark) same s.at_rest is s.reads_is s.takes_is (sees_queued false (view old).queued (view old).taken mark may s.sees);
      count_is = omega (arith, counts.count_is, ap (λ (w : SeatView _ _). length w.queued) is, length-append (view old).queued (mark ∷ []));
      connected_is = omega (arith, counts.connected_is, ap (λ (w : SeatView _ _). connections is_open w.queued) is, connections_now (view old).queued mark, opens, as_byte (is_open mark));
    }

-- an end mark was queued
pub ends_here : {M O : Type 0} (old new : SeatState (Queued M O)) → new ≡ queued_more old queued.End → has_ended new.queued ≡ true
ends_here old new is = ap (λ (s : SeatState (Queued _ _)). has_ended s.queued) is ∙ ended_now old.queued queued.End

-- another mark was queued
pub opens_here : {M O : Type 0} (old new : SeatState (Queued M O)) (mark : Queued M O) → is_end mark ≡ false → new ≡ queued_more old mark → has_ended new.queued ≡ false
opens_here old new mark other is = ap (λ (s : SeatState (Queued _ _)). has_ended s.queued) is ∙ (ended_now old.queued mark ∙ other)

-- another mark was queued, or none
pub lives_on : {M O : Type 0} (r : Result (Unit {0}) (Queued M O)) (old new : SeatState (Queued M O)) (mark : Queued M O) (capacity : ℕ) → has_ended old.queued ≡ false → is_end mark ≡ false → OnOk r (new ≡ queued_more old mark) → IfErr r (λ back. (back ≡ mark) × (new ≡ old) × IsFullBy old capacity) → has_ended new.queued ≡ false
lives_on (Ok done) old new mark capacity live other ok err = opens_here old new mark other ok
lives_on (Err back) old new mark capacity live other ok err = ap (λ (s : SeatState (Queued _ _)). has_ended s.queued) err.1 ∙ live

none_left : {Q : Type 0} (queued taken items : List Q) → length items ≡ 0 → IsBeginning queued (taken ++ items) → IsBeginning queued taken
none_left queued taken items none b = subst (IsBeginning queued) (ap (λ ms. taken ++ ms) (nil_from_length items none) ∙ append-nil taken) b

-- nothing lay there
pub found_none : {M O : Type 0} (took : Queued M O → Type 0) (r : Option (Queued M O)) (old new : Pass (Queued M O) (SeatView M O)) (state : SeatState (Queued M O)) → seat_state old ≡ state → IsSamePass old new → MatchOption r ((view new ≡ view old) × Held 0 (λ items. IsBeginning (view old).queued ((view old).taken ++ items))) took → IfNone r ((seat_state new ≡ state) × IsBeginning state.queued state.taken)
found_none took (Some mark) old new state is same rule = tt
found_none took None old new state is same rule = rw (← is, same.0, rule.0) (refl, none_left (view old).queued (view old).taken rule.1.0 rule.1.1 rule.1.2)
