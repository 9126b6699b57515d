-- What was read of a connection, as its seat is left.
use Rattle.std.proofs.Common.{◌≡◌, ℕ, ◌+◌, Bool, true, false, List, [], ◌∷◌, ◌++◌, length, drop, Option, Some, inl, inr, refl, sym, ap, subst, ◌∙◌, arith}
use Rattle.std.specs.List.{flat_map}
use Rattle.std.proofs.lemmas.List.{append-nil, append_assoc, append_cancel_left, length-append, take-append-drop}
use Rattle.std.proofs.lemmas.Grind.{flat_map-append}
use Rattle.cb_crew.specs.declared.queued.Queued.{Queued}
use Rattle.cb_crew.specs.declared.queued.Queued.TheVariants as queued
use Rattle.cb_crew.specs.Queued.{has_ended}
use Rattle.cb_crew.specs.Seat.{SeatState}
use Rattle.cb_crew.specs.declared.reader_side.ReaderSide.{ReaderSide}
use Rattle.cb_crew.specs.declared.reader_side.ReaderSide.TheVariants as side
use Rattle.cb_crew.specs.Work.{brought_by, openings_of}
use Rattle.cb_base.specs.declared.read_end.ReadEnd.{ReadEnd}
use Rattle.cb_session.specs.declared.input.Input.{Input}
use Rattle.cb_session.specs.Putting.{SeatNow}
use Rattle.cb_session.specs.Reading.{Reads}
use Rattle.cb_service.specs.Service.{HasEnded, queued_by}
use Rattle.cb_peers.specs.Seat.{IsSameSeat, SeatView, before_in, input_in, is_ended, marks_of, put_in}
use Rattle.cb_peers.specs.Reading.{HasRead, opened}

abbrev pub now_with : List Input → Bool → ℕ → Bool → SeatNow
now_with queued ended counted stopped = record { queued = queued; ended = ended; counted = counted; stopped = stopped }

abbrev pub now_of : {O : Type 0} → SeatView O → Bool → SeatNow
now_of seat stopped = now_with (put_in seat) (is_ended seat.side) (length (marks_of seat.side)) stopped

-- a seat in which nothing was put, as a reader sees it
opened_now : {O : Type 0} (before : List (Queued Input O)) (old : SeatView O) (stopped : Bool) → put_in old ≡ [] → is_ended old.side ≡ false → marks_of old.side ≡ before → now_of old stopped ≡ opened (length before) stopped
opened_now before old stopped nothing live marks =
    ap (λ q. now_with q (is_ended old.side) (length (marks_of old.side)) stopped) nothing
    ∙ ap (λ e. now_with [] e (length (marks_of old.side)) stopped) live
    ∙ ap (λ m. now_with [] false (length m) stopped) marks

-- the marks of the connection, and then these, which are no input
pub left_by : {O : Type 0} {input remaining : Option (List ℕ)} {b f s t : Bool} {read : List ℕ} {why : ReadEnd} (before : List (Queued Input O)) (old new : SeatView O) (after more : List (Queued Input O))
    → put_in old ≡ [] → before_in old ≡ before → is_ended old.side ≡ false → marks_of old.side ≡ before → IsSameSeat old new
    → Reads input remaining b f (now_of old s) (now_of new t) read why → after ≡ marks_of new.side ++ more → openings_of more ≡ [] → flat_map input_in more ≡ []
    → (is_ended new.side ≡ true → has_ended after ≡ true)
    → HasRead input remaining b f s t read why before after
left_by {O} {input} {remaining} {b} {f} {s} {t} {read} {why} before old new after more nothing was live marks same reads is quiet none last =
    let all = marks_of new.side in
    let here = drop new.first all in
    let parts : all ≡ before ++ here = sym (take-append-drop new.first all) ∙ ap (λ xs. xs ++ here) (same.before ∙ was) in
    let kept : openings_of before ++ openings_of here ≡ openings_of before ++ [] =
    sym (flat_map-append brought_by before here) ∙ sym (ap openings_of parts) ∙ same.openings ∙ ap openings_of marks ∙ sym (append-nil (openings_of before)) in
    let unopened : openings_of here ≡ [] = append_cancel_left (openings_of before) (openings_of here) [] kept in
    let long : length after ≡ length all + length more = ap length is ∙ length-append all more in
    record {
      marks = here ++ more;
      grown = is ∙ ap (λ xs. xs ++ more) parts ∙ append_assoc before here more;
      unopened = flat_map-append brought_by here more ∙ ap (λ xs. xs ++ openings_of more) unopened ∙ quiet;
      now = now_of new t;
      stopped_is = refl;
      reads = subst (λ n. Reads input remaining b f n (now_of new t) read why) (opened_now before old s nothing live marks) reads;
      put = flat_map-append input_in here more ∙ ap (λ xs. put_in new ++ xs) none ∙ append-nil (put_in new);
      queued_all = omega (arith, long);
      ended_last = last;
    }

-- a seat whose connection lasted is left, as it is or after the end mark
pub left_live : {O : Type 0} {input remaining : Option (List ℕ)} {b f s t : Bool} {read : List ℕ} {why : ReadEnd} (before : List (Queued Input O)) (old new : SeatView O) (seat : SeatState (Queued Input O)) (left : ReaderSide Input O)
    → put_in old ≡ [] → before_in old ≡ before → is_ended old.side ≡ false → marks_of old.side ≡ before → IsSameSeat old new
    → Reads input remaining b f (now_of old s) (now_of new t) read why → Some (side.Live seat) ≡ new.side → HasEnded (side.Live seat) left
    → HasRead input remaining b f s t read why before (queued_by left)
left_live before old new seat left nothing was live marks same reads held (inl stays) =
    left_by before old new (queued_by left) [] nothing was live marks same reads (ap queued_by stays ∙ ap marks_of held ∙ sym (append-nil _)) refl refl
    (λ e. absurd (let y : false ≡ true = ap is_ended held ∙ e in cc))
left_live before old new seat left nothing was live marks same reads held (inr ends) =
    left_by before old new (queued_by left) (queued.End ∷ []) nothing was live marks same reads (ap queued_by ends.0 ∙ ap (λ xs. xs ++ queued.End ∷ []) (ap marks_of held)) refl refl
    (λ e. absurd (let y : false ≡ true = ap is_ended held ∙ e in cc))
