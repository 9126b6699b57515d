-- What a seat becomes as one more mark is queued.
use Rattle.std.proofs.Common.{◌≡◌, ◌≤◌, Bool, [], ◌∷◌, ◌++◌, length, take, drop, ap, ◌∙◌}
use Rattle.std.specs.List.{flat_map}
use Rattle.std.proofs.lemmas.List.{append-nil, drop-append-le, take-append-le, length-append}
use Rattle.std.proofs.lemmas.Grind.{flat_map-append}
use Rattle.cb_crew.specs.declared.queued.Queued.{Queued}
use Rattle.cb_crew.specs.Work.{brought_by, openings_of}
use Rattle.cb_session.specs.declared.input.Input.{Input}
use Rattle.cb_peers.specs.Seat.{HasTaken, SeatView, input_in, is_ended, marks_of}

-- one more mark, which opens nothing
pub taken_by : {O : Type 0} (old new : SeatView O) (mark : Queued Input O) (ended : Bool)
    → old.first ≤ length (marks_of old.side) → new.inbox ≡ old.inbox → new.first ≡ old.first
    → marks_of new.side ≡ marks_of old.side ++ mark ∷ [] → is_ended new.side ≡ ended → brought_by mark ≡ []
    → HasTaken old new (input_in mark) ended
taken_by old new mark ended le inbox first grown is quiet =
    let was = marks_of old.side in
    let dropped : drop new.first (marks_of new.side) ≡ drop old.first was ++ mark ∷ [] =
    ap (λ n. drop n (marks_of new.side)) first ∙ ap (drop old.first) grown ∙ drop-append-le old.first was (mark ∷ []) le in
    let kept : take new.first (marks_of new.side) ≡ take old.first was =
    ap (λ n. take n (marks_of new.side)) first ∙ ap (take old.first) grown ∙ take-append-le old.first was (mark ∷ []) le in
    let one : flat_map input_in (mark ∷ []) ≡ input_in mark = append-nil (input_in mark) in
    let none : openings_of (mark ∷ []) ≡ [] = append-nil (brought_by mark) ∙ quiet in
    record {
      put = ap (flat_map input_in) dropped ∙ flat_map-append input_in (drop old.first was) (mark ∷ []) ∙ ap (λ xs. flat_map input_in (drop old.first was) ++ xs) one;
      counts = ap length grown ∙ length-append was (mark ∷ []);
      ended_is = is;
      same = record {
        inbox = inbox;
        first = first;
        before = kept;
        openings = ap openings_of grown ∙ flat_map-append brought_by was (mark ∷ []) ∙ ap (λ xs. openings_of was ++ xs) none ∙ append-nil (openings_of was);
      };
    }
