-- What a reader queued, connection by connection, is what the bytes of its sockets spell.
use Rattle.std.proofs.Common.{◌≡◌, ℕ, Bool, true, false, cond, List, [], ◌∷◌, ◌++◌, map, Option, None, inl, inr, refl, sym, ap, subst, ◌∙◌}
use Rattle.std.specs.List.{AllZip, flat_map, onto_first, slice_split}
use Rattle.std.proofs.lemmas.List.{append-nil, append_assoc, map-append}
use Rattle.std.proofs.lemmas.Grind.{flat_map-append}
use Rattle.cb_crew.specs.declared.queued.Queued.{Queued}
use Rattle.cb_crew.specs.declared.queued.Queued.TheVariants as queued
use Rattle.cb_crew.specs.Queued.{is_open}
use Rattle.cb_crew.specs.Seat.{SeatState, queued_more}
use Rattle.cb_crew.specs.declared.work.Given.{Given}
use Rattle.cb_crew.specs.declared.work.Given.TheVariants as given
use Rattle.cb_crew.specs.declared.reader_side.ReaderSide.{ReaderSide}
use Rattle.cb_crew.specs.declared.reader_side.ReaderSide.TheVariants as side
use Rattle.cb_crew.specs.Work.{connections_of, given_by, openings_of}
use Rattle.cb_crew.proofs.Works.{HasFirst, connections_again, connections_more, onto_last, split_some, zip_push}
use Rattle.cb_base.specs.declared.read_end.ReadEnd.{ReadEnd}
use Rattle.cb_wire.specs.Stream.{Ends, Stream}
use Rattle.cb_wire.proofs.Streams.{front_at-nil}
use Rattle.cb_session.specs.declared.input.Input.{Input}
use Rattle.cb_service.specs.Service.{EndsOrStays, ended_of, queued_by}
use Rattle.cb_peers.specs.Seat.{input_in}
use Rattle.cb_peers.specs.Reading.{AreSpelled, AreSpelledBy, HasQueued, HasRead, IsSpelled, IsUnread, QueuedWhatItRead, input_of, inputs_of}

-- what a connection queued that was read is what the bytes spell
pub queued_of : {O : Type 0} {input remaining : Option (List ℕ)} {b f s t : Bool} {read : List ℕ} {why : ReadEnd} {before after : List (Queued Input O)} → HasRead input remaining b f s t read why before after → HasQueued read before after
queued_of {before = before} h = record {
  marks = h.marks;
  grown = h.grown;
  unopened = h.unopened;
  spelled = record {
    items = h.reads.items;
    last = h.reads.last;
    to_put = h.reads.to_put;
    later = h.reads.later;
    in_order = ap (λ (xs : List Input). xs ++ h.reads.later) (h.put ∙ h.reads.grown) ∙ h.reads.in_order;
  };
}

-- no bytes spell nothing
pub spelled_none : AreSpelledBy [] []
spelled_none =
    let start : Stream [] [] [] None = subst (λ front. Ends front [] [] None) (sym front_at-nil) (refl, refl) in
    record {
      items = [];
      last = None;
      to_put = record { heard = []; refused = []; parts = refl; rest = []; fault = None; stream = start; last_so = (refl, refl) };
      later = [];
      in_order = refl;
    }

-- of one connection nothing was read, and nothing was queued
pub none_spelled : {O : Type 0} (marks : List (Queued Input O)) → marks ≡ [] → AreSpelled ([] ∷ []) marks
none_spelled {O} marks none = subst (λ (ms : List (Queued Input O)). AreSpelled ([] ∷ []) ms) (sym none) (spelled_none, tt)

-- ---- lists place by place

zip_empty : {A B : Type 0} (R : A → B → Type 0) (xs : List A) → AllZip R xs [] → xs ≡ []
zip_empty R [] all = refl
zip_empty R (x ∷ xs) all = absurd all

-- without the last of both
zip_front : {A B : Type 0} (R : A → B → Type 0) (xs : List A) (ys : List B) (x : A) (y : B) → AllZip R (xs ++ x ∷ []) (ys ++ y ∷ []) → AllZip R xs ys
zip_front R [] [] x y all = tt
zip_front R [] (b ∷ []) x y all = absurd all.1
zip_front R [] (b ∷ c ∷ ys) x y all = absurd all.1
zip_front R (a ∷ []) [] x y all = absurd all.1
zip_front R (a ∷ c ∷ xs) [] x y all = absurd all.1
zip_front R (a ∷ xs) (b ∷ ys) x y all = (all.0, zip_front R xs ys x y all.1)

none_first : {A : Type 0} {x : A} {xs : List A} → [] ≡ x ∷ xs → ⊥
none_first is = cc

-- the last of the second list goes on
zip_onto : {A B : Type 0} (R : A → List B → Type 0) (xs : List A) (parts : List (List B)) (more : List B) → HasFirst parts → AllZip R xs parts → ((x : A) (part : List B) → R x part → R x (part ++ more)) → AllZip R xs (onto_last parts more)
zip_onto {A} {B} R [] [] more some all step = absurd (none_first some.2)
zip_onto R [] (part ∷ parts) more some all step = absurd all
zip_onto R (x ∷ xs) [] more some all step = absurd all
zip_onto R (x ∷ []) (part ∷ []) more some all step = (step x part all.0, tt)
zip_onto R (x ∷ []) (part ∷ next ∷ parts) more some all step = absurd all.1
zip_onto R (x ∷ y ∷ xs) (part ∷ []) more some all step = absurd all.1
zip_onto R (x ∷ y ∷ xs) (part ∷ next ∷ parts) more some all step = (all.0, zip_onto R (y ∷ xs) (next ∷ parts) more (next, parts, refl) all.1 step)

-- ---- one connection more

-- without an open mark there is one connection
whole : {O : Type 0} (marks : List (Queued Input O)) → openings_of marks ≡ [] → slice_split is_open marks ≡ marks ∷ []
whole [] none = refl
whole (queued.Item item ∷ marks) none = ap (onto_first (queued.Item item)) (whole marks none)
whole (queued.End ∷ marks) none = ap (onto_first queued.End) (whole marks none)
whole (queued.Open opening ∷ marks) none = absurd (let n : opening ∷ openings_of marks ≡ [] = none in cc)

first_append : {A : Type 0} (x : A) (part : List A) (rest more : List (List A)) → onto_first x (part ∷ rest ++ more) ≡ onto_first x (part ∷ rest) ++ more
first_append x part rest more = refl

cut_at : {A : Type 0} (x : A) (b : Bool) (ss ts us : List (List A)) → HasFirst ss → ts ≡ ss ++ us → cond b ([] ∷ ts) (onto_first x ts) ≡ cond b ([] ∷ ss) (onto_first x ss) ++ us
cut_at x true ss ts us some is = ap (λ vs. [] ∷ vs) is
cut_at x false ss ts us some is = rw (is, some.2) refl

-- a list is cut at an element that cuts
split_at : {A : Type 0} (p : A → Bool) (xs ys : List A) (y : A) → p y ≡ true → slice_split p (xs ++ y ∷ ys) ≡ slice_split p xs ++ slice_split p ys
split_at p [] ys y cuts = rw cuts refl
split_at p (x ∷ xs) ys y cuts = cut_at x (p x) (slice_split p xs) (slice_split p (xs ++ y ∷ ys)) (slice_split p ys) (split_some p xs) (split_at p xs ys y cuts)

-- the inputs that marks are, as a work is given them
same_inputs : {O : Type 0} (marks : List (Queued Input O)) → inputs_of (flat_map given_by marks) ≡ flat_map input_in marks
same_inputs [] = refl
same_inputs (queued.Item item ∷ marks) = ap (λ xs. item ∷ xs) (same_inputs marks)
same_inputs (queued.End ∷ marks) = same_inputs marks
same_inputs (queued.Open opening ∷ marks) = same_inputs marks

one_connection : {O : Type 0} (marks : List (Queued Input O)) → openings_of marks ≡ [] → connections_of marks ≡ flat_map given_by marks ∷ []
one_connection marks none = ap (map (flat_map given_by)) (whole marks none)

one_spelled : {O : Type 0} (bytes : List ℕ) (marks : List (Queued Input O)) → AreSpelledBy bytes (flat_map input_in marks) → IsSpelled bytes (flat_map given_by marks)
one_spelled bytes marks spelled = subst (AreSpelledBy bytes) (sym (same_inputs marks)) spelled

-- the latest connection was read, of which nothing was queued before
pub spelled_more : {O : Type 0} (read : List (List ℕ)) (bytes : List ℕ) (before after : List (Queued Input O)) → AreSpelled (read ++ [] ∷ []) before → IsUnread before → HasQueued bytes before after → AreSpelled (read ++ bytes ∷ []) after
spelled_more {O} read bytes before after spelled (inl none) h =
    let is : after ≡ h.marks = h.grown ∙ ap (λ (ms : List (Queued Input O)). ms ++ h.marks) none in
    let nothing : AreSpelled {O = O} (read ++ [] ∷ []) [] = subst (λ (ms : List (Queued Input O)). AreSpelled (read ++ [] ∷ []) ms) none spelled in
    let first : read ≡ [] = zip_empty IsSpelled read (zip_front IsSpelled read [] [] [] nothing) in
    let one : AreSpelled (bytes ∷ []) h.marks = subst (AllZip IsSpelled (bytes ∷ [])) (sym (one_connection h.marks h.unopened)) (one_spelled bytes h.marks h.spelled, tt) in
    subst (λ (rs : List (List ℕ)). AreSpelled (rs ++ bytes ∷ []) after) (sym first) (subst (λ (ms : List (Queued Input O)). AreSpelled (bytes ∷ []) ms) (sym is) one)
spelled_more {O} read bytes before after spelled (inr unread) h =
    let earlier : List (Queued Input O) = unread.0 in
    let opening = unread.1 in
    let is : after ≡ earlier ++ queued.Open opening ∷ h.marks = h.grown ∙ ap (λ (ms : List (Queued Input O)). ms ++ h.marks) unread.2 ∙ append_assoc earlier (queued.Open opening ∷ []) h.marks in
    let cut : connections_of (earlier ++ queued.Open opening ∷ h.marks) ≡ connections_of earlier ++ flat_map given_by h.marks ∷ [] =
    ap (map (flat_map given_by)) (split_at is_open earlier h.marks (queued.Open opening) refl) ∙ map-append (flat_map given_by) (slice_split is_open earlier) (slice_split is_open h.marks)
    ∙ ap (λ (cs : List (List (Given Input))). connections_of earlier ++ cs) (one_connection h.marks h.unopened) in
    let again : connections_of before ≡ connections_of earlier ++ [] ∷ [] = ap connections_of unread.2 ∙ connections_again earlier (queued.Open opening) refl in
    let front : AllZip IsSpelled read (connections_of earlier) = zip_front IsSpelled read (connections_of earlier) [] [] (subst (AllZip IsSpelled (read ++ [] ∷ [])) again spelled) in
    subst (λ (ms : List (Queued Input O)). AreSpelled (read ++ bytes ∷ []) ms) (sym is) (subst (AllZip IsSpelled (read ++ bytes ∷ [])) (sym cut) (
    zip_push IsSpelled read (connections_of earlier) bytes (flat_map given_by h.marks) front (one_spelled bytes h.marks h.spelled)))

-- ---- marks that are no input

connections_some : {O : Type 0} (marks : List (Queued Input O)) → HasFirst (connections_of marks)
connections_some marks =
    let some = split_some is_open marks in
    (flat_map given_by some.0, map (flat_map given_by) some.1, ap (map (flat_map given_by)) some.2)

-- the end of a connection
pub spelled_end : {O : Type 0} (read : List (List ℕ)) (marks : List (Queued Input O)) → AreSpelled read marks → AreSpelled read (marks ++ queued.End ∷ [])
spelled_end {O} read marks spelled =
    let same : (part : List (Given Input)) → inputs_of (part ++ given.End ∷ []) ≡ inputs_of part = λ part. flat_map-append input_of part (given.End ∷ []) ∙ append-nil (inputs_of part) in
    let ended : List (Queued Input O) = queued.End ∷ [] in
    subst (AllZip IsSpelled read) (sym (connections_more marks queued.End refl)) (
    zip_onto IsSpelled read (connections_of marks) (flat_map given_by ended) (connections_some marks) spelled
    (λ bytes part is. subst (AreSpelledBy bytes) (sym (same part)) is))

-- the next connection
pub spelled_open : {O : Type 0} (read : List (List ℕ)) (marks : List (Queued Input O)) (opening : O) → AreSpelled read marks → AreSpelled (read ++ [] ∷ []) (marks ++ queued.Open opening ∷ [])
spelled_open read marks opening spelled =
    subst (AllZip IsSpelled (read ++ [] ∷ [])) (sym (connections_again marks (queued.Open opening) refl)) (zip_push IsSpelled read (connections_of marks) [] [] spelled spelled_none)

-- the connection was ended, or nothing changed
pub spelled_ended : {O : Type 0} (read : List (List ℕ)) (left : ReaderSide Input O) → AreSpelled read (queued_by left) → AreSpelled read (ended_of left).queued
spelled_ended read (side.Live seat) spelled = spelled_end read seat.queued spelled
spelled_ended read (side.Ended seat) spelled = spelled

pub spelled_stays : {O : Type 0} (read : List (List ℕ)) (old new : ReaderSide Input O) → EndsOrStays old new → AreSpelled read (queued_by old) → AreSpelled read (queued_by new)
spelled_stays {O} read old new (inl same) spelled = subst (λ (s : ReaderSide Input O). AreSpelled read (queued_by s)) (sym same) spelled
spelled_stays {O} read old new (inr ended) spelled = subst (λ (s : ReaderSide Input O). AreSpelled read (queued_by s)) (sym ended) (spelled_ended read old spelled)

-- all that a reader queued in the end
pub spelled_all : {O : Type 0} (read : List (List ℕ)) (left : ReaderSide Input O) → AreSpelled read (queued_by left) → QueuedWhatItRead read left
spelled_all read (side.Live seat) spelled = spelled_end read seat.queued spelled
spelled_all read (side.Ended seat) spelled = spelled

-- the next connection was opened, and nothing of it was queued
pub unread_open : {O : Type 0} (read : List (List ℕ)) (left : ReaderSide Input O) (opening : O) → AreSpelled read (queued_by left) → AreSpelled (read ++ [] ∷ []) (queued_more (ended_of left) (queued.Open opening)).queued × IsUnread (queued_more (ended_of left) (queued.Open opening)).queued
unread_open read left opening spelled = (spelled_open read (ended_of left).queued opening (spelled_ended read left spelled), inr ((ended_of left).queued, opening, refl))

-- a reader's thread returned, and nothing was read
pub spelled_unread : {O : Type 0} (read : List (List ℕ)) (seat : SeatState (Queued Input O)) (left : ReaderSide Input O) → AreSpelled read seat.queued → left ≡ side.Live seat → AreSpelled read (queued_by left)
spelled_unread {O} read seat left spelled same = subst (λ (s : ReaderSide Input O). AreSpelled read (queued_by s)) (sym same) spelled
