-- What was queued of a slot's connections.
use Rattle.std.proofs.Common.{◌≡◌, ℕ, Bool, List, [], ◌∷◌, ◌++◌, true, false, Option, None, Some, inl, inr, refl, ap, subst, sym, ◌∙◌}
use Rattle.std.proofs.lemmas.Bool.{false≢true}
use Rattle.atomic_table.specs.Seated.{TableId}
use Rattle.cb_crew.specs.declared.queued.Queued.{Queued}
use Rattle.cb_crew.specs.declared.queued.Queued.TheVariants as queued
use Rattle.cb_crew.specs.Seat.{SeatState, opening_seat, queued_more}
use Rattle.cb_crew.specs.declared.reader_side.ReaderSide.{ReaderSide}
use Rattle.cb_crew.specs.declared.reader_side.ReaderSide.TheVariants as side
use Rattle.cb_crew.specs.Crew.{inbox_of}
use Rattle.cb_service.specs.Service.{EndsOrStays, IsLeftBy, ended_of, queued_by}
use Rattle.cb_session.specs.declared.input.Input.{Input}
use Rattle.cb_peers.specs.Reading.{AreSpelled, HasQueued, QueuedWhatItRead}
use Rattle.cb_peers.proofs.Spelled.{none_spelled, spelled_all, spelled_more, spelled_stays, spelled_unread, unread_open}
use Rattle.cb_node.specs.declared.slot.Seating.{Seating}
use Rattle.cb_node.specs.declared.slot.Seating.TheVariants as seating
use Rattle.cb_node.specs.Slot.{IsRead, IsSeatingOf, LastsIf, all_read}

-- nothing was queued
pub read_new : {W : Type 0} (name : TableId) (held : ReaderSide Input W) (seat : SeatState (Queued Input W)) (read : List (List ℕ)) → held ≡ side.Live seat → seat ≡ opening_seat name → read ≡ [] → IsRead true read (queued_by held)
read_new {W} name held seat read is opens none =
    subst (λ (s : ReaderSide Input W). IsRead true read (queued_by s)) (sym (is ∙ ap side.Live opens))
    (record { spelled = subst (λ (rs : List (List ℕ)). AreSpelled {O = W} (rs ++ [] ∷ []) []) (sym none) (none_spelled {O = W} [] refl); unread = λ waits. inl refl })

-- the next connection was opened
pub read_opened : {W : Type 0} (read : List (List ℕ)) (old held : ReaderSide Input W) (seat : SeatState (Queued Input W)) (opening : W)
    → IsRead false read (queued_by old) → held ≡ side.Live seat → seat ≡ queued_more (ended_of old) (queued.Open opening) → IsRead true read (queued_by held)
read_opened {W} read old held seat opening was is opens =
    let now = unread_open read old opening was.spelled in
    subst (λ (s : ReaderSide Input W). IsRead true read (queued_by s)) (sym (is ∙ ap side.Live opens)) (record { spelled = now.0; unread = λ _. now.1 })

-- it wasn't opened
pub read_refused : {W : Type 0} (waits : Bool) (read : List (List ℕ)) (old held : ReaderSide Input W) → IsRead waits read (queued_by old) → EndsOrStays old held → waits ≡ false → IsRead waits read (queued_by held)
read_refused waits read old held was ends idle = record { spelled = spelled_stays (all_read waits read) old held ends was.spelled; unread = λ w. absurd (false≢true (sym idle ∙ w)) }

-- the thread of a connection that waited got its seat
pub read_lent : {W : Type 0} (waits : Bool) (read : List (List ℕ)) (held : ReaderSide Input W) (seat lent : SeatState (Queued Input W)) → IsRead waits read (queued_by held) → waits ≡ true → held ≡ side.Live seat → lent ≡ seat → IsRead true read lent.queued
read_lent {W} waits read held seat lent was waiting is same =
    let here : IsRead waits read seat.queued = subst (λ (s : ReaderSide Input W). IsRead waits read (queued_by s)) is was in
    subst (λ (s : SeatState (Queued Input W)). IsRead true read s.queued) (sym same) (subst (λ (b : Bool). IsRead b read seat.queued) waiting here)

-- or it came back
pub read_back : {W : Type 0} (waits : Bool) (read : List (List ℕ)) (held again : ReaderSide Input W) (seat back : SeatState (Queued Input W)) → IsRead waits read (queued_by held) → held ≡ side.Live seat → back ≡ seat → again ≡ side.Live back → IsRead waits read (queued_by again)
read_back {W} waits read held again seat back was is same live = subst (λ (s : ReaderSide Input W). IsRead waits read (queued_by s)) (is ∙ sym (live ∙ ap side.Live same)) was

-- what a thread tells that returned
pub left_some : {W : Type 0} (account : Option (List ℕ)) (bytes : List ℕ) (seat : SeatState (Queued Input W)) (left : ReaderSide Input W) → account ≡ Some bytes → IsLeftBy (λ told before after. HasQueued told before after) seat left account → HasQueued bytes seat.queued (queued_by left)
left_some {W} account bytes seat left is told = subst (λ (a : Option (List ℕ)). IsLeftBy {M = Input} {O = W} (λ told before after. HasQueued told before after) seat left a) is told

pub left_none : {W : Type 0} (account : Option (List ℕ)) (seat : SeatState (Queued Input W)) (left : ReaderSide Input W) → account ≡ None → IsLeftBy (λ told before after. HasQueued told before after) seat left account → left ≡ side.Live seat
left_none {W} account seat left is told = subst (λ (a : Option (List ℕ)). IsLeftBy {M = Input} {O = W} (λ told before after. HasQueued told before after) seat left a) is told

-- the thread returned, and these bytes were read
pub read_more : {W : Type 0} (read now : List (List ℕ)) (bytes : List ℕ) (before : List (Queued Input W)) (left : ReaderSide Input W) → IsRead true read before → HasQueued bytes before (queued_by left) → now ≡ read ++ bytes ∷ [] → IsRead false now (queued_by left)
read_more {W} read now bytes before left was told is = record {
  spelled = subst (λ (rs : List (List ℕ)). AreSpelled rs (queued_by left)) (sym is) (spelled_more read bytes before (queued_by left) was.spelled (was.unread refl) told);
  unread = λ waits. absurd (false≢true waits);
}

-- or nothing was
pub read_nothing : {W : Type 0} (read now : List (List ℕ)) (bytes : List ℕ) (seat : SeatState (Queued Input W)) (left : ReaderSide Input W) → IsRead true read seat.queued → left ≡ side.Live seat → now ≡ read ++ bytes ∷ [] → bytes ≡ [] → IsRead false now (queued_by left)
read_nothing {W} read now bytes seat left was same is none = record {
  spelled = subst (λ (rs : List (List ℕ)). AreSpelled rs (queued_by left)) (sym (is ∙ ap (λ (bs : List ℕ). read ++ bs ∷ []) none)) (spelled_unread (read ++ [] ∷ []) seat left was.spelled same);
  unread = λ waits. absurd (false≢true waits);
}

-- all that was queued in the end
pub read_all : {W : Type 0} (waits : Bool) (read now : List (List ℕ)) (held left : ReaderSide Input W) → left ≡ held → now ≡ all_read waits read → IsRead waits read (queued_by held) → QueuedWhatItRead now left
read_all {W} waits read now held left same is was =
    subst (λ (rs : List (List ℕ)). QueuedWhatItRead rs left) (sym is) (subst (λ (s : ReaderSide Input W). QueuedWhatItRead (all_read waits read) s) (sym same) (spelled_all (all_read waits read) held was.spelled))

pub kept_of : {W : Type 0} (name : TableId) (waits : Bool) (read : List (List ℕ)) (place : Option (Seating W)) (held : ReaderSide Input W) → place ≡ Some (seating.Kept held) → IsSeatingOf name waits read place → IsRead waits read (queued_by held)
kept_of {W} name waits read place held is was =
    let kept : IsSeatingOf name waits read (Some (seating.Kept held)) = subst (λ (p : Option (Seating W)). IsSeatingOf name waits read p) is was in
    kept.2

kept_at : {W : Type 0} (name : TableId) (waits : Bool) (read : List (List ℕ)) (place : Option (Seating W)) (held : ReaderSide Input W) → place ≡ Some (seating.Kept held) → IsSeatingOf name waits read place → inbox_of held ≡ name
kept_at {W} name waits read place held is was =
    let kept : IsSeatingOf name waits read (Some (seating.Kept held)) = subst (λ (p : Option (Seating W)). IsSeatingOf name waits read p) is was in
    kept.0

same_inbox : {W : Type 0} (old : ReaderSide Input W) → (ended_of old).inbox ≡ inbox_of old
same_inbox (side.Live seat) = refl
same_inbox (side.Ended seat) = refl

ends_inbox : {W : Type 0} (old new : ReaderSide Input W) → EndsOrStays old new → inbox_of new ≡ inbox_of old
ends_inbox old new (inl same) = ap inbox_of same
ends_inbox old new (inr ended) = ap inbox_of ended ∙ same_inbox old

lasts_idle : {W : Type 0} (held : ReaderSide Input W) (waits : Bool) → waits ≡ false → LastsIf waits held
lasts_idle (side.Live seat) waits idle = tt
lasts_idle (side.Ended seat) waits idle = idle

pub lasts_live : {W : Type 0} (held : ReaderSide Input W) (seat : SeatState (Queued Input W)) → held ≡ side.Live seat → LastsIf true held
lasts_live {W} held seat is = subst (λ (s : ReaderSide Input W). LastsIf true s) (sym is) tt

-- the slot has the side of the next connection
pub seating_opened : {W : Type 0} (name : TableId) (waits : Bool) (read : List (List ℕ)) (place : Option (Seating W)) (old held : ReaderSide Input W) (seat : SeatState (Queued Input W)) (opening : W)
    → place ≡ Some (seating.Kept old) → IsSeatingOf name waits read place → waits ≡ false → held ≡ side.Live seat → seat ≡ queued_more (ended_of old) (queued.Open opening) → IsSeatingOf {W = W} name true read (Some (seating.Kept held))
seating_opened {W} name waits read place old held seat opening is was idle live opens =
    let inbox : inbox_of held ≡ name = ap inbox_of live ∙ ap (λ (s : SeatState (Queued Input W)). s.inbox) opens ∙ same_inbox old ∙ kept_at name waits read place old is was in
    let before : IsRead false read (queued_by old) = subst (λ (b : Bool). IsRead b read (queued_by old)) idle (kept_of name waits read place old is was) in
    (inbox, lasts_live held seat live, read_opened read old held seat opening before live opens)

-- or the one that wasn't followed by another
pub seating_refused : {W : Type 0} (name : TableId) (waits : Bool) (read : List (List ℕ)) (place : Option (Seating W)) (old held : ReaderSide Input W)
    → place ≡ Some (seating.Kept old) → IsSeatingOf name waits read place → EndsOrStays old held → waits ≡ false → IsSeatingOf {W = W} name waits read (Some (seating.Kept held))
seating_refused name waits read place old held is was ends idle =
    (ends_inbox old held ends ∙ kept_at name waits read place old is was, lasts_idle held waits idle, read_refused waits read old held (kept_of name waits read place old is was) ends idle)
