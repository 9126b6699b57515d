-- What the calls of a System do to its fields is what the acts do to the crew.
use Rattle.std.proofs.Common.{◌≡◌, ℕ, suc, zero, add-zero, zero-add, ◌+◌, ◌<◌, false, List, [], ◌∷◌, ◌++◌, length, get_or, set, map, replicate, Option, Some, None, Result, Ok, Err, refl, sym, ap, subst, ◌∙◌, arith}
use Rattle.std.specs.Option.{option_to_list, is_some}
use Rattle.std.specs.Result.{OnOk, OnErr}
use Rattle.cb_base.specs.declared.fault.Fault.{Fault}
use Rattle.std.specs.List.{range_with_len}
use Rattle.std.proofs.Math.Numerals.{add-one}
use Rattle.std.specs.Bool.{IsTrue}
use Rattle.std.proofs.lemmas.Bool.{false≢true}
use Rattle.std.proofs.lemmas.List.{length-map, map-set, get_or_read, set-get_or}
use Rattle.cb_crew.specs.declared.act.Act.{Act}
use Rattle.cb_crew.specs.declared.act.Mark.{Mark}
use Rattle.cb_crew.specs.Line.{Line, MayFollow, empty_line, line_put, line_taken}
use Rattle.cb_crew.specs.Desks.{held_by, claimed, given}
use Rattle.cb_crew.specs.CrewModel.{Crew, MayClaim, MayTake, HoldsDesk, IsReached, Puts, Step, line_of, desk_of, with_line, with_desks, is_end, is_open, opening_crew}
use Rattle.cb_crew.proofs.DesksLaws.{ring_short, held_below}
use Rattle.cb_crew.proofs.CrewLaws.{run_step, sound_run, put_act, put_steps}

-- the crew that a System's fields show
abbrev pub crew_at : List (Line Mark) → List ℕ → List (Option ℕ) → Crew
crew_at lines ring held = record { lines = lines; desks = record { ring = ring; held = map option_to_list held } }

held_map : (held : List (Option ℕ)) (k : ℕ) → get_or (map option_to_list held) k [] ≡ option_to_list (get_or held k None)
held_map [] k = refl
held_map (o ∷ held) zero = refl
held_map (o ∷ held) (suc k) = held_map held k

pub claim_step : (lines : List (Line Mark)) (ring rest : List ℕ) (held : List (Option ℕ)) (k desk : ℕ) → k < length held → get_or held k None ≡ None → ring ≡ desk ∷ rest → MayClaim (crew_at lines ring held) k × (crew_at lines rest (set held k (Some desk)) ≡ with_desks (crew_at lines ring held) (claimed (crew_at lines ring held).desks k))
claim_step lines ring rest held k desk lt none front = (
  record {
    exists = omega (arith, length-map held (option_to_list {X = ℕ}));
    free = held_map held k ∙ ap option_to_list none;
    waits = omega (arith, ap (length {A = ℕ}) front);
  },
  rw (front, map-set option_to_list held k (Some desk)) refl,
)

pub give_step : (lines : List (Line Mark)) (ring : List ℕ) (held : List (Option ℕ)) (k desk : ℕ) → get_or held k None ≡ Some desk → HoldsDesk (crew_at lines ring held) k × (crew_at lines (ring ++ desk ∷ []) (set held k None) ≡ with_desks (crew_at lines ring held) (given (crew_at lines ring held).desks k))
give_step lines ring held k desk some =
    let holds : held_by (crew_at lines ring held).desks k ≡ desk ∷ [] = held_map held k ∙ ap option_to_list some in
    (omega (arith, ap (length {A = ℕ}) holds), rw (holds, map-set option_to_list held k None) refl)

pub take_step : (lines : List (Line Mark)) (ring : List ℕ) (held : List (Option ℕ)) (k desk : ℕ) → get_or held k None ≡ Some desk → 0 < length (get_or lines desk empty_line).inbox → MayTake (crew_at lines ring held) k × (crew_at (set lines desk (line_taken (get_or lines desk empty_line))) ring held ≡ with_line (crew_at lines ring held) (desk_of (crew_at lines ring held) k) (line_taken (line_of (crew_at lines ring held) (desk_of (crew_at lines ring held) k))))
take_step lines ring held k desk some filled =
    let s = crew_at lines ring held in
    let holds : held_by s.desks k ≡ desk ∷ [] = held_map held k ∙ ap option_to_list some in
    let named : desk_of s k ≡ desk = ap (λ (ps : List ℕ). get_or ps 0 0) holds in
    (record { holds = omega (arith, ap (length {A = ℕ}) holds); filled = omega (arith, filled, ap (λ p. length (line_of s p).inbox) named) }, ap (λ p. with_line s p (line_taken (line_of s p))) (sym named))

-- a state that a step leads to is reached too
pub reached_step : (peers handlers capacity : ℕ) (s t : Crew) (a : Act) → IsReached peers handlers capacity s → Step capacity s a t → IsReached peers handlers capacity t
reached_step peers handlers capacity s t a r step = record { acts = r.acts ++ a ∷ []; run = run_step capacity r.acts a (opening_crew peers handlers) s t r.run step }

pub reached_put : (peers handlers capacity : ℕ) (s t : Crew) (p : ℕ) (m : Mark) → IsReached peers handlers capacity s → Puts capacity s p m t → IsReached peers handlers capacity t
reached_put peers handlers capacity s t p m r step = reached_step peers handlers capacity s t (put_act p m) r (put_steps capacity s t p m step)

-- a held desk is a peer's
pub desk_below : (peers handlers capacity : ℕ) (lines : List (Line Mark)) (ring : List ℕ) (held : List (Option ℕ)) (k desk : ℕ) → IsReached peers handlers capacity (crew_at lines ring held) → get_or held k None ≡ Some desk → desk < peers
desk_below peers handlers capacity lines ring held k desk r some =
    let s = crew_at lines ring held in
    let holds : held_by s.desks k ≡ desk ∷ [] = held_map held k ∙ ap option_to_list some in
    omega (arith, held_below (sound_run peers handlers capacity r.acts s r.run).desks k (omega (arith, ap (length {A = ℕ}) holds)), ap (λ (ps : List ℕ). get_or ps 0 0) holds)

-- while a desk is held, the ring has room
pub ring_room : (peers handlers capacity : ℕ) (lines : List (Line Mark)) (ring : List ℕ) (held : List (Option ℕ)) (k desk : ℕ) → IsReached peers handlers capacity (crew_at lines ring held) → get_or held k None ≡ Some desk → length ring < peers
ring_room peers handlers capacity lines ring held k desk r some =
    let s = crew_at lines ring held in
    let holds : held_by s.desks k ≡ desk ∷ [] = held_map held k ∙ ap option_to_list some in
    ring_short (sound_run peers handlers capacity r.acts s r.run).desks k (omega (arith, ap (length {A = ℕ}) holds))

-- nobody holds a desk
pub map_none : (n : ℕ) → map (option_to_list {X = ℕ}) (replicate n None) ≡ replicate n []
map_none zero = refl
map_none (suc n) = ap (λ (hs : List (List ℕ)). [] ∷ hs) (map_none n)

-- what a read of a hand tells
pub free_hand : (held : List (Option ℕ)) (k : ℕ) (o : Option ℕ) → k < length held → o ≡ get_or held k o → false ≡ is_some o → get_or held k None ≡ None
free_hand held k None lt read free = sym (get_or_read held k None lt read None)
free_hand held k (Some desk) lt read free = absurd (false≢true free)

pub full_hand : (held : List (Option ℕ)) (k desk : ℕ) (o : Option ℕ) → k < length held → o ≡ get_or held k o → o ≡ Some desk → get_or held k None ≡ Some desk
full_hand held k desk o lt read some = sym (get_or_read held k o lt read None) ∙ some

-- a length that isn't 0
filled_from : (n : ℕ) → (n ≡ 0 → IsTrue false) → 0 < n
filled_from zero h = absurd (false≢true (h refl))
filled_from (suc n) h = omega arith

-- `take_step`, at what the call read and left
pub take_at : (lines : List (Line Mark)) (ring : List ℕ) (held : List (Option ℕ)) (k desk : ℕ) (l t : Line Mark) → desk < length lines → get_or held k None ≡ Some desk → l ≡ get_or lines desk l → (length l.inbox ≡ 0 → IsTrue false) → t ≡ line_taken l → MayTake (crew_at lines ring held) k × (crew_at (set lines desk t) ring held ≡ with_line (crew_at lines ring held) (desk_of (crew_at lines ring held) k) (line_taken (line_of (crew_at lines ring held) (desk_of (crew_at lines ring held) k))))
take_at lines ring held k desk l t lt some read filled left =
    let same : l ≡ get_or lines desk empty_line = get_or_read lines desk l lt read empty_line in
    let step = take_step lines ring held k desk some (omega (arith, filled_from (length l.inbox) filled, ap (λ (m : Line Mark). length m.inbox) same)) in
    (step.0, ap (λ (m : Line Mark). crew_at (set lines desk m) ring held) (left ∙ ap line_taken same) ∙ step.1)

-- after a put that may have been refused for want of memory
pub put_at : (peers handlers capacity : ℕ) (lines : List (Line Mark)) (ring : List ℕ) (held : List (Option ℕ)) (p : ℕ) (m : Mark) (l t : Line Mark) (r : Result (Unit {0}) Fault) → p < length lines → l ≡ get_or lines p l → length l.inbox < capacity → MayFollow is_open l m → OnOk r (t ≡ line_put is_end l m) → OnErr r (t ≡ l) → IsReached peers handlers capacity (crew_at lines ring held) → IsReached peers handlers capacity (crew_at (set lines p t) ring held)
put_at peers handlers capacity lines ring held p m l t (Ok done) lt read room follows left same reached =
    let is : l ≡ get_or lines p empty_line = get_or_read lines p l lt read empty_line in
    let s = crew_at lines ring held in
    reached_put peers handlers capacity s (crew_at (set lines p t) ring held) p m reached
    (record { exists = lt; room = omega (arith, room, ap (λ (k : Line Mark). length k.inbox) is); follows = subst (λ (k : Line Mark). MayFollow is_open k m) is follows }, ap (λ (k : Line Mark). crew_at (set lines p k) ring held) (left ∙ ap (λ k. line_put is_end k m) is))
put_at peers handlers capacity lines ring held p m l t (Err fault) lt read room follows left same reached =
    let is : l ≡ get_or lines p empty_line = get_or_read lines p l lt read empty_line in
    let stays : set lines p t ≡ lines = ap (set lines p) (same ∙ is) ∙ set-get_or lines p empty_line in
    subst (λ (ls : List (Line Mark)). IsReached peers handlers capacity (crew_at ls ring held)) (sym stays) reached

regroup : (a n : ℕ) → a + suc n ≡ a + 1 + n
regroup a n = omega arith

range_suc : (a n : ℕ) → range_with_len a n ++ (a + n) ∷ [] ≡ range_with_len a (suc n)
range_suc a zero = ap (λ m. m ∷ []) (add-zero a)
range_suc a (suc n) = ap (λ (ms : List ℕ). a ∷ ms) (ap (λ m. range_with_len (a + 1) n ++ m ∷ []) (regroup a n) ∙ range_suc (a + 1) n)

-- the numbers from 0 on, one more
pub numbers_more : (n : ℕ) → range_with_len 0 n ++ n ∷ [] ≡ range_with_len 0 (n + 1)
numbers_more n = ap (λ m. range_with_len 0 n ++ m ∷ []) (sym (zero-add n)) ∙ rw add-one (range_suc 0 n)
