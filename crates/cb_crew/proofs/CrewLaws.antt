-- Laws of the whole crew, over all lists of acts.
use Rattle.std.proofs.Common.{◌≡◌, ℕ, suc, zero, ◌<◌, ◌≤◌, ◌⊎◌, List, [], ◌∷◌, ◌++◌, length, take, drop, get_or, replicate, refl, sym, ap, subst, ◌∙◌, arith, inl, inr}
use Rattle.std.specs.List.{sum_by}
use Rattle.std.proofs.lemmas.List.Sums.{sum_by-cons, get_or-le-sum_by}
use Rattle.std.proofs.lemmas.Bool.{cases_lt, cases_eq}
use Rattle.std.proofs.lemmas.List.{append-nil, append_assoc, take-append-drop, length-set, length-append, length-drop, length-replicate, get_or-set_same, get_or-set_other, get_or-replicate, get_or_past, set_past, nil_from_length}
use Rattle.cb_crew.specs.declared.act.Act.{Act}
use Rattle.cb_crew.specs.declared.act.Act.TheVariants as act
use Rattle.cb_crew.specs.declared.act.Mark.{Mark}
use Rattle.cb_crew.specs.declared.act.Mark.TheVariants as mark
use Rattle.cb_crew.specs.Line.{Line, LineReached, empty_line, line_put, line_taken}
use Rattle.cb_crew.specs.Line as line
use Rattle.cb_crew.specs.Desks.{Desks, DesksReached, opening_desks, held_by, claimed, given}
use Rattle.cb_crew.specs.Desks as desks
use Rattle.cb_crew.specs.CrewModel.{Crew, IsEnabled, with_desks, HoldsDesk, Puts, Step, Run, opening_crew, is_end, is_open, line_of, desk_of, with_line}
use Rattle.cb_crew.specs.Laws.{Reaches, CanGoOn, TakesAll}
use Rattle.cb_crew.proofs.LineLaws.{GoesOn, queued_parts, goes_on_same, goes_on_then, goes_on_put, goes_on_taken}
use Rattle.cb_crew.proofs.DesksLaws.{holds_one, held_below, handlers_stay, desks_count, holder_exists}

-- what holds of a first state and is kept by each step holds of each state that a run leads to
run_keeps : (P : Crew → Type 0) (capacity : ℕ) → ((s t : Crew) (a : Act) → P s → Step capacity s a t → P t) → (acts : List Act) (s t : Crew) → P s → Run capacity s acts t → P t
run_keeps P capacity keep [] s t p r = subst P (sym r) p
run_keeps P capacity keep (a ∷ acts) s t p r = run_keeps P capacity keep acts r.0 t (keep s r.0 a p r.1) r.2

-- a fact of each line, after one line became another
each_line : (P : Line Mark → Type 0) (s : Crew) (p : ℕ) (l : Line Mark) → P l → ((q : ℕ) → P (line_of s q)) → (q : ℕ) → P (line_of (with_line s p l) q)
each_line P s p l new old q =
    elim (cases_lt p (length s.lines)) [
      | inr le ↦ rw (set_past s.lines p l le) (old q)
      | inl lt ↦
          elim (cases_eq q p) [
            | inl same ↦ rw (same, get_or-set_same s.lines p l empty_line lt) new
            | inr other ↦ rw (get_or-set_other s.lines p q l empty_line other) (old q)
          ]
    ]

-- the front of a list that isn't empty
front_of : {M : Type 0} (ms : List M) → 0 < length ms → (m : M) × (rest : List M) × (ms ≡ m ∷ rest)
front_of [] some = absurd (omega arith)
front_of (m ∷ rest) some = (m, rest, refl)

-- what holds of each state that acts lead to, whatever the capacity: each line and the desks are reached, and there is a line for each peer
pub record Sound (peers handlers : ℕ) (s : Crew) : Type 0 where
  pub lines : (p : ℕ) → LineReached is_end is_open (line_of s p)
  pub desks : DesksReached peers handlers s.desks
  pub count : length s.lines ≡ peers

sound_line : (peers handlers : ℕ) (s : Crew) (p : ℕ) (l : Line Mark) → Sound peers handlers s → LineReached is_end is_open l → Sound peers handlers (with_line s p l)
sound_line peers handlers s p l sound new = record { lines = each_line (LineReached is_end is_open) s p l new sound.lines; desks = sound.desks; count = length-set s.lines p l ∙ sound.count }

sound_opening : (peers handlers : ℕ) → Sound peers handlers (opening_crew peers handlers)
sound_opening peers handlers = record {
  lines = λ p. elim (cases_lt p peers) [
    | inl lt ↦ rw (get_or-replicate {A = Line Mark} peers p empty_line empty_line lt) line.opening
    | inr le ↦ rw (get_or_past {X = Line Mark} (replicate peers empty_line) p empty_line (omega (arith, length-replicate {A = Line Mark} peers empty_line))) line.opening
  ];
  desks = desks.opening;
  count = length-replicate peers empty_line;
}

sound_put : (peers handlers capacity : ℕ) (s t : Crew) (p : ℕ) (m : Mark) → Sound peers handlers s → Puts capacity s p m t → Sound peers handlers t
sound_put peers handlers capacity s t p m sound step =
    subst (Sound peers handlers) (sym step.1) (sound_line peers handlers s p (line_put is_end (line_of s p) m) sound (line.put (line_of s p) m (sound.lines p) step.0.follows))

sound_step : (peers handlers capacity : ℕ) (s t : Crew) (a : Act) → Sound peers handlers s → Step capacity s a t → Sound peers handlers t
sound_step peers handlers capacity s t (act.Put p x) sound step = sound_put peers handlers capacity s t p (mark.Item x) sound step
sound_step peers handlers capacity s t (act.End p) sound step = sound_put peers handlers capacity s t p mark.End sound step
sound_step peers handlers capacity s t (act.Open p) sound step = sound_put peers handlers capacity s t p mark.Open sound step
sound_step peers handlers capacity s t (act.Claim k) sound step =
    let front = front_of s.desks.ring step.0.waits in
    subst (Sound peers handlers) (sym step.1) (record { lines = sound.lines; desks = desks.claim s.desks k front.0 front.1 sound.desks step.0.exists step.0.free front.2; count = sound.count })
sound_step peers handlers capacity s t (act.Take k) sound step =
    let p = desk_of s k in
    let front = front_of (line_of s p).inbox step.0.filled in
    subst (Sound peers handlers) (sym step.1) (sound_line peers handlers s p (line_taken (line_of s p)) sound (line.take_front (line_of s p) front.0 front.1 (sound.lines p) front.2))
sound_step peers handlers capacity s t (act.Give k) sound step =
    subst (Sound peers handlers) (sym step.1) (record { lines = sound.lines; desks = desks.give s.desks k (desk_of s k) sound.desks (holder_exists s.desks k step.0) (holds_one sound.desks k step.0); count = sound.count })

-- acts lead to states whose lines and desks are reached
pub sound_run : (peers handlers capacity : ℕ) (acts : List Act) (s : Crew) → Reaches peers handlers capacity acts s → Sound peers handlers s
sound_run peers handlers capacity acts s r = run_keeps (Sound peers handlers) capacity (sound_step peers handlers capacity) acts (opening_crew peers handlers) s (sound_opening peers handlers) r

-- no inbox holds more than the capacity
abbrev WithinCapacity : ℕ → Crew → Type 0
WithinCapacity capacity s = (p : ℕ) → length (line_of s p).inbox ≤ capacity

within_put : (capacity : ℕ) (s t : Crew) (p : ℕ) (m : Mark) → WithinCapacity capacity s → Puts capacity s p m t → WithinCapacity capacity t
within_put capacity s t p m within step =
    subst (WithinCapacity capacity) (sym step.1)
    (each_line (λ l. length l.inbox ≤ capacity) s p (line_put is_end (line_of s p) m) (let room : length (line_of s p).inbox < capacity = step.0.room in omega (arith, length-append (line_of s p).inbox (m ∷ []))) within)

within_step : (capacity : ℕ) (s t : Crew) (a : Act) → WithinCapacity capacity s → Step capacity s a t → WithinCapacity capacity t
within_step capacity s t (act.Put p x) within step = within_put capacity s t p (mark.Item x) within step
within_step capacity s t (act.End p) within step = within_put capacity s t p mark.End within step
within_step capacity s t (act.Open p) within step = within_put capacity s t p mark.Open within step
within_step capacity s t (act.Claim k) within step = subst (WithinCapacity capacity) (sym step.1) within
within_step capacity s t (act.Take k) within step =
    let p = desk_of s k in
    subst (WithinCapacity capacity) (sym step.1)
    (each_line (λ l. length l.inbox ≤ capacity) s p (line_taken (line_of s p)) (omega (arith, within p, length-drop 1 (line_of s p).inbox)) within)
within_step capacity s t (act.Give k) within step = subst (WithinCapacity capacity) (sym step.1) within

opening_line : (peers handlers p : ℕ) → line_of (opening_crew peers handlers) p ≡ empty_line
opening_line peers handlers p =
    elim (cases_lt p peers) [
      | inl lt ↦ get_or-replicate {A = Line Mark} peers p empty_line empty_line lt
      | inr le ↦ get_or_past {X = Line Mark} (replicate peers empty_line) p empty_line (omega (arith, length-replicate {A = Line Mark} peers empty_line))
    ]

pub within_run : (peers handlers capacity : ℕ) (acts : List Act) (s : Crew) → Reaches peers handlers capacity acts s → (p : ℕ) → length (line_of s p).inbox ≤ capacity
within_run peers handlers capacity acts s r =
    run_keeps (WithinCapacity capacity) capacity (within_step capacity) acts (opening_crew peers handlers) s (λ p. rw opening_line (omega arith)) r

-- what was queued and taken stays, and more comes behind it
abbrev AllGoOn : Crew → Crew → Type 0
AllGoOn s t = (q : ℕ) → GoesOn (line_of s q) (line_of t q)

one_goes_on : (s : Crew) (p : ℕ) (l : Line Mark) → GoesOn (line_of s p) l → AllGoOn s (with_line s p l)
one_goes_on s p l new q =
    elim (cases_lt p (length s.lines)) [
      | inr le ↦ rw (set_past s.lines p l le) (goes_on_same (line_of s q))
      | inl lt ↦
          elim (cases_eq q p) [
            | inl same ↦ rw (same, get_or-set_same s.lines p l empty_line lt) new
            | inr other ↦ rw (get_or-set_other s.lines p q l empty_line other) (goes_on_same (line_of s q))
          ]
    ]

put_goes_on : (capacity : ℕ) (s t : Crew) (p : ℕ) (m : Mark) → Puts capacity s p m t → AllGoOn s t
put_goes_on capacity s t p m step = subst (AllGoOn s) (sym step.1) (one_goes_on s p (line_put is_end (line_of s p) m) (goes_on_put is_end (line_of s p) m))

step_goes_on : (capacity : ℕ) (s t : Crew) (a : Act) → Step capacity s a t → AllGoOn s t
step_goes_on capacity s t (act.Put p x) step = put_goes_on capacity s t p (mark.Item x) step
step_goes_on capacity s t (act.End p) step = put_goes_on capacity s t p mark.End step
step_goes_on capacity s t (act.Open p) step = put_goes_on capacity s t p mark.Open step
step_goes_on capacity s t (act.Claim k) step = subst (AllGoOn s) (sym step.1) (λ q. goes_on_same (line_of s q))
step_goes_on capacity s t (act.Take k) step =
    subst (AllGoOn s) (sym step.1) (one_goes_on s (desk_of s k) (line_taken (line_of s (desk_of s k))) (goes_on_taken (line_of s (desk_of s k))))
step_goes_on capacity s t (act.Give k) step = subst (AllGoOn s) (sym step.1) (λ q. goes_on_same (line_of s q))

pub run_goes_on : (capacity : ℕ) (acts : List Act) (s t : Crew) → Run capacity s acts t → (q : ℕ) → GoesOn (line_of s q) (line_of t q)
run_goes_on capacity [] s t r q = rw r (goes_on_same (line_of s q))
run_goes_on capacity (a ∷ acts) s t r q = goes_on_then (line_of s q) (line_of r.0 q) (line_of t q) (step_goes_on capacity s r.0 a r.1 q) (run_goes_on capacity acts r.0 t r.2 q)

-- runs one after another
pub run_then : (capacity : ℕ) (acts more : List Act) (s t u : Crew) → Run capacity s acts t → Run capacity t more u → Run capacity s (acts ++ more) u
run_then capacity [] more s t u r q = subst (λ x. Run capacity x more u) r q
run_then capacity (a ∷ acts) more s t u r q = (r.0, r.1, run_then capacity acts more r.0 t u r.2 q)

pub run_step : (capacity : ℕ) (acts : List Act) (a : Act) (s t u : Crew) → Run capacity s acts t → Step capacity t a u → Run capacity s (acts ++ a ∷ []) u
run_step capacity acts a s t u r step = run_then capacity acts (a ∷ []) s t u r (u, step, refl)

-- some hand holds a desk, or none does
some_hand : (held : List (List ℕ)) → ((k : ℕ) × (0 < length (get_or held k []))) ⊎ (sum_by length held ≡ 0)
some_hand [] = inr refl
some_hand ([] ∷ held) =
    elim (some_hand held) [
      | inl found ↦ inl (suc found.0, found.1)
      | inr none ↦ inr (omega (arith, sum_by-cons (length {A = ℕ}) [] held, none))
    ]
some_hand ((p ∷ ps) ∷ held) = inl (0, omega arith)

-- a handler's act can come in each state
pub not_stuck : (peers handlers capacity : ℕ) (s : Crew) → Sound peers handlers s → 0 < peers → 0 < handlers → (k : ℕ) × CanGoOn capacity s k
not_stuck peers handlers capacity s sound some_peer some_handler =
    elim (some_hand s.desks.held) [
      | inl found ↦ (found.0, inr (inr found.1))
      | inr none ↦
          let exists : 0 < length s.desks.held = omega (arith, handlers_stay sound.desks) in (
            0,
            inl (record {
              exists = exists;
              free = nil_from_length (held_by s.desks 0) (omega (arith, get_or-le-sum_by (length {A = ℕ}) s.desks.held 0 [] exists, none));
              waits = omega (arith, desks_count sound.desks, none);
            }),
          )
    ]

-- n Takes can come where n marks lie in the inbox
take_n : (capacity n : ℕ) (s : Crew) (k : ℕ) → HoldsDesk s k → desk_of s k < length s.lines → length (line_of s (desk_of s k)).inbox ≡ n → (t : Crew) × Run capacity s (replicate n (act.Take k)) t × ((line_of t (desk_of s k)).inbox ≡ []) × ((line_of t (desk_of s k)).taken ≡ (line_of s (desk_of s k)).taken ++ (line_of s (desk_of s k)).inbox)
take_n capacity zero s k holds below len =
    let empty = nil_from_length (line_of s (desk_of s k)).inbox len in
    (s, refl, empty, rw empty (sym (append-nil (line_of s (desk_of s k)).taken)))
take_n capacity (suc n) s k holds below len =
    let p = desk_of s k in
    let l = line_of s p in
    let t = with_line s p (line_taken l) in
    let same : line_of t p ≡ line_taken l = get_or-set_same s.lines p (line_taken l) empty_line below in
    let rest = take_n capacity n t k holds (omega (arith, length-set s.lines p (line_taken l))) (ap (λ (m : Line Mark). length m.inbox) same ∙ omega (arith, length-drop 1 l.inbox, len)) in (
      rest.0,
      (t, (record { holds = holds; filled = omega (arith, len) }, refl), rest.1),
      rest.2,
      rest.3 ∙ (ap (λ (m : Line Mark). m.taken ++ m.inbox) same ∙ (append_assoc l.taken (take 1 l.inbox) (drop 1 l.inbox) ∙ ap (λ ms. l.taken ++ ms) (take-append-drop 1 l.inbox))),
    )

pub takes_all : (peers handlers capacity : ℕ) (s : Crew) → Sound peers handlers s → (k : ℕ) → HoldsDesk s k → TakesAll capacity s k
takes_all peers handlers capacity s sound k holds =
    take_n capacity (length (line_of s (desk_of s k)).inbox) s k holds (omega (arith, held_below sound.desks k holds, sound.count)) refl

-- the act that puts a mark
abbrev pub put_act : ℕ → Mark → Act
put_act p (mark.Item x) = act.Put p x
put_act p mark.End = act.End p
put_act p mark.Open = act.Open p

pub put_steps : (capacity : ℕ) (s t : Crew) (p : ℕ) (m : Mark) → Puts capacity s p m t → Step capacity s (put_act p m) t
put_steps capacity s t p (mark.Item x) step = step
put_steps capacity s t p mark.End step = step
put_steps capacity s t p mark.Open step = step

-- each reached line stands in a crew of one peer and one handler, who holds the desk
abbrev pub one_line : Line Mark → Crew
one_line l = record { lines = l ∷ []; desks = record { ring = []; held = (0 ∷ []) ∷ [] } }

inbox_fits : (l : Line Mark) → LineReached is_end is_open l → length l.inbox ≤ length l.queued
inbox_fits l r = omega (arith, ap (length {A = Mark}) (queued_parts r), length-append l.taken l.inbox)

pub line_runs : (capacity : ℕ) (l : Line Mark) → LineReached is_end is_open l → length l.queued ≤ capacity → (acts : List Act) × Reaches 1 1 capacity acts (one_line l)
line_runs capacity l line.opening fits = (act.Claim 0 ∷ [], (one_line empty_line, (record { exists = omega arith; free = refl; waits = omega arith }, refl), refl))
line_runs capacity l (line.put l0 m r may) fits =
    let before = line_runs capacity l0 r (omega (arith, length-append l0.queued (m ∷ []))) in (
      before.0 ++ put_act 0 m ∷ [],
      run_step capacity before.0 (put_act 0 m) (opening_crew 1 1) (one_line l0) (one_line l) before.1
          (put_steps capacity (one_line l0) (one_line l) 0 m (record { exists = omega arith; room = omega (arith, inbox_fits l0 r, length-append l0.queued (m ∷ [])); follows = may }, refl)),
    )
line_runs capacity l (line.take_front l0 m rest r front) fits =
    let before = line_runs capacity l0 r fits in (
      before.0 ++ act.Take 0 ∷ [],
      run_step capacity before.0 (act.Take 0) (opening_crew 1 1) (one_line l0) (one_line l) before.1
          (record { holds = omega arith; filled = omega (arith, ap (length {A = Mark}) front) }, refl),
    )

-- the desks of a crew whose inboxes are empty
abbrev pub idle_crew : ℕ → Desks → Crew
idle_crew peers d = record { lines = replicate peers empty_line; desks = d }

pub desks_run : (peers handlers capacity : ℕ) (d : Desks) → DesksReached peers handlers d → (acts : List Act) × Reaches peers handlers capacity acts (idle_crew peers d)
desks_run peers handlers capacity d desks.opening = ([], refl)
desks_run peers handlers capacity d (desks.claim d0 k desk rest r lt free waits) =
    let before = desks_run peers handlers capacity d0 r in (
      before.0 ++ act.Claim k ∷ [],
      run_step capacity before.0 (act.Claim k) (opening_crew peers handlers) (idle_crew peers d0) (idle_crew peers d) before.1
          (record { exists = lt; free = free; waits = omega (arith, ap (length {A = ℕ}) waits) }, refl),
    )
desks_run peers handlers capacity d (desks.give d0 k desk r lt holds) =
    let before = desks_run peers handlers capacity d0 r in (
      before.0 ++ act.Give k ∷ [],
      run_step capacity before.0 (act.Give k) (opening_crew peers handlers) (idle_crew peers d0) (idle_crew peers d) before.1
          (omega (arith, ap (length {A = ℕ}) holds), refl),
    )

-- an act that can come leads on
pub step_from : (capacity : ℕ) (s : Crew) (a : Act) → IsEnabled capacity s a → (t : Crew) × Step capacity s a t
step_from capacity s (act.Put p x) enabled = (with_line s p (line_put is_end (line_of s p) (mark.Item x)), (enabled, refl))
step_from capacity s (act.End p) enabled = (with_line s p (line_put is_end (line_of s p) mark.End), (enabled, refl))
step_from capacity s (act.Open p) enabled = (with_line s p (line_put is_end (line_of s p) mark.Open), (enabled, refl))
step_from capacity s (act.Claim k) enabled = (with_desks s (claimed s.desks k), (enabled, refl))
step_from capacity s (act.Take k) enabled = (with_line s (desk_of s k) (line_taken (line_of s (desk_of s k))), (enabled, refl))
step_from capacity s (act.Give k) enabled = (with_desks s (given s.desks k), (enabled, refl))

-- only such an act does
pub step_enabled : (capacity : ℕ) (s t : Crew) (a : Act) → Step capacity s a t → IsEnabled capacity s a
step_enabled capacity s t (act.Put p x) step = step.0
step_enabled capacity s t (act.End p) step = step.0
step_enabled capacity s t (act.Open p) step = step.0
step_enabled capacity s t (act.Claim k) step = step.0
step_enabled capacity s t (act.Take k) step = step.0
step_enabled capacity s t (act.Give k) step = step.0

-- and to one state
pub step_one : (capacity : ℕ) (s t u : Crew) (a : Act) → Step capacity s a t → Step capacity s a u → t ≡ u
step_one capacity s t u (act.Put p x) one other = one.1 ∙ sym other.1
step_one capacity s t u (act.End p) one other = one.1 ∙ sym other.1
step_one capacity s t u (act.Open p) one other = one.1 ∙ sym other.1
step_one capacity s t u (act.Claim k) one other = one.1 ∙ sym other.1
step_one capacity s t u (act.Take k) one other = one.1 ∙ sym other.1
step_one capacity s t u (act.Give k) one other = one.1 ∙ sym other.1
