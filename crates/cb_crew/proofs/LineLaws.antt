-- Laws of one line, for marks of any type: they need only that acts lead to it.
use Rattle.std.proofs.Common.{◌≡◌, ℕ, ◌+◌, ◌<◌, ◌≤◌, Bool, true, false, cond, List, [], ◌∷◌, ◌++◌, take, drop, refl, sym, ap, ◌∙◌, arith, inl, inr, append_assoc, take-append-drop}
use Rattle.std.proofs.lemmas.List.{append-nil}
use Rattle.std.proofs.lemmas.Bool.{cases_Bool}
use Rattle.std.proofs.lemmas.List.Sums.{sum_by_push}
use Rattle.cb_crew.specs.Line.{Line, LineReached, opening, put, take_front, connections, line_put, line_taken}
use Rattle.cb_crew.specs.Laws.{IsBeginning, OpensFollowEnds, ends_last}

-- what was queued is what was taken, followed by what lies there
pub queued_parts : {M : Type 0} {is_end is_open : M → Bool} {l : Line M} → LineReached is_end is_open l → l.queued ≡ l.taken ++ l.inbox
queued_parts opening = refl
queued_parts (put line m r may) = ap (λ ms. ms ++ m ∷ []) (queued_parts r) ∙ append_assoc line.taken line.inbox (m ∷ [])
queued_parts (take_front line m rest r front) = queued_parts r ∙ (ap (λ ms. line.taken ++ ms) (sym (take-append-drop 1 line.inbox)) ∙ sym (append_assoc line.taken (take 1 line.inbox) (drop 1 line.inbox)))

last_push : {M : Type 0} (is_end : M → Bool) (after_end : Bool) (ms : List M) (m : M) → ends_last is_end after_end (ms ++ m ∷ []) ≡ is_end m
last_push is_end after_end [] m = refl
last_push is_end after_end (x ∷ ms) m = last_push is_end (is_end x) ms m

-- the flag says whether the last mark that was queued is an end mark
pub ended_is : {M : Type 0} {is_end is_open : M → Bool} {l : Line M} → LineReached is_end is_open l → l.ended ≡ ends_last is_end false l.queued
ended_is opening = refl
ended_is {is_end = is_end} (put line m r may) = sym (last_push is_end false line.queued m)
ended_is (take_front line m rest r front) = ended_is r

-- a mark more, in its turn
follow_push : {M : Type 0} (is_end is_open : M → Bool) (after_end : Bool) (ms : List M) (m : M) → OpensFollowEnds is_end is_open after_end ms → is_open m ≡ ends_last is_end after_end ms → OpensFollowEnds is_end is_open after_end (ms ++ m ∷ [])
follow_push is_end is_open after_end [] m fits turn = (turn, tt)
follow_push is_end is_open after_end (x ∷ ms) m fits turn = (fits.0, follow_push is_end is_open (is_end x) ms m fits.1 turn)

-- a mark is an open mark just where the one before it is an end mark
pub follows : {M : Type 0} {is_end is_open : M → Bool} {l : Line M} → LineReached is_end is_open l → OpensFollowEnds is_end is_open false l.queued
follows opening = tt
follows {is_end = is_end} {is_open = is_open} (put line m r may) = follow_push is_end is_open false line.queued m (follows r) (sym may.in_turn ∙ ended_is r)
follows (take_front line m rest r front) = follows r

abbrev one_if : Bool → ℕ
one_if b = cond b 1 0

-- an open mark more is a connection more
pub connections_push : {M : Type 0} (is_open : M → Bool) (ms : List M) (m : M) → connections is_open (ms ++ m ∷ []) ≡ connections is_open ms + cond (is_open m) 1 0
connections_push is_open ms m = omega (arith, sum_by_push (λ x. cond (is_open x) 1 0) ms m)

few_push : {M : Type 0} (is_open : M → Bool) (ms : List M) (m : M) → connections is_open ms ≤ 256 → (is_open m ≡ true → connections is_open ms < 256) → connections is_open (ms ++ m ∷ []) ≤ 256
few_push is_open ms m within below =
    elim (cases_Bool (is_open m)) [
      | inl begins ↦ omega (arith, connections_push is_open ms m, ap one_if begins, below begins)
      | inr other ↦ omega (arith, connections_push is_open ms m, ap one_if other)
    ]

-- a line has 256 connections at the most
pub few : {M : Type 0} {is_end is_open : M → Bool} {l : Line M} → LineReached is_end is_open l → connections is_open l.queued ≤ 256
few opening = omega arith
few {is_open = is_open} (put line m r may) = few_push is_open line.queued m (few r) may.few
few (take_front line m rest r front) = few r

-- what was taken is a beginning of what was queued
pub taken_begins : {M : Type 0} {is_end is_open : M → Bool} {l : Line M} → LineReached is_end is_open l → IsBeginning l.taken l.queued
taken_begins {l = l} r = (l.inbox, queued_parts r)

-- a line went on: what was queued and what was taken only grew, at their ends
abbrev pub GoesOn : {M : Type 0} → Line M → Line M → Type 0
GoesOn old new = IsBeginning old.queued new.queued × IsBeginning old.taken new.taken

pub goes_on_same : {M : Type 0} (l : Line M) → GoesOn l l
goes_on_same l = (([], sym (append-nil l.queued)), ([], sym (append-nil l.taken)))

beginning_then : {M : Type 0} (a b c : List M) → IsBeginning a b → IsBeginning b c → IsBeginning a c
beginning_then a b c p q = (p.0 ++ q.0, q.1 ∙ (ap (λ ms. ms ++ q.0) p.1 ∙ append_assoc a p.0 q.0))

pub goes_on_then : {M : Type 0} (k l m : Line M) → GoesOn k l → GoesOn l m → GoesOn k m
goes_on_then k l m p q = (beginning_then k.queued l.queued m.queued p.0 q.0, beginning_then k.taken l.taken m.taken p.1 q.1)

pub goes_on_put : {M : Type 0} (is_end : M → Bool) (l : Line M) (m : M) → GoesOn l (line_put is_end l m)
goes_on_put is_end l m = ((m ∷ [], refl), ([], sym (append-nil l.taken)))

pub goes_on_taken : {M : Type 0} (l : Line M) → GoesOn l (line_taken l)
goes_on_taken l = (([], sym (append-nil l.queued)), (take 1 l.inbox, refl))
