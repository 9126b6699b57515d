-- A work that stands at a place of its desk is told of as a search through all works would tell.
use Rattle.std.proofs.Common.{◌≡◌, ◌∙◌, ℕ, zero, suc, ◌+◌, ◌<◌, Bool, true, false, cond, List, [], ◌∷◌, ◌++◌, length, get_or, Option, None, Some, refl, sym, ap, arith}
use Rattle.std.specs.Prelude.{IfSome, option_map, slice_get}
use Rattle.std.specs.List.{flat_map}
use Rattle.std.proofs.lemmas.Option.{slice_get-map, slice_get_read}
use Rattle.cb_state.specs.declared.connection.Connection.{Connection}
use Rattle.cb_state.specs.Announcers.{same_connection}
use Rattle.cb_hall.proofs.Lookups.{is_same}
use Rattle.cb_crew.specs.Desk.{DeskState}
use Rattle.cb_work.specs.PeerWork.{WorkState}
use Rattle.cb_trace.specs.Trace.{TraceView}
use Rattle.cb_audit.specs.Order.{AreInOrder, AuditedTrace, trace_of}
use Rattle.cb_audit.proofs.Orders.{trace_at}
use Rattle.cb_audit.specs.Desks.{told_in, trace_of_work, traces_of, traces_of_desk}

-- ---- places

in_front : {A : Type 0} (xs ys : List A) (i : ℕ) (x : A) → slice_get xs i ≡ Some x → slice_get (xs ++ ys) i ≡ Some x
in_front [] ys i x at = absurd (let never : None ≡ Some x = at in cc)
in_front (z ∷ zs) ys zero x at = at
in_front (z ∷ zs) ys (suc i) x at = in_front zs ys i x at

behind : {A : Type 0} (xs ys : List A) (i : ℕ) (x : A) → slice_get ys i ≡ Some x → slice_get (xs ++ ys) (length xs + i) ≡ Some x
behind [] ys i x at = (let same : 0 + i ≡ i = omega arith in ap (slice_get ys) same) ∙ at
behind (z ∷ zs) ys i x at = (let same : suc (length zs) + i ≡ suc (length zs + i) = omega arith in ap (slice_get (z ∷ zs ++ ys)) same) ∙ behind zs ys i x at

-- an item of one part stands somewhere in all of them
in_all : {A B : Type 0} (f : A → List B) (xs : List A) (place i : ℕ) (part : A) (x : B) → slice_get xs place ≡ Some part → slice_get (f part) i ≡ Some x → (all : ℕ) × (slice_get (flat_map f xs) all ≡ Some x)
in_all f [] place i part x at bt = absurd (let never : None ≡ Some part = at in cc)
in_all f (y ∷ ys) zero i part x at bt =
    let same : y ≡ part = (let some_same : Some y ≡ Some part = at in cc) in
    (i, in_front (f y) (flat_map f ys) i x (ap (λ (p : _). slice_get (f p) i) same ∙ bt))
in_all f (y ∷ ys) (suc place) i part x at bt =
    let rest = in_all f ys place i part x at bt in (length (f y) + rest.0, behind (f y) (flat_map f ys) rest.0 x rest.1)

-- ---- what was told

abbrev answers_of : Option TraceView → Option ℕ
answers_of trace = option_map (λ (t : TraceView). t.total.told) trace

by_first : (same : Bool) (trace : TraceView) (others : Option TraceView) (told : Option ℕ) → told ≡ answers_of others → cond same (Some trace.total.told) told ≡ answers_of (cond same (Some trace) others)
by_first true trace others told is = refl
by_first false trace others told is = is

told_of : (traces : List AuditedTrace) (c : Connection) → told_in traces c ≡ answers_of (trace_of traces c)
told_of [] c = refl
told_of (one ∷ others) c = by_first (same_connection one.connection c) one.trace (trace_of others c) (told_in others c) (told_of others c)

by_own : (same : Bool) (own told : ℕ) → cond same (Some own) None ≡ Some told → (same ≡ true) × (own ≡ told)
by_own true own told is = (refl, (let some_same : Some own ≡ Some told = is in cc))
by_own false own told is = absurd (let never : None ≡ Some told = is in cc)

module _ {S H F M : Type 0} (desks : List (DeskState (WorkState S H F) M)) (c : Connection) (place i : ℕ) (desk : DeskState (WorkState S H F) M) (work : WorkState S H F) where
  -- in order, no other trace is the connection's
  told_here : (told : ℕ) → AreInOrder (traces_of desks) → slice_get desks place ≡ Some desk → slice_get (desk.past ++ desk.work ∷ []) i ≡ Some work → told_in (trace_of_work work ∷ []) c ≡ Some told → told_in (traces_of desks) c ≡ Some told
  told_here told order at bt is =
      let own = by_own (same_connection work.badge.connection c) work.trace.total.told told is in
      let in_desk : slice_get (traces_of_desk desk) i ≡ Some (trace_of_work work) = slice_get-map trace_of_work (desk.past ++ desk.work ∷ []) i ∙ ap (option_map trace_of_work) bt in
      let there = in_all traces_of_desk desks place i desk (trace_of_work work) at in_desk in
      told_of (traces_of desks) c ∙ ap answers_of (trace_at (traces_of desks) c there.0 (trace_of_work work) order there.1 (is_same work.badge.connection c own.0))
      ∙ ap Some own.1

  -- by what the code reads
  pub told_if_here : (got : Option ℕ) → AreInOrder (traces_of desks) → place < length desks → desk ≡ get_or desks place desk → Some work ≡ slice_get (desk.past ++ desk.work ∷ []) i → got ≡ told_in (trace_of_work work ∷ []) c
      → IfSome got (λ told. told_in (traces_of desks) c ≡ Some told)
  told_if_here None order low own at is = tt
  told_if_here (Some told) order low own at is = told_here told order (slice_get_read desks (length desks) place desk refl low own) (sym at) (sym is)
