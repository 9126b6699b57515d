use Rattle.std.proofs.Common.{◌≡◌, ℕ, ◌<◌, List, true, false, length, get_or, set, Ok, inr, refl, sym, ap, subst, ◌∙◌, arith}
use Rattle.std.proofs.lemmas.List.{length-set}
use Rattle.cb_node.specs.Choosing.{HasNone, IsLowest}
use Rattle.cb_node.specs.Slot.{AreAlike, IsInboxOf, SlotState, WaitsAt, uses_of}
use Rattle.cb_node.proofs.Slots.{alike_then, count_of, inbox_at, still_of, waits_set, waits_unused}
use Rattle.cb_node.proofs.serving.Service.find.Goals as goal

-- a slot was made ready among slots that are alike
stays : (old mid : List SlotState) (i : ℕ) (d t : SlotState) → AreAlike old mid → d ≡ get_or mid i d → (t.inbox ≡ d.inbox) × (t.used ≡ d.used) → AreAlike old (set mid i t)
stays old mid i d t alike is same =
    alike_then old mid (set mid i t) i d t alike refl (same.0 ∙ ap (λ (s : SlotState). s.inbox) is) (same.1 ∙ ap (λ (s : SlotState). s.used) is)

pub returns-in-Some-clause-waits : goal.returns-in-Some-clause-waits
returns-in-Some-clause-waits g c =
    let slots = c.args.slots.now.items in
    let n = c.in-Some.number in
    let s : SlotState = c.index.result.now in
    let low : IsLowest (uses_of slots) false c.args.first c.args.end n = subst (λ (all : List SlotState). IsLowest (uses_of all) false c.args.first c.args.end n) c.as_slice.ensures.value c.in-Some.ensures.lowest in
    let lt : n < length slots = omega (arith, low.before, c.requires.end.0) in
    let here : s ≡ get_or slots n s = subst (λ k. s ≡ get_or slots k s) c.from.ensures c.index.ensures in
    waits_unused slots c.args.first c.args.end n s c.waits.result low lt
    (c.waits.ensures.waits ∙ ap (λ (t : SlotState). t.waits) here)
    (λ unused. c.waits.ensures.unused (ap (λ (t : SlotState). t.used) here ∙ unused))

pub ready-requires-clause-slot : goal.ready-requires-clause-slot
ready-requires-clause-slot g c κs within =
    let crew = c.args.common.now.crew in
    let mid = c.loop-number.slots.items in
    let i = c.from-in-loop-number.result in
    let d : SlotState = c.index_mut.result.now in
    let lt : i < length mid = omega (arith, c.from-in-loop-number.ensures, c.loop-number.invariant.1, c.requires.end.0) in
    subst (λ (s : SlotState). IsInboxOf crew s.inbox) (sym c.index_mut.ensures.value)
    (inbox_at crew mid i d (still_of crew c.args.slots.now.items mid c.requires.slots c.loop-number.invariant.0.inboxes) lt)

pub ready-requires-clause-few : goal.ready-requires-clause-few
ready-requires-clause-few g c κs within =
    let crew = c.args.common.now.crew in
    let mid = c.loop-number.slots.items in
    let i = c.from-in-loop-number.result in
    let d : SlotState = c.index_mut.result.now in
    let lt : i < length mid = omega (arith, c.from-in-loop-number.ensures, c.loop-number.invariant.1, c.requires.end.0) in
    let of : IsInboxOf crew d.inbox =
    subst (λ (s : SlotState). IsInboxOf crew s.inbox) (sym c.index_mut.ensures.value)
    (inbox_at crew mid i d (still_of crew c.args.slots.now.items mid c.requires.slots c.loop-number.invariant.0.inboxes) lt) in
    let count = count_of crew c.args.slots.now.items c.requires.slots in
    omega (arith, of.peer, count, c.requires.end.1)

pub returns-in_err-ready-clause-alike : goal.returns-in_err-ready-clause-alike
returns-in_err-ready-clause-alike g c =
    stays c.args.slots.now.items c.loop-number.slots.items c.from-in-loop-number.result c.index_mut.result.now c.ready.new.slot c.loop-number.invariant.0 c.index_mut.ensures.value c.ready.ensures.same

pub returns-then-branch-clause-alike : goal.returns-then-branch-clause-alike
returns-then-branch-clause-alike g c =
    stays c.args.slots.now.items c.loop-number.slots.items c.from-in-loop-number.result c.index_mut.result.now c.ready.new.slot c.loop-number.invariant.0 c.index_mut.ensures.value c.ready.ensures.same

pub returns-then-branch-clause-chosen : goal.returns-then-branch-clause-chosen
returns-then-branch-clause-chosen g c =
    let none : HasNone (uses_of c.args.slots.now.items) false c.args.first c.args.end = subst (λ (slots : List SlotState). HasNone (uses_of slots) false c.args.first c.args.end) c.as_slice.ensures.value (c.lowest_unused.ensures.none c.in_default.is) in
    inr (none, omega arith, omega arith)

pub returns-then-branch-clause-waits : goal.returns-then-branch-clause-waits
returns-then-branch-clause-waits g c =
    let mid = c.loop-number.slots.items in
    let i = c.from-in-loop-number.result in
    let t : SlotState = c.ready.new.slot in
    let lt : i < length mid = omega (arith, c.from-in-loop-number.ensures, c.loop-number.invariant.1, c.requires.end.0) in
    let is : c.ready.result ≡ Ok true = cc in
    subst (λ k. WaitsAt (set mid i t) k) c.from-in-loop-number.ensures (waits_set mid (set mid i t) i t refl lt (c.ready.ensures.waits is))

pub loop-number-preserved : goal.loop-number-preserved
loop-number-preserved g c =
    let mid = c.loop-number.slots.items in
    let i = c.from-in-loop-number.result in
    let t : SlotState = c.ready.new.slot in (
      stays c.args.slots.now.items mid i c.index_mut.result.now t c.loop-number.invariant.0 c.index_mut.ensures.value c.ready.ensures.same,
      length-set mid i t ∙ c.loop-number.invariant.1,
    )

pub returns-clause-no_slot : goal.returns-clause-no_slot
returns-clause-no_slot g c is =
    subst (λ (slots : List SlotState). HasNone (uses_of slots) false c.args.first c.args.end) c.as_slice.ensures.value (c.lowest_unused.ensures.none c.in_default.is)
