use Rattle.std.proofs.Common.{◌≡◌, ℕ, Result, Ok, Err, OnErr, get_or, set, refl, sym, ap, subst, ◌∙◌, arith}
use Rattle.cb_node.specs.declared.fault.NodeFault.{NodeFault}
use Rattle.cb_node.specs.Slot.{AreAlikeBut, IsInboxOf, SlotState, attached}
use Rattle.cb_node.proofs.Slots.{alike_then, attached_set, inbox_at, still_of}
use Rattle.cb_node.proofs.serving.Service.begin.Goals as goal

pub attach-requires-clause-slot : goal.attach-requires-clause-slot
attach-requires-clause-slot g c κs within =
    let crew = c.args.common.now.crew in
    let mid = c.find.new.slots.items in
    let d : SlotState = c.index_mut.result.now in
    subst (λ (s : SlotState). IsInboxOf crew s.inbox) (sym c.index_mut.ensures.value)
    (inbox_at crew mid c.from.result d (still_of crew c.args.slots.now.items mid c.requires.slots c.in_ok-number.ensures.alike.inboxes) (omega (arith, c.from.ensures, c.in_ok-number.ensures.within)))

-- what holds holds of a refusal
in_err : {P : Type 0} (result : Result ℕ NodeFault) → P → OnErr result P
in_err (Ok n) holds = tt
in_err (Err fault) holds = holds

pub returns-in_err-attach-clause-err : goal.returns-in_err-attach-clause-err
returns-in_err-attach-clause-err g c =
    let mid = c.find.new.slots.items in
    let i = c.from.result in
    let d : SlotState = c.index_mut.result.now in
    let t : SlotState = c.attach.new.self in
    let same : t ≡ get_or mid i d = c.in_err-attach.ensures.err ∙ c.index_mut.ensures.value in
    in_err c.from_residual-in_err-attach.result
    (alike_then c.args.slots.now.items mid (set mid i t) i d t c.in_ok-number.ensures.alike refl (ap (λ (s : SlotState). s.inbox) same) (ap (λ (s : SlotState). s.used) same))

pub returns-clause-ok : goal.returns-clause-ok
returns-clause-ok g c =
    let old = c.args.slots.now.items in
    let mid = c.find.new.slots.items in
    let i = c.from.result in
    let d : SlotState = c.index_mut.result.now in
    let t : SlotState = c.attach.new.self in
    let is : t ≡ attached (get_or mid i d) = c.in_ok-attach.ensures.ok ∙ ap attached c.index_mut.ensures.value in
    subst (λ n. AreAlikeBut n old (set mid i t)) c.from.ensures (attached_set old mid (set mid i t) i d c.in_ok-number.ensures.alike (ap (set mid i) is))
