use Rattle.std.proofs.Common.{sym, ap, subst, ◌∙◌, List, ℕ, drop}
use Rattle.cb_wire.specs.Stream.{IsSettled}
use Rattle.cb_wire.proofs.Streams.{feed-broken, feed-taken, Stream-settles}
use Rattle.cb_wire.proofs.assembler.Assembler.feed.Goals as goal

pub returns-then-is_some-clause-stream : goal.returns-then-is_some-clause-stream
returns-then-is_some-clause-stream c =
    rw (← c.self.view_is) (feed-broken _ _ _ _ (sym c.is_some.ensures ∙ c.if-is_some.true) c.new.ensures.items)

pub invariant_of-self-in-Ok : goal.invariant_of-self-in-Ok
invariant_of-self-in-Ok c =
    subst (λ (rest : List ℕ). IsSettled rest c.in-Ok.field-0.fault)
    (sym (c.cut_front.ensures ∙ ap (drop c.in-Ok.field-0.used) (sym c.as_slice.ensures)))
    (Stream-settles _ _ _ _ c.in-Ok.ensures.stream)

pub returns-in-Ok-clause-stream : goal.returns-in-Ok-clause-stream
returns-in-Ok-clause-stream c =
    rw (← c.self.view_is)
    (feed-taken c.self.inside.rest.items c.args.piece.now c.as_slice.result.now _ c.self.inside.fault _ c.in-Ok.field-0.used _
    (sym c.is_some.ensures ∙ c.if-is_some.false)
    (c.as_slice.ensures ∙ c.in_ok-extend_from_slice.ensures.ok)
    (c.cut_front.ensures ∙ ap (drop c.in-Ok.field-0.used) (sym c.as_slice.ensures))
    c.in-Ok.ensures.stream)
