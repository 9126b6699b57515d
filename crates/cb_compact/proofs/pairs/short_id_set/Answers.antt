use Rattle.std.proofs.Common.{◌∙◌, ap, get_or, nat_eq, sym, take}
use Rattle.std.proofs.lemmas.Grind.{take_at_read}
use Rattle.std.specs.HashSet.{contains}
use Rattle.cb_compact.specs.Slots.{is_among}
use Rattle.cb_compact.proofs.Matching.{set_more}
use Rattle.cb_compact.proofs.pairs.short_id_set.Goals as goal

pub loop-id-preserved : goal.loop-id-preserved
loop-id-preserved c =
    let i = c.loop-id.id-index in
    let ids = c.args.ids.now in
    let more = (take_at_read ids i 0 c.loop-id-test.true).1 in (
      λ other. set_more (contains nat_eq c.loop-id.wanted) (contains nat_eq c.insert.new.self) (take i ids) (get_or ids i 0) c.in_ok-insert.ensures.updates.0 c.loop-id.invariant.0 other ∙ ap (is_among other) (sym more),
      c.in_ok-insert.ensures.hasher ∙ c.loop-id.invariant.1,
    )
