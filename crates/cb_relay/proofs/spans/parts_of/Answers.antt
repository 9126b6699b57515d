use Rattle.std.proofs.Common.{ap, arith, length}
use Rattle.std.specs.List.{flat_map}
use Rattle.cb_base.specs.CompactSize.{compact_text}
use Rattle.cb_wire.specs.ShortForms.{prefilled_text, short_id_text}
use Rattle.cb_block.specs.TxText.{list_text}
use Rattle.cb_relay.proofs.Asking.{short_room}
use Rattle.cb_relay.proofs.spans.parts_of.Goals as goal

pub overflow_add-before : goal.overflow_add-before
overflow_add-before c = omega (arith, c.requires, short_room c.args.form.txs, c.ids_size-before.ensures, ap (λ it. length (list_text short_id_text it)) c.ids.ensures.same)

pub overflow_add-start : goal.overflow_add-start
overflow_add-start c =
    omega (
      arith,
      c.requires,
      short_room c.args.form.txs,
      c.ids_size-before.ensures,
      ap (λ it. length (list_text short_id_text it)) c.ids.ensures.same,
      c.compact_size.ensures,
      ap (λ it. length (compact_text (length it))) c.prefilled-count.ensures.same,
    )

pub prefilled_from-requires : goal.prefilled_from-requires
prefilled_from-requires c =
    omega (
      arith,
      c.requires,
      short_room c.args.form.txs,
      c.ids_size-before.ensures,
      ap (λ it. length (list_text short_id_text it)) c.ids.ensures.same,
      c.compact_size.ensures,
      ap (λ it. length (compact_text (length it))) c.prefilled-count.ensures.same,
      ap (λ it. length (flat_map prefilled_text it)) c.prefilled.ensures.same,
    )
