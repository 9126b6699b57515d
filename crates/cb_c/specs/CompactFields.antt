-- The fields of a compact block as C has them.
use Rattle.std.specs.Prelude.{◌≡◌, length}
use Rattle.cb_relay.specs.Shapes.{header_of}
use Rattle.cb_wire.specs.declared.compact_block.HeaderAndShortIds.{HeaderAndShortIds}
use Rattle.cb_relay.specs.declared.message_shapes.CbCompact.{CbCompact}

-- the fields are those of the compact block, and the counts those of its lists
abbrev pub AreCompactFields : HeaderAndShortIds → CbCompact → Type 0
AreCompactFields form fields =
    (header_of fields.header ≡ form.header) × (fields.nonce ≡ form.nonce)
    × (fields.ids ≡ length form.txs.ids) × (fields.prefilled ≡ length form.txs.prefilled)
