-- Where transactions lie in the payloads of BIP 152.
use Rattle.std.specs.Prelude.{◌≡◌, ℕ, ◌+◌, List, [], ◌∷◌, length}
use Rattle.cb_base.specs.CompactSize.{compact_text}
use Rattle.cb_relay.specs.Shapes.{header_of}
use Rattle.cb_relay.specs.Spans.{txs_at}
use Rattle.cb_relay.specs.declared.shapes.CbSpan.{CbSpan}
use Rattle.cb_wire.specs.ShortForms.{prefilled_text, short_id_text}
use Rattle.cb_wire.specs.declared.block_transactions.BlockTransactions.{BlockTransactions}
use Rattle.cb_wire.specs.declared.compact_block.HeaderAndShortIds.{HeaderAndShortIds}
use Rattle.cb_wire.specs.declared.prefilled.PrefilledTransaction.{PrefilledTransaction}
use Rattle.cb_relay.specs.declared.message_shapes.CbPrefilled.{CbPrefilled}
use Rattle.cb_relay.specs.declared.spans.CompactParts.{CompactParts}
use Rattle.cb_block.specs.TxText.{list_text, tx_text}

-- The transactions of a `blocktxn` begin behind the block's hash and their count.
abbrev pub spans_in : BlockTransactions → List CbSpan
spans_in part = txs_at (32 + length (compact_text (length part.txs))) part.txs

-- Prefilled transactions one after the other, the first of which begins there. Each lies behind its
-- difference.
abbrev pub prefilled_from : ℕ → List PrefilledTransaction → List CbPrefilled
prefilled_from at [] = []
prefilled_from at (given ∷ others) =
    record {
      difference = given.difference;
      tx = record {
        offset = at + length (compact_text given.difference);
        len = length (tx_text given.tx);
      };
    }
    ∷ prefilled_from (at + length (prefilled_text given)) others

-- The prefilled transactions of a `cmpctblock` begin behind the header, the nonce, the short ids,
-- and their count.
abbrev pub prefilled_in : HeaderAndShortIds → List CbPrefilled
prefilled_in form =
    prefilled_from
    (88 + length (list_text short_id_text form.txs.ids)
    + length (compact_text (length form.txs.prefilled)))
    form.txs.prefilled

-- The parts are those of the compact block.
pub record AreCompactParts (form : HeaderAndShortIds) (parts : CompactParts) : Type 0 where
  pub header : header_of parts.fields.header ≡ form.header
  pub nonce : parts.fields.nonce ≡ form.nonce
  pub ids : parts.fields.ids ≡ length form.txs.ids
  pub prefilled : parts.fields.prefilled ≡ length form.txs.prefilled
  pub id_list : parts.ids.items ≡ form.txs.ids
  pub prefilled_list : parts.prefilled.items ≡ prefilled_in form
