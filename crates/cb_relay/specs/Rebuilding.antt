-- What comes of rebuilding a block from its compact form (BIP 152) and transactions that are known.
use Rattle.std.specs.Prelude.{◌≡◌, ℕ, List, [], map, Result, Ok}
use Rattle.cb_base.specs.Reading.{◌>>=◌}
use Rattle.cb_base.specs.declared.fault.Fault.{Fault}
use Rattle.cb_block.specs.Blocks.{IsSoundBlock}
use Rattle.cb_block.specs.BlockText.{block_text}
use Rattle.cb_block.specs.declared.block.Block.{Block}
use Rattle.cb_compact.specs.Honest.{AreOneIfApart}
use Rattle.cb_compact.specs.ShortIds.{key_of}
use Rattle.cb_compact.specs.declared.named_tx.Pair.{Pair}
use Rattle.cb_wire.specs.BlockTransactions.{txs_request_text}
use Rattle.cb_wire.specs.declared.compact_block.HeaderAndShortIds.{HeaderAndShortIds}
use Rattle.cb_compact.specs.Matching.{pair_of}
use Rattle.cb_compact.specs.Rebuilding.{rebuilt_of}
use Rattle.cb_compact.specs.declared.rebuilding.Rebuilt.{Rebuilt}
use Rattle.cb_compact.specs.declared.rebuilding.Rebuilt.TheVariants as rebuilding
use Rattle.cb_relay.specs.WholeMessages.{form_in, txs_in}
use Rattle.cb_relay.specs.declared.rebuilding.Kind.{Kind}
use Rattle.cb_relay.specs.declared.rebuilding.Kind.TheVariants as kinds
use Rattle.cb_block.specs.declared.tx.Tx.{Tx}

-- What it is, and its text: the block; or the payload of the request for what is missing; or
-- nothing, if the compact block is useless.
abbrev pub answer_of : Rebuilt → Kind × List ℕ
answer_of (rebuilding.Sound block) = (kinds.Block, block_text block)
answer_of (rebuilding.Lacking partial request) = (kinds.Request, txs_request_text request)
answer_of rebuilding.Useless = (kinds.Useless, [])

-- The transactions as candidates: each with its short id under the compact block's key.
abbrev pub pairs_under : HeaderAndShortIds → List Tx → List Pair
pairs_under form txs = map (pair_of (key_of form.header form.nonce)) txs

-- The message is read first, then the transactions.
unfoldable pub rebuilt_in : List ℕ → List ℕ → Result (Kind × List ℕ) Fault
rebuilt_in message txs = do
  form ← form_in message
  given ← txs_in txs
  Ok (answer_of (rebuilt_of form (pairs_under form given)))

-- The request for what is missing; nothing, if there is no request to send.
abbrev pub request_in : Kind × List ℕ → List ℕ
request_in (kinds.Block, text) = []
request_in (kinds.Request, text) = text
request_in (kinds.Useless, text) = []

-- The text is a sound block with the header of the compact block that is these bytes. Any sound
-- block with that header is this block, unless hashes collide.
pub record IsTheBlock (message text : List ℕ) : Type 0 where
  pub form : HeaderAndShortIds
  pub block : Block
  pub read : form_in message ≡ Ok form
  pub told : text ≡ block_text block
  pub header : block.header ≡ form.header
  pub sound : IsSoundBlock block
  pub only : (other : Block) → IsSoundBlock other → form.header ≡ other.header
      → AreOneIfApart other block
