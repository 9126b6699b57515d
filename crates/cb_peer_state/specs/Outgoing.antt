-- A message that goes out, as it is kept.
use Rattle.std.specs.Prelude.{◌≡◌, ◌⊎◌, ℕ, ◌*◌, ◌≤◌, length}
use Rattle.cb_block.specs.Blocks.{MeetsBlockRules}
use Rattle.cb_compact.specs.Shortening.{shortened_of}
use Rattle.cb_wire.specs.Grammar.{payload_text}
use Rattle.cb_wire.specs.declared.message.Message.{Message}
use Rattle.cb_wire.specs.declared.message.Message.TheVariants as messages
use Rattle.cb_peer_state.specs.declared.outgoing.Content.{Content}
use Rattle.cb_peer_state.specs.declared.outgoing.Content.TheVariants as contents

-- The message that it is.
abbrev pub message_of : Content → Message
message_of (contents.Made message) = message
message_of (contents.Short form) = messages.CmpctBlock (shortened_of form.block form.nonce)

-- The block of a compact block that isn't made yet meets the rules of a block.
abbrev pub MeetsRules : Content → Type 0
MeetsRules (contents.Made message) = Unit {0}
MeetsRules (contents.Short form) = MeetsBlockRules form.block

-- a `cmpctblock`
abbrev pub IsCompactBlock : Message → Type 0
IsCompactBlock (messages.CmpctBlock form) = Unit {0}
IsCompactBlock other = ⊥

-- So many bytes of a message aren't shared with others: none of a transaction or a block, 8 for
-- each transaction of a `blocktxn`, and the payload's of all others. A compact block that isn't
-- made yet has none.
abbrev pub IsOwn : Message → ℕ → Type 0
IsOwn (messages.Tx tx) own = own ≡ 0
IsOwn (messages.Block block) own = own ≡ 0
IsOwn (messages.BlockTxn txs) own = own ≡ length txs.txs * 8
IsOwn (messages.CmpctBlock form) own =
    (own ≡ 0) ⊎ (own ≡ length (payload_text (messages.CmpctBlock form)))
IsOwn other own = own ≡ length (payload_text other)

-- a message whose payload has 1,000 bytes at most
abbrev pub IsSmall : Message → Type 0
IsSmall message = length (payload_text message) ≤ 1000
