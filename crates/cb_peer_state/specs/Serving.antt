-- The messages that answer a `getdata` or a `getblocktxn` (Bitcoin's peer-to-peer protocol,
-- `getdata`, `notfound`; BIP 152, `cmpctblock`, `blocktxn`).
use Rattle.std.specs.Prelude.{ℕ, zero, suc, ◌+◌, ◌%◌, ◌^◌, List, [], ◌∷◌, ◌++◌, filter_map, Option, Some, None}
use Rattle.cb_wire.specs.declared.inventory.Inventory.{Inventory}
use Rattle.cb_state.specs.declared.serving.Piece.{Piece}
use Rattle.cb_state.specs.declared.serving.Piece.TheVariants as piece
use Rattle.cb_state.specs.declared.serving_places.Excerpt.{Excerpt}
use Rattle.cb_state.specs.declared.serving_places.Excerpt.TheVariants as excerpt
use Rattle.cb_wire.specs.declared.message.Message.{Message}
use Rattle.cb_wire.specs.declared.message.Message.TheVariants.{NotFound, Tx, Block, BlockTxn, CmpctBlock}
use Rattle.cb_peer_state.specs.Announcing.{announcing_block}

-- What is there is sent: a block that is near the tip and was asked for as a compact block is sent
-- as one, under this nonce.
abbrev pub served_as : ℕ → Piece → List Message
served_as nonce (piece.Tx tx) = Tx tx ∷ []
served_as nonce (piece.Whole block) = Block block ∷ []
served_as nonce (piece.Short block) = announcing_block block nonce ∷ []
served_as nonce (piece.Lacking asked) = []

-- Each compact block has a nonce of its own: the one behind that of the last, within 64 bits.
abbrev pub nonce_behind : ℕ → Piece → ℕ
nonce_behind nonce (piece.Short block) = (nonce + 1) % 2 ^ 64
nonce_behind nonce other = nonce

-- What is there, in order. The first compact block is under this nonce.
abbrev pub sent : ℕ → List Piece → List Message
sent nonce [] = []
sent nonce (piece ∷ pieces) = served_as nonce piece ++ sent (nonce_behind nonce piece) pieces

-- how many are sent as compact blocks
abbrev pub shorts : List Piece → ℕ
shorts [] = 0
shorts (piece.Short block ∷ pieces) = shorts pieces + 1
shorts (other ∷ pieces) = shorts pieces

-- the nonces of the compact blocks among messages, in order
abbrev pub nonce_in : Message → Option ℕ
nonce_in (CmpctBlock form) = Some form.nonce
nonce_in other = None

abbrev pub nonces_in : List Message → List ℕ
nonces_in messages = filter_map nonce_in messages

-- So many nonces from this one on, within 64 bits.
abbrev pub nonces_from : ℕ → ℕ → List ℕ
nonces_from nonce zero = []
nonces_from nonce (suc count) = nonce ∷ nonces_from ((nonce + 1) % 2 ^ 64) count

abbrev pub lacking_in : Piece → Option Inventory
lacking_in (piece.Lacking asked) = Some asked
lacking_in other = None

abbrev pub not_found : List Inventory → List Message
not_found [] = []
not_found (first ∷ others) = NotFound (first ∷ others) ∷ []

-- What is there, in order, and then one `notfound` with all that isn't (this node's own order).
abbrev pub served : ℕ → List Piece → List Message
served nonce pieces = sent nonce pieces ++ not_found (filter_map lacking_in pieces)

-- The answer to a request for transactions of a block: these, or the whole block if it is too far
-- below the tip. Nothing is sent for a block that isn't there, or for places that it hasn't.
abbrev pub excerpt_told : Excerpt → List Message
excerpt_told excerpt.Absent = []
excerpt_told (excerpt.Refused fault) = []
excerpt_told (excerpt.Part part) = BlockTxn (record { block = part.hash; txs = part.txs }) ∷ []
excerpt_told (excerpt.Whole block) = Block block ∷ []
