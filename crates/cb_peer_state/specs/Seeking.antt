-- What is unknown to a session: the parent of a header or a block, or an announced block; and
-- what answers its request for headers. Sources: Bitcoin's peer-to-peer protocol (`getheaders`,
-- `headers`); that one request at a time is sent is own.
use Rattle.std.specs.Prelude.{◌≡◌, Bool, true, false, [], Option, Some, None}
use Rattle.std.specs.List.{list_any}
use Rattle.cb_block.specs.declared.header.Header.{Header}
use Rattle.cb_hall.specs.declared.answer.Answer.{Answer}
use Rattle.cb_hall.specs.declared.answer.Answer.TheVariants as answers
use Rattle.cb_wire.specs.declared.inventory.Inventory.{Inventory}
use Rattle.cb_wire.specs.declared.inventory.Inventory.TheVariants as entry
use Rattle.cb_state.specs.declared.accepting.Heads.{Heads}
use Rattle.cb_wire.specs.declared.item.Item.{Item}
use Rattle.cb_wire.specs.declared.item.Item.TheVariants.{Good}
use Rattle.cb_wire.specs.declared.message.Message.{Message}
use Rattle.cb_wire.specs.declared.message.Message.TheVariants as messages
use Rattle.cb_peer_state.specs.declared.event.Event.{Event}
use Rattle.cb_peer_state.specs.declared.event.Event.TheVariants as events
use Rattle.cb_peer_state.specs.declared.session_state.SessionState.{SessionState}
use Rattle.cb_peer_state.specs.declared.stage.Stage.{Stage}
use Rattle.cb_peer_state.specs.declared.stage.Stage.TheVariants.{Admit, About, Give}
use Rattle.cb_peer_state.specs.declared.stage.Subject.TheVariants as subjects
use Rattle.cb_peer_state.specs.Questions.{short_in}
use Rattle.cb_peer_state.specs.Replying.{header_in, is_block, is_orphan}

-- The hall says that something is unknown: the parent of a header or of a block, or that an
-- announced block is needed.
abbrev pub finds_unknown : Answer → Bool
finds_unknown (answers.Heads heads) = is_orphan heads.refused
finds_unknown (answers.Taken taken) = is_orphan taken.refused
finds_unknown (answers.Need need) = list_any is_block need.entries
finds_unknown other = false

-- What answers a request for headers, so that another may be sent: a `headers` of which no parent
-- is unknown, an empty `headers`, or a probe. The header of a compact block answers none.
pub data Answered (s : SessionState) : Event → Type 0 where
  headers : (item : Option Item) (heads : Heads)
      → s.pending ≡ Some (record { item = item; stage = About subjects.Headers })
      → short_in item ≡ None → is_orphan heads.refused ≡ false
      → Answered s (events.Told (answers.Heads heads))
  nothing : s.pending ≡ Some (record { item = Some (Good (messages.Headers [])); stage = Admit })
      → Answered s (events.Told answers.Go)
  probe : Answered s events.Probe

-- The header of the block that the hall is given: one that came whole, or was rebuilt.
abbrev pub given_header : Option Item → Stage → Option Header
given_header item (About subjects.Block) = header_in item
given_header item (Give block) = Some block.header
given_header item stage = None

-- ---- transactions that are announced (BIP 37: the peer's `version` says whether it wants them)

abbrev pub names_tx : Inventory → Bool
names_tx (entry.Tx txid) = true
names_tx other = false

abbrev pub announces_tx : Message → Bool
announces_tx (messages.Inv entries) = list_any names_tx entries
announces_tx other = false
