-- What two nodes are joined by: two sessions, or one session and messages made by hand.
use Rattle.std.specs.Prelude.{◌≡◌, ◌⊎◌, Bool, true, false, if◌then◌else◌, List, [], Option, None, Some}
use Rattle.std.specs.Option.{option_map}
use Rattle.cb_block.specs.declared.block.Block.{Block}
use Rattle.cb_wire.specs.declared.message.Message.{Message}
use Rattle.cb_hall.specs.Journal.{JournalState}
use Rattle.cb_peer_state.specs.declared.event.Event.TheVariants as events
use Rattle.cb_peer_state.specs.declared.state.State.{State}
use Rattle.cb_audit.specs.Order.{AuditedTrace}
use Rattle.cb_net_node.specs.Link.{AreClosed, GivesAt, HearsAt, LinkView, end_at, is_open_at}
use Rattle.cb_net_node.specs.LooseLink.{LooseView}
use Rattle.cb_net_node.specs.declared.end.End.{End}
use Rattle.cb_net_node.specs.declared.side.Side.{Side}
use Rattle.cb_net_node.specs.declared.lies.Misdeed.{Misdeed}
use Rattle.cb_net_node.specs.Asking.{asks}
use Rattle.cb_net_node.specs.Forged as forged
use Rattle.cb_net_node.specs.Forged.{forged_way, is_same_side}
use Rattle.cb_net_node.specs.declared.forged_link.ForgedLink.{ForgedLink}
use Rattle.cb_net_node.specs.declared.joined.Joined.{Joined}
use Rattle.cb_net_node.specs.declared.joined.Joined.TheVariants.{Forged, Honest}

-- ---- what it is

-- the end of a side with its session; a node that stalls or lies has none
abbrev pub session_at : Joined → Side → Option End
session_at (Honest link) side = Some (end_at link.ends side)
session_at (Forged link) side = if is_same_side side link.honest then Some link.link.end else None

-- a side has a session
abbrev pub has_session : Joined → Side → Bool
has_session (Honest link) side = true
has_session (Forged link) side = is_same_side side link.honest

-- what is on its way to a side
abbrev pub on_its_way : Joined → Side → List Message
on_its_way (Honest link) side = (end_at link.ends side).inbox
on_its_way (Forged link) side = forged_way link side

-- how far the session of a side is
abbrev pub state_at : Joined → Side → Option State
state_at joined side = option_map (λ end. end.trace.session.state) (session_at joined side)

-- the connection of that session, with its trace
abbrev pub audited_at : Joined → Side → Option AuditedTrace
audited_at joined side =
    option_map (λ end. record { connection = end.badge.connection; trace = end.trace })
    (session_at joined side)

-- ---- what happens to it

-- The session at a side of two has a tick, unless it is over.
pub record TicksAt (side : Side) (hall hall' : JournalState) (old new : LinkView) : Type 0 where
  pub given : is_open_at old side ≡ true → (new.lasts ≡ true)
      × GivesAt asks side events.Tick old.ends new.ends hall hall'
  pub over : is_open_at old side ≡ false → (new ≡ old) × (hall' ≡ hall)

-- The session at a side has a tick, and its node's hall is asked.
abbrev pub Ticks : Side → JournalState → JournalState → Joined → Joined → Type 0
Ticks side hall hall' (Honest old) new =
    (now : LinkView) × (new ≡ Honest now) × TicksAt side hall hall' old now
Ticks side hall hall' (Forged old) new =
    (now : LooseView) × (new ≡ Forged (record old { link = now }))
    × forged.Ticks hall hall' old.link now

-- The session at a side of two hears the message that arrives next.
pub record HearsOneAt (side : Side) (hall hall' : JournalState) (old new : LinkView)
    : Type 0 where
  pub going : is_open_at old side ≡ true
  pub lasts : new.lasts ≡ true
  pub hears : HearsAt asks side old.ends new.ends hall hall'

-- It is over, or nothing is on its way to it.
pub record HearsNoneAt (side : Side) (hall hall' : JournalState) (old new : LinkView)
    : Type 0 where
  pub nothing : (is_open_at old side ≡ false) ⊎ ((end_at old.ends side).inbox ≡ [])
  pub same : (new ≡ old) × (hall' ≡ hall)

-- The session at a side hears the message that arrives next, if there is one, and its node's hall
-- is asked.
abbrev pub Hears : Side → JournalState → JournalState → Joined → Joined → Type 0
Hears side hall hall' (Honest old) new =
    (now : LinkView) × (new ≡ Honest now)
    × (HearsOneAt side hall hall' old now ⊎ HearsNoneAt side hall hall' old now)
Hears side hall hall' (Forged old) new =
    (now : LooseView) × (new ≡ Forged (record old { link = now }))
    × (forged.HearsOne hall hall' old.link now ⊎ forged.HearsNone hall hall' old.link now)

-- The node that stalls or lies hears a message, and answers by hand.
abbrev pub AnswersByHand : Joined → Joined → Type 0
AnswersByHand (Honest old) new = new ≡ Honest old
AnswersByHand (Forged old) new =
    (now : LooseView) × (new ≡ Forged (record old { link = now }))
    × forged.AnswersByHand old.link now

-- All its sessions are over, and nothing is on its way.
abbrev pub Over : Joined → Joined → Type 0
Over (Honest old) new =
    (now : LinkView) × (new ≡ Honest now) × (now.lasts ≡ false) × AreClosed now.ends
Over (Forged old) new =
    (now : LooseView) × (new ≡ Forged (record old { link = now })) × forged.IsOver now

-- A node that stalls or lies begins to do so about a block, if there is one.
abbrev pub Misbehaves : Misdeed → Block → Joined → Joined → Type 0
Misbehaves misdeed block (Honest old) new = new ≡ Honest old
Misbehaves misdeed block (Forged old) new =
    (now : ForgedLink) × (new ≡ Forged now) × forged.Misbehaves misdeed block old now
