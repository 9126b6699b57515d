-- A link between an honest node and one that stalls or lies.
use Rattle.std.specs.Prelude.{◌≡◌, ◌⊎◌, ◌++◌, Bool, true, false, if◌then◌else◌, List, [], ◌∷◌, Option, None, Some, option_to_list}
use Rattle.cb_block.specs.declared.block.Block.{Block}
use Rattle.cb_wire.specs.Grammar.{IsWithinLimits}
use Rattle.cb_wire.specs.declared.message.Message.{Message}
use Rattle.cb_hall.specs.Journal.{JournalState}
use Rattle.cb_peer_state.specs.Session.{openings}
use Rattle.cb_peer_state.specs.State.{is_closed}
use Rattle.cb_peer_state.specs.declared.event.Event.TheVariants as events
use Rattle.cb_net_node.specs.Ends.{Begins, Gives, Hears}
use Rattle.cb_net_node.specs.LooseLink.{LooseView, is_loose_open}
use Rattle.cb_net_node.specs.declared.end.Start.{Start}
use Rattle.cb_net_node.specs.declared.side.Side.{Side}
use Rattle.cb_net_node.specs.declared.side.Side.TheVariants.{First, Second}
use Rattle.cb_net_node.specs.Lies.{Opens}
use Rattle.cb_net_node.specs.declared.lies.Misdeed.{Misdeed}
use Rattle.cb_net_node.specs.Asking.{asks}
use Rattle.cb_net_node.specs.declared.forged_link.ForgedLink.{ForgedLink}

abbrev pub is_same_side : Side → Side → Bool
is_same_side First First = true
is_same_side First Second = false
is_same_side Second First = false
is_same_side Second Second = true

-- what is on its way to a side: to the session of the honest node, or from it
abbrev pub forged_way : ForgedLink → Side → List Message
forged_way forged side =
    if is_same_side side forged.honest then forged.link.end.inbox else forged.link.sent

-- The session was given nothing yet, and the messages that open it are on their way.
pub record IsForged (honest : Side) (start : Start) (forged : ForgedLink) : Type 0 where
  pub honest_is : forged.honest ≡ honest
  pub begins : Begins start (record forged.link.end { inbox = [] })
  pub sent : forged.link.sent ≡ openings start.settings
  pub lasts : forged.link.lasts ≡ true
  pub about : forged.about ≡ None

-- The session has a tick, and all that it sends is on its way, unless it is over.
pub record Ticks (hall hall' : JournalState) (old new : LooseView) : Type 0 where
  pub given : is_loose_open old ≡ true → (new.lasts ≡ true)
      × Gives asks events.Tick old.end new.end hall hall' old.sent new.sent
  pub over : is_loose_open old ≡ false → (new ≡ old) × (hall' ≡ hall)

-- The session hears the message that arrives next, and all that it sends is on its way.
pub record HearsOne (hall hall' : JournalState) (old new : LooseView) : Type 0 where
  pub going : is_loose_open old ≡ true
  pub lasts : new.lasts ≡ true
  pub hears : Hears asks old.end new.end hall hall' old.sent new.sent

-- The session is over, or nothing is on its way to it.
pub record HearsNone (hall hall' : JournalState) (old new : LooseView) : Type 0 where
  pub nothing : (is_loose_open old ≡ false) ⊎ (old.end.inbox ≡ [])
  pub same : (new ≡ old) × (hall' ≡ hall)

-- The other node takes the message that it hears next, if there is one and the link lasts, and puts
-- others on their way. The session isn't touched.
pub record AnswersByHand (old new : LooseView) : Type 0 where
  pub heard : Option Message
  pub answers : List Message
  pub taken : old.sent ≡ option_to_list heard ++ new.sent
  pub none : heard ≡ None → (old.lasts ≡ false) ⊎ (old.sent ≡ [])
  pub others : new ≡ record old {
    sent = new.sent;
    end = record old.end { inbox = old.end.inbox ++ answers };
  }

-- The other node puts messages on their way. The session isn't touched.
pub record Puts (old new : LooseView) : Type 0 where
  pub put : List Message
  pub others : new ≡ record old { end = record old.end { inbox = old.end.inbox ++ put } }

-- A message goes out, unless it is too long for an envelope.
pub record Says (message : Message) (said : List Message) : Type 0 where
  pub within : IsWithinLimits message → said ≡ message ∷ []
  pub too_long : ¬ IsWithinLimits message → said ≡ []

-- The other node says one thing.
pub record SaysOne (message : Message) (old new : LooseView) : Type 0 where
  pub said : List Message
  pub says : Says message said
  pub others : new ≡ record old { end = record old.end { inbox = old.end.inbox ++ said } }

-- The other node begins to stall or to lie about a block.
pub record Misbehaves (misdeed : Misdeed) (block : Block) (old new : ForgedLink) : Type 0 where
  pub message : Message
  pub opens : Opens misdeed block message
  pub says : SaysOne message old.link new.link
  pub about : new.about ≡ Some (misdeed, block)
  pub others : new ≡ record old { link = new.link; about = new.about }

-- The session is over, and nothing is on its way.
pub record IsOver (forged : LooseView) : Type 0 where
  pub lasts : forged.lasts ≡ false
  pub closed : is_closed forged.end.trace.session.state ≡ true
  pub inbox : forged.end.inbox ≡ []
  pub sent : forged.sent ≡ []
