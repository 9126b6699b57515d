-- What a node that stalls or lies puts on its way.
use Rattle.std.proofs.Common.{◌≡◌, List, [], ◌∷◌, ◌++◌, Option, Some, sym, ap, subst, ◌∙◌, append_assoc}
use Rattle.std.proofs.lemmas.List.{append-nil}
use Rattle.cb_block.specs.declared.block.Block.{Block}
use Rattle.cb_wire.specs.declared.message.Message.{Message}
use Rattle.cb_net_node.specs.LooseLink.{LooseView}
use Rattle.cb_net_node.specs.Lies.{Opens}
use Rattle.cb_net_node.specs.declared.lies.Misdeed.{Misdeed}
use Rattle.cb_net_node.specs.Forged.{Misbehaves, Puts, SaysOne}
use Rattle.cb_net_node.specs.declared.forged_link.ForgedLink.{ForgedLink}

abbrev with_inbox : LooseView → List Message → LooseView
with_inbox link inbox = record link { end = record link.end { inbox = inbox } }

-- nothing was put on its way
pub puts_none : (link : LooseView) → Puts link link
puts_none link = record { put = []; others = ap (with_inbox link) (sym (append-nil link.end.inbox)) }

-- one message more
pub puts_more : (first was now : LooseView) (message : Message) → Puts first was
    → now ≡ record was { end = record was.end { inbox = was.end.inbox ++ message ∷ [] } } → Puts first now
puts_more first was now message puts one =
    record {
      put = puts.put ++ message ∷ [];
      others =
          one
          ∙ ap (λ (link : LooseView). with_inbox link (link.end.inbox ++ message ∷ [])) puts.others
          ∙ ap (with_inbox first) (append_assoc first.end.inbox puts.put (message ∷ []));
    }

-- it turned to a misdeed, and said what begins it
pub misbehaved : (misdeed : Misdeed) (block copy : Block) (old turned new : ForgedLink) (message : Message) → copy ≡ block → Opens misdeed block message
    → turned ≡ record old { about = Some (misdeed, copy) } → new ≡ record turned { link = new.link } → SaysOne message turned.link new.link → Misbehaves misdeed block old new
misbehaved misdeed block copy old turned new message same opens turns others says =
    let about : new.about ≡ Some (misdeed, copy) = ap (λ (forged : ForgedLink). forged.about) others ∙ ap (λ (forged : ForgedLink). forged.about) turns in
    record {
      message = message;
      opens = opens;
      says = subst (λ (link : LooseView). SaysOne message link new.link) (ap (λ (forged : ForgedLink). forged.link) turns) says;
      about = about ∙ ap (λ (b : Block). Some (misdeed, b)) same;
      others =
          others
          ∙ ap (λ (forged : ForgedLink). record forged { link = new.link }) turns
          ∙ sym (ap (λ (a : Option (Misdeed × Block)). record old { link = new.link; about = a }) about);
    }
