-- A node of a network, and what it does.
use Rattle.std.specs.Prelude.{◌≡◌, ◌≢◌, ℕ, ℤ, pos, ◌^◌, ◌++◌, Bool, true, false, if◌then◌else◌, List, [], ◌∷◌, map, nat_lt, Option, None, Some, slice_get, slice_set, option_and_then, IsSomeAnd}
use Rattle.std.specs.Option.{option_map}
use Rattle.cb_base.specs.declared.hash.Hash256.{Hash256}
use Rattle.cb_block.specs.declared.tx.Tx.{Tx}
use Rattle.cb_block.specs.declared.block.Block.{Block}
use Rattle.cb_state.specs.Mining.{IsMined}
use Rattle.cb_hall.specs.Journal.{JournalState, new_journal}
use Rattle.cb_hall.specs.declared.answer.Answer.{Answer}
use Rattle.cb_hall.specs.declared.entry.Entry.TheVariants as entries
use Rattle.cb_hall.specs.declared.entry.Local.TheVariants as locals
use Rattle.cb_hall.specs.Badge.{AreBadges, BadgeState, fresh_badge}
use Rattle.cb_hall.specs.Hall.{Grows, Submitted, look_of, next_connection}
use Rattle.cb_hall.specs.declared.summary.Look.{Look}
use Rattle.cb_net_plan.specs.declared.roles.Role.{Role}
use Rattle.cb_net_plan.specs.declared.roles.Role.TheVariants.{Honest, Lies, Stalls}
use Rattle.cb_net_node.specs.declared.node.SimulatedNode.{SimulatedNode}
use Rattle.cb_net_node.specs.declared.way.Way.{Way}

-- ---- what it is like

abbrev pub is_honest_role : Role → Bool
is_honest_role Honest = true
is_honest_role Stalls = false
is_honest_role Lies = false

-- it does what the protocol says
abbrev pub is_honest : SimulatedNode → Bool
is_honest node = is_honest_role node.role

-- the tip of a hall
abbrev pub tip_of : JournalState → Hash256
tip_of hall = (look_of hall.latest.relay).tip

-- the summary of its hall, if it has one
abbrev pub look_at : SimulatedNode → Option Look
look_at node = option_map (λ hall. look_of hall.latest.relay) node.hall

-- the height of a tip as `version` tells it: 0 if there is none, or if it has no 31 bits
abbrev pub told_height : Option Look → ℤ
told_height None = pos 0
told_height (Some look) = if nat_lt look.height (2 ^ 31) then pos look.height else pos 0

-- it asked for nothing
abbrev pub at_once : Way
at_once = record { asked = false; whole = false }

-- A node that has no links, and no hall yet.
pub record IsNew (role : Role) (node : SimulatedNode) : Type 0 where
  pub role_is : node.role ≡ role
  pub hall : node.hall ≡ None
  pub ends : node.ends.items ≡ []
  pub badges : node.badges.items ≡ []
  pub free_at : node.free_at ≡ 0
  pub came : node.came ≡ None
  pub way : node.way ≡ at_once

-- ---- what changes

-- It has a hall in which nothing happened, with a first connection for each peer.
pub record HasBegun (peers : ℕ) (old new : SimulatedNode) : Type 0 where
  pub hall : new.hall ≡ Some new_journal
  pub tip : new.tip ≡ tip_of new_journal
  pub first : List BadgeState
  pub are : AreBadges peers first
  pub badges : new.badges.items ≡ map (λ badge. Some badge) first
  pub others : new ≡ record old { hall = new.hall; tip = new.tip; badges = new.badges }

-- the badge of a peer's first connection, if that wasn't used yet
abbrev pub unused : SimulatedNode → ℕ → Option BadgeState
unused node peer = option_and_then (λ badge. badge) (slice_get node.badges.items peer)

-- It is used now.
pub record Uses (peer : ℕ) (old new : SimulatedNode) : Type 0 where
  pub badges : new.badges.items ≡ slice_set old.badges.items peer None
  pub others : new ≡ record old { badges = new.badges }

-- The hall opened the peer's next connection.
pub record OpensNext (peer : ℕ) (badge : BadgeState) (old new : SimulatedNode) : Type 0 where
  pub was : JournalState
  pub had : old.hall ≡ Some was
  pub badge_is : badge ≡ fresh_badge (next_connection was peer)
  pub now : JournalState
  pub has : new.hall ≡ Some now
  pub grows : Grows was (entries.Opened (next_connection was peer)) None now
  pub others : new ≡ record old { hall = new.hall }

-- A hall takes transactions, one after another, as far as they fit.
abbrev pub TakesAll : JournalState → List Tx → JournalState → Type 0
TakesAll old [] new = new ≡ old
TakesAll old (tx ∷ txs) new =
    (answer : Answer) × (next : JournalState) × Submitted old (locals.Tx tx) next answer
    × TakesAll next txs new

-- and so its node, if it has a hall
abbrev pub TakesTxs : List Tx → Option JournalState → Option JournalState → Type 0
TakesTxs txs None new = new ≡ None
TakesTxs txs (Some old) new = IsSomeAnd new (λ hall. TakesAll old txs hall)

-- Some of the transactions were taken, the first ones.
pub record TakesSome (txs : List Tx) (old new : Option JournalState) : Type 0 where
  pub taken : List Tx
  pub left : List Tx
  pub parts : txs ≡ taken ++ left
  pub takes : TakesTxs taken old new

-- It mined a block on its tip, and took it.
pub record Mines (mark : ℕ) (block : Block) (old new : SimulatedNode) : Type 0 where
  pub was : JournalState
  pub had : old.hall ≡ Some was
  pub mined : IsMined was.latest.relay mark block
  pub now : JournalState
  pub has : new.hall ≡ Some now
  pub answer : Answer
  pub takes : Submitted was (locals.Block block) now answer
  pub others : new ≡ record old { hall = new.hall }

-- Its hall has another tip than its sessions were told of. `came` is the time at which the block
-- that is being relayed became its tip, and is set once.
pub record NotesTip (now : ℕ) (block : Hash256) (old new : SimulatedNode) : Type 0 where
  pub tip : IsSomeAnd old.hall (λ hall. new.tip ≡ tip_of hall)
  pub differs : new.tip ≢ old.tip
  pub comes : new.tip ≡ block → old.came ≡ None → new.came ≡ Some now
  pub came : (time : ℕ) → old.came ≡ Some time → new.came ≡ Some time
  pub other : new.tip ≢ block → new.came ≡ old.came
  pub others : new ≡ record old { tip = new.tip; came = new.came }
