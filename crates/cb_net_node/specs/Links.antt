-- A link: what it was and is joined by, and the events of its ends.
use Rattle.std.specs.Prelude.{◌≡◌, ◌+◌, ◌-◌, ◌^◌, ℕ, true, false, List, ◌++◌, Option, Some, None, if◌then◌else◌, IsSomeAnd, min, option_to_list, vec_len}
use Rattle.cb_net_node.specs.declared.side.Side.{Side}
use Rattle.cb_net_node.specs.declared.side.Side.TheVariants.{First, Second}
use Rattle.cb_net_plan.specs.declared.due.LinkAct.{LinkAct}
use Rattle.cb_net_plan.specs.declared.due.LinkEvent.{LinkEvent}
use Rattle.cb_net_node.specs.Joined.{Over}
use Rattle.cb_net_node.specs.declared.joined.Joined.{Joined}
use Rattle.cb_net_node.specs.declared.link.SimulatedLink.{SimulatedLink}
use Rattle.cb_net_node.specs.declared.link.LinkEnd.{LinkEnd}

-- ---- what it is joined by

-- what it is joined by now, if it is
abbrev pub present : SimulatedLink → Option Joined
present link = if link.is_open then link.joined else None

-- all that it was joined by, in order; what it is joined by now, or was last, comes last
abbrev pub all_joined : SimulatedLink → List Joined
all_joined link = link.past.items ++ option_to_list link.joined

-- an event is of what it is joined by now
abbrev pub IsPresent : LinkEvent → SimulatedLink → Type 0
IsPresent event link = (link.is_open ≡ true) × (event.generation ≡ link.generation)

-- ---- its ends

-- the end at a side
abbrev pub end_of : SimulatedLink → Side → LinkEnd
end_of link First = link.first
end_of link Second = link.second

-- the number of that end
abbrev pub number_of : SimulatedLink → Side → ℕ
number_of link First = link.number
number_of link Second = min (link.number + 1) (2 ^ 32 - 1)

-- a count and one more
abbrev pub one_more : ℕ → ℕ
one_more count = min (count + 1) (2 ^ 64 - 1)

-- one more event was put in for an end
abbrev pub counted : LinkEnd → LinkEnd
counted end = record end { events = one_more end.events }

-- and so at a side of a link
abbrev pub counted_at : Side → SimulatedLink → SimulatedLink
counted_at First link = record link { first = counted link.first }
counted_at Second link = record link { second = counted link.second }

-- the next event of a side
abbrev pub next_event : Side → LinkAct → SimulatedLink → LinkEvent
next_event side act link = record {
  end = number_of link side;
  number = one_more (end_of link side).events;
  generation = link.generation;
  act = act;
}

-- ---- cut and joined

-- what it was joined by has ended, if it was joined by anything
abbrev pub HasEnded : Option Joined → Option Joined → Type 0
HasEnded None new = new ≡ None
HasEnded (Some joined) new = IsSomeAnd new (λ ended. Over joined ended)

-- It isn't joined any more. What it was joined by has ended; nothing else changed.
pub record IsCut (old new : SimulatedLink) : Type 0 where
  pub others : new ≡ record old { is_open = false; joined = new.joined }
  pub ended : old.is_open ≡ true → HasEnded old.joined new.joined
  pub shut : old.is_open ≡ false → new.joined ≡ old.joined

-- It is joined anew, by something else. All that it was joined by before is of the past.
pub record IsJoined (joined : Joined) (old new : SimulatedLink) : Type 0 where
  pub present_is : present new ≡ Some joined
  pub past_is : new.past.items ≡ all_joined old
  pub generation_is : new.generation ≡ old.generation + 1
  pub others : new ≡ record old {
    generation = new.generation;
    is_open = new.is_open;
    joined = new.joined;
    past = new.past;
  }

-- so many of its former connections were of a node's former halls
abbrev pub forgotten_at : Side → ℕ → SimulatedLink → SimulatedLink
forgotten_at First count link = record link { first = record link.first { forgotten = count } }
forgotten_at Second count link = record link { second = record link.second { forgotten = count } }

-- It was cut, and all that it was joined by is of the past, and of a former hall of a side's node.
pub record IsForgotten (side : Side) (old new : SimulatedLink) : Type 0 where
  pub between : SimulatedLink
  pub cut : IsCut old between
  pub past : new.past.items ≡ all_joined between
  pub others : new ≡ forgotten_at side (vec_len new.past)
      (record between { joined = None; past = new.past })

-- It was cut, and all that it was joined by is still there.
pub record IsCutAlone (old new : SimulatedLink) : Type 0 where
  pub between : SimulatedLink
  pub cut : IsCut old between
  pub past : new.past.items ≡ between.past.items
  pub others : new ≡ record between { past = new.past }
