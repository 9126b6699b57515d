-- How contracts see a System, and what always holds for its fields.
use Rattle.std.specs.Prelude.{◌≤◌, map, vec_len}
use Rattle.std.specs.Option.{option_to_list}
use Rattle.std.specs.VecDeque.{deque_capacity}
use Rattle.cb_crew.specs.declared.system.System.TheInside.{Inside}
use Rattle.cb_crew.specs.CrewModel.{Machine, IsReached}

abbrev pub machine_of : Inside → Machine
machine_of a = record {
  capacity = a.capacity;
  crew = record {
    lines = a.inboxes.items;
    desks = record { ring = a.ring.items; held = map option_to_list a.held.items };
  };
}

-- Acts lead to the state, the ring has room for all desks, and the numbers of peers and handlers
-- are within their limits.
pub record Keeps (a : Inside) : Type 0 where
  pub reached : IsReached (vec_len a.inboxes) (vec_len a.held) a.capacity (machine_of a).crew
  pub room : vec_len a.inboxes ≤ deque_capacity a.ring
  pub some_peer : 1 ≤ vec_len a.inboxes
  pub peers : vec_len a.inboxes ≤ 64
  pub some_handler : 1 ≤ vec_len a.held
  pub handlers : vec_len a.held ≤ 16
