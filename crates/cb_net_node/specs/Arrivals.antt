-- When the honest nodes of a network had a block, and how they came to it.
use Rattle.std.specs.Prelude.{◌≡◌, ℕ, ◌+◌, ◌-◌, ◌*◌, ◌/◌, ◌==◌, ◌&&◌, not, Bool, false, if◌then◌else◌, List, count_by, Option, None, is_some, slice_get, IsPermutation, IsSorted}
use Rattle.std.specs.List.{filter_map}
use Rattle.std.specs.Option.{option_map}
use Rattle.std.specs.Ordering.{nat_cmp}
use Rattle.cb_net_node.specs.Nodes.{is_honest}
use Rattle.cb_net_node.specs.declared.node.SimulatedNode.{SimulatedNode}
use Rattle.cb_net_node.specs.declared.results.Arrivals.{Arrivals}
use Rattle.cb_net_node.specs.declared.results.Ending.{Ending}

-- it is honest and had the block
abbrev pub had_it : SimulatedNode → Bool
had_it node = is_honest node && is_some node.came

-- it had the block, and asked for nothing
abbrev pub had_at_once : SimulatedNode → Bool
had_at_once node = had_it node && not (node.way.asked) && not (node.way.whole)

-- it had the block, and asked for some of its transactions
abbrev pub had_by_asking : SimulatedNode → Bool
had_by_asking node = had_it node && node.way.asked && not (node.way.whole)

-- it had the block, and asked for all of it
abbrev pub had_whole : SimulatedNode → Bool
had_whole node = had_it node && node.way.whole

-- how long after a time it had the block, if it is honest and had it
abbrev pub arrival : ℕ → SimulatedNode → Option ℕ
arrival mined node =
    if is_honest node then option_map (λ came. came - mined) node.came else None

-- and so each of the nodes
abbrev pub times_of : ℕ → List SimulatedNode → List ℕ
times_of mined nodes = filter_map (arrival mined) nodes

-- Honest nodes alone are counted.
pub record AreArrivals (mined : ℕ) (nodes : List SimulatedNode) (arrivals : Arrivals) : Type 0 where
  pub times : IsPermutation (times_of mined nodes) arrivals.times.items
  pub sorted : IsSorted nat_cmp arrivals.times.items
  pub honest : arrivals.honest ≡ count_by is_honest nodes
  pub once : arrivals.once ≡ count_by had_at_once nodes
  pub asked : arrivals.asked ≡ count_by had_by_asking nodes
  pub whole : arrivals.whole ≡ count_by had_whole nodes

-- so many of a hundred, rounded up
abbrev pub part_of : ℕ → ℕ → ℕ
part_of all percent = (all * percent + 99) / 100

-- when so many nodes had it, if so many did
abbrev pub time_by : ℕ → List ℕ → Option ℕ
time_by count times = if count == 0 then None else slice_get times (count - 1)

-- The honest nodes have one tip, each audit says yes, and all that was due happened.
pub record IsWell (ending : Ending) : Type 0 where
  pub one_tip : ending.agreeing ≡ ending.honest
  pub audits : ending.no ≡ 0
  pub whole : ending.is_cut ≡ false
