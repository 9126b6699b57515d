-- How a network is played: from its beginning, block by block, to its end.
use Rattle.std.specs.Prelude.{◌≡◌, ◌+◌, ◌<◌, ◌≤◌, ◌⊎◌, ⊤, List, [], ◌∷◌}
use Rattle.cb_base.specs.declared.fault.Fault.{Fault}
use Rattle.cb_net.specs.Ending.{AreMade, ending_of}
use Rattle.cb_net.specs.Moments.{Ages, roles_in}
use Rattle.cb_net.specs.Results.{IsResult}
use Rattle.cb_net.specs.declared.audits.AuditVerdict.{AuditVerdict}
use Rattle.cb_net.specs.declared.net.Net.{Net}
use Rattle.cb_net_node.specs.declared.results.BlockResult.{BlockResult}
use Rattle.cb_net_node.specs.declared.results.Ending.{Ending}
use Rattle.cb_net_plan.specs.Planning.{planned_roles}
use Rattle.cb_net_plan.specs.declared.settings.NetSettings.{NetSettings}
use Rattle.cb_net.specs.declared.net_end.NetEnd.{NetEnd}
use Rattle.cb_net.specs.declared.net_end.NetEnd.TheVariants.{Ended, Broke}

-- A network of these settings has the roles that are drawn for them, and has relayed nothing.
abbrev pub Begins : NetSettings → Net → Type 0
Begins settings net =
    (net.settings ≡ settings)
    × (roles_in net.world.nodes.items ≡ planned_roles settings) × (net.relayed ≡ 0)

-- The next block was relayed, of those that are wanted, and this is told of it.
pub record RelaysOne (old new : Net) (block : BlockResult) : Type 0 where
  pub settings : new.settings ≡ old.settings
  pub due : old.relayed < old.settings.blocks
  pub relayed : new.relayed ≡ old.relayed + 1
  pub number : block.number ≡ new.relayed
  pub tells : IsResult old.world new.world block

-- blocks were relayed, one after another
abbrev pub RelaysAll : Net → List BlockResult → Net → Type 0
RelaysAll old [] new = new ≡ old
RelaysAll old (block ∷ blocks) new =
    (next : Net) × RelaysOne old next block × RelaysAll next blocks new

-- All blocks were relayed that are wanted, or the bound on the number of events was reached.
abbrev pub IsOver : Net → Type 0
IsOver net = (net.settings.blocks ≤ net.relayed) ⊎ (net.left ≡ 0)

-- what a network tells as it ends
abbrev pub Finishes : Net → Net → Ending → Type 0
Finishes last over ending =
    Ages last over
    × ((verdicts : List AuditVerdict) × AreMade over verdicts × (ending ≡ ending_of over verdicts))

abbrev pub EndsAs : Net → Net → NetEnd → Type 0
EndsAs last over (Ended ending) = Finishes last over ending
EndsAs last over (Broke fault) = ⊤

-- From its beginning it relayed these blocks, and then it ended, or it couldn't be played on.
abbrev pub PlaysOn : Net → List BlockResult → NetEnd → Type 0
PlaysOn begun blocks (Ended ending) =
    (last : Net) × (over : Net) × RelaysAll begun blocks last × IsOver last
    × Finishes last over ending
PlaysOn begun blocks (Broke fault) = (last : Net) × RelaysAll begun blocks last

-- The same of a network of these settings. Or it couldn't be made.
abbrev pub HasPlayed : NetSettings → List BlockResult → NetEnd → Type 0
HasPlayed settings blocks end =
    ((begun : Net) × Begins settings begun × PlaysOn begun blocks end)
    ⊎ ((fault : Fault) × (blocks ≡ []) × (end ≡ Broke fault))
