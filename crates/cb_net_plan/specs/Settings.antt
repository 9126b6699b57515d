-- What a network is to be like.
use Rattle.std.specs.Prelude.{ℕ, ◌+◌, ◌<◌, ◌≤◌, Bool, true, false, ◌&&◌, List, [], ◌∷◌, Option, Some, None, Result, Ok, Err, codes, not, nat_le, nat_lt}
use Rattle.std.specs.List.{find}
use Rattle.cb_net_plan.specs.declared.settings.NetSettings.{NetSettings}
use Rattle.cb_net_plan.specs.declared.settings.Partition.{Partition}
use Rattle.cb_net_plan.specs.declared.settings.Restart.{Restart}
use Rattle.cb_net_plan.specs.declared.settings.SettingsFault.{SettingsFault}
use Rattle.cb_net_plan.specs.declared.settings.SettingsFault.TheVariants.{Nodes, Links, Latency, Rate, Blocks, Transactions, Missing, Lacking, Part as PartFault, Restart as RestartFault, Honest}

-- what holds if an operator tells nothing but how many nodes there are
abbrev pub usual_settings : ℕ → NetSettings
usual_settings nodes = record {
  nodes = nodes;
  links = 8;
  seed = 1;
  latency_low = 20;
  latency_high = 200;
  rate = 1250000;
  blocks = 3;
  transactions = 100;
  missing = 0;
  lacking = 0;
  part = None;
  restart = None;
  stall = 0;
  lie = 0;
  audit = true;
  csv = false;
}

-- a number lies in a range, ends included
abbrev pub lies_in : ℕ → ℕ → ℕ → Bool
lies_in low high number = nat_le low number && nat_le number high

-- some of the nodes, but not all, are cut off, for blocks that there are
abbrev pub is_part : NetSettings → Option Partition → Bool
is_part settings None = true
is_part settings (Some part) =
    nat_lt 0 part.below && nat_lt part.below settings.nodes
    && nat_lt 0 part.from && lies_in part.from settings.blocks part.to

-- there is such a node, and such a block
abbrev pub is_restart : NetSettings → Option Restart → Bool
is_restart settings None = true
is_restart settings (Some restart) =
    nat_lt restart.node settings.nodes && lies_in 1 settings.blocks restart.block

-- whether settings keep the rule that a fault names
abbrev pub keeps : NetSettings → SettingsFault → Bool
keeps settings Nodes = lies_in 2 100000 settings.nodes
keeps settings Links = lies_in 2 64 settings.links
keeps settings Latency =
    nat_le settings.latency_low settings.latency_high && nat_le settings.latency_high 3600000
keeps settings Rate = nat_lt 0 settings.rate
keeps settings Blocks = nat_lt 0 settings.blocks
keeps settings Transactions = nat_le settings.transactions 4000
keeps settings Missing = nat_le settings.missing settings.transactions
keeps settings Lacking = nat_le settings.lacking 100
keeps settings PartFault = is_part settings settings.part
keeps settings RestartFault = is_restart settings settings.restart
keeps settings Honest = nat_lt (settings.stall + settings.lie) settings.nodes

-- the rules, in their order
abbrev pub rules : List SettingsFault
rules =
    Nodes ∷ Links ∷ Latency ∷ Rate ∷ Blocks ∷ Transactions ∷ Missing ∷ Lacking
    ∷ PartFault ∷ RestartFault ∷ Honest ∷ []

-- the first rule that settings don't keep
abbrev pub first_fault : NetSettings → Option SettingsFault
first_fault settings = find (λ rule. not (keeps settings rule)) rules

-- nothing is wrong, or that
abbrev pub judged : Option SettingsFault → Result (Unit {0}) SettingsFault
judged None = Ok tt
judged (Some fault) = Err fault

-- what holds of settings that keep all rules
pub record AreSound (settings : NetSettings) : Type 0 where
  pub nodes : (2 ≤ settings.nodes) × (settings.nodes ≤ 100000)
  pub links : (2 ≤ settings.links) × (settings.links ≤ 64)
  pub latency : settings.latency_low ≤ settings.latency_high
  pub an_hour : settings.latency_high ≤ 3600000
  pub rate : 0 < settings.rate
  pub blocks : 0 < settings.blocks
  pub transactions : settings.transactions ≤ 4000
  pub missing : settings.missing ≤ settings.transactions
  pub lacking : settings.lacking ≤ 100
  pub honest : settings.stall + settings.lie < settings.nodes

-- ---- what an operator is told

abbrev pub fault_words : SettingsFault → List ℕ
fault_words Nodes = codes "a network has 2 to 100000 nodes"
fault_words Links = codes "a node has 2 to 64 links on average"
fault_words Latency = codes "latencies go from low to high, up to an hour"
fault_words Rate = codes "a node sends at least 1 byte a second"
fault_words Blocks = codes "at least 1 block is mined"
fault_words Transactions = codes "a block has at most 4000 transactions"
fault_words Missing = codes "at most all transactions of a block are missing"
fault_words Lacking = codes "at most 100 percent of the nodes lack some"
fault_words PartFault = codes "a part cuts some nodes off for blocks there are"
fault_words RestartFault = codes "a restart names a node and a block there is"
fault_words Honest = codes "at least 1 node neither stalls nor lies"
