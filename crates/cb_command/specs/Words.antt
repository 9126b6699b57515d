-- What the words of a command line ask for.
use Rattle.std.specs.Prelude.{◌≡◌, ◌≢◌, ℕ, ◌≤◌, pos, true, false, if◌then◌else◌, ⊤, List, [], codes, Option, Some, None, Result, IfOk, option_map}
use Rattle.std.specs.Str.{bytes_eq}
use Rattle.clap.specs.Words.{App, Rule, fault_of, new_app, new_rule, subcommand_of, takes, with_rule, with_subcommand}
use Rattle.clap.specs.declared.builder.action.ArgAction.TheVariants.{SetTrue}
use Rattle.clap.specs.declared.builder.value_parser.ValueParser.TheVariants as parsers
use Rattle.cb_driver.specs.declared.running.RunOrders.{RunOrders}
use Rattle.cb_command.specs.declared.commanding.Task.{Task}
use Rattle.cb_command.specs.declared.commanding.Task.TheVariants.{Decode, Serve, Sim, Run, Node, Net}
use Rattle.cb_command.specs.declared.node_words.BadWords.{BadWords}
use Rattle.cb_command.specs.NodeWords.{HasSizes, IsNodeOrders, node_line, node_rows}
use Rattle.cb_net_plan.specs.declared.settings.NetSettings.{NetSettings}
use Rattle.cb_net_plan.specs.NetLine.{net_line}
use Rattle.cb_net_plan.specs.NetWords.{asked_settings, net_rows}
use Rattle.cb_net_plan.specs.declared.bad_net.BadNet.{BadNet}
use Rattle.cb_process.specs.declared.orders.NodeOrders.{NodeOrders}

-- A command that prints its version.
abbrev pub with_version : App → App
with_version a = record a { top = record a.top { has_version = true } }

-- An option of this name that must be there, with a number from 1 to the most.
abbrev pub sized : List ℕ → ℕ → Rule
sized name most = record (new_rule name) {
  long = Some name;
  value_names = 1;
  parser = Some (parsers.Signed (pos 1) (pos most));
  required = true;
}

-- A flag of this name.
abbrev pub flag : List ℕ → Rule
flag name = record (new_rule name) { long = Some name; action = Some SetTrue }

-- The command `run`: how many nodes there are, and how many handler threads each has.
abbrev pub run_line : App
run_line =
    with_rule
    (with_rule (with_rule (new_app (codes "run")) (sized (codes "nodes") 8))
    (sized (codes "handlers") 16))
    (flag (codes "stats"))

-- The command line's version, and the three commands without arguments.
abbrev pub plain_program : App
plain_program =
    with_subcommand
    (with_subcommand
    (with_subcommand (with_version (new_app (codes "cbrelay"))) (new_app (codes "decode")).top)
    (new_app (codes "serve")).top)
    (new_app (codes "sim")).top

-- The same with `run` too.
abbrev pub scripted_program : App
scripted_program = with_subcommand plain_program run_line.top

-- The same with `node` too.
abbrev pub node_program : App
node_program = with_subcommand scripted_program node_line.top

-- The program's command line: with `net` too.
abbrev pub program : App
program = with_subcommand node_program net_line.top

-- The command that the words name, if any. The first word is the program's name.
abbrev pub entered : List (List ℕ) → Option (List ℕ)
entered words = option_map (λ found. found.0) (subcommand_of program words)

-- There are 1 to 8 nodes with 1 to 16 handlers each.
abbrev pub AreWithin : RunOrders → Type 0
AreWithin orders =
    ((1 ≤ orders.sizes.nodes) × (orders.sizes.nodes ≤ 8))
    × ((1 ≤ orders.sizes.handlers) × (orders.sizes.handlers ≤ 16))

-- The same of a task's orders, if it has any.
abbrev pub IsWithin : Task → Type 0
IsWithin (Run orders) = AreWithin orders
IsWithin (Node node) = IfOk node HasSizes
IsWithin other = ⊤

-- The task of that command, with these orders for `run`, `node` and `net`; `decode` if none is
-- named.
abbrev pub task_named : RunOrders → Result NodeOrders BadWords → Result NetSettings BadNet
    → Option (List ℕ) → Task
task_named orders node net None = Decode
task_named orders node net (Some name) =
    if bytes_eq name (codes "serve")
    then Serve
    else if bytes_eq name (codes "sim")
    then Sim
    else if bytes_eq name (codes "run")
    then Run orders
    else if bytes_eq name (codes "node")
    then Node node
    else if bytes_eq name (codes "net")
    then Net net
    else Decode

-- What the words ask of `net`.
abbrev pub net_asked : List (List ℕ) → Result NetSettings BadNet
net_asked words = asked_settings (net_rows (subcommand_of program words))

-- The orders of `run` are within their bounds, and those of `node` are what the words ask for.
abbrev pub AreAsked : RunOrders → Result NodeOrders BadWords → List (List ℕ) → Type 0
AreAsked orders node words =
    AreWithin orders × IfOk node (IsNodeOrders (node_rows (subcommand_of program words)))

-- The task that the words ask for, with these orders for `run` and for `node`.
abbrev pub task_in : RunOrders → Result NodeOrders BadWords → List (List ℕ) → Task
task_in orders node words = task_named orders node (net_asked words) (entered words)

-- Clap doesn't accept the words, and finds a fault in them.
abbrev pub AreRefused : List (List ℕ) → Type 0
AreRefused words = (takes program words ≡ false) × (fault_of program words ≢ [])

-- One of six statements, by the task.
abbrev pub ByTask : Task → Type 0 → Type 0 → Type 0 → Type 0 → Type 0 → Type 0 → Type 0
ByTask Decode decodes serves simulates runs nodes nets = decodes
ByTask Serve decodes serves simulates runs nodes nets = serves
ByTask Sim decodes serves simulates runs nodes nets = simulates
ByTask (Run orders) decodes serves simulates runs nodes nets = runs
ByTask (Node node) decodes serves simulates runs nodes nets = nodes
ByTask (Net net) decodes serves simulates runs nodes nets = nets
