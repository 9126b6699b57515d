use Rattle.std.proofs.Common.{◌≡◌, ℕ, List, Option, Result, ap, subst, sym, map, ◌∙◌}
use Rattle.std.specs.Borrow.{Bor}
use Rattle.std.specs.Prelude.{IfOk, option_map, string_bytes}
use Rattle.clap.specs.Words.{App, HasKind, Row, Text, app_of, fault_of, is_simple, is_simple_and_free, subcommand_of, takes}
use Rattle.cb_command.specs.NodeWords.{IsNodeOrders, node_rows}
use Rattle.cb_command.specs.Words.{net_asked, program, task_named}
use Rattle.cb_net_plan.specs.declared.settings.NetSettings.{NetSettings}
use Rattle.cb_net_plan.specs.NetWords.{asked_settings, net_rows}
use Rattle.cb_net_plan.specs.declared.bad_net.BadNet.{BadNet}
use Rattle.cb_command.proofs.Entering.{name_of_rows, program_is_free, program_is_simple}
use Rattle.cb_command.proofs.commanding.task_of.Goals as goal

pub returns-in-Ok-clause-task : goal.returns-in-Ok-clause-task
returns-in-Ok-clause-task c =
    let whole : app_of c.in_ok-line.line ≡ program = c.in_ok-line.ensures in
    let words = map string_bytes c.args.words.now in
    let rows = (c.in-Ok.ensures.matches (ap is_simple whole ∙ program_is_simple)).1 ∙ ap (λ (a : App). subcommand_of a words) whole in
    let net = c.net_settings_of.ensures ∙ ap (λ (r : Option (Text × List Row)). asked_settings (net_rows r)) rows in
    let entered = c.subcommand_name.ensures ∙ name_of_rows c.in-Ok.matches ∙ ap (option_map (λ found. found.0)) rows in
    let by_net = c.task_named.ensures.named ∙ ap (λ (n : Result NetSettings BadNet). task_named c.orders_of.result c.node_orders_of.result n (option_map (λ (text : Bor (List ℕ)). text.now) c.subcommand_name.result)) net in (
      c.orders_of.result,
      c.node_orders_of.result,
      (c.orders_of.ensures, subst (λ (r : Option (Text × List Row)). IfOk c.node_orders_of.result (IsNodeOrders (node_rows r))) rows c.node_orders_of.ensures.told),
      by_net ∙ ap (task_named c.orders_of.result c.node_orders_of.result (net_asked words)) entered,
    )

pub returns-in-Err-clause-passes : goal.returns-in-Err-clause-passes
returns-in-Err-clause-passes c = λ taken.
    c.in-Err.ensures.passes (ap (λ (a : App). takes a (map string_bytes c.args.words.now)) c.in_ok-line.ensures ∙ taken)

pub returns-in-Ok-clause-kinds : goal.returns-in-Ok-clause-kinds
returns-in-Ok-clause-kinds c =
    let whole : app_of c.in_ok-line.line ≡ program = c.in_ok-line.ensures in
    sym (ap (λ (a : App). fault_of a (map string_bytes c.args.words.now)) whole) ∙ c.in-Ok.ensures.kinds (ap is_simple_and_free whole ∙ program_is_free)

pub returns-in-Err-clause-kinds : goal.returns-in-Err-clause-kinds
returns-in-Err-clause-kinds c =
    let whole : app_of c.in_ok-line.line ≡ program = c.in_ok-line.ensures in
    subst (λ (a : App). HasKind (fault_of a (map string_bytes c.args.words.now)) c.in-Err.error) whole (c.in-Err.ensures.kinds (ap is_simple_and_free whole ∙ program_is_free))
