use Rattle.std.proofs.Common.{List, subst}
use Rattle.std.specs.Prelude.{IfOk}
use Rattle.clap.specs.Words.{Row}
use Rattle.cb_command.specs.NodeWords.{IsNodeOrders}
use Rattle.cb_command.proofs.Options.{node_rows_are}
use Rattle.cb_command.proofs.node_words.node_orders_of.Goals as goal

pub returns-clause-told : goal.returns-clause-told
returns-clause-told c =
    subst (λ (rows : List Row). IfOk c.orders_in.result (IsNodeOrders rows)) (node_rows_are c.args.matches.now c.subcommand_matches.result c.subcommand_matches.ensures.found c.subcommand_matches.ensures.rows) c.orders_in.ensures.told
