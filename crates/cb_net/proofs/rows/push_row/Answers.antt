use Rattle.std.proofs.Common.{◌≡◌, ◌++◌, List, string_bytes, subst}
use Rattle.cb_net_node.specs.declared.traffic.Row.{Row}
use Rattle.cb_net.specs.NetEnding.{time_cells, way_cells}
use Rattle.cb_net.specs.TrafficText.{columns_text}
use Rattle.cb_net.proofs.Parts.{more}
use Rattle.cb_net.proofs.rows.push_row.Goals as goal

pub returns-clause-text : goal.returns-clause-text
returns-clause-text c =
    let old = string_bytes c.args.text.now in
    let block = c.args.block.now in
    let sent : string_bytes c.push_columns.new.text ≡ string_bytes c.push_ways.new.text ++ columns_text block.traffic.rows = subst (λ (rows : List Row). string_bytes c.push_columns.new.text ≡ string_bytes c.push_ways.new.text ++ columns_text rows) c.rows.ensures.rows c.in_ok-push_columns.ensures.text in
    let ways = more old (time_cells block) (way_cells block) (string_bytes c.push_times.new.text) (string_bytes c.push_ways.new.text) c.in_ok-push_times.ensures.text c.in_ok-push_ways.ensures.text in
    more old (time_cells block ++ way_cells block) (columns_text block.traffic.rows) (string_bytes c.push_ways.new.text) (string_bytes c.push_columns.new.text) ways sent
