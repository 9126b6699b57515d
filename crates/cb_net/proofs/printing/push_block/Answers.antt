use Rattle.std.proofs.Common.{◌≡◌, ◌++◌, List, string_bytes, subst}
use Rattle.cb_net_node.specs.declared.traffic.Row.{Row}
use Rattle.cb_net.specs.NetEnding.{times_text, ways_text}
use Rattle.cb_net.specs.TrafficText.{traffic_line}
use Rattle.cb_net.proofs.Parts.{more}
use Rattle.cb_net.proofs.printing.push_block.Goals as goal

pub returns-clause-text : goal.returns-clause-text
returns-clause-text c =
    let old = string_bytes c.args.text.now in
    let block = c.args.block.now in
    let sent : string_bytes c.push_sent.new.text ≡ string_bytes c.push_ways.new.text ++ traffic_line block.traffic.rows = subst (λ (rows : List Row). string_bytes c.push_sent.new.text ≡ string_bytes c.push_ways.new.text ++ traffic_line rows) c.rows.ensures.rows c.in_ok-push_sent.ensures.text in
    let ways = more old (times_text block) (ways_text block) (string_bytes c.push_times.new.text) (string_bytes c.push_ways.new.text) c.in_ok-push_times.ensures.text c.in_ok-push_ways.ensures.text in
    more old (times_text block ++ ways_text block) (traffic_line block.traffic.rows) (string_bytes c.push_ways.new.text) (string_bytes c.push_sent.new.text) ways sent
