use Rattle.std.proofs.Common.{codes, string_bytes}
use Rattle.cb_net.specs.TrafficText.{heads_text}
use Rattle.cb_net.proofs.Parts.{more}
use Rattle.cb_net.proofs.rows.push_head.Goals as goal

pub returns-clause-text : goal.returns-clause-text
returns-clause-text c =
    more (string_bytes c.args.text.now) (codes "block,miner,transactions,half,most,all,reached,once,asked,whole") heads_text (string_bytes c.write.new.self) (string_bytes c.push_heads.new.text) c.in_ok-write.ensures.bytes c.in_ok-push_heads.ensures.text
