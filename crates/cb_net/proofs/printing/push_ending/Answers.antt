use Rattle.std.proofs.Common.{◌≡◌, ◌++◌, List, ℕ, codes, string_bytes, subst}
use Rattle.cb_net_node.specs.declared.traffic.Row.{Row}
use Rattle.cb_net.specs.NetEnding.{audits_text, closed_text, cut_text, refused_text, tip_text, trouble_text}
use Rattle.cb_net.specs.TrafficText.{traffic_line}
use Rattle.cb_net.proofs.Parts.{more}
use Rattle.cb_net.proofs.printing.push_ending.Goals as goal

pub returns-clause-text : goal.returns-clause-text
returns-clause-text c =
    let old : List ℕ = string_bytes c.args.text.now in
    let ending = c.args.ending.now in
    let one : List ℕ = codes "bytes all" in
    let two : List ℕ = one ++ traffic_line ending.traffic.rows in
    let three : List ℕ = two ++ tip_text ending in
    let four : List ℕ = three ++ closed_text ending in
    let five : List ℕ = four ++ audits_text c.args.audit ending in
    let six : List ℕ = five ++ refused_text ending.refused in
    let seven : List ℕ = six ++ cut_text ending.is_cut in
    let rows : string_bytes c.push_sent.new.text ≡ string_bytes c.write.new.self ++ traffic_line ending.traffic.rows = subst (λ (rows : List Row). string_bytes c.push_sent.new.text ≡ string_bytes c.write.new.self ++ traffic_line rows) c.rows.ensures.rows c.in_ok-push_sent.ensures.text in
    let sent = more old one (traffic_line ending.traffic.rows) (string_bytes c.write.new.self) (string_bytes c.push_sent.new.text) c.in_ok-write.ensures.bytes rows in
    let tip = more old two (tip_text ending) (string_bytes c.push_sent.new.text) (string_bytes c.push_tip.new.text) sent c.in_ok-push_tip.ensures.text in
    let closed = more old three (closed_text ending) (string_bytes c.push_tip.new.text) (string_bytes c.push_closed.new.text) tip c.in_ok-push_closed.ensures.text in
    let audits = more old four (audits_text c.args.audit ending) (string_bytes c.push_closed.new.text) (string_bytes c.push_audits.new.text) closed c.in_ok-push_audits.ensures.text in
    let refused = more old five (refused_text ending.refused) (string_bytes c.push_audits.new.text) (string_bytes c.push_refused.new.text) audits c.in_ok-push_refused.ensures.text in
    let cut = more old six (cut_text ending.is_cut) (string_bytes c.push_refused.new.text) (string_bytes c.push_cut.new.text) refused c.in_ok-push_cut.ensures.text in
    more old seven (trouble_text c.args.seed ending) (string_bytes c.push_cut.new.text) (string_bytes c.push_trouble.new.text) cut c.in_ok-push_trouble.ensures.text
