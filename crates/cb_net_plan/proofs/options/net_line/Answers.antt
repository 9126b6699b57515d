use Rattle.std.proofs.Common.{rules, ◌≡◌, ap, codes, ◌∙◌}
use Rattle.clap.specs.Words.{app_of, new_app}
use Rattle.cb_net_plan.specs.NetLine.{with_blocks, with_faults, with_links, with_prints}
use Rattle.cb_net_plan.proofs.Reading.{if_ok_more}
use Rattle.cb_net_plan.proofs.options.net_line.Goals as goal

pub returns : goal.returns
returns c =
    let bare : app_of c.after_help-net.result ≡ new_app (codes "net") = search rules in
    let linked = c.in_ok-linked.ensures ∙ ap with_links bare in
    let relaying = c.in_ok-relaying.ensures ∙ ap with_blocks linked in
    let faulty = c.in_ok-with_faults.ensures ∙ ap with_faults relaying in
    if_ok_more c.with_prints.result (λ whole is. is ∙ ap with_prints faulty) c.with_prints.ensures
