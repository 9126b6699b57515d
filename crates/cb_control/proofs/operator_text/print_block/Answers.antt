use Rattle.std.proofs.Common.{rules, string_bytes}
use Rattle.cb_control.proofs.Texts.{block_line}
use Rattle.cb_control.proofs.operator_text.print_block.Goals as goal

pub returns-clause-text : goal.returns-clause-text
returns-clause-text c =
    block_line c.print_count.result (string_bytes c.args.out.now) (string_bytes c.write.new.self) (string_bytes c.print_count.new.out) (string_bytes c.in_ok-hash.hash) c.yes_no-best.result.now c.args.block.now
    (search rules) c.yes_no-best.ensures c.in_ok-write.ensures.bytes c.print_count.ensures.text
