use Rattle.std.proofs.Common.{◌≡◌, ◌++◌, string_bytes, subst}
use Rattle.std.specs.Prelude.{codes}
use Rattle.std.specs.Fmt.{decimal}
use Rattle.cb_pipes.proofs.Counting.{count_put}
use Rattle.cb_pipes.proofs.log_line.LogLine.print_count.Goals as goal

pub returns : goal.returns
returns c =
    record {
      text = count_put (string_bytes c.args.out.now) (string_bytes c.write.new.self) (string_bytes c.args.self.now.stamp) c.args.self.now.dropped
          (subst (λ (s : _). string_bytes c.write.new.self ≡ string_bytes c.args.out.now ++ (s ++ (codes "[WARN  cbrelay] " ++ (decimal c.args.self.now.dropped ++ codes " lines of the log were dropped\n")))) c.as_str-stamp.ensures.value c.in_ok-write.ensures.bytes);
    }
