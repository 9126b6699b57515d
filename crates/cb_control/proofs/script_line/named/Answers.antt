use Rattle.std.proofs.Common.{refl, codes}
use Rattle.cb_control.proofs.Found.{other_word}
use Rattle.cb_control.proofs.script_line.named.Goals as goal

pub returns-in_default-clause-exact : goal.returns-in_default-clause-exact
returns-in_default-clause-exact c =
    let word = c.args.word.now in
    rw (
      other_word word (codes "link") c.in_default.not-link,
      other_word word (codes "tx") c.in_default.not-tx,
      other_word word (codes "block") c.in_default.not-block,
      other_word word (codes "mine") c.in_default.not-mine,
      other_word word (codes "kick") c.in_default.not-kick,
      other_word word (codes "checkpoint") c.in_default.not-checkpoint,
    ) refl
