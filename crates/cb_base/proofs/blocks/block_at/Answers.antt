use Rattle.std.proofs.Common.{◌≡◌, ◌+◌, ◌-◌, ◌*◌, refl, arith}
use Rattle.cb_base.proofs.blocks.block_at.Goals as goal

pub returns-clause-there : goal.returns-clause-there
returns-clause-there c lt =
    let width : c.args.i * 64 + 64 - c.args.i * 64 ≡ 64 = omega arith in
    rw width refl
