use Rattle.std.proofs.Common.{◌<◌, length, arith}
use Rattle.cb_block.proofs.Climbing.{few_mutated}
use Rattle.cb_block.proofs.merkle.mutated.Goals as goal

pub returns-then-hashes-lt2-clause-mutated : goal.returns-then-hashes-lt2-clause-mutated
returns-then-hashes-lt2-clause-mutated c =
    let few : length c.args.hashes.now < 2 = omega (arith, c.if-hashes-lt2.true) in
    (λ t. absurd cc, λ m. absurd (few_mutated c.args.hashes.now few m))
