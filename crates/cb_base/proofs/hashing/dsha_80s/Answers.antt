use Rattle.std.proofs.Common.{ℕ, List, ◌++◌, take, drop, subst, arith}
use Rattle.sha2.specs.Sha256.{IsWindow, padding, schedule}
use Rattle.cb_base.specs.Lanes.{lane}
use Rattle.cb_base.proofs.Padded.{after_80}
use Rattle.cb_base.proofs.hashing.dsha_80s.Goals as goal

pub returns : goal.returns
returns c =
    let initial = c.initial_state.ensures in
    let once = c.compress-once.ensures in
    let ends = c.compress-state.ensures in
    let IsBlock : ℕ → List ℕ → Type 0 = λ k block. IsWindow (lane k c.block_words-ends.result) (schedule block 48) 16 in
    c.finish.ensures c.args.first.now c.args.second.now c.args.third.now c.args.fourth.now
    (after_80 c.args.first.now _ _ _ (omega arith) (initial 0 (omega arith)) (once 0 (omega arith) (take 64 c.args.first.now) c.block_words-words.ensures.first)
    (ends 0 (omega arith) (drop 64 c.args.first.now ++ padding 80) (subst (IsBlock 0) c.second_of_80-a.ensures c.block_words-ends.ensures.first)))
    (after_80 c.args.second.now _ _ _ (omega arith) (initial 1 (omega arith)) (once 1 (omega arith) (take 64 c.args.second.now) c.block_words-words.ensures.second)
    (ends 1 (omega arith) (drop 64 c.args.second.now ++ padding 80) (subst (IsBlock 1) c.second_of_80-b.ensures c.block_words-ends.ensures.second)))
    (after_80 c.args.third.now _ _ _ (omega arith) (initial 2 (omega arith)) (once 2 (omega arith) (take 64 c.args.third.now) c.block_words-words.ensures.third)
    (ends 2 (omega arith) (drop 64 c.args.third.now ++ padding 80) (subst (IsBlock 2) c.second_of_80-c.ensures c.block_words-ends.ensures.third)))
    (after_80 c.args.fourth.now _ _ _ (omega arith) (initial 3 (omega arith)) (once 3 (omega arith) (take 64 c.args.fourth.now) c.block_words-words.ensures.fourth)
    (ends 3 (omega arith) (drop 64 c.args.fourth.now ++ padding 80) (subst (IsBlock 3) c.second_of_80-d.ensures c.block_words-ends.ensures.fourth)))
