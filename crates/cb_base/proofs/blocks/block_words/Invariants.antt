use Rattle.std.proofs.Common.{◌≡◌, ℕ, ◌*◌, ◌<◌, [], ◌∷◌, length, slice_index_or}
use Rattle.sha2.specs.Sha256.{word_at}
use Rattle.cb_base.proofs.blocks.block_words.Given as goal

abbrev pub invariant-loop-i : goal.invariant-loop-i
invariant-loop-i l =
    (length l.words ≡ 16) × ((i : ℕ) → i < l.i → slice_index_or l.words i [] ≡ word_at l.first (4 * i) ∷ word_at l.second (4 * i) ∷ word_at l.third (4 * i) ∷ word_at l.fourth (4 * i) ∷ [])
