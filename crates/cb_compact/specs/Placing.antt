-- The result of rebuilding a compact block, and of filling in what was missing.
use Rattle.std.specs.Prelude.{◌≡◌, ℕ, ◌<◌, List, [], length}
use Rattle.cb_block.specs.declared.tx.Tx.{Tx}
use Rattle.cb_block.specs.Blocks.{texts}
use Rattle.cb_block.specs.Soundness.{IsSound}
use Rattle.cb_block.specs.declared.header.Header.{Header}
use Rattle.cb_compact.specs.Slots.{AreDifferent, filled, missing, slots}
use Rattle.cb_compact.specs.declared.form.Prefilled.{Prefilled}
use Rattle.cb_compact.specs.declared.named_tx.Pair.{Pair}
use Rattle.cb_compact.specs.declared.partial.Filled.{Filled}
use Rattle.cb_compact.specs.declared.partial.Filled.TheVariants.{Sound, Wrong}
use Rattle.cb_compact.specs.declared.partial.Placed.{Placed}
use Rattle.cb_compact.specs.declared.partial.Placed.TheVariants.{Missing, Repeat, Whole}

-- The block is sound under the header and is returned, or it is wrong.
abbrev pub IsFilled : Header → List Tx → Filled → Type 0
IsFilled header txs (Sound block) =
    (block ≡ record { header = header; txs = txs }) × IsSound header.root (texts txs)
IsFilled header txs Wrong = ¬ IsSound header.root (texts txs)

-- Two short ids are equal; or no place is missing, and the block was checked; or exactly the
-- missing places are returned, with all slots.
abbrev pub IsPlaced : Header → List ℕ → List Prefilled → List Pair → Placed → Type 0
IsPlaced header ids prefilled pairs Repeat = ¬ AreDifferent ids
IsPlaced header ids prefilled pairs (Whole whole) =
    AreDifferent ids × (missing 0 (slots ids prefilled pairs) ≡ [])
    × IsFilled header (filled (slots ids prefilled pairs) []) whole
IsPlaced header ids prefilled pairs (Missing places partial) =
    AreDifferent ids × (0 < length places.items)
    × (places.items ≡ missing 0 (slots ids prefilled pairs))
    × (partial ≡ record { header = header; slots = slots ids prefilled pairs })
