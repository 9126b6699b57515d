-- The compact block that is made of a block (BIP 152), and why none is.
use Rattle.std.specs.Prelude.{◌≡◌, ℕ, ◌⊎◌, List}
use Rattle.cb_base.specs.declared.fault.Fault.{Fault}
use Rattle.cb_base.specs.declared.fault.Fault.TheVariants.{Memory}
use Rattle.cb_block.specs.declared.block.Block.{Block}
use Rattle.cb_relay.specs.Whole.{IsNoValidBlock, IsValidOf}
use Rattle.cb_wire.specs.CompactBlocks.{compact_block_text}
use Rattle.cb_compact.specs.Shortening.{shortened_of}

-- The text is the payload of the compact block of the valid block that is these bytes.
abbrev pub IsCompacted : List ℕ → ℕ → List ℕ → Type 0
IsCompacted bytes nonce text =
    (block : Block) × IsValidOf bytes block × (text ≡ compact_block_text (shortened_of block nonce))

-- The bytes are no valid block, for this reason, or memory ran out for the compact block.
abbrev pub IsNotCompacted : List ℕ → Fault → Type 0
IsNotCompacted bytes fault =
    IsNoValidBlock bytes fault ⊎ ((block : Block) × IsValidOf bytes block × (fault ≡ Memory))
