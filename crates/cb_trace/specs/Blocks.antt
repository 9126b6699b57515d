-- The blocks that a session gives the hall, and why no other transactions fit their headers.
use Rattle.std.specs.Prelude.{◌≡◌, ℕ, List, filter_map, Option, Some, None}
use Rattle.cb_block.specs.declared.block.Block.{Block}
use Rattle.cb_block.specs.Blocks.{IsSoundBlock, texts}
use Rattle.cb_block.specs.Soundness.{AreApart, IsSound}
use Rattle.cb_hall.specs.Histories.{Reply}
use Rattle.cb_hall.specs.declared.question.Question.{Question}
use Rattle.cb_hall.specs.declared.question.Question.TheVariants.{GiveBlock}
use Rattle.cb_peer_state.specs.declared.settings.Settings.{Settings}
use Rattle.cb_trace.specs.declared.trace.TraceEntry.{TraceEntry}
use Rattle.cb_trace.specs.Fold.{replies}

-- The block is sound, and its transactions are the only list that is sound under its header: any
-- other list of byte strings that is sound under the same Merkle root has a string that is hashed
-- for its tree, and a different one hashed for the block's, with one hash (AreApart).
pub record IsOnlySound (b : Block) : Type 0 where
  pub sound : IsSoundBlock b
  pub only : (others : List (List ℕ)) → IsSound b.header.root others → AreApart (texts b.txs) others
      → others ≡ texts b.txs

-- The block that a question gives the hall.
abbrev pub given_in : Question → Option Block
given_in (GiveBlock given) = Some given.block
given_in other = None

-- The blocks that a session gave the hall, in order.
abbrev pub blocks_in : List Reply → List Block
blocks_in told = filter_map (λ reply. given_in reply.question) told

abbrev pub blocks_given : Settings → List TraceEntry → List Block
blocks_given settings entries = blocks_in (replies settings entries)
