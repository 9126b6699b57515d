-- The compact block that we send of a block (BIP 152): its first transaction is prefilled, and all
-- others are short ids.
use Rattle.std.specs.Prelude.{ℕ, List, [], ◌∷◌, map}
use Rattle.cb_block.specs.declared.tx.Tx.{Tx}
use Rattle.cb_block.specs.declared.block.Block.{Block}
use Rattle.cb_compact.specs.Honest.{id_of}
use Rattle.cb_wire.specs.declared.compact_block.HeaderAndShortIds.{HeaderAndShortIds}
use Rattle.cb_wire.specs.declared.prefilled.PrefilledTransaction.{PrefilledTransaction}

-- All but the first.
abbrev pub behind_first : {A : Type 0} → List A → List A
behind_first [] = []
behind_first (first ∷ others) = others

-- The first, at index 0.
abbrev pub whole_first : List Tx → List PrefilledTransaction
whole_first [] = []
whole_first (first ∷ others) = record { difference = 0; tx = first } ∷ []

unfoldable pub shortened_of : Block → ℕ → HeaderAndShortIds
shortened_of block nonce = record {
  header = block.header;
  nonce = nonce;
  txs = record {
    ids = map (id_of block.header nonce) (behind_first block.txs);
    prefilled = whole_first block.txs;
  };
}
