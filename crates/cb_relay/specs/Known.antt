-- Rebuilding a block from transactions whose txids are told (BIP 152). A transaction is a candidate
-- by the short id of its told txid, so that only candidates have to be hashed.
use Rattle.std.specs.Prelude.{ℕ, ◌==◌, if◌then◌else◌, List, [], ◌∷◌, filter, length, Result, Ok, Err}
use Rattle.cb_base.specs.Reading.{◌>>=◌}
use Rattle.cb_base.specs.declared.fault.Fault.{Fault}
use Rattle.cb_base.specs.declared.fault.Fault.TheVariants.{WrongCount}
use Rattle.cb_base.specs.declared.hash.Hash256.{Hash256}
use Rattle.cb_compact.specs.ShortIds.{key_of, short_id_of}
use Rattle.cb_compact.specs.Slots.{is_among}
use Rattle.cb_compact.specs.declared.named_tx.Pair.{Pair}
use Rattle.cb_wire.specs.declared.compact_block.HeaderAndShortIds.{HeaderAndShortIds}
use Rattle.cb_compact.specs.Rebuilding.{rebuilt_of}
use Rattle.cb_relay.specs.Rebuilding.{answer_of}
use Rattle.cb_relay.specs.WholeMessages.{form_in, txs_in}
use Rattle.cb_relay.specs.declared.rebuilding.Kind.{Kind}
use Rattle.cb_block.specs.declared.tx.Tx.{Tx}

-- Each transaction with the short id of the txid that is told of it.
abbrev pub told_pairs : ℕ × ℕ → List Hash256 → List Tx → List Pair
told_pairs key [] txs = []
told_pairs key (txid ∷ txids) [] = []
told_pairs key (txid ∷ txids) (tx ∷ txs) =
    record { id = short_id_of key txid; tx = tx } ∷ told_pairs key txids txs

-- Those whose short ids are among the compact block's.
abbrev pub told_among : HeaderAndShortIds → List Hash256 → List Tx → List Pair
told_among form txids txs =
    filter (λ pair. is_among pair.id form.txs.ids)
    (told_pairs (key_of form.header form.nonce) txids txs)

-- There must be as many txids as transactions.
abbrev pub counted : List Hash256 → List Tx → Result (List Tx) Fault
counted txids txs = if length txids == length txs then Ok txs else Err WrongCount

-- The message is read first, then the transactions.
unfoldable pub known_in : List ℕ → List ℕ → List Hash256 → Result (Kind × List ℕ) Fault
known_in message txs txids = do
  form ← form_in message
  given ← txs_in txs
  all ← counted txids given
  Ok (answer_of (rebuilt_of form (told_among form txids all)))
