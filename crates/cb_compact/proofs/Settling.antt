-- What is placed and filled is what the functions of rebuilding say.
use Rattle.std.proofs.Common.{◌≡◌, ◌≢◌, ℕ, ◌<◌, ◌==◌, ◌↔◌, Bool, true, false, not, List, [], ◌∷◌, length, Result, Ok, Err, refl, sym, ap, ◌∙◌, subst, arith, inl, inr}
use Rattle.std.proofs.lemmas.Bool.{and_from, and_parts, cases_Bool, eq-eqb, false_from_ne_true, false≢true, ne_eqb, not-true, not_from_false}
use Rattle.cb_base.specs.declared.fault.Fault.{Fault}
use Rattle.std.specs.Prelude.{IfErr, IfOk, MatchResult, ◌⊎◌}
use Rattle.cb_base.specs.declared.fault.Fault.TheVariants.{Memory, WrongCount}
use Rattle.cb_block.specs.declared.tx.Tx.{Tx}
use Rattle.cb_block.specs.Decision.{is_sound_block}
use Rattle.cb_block.specs.declared.block.Block.{Block}
use Rattle.cb_block.proofs.Deciding.{sound_from, sound_to}
use Rattle.cb_compact.specs.Placing.{IsFilled, IsPlaced}
use Rattle.cb_compact.specs.Slots.{AreDifferent, Unfilled, filled, is_among, missing, slots}
use Rattle.cb_compact.specs.declared.form.Prefilled.{Prefilled}
use Rattle.cb_compact.specs.declared.named_tx.Pair.{Pair}
use Rattle.cb_compact.specs.declared.partial.Filled.{Filled}
use Rattle.cb_compact.specs.declared.partial.Filled.TheVariants as filling
use Rattle.cb_compact.specs.declared.partial.Placed.{Placed}
use Rattle.cb_compact.specs.declared.partial.Placed.TheVariants as placing
use Rattle.cb_compact.proofs.Tabling.{eqb_is}
use Rattle.cb_wire.specs.declared.block_transactions.BlockTransactions.{BlockTransactions}
use Rattle.cb_wire.specs.declared.compact_block.HeaderAndShortIds.{HeaderAndShortIds}
use Rattle.cb_compact.specs.Completing.{completed_of, judged_of}
use Rattle.cb_compact.specs.HonestMessages.{told_of}
use Rattle.cb_compact.specs.Places.{placed_from}
use Rattle.cb_compact.specs.Rebuilding.{are_different, block_with, rebuilt_of, request_of, told_by, unfilled_of, whole_of}
use Rattle.cb_compact.specs.declared.rebuilding.Rebuilt.{Rebuilt}
use Rattle.cb_compact.specs.declared.rebuilding.Rebuilt.TheVariants.{Lacking}

-- ---- ids that differ

pub different_from : (ids : List ℕ) → are_different ids ≡ true → AreDifferent ids
different_from [] e = tt
different_from (id ∷ others) e =
    let both = and_parts (not (is_among id others)) (are_different others) e in
    (not-true (is_among id others) both.0, different_from others both.1)

pub different_to : (ids : List ℕ) → AreDifferent ids → are_different ids ≡ true
different_to [] different = refl
different_to (id ∷ others) (alone, different) = and_from (not (is_among id others)) (are_different others) (not_from_false (is_among id others) alone) (different_to others different)

pub not_different : (ids : List ℕ) → ¬ AreDifferent ids → are_different ids ≡ false
not_different ids repeats = false_from_ne_true (are_different ids) (λ e. repeats (different_from ids e))

-- ---- a whole list

pub filled_judged : (block : Block) (told : Filled) → IsFilled block.header block.txs told → told ≡ judged_of block
unfolding judged_of
filled_judged block (filling.Sound it) is =
    let same : it ≡ block = is.0 in
    rw (sound_to block is.1) (ap (λ b. filling.Sound b) same)
filled_judged block filling.Wrong is =
    let not : is_sound_block block ≡ false = false_from_ne_true (is_sound_block block) (λ e. is (sound_from block e)) in
    rw not refl

pub judged_filled : (block : Block) → IsFilled block.header block.txs (judged_of block)
unfolding judged_of
judged_filled block =
    elim (cases_Bool (is_sound_block block)) [
      | inl is ↦ rw is (refl, sound_from block is)
      | inr isnt ↦ rw isnt (λ sound. false≢true (sym isnt ∙ sound_to block sound))
    ]

pub judged_is : (block : Block) (told : Filled) → IsFilled block.header block.txs told ↔ (told ≡ judged_of block)
judged_is block told = (filled_judged block told, λ e. subst (IsFilled block.header block.txs) (sym e) (judged_filled block))

-- the same of what is told
pub whole_told : (block : Block) → whole_of block ≡ told_of (placing.Whole (judged_of block))
unfolding whole_of judged_of
whole_told block =
    elim (cases_Bool (is_sound_block block)) [
      | inl is ↦ rw is refl
      | inr isnt ↦ rw isnt refl
    ]

-- ---- a compact block

pub told_some : (partial : Unfilled) (places : List ℕ) → 0 < length places → told_by partial places ≡ Lacking partial (request_of partial)
told_some partial [] some = absurd (omega (arith, some))
told_some partial (place ∷ places) some = refl

pub rebuilt_apart : (message : HeaderAndShortIds) (pairs : List Pair) → AreDifferent message.txs.ids → rebuilt_of message pairs ≡ told_by (unfilled_of message pairs) (missing 0 (unfilled_of message pairs).slots)
unfolding rebuilt_of
rebuilt_apart message pairs different = rw (different_to message.txs.ids different) refl

pub rebuilt_is : (message : HeaderAndShortIds) (pairs : List Pair) (placed : Placed) → IsPlaced message.header message.txs.ids (placed_from 0 message.txs.prefilled) pairs placed → rebuilt_of message pairs ≡ told_of placed
unfolding rebuilt_of unfilled_of
rebuilt_is message pairs placing.Repeat repeats = rw (not_different message.txs.ids repeats) refl
rebuilt_is message pairs (placing.Whole told) (different, none, is) =
    let partial : Unfilled = record { header = message.header; slots = slots message.txs.ids (placed_from 0 message.txs.prefilled) pairs } in
    rebuilt_apart message pairs different ∙ ap (told_by partial) none
    ∙ whole_told (block_with partial []) ∙ ap (λ it. told_of (placing.Whole it)) (sym (filled_judged (block_with partial []) told is))
rebuilt_is message pairs (placing.Missing places partial) (different, some, are, is) =
    let unfilled : Unfilled = record { header = message.header; slots = slots message.txs.ids (placed_from 0 message.txs.prefilled) pairs } in
    rebuilt_apart message pairs different ∙ told_some unfilled (missing 0 unfilled.slots) (subst (λ list. 0 < length list) are some)
    ∙ ap (λ it. Lacking it (request_of it)) (sym is)

-- ---- what is completed

pub completed_right : (partial : Unfilled) (given : BlockTransactions) → length given.txs ≡ length (missing 0 partial.slots) → completed_of partial given ≡ Ok (judged_of (block_with partial given.txs))
unfolding completed_of
completed_right partial given same = rw (eq-eqb (length given.txs) (length (missing 0 partial.slots)) same) refl

pub completed_wrong : (partial : Unfilled) (given : BlockTransactions) → length given.txs ≢ length (missing 0 partial.slots) → completed_of partial given ≡ Err WrongCount
unfolding completed_of
completed_wrong partial given other = rw (ne_eqb (length given.txs) (length (missing 0 partial.slots)) other) refl

pub completed_from : (partial : Unfilled) (given : BlockTransactions) (told : Filled) → completed_of partial given ≡ Ok told
    → (length given.txs ≡ length (missing 0 partial.slots)) × IsFilled partial.header (filled partial.slots given.txs) told
completed_from partial given told is =
    elim (cases_Bool (length given.txs == length (missing 0 partial.slots))) [
      | inl e ↦
          let same = eqb_is (length given.txs) (length (missing 0 partial.slots)) e in
          let judged : judged_of (block_with partial given.txs) ≡ told = (let ok : Ok (judged_of (block_with partial given.txs)) ≡ Ok told = sym (completed_right partial given same) ∙ is in cc) in
          (same, subst (IsFilled partial.header (filled partial.slots given.txs)) judged (judged_filled (block_with partial given.txs)))
      | inr e ↦
          let other : length given.txs ≢ length (missing 0 partial.slots) = λ same. false≢true (sym e ∙ eq-eqb (length given.txs) (length (missing 0 partial.slots)) same) in
          absurd (let clash : Err WrongCount ≡ Ok told = sym (completed_wrong partial given other) ∙ is in cc)
    ]

pub completed_is : (partial : Unfilled) (given : BlockTransactions) (told : Filled)
    → (completed_of partial given ≡ Ok told) ↔ ((length given.txs ≡ length (missing 0 partial.slots)) × IsFilled partial.header (filled partial.slots given.txs) told)
completed_is partial given told = (
  completed_from partial given told,
  λ both. completed_right partial given both.0 ∙ ap (λ it. Ok it) (sym (filled_judged (block_with partial given.txs) told both.1)),
)

pub completed_by : (partial : Unfilled) (given : BlockTransactions) (list : List Tx) (result : Result Filled Fault) → list ≡ given.txs → length given.txs ≡ length (missing 0 partial.slots)
    → IfOk result (IsFilled partial.header (filled partial.slots list)) → IfErr result (λ fault. ((fault ≡ WrongCount) × (length list ≢ length (missing 0 partial.slots))) ⊎ ((fault ≡ Memory) × (length list ≡ length (missing 0 partial.slots))))
    → MatchResult result (λ told. completed_of partial given ≡ Ok told) (λ fault. (fault ≡ Memory) ⊎ (completed_of partial given ≡ Err fault))
completed_by partial given list (Ok told) same count is fails =
    let whole : IsFilled partial.header (filled partial.slots given.txs) told = subst (λ txs. IsFilled partial.header (filled partial.slots txs) told) same is in
    completed_right partial given count ∙ ap (λ it. Ok it) (sym (filled_judged (block_with partial given.txs) told whole))
completed_by partial given list (Err fault) same count is (inl (e, other)) = absurd (other (ap length same ∙ count))
completed_by partial given list (Err fault) same count is (inr (e, right)) = inl e

-- What is placed of lists that are a message's and pairs that are told.
pub rebuilt_as : (message : HeaderAndShortIds) (pairs list : List Pair) (ids : List ℕ) (given : List Prefilled) (placed : Placed) → ids ≡ message.txs.ids → given ≡ placed_from 0 message.txs.prefilled → list ≡ pairs
    → IsPlaced message.header ids given list placed → rebuilt_of message pairs ≡ told_of placed
rebuilt_as message pairs list ids given placed same at are is =
    let first = subst (λ it. IsPlaced message.header it given list placed) same is in
    let second = subst (λ it. IsPlaced message.header message.txs.ids it list placed) at first in
    rebuilt_is message pairs placed (subst (λ it. IsPlaced message.header message.txs.ids (placed_from 0 message.txs.prefilled) it placed) are second)

pub told_ok : (result : Result Rebuilt Fault) (told all : Rebuilt) (has : Bool) → IfOk result (λ rebuilt. rebuilt ≡ told) → has ≡ true → all ≡ told → IfOk result (λ rebuilt. (has ≡ true) × (rebuilt ≡ all))
told_ok (Ok rebuilt) told all has is there same = (there, is ∙ sym same)
told_ok (Err fault) told all has is there same = tt
