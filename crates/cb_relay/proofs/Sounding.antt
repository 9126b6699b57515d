-- A block that comes out is sound, under the header of the compact block.
use Rattle.std.proofs.Common.{◌≡◌, ℕ, ◌==◌, List, [], ◌∷◌, length, Ok, Err, refl, sym, ap, subst, inl, inr}
use Rattle.std.specs.Prelude.{⊤}
use Rattle.std.proofs.lemmas.Bool.{cases_Bool}
use Rattle.cb_base.specs.declared.fault.Fault.TheVariants.{WrongCount}
use Rattle.cb_base.specs.Reading.{◌>>=◌}
use Rattle.cb_base.proofs.Fields.{bind_ok, ok_is}
use Rattle.cb_block.specs.Blocks.{IsSoundBlock}
use Rattle.cb_block.specs.Decision.{is_sound_block}
use Rattle.cb_block.specs.BlockText.{block_text}
use Rattle.cb_block.specs.declared.block.Block.{Block}
use Rattle.cb_block.specs.declared.header.Header.{Header}
use Rattle.cb_block.proofs.Deciding.{sound_from}
use Rattle.cb_compact.specs.Slots.{Unfilled, missing}
use Rattle.cb_compact.specs.declared.named_tx.Pair.{Pair}
use Rattle.cb_compact.specs.declared.partial.Filled.{Filled}
use Rattle.cb_compact.specs.declared.partial.Filled.TheVariants as filling
use Rattle.cb_compact.proofs.OnlyTold.{one_if_apart}
use Rattle.cb_wire.specs.BlockTransactions.{block_txs_at}
use Rattle.cb_wire.specs.declared.block_transactions.BlockTransactions.{BlockTransactions}
use Rattle.cb_wire.specs.declared.compact_block.HeaderAndShortIds.{HeaderAndShortIds}
use Rattle.cb_compact.specs.Completing.{completed_of, judged_of}
use Rattle.cb_compact.specs.Rebuilding.{are_different, block_with, rebuilt_of, told_by, unfilled_of, whole_of}
use Rattle.cb_compact.specs.declared.rebuilding.Rebuilt.{Rebuilt}
use Rattle.cb_compact.specs.declared.rebuilding.Rebuilt.TheVariants as rebuilding
use Rattle.cb_relay.specs.Completing.{completed_answer, completed_in, filled_answer}
use Rattle.cb_relay.specs.Known.{counted, known_in, told_among}
use Rattle.cb_relay.specs.Rebuilding.{IsTheBlock, answer_of, pairs_under, rebuilt_in}
use Rattle.cb_relay.specs.WholeMessages.{all_of, form_in, txs_in}
use Rattle.cb_relay.specs.declared.rebuilding.Kind.{Kind}
use Rattle.cb_relay.specs.declared.rebuilding.Kind.TheVariants as kinds
use Rattle.cb_base.specs.declared.hash.Hash256.{Hash256}

-- the block has this header and is sound
abbrev IsUnder : Header → Block → Type 0
IsUnder header block = (block.header ≡ header) × IsSoundBlock block

-- what is rebuilt is sound under the header, or lacks something under it
abbrev AllUnder : Header → Rebuilt → Type 0
AllUnder header (rebuilding.Sound block) = IsUnder header block
AllUnder header (rebuilding.Lacking partial request) = partial.header ≡ header
AllUnder header rebuilding.Useless = ⊤

whole_under : (block : Block) → AllUnder block.header (whole_of block)
unfolding whole_of
whole_under block =
    elim (cases_Bool (is_sound_block block)) [
      | inl is ↦ rw is (refl, sound_from block is)
      | inr isnt ↦ rw isnt tt
    ]

told_under : (partial : Unfilled) (places : List ℕ) → AllUnder partial.header (told_by partial places)
told_under partial [] = whole_under (block_with partial [])
told_under partial (place ∷ places) = refl

rebuilt_under : (form : HeaderAndShortIds) (pairs : List Pair) → AllUnder form.header (rebuilt_of form pairs)
unfolding rebuilt_of unfilled_of
rebuilt_under form pairs =
    elim (cases_Bool (are_different form.txs.ids)) [
      | inl is ↦ rw is (told_under (unfilled_of form pairs) (missing 0 (unfilled_of form pairs).slots))
      | inr isnt ↦ rw isnt tt
    ]

-- ---- what is told of it

-- a kind and a text
abbrev made : Kind → List ℕ → Kind × List ℕ
made kind text = (kind, text)

pair_is : (kind other : Kind) (text more : List ℕ) → made kind text ≡ made other more → (kind ≡ other) × (text ≡ more)
pair_is kind other text more e = (ap (λ (p : Kind × List ℕ). p.0) e, ap (λ (p : Kind × List ℕ). p.1) e)

-- a block that is told is one that is sound under the header
abbrev IsToldOf : Header → List ℕ → Type 0
IsToldOf header text = (block : Block) × (text ≡ block_text block) × IsUnder header block

answer_under : (header : Header) (rebuilt : Rebuilt) (text : List ℕ) → AllUnder header rebuilt → answer_of rebuilt ≡ made kinds.Block text → IsToldOf header text
answer_under header (rebuilding.Sound block) text under e = (block, sym (pair_is kinds.Block kinds.Block (block_text block) text e).1, under)
answer_under header (rebuilding.Lacking partial request) text under e = absurd (let clash : kinds.Request ≡ kinds.Block = ap (λ (p : Kind × List ℕ). p.0) e in cc)
answer_under header rebuilding.Useless text under e = absurd (let clash : kinds.Useless ≡ kinds.Block = ap (λ (p : Kind × List ℕ). p.0) e in cc)

judged_under : (block told : Block) → judged_of block ≡ filling.Sound told → IsUnder block.header told
unfolding judged_of
judged_under block told e =
    elim (cases_Bool (is_sound_block block)) [
      | inl is ↦
          let same : block ≡ told = (let ok : filling.Sound block ≡ filling.Sound told = rw is at e in cc) in
          subst (IsUnder block.header) same (refl, sound_from block is)
      | inr isnt ↦ absurd (let clash : filling.Wrong ≡ filling.Sound told = rw isnt at e in cc)
    ]

completed_under : (partial : Unfilled) (more : BlockTransactions) (told : Block) → completed_of partial more ≡ Ok (filling.Sound told) → IsUnder partial.header told
unfolding completed_of
completed_under partial more told e =
    elim (cases_Bool (length more.txs == length (missing 0 partial.slots))) [
      | inl is ↦
          let ok : Ok (judged_of (block_with partial more.txs)) ≡ Ok (filling.Sound told) = rw is at e in
          judged_under (block_with partial more.txs) told (ok_is (judged_of (block_with partial more.txs)) (filling.Sound told) ok)
      | inr isnt ↦ absurd (let clash : Err WrongCount ≡ Ok (filling.Sound told) = rw isnt at e in cc)
    ]

filled_under : (header : Header) (partial : Unfilled) (more : BlockTransactions) (filled : Filled) (text : List ℕ) → partial.header ≡ header → completed_of partial more ≡ Ok filled
    → filled_answer filled ≡ made kinds.Block text → IsToldOf header text
filled_under header partial more (filling.Sound block) text same is e =
    (block, sym (pair_is kinds.Block kinds.Block (block_text block) text e).1, subst (λ it. IsUnder it block) same (completed_under partial more block is))
filled_under header partial more filling.Wrong text same is e = absurd (let clash : kinds.Useless ≡ kinds.Block = ap (λ (p : Kind × List ℕ). p.0) e in cc)

answered_under : (header : Header) (rebuilt : Rebuilt) (more : BlockTransactions) (text : List ℕ) → AllUnder header rebuilt → completed_answer rebuilt more ≡ Ok (made kinds.Block text) → IsToldOf header text
answered_under header (rebuilding.Sound block) more text under e =
    elim (cases_Bool (length more.txs == 0)) [
      | inl is ↦
          let ok : Ok (made kinds.Block (block_text block)) ≡ Ok (made kinds.Block text) = rw is at e in
          answer_under header (rebuilding.Sound block) text under (ok_is (made kinds.Block (block_text block)) (made kinds.Block text) ok)
      | inr isnt ↦ absurd (let clash : Err WrongCount ≡ Ok (made kinds.Block text) = rw isnt at e in cc)
    ]
answered_under header (rebuilding.Lacking partial request) more text under e =
    let b = bind_ok (completed_of partial more) (λ filled. Ok (filled_answer filled)) (made kinds.Block text) e in
    filled_under header partial more b.0 text under b.1 (ok_is (filled_answer b.0) (made kinds.Block text) b.2)
answered_under header rebuilding.Useless more text under e = absurd (let clash : kinds.Useless ≡ kinds.Block = ap (λ (p : Kind × List ℕ). p.0) (ok_is (made kinds.Useless []) (made kinds.Block text) e) in cc)

-- ---- the bytes

the_block : (message text : List ℕ) (form : HeaderAndShortIds) → form_in message ≡ Ok form → IsToldOf form.header text → IsTheBlock message text
the_block message text form read told = record {
  form = form;
  block = told.0;
  read = read;
  told = told.1;
  header = told.2.0;
  sound = told.2.1;
  only = λ other sound same. one_if_apart other told.0 form.header told.0.txs sound same (ap (λ header. record { header = header; txs = told.0.txs }) told.2.0, subst (λ header. IsSoundBlock (record { header = header; txs = told.0.txs })) told.2.0 told.2.1);
}

pub rebuilt_block : (message txs text : List ℕ) → rebuilt_in message txs ≡ Ok (made kinds.Block text) → IsTheBlock message text
unfolding rebuilt_in
rebuilt_block message txs text e =
    let f = bind_ok (form_in message) (λ form. txs_in txs >>= λ given. Ok (answer_of (rebuilt_of form (pairs_under form given)))) (made kinds.Block text) e in
    let g = bind_ok (txs_in txs) (λ given. Ok (answer_of (rebuilt_of f.0 (pairs_under f.0 given)))) (made kinds.Block text) f.2 in
    let rebuilt = rebuilt_of f.0 (pairs_under f.0 g.0) in
    the_block message text f.0 f.1 (answer_under f.0.header rebuilt text (rebuilt_under f.0 (pairs_under f.0 g.0)) (ok_is (answer_of rebuilt) (made kinds.Block text) g.2))

pub known_block : (message txs text : List ℕ) (txids : List Hash256) → known_in message txs txids ≡ Ok (made kinds.Block text) → IsTheBlock message text
unfolding known_in
known_block message txs text txids e =
    let f = bind_ok (form_in message) (λ form. txs_in txs >>= λ given. counted txids given >>= λ all. Ok (answer_of (rebuilt_of form (told_among form txids all)))) (made kinds.Block text) e in
    let g = bind_ok (txs_in txs) (λ given. counted txids given >>= λ all. Ok (answer_of (rebuilt_of f.0 (told_among f.0 txids all)))) (made kinds.Block text) f.2 in
    let c = bind_ok (counted txids g.0) (λ all. Ok (answer_of (rebuilt_of f.0 (told_among f.0 txids all)))) (made kinds.Block text) g.2 in
    let rebuilt = rebuilt_of f.0 (told_among f.0 txids c.0) in
    the_block message text f.0 f.1 (answer_under f.0.header rebuilt text (rebuilt_under f.0 (told_among f.0 txids c.0)) (ok_is (answer_of rebuilt) (made kinds.Block text) c.2))

pub completed_block : (message txs more text : List ℕ) → completed_in message txs more ≡ Ok (made kinds.Block text) → IsTheBlock message text
unfolding completed_in
completed_block message txs more text e =
    let f = bind_ok (form_in message) (λ form. txs_in txs >>= λ given. all_of (block_txs_at more) >>= λ others. completed_answer (rebuilt_of form (pairs_under form given)) others) (made kinds.Block text) e in
    let g = bind_ok (txs_in txs) (λ given. all_of (block_txs_at more) >>= λ others. completed_answer (rebuilt_of f.0 (pairs_under f.0 given)) others) (made kinds.Block text) f.2 in
    let o = bind_ok (all_of (block_txs_at more)) (λ others. completed_answer (rebuilt_of f.0 (pairs_under f.0 g.0)) others) (made kinds.Block text) g.2 in
    let rebuilt = rebuilt_of f.0 (pairs_under f.0 g.0) in
    the_block message text f.0 f.1 (answered_under f.0.header rebuilt o.0 text (rebuilt_under f.0 (pairs_under f.0 g.0)) o.2)
