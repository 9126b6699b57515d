-- What is told as sound is the only block under its header, where hashes don't collide.
use Rattle.std.proofs.Common.{◌≡◌, ℕ, List, [], refl, sym, ap, ◌∙◌, subst}
use Rattle.cb_block.specs.declared.tx.Tx.{Tx}
use Rattle.cb_block.specs.declared.block.Block.{Block}
use Rattle.cb_block.specs.declared.header.Header.{Header}
use Rattle.cb_block.specs.Blocks.{texts, IsSoundBlock}
use Rattle.cb_block.specs.Soundness.{IsSound}
use Rattle.cb_compact.specs.Honest.{AreOneIfApart, IsTold}
use Rattle.cb_compact.specs.Placing.{IsFilled, IsPlaced}
use Rattle.cb_compact.specs.Slots.{filled, slots}
use Rattle.cb_compact.specs.declared.form.Prefilled.{Prefilled}
use Rattle.cb_compact.specs.declared.named_tx.Pair.{Pair}
use Rattle.cb_compact.specs.declared.partial.Filled.TheVariants.{Sound}
use Rattle.cb_compact.specs.declared.partial.Placed.{Placed}
use Rattle.cb_compact.specs.declared.partial.Placed.TheVariants.{Missing, Repeat, Whole}
use Rattle.cb_block.proofs.Only.{only_one}
use Rattle.cb_block.proofs.Texts.{only_txs}

pub one_if_apart : (block told : Block) (header : Header) (txs : List Tx) → IsSoundBlock block → header ≡ block.header → IsFilled header txs (Sound told) → AreOneIfApart block told
one_if_apart block told header txs sound same (is, whole) apart =
    let header_is : told.header ≡ block.header = ap (λ it. it.header) is ∙ same in
    let list : told.txs ≡ txs = ap (λ it. it.txs) is in
    let here : IsSound block.header.root (texts told.txs) = subst (λ h. IsSound h.root (texts told.txs)) same (subst (λ them. IsSound header.root (texts them)) (sym list) whole) in (
      only_one block.header.root (texts block.txs) sound (texts told.txs) here apart,
      λ fits fit. let alike : told.txs ≡ block.txs = only_txs block.header.root block.txs sound fits told.txs fit here apart in
          let one : record { header = told.header; txs = told.txs } ≡ record { header = block.header; txs = block.txs } = ap (λ h. record { header = h; txs = told.txs }) header_is ∙ ap (λ them. record { header = block.header; txs = them }) alike in one,
    )

pub told_is_one : (block told : Block) (ids : List ℕ) (prefilled : List Prefilled) (pairs : List Pair) (placed : Placed) → IsSoundBlock block → IsPlaced block.header ids prefilled pairs placed → IsTold placed told → AreOneIfApart block told
told_is_one block told ids prefilled pairs Repeat sound placed tells = absurd tells
told_is_one block told ids prefilled pairs (Whole whole) sound (different, none, is) tells = one_if_apart block told block.header (filled (slots ids prefilled pairs) []) sound refl (subst (IsFilled block.header (filled (slots ids prefilled pairs) [])) tells is)
told_is_one block told ids prefilled pairs (Missing lacking partial) sound (different, some, are, is) (txs, tells) = one_if_apart block told partial.header (filled partial.slots txs) sound (ap (λ it. it.header) is) tells
