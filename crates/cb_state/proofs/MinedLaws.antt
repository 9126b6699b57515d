-- What holds of a mined block: it is the only one, and it meets the rules that a block meets by itself.
use Rattle.std.proofs.Common.{◌≡◌, ℕ, zero, suc, List, ◌∷◌, length, take, map, refl, sym, ap, subst, ◌∙◌, arith, inl, inr}
use Rattle.std.specs.Prelude.{ℤ, pos, All}
use Rattle.std.proofs.lemmas.Bool.{cases_lt}
use Rattle.std.proofs.lemmas.Int.{ints}
use Rattle.std.proofs.lemmas.List.{length-append}
use Rattle.std.proofs.lemmas.List.Elements.{All-cons, All-take}
use Rattle.std.proofs.lemmas.Option.{slice_get_within}
use Rattle.cb_base.specs.declared.fault.TxRule.TheVariants.{NoInputs, NoOutputs, TooLong, BadValue, BadSum, RepeatedInput, BadCoinbaseScript, NullInput}
use Rattle.cb_base.specs.declared.hash.Hash256.{Hash256}
use Rattle.cb_block.specs.declared.tx.Tx.{Tx}
use Rattle.cb_block.specs.declared.tx.TxIn.{TxIn}
use Rattle.cb_block.specs.declared.tx.TxOut.{TxOut}
use Rattle.cb_block.specs.TxRules.{HasBadScript, IsCoinbase, IsOutsideMoney, MeetsRules}
use Rattle.cb_block.specs.TxText.{list_text, tx_text}
use Rattle.cb_block.specs.declared.block.Block.{Block}
use Rattle.cb_block.specs.declared.header.Header.{Header}
use Rattle.cb_block.specs.Blocks.{HasOneCoinbase, MeetsBlockRules, texts}
use Rattle.cb_block.specs.Soundness.{names}
use Rattle.cb_block.specs.BlockText.{block_text, header_text}
use Rattle.cb_block.specs.Work.{HasWork}
use Rattle.cb_block.proofs.Levels.{one_root}
use Rattle.cb_chain.specs.Entries.{Tree}
use Rattle.cb_pool.specs.Listing.{txs_of}
use Rattle.cb_pool.specs.Rules.{StandsAlone}
use Rattle.cb_state.specs.Mining.{AreMined, HasLeastNonce, IsHeaderOver, IsMined, IsMostFitting, coinbase_of, next_height, with_nonce}
use Rattle.cb_state.specs.State.{RelayState}
use Rattle.cb_state.proofs.Fits.{coinbase_long}

-- ---- the only one

same_count : (coinbase : Tx) (waiting : List Tx) (m n : ℕ) → IsMostFitting coinbase waiting m → IsMostFitting coinbase waiting n → m ≡ n
same_count coinbase waiting m n a b =
    elim (cases_lt m n) [
      | inl less ↦ absurd (a.most n less b.within b.fit)
      | inr le ↦
          elim (cases_lt n m) [
            | inl less ↦ absurd (b.most m less a.within a.fit)
            | inr ge ↦ omega (arith, le, ge)
          ]
    ]

same_txs : (state : RelayState) (mark : ℕ) (a b : List Tx) → AreMined state mark a → AreMined state mark b → a ≡ b
same_txs state mark a b is other =
    let coinbase = coinbase_of (next_height state.tree) mark in
    let waiting = txs_of state.pool.list in
    is.2 ∙ ap (λ (n : ℕ). coinbase ∷ take n waiting) (same_count coinbase waiting is.0 other.0 is.1 other.1) ∙ sym other.2

-- headers over the same transactions on the same tip differ in their nonces alone
same_but_nonce : (tree : Tree) (txs : List Tx) (a b : Header) → IsHeaderOver tree txs a → IsHeaderOver tree txs b → (nonce : ℕ) → with_nonce a nonce ≡ with_nonce b nonce
same_but_nonce tree txs a b is other nonce =
    ap (λ (version : ℤ). record { version = version; prev = a.prev; root = a.root; time = a.time; bits = a.bits; nonce = nonce }) (is.version ∙ sym other.version)
    ∙ ap (λ (prev : Hash256). record { version = b.version; prev = prev; root = a.root; time = a.time; bits = a.bits; nonce = nonce }) (is.prev ∙ sym other.prev)
    ∙ ap (λ (root : Hash256). record { version = b.version; prev = b.prev; root = root; time = a.time; bits = a.bits; nonce = nonce }) (one_root (names (texts txs)) a.root b.root is.root other.root)
    ∙ ap (λ (time : ℕ). record { version = b.version; prev = b.prev; root = b.root; time = time; bits = a.bits; nonce = nonce }) (is.time ∙ sym other.time)
    ∙ ap (λ (bits : ℕ). record { version = b.version; prev = b.prev; root = b.root; time = b.time; bits = bits; nonce = nonce }) (is.bits ∙ sym other.bits)

same_nonce : (a b : Header) → ((nonce : ℕ) → with_nonce a nonce ≡ with_nonce b nonce) → HasLeastNonce a → HasLeastNonce b → a.nonce ≡ b.nonce
same_nonce a b same is other =
    elim (cases_lt a.nonce b.nonce) [
      | inl less ↦ absurd (other.least a.nonce less (subst HasWork (same a.nonce) is.work))
      | inr le ↦
          elim (cases_lt b.nonce a.nonce) [
            | inl less ↦ absurd (is.least b.nonce less (subst HasWork (sym (same b.nonce)) other.work))
            | inr ge ↦ omega (arith, le, ge)
          ]
    ]

pub one_mined : (state : RelayState) (mark : ℕ) (a b : Block) → IsMined state mark a → IsMined state mark b → a ≡ b
one_mined state mark a b is other =
    let txs : a.txs ≡ b.txs = same_txs state mark a.txs b.txs is.txs other.txs in
    let over : IsHeaderOver state.tree b.txs a.header = subst (λ (l : List Tx). IsHeaderOver state.tree l a.header) txs is.header in
    let same = same_but_nonce state.tree b.txs a.header b.header over other.header in
    let header : a.header ≡ b.header = same a.header.nonce ∙ ap (with_nonce b.header) (same_nonce a.header b.header same is.nonce other.nonce) in
    ap (λ (h : Header). record { header = h; txs = a.txs }) header ∙ ap (λ (l : List Tx). record { header = b.header; txs = l }) txs

-- ---- the rules of a block

pub money : IsOutsideMoney (pos 5000000000) → ⊥
money (inl below) = grind (arith, ints)
money (inr above) = grind (arith, ints)

coinbase_meets_rules : (height mark : ℕ) → MeetsRules (coinbase_of height mark)
coinbase_meets_rules height mark NoInputs e = cc
coinbase_meets_rules height mark NoOutputs e = cc
coinbase_meets_rules height mark TooLong long = absurd (omega (arith, long, coinbase_long height mark))
coinbase_meets_rules height mark BadValue (zero, output, lt, is, outside) = money (subst (λ (o : TxOut). IsOutsideMoney o.value) (sym is) outside)
coinbase_meets_rules height mark BadValue (suc k, output, lt, is, outside) = absurd (omega (arith, lt))
coinbase_meets_rules height mark BadSum above = grind (arith, ints)
coinbase_meets_rules height mark RepeatedInput twice = absurd (omega (arith, twice.3, slice_get_within (map (λ (input : TxIn). input.prev) (coinbase_of height mark).inputs) twice.2 twice.0 twice.5))
coinbase_meets_rules height mark BadCoinbaseScript bad = go bad.1 where
  go : HasBadScript (coinbase_of height mark).inputs → ⊥
  go (inl short) = absurd (omega (arith, short))
  go (inr long) = absurd (omega (arith, long))
coinbase_meets_rules height mark NullInput other = other.0 (refl, refl)

pub meets_rules : (state : RelayState) (mark : ℕ) (block : Block) → All StandsAlone (txs_of state.pool.list) → length (header_text block.header) ≡ 80 → IsMined state mark block → MeetsBlockRules block
unfolding block_text
meets_rules state mark block alone long is =
    let coinbase = coinbase_of (next_height state.tree) mark in
    let waiting = txs_of state.pool.list in
    let count = is.txs.0 in
    let txs : block.txs ≡ coinbase ∷ take count waiting = is.txs.2 in
    let ordinary : All (λ tx. ¬ IsCoinbase tx) (take count waiting) = All-take (λ tx. ¬ IsCoinbase tx) count waiting (λ k tx lt. (alone k tx lt).ordinary) in
    let rules : All MeetsRules (take count waiting) = All-take MeetsRules count waiting (λ k tx lt. (alone k tx lt).rules) in
    record {
      size = omega (arith, long, length-append (header_text block.header) (list_text tx_text block.txs), ap (λ (l : List Tx). length (list_text tx_text l)) txs, is.txs.1.fit);
      coinbase = subst HasOneCoinbase (sym txs) ((refl, refl), ordinary);
      txs = subst (All MeetsRules) (sym txs) (All-cons MeetsRules coinbase (take count waiting) (coinbase_meets_rules (next_height state.tree) mark) rules);
    }
