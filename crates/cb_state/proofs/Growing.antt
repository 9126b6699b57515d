-- A block that comes on the tip and becomes it: what is unspent behind it is what it leaves of what was.
use Rattle.std.proofs.Common.{◌≡◌, true, false, [], ◌∷◌, Result, Ok, Err, refl, sym, ap, ◌∙◌, inl, inr}
use Rattle.std.specs.Prelude.{◌≢◌}
use Rattle.std.proofs.lemmas.Bool.{cases_Bool}
use Rattle.cb_base.specs.declared.fault.Fault.{Fault}
use Rattle.cb_base.specs.declared.fault.Fault.TheVariants.{BadWork, NoParent}
use Rattle.cb_base.specs.declared.hash.Hash256.{Hash256}
use Rattle.cb_base.proofs.Fields.{ok_is}
use Rattle.cb_block.specs.declared.block.Block.{Block}
use Rattle.cb_ledger.specs.Spend.{spend}
use Rattle.cb_ledger.specs.Unspent.{Unspent}
use Rattle.cb_chain.specs.declared.change.Change.{Change}
use Rattle.cb_chain.specs.Best.{Stop, best, faulty, is_higher, missing, stopped_at, then_spend, unspent_after}
use Rattle.cb_chain.specs.Calls.{AcceptsBlock, block_entry, change_of, joined, no_change}
use Rattle.cb_chain.specs.Entries.{Tree, block_hash}
use Rattle.cb_chain.proofs.NewTip.{best_new, joined_err, joined_ok}
use Rattle.cb_chain.proofs.SideBranchIndexes.{unspent_own}
use Rattle.cb_state.specs.State.{IsUnspent}

abbrev Answer : Type 0
Answer = Result Change Fault × Tree

-- a fault isn't an answer that is well
not_err : (change : Change) (fault : Fault) → Ok change ≡ Err fault → ⊥
not_err change fault e = absurd (let is : Ok change ≡ Err fault = e in cc)

was_ok : (hash : Hash256) (r : Result Unspent Fault) (w : Unspent) → stopped_at hash r ≡ Ok w → r ≡ Ok w
was_ok hash (Ok u) w e = let same : u ≡ w = cc in ap Ok same
was_ok hash (Err fault) w e = absurd (let is : Err (faulty hash fault) ≡ Ok w = e in cc)

-- it is spent over what is unspent behind the old tip
pub spent_on : (old : Tree) (block : Block) (u : Unspent) → block.header.prev ≡ best old → IsUnspent old u
    → unspent_after (block_entry block ∷ old) (block_hash block.header) ≡ stopped_at (block_hash block.header) (spend u block.txs)
spent_on old block u on before = unspent_own (block_entry block) old ∙ ap (λ (h : Hash256). then_spend (block_entry block) (unspent_after old h)) on ∙ ap (then_spend (block_entry block)) before

module _ (old tree : Tree) (block : Block) (change : Change) (u w : Unspent) (some : change.on ≢ []) (on : block.header.prev ≡ best old) (before : IsUnspent old u) (after : IsUnspent tree w) where
  abbrev grown : Tree
  grown = block_entry block ∷ old

  abbrev hash : Hash256
  hash = block_hash block.header

  aside : is_higher grown hash (best old) ≡ false → joined old block ≡ (Ok no_change, grown)
  aside lower = rw lower refl

  lacks : (lacking : Hash256) → is_higher grown hash (best old) ≡ true → unspent_after grown hash ≡ Err (missing lacking) → joined old block ≡ (Err NoParent, grown)
  lacks lacking higher err = rw (higher, err) refl

  by_path : (r : Result Unspent Stop) → unspent_after grown hash ≡ r → is_higher grown hash (best old) ≡ true → (Ok change, tree) ≡ joined old block → spend u block.txs ≡ Ok w
  by_path (Ok v) path higher e =
      let whole : (Ok change, tree) ≡ (Ok (change_of old grown), grown) = e ∙ joined_ok old block v higher path in
      let same_tree : tree ≡ grown = ap (λ (a : Answer). a.1) whole in
      let tip : best tree ≡ hash = ap best same_tree ∙ best_new (block_entry block) old v path higher in
      let here : unspent_after grown hash ≡ Ok w = ap (λ (t : Tree). unspent_after t hash) (sym same_tree) ∙ ap (unspent_after tree) (sym tip) ∙ after in
      was_ok hash (spend u block.txs) w (sym (spent_on old block u on before) ∙ here)
  by_path (Err (faulty first fault)) path higher e = absurd (not_err change fault (ap (λ (a : Answer). a.0) (e ∙ joined_err old block first fault higher path)))
  by_path (Err (missing lacking)) path higher e = absurd (not_err change NoParent (ap (λ (a : Answer). a.0) (e ∙ lacks lacking higher path)))

  by_join : (Ok change, tree) ≡ joined old block → spend u block.txs ≡ Ok w
  by_join e =
      elim (cases_Bool (is_higher grown hash (best old))) [
        | inl higher ↦ by_path (unspent_after grown hash) refl higher e
        | inr lower ↦
            let both : (Ok change, tree) ≡ (Ok no_change, grown) = e ∙ aside lower in
            let answer : Ok change ≡ Ok no_change = ap (λ (a : Answer). a.0) both in
            let same : change ≡ no_change = ok_is change no_change answer in
            absurd (some (ap (λ (c : Change). c.on) same))
      ]

pub grown_on : (old tree : Tree) (block : Block) (change : Change) (u w : Unspent) → AcceptsBlock old block (Ok change) tree → change.on ≢ [] → block.header.prev ≡ best old → IsUnspent old u → IsUnspent tree w
    → spend u block.txs ≡ Ok w
grown_on old tree block change u w (AcceptsBlock.without_work _ answered _) some on before after = absurd (not_err change BadWork answered)
grown_on old tree block change u w (AcceptsBlock.refused _ fault _ answered _) some on before after = absurd (not_err change fault answered)
grown_on old tree block change u w (AcceptsBlock.breaks_rule _ _ fault _ answered _) some on before after = absurd (not_err change fault answered)
grown_on old tree block change u w (AcceptsBlock.meets_rules _ _ _ e) some on before after = by_join old tree block change u w some on before after e
