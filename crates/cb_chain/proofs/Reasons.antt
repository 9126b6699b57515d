-- Where a header alone is marked, a call gave its block, which breaks a rule: by recursion on the list of calls.
use Rattle.std.proofs.Common.{◌≡◌, true, false, List, [], ◌∷◌, Option, refl, sym, ap, subst, ◌∙◌, arith, inl, inr}
use Rattle.std.specs.Prelude.{Contains, is_some, Result, Ok, Err}
use Rattle.std.proofs.lemmas.Bool.{cases_Bool, false≢true}
use Rattle.std.proofs.lemmas.List.Elements.{Contains-append_right}
use Rattle.cb_base.specs.declared.fault.Fault.{Fault}
use Rattle.cb_base.specs.declared.hash.Hash256.{Hash256}
use Rattle.cb_block.specs.declared.block.Block.{Block}
use Rattle.cb_block.specs.declared.header.Header.{Header}
use Rattle.cb_ledger.specs.Unspent.{Unspent}
use Rattle.cb_chain.specs.declared.change.Change.{Change}
use Rattle.cb_chain.specs.Best.{Stop, faulty, missing, best, is_higher, unspent_after}
use Rattle.cb_chain.specs.Calls.{AcceptsBlock, AcceptsHeader, bad_entry, block_entry, header_entry, joined, marked_above, settled}
use Rattle.cb_chain.specs.Entries.{Entry, Tree, block_hash, same, is_kept, is_marked}
use Rattle.cb_chain.specs.History.{BlockCall, Call, HeaderCall, IsHistory, IsStep}
use Rattle.cb_chain.specs.Laws.{BrokeRule}
use Rattle.cb_chain.proofs.Marks.{marks_keep_kept}
use Rattle.cb_chain.proofs.BlockIndexes.{same-true}
use Rattle.cb_chain.proofs.Reached.{first_unmarked, kept_behind, kept_own, marked_behind, marked_own, marked_then}

abbrev AreRefused : List Call → Tree → Type 0
AreRefused calls tree = (hash : Hash256) → is_marked tree hash ≡ true → is_kept tree hash ≡ false → BrokeRule calls hash

-- one call more
refused_then : (call : Call) (calls : List Call) (tree : Tree) → AreRefused calls tree → AreRefused (call ∷ calls) tree
refused_then call calls tree is hash marked unkept =
    let was = is hash marked unkept in
    (was.0, was.1, Contains-append_right (call ∷ []) calls (BlockCall was.0) was.2, was.3, was.4)

-- one entry more
refused_more : (calls : List Call) (entry : Entry) (older : Tree) → (entry.marked ≡ true → is_some entry.block ≡ false → BrokeRule calls (block_hash entry.header)) → AreRefused calls older
    → AreRefused calls (entry ∷ older)
refused_more calls entry older here is hash marked unkept =
    elim (cases_Bool (same hash (block_hash entry.header))) [
      | inl own ↦
          subst (BrokeRule calls) (sym (same-true hash (block_hash entry.header) own)) (here (sym (marked_own entry older hash own) ∙ marked) (sym (kept_own entry older hash own) ∙ unkept))
      | inr other ↦ is hash (sym (marked_behind entry older hash other) ∙ marked) (sym (kept_behind entry older hash other) ∙ unkept)
    ]

-- marks above a block
refused_marked : (calls : List Call) (first : Hash256) (tree : Tree) → AreRefused calls tree → AreRefused calls (marked_above first tree)
refused_marked calls first tree is hash marked unkept =
    let there : is_kept tree hash ≡ false = sym (marks_keep_kept first tree hash) ∙ unkept in
    elim (marked_then first tree hash marked) [
      | inl before ↦ is hash before there
      | inr leads ↦ absurd (false≢true (sym there ∙ leads.0))
    ]

refused_settled : (calls : List Call) (old new : Tree) (r : Result Unspent Stop) → AreRefused calls new → AreRefused calls (settled old new r).1
refused_settled calls old new (Ok u) is = is
refused_settled calls old new (Err (faulty first fault)) is = refused_marked calls first new is
refused_settled calls old new (Err (missing lacking)) is = is

refused_joined : (calls : List Call) (old : Tree) (block : Block) → AreRefused calls old → AreRefused calls (joined old block).1
refused_joined calls old block is =
    let new = block_entry block ∷ old in
    let hash = block_hash block.header in
    let more : AreRefused calls new = refused_more calls (block_entry block) old (λ marked _. absurd (false≢true marked)) is in
    elim (cases_Bool (is_higher new hash (best old))) [
      | inl above ↦ rw above (refused_settled calls old new (unspent_after new hash) more)
      | inr low ↦ rw low more
    ]

refused_header : (calls : List Call) (old : Tree) (header : Header) (answer : Option Fault) (new : Tree) → AcceptsHeader old header answer new → AreRefused calls old → AreRefused calls new
refused_header calls old header answer new (AcceptsHeader.without_work _ _ e) is = subst (AreRefused calls) (sym e) is
refused_header calls old header answer new (AcceptsHeader.refused _ _ _ _ e) is = subst (AreRefused calls) (sym e) is
refused_header calls old header answer new (AcceptsHeader.kept _ _ _ e) is =
    subst (AreRefused calls) (sym e) (refused_more calls (header_entry header) old (λ marked _. absurd (false≢true marked)) is)

refused_block : (calls : List Call) (old : Tree) (block : Block) (answer : Result Change Fault) (new : Tree) → Contains calls (BlockCall block) → AcceptsBlock old block answer new → AreRefused calls old
    → AreRefused calls new
refused_block calls old block answer new came (AcceptsBlock.without_work _ _ e) is = subst (AreRefused calls) (sym e) is
refused_block calls old block answer new came (AcceptsBlock.refused _ _ _ _ e) is = subst (AreRefused calls) (sym e) is
refused_block calls old block answer new came (AcceptsBlock.breaks_rule _ _ fault breaks _ e) is =
    subst (AreRefused calls) (sym e) (refused_more calls (bad_entry block.header) old (λ _ _. (block, fault, came, refl, breaks)) is)
refused_block calls old block answer new came (AcceptsBlock.meets_rules _ _ _ e) is =
    subst (AreRefused calls) (sym (ap (λ (both : Result Change Fault × Tree). both.1) e)) (refused_joined calls old block is)

refused_step : (call : Call) (calls : List Call) (old new : Tree) → IsStep old call new → AreRefused (call ∷ calls) old → AreRefused (call ∷ calls) new
refused_step (HeaderCall header) calls old new step is = refused_header (HeaderCall header ∷ calls) old header step.0 new step.1 is
refused_step (BlockCall block) calls old new step is = refused_block (BlockCall block ∷ calls) old block step.1 new (0, omega arith, refl) step.2 is

pub were_refused : (calls : List Call) (tree : Tree) → IsHistory calls tree → (hash : Hash256) → is_marked tree hash ≡ true → is_kept tree hash ≡ false → BrokeRule calls hash
were_refused [] tree h = subst (AreRefused []) (sym h) (λ hash marked unkept. absurd (first_unmarked hash marked))
were_refused (call ∷ calls) tree h = refused_step call calls h.0 tree h.2 (refused_then call calls h.0 (were_refused calls h.0 h.1))
