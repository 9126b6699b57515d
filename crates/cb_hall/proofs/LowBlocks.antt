-- No kept block that isn't marked stands higher than the tip: one that came higher became the tip, or was marked at once.
use Rattle.std.proofs.Common.{◌≡◌, ℕ, ◌<◌, ◌≤◌, true, false, List, [], ◌∷◌, Option, None, refl, sym, ap, subst, ◌∙◌, ◌⊎◌, inl, inr, arith}
use Rattle.std.specs.Prelude.{is_ok, is_some, unwrap_or, Result, Ok, Err}
use Rattle.std.proofs.lemmas.Bool.{cases_Bool, false≢true, ltb-true, ltb-false, or_parts}
use Rattle.cb_base.specs.declared.fault.Fault.{Fault}
use Rattle.cb_base.specs.declared.fault.Fault.TheVariants.{NoParent}
use Rattle.cb_base.specs.declared.hash.Hash256.{Hash256}
use Rattle.cb_block.specs.declared.block.Block.{Block}
use Rattle.cb_block.specs.declared.header.Header.{Header}
use Rattle.cb_block.specs.Blocks.{IsSoundBlock, MeetsBlockRules}
use Rattle.cb_block.specs.Work.{HasWork}
use Rattle.cb_ledger.specs.Unspent.{Unspent}
use Rattle.cb_chain.specs.declared.change.Change.{Change}
use Rattle.cb_chain.specs.Best.{Stop, faulty, missing, best, is_higher, leads_through, unspent_after}
use Rattle.cb_chain.specs.Calls.{AcceptsBlock, AcceptsHeader, bad_entry, block_entry, block_fault, header_entry, joined, marked_above, settled}
use Rattle.cb_chain.specs.Entries.{Entry, Tree, block_hash, genesis_hash, same, entry_of, is_kept, is_marked}
use Rattle.cb_chain.specs.History.{BlockCall, Call, HeaderCall, IsHistoric, IsHistory, IsStep}
use Rattle.cb_chain.specs.Laws.{height_in}
use Rattle.cb_chain.proofs.Histories.{historic_block}
use Rattle.cb_chain.proofs.LawLemmas.{tip_kept}
use Rattle.cb_chain.proofs.Marks.{marked_is, marks_keep_best, marks_keep_height, marks_keep_kept}
use Rattle.cb_chain.proofs.NewTip.{best_new, height_other}
use Rattle.cb_chain.proofs.BlockIndexes.{same-refl, same-true}
use Rattle.cb_chain.proofs.Reached.{ArePlanted, IsPlanted, kept_apart, kept_behind, kept_known, kept_own, marked_behind, marked_own, nothing_missing, planted_after, stop_leads}
use Rattle.cb_chain.proofs.SideBranchIndexes.{block_free, low_best}

abbrev pub StandLow : Tree → Type 0
StandLow tree = (hash : Hash256) → is_kept tree hash ≡ true → is_marked tree hash ≡ false → height_in tree hash ≤ height_in tree (best tree)

low_first : StandLow []
low_first hash kept clean =
    elim (cases_Bool (same hash genesis_hash)) [
      | inl is ↦ let none : height_in [] hash ≡ 0 = rw is refl in omega (arith, none)
      | inr isnt ↦ let none : height_in [] hash ≡ 0 = rw isnt refl in omega (arith, none)
    ]

-- ---- one entry more

-- the newest is the tip, and stands higher than the one before, or the tip stays
turns : (entry : Entry) (older : Tree)
    → ((best (entry ∷ older) ≡ block_hash entry.header) × (height_in (entry ∷ older) (best older) < height_in (entry ∷ older) (block_hash entry.header))) ⊎ (best (entry ∷ older) ≡ best older)
unfolding best
turns entry older =
    let tree = entry ∷ older in
    let hash = block_hash entry.header in
    elim (cases_Bool (is_ok (unspent_after tree hash))) [
      | inl ok ↦
          elim (cases_Bool (is_higher tree hash (best older))) [
            | inl up ↦ inl (rw (ok, up) refl, ltb-true (height_in tree (best older)) (height_in tree hash) up)
            | inr low ↦ inr (rw (ok, low) refl)
          ]
      | inr bad ↦ inr (rw bad refl)
    ]

still : (entry : Entry) (older : Tree) (hash : Hash256) → same hash (block_hash entry.header) ≡ false → height_in (entry ∷ older) hash ≡ height_in older hash
still entry older hash other = ap (λ (height : Option ℕ). unwrap_or height 0) (height_other entry older hash other)

-- the tip only rises
rises : (entry : Entry) (older : Tree) → ArePlanted (entry ∷ older) → height_in older (best older) ≤ height_in (entry ∷ older) (best (entry ∷ older))
rises entry older are =
    let stays = still entry older (best older) (kept_apart entry older (best older) are.0 (tip_kept older are.1)) in
    elim (turns entry older) [
      | inl leads ↦
          let tip = ap (height_in (entry ∷ older)) leads.0 in
          let up = leads.1 in
          omega (arith, stays, tip, up)
      | inr is ↦ let tip = ap (height_in (entry ∷ older)) is in omega (arith, stays, tip)
    ]

-- what was kept before stands low still
low_behind : (entry : Entry) (older : Tree) (hash : Hash256) → ArePlanted (entry ∷ older) → StandLow older → same hash (block_hash entry.header) ≡ false
    → is_kept (entry ∷ older) hash ≡ true → is_marked (entry ∷ older) hash ≡ false → height_in (entry ∷ older) hash ≤ height_in (entry ∷ older) (best (entry ∷ older))
low_behind entry older hash are low other kept clean =
    let before = low hash (sym (kept_behind entry older hash other) ∙ kept) (sym (marked_behind entry older hash other) ∙ clean) in
    omega (arith, before, still entry older hash other, rises entry older are)

low_more : (entry : Entry) (older : Tree) → ArePlanted (entry ∷ older) → StandLow older
    → (is_some entry.block ≡ true → entry.marked ≡ false → height_in (entry ∷ older) (block_hash entry.header) ≤ height_in (entry ∷ older) (best (entry ∷ older)))
    → StandLow (entry ∷ older)
low_more entry older are low newest hash kept clean =
    elim (cases_Bool (same hash (block_hash entry.header))) [
      | inl own ↦
          let here = newest (sym (kept_own entry older hash own) ∙ kept) (sym (marked_own entry older hash own) ∙ clean) in
          let named = ap (height_in (entry ∷ older)) (same-true hash (block_hash entry.header) own) in
          omega (arith, here, named)
      | inr other ↦ low_behind entry older hash are low other kept clean
    ]

-- a header alone is no kept block
low_bare : (entry : Entry) (older : Tree) → entry.block ≡ None → IsHistoric (entry ∷ older) → StandLow older → StandLow (entry ∷ older)
low_bare entry older bare is low =
    low_more entry older (planted_after (entry ∷ older) is) low (λ there _. absurd (false≢true (sym (ap is_some bare) ∙ there)))

-- ---- a block that breaks no rule

module _ (old : Tree) (block : Block) (sound : IsSoundBlock block) (work : HasWork block.header) (none : block_fault old block.header ≡ None) (rules : MeetsBlockRules block) (is : IsHistoric old) (low : StandLow old) where
  abbrev entry : Entry
  entry = block_entry block

  abbrev grown : Tree
  grown = entry ∷ old

  abbrev hash : Hash256
  hash = block_hash block.header

  planted : ArePlanted grown
  planted =
      let free = block_free old block.header none in
      let one : IsPlanted entry old = record { parent = kept_known (entry_of old block.header.prev) free.under; once = free.once; under = λ _. free.under; own = refl; rules = rules; sound = sound } in
      (one, planted_after old is)

  is_there : is_kept grown hash ≡ true
  is_there = rw (same-refl hash) refl

  -- it is the tip
  low_tip : (u : Unspent) → is_higher grown hash (best old) ≡ true → unspent_after grown hash ≡ Ok u → StandLow grown
  low_tip u above e =
      let tip = ap (height_in grown) (best_new entry old u e above) in
      low_more entry old planted low (λ _ _. omega (arith, tip))

  low_aside : is_higher grown hash (best old) ≡ false → StandLow grown
  low_aside beside =
      let tip = ap (height_in grown) (low_best entry old beside) in
      let under = ltb-false (height_in grown (best old)) (height_in grown hash) beside in
      low_more entry old planted low (λ _ _. omega (arith, tip, under))

  -- it is marked, with all from the first on where its path stops
  low_marked : (first : Hash256) (fault : Fault) → unspent_after grown hash ≡ Err (faulty first fault) → StandLow (marked_above first grown)
  low_marked first fault e other kept clean =
      let there : is_kept grown other ≡ true = sym (marks_keep_kept first grown other) ∙ kept in
      let parts = or_parts (is_marked grown other) (leads_through grown first other) (sym (marked_is grown first other there) ∙ clean) in
      let apart : same other hash ≡ false =
      elim (cases_Bool (same other hash)) [
        | inl own ↦
            let leads : leads_through grown first other ≡ true = ap (leads_through grown first) (same-true other hash own) ∙ stop_leads grown hash first fault planted is_there e in
            absurd (false≢true (sym parts.1 ∙ leads))
        | inr isnt ↦ isnt
      ]
      in
      let height : height_in (marked_above first grown) other ≡ height_in grown other = ap (λ (h : Option ℕ). unwrap_or h 0) (marks_keep_height first grown other) in
      let tip : height_in (marked_above first grown) (best (marked_above first grown)) ≡ height_in grown (best grown) =
      ap (height_in (marked_above first grown)) (marks_keep_best first grown) ∙ ap (λ (h : Option ℕ). unwrap_or h 0) (marks_keep_height first grown (best grown)) in
      omega (arith, low_behind entry old other planted low apart there parts.0, height, tip)

  -- of a kept block's path no block is missing
  low_missing : (lacking : Hash256) → is_higher grown hash (best old) ≡ true → unspent_after grown hash ≡ Err (missing lacking) → StandLow grown
  low_missing lacking above e =
      let answer : joined old block ≡ (Err NoParent, grown) = rw (above, e) refl in
      let accepts : AcceptsBlock old block (Err NoParent) grown = AcceptsBlock.meets_rules work none rules (sym answer) in
      absurd (nothing_missing grown hash lacking (historic_block old grown block (Err NoParent) sound is accepts) is_there e)

  low_settled : (r : Result Unspent Stop) → is_higher grown hash (best old) ≡ true → unspent_after grown hash ≡ r → StandLow (settled old grown r).1
  low_settled (Ok u) above e = low_tip u above e
  low_settled (Err (faulty first fault)) above e = low_marked first fault e
  low_settled (Err (missing lacking)) above e = low_missing lacking above e

  pub low_joined : StandLow (joined old block).1
  low_joined =
      elim (cases_Bool (is_higher grown hash (best old))) [
        | inl above ↦ rw above (low_settled (unspent_after grown hash) above refl)
        | inr beside ↦ rw beside (low_aside beside)
      ]

-- ---- calls

low_header : (old : Tree) (header : Header) (answer : Option Fault) (new : Tree) → AcceptsHeader old header answer new → IsHistoric new → StandLow old → StandLow new
low_header old header answer new (AcceptsHeader.without_work _ _ e) is low = subst StandLow (sym e) low
low_header old header answer new (AcceptsHeader.refused _ _ _ _ e) is low = subst StandLow (sym e) low
low_header old header answer new (AcceptsHeader.kept _ _ _ e) is low = subst StandLow (sym e) (low_bare (header_entry header) old refl (subst IsHistoric e is) low)

low_block : (old : Tree) (block : Block) (answer : Result Change Fault) (new : Tree) → IsSoundBlock block → AcceptsBlock old block answer new → IsHistoric old → IsHistoric new → StandLow old → StandLow new
low_block old block answer new sound (AcceptsBlock.without_work _ _ e) was is low = subst StandLow (sym e) low
low_block old block answer new sound (AcceptsBlock.refused _ _ _ _ e) was is low = subst StandLow (sym e) low
low_block old block answer new sound (AcceptsBlock.breaks_rule _ _ _ _ _ e) was is low = subst StandLow (sym e) (low_bare (bad_entry block.header) old refl (subst IsHistoric e is) low)
low_block old block answer new sound (AcceptsBlock.meets_rules work none rules e) was is low =
    subst StandLow (sym (ap (λ (both : Result Change Fault × Tree). both.1) e)) (low_joined old block sound work none rules was low)

low_step : (old : Tree) (call : Call) (new : Tree) → IsStep old call new → IsHistoric old → IsHistoric new → StandLow old → StandLow new
low_step old (HeaderCall header) new step was is low = low_header old header step.0 new step.1 is low
low_step old (BlockCall block) new step was is low = low_block old block step.1 new step.0 step.2 was is low

low_after : (calls : List Call) (tree : Tree) → IsHistory calls tree → StandLow tree
low_after [] tree h = subst StandLow (sym h) low_first
low_after (call ∷ calls) tree h = low_step h.0 call tree h.2 (calls, h.1) (call ∷ calls, h) (low_after calls h.0 h.1)

pub stand_low : (tree : Tree) → IsHistoric tree → StandLow tree
stand_low tree is = low_after is.0 tree is.1
