-- The ledger of the active chain has changed: what the branch that was tried last then is, and the chain with its new tip.
use Rattle.std.proofs.Common.{◌≡◌, ℕ, suc, ◌-◌, false, List, [], ◌∷◌, ◌++◌, length, Some, None, Option, refl, sym, ap, subst, ◌∙◌, inl, inr, ◌⊎◌}
use Rattle.std.specs.Prelude.{slice_get, unwrap_or, IfSome, Ok}
use Rattle.std.proofs.lemmas.Option.{same_Some}
use Rattle.cb_block.specs.declared.block.Block.{Block}
use Rattle.cb_ledger.specs.declared.undo.CoinChange.{CoinChange}
use Rattle.cb_ledger.specs.Undo.{changed}
use Rattle.cb_ledger.specs.Unspent.{Unspent}
use Rattle.cb_chain.specs.declared.side_branch.SideBranch.{SideBranch}
use Rattle.cb_chain.specs.Best.{best, stopped_at, then_spend, unspent_after}
use Rattle.cb_chain.specs.Calls.{block_entry}
use Rattle.cb_chain.specs.Entries.{Entry, Tree, block_hash, is_kept}
use Rattle.cb_chain.specs.Keeping.{active_places}
use Rattle.cb_chain.specs.SideBranches.{IsChain, IsRested, IsSideBranch, IsUndo, RestsOn, Tops, WasConnected, left, stays}
use Rattle.cb_chain.proofs.SideBranchIndexes.{unspent_own}
use Rattle.cb_chain.proofs.BlockIndexes.{same-refl}
use Rattle.cb_chain.proofs.Parents.{spent_more}
use Rattle.cb_chain.proofs.Undos.{connected_more, left_side_branch, record_last, stays_side_branch, undos_more}

-- ---- the branch that was tried last

rested_over : (before after : Unspent) (back : List CoinChange) (old new : SideBranch) → changed after back ≡ before → IsRested old back new → changed after new.overlay ≡ changed before old.overlay
rested_over before after back old new is rested = rested.over after ∙ ap (λ (u : Unspent). changed u old.overlay) is

pub nothing_over : (u : Unspent) (changes : List CoinChange) → changes ≡ [] → changed u changes ≡ u
unfolding changed
nothing_over u changes none = rw none refl

rested_one : (path : List ℕ) (before after : Unspent) (back : List CoinChange) (old : Option SideBranch) (last fresh new : SideBranch) → changed after back ≡ before → last ≡ unwrap_or old fresh → slice_get path (length path - 1) ≡ Some fresh.end
    → fresh.overlay ≡ [] → IsRested last back new → RestsOn path before after old new
rested_one path before after back None last fresh new is last_is tip none rested =
    left (tip ∙ ap Some (sym (rested.end ∙ ap (λ (s : SideBranch). s.end) last_is)))
    (rested_over before after back last new is rested ∙ nothing_over before last.overlay (ap (λ (s : SideBranch). s.overlay) last_is ∙ none))
rested_one path before after back (Some side_branch) last fresh new is last_is tip none rested =
    stays side_branch refl (rested.end ∙ ap (λ (s : SideBranch). s.end) last_is) (rested_over before after back last new is rested ∙ ap (λ (s : SideBranch). changed before s.overlay) last_is)

pub rests : (path : List ℕ) (before after : Unspent) (back : List CoinChange) (old : Option SideBranch) (last fresh : SideBranch) (new : Option SideBranch) → changed after back ≡ before → last ≡ unwrap_or old fresh
    → slice_get path (length path - 1) ≡ Some fresh.end → fresh.overlay ≡ [] → IfSome new (λ (side_branch : SideBranch). (o : SideBranch) × (Some last ≡ Some o) × IsRested o back side_branch) → IfSome new (RestsOn path before after old)
rests path before after back old last fresh None is last_is tip none rested = tt
rests path before after back old last fresh (Some new) is last_is tip none rested =
    rested_one path before after back old last fresh new is last_is tip none (subst (λ (s : SideBranch). IsRested s back new) (sym (same_Some last rested.0 rested.1)) rested.2)

-- the same of a branch that was there
pub rests_still : (path : List ℕ) (before after : Unspent) (back : List CoinChange) (old new : Option SideBranch) → changed after back ≡ before → IfSome new (λ (side_branch : SideBranch). (o : SideBranch) × (old ≡ Some o) × IsRested o back side_branch)
    → IfSome new (RestsOn path before after old)
rests_still path before after back old None is rested = tt
rests_still path before after back old (Some new) is rested = stays rested.0 rested.1 rested.2.end (rested_over before after back rested.0 new is rested.2)

rests_one : (path : List ℕ) (before after : Unspent) (old kept : Option SideBranch) (new : SideBranch) → (kept ≡ None) ⊎ (kept ≡ old) → RestsOn path before after kept new → RestsOn path before after old new
rests_one path before after old kept new (inl none) (stays side_branch kept_is end over) = absurd (let clash : None ≡ Some side_branch = sym none ∙ kept_is in cc)
rests_one path before after old kept new (inr same) (stays side_branch kept_is end over) = stays side_branch (sym same ∙ kept_is) end over
rests_one path before after old kept new why (left end over) = left end over

-- and of one that may have been let go
pub rests_let_go : (path : List ℕ) (before after : Unspent) (old kept new : Option SideBranch) → (kept ≡ None) ⊎ (kept ≡ old) → IfSome new (RestsOn path before after kept) → IfSome new (RestsOn path before after old)
rests_let_go path before after old kept None why rests = tt
rests_let_go path before after old kept (Some new) why rests = rests_one path before after old kept new why rests

-- ---- under the new tip

module _ (entry : Entry) (older : Tree) (once : is_kept older (block_hash entry.header) ≡ false) where
  side_branch_rests : (path : List ℕ) (undos : List (Option (List CoinChange))) (undo : Option (List CoinChange)) (before after : Unspent) (old : Option SideBranch) (new : SideBranch) → path ≡ active_places older → unspent_after older (best older) ≡ Ok before
      → WasConnected older undos (best older) → IfSome old (IsSideBranch older undos before) → RestsOn path before after old new → IsSideBranch (entry ∷ older) (undos ++ undo ∷ []) after new
  side_branch_rests path undos undo before after old new places spent tip is (stays side_branch old_is end over) =
      stays_side_branch entry older once undos undo before after side_branch new (subst (λ (o : Option SideBranch). IfSome o (IsSideBranch older undos before)) old_is is) end over
  side_branch_rests path undos undo before after old new places spent tip is (left end over) = left_side_branch entry older once path undos undo before after new places spent tip end over

  pub side_branches_rest : (path : List ℕ) (undos : List (Option (List CoinChange))) (undo : Option (List CoinChange)) (before after : Unspent) (old new : Option SideBranch) → path ≡ active_places older → unspent_after older (best older) ≡ Ok before
      → WasConnected older undos (best older) → IfSome old (IsSideBranch older undos before) → IfSome new (RestsOn path before after old) → IfSome new (IsSideBranch (entry ∷ older) (undos ++ undo ∷ []) after)
  side_branches_rest path undos undo before after old None places spent tip is rest = tt
  side_branches_rest path undos undo before after old (Some new) places spent tip is rest = side_branch_rests path undos undo before after old new places spent tip is rest

-- ---- the new tip

-- what is unspent after it
pub tops_spent : (older : Tree) (undos : List (Option (List CoinChange))) (block : Block) (changes : List CoinChange) (after : Unspent) → Tops older undos block changes after
    → unspent_after (block_entry block ∷ older) (block_hash block.header) ≡ Ok after
tops_spent older undos block changes after is =
    unspent_own (block_entry block) older ∙ ap (then_spend (block_entry block)) is.below ∙ ap (stopped_at (block_hash block.header)) is.leads.spent

tops_undo : (older : Tree) (undos : List (Option (List CoinChange))) (block : Block) (changes : List CoinChange) (after : Unspent) → is_kept older (block_hash block.header) ≡ false → Tops older undos block changes after
    → IsUndo (block_entry block ∷ older) (undos ++ Some changes ∷ []) (block_hash block.header) changes
tops_undo older undos block changes after once is =
    let entry = block_entry block in
    let hash = block_hash block.header in
    let prev = block.header.prev in
    record {
      kept = rw (same-refl hash) refl;
      prev = prev;
      prev_is = rw (same-refl hash) refl;
      back = λ u e.
          let here : Ok u ≡ Ok after = sym e ∙ tops_spent older undos block changes after is in
          let u_is : u ≡ after = cc in
          spent_more entry older once prev is.connected.kept ∙ is.below ∙ ap Ok (sym is.leads.back ∙ ap (λ (v : Unspent). changed v changes) (sym u_is));
      below = connected_more entry older once undos (Some changes) prev is.connected;
    }

-- the chain with its new tip
pub chain_led : (older : Tree) (undos : List (Option (List CoinChange))) (block : Block) (changes : List CoinChange) (before after : Unspent) (path now : List ℕ) (old new : Option SideBranch) → is_kept older (block_hash block.header) ≡ false
    → IsChain older path undos before old → Tops older undos block changes after → now ≡ active_places (block_entry block ∷ older) → best (block_entry block ∷ older) ≡ block_hash block.header
    → IfSome new (RestsOn path before after old) → IsChain (block_entry block ∷ older) now (undos ++ Some changes ∷ []) after new
chain_led older undos block changes before after path now old new once is tops places tip rest =
    let entry = block_entry block in
    let hash = block_hash block.header in
    let last : WasConnected (entry ∷ older) (undos ++ Some changes ∷ []) hash =
    record {
      place = suc (length older);
      at = rw (same-refl hash) refl;
      kept = rw (same-refl hash) refl;
      has = inr (changes, record_last undos (Some changes) (suc (length older)) is.undos_are.long);
    }
    in
    record {
      places = places;
      ledger = ap (unspent_after (entry ∷ older)) tip ∙ tops_spent older undos block changes after tops;
      undos_are = undos_more entry older once undos (Some changes) is.undos_are
          (λ others same_changes. subst (IsUndo (entry ∷ older) (undos ++ Some changes ∷ []) hash) (same_Some changes others same_changes) (tops_undo older undos block changes after once tops));
      tip = subst (WasConnected (entry ∷ older) (undos ++ Some changes ∷ [])) (sym tip) last;
      side_branch_is = side_branches_rest entry older once path undos (Some changes) before after old new is.places is.ledger is.tip is.side_branch_is rest;
    }
