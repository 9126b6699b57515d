-- The records of connected blocks: under one entry more, under marks, and with one record more.
use Rattle.std.proofs.Common.{◌≡◌, ℕ, zero, suc, ◌-◌, ◌<◌, Bool, true, false, cond, List, [], ◌∷◌, ◌++◌, length, length-append, map, Some, None, Option, refl, sym, ap, subst, ◌∙◌, arith, inl, inr}
use Rattle.std.specs.Prelude.{◌&&◌, is_some, nat_eq, option_map, option_and_then, slice_get, IfSome, Ok}
use Rattle.std.proofs.lemmas.Bool.{cases_Bool}
use Rattle.std.proofs.lemmas.List.{length-set}
use Rattle.std.proofs.lemmas.Option.{get_or_from_slice_get, same_Some}
use Rattle.std.proofs.Math.ListN.{set}
use Rattle.cb_base.specs.declared.hash.Hash256.{Hash256}
use Rattle.cb_block.specs.declared.header.Header.{Header}
use Rattle.cb_ledger.specs.declared.undo.CoinChange.{CoinChange}
use Rattle.cb_ledger.specs.Undo.{changed}
use Rattle.cb_ledger.specs.Unspent.{Unspent}
use Rattle.cb_chain.specs.Best.{best, leads_through, unspent_after}
use Rattle.cb_chain.specs.Calls.{marked_above}
use Rattle.cb_chain.specs.Entries.{Entry, Tree, block_hash, entry_of, genesis_hash, is_kept, same}
use Rattle.cb_chain.specs.Keeping.{Step, active_places, entry_from, place_of, tree_of}
use Rattle.cb_chain.specs.SideBranches.{AreUndos, HasRecord, IsChain, IsSideBranch, IsUndo, WasConnected, prev_of, record_at}
use Rattle.cb_chain.specs.Marking.{BlockIndex}
use Rattle.cb_chain.specs.declared.side_branch.SideBranch.{SideBranch}
use Rattle.cb_chain.proofs.SideBranchIndexes.{Grows, climb_aside, grows_tree}
use Rattle.cb_chain.proofs.Places.{eq_true, get_set, place_low}
use Rattle.cb_chain.proofs.Marks.{mark_header, marks_keep_active_places, marks_keep_best, marks_keep_kept, marks_keep_length, marks_keep_place, marks_keep_unspent, with_mark}
use Rattle.cb_chain.proofs.BlockIndexes.{chosen, same-true}
use Rattle.cb_chain.proofs.Tips.{tip_last}
use Rattle.cb_chain.proofs.Parents.{kept_more, named_once, other, place_more, spent_more}

-- ---- lists of records

record_front : (undos more : List (Option (List CoinChange))) (place : ℕ) (changes : List CoinChange) → record_at undos place ≡ Some changes → record_at (undos ++ more) place ≡ Some changes
record_front [] more place changes has = absurd (let none : None ≡ Some changes = has in cc)
record_front (undo ∷ undos) more zero changes has = has
record_front (undo ∷ undos) more (suc place) changes has = record_front undos more place changes has

pub record_last : (undos : List (Option (List CoinChange))) (undo : Option (List CoinChange)) (place : ℕ) → length undos ≡ place → record_at (undos ++ undo ∷ []) place ≡ undo
record_last [] undo zero e = refl
record_last [] undo (suc place) e = absurd (omega (arith, e))
record_last (first ∷ undos) undo zero e = absurd (omega (arith, e))
record_last (first ∷ undos) undo (suc place) e = record_last undos undo place (omega (arith, e))

record_before : (undos more : List (Option (List CoinChange))) (place : ℕ) → place < length undos → record_at (undos ++ more) place ≡ record_at undos place
record_before [] more place lt = absurd (omega (arith, lt))
record_before (undo ∷ undos) more zero lt = refl
record_before (undo ∷ undos) more (suc place) lt = record_before undos more place (omega (arith, lt))

-- ---- one entry more

module _ (entry : Entry) (older : Tree) (once : is_kept older (block_hash entry.header) ≡ false) where
  prev_more : (hash : Hash256) → is_kept older hash ≡ true → prev_of (entry ∷ older) hash ≡ prev_of older hash
  prev_more hash kept = rw (other entry older once hash kept) refl

  pub connected_more : (undos : List (Option (List CoinChange))) (undo : Option (List CoinChange)) (hash : Hash256) → WasConnected older undos hash → WasConnected (entry ∷ older) (undos ++ undo ∷ []) hash
  connected_more undos undo hash is =
      record {
        place = is.place;
        at = place_more entry older once hash is.kept ∙ is.at;
        kept = kept_more entry older once hash is.kept;
        has = elim is.has [ inl first ↦ inl first | inr has ↦ inr (has.0, record_front undos (undo ∷ []) is.place has.0 has.1) ];
      }

  pub undo_more : (undos : List (Option (List CoinChange))) (undo : Option (List CoinChange)) (hash : Hash256) (changes : List CoinChange) → IsUndo older undos hash changes → IsUndo (entry ∷ older) (undos ++ undo ∷ []) hash changes
  undo_more undos undo hash changes is =
      record {
        kept = kept_more entry older once hash is.kept;
        prev = is.prev;
        prev_is = prev_more hash is.kept ∙ is.prev_is;
        back = λ u e. spent_more entry older once is.prev is.below.kept ∙ is.back u (sym (spent_more entry older once hash is.kept) ∙ e);
        below = connected_more undos undo is.prev is.below;
      }

  pub undos_more : (undos : List (Option (List CoinChange))) (undo : Option (List CoinChange)) → AreUndos older undos
      → ((changes : List CoinChange) → undo ≡ Some changes → IsUndo (entry ∷ older) (undos ++ undo ∷ []) (block_hash entry.header) changes) → AreUndos (entry ∷ older) (undos ++ undo ∷ [])
  undos_more undos undo are new =
      record {
        long = length-append undos (undo ∷ []) ∙ omega (arith, are.long);
        each = λ hash place changes at has. elim (chosen (same hash (block_hash entry.header)) (suc (length older)) (place_of older hash) place at) [
          | inl w ↦
              let here : record_at (undos ++ undo ∷ []) place ≡ undo = record_last undos undo place (are.long ∙ w.1) in
              subst (λ (h : Hash256). IsUndo (entry ∷ older) (undos ++ undo ∷ []) h changes) (sym (same-true hash (block_hash entry.header) w.0)) (new changes (sym here ∙ has))
          | inr w ↦
              let low : place < length undos = omega (arith, place_low older hash place w.1, are.long) in
              undo_more undos undo hash changes (are.each hash place changes w.1 (sym (record_before undos (undo ∷ []) place low) ∙ has))
        ];
      }

  pub side_branch_more : (undos : List (Option (List CoinChange))) (undo : Option (List CoinChange)) (unspent : Unspent) (side_branch : SideBranch) → IsSideBranch older undos unspent side_branch → IsSideBranch (entry ∷ older) (undos ++ undo ∷ []) unspent side_branch
  unfolding connected_more
  side_branch_more undos undo unspent side_branch is =
      record {
        hash = is.hash;
        connected = connected_more undos undo is.hash is.connected;
        end = is.end;
        after = spent_more entry older once is.hash is.connected.kept ∙ is.after;
      }

  -- the branch that was tried last stays over another ledger, or the tip that was left is that branch
  pub stays_side_branch : (undos : List (Option (List CoinChange))) (undo : Option (List CoinChange)) (before after : Unspent) (side_branch new : SideBranch) → IsSideBranch older undos before side_branch → new.end ≡ side_branch.end → changed after new.overlay ≡ changed before side_branch.overlay
      → IsSideBranch (entry ∷ older) (undos ++ undo ∷ []) after new
  unfolding connected_more
  stays_side_branch undos undo before after side_branch new is end over =
      record {
        hash = is.hash;
        connected = connected_more undos undo is.hash is.connected;
        end = is.end ∙ sym end;
        after = spent_more entry older once is.hash is.connected.kept ∙ is.after ∙ ap Ok (sym over);
      }

  pub left_side_branch : (path : List ℕ) (undos : List (Option (List CoinChange))) (undo : Option (List CoinChange)) (before after : Unspent) (new : SideBranch) → path ≡ active_places older → unspent_after older (best older) ≡ Ok before
      → WasConnected older undos (best older) → slice_get path (length path - 1) ≡ Some new.end → changed after new.overlay ≡ before → IsSideBranch (entry ∷ older) (undos ++ undo ∷ []) after new
  unfolding connected_more
  left_side_branch path undos undo before after new places spent tip end over =
      let last = tip_last older path places in
      let here : last.place ≡ tip.place = same_Some last.place tip.place (sym last.known ∙ tip.at) in
      record {
        hash = best older;
        connected = connected_more undos undo (best older) tip;
        end = sym here ∙ sym (last.last 0) ∙ get_or_from_slice_get path (length path - 1) new.end 0 end;
        after = spent_more entry older once (best older) tip.kept ∙ spent ∙ ap Ok (sym over);
      }

side_branches_more : (entry : Entry) (older : Tree) (undos : List (Option (List CoinChange))) (undo : Option (List CoinChange)) (unspent : Unspent) (side_branch : Option SideBranch) → is_kept older (block_hash entry.header) ≡ false
    → IfSome side_branch (IsSideBranch older undos unspent) → IfSome side_branch (IsSideBranch (entry ∷ older) (undos ++ undo ∷ []) unspent)
side_branches_more entry older undos undo unspent None once is = tt
side_branches_more entry older undos undo unspent (Some side_branch) once is = side_branch_more entry older once undos undo unspent side_branch is

no_record : (entry : Entry) (older : Tree) (undos : List (Option (List CoinChange))) (undo : Option (List CoinChange)) → undo ≡ None
    → (changes : List CoinChange) → undo ≡ Some changes → IsUndo (entry ∷ older) (undos ++ undo ∷ []) (block_hash entry.header) changes
no_record entry older undos undo none changes is = absurd (let clash : None ≡ Some changes = sym none ∙ is in cc)

-- the tip stays, and the entry has no record
pub chain_aside : (entry : Entry) (older : Tree) (path : List ℕ) (undos : List (Option (List CoinChange))) (unspent : Unspent) (side_branch : Option SideBranch) → is_kept older (block_hash entry.header) ≡ false
    → best (entry ∷ older) ≡ best older → IsChain older path undos unspent side_branch → IsChain (entry ∷ older) path (undos ++ None ∷ []) unspent side_branch
chain_aside entry older path undos unspent side_branch once stays is =
    let tip = best older in
    let steps = sym (climb_aside entry older stays (other entry older once tip is.tip.kept)) in
    record {
      places = is.places ∙ ap (λ (ss : List Step). 0 ∷ map (λ step. step.place) ss) steps;
      ledger = ap (unspent_after (entry ∷ older)) stays ∙ spent_more entry older once tip is.tip.kept ∙ is.ledger;
      undos_are = undos_more entry older once undos None is.undos_are (no_record entry older undos None refl);
      tip = subst (WasConnected (entry ∷ older) (undos ++ None ∷ [])) (sym stays) (connected_more entry older once undos None tip is.tip);
      side_branch_is = side_branches_more entry older undos None unspent side_branch once is.side_branch_is;
    }

-- a chain at rest with one block index more, whose room was made before
pub grows_chain : (block_indexes roomy more : List BlockIndex) (tree : Tree) (block_index : BlockIndex) (path : List ℕ) (undos roomy_undos more_undos : List (Option (List CoinChange))) (unspent : Unspent) (side_branch : Option SideBranch) → Grows block_indexes roomy tree block_index
    → more ≡ roomy ++ block_index ∷ [] → roomy_undos ≡ undos → more_undos ≡ roomy_undos ++ None ∷ [] → best (entry_from block_index ∷ tree) ≡ best tree
    → IsChain (tree_of block_indexes) path undos unspent side_branch → IsChain (tree_of more) path more_undos unspent side_branch
grows_chain block_indexes roomy more tree block_index path undos roomy_undos more_undos unspent side_branch g grown same_undos grown_undos stays chain =
    let here : IsChain tree path undos unspent side_branch = subst (λ (t : Tree). IsChain t path undos unspent side_branch) g.view chain in
    let once : is_kept tree (block_hash block_index.header) ≡ false = named_once block_index tree g.one in
    let next : IsChain (entry_from block_index ∷ tree) path (undos ++ None ∷ []) unspent side_branch = chain_aside (entry_from block_index) tree path undos unspent side_branch once stays here in
    let undos_are : undos ++ None ∷ [] ≡ more_undos = sym (grown_undos ∙ ap (λ (us : List (Option (List CoinChange))). us ++ None ∷ []) same_undos) in
    subst (λ (t : Tree). IsChain t path more_undos unspent side_branch) (sym (grows_tree block_indexes roomy more tree block_index g grown))
    (subst (λ (us : List (Option (List CoinChange))). IsChain (entry_from block_index ∷ tree) path us unspent side_branch) undos_are next)

-- ---- marks

prev_step : (t b : Bool) (entry : Entry) (o p : Option Entry) → option_map (λ (e : Entry). e.header.prev) p ≡ option_map (λ (e : Entry). e.header.prev) o
    → option_map (λ (e : Entry). e.header.prev) (cond t (Some (with_mark b entry)) p) ≡ option_map (λ (e : Entry). e.header.prev) (cond t (Some entry) o)
prev_step true true entry o p like = refl
prev_step true false entry o p like = refl
prev_step false b entry o p like = like

marks_keep_prev : (first : Hash256) (tree : Tree) (hash : Hash256) → prev_of (marked_above first tree) hash ≡ prev_of tree hash
marks_keep_prev first [] hash = refl
marks_keep_prev first (entry ∷ older) hash =
    let b = is_some entry.block && leads_through (entry ∷ older) first (block_hash entry.header) in
    let prev : Entry → Hash256 = λ e. e.header.prev in
    ap (λ (header : Header). option_map prev (cond (same hash (block_hash header)) (Some (with_mark b entry)) (entry_of (marked_above first older) hash))) (mark_header b entry)
    ∙ prev_step (same hash (block_hash entry.header)) b entry (entry_of older hash) (entry_of (marked_above first older) hash) (marks_keep_prev first older hash)

pub connected_marked : (first : Hash256) (tree : Tree) (undos : List (Option (List CoinChange))) (hash : Hash256) → WasConnected tree undos hash → WasConnected (marked_above first tree) undos hash
connected_marked first tree undos hash is =
    record { place = is.place; at = marks_keep_place first tree hash ∙ is.at; kept = marks_keep_kept first tree hash ∙ is.kept; has = is.has }

pub undos_marked : (first : Hash256) (tree : Tree) (undos : List (Option (List CoinChange))) → AreUndos tree undos → AreUndos (marked_above first tree) undos
undos_marked first tree undos are =
    record {
      long = are.long ∙ ap suc (sym (marks_keep_length first tree));
      each = λ hash place changes at has.
          let is = are.each hash place changes (sym (marks_keep_place first tree hash) ∙ at) has in
          record {
            kept = marks_keep_kept first tree hash ∙ is.kept;
            prev = is.prev;
            prev_is = marks_keep_prev first tree hash ∙ is.prev_is;
            back = λ u e. marks_keep_unspent first tree is.prev ∙ is.back u (sym (marks_keep_unspent first tree hash) ∙ e);
            below = connected_marked first tree undos is.prev is.below;
          };
    }

pub side_branch_marked : (first : Hash256) (tree : Tree) (undos : List (Option (List CoinChange))) (unspent : Unspent) (side_branch : SideBranch) → IsSideBranch tree undos unspent side_branch → IsSideBranch (marked_above first tree) undos unspent side_branch
unfolding connected_marked
side_branch_marked first tree undos unspent side_branch is =
    record { hash = is.hash; connected = connected_marked first tree undos is.hash is.connected; end = is.end; after = marks_keep_unspent first tree is.hash ∙ is.after }

side_branches_marked : (first : Hash256) (tree : Tree) (undos : List (Option (List CoinChange))) (unspent : Unspent) (side_branch : Option SideBranch) → IfSome side_branch (IsSideBranch tree undos unspent) → IfSome side_branch (IsSideBranch (marked_above first tree) undos unspent)
side_branches_marked first tree undos unspent None is = tt
side_branches_marked first tree undos unspent (Some side_branch) is = side_branch_marked first tree undos unspent side_branch is

-- a chain whose blocks are marked
pub chain_marked : (first : Hash256) (tree : Tree) (path : List ℕ) (undos : List (Option (List CoinChange))) (unspent : Unspent) (side_branch : Option SideBranch) → IsChain tree path undos unspent side_branch
    → IsChain (marked_above first tree) path undos unspent side_branch
chain_marked first tree path undos unspent side_branch is =
    let tip = marks_keep_best first tree in
    record {
      places = is.places ∙ sym (marks_keep_active_places first tree);
      ledger = ap (unspent_after (marked_above first tree)) tip ∙ marks_keep_unspent first tree (best tree) ∙ is.ledger;
      undos_are = undos_marked first tree undos is.undos_are;
      tip = subst (WasConnected (marked_above first tree) undos) (sym tip) (connected_marked first tree undos (best tree) is.tip);
      side_branch_is = side_branches_marked first tree undos unspent side_branch is.side_branch_is;
    }

-- ---- one record more

-- a place has one hash
pub place_one : (tree : Tree) (one other : Hash256) (place : ℕ) → place_of tree one ≡ Some place → place_of tree other ≡ Some place → one ≡ other
place_one [] one other place at there =
    elim (chosen (same one genesis_hash) 0 None place at) [
      | inl w ↦
          elim (chosen (same other genesis_hash) 0 None place there) [
            | inl v ↦ same-true one genesis_hash w.0 ∙ sym (same-true other genesis_hash v.0)
            | inr v ↦ absurd (let none : None ≡ Some place = v.1 in cc)
          ]
      | inr w ↦ absurd (let none : None ≡ Some place = w.1 in cc)
    ]
place_one (entry ∷ older) one other place at there =
    let last = block_hash entry.header in
    elim (chosen (same one last) (suc (length older)) (place_of older one) place at) [
      | inl w ↦
          elim (chosen (same other last) (suc (length older)) (place_of older other) place there) [
            | inl v ↦ same-true one last w.0 ∙ sym (same-true other last v.0)
            | inr v ↦ absurd (omega (arith, w.1, place_low older other place v.1))
          ]
      | inr w ↦
          elim (chosen (same other last) (suc (length older)) (place_of older other) place there) [
            | inl v ↦ absurd (omega (arith, v.1, place_low older one place w.1))
            | inr v ↦ place_one older one other place w.1 v.1
          ]
    ]

pub record_set : (undos : List (Option (List CoinChange))) (place : ℕ) (changes : List CoinChange) (p : ℕ) → place < length undos → record_at (set undos place (Some changes)) p ≡ cond (nat_eq p place) (Some changes) (record_at undos p)
record_set undos place changes p lt =
    ap (option_and_then (λ (o : Option (List CoinChange)). o)) (get_set undos place (Some changes) p lt)
    ∙ elim (cases_Bool (nat_eq p place)) [ inl is ↦ rw is refl | inr isnt ↦ rw isnt refl ]

pub has_still : (undos : List (Option (List CoinChange))) (place : ℕ) (changes : List CoinChange) (p : ℕ) → place < length undos → HasRecord undos p → HasRecord (set undos place (Some changes)) p
has_still undos place changes p lt has =
    elim (cases_Bool (nat_eq p place)) [
      | inl is ↦ (changes, record_set undos place changes p lt ∙ rw is refl)
      | inr isnt ↦ (has.0, record_set undos place changes p lt ∙ rw isnt has.1)
    ]

pub connected_still : (tree : Tree) (undos : List (Option (List CoinChange))) (place : ℕ) (changes : List CoinChange) (hash : Hash256) → place < length undos → WasConnected tree undos hash → WasConnected tree (set undos place (Some changes)) hash
connected_still tree undos place changes hash lt is =
    record { place = is.place; at = is.at; kept = is.kept; has = elim is.has [ inl first ↦ inl first | inr has ↦ inr (has_still undos place changes is.place lt has) ] }

undo_still : (tree : Tree) (undos : List (Option (List CoinChange))) (place : ℕ) (changes : List CoinChange) (hash : Hash256) (others : List CoinChange) → place < length undos → IsUndo tree undos hash others
    → IsUndo tree (set undos place (Some changes)) hash others
undo_still tree undos place changes hash others lt is =
    record { kept = is.kept; prev = is.prev; prev_is = is.prev_is; back = is.back; below = connected_still tree undos place changes is.prev lt is.below }

pub undos_noted : (tree : Tree) (undos : List (Option (List CoinChange))) (hash : Hash256) (place : ℕ) (changes : List CoinChange) → AreUndos tree undos → place_of tree hash ≡ Some place
    → IsUndo tree undos hash changes → AreUndos tree (set undos place (Some changes))
undos_noted tree undos hash place changes are at is =
    let low : place < length undos = omega (arith, place_low tree hash place at, are.long) in
    record {
      long = length-set undos place (Some changes) ∙ are.long;
      each = λ other p others there has.
          let stands : cond (nat_eq p place) (Some changes) (record_at undos p) ≡ Some others = sym (record_set undos place changes p low) ∙ has in
          elim (cases_Bool (nat_eq p place)) [
            | inl same_place ↦
                let p_is : p ≡ place = eq_true p place same_place in
                let name : hash ≡ other = place_one tree hash other place at (there ∙ ap Some p_is) in
                let one : changes ≡ others = same_Some changes others (sym (ap (λ (b : Bool). cond b (Some changes) (record_at undos p)) same_place) ∙ stands) in
                undo_still tree undos place changes other others low (subst (λ (cs : List CoinChange). IsUndo tree undos other cs) one (subst (λ (h : Hash256). IsUndo tree undos h changes) name is))
            | inr elsewhere ↦
                let before : record_at undos p ≡ Some others = sym (ap (λ (b : Bool). cond b (Some changes) (record_at undos p)) elsewhere) ∙ stands in
                undo_still tree undos place changes other others low (are.each other p others there before)
          ];
    }
