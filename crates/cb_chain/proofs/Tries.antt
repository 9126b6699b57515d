-- A branch that is tried: its last block taken back, the next one connected, and where its path stops.
use Rattle.std.proofs.Common.{◌≡◌, ℕ, suc, ◌+◌, ◌-◌, ◌<◌, ◌≤◌, Bool, true, cond, List, [], ◌∷◌, ◌++◌, length, get_or, take, Some, None, Option, refl, sym, ap, subst, ◌∙◌, arith, inl, inr}
use Rattle.std.specs.Prelude.{is_some, nat_eq, option_map, reverse, slice_get, Ok, Err, Result}
use Rattle.std.proofs.lemmas.Bool.Decides.{nat_tests}
use Rattle.std.proofs.lemmas.List.{take_more}
use Rattle.std.proofs.lemmas.Option.{same_Some}
use Rattle.std.proofs.Math.ListN.{set}
use Rattle.cb_base.specs.declared.fault.Fault.{Fault}
use Rattle.cb_base.specs.declared.hash.Hash256.{Hash256}
use Rattle.cb_block.specs.declared.block.Block.{Block}
use Rattle.cb_ledger.specs.declared.undo.CoinChange.{CoinChange}
use Rattle.cb_ledger.specs.Spend.{spend}
use Rattle.cb_ledger.specs.Undo.{LeadsBack, changed}
use Rattle.cb_ledger.specs.Unspent.{Unspent}
use Rattle.cb_chain.specs.Marking.{BlockIndex}
use Rattle.cb_chain.specs.declared.side_branch.SideBranch.{SideBranch}
use Rattle.cb_chain.specs.Best.{Stop, faulty, spend_block, stopped_at, then_spend, unspent_after}
use Rattle.cb_chain.specs.Entries.{Entry, Tree, block_hash}
use Rattle.cb_chain.specs.Keeping.{Grown, IsTree, Step, entry_from, place_of, tree_of}
use Rattle.cb_chain.specs.SideBranches.{AreUndos, FailsAt, HasRecord, IsKeptPlace, IsSideBranch, IsUndo, KeepRecords, LeadUp, StandsOn, StopsBelow, WasConnected, prev_of, record_at}
use Rattle.cb_chain.proofs.Places.{place_low}
use Rattle.cb_chain.proofs.BlockIndexes.{found, length_tree, reverse_push}
use Rattle.cb_chain.proofs.Parents.{HasParent, has_parent}
use Rattle.cb_chain.proofs.Undos.{has_still, place_one, record_set, undos_noted}
use Rattle.cb_chain.proofs.PathsDown.{IsKeptAt, Leads, kept_at, kept_place, leads_at, index_named}

-- ---- a block index and its hash

pub side_branch_place : (tree : Tree) (undos : List (Option (List CoinChange))) (unspent : Unspent) (side_branch : SideBranch) → (is : IsSideBranch tree undos unspent side_branch) → place_of tree is.hash ≡ Some side_branch.end
side_branch_place tree undos unspent side_branch is = is.connected.at ∙ ap Some is.end

pub side_branch_low : (tree : Tree) (undos : List (Option (List CoinChange))) (unspent : Unspent) (side_branch : SideBranch) → IsSideBranch tree undos unspent side_branch → side_branch.end < suc (length tree)
side_branch_low tree undos unspent side_branch is = place_low tree is.hash side_branch.end (side_branch_place tree undos unspent side_branch is)

prev_at : (block_indexes : List BlockIndex) (hash : Hash256) (place : ℕ) (block_index : BlockIndex) → IsTree block_indexes → place_of (tree_of block_indexes) hash ≡ Some place → slice_get block_indexes place ≡ Some block_index → prev_of (tree_of block_indexes) hash ≡ Some block_index.header.prev
prev_at block_indexes hash place block_index is there at =
    let f = found block_indexes hash place is there in
    ap (option_map (λ (e : Entry). e.header.prev)) f.entry ∙ ap (λ (n : BlockIndex). Some n.header.prev) (same_Some f.block_index block_index (sym f.at ∙ at))

named_at : (block_indexes : List BlockIndex) (hash : Hash256) (place : ℕ) (block_index : BlockIndex) → IsTree block_indexes → place_of (tree_of block_indexes) hash ≡ Some place → slice_get block_indexes place ≡ Some block_index → block_index.hash ≡ hash
named_at block_indexes hash place block_index is there at =
    let f = found block_indexes hash place is there in
    ap (λ (n : BlockIndex). n.hash) (same_Some block_index f.block_index (sym at ∙ f.at)) ∙ f.name

same_kept : (block_indexes : List BlockIndex) (place : ℕ) (block_index : BlockIndex) → slice_get block_indexes place ≡ Some block_index → IsKeptAt block_indexes place → is_some block_index.kept ≡ true
same_kept block_indexes place block_index at k = ap (λ (n : BlockIndex). is_some n.kept) (same_Some block_index k.block_index (sym at ∙ k.at)) ∙ k.kept

-- ---- the last block is taken back

-- above the first block there is a record
pub no_record : (tree : Tree) (undos : List (Option (List CoinChange))) (unspent : Unspent) (side_branch : SideBranch) → IsSideBranch tree undos unspent side_branch → 0 < side_branch.end → record_at undos side_branch.end ≡ None → ⊥
no_record tree undos unspent side_branch is some none =
    elim is.connected.has [
      | inl first ↦ omega (arith, some, first, is.end)
      | inr has ↦ let clash : None ≡ Some has.0 = sym none ∙ ap (record_at undos) (sym is.end) ∙ has.1 in cc
    ]

pub lowered : (block_indexes : List BlockIndex) (undos : List (Option (List CoinChange))) (unspent : Unspent) (old new : SideBranch) (block_index : BlockIndex) (changes : List CoinChange) → IsTree block_indexes → AreUndos (tree_of block_indexes) undos
    → slice_get block_indexes old.end ≡ Some block_index → 0 < old.end → record_at undos old.end ≡ Some changes → new.end ≡ block_index.parent
    → ((u : Unspent) → changed u new.overlay ≡ changed (changed u old.overlay) changes) → IsSideBranch (tree_of block_indexes) undos unspent old → IsSideBranch (tree_of block_indexes) undos unspent new
lowered block_indexes undos unspent old new block_index changes is are at some has end_is over side_branch =
    let tree = tree_of block_indexes in
    let place = side_branch_place tree undos unspent old side_branch in
    let undo = are.each side_branch.hash old.end changes place has in
    let kept = same_kept block_indexes old.end block_index at (kept_at block_indexes side_branch.hash old.end is place side_branch.connected.kept) in
    let up = has_parent block_indexes old.end block_index is at some kept in
    let named : undo.prev ≡ block_index.header.prev = same_Some undo.prev block_index.header.prev (sym undo.prev_is ∙ prev_at block_indexes side_branch.hash old.end block_index is place at) in
    record {
      hash = undo.prev;
      connected = undo.below;
      end = same_Some undo.below.place block_index.parent (sym undo.below.at ∙ ap (place_of tree) named ∙ up.parent_at) ∙ sym end_is;
      after = undo.back (changed unspent old.overlay) side_branch.after ∙ ap Ok (sym (over unspent));
    }

-- the parent of the last block stands before it
pub lowers : (block_indexes : List BlockIndex) (undos : List (Option (List CoinChange))) (unspent : Unspent) (side_branch : SideBranch) (block_index : BlockIndex) → IsTree block_indexes → IsSideBranch (tree_of block_indexes) undos unspent side_branch → slice_get block_indexes side_branch.end ≡ Some block_index → 0 < side_branch.end
    → block_index.parent < side_branch.end
lowers block_indexes undos unspent side_branch block_index is s at some =
    let tree = tree_of block_indexes in
    (has_parent block_indexes side_branch.end block_index is at some (same_kept block_indexes side_branch.end block_index at (kept_at block_indexes s.hash side_branch.end is (side_branch_place tree undos unspent side_branch s) s.connected.kept))).low

-- changes that lead alike
pub side_branch_like : (tree : Tree) (undos : List (Option (List CoinChange))) (unspent : Unspent) (old new : SideBranch) → new.end ≡ old.end → changed unspent new.overlay ≡ changed unspent old.overlay → IsSideBranch tree undos unspent old → IsSideBranch tree undos unspent new
side_branch_like tree undos unspent old new end_is like side_branch =
    record { hash = side_branch.hash; connected = side_branch.connected; end = side_branch.end ∙ sym end_is; after = side_branch.after ∙ ap Ok (sym like) }

-- ---- the next block is connected

record_here : (undos : List (Option (List CoinChange))) (place : ℕ) (changes : List CoinChange) → place < length undos → record_at (set undos place (Some changes)) place ≡ Some changes
record_here undos place changes lt =
    let here : nat_eq place place ≡ true = grind (arith, nat_tests) in
    record_set undos place changes place lt ∙ ap (λ (b : Bool). cond b (Some changes) (record_at undos place)) here

-- there is a place for its record
pub noted_low : (block_indexes : List BlockIndex) (undos : List (Option (List CoinChange))) (below place : ℕ) → IsTree block_indexes → AreUndos (tree_of block_indexes) undos → StandsOn block_indexes below place → place < length undos
noted_low block_indexes undos below place is are next =
    omega (arith, place_low (tree_of block_indexes) next.block_index.hash place (kept_place block_indexes next.block_index place is next.at next.kept), are.long)

-- the last block is the parent of one that stands on it
on_last : (block_indexes : List BlockIndex) (undos : List (Option (List CoinChange))) (unspent : Unspent) (side_branch : SideBranch) (place : ℕ) (block_index : BlockIndex) → (s : IsSideBranch (tree_of block_indexes) undos unspent side_branch) → HasParent (tree_of block_indexes) place block_index
    → block_index.parent ≡ side_branch.end → block_index.header.prev ≡ s.hash
on_last block_indexes undos unspent side_branch place block_index s up parent =
    let tree = tree_of block_indexes in
    place_one tree block_index.header.prev s.hash side_branch.end (up.parent_at ∙ ap Some parent) (side_branch_place tree undos unspent side_branch s)

-- its own path, where it can be spent behind the last block's or can't
spent_next : (block_indexes : List BlockIndex) (undos : List (Option (List CoinChange))) (unspent : Unspent) (side_branch : SideBranch) (place : ℕ) (block_index : BlockIndex) (block : Block) → (s : IsSideBranch (tree_of block_indexes) undos unspent side_branch) → HasParent (tree_of block_indexes) place block_index
    → block_index.parent ≡ side_branch.end → block_index.kept ≡ Some block
    → unspent_after (tree_of block_indexes) block_index.hash ≡ stopped_at (block_hash block_index.header) (spend (changed unspent side_branch.overlay) block.txs)
spent_next block_indexes undos unspent side_branch place block_index block s up parent kept =
    let tree = tree_of block_indexes in
    let below : unspent_after tree block_index.header.prev ≡ Ok (changed unspent side_branch.overlay) = ap (unspent_after tree) (on_last block_indexes undos unspent side_branch place block_index s up parent) ∙ s.after in
    up.spent ∙ ap (then_spend (entry_from block_index)) below ∙ ap (λ (o : Option Block). spend_block (block_hash block_index.header) o (changed unspent side_branch.overlay)) kept

pub record IsRaised (tree : Tree) (undos : List (Option (List CoinChange))) (unspent : Unspent) (side_branch : SideBranch) : Type 0 where
  pub undos_are : AreUndos tree undos
  pub side_branch_is : IsSideBranch tree undos unspent side_branch

pub raised : (block_indexes now : List BlockIndex) (undos now_undos : List (Option (List CoinChange))) (unspent : Unspent) (old new : SideBranch) (place : ℕ) (block_index : BlockIndex) (block : Block) (changes : List CoinChange) → IsTree block_indexes → AreUndos (tree_of block_indexes) undos
    → IsSideBranch (tree_of block_indexes) undos unspent old → StandsOn block_indexes old.end place → slice_get block_indexes place ≡ Some block_index → block_index.kept ≡ Some block
    → LeadsBack changes block.txs (changed unspent old.overlay) (changed unspent new.overlay) → new.end ≡ place → now ≡ block_indexes → now_undos ≡ set undos place (Some changes) → IsRaised (tree_of now) now_undos unspent new
raised block_indexes now undos now_undos unspent old new place block_index block changes is are side_branch next at kept leads end_is stays undos_is =
    let tree = tree_of block_indexes in
    let one : next.block_index ≡ block_index = same_Some next.block_index block_index (sym next.at ∙ at) in
    let parent : block_index.parent ≡ old.end = ap (λ (n : BlockIndex). n.parent) (sym one) ∙ next.parent in
    let there : is_some block_index.kept ≡ true = ap is_some kept in
    let up = has_parent block_indexes place block_index is at (omega (arith, next.above)) there in
    let before = changed unspent old.overlay in
    let after = changed unspent new.overlay in
    let prev = block_index.header.prev in
    let own : place_of tree block_index.hash ≡ Some place = kept_place block_indexes block_index place is at there in
    let low : place < length undos = omega (arith, place_low tree block_index.hash place own, are.long) in
    let last : prev ≡ side_branch.hash = on_last block_indexes undos unspent old place block_index side_branch up parent in
    let below : unspent_after tree prev ≡ Ok before = ap (unspent_after tree) last ∙ side_branch.after in
    let spent : unspent_after tree block_index.hash ≡ Ok after = spent_next block_indexes undos unspent old place block_index block side_branch up parent kept ∙ ap (stopped_at (block_hash block_index.header)) leads.spent in
    let connected : WasConnected tree undos prev = subst (WasConnected tree undos) (sym last) side_branch.connected in
    let undo : IsUndo tree undos block_index.hash changes =
    record {
      kept = up.kept;
      prev = prev;
      prev_is = prev_at block_indexes block_index.hash place block_index is own at;
      back = λ u e.
          let here : Ok u ≡ Ok after = sym e ∙ spent in
          let u_is : u ≡ after = cc in
          below ∙ ap Ok (sym leads.back ∙ ap (λ (v : Unspent). changed v changes) (sym u_is));
      below = connected;
    }
    in
    let raised_is : IsRaised tree (set undos place (Some changes)) unspent new =
    record {
      undos_are = undos_noted tree undos block_index.hash place changes are own undo;
      side_branch_is = record {
        hash = block_index.hash;
        connected = record { place = place; at = own; kept = up.kept; has = inr (changes, record_here undos place changes low) };
        end = sym end_is;
        after = spent;
      };
    }
    in
    subst (λ (ns : List BlockIndex). IsRaised (tree_of ns) now_undos unspent new) (sym stays) (subst (λ (us : List (Option (List CoinChange))). IsRaised tree us unspent new) (sym undos_is) raised_is)

-- no record is lost
pub noted_keeps : (block_indexes : List BlockIndex) (undos now_undos : List (Option (List CoinChange))) (end place : ℕ) (changes : List CoinChange) → IsTree block_indexes → AreUndos (tree_of block_indexes) undos → StandsOn block_indexes end place → now_undos ≡ set undos place (Some changes)
    → KeepRecords undos now_undos
noted_keeps block_indexes undos now_undos end place changes is are next undos_is = λ p has.
    subst (λ (us : List (Option (List CoinChange))). HasRecord us p) (sym undos_is) (has_still undos place changes p (noted_low block_indexes undos end place is are next) has)

-- it can't be spent
pub fails : (block_indexes : List BlockIndex) (undos : List (Option (List CoinChange))) (unspent : Unspent) (side_branch : SideBranch) (place : ℕ) (block_index : BlockIndex) (block : Block) (fault : Fault) → IsTree block_indexes → IsSideBranch (tree_of block_indexes) undos unspent side_branch
    → StandsOn block_indexes side_branch.end place → slice_get block_indexes place ≡ Some block_index → block_index.kept ≡ Some block → spend (changed unspent side_branch.overlay) block.txs ≡ Err fault → FailsAt block_indexes place fault
fails block_indexes undos unspent side_branch place block_index block fault is s next at kept failed = λ other there.
    let one : next.block_index ≡ block_index = same_Some next.block_index block_index (sym next.at ∙ at) in
    let parent : block_index.parent ≡ side_branch.end = ap (λ (n : BlockIndex). n.parent) (sym one) ∙ next.parent in
    let up = has_parent block_indexes place block_index is at (omega (arith, next.above)) (ap is_some kept) in
    let stop : Hash256 → Result Unspent Stop = λ hash. Err (faulty hash fault) in
    let here : unspent_after (tree_of block_indexes) block_index.hash ≡ Err (faulty block_index.hash fault) =
    spent_next block_indexes undos unspent side_branch place block_index block s up parent kept ∙ ap (stopped_at (block_hash block_index.header)) failed ∙ ap stop (sym (index_named block_indexes place block_index is at)) in
    subst (λ (n : BlockIndex). unspent_after (tree_of block_indexes) n.hash ≡ Err (faulty n.hash fault)) (same_Some block_index other (sym at ∙ there)) here

-- ---- where the path stops

stops_up : (block_indexes : List BlockIndex) (place : ℕ) (places : List ℕ) (top : ℕ) (first block_index : BlockIndex) (stop : Stop) → IsTree block_indexes → slice_get block_indexes place ≡ Some first → unspent_after (tree_of block_indexes) first.hash ≡ Err stop → LeadUp block_indexes place places top
    → slice_get block_indexes top ≡ Some block_index → unspent_after (tree_of block_indexes) block_index.hash ≡ Err stop
stops_up block_indexes place [] top first block_index stop is at failed up there =
    let one : first ≡ block_index = same_Some first block_index (sym at ∙ ap (slice_get block_indexes) up ∙ there) in
    subst (λ (n : BlockIndex). unspent_after (tree_of block_indexes) n.hash ≡ Err stop) one failed
stops_up block_indexes place (next ∷ places) top first block_index stop is at failed up there =
    let tree = tree_of block_indexes in
    let on = up.0 in
    let parent = has_parent block_indexes next on.block_index is on.at (omega (arith, on.above)) on.kept in
    let named : first.hash ≡ on.block_index.header.prev = named_at block_indexes on.block_index.header.prev place first is (parent.parent_at ∙ ap Some on.parent) at in
    let below : unspent_after tree on.block_index.header.prev ≡ Err stop = ap (unspent_after tree) (sym named) ∙ failed in
    stops_up block_indexes next places top on.block_index block_index stop is on.at (parent.spent ∙ ap (then_spend (entry_from on.block_index)) below) up.1 there

pub stops_below : (block_indexes : List BlockIndex) (below place : ℕ) (places : List ℕ) (target : ℕ) (fault : Fault) → IsTree block_indexes → LeadUp block_indexes below (place ∷ places) target → FailsAt block_indexes place fault → StopsBelow block_indexes target place fault
stops_below block_indexes below place places target fault is up failed =
    record {
      first = up.0.block_index;
      at = up.0.at;
      kept = up.0.kept;
      above = omega (arith, up.0.above);
      stops = λ block_index there. stops_up block_indexes place places target up.0.block_index block_index (faulty up.0.block_index.hash fault) is up.0.at (failed up.0.block_index up.0.at) up.1 there;
    }

-- ---- places in turn

pub kept_low : (block_indexes : List BlockIndex) (place : ℕ) → IsTree block_indexes → IsKeptPlace block_indexes place → place < length block_indexes
kept_low block_indexes place is k = omega (arith, length_tree block_indexes is, place_low (tree_of block_indexes) k.hash place k.at)

low_by : (block_indexes : List BlockIndex) (place : ℕ) (block_index : BlockIndex) (steps : List Step) → Leads block_indexes place steps → 0 < place → slice_get block_indexes place ≡ Some block_index → block_index.parent < place
low_by block_indexes place block_index [] w some at = absurd (omega (arith, w.zero, some))
low_by block_indexes place block_index (step ∷ steps) w some at = omega (arith, w.0.parent, ap (λ (n : BlockIndex). n.parent) (same_Some w.0.block_index block_index (sym w.0.at ∙ at)))

-- the parent of each block index stands before it
pub parent_low : (block_indexes : List BlockIndex) (place : ℕ) (block_index : BlockIndex) → IsTree block_indexes → place < length block_indexes → 0 < place → slice_get block_indexes place ≡ Some block_index → block_index.parent < place
parent_low block_indexes place block_index is lt some at =
    let down = leads_at block_indexes place is lt in
    low_by block_indexes place block_index down.0 down.1 some at

pub stands_on : (block_indexes : List BlockIndex) (place : ℕ) (block_index : BlockIndex) → IsTree block_indexes → IsKeptPlace block_indexes place → 0 < place → slice_get block_indexes place ≡ Some block_index → StandsOn block_indexes block_index.parent place × IsKeptPlace block_indexes block_index.parent
stands_on block_indexes place block_index is k some at =
    let kept = same_kept block_indexes place block_index at (kept_at block_indexes k.hash place is k.at k.kept) in
    let up = has_parent block_indexes place block_index is at some kept in
    (record { block_index = block_index; at = at; kept = kept; parent = refl; above = up.low }, record { hash = block_index.header.prev; at = up.parent_at; kept = up.parent_kept })

pub lead_more : (block_indexes : List BlockIndex) (below place : ℕ) (down more : List ℕ) (target : ℕ) → more ≡ down ++ place ∷ [] → StandsOn block_indexes below place → LeadUp block_indexes place (reverse down) target → LeadUp block_indexes below (reverse more) target
lead_more block_indexes below place down more target is on up = subst (λ (ps : List ℕ). LeadUp block_indexes below ps target) (sym (ap reverse is ∙ reverse_push down place)) (on, up)

pub last_first : (down : List ℕ) (left place d : ℕ) → left ≡ suc place → place < length down → reverse (take left down) ≡ get_or down place d ∷ reverse (take place down)
last_first down left place d is lt =
    ap (λ (n : ℕ). reverse (take n down)) (is ∙ (let one : suc place ≡ place + 1 = omega arith in one)) ∙ ap reverse (take_more down place d lt) ∙ reverse_push (take place down) (get_or down place d)

-- the next place on the way up
pub next_up : (block_indexes : List BlockIndex) (below : ℕ) (down : List ℕ) (left place target : ℕ) → 0 < left → left ≤ length down → place ≡ get_or down (left - 1) place → LeadUp block_indexes below (reverse (take left down)) target
    → LeadUp block_indexes below (place ∷ reverse (take (left - 1) down)) target
next_up block_indexes below down left place target some short is up =
    let one : left ≡ suc (left - 1) = omega (arith, some) in
    let low : left - 1 < length down = omega (arith, some, short) in
    let parts : reverse (take left down) ≡ place ∷ reverse (take (left - 1) down) = last_first down left (left - 1) place one low ∙ ap (λ (p : ℕ). p ∷ reverse (take (left - 1) down)) (sym is) in
    subst (λ (ps : List ℕ). LeadUp block_indexes below ps target) parts up

-- on the way up to a block
pub record Reaches (old now : Grown) (unspent : Unspent) (side_branch : SideBranch) (left : ℕ) (down : List ℕ) (target : ℕ) : Type 0 where
  pub block_indexes : now.block_indexes ≡ old.block_indexes
  pub room : now.room ≡ old.room
  pub undos_are : AreUndos (tree_of old.block_indexes) now.undos
  pub records : KeepRecords old.undos now.undos
  pub side_branch_is : IsSideBranch (tree_of old.block_indexes) now.undos unspent side_branch
  pub short : left ≤ length down
  pub up : LeadUp old.block_indexes side_branch.end (reverse (take left down)) target

-- ---- a block that isn't in the tree yet

-- a hash at the last block's place is its hash
pub side_branch_on : (block_indexes now : List BlockIndex) (undos : List (Option (List CoinChange))) (unspent : Unspent) (side_branch : SideBranch) (hash : Hash256) (place : ℕ) → now ≡ block_indexes → IsSideBranch (tree_of now) undos unspent side_branch
    → place_of (tree_of block_indexes) hash ≡ Some place → side_branch.end ≡ place → (unspent_after (tree_of block_indexes) hash ≡ Ok (changed unspent side_branch.overlay)) × WasConnected (tree_of block_indexes) undos hash
side_branch_on block_indexes now undos unspent side_branch hash place stays was at end_is =
    let tree = tree_of block_indexes in
    let is : IsSideBranch tree undos unspent side_branch = subst (λ (ns : List BlockIndex). IsSideBranch (tree_of ns) undos unspent side_branch) stays was in
    let one : is.hash ≡ hash = place_one tree is.hash hash place (side_branch_place tree undos unspent side_branch is ∙ ap Some end_is) at in
    (ap (unspent_after tree) (sym one) ∙ is.after, subst (WasConnected tree undos) one is.connected)
