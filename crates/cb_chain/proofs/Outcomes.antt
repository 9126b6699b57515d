-- What the code leaves of a block that is higher than the tip, and answers: the chain moves, or its path stops.
use Rattle.std.proofs.Common.{◌≡◌, ℕ, ◌<◌, ◌⊎◌, true, false, List, [], ◌∷◌, ◌++◌, length, Some, None, Option, Result, Ok, Err, sym, ap, subst, ◌∙◌, inl, inr}
use Rattle.std.specs.Prelude.{◌≢◌, slice_get, IfSome, IsSome}
use Rattle.cb_base.specs.declared.fault.Fault.{Fault}
use Rattle.cb_base.specs.declared.fault.Fault.TheVariants.{Memory}
use Rattle.cb_block.specs.declared.block.Block.{Block}
use Rattle.cb_block.specs.declared.header.Header.{Header}
use Rattle.cb_ledger.specs.declared.undo.CoinChange.{CoinChange}
use Rattle.cb_ledger.specs.Spend.{spend}
use Rattle.cb_ledger.specs.Undo.{LeadsBack}
use Rattle.cb_ledger.specs.Unspent.{Unspent}
use Rattle.cb_chain.specs.declared.accepting.Spot.{Spot}
use Rattle.cb_chain.specs.Marking.{BlockIndex}
use Rattle.cb_chain.specs.declared.side_branch.SideBranch.{SideBranch}
use Rattle.cb_chain.specs.Best.{best, is_higher, unspent_after}
use Rattle.cb_chain.specs.Calls.{block_entry, block_fault, joined, marked_above}
use Rattle.cb_chain.specs.Entries.{Entry, Tree, block_hash, is_kept}
use Rattle.cb_chain.specs.History.{IsHistoric}
use Rattle.cb_chain.specs.Keeping.{IsIndex, IsSpot, IsTree, block_at, entry_from, index_on, place_of, tree_of}
use Rattle.cb_chain.specs.Laws.{LeadsOver, active_hashes}
use Rattle.cb_chain.specs.Plans.{Moved}
use Rattle.cb_chain.specs.SideBranches.{IsChain, RestsOn, Stops, Tops, WasConnected, here}
use Rattle.cb_chain.proofs.SideBranchIndexes.{block_free, index_of_block}
use Rattle.cb_chain.proofs.Halts.{IsHalted, halted, left}
use Rattle.cb_chain.proofs.Histories.{historic_after, historic_either}
use Rattle.cb_chain.proofs.Ledgers.{chain_led, tops_spent}
use Rattle.cb_chain.proofs.NewTip.{IsAbove, led}
use Rattle.cb_chain.proofs.BlockIndexes.{tree_grown}
use Rattle.cb_chain.proofs.Planning.{Answer}

-- what is known before such a block is connected: the chain, and the block's place in it
pub record IsReady (old : Tree) (block_indexes : List BlockIndex) (spot : Spot) (block : Block) (block_index : BlockIndex) (path : List ℕ) (undos : List (Option (List CoinChange))) (unspent : Unspent) (side_branch : Option SideBranch) : Type 0 where
  pub same : old ≡ tree_of block_indexes
  pub chain : IsChain (tree_of block_indexes) path undos unspent side_branch
  pub above : IsAbove block_indexes block path
  pub header : spot.header ≡ block.header
  pub index_is : IsIndex block_index (tree_of block_indexes)
  pub entry : entry_from block_index ≡ block_entry block
  pub name : block_index.hash ≡ block_hash block.header

abbrev entry_with : Block → Header → Entry
entry_with block header = record { header = header; block = Some block; marked = false }

pub ready : (old : Tree) (before block_indexes : List BlockIndex) (spot : Spot) (block : Block) (block_index : BlockIndex) (path now_path : List ℕ) (undos now_undos : List (Option (List CoinChange))) (unspent : Unspent) (side_branch : Option SideBranch)
    → tree_of before ≡ old → block_indexes ≡ before → IsTree block_indexes → IsChain (tree_of before) path undos unspent side_branch → now_path ≡ path → now_undos ≡ undos → IsSpot spot block.header old → block_fault old block.header ≡ None
    → is_higher (block_entry block ∷ old) (block_hash block.header) (best old) ≡ true → block_index ≡ index_on spot (Some block) false → IsReady old block_indexes spot block block_index now_path now_undos unspent side_branch
ready old before block_indexes spot block block_index path now_path undos now_undos unspent side_branch view same is chain path_is undos_is spot_is none higher index_is =
    let same_tree : old ≡ tree_of block_indexes = sym view ∙ ap tree_of (sym same) in
    let moved : IsChain (tree_of block_indexes) path undos unspent side_branch = subst (λ (ns : List BlockIndex). IsChain (tree_of ns) path undos unspent side_branch) (sym same) chain in
    let with_path : IsChain (tree_of block_indexes) now_path undos unspent side_branch = subst (λ (ps : List ℕ). IsChain (tree_of block_indexes) ps undos unspent side_branch) (sym path_is) moved in
    let with_undos : IsChain (tree_of block_indexes) now_path now_undos unspent side_branch = subst (λ (us : List (Option (List CoinChange))). IsChain (tree_of block_indexes) now_path us unspent side_branch) (sym undos_is) with_path in
    let free = block_free old block.header none in
    record {
      same = same_tree;
      chain = with_undos;
      above = record {
        tree = is;
        places = with_path.places;
        parent = spot.parent;
        known = subst (λ (t : Tree). place_of t block.header.prev ≡ Some spot.parent) same_tree spot_is.parent;
        kept = subst (λ (t : Tree). is_kept t block.header.prev ≡ true) same_tree free.under;
        once = subst (λ (t : Tree). is_kept t (block_hash block.header) ≡ false) same_tree free.once;
        higher = subst (λ (t : Tree). is_higher (block_entry block ∷ t) (block_hash block.header) (best t) ≡ true) same_tree higher;
      };
      header = spot_is.header;
      index_is = subst (λ (n : BlockIndex). IsIndex n (tree_of block_indexes)) (sym index_is) (subst (IsIndex (index_on spot (Some block) false)) same_tree (index_of_block spot block old spot_is none));
      entry = ap entry_from index_is ∙ ap (entry_with block) spot_is.header;
      name = ap (λ (n : BlockIndex). n.hash) index_is ∙ spot_is.hash;
    }

-- a block on the tip
pub tops_tip : (old : Tree) (block_indexes : List BlockIndex) (spot : Spot) (block : Block) (block_index : BlockIndex) (path : List ℕ) (undos : List (Option (List CoinChange))) (unspent : Unspent) (side_branch : Option SideBranch) (changes : List CoinChange) (after : Unspent)
    → IsReady old block_indexes spot block block_index path undos unspent side_branch → block.header.prev ≡ best old → LeadsBack changes block.txs unspent after → Tops (tree_of block_indexes) undos block changes after
tops_tip old block_indexes spot block block_index path undos unspent side_branch changes after is tip leads =
    let here : block.header.prev ≡ best (tree_of block_indexes) = tip ∙ ap best is.same in
    record {
      before = unspent;
      below = ap (unspent_after (tree_of block_indexes)) here ∙ is.chain.ledger;
      leads = leads;
      connected = subst (WasConnected (tree_of block_indexes) undos) (sym here) is.chain.tip;
    }

-- ---- the chain moves

pub record IsEnd (old new : Tree) (block : Block) (change : Answer) (path : List ℕ) (undos : List (Option (List CoinChange))) (unspent : Unspent) (side_branch : Option SideBranch) : Type 0 where
  pub chain : IsChain new path undos unspent side_branch
  pub historic : IsHistoric new
  pub answer : (Ok change, new) ≡ joined old block
  pub over : LeadsOver (active_hashes old) change (active_hashes new)

abbrev kept_ok : Answer → Tree → Result Answer Fault × Tree
kept_ok change tree = (Ok change, tree)

pub moves : (old : Tree) (block_indexes now_indexes : List BlockIndex) (spot : Spot) (block : Block) (block_index : BlockIndex) (path now : List ℕ) (undos tried now_undos : List (Option (List CoinChange))) (unspent after : Unspent) (side_branch last now_side_branch : Option SideBranch) (changes : List CoinChange) (change : Answer)
    → IsReady old block_indexes spot block block_index path undos unspent side_branch → IsChain (tree_of block_indexes) path tried unspent last → IsHistoric (joined old block).1 → Tops (tree_of block_indexes) tried block changes after
    → Moved (tree_of block_indexes) spot.header path (length block_indexes) now change → IfSome now_side_branch (RestsOn path unspent after last) → now_indexes ≡ block_indexes ++ block_index ∷ [] → now_undos ≡ tried ++ Some changes ∷ []
    → IsEnd old (tree_of now_indexes) block change now now_undos after now_side_branch
moves old block_indexes now_indexes spot block block_index path now undos tried now_undos unspent after side_branch last now_side_branch changes change is chain calls tops moved rest indexes_are undos_are =
    let tree = tree_of block_indexes in
    let new = block_entry block ∷ tree in
    let grown : tree_of now_indexes ≡ new = ap tree_of indexes_are ∙ tree_grown block_indexes block_index is.above.tree ∙ ap (λ (e : Entry). e ∷ tree) is.entry in
    let moved_here : Moved tree block.header path (length block_indexes) now change = subst (λ (h : Header). Moved tree h path (length block_indexes) now change) is.header moved in
    let l = led block_indexes block path now after change is.above (tops_spent tree tried block changes after tops) moved_here in
    let first : IsChain new now (tried ++ Some changes ∷ []) after now_side_branch = chain_led tree tried block changes unspent after path now last now_side_branch is.above.once chain tops l.places l.tip rest in
    let second : IsChain new now now_undos after now_side_branch = subst (λ (us : List (Option (List CoinChange))). IsChain new now us after now_side_branch) (sym undos_are) first in
    let answer : kept_ok change (tree_of now_indexes) ≡ joined old block = ap (kept_ok change) grown ∙ l.answer ∙ ap (λ (t : Tree). joined t block) (sym is.same) in
    let over : LeadsOver (active_hashes tree) change (active_hashes (tree_of now_indexes)) = subst (λ (t : Tree). LeadsOver (active_hashes tree) change (active_hashes t)) (sym grown) l.over in
    record {
      chain = subst (λ (t : Tree). IsChain t now now_undos after now_side_branch) (sym grown) second;
      historic = historic_after old (tree_of now_indexes) block (Ok change) calls answer;
      answer = answer;
      over = subst (λ (t : Tree). LeadsOver (active_hashes t) change (active_hashes (tree_of now_indexes))) (sym is.same) over;
    }

-- ---- its path stops

pub record IsStopped (old new : Tree) (block : Block) (fault : Fault) (path : List ℕ) (undos : List (Option (List CoinChange))) (unspent : Unspent) (side_branch : Option SideBranch) : Type 0 where
  pub chain : IsChain new path undos unspent side_branch
  pub historic : IsHistoric new
  pub answer : ((fault ≡ Memory) × (new ≡ old)) ⊎ ((Err fault, new) ≡ joined old block)

abbrev stopped_so : Fault → Tree → Block → Tree → Type 0
stopped_so fault new block old = ((fault ≡ Memory) × (new ≡ old)) ⊎ ((Err fault, new) ≡ joined old block)

-- what marking leaves
abbrev pub MarkedFrom : List BlockIndex → BlockIndex → List (Option (List CoinChange)) → ℕ → Fault → List BlockIndex → List (Option (List CoinChange)) → Type 0
MarkedFrom block_indexes block_index tried place fault now_indexes now_undos =
    ((fault ≡ Memory) × (now_indexes ≡ block_indexes) × (now_undos ≡ tried)) ⊎ ((fault ≢ Memory) × (now_undos ≡ tried ++ None ∷ [])
    × ((first : BlockIndex) → slice_get (block_indexes ++ block_index ∷ []) place ≡ Some first → tree_of now_indexes ≡ marked_above first.hash (tree_of (block_indexes ++ block_index ∷ []))))

-- where it stops
pub why : (old : Tree) (block_indexes : List BlockIndex) (spot : Spot) (block : Block) (block_index : BlockIndex) (path : List ℕ) (undos : List (Option (List CoinChange))) (unspent : Unspent) (side_branch : Option SideBranch) (place : ℕ) (fault : Fault)
    → IsReady old block_indexes spot block block_index path undos unspent side_branch → (fault ≡ Memory) ⊎ Stops block_indexes block place fault → (fault ≡ Memory) ⊎ IsHalted block_indexes block block_index place fault
why old block_indexes spot block block_index path undos unspent side_branch place fault is (inl memory) = inl memory
why old block_indexes spot block block_index path undos unspent side_branch place fault is (inr stop) = inr (halted block_indexes block block_index place fault is.above.tree is.entry is.name stop)

pub stops : (old : Tree) (block_indexes now_indexes : List BlockIndex) (spot : Spot) (block : Block) (block_index : BlockIndex) (path : List ℕ) (undos tried now_undos : List (Option (List CoinChange))) (unspent : Unspent) (side_branch last : Option SideBranch) (place : ℕ) (fault : Fault)
    → IsReady old block_indexes spot block block_index path undos unspent side_branch → IsChain (tree_of block_indexes) path tried unspent last → IsHistoric old → IsHistoric (joined old block).1 → (fault ≡ Memory) ⊎ Stops block_indexes block place fault
    → MarkedFrom block_indexes block_index tried place fault now_indexes now_undos → IsStopped old (tree_of now_indexes) block fault path now_undos unspent last
stops old block_indexes now_indexes spot block block_index path undos tried now_undos unspent side_branch last place fault is chain before calls stop marks =
    let l = left block_indexes now_indexes block block_index path tried now_undos unspent last place fault is.above.tree is.entry is.above.once is.above.higher chain (why old block_indexes spot block block_index path undos unspent side_branch place fault is stop) marks in
    let answer : stopped_so fault (tree_of now_indexes) block old = subst (stopped_so fault (tree_of now_indexes) block) (sym is.same) l.answer in
    record { chain = l.chain; historic = historic_either old (tree_of now_indexes) block fault before calls answer; answer = answer }

-- what marking asks
pub stop_place : (block_indexes : List BlockIndex) (block : Block) (block_index : BlockIndex) (place : ℕ) (fault : Fault) → (fault ≡ Memory) ⊎ IsHalted block_indexes block block_index place fault → (fault ≡ Memory) ⊎ ((0 < place) × IsSome (block_at (block_indexes ++ block_index ∷ []) place))
stop_place block_indexes block block_index place fault (inl memory) = inl memory
stop_place block_indexes block block_index place fault (inr halt) = inr (halt.above, halt.kept)

-- a block on the tip that can't be spent
pub stop_tip : (old : Tree) (block_indexes : List BlockIndex) (spot : Spot) (block : Block) (block_index : BlockIndex) (path : List ℕ) (undos : List (Option (List CoinChange))) (unspent : Unspent) (side_branch : Option SideBranch) (place : ℕ) (fault : Fault)
    → IsReady old block_indexes spot block block_index path undos unspent side_branch → block.header.prev ≡ best old → (fault ≡ Memory) ⊎ (spend unspent block.txs ≡ Err fault) → place ≡ length block_indexes → (fault ≡ Memory) ⊎ Stops block_indexes block place fault
stop_tip old block_indexes spot block block_index path undos unspent side_branch place fault is tip (inl memory) at = inl memory
stop_tip old block_indexes spot block block_index path undos unspent side_branch place fault is tip (inr failed) at =
    inr (here unspent (ap (unspent_after (tree_of block_indexes)) (tip ∙ ap best is.same) ∙ is.chain.ledger) failed at)
