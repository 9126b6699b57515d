-- A block that is higher than the tip and can be spent with its whole path: it is the tip, and so the active chain moves.
use Rattle.std.proofs.Common.{◌≡◌, ℕ, suc, ◌+◌, ◌<◌, ◌≤◌, Bool, true, false, cond, List, [], ◌∷◌, ◌++◌, length, map, take, drop, Some, Option, Result, Ok, Err, refl, sym, ap, subst, ◌∙◌, arith, inl, inr, nat_lt, append_assoc}
use Rattle.std.specs.Prelude.{reverse, option_map, is_ok, unwrap_or, ◌&&◌}
use Rattle.std.proofs.lemmas.Bool.{cases_Bool, ltb-true}
use Rattle.std.proofs.lemmas.List.{length-map, map-append, take-map, drop-map, take-append-drop, reverse-reverse}
use Rattle.cb_base.specs.declared.fault.Fault.{Fault}
use Rattle.cb_base.specs.declared.hash.Hash256.{Hash256}
use Rattle.cb_block.specs.declared.block.Block.{Block}
use Rattle.cb_block.specs.declared.header.Header.{Header}
use Rattle.cb_block.specs.Genesis.{genesis_header}
use Rattle.cb_ledger.specs.Unspent.{Unspent}
use Rattle.cb_chain.specs.Marking.{BlockIndex}
use Rattle.cb_chain.specs.Entries.{Entry, Tree, block_hash, same, height_of, is_kept}
use Rattle.cb_chain.specs.Best.{Stop, active, best, branch, faulty, is_higher, unspent_after}
use Rattle.cb_chain.specs.Calls.{block_entry, change_of, joined, marked_above}
use Rattle.cb_chain.specs.Following.{above_branch}
use Rattle.cb_chain.specs.Keeping.{IsFork, IsTree, Step, active_places, climb, place_of, tree_of, way}
use Rattle.cb_chain.specs.Laws.{LeadsOver, PartAtOnce, active_hashes}
use Rattle.cb_chain.specs.Plans.{Moved, change_at}
use Rattle.cb_chain.proofs.BlockIndexes.{length_tree, reverse_cons, reverse_push, same-refl, same-true}
use Rattle.cb_chain.proofs.Partings.{agree, fork_back, fork_parts}
use Rattle.cb_chain.proofs.Planning.{Answer, changes_same, map_map}
use Rattle.cb_chain.proofs.Steps.{branch_climb, height_climb}
use Rattle.cb_chain.proofs.Tips.{known_best}
use Rattle.cb_chain.proofs.PathsDown.{active_way}

-- ---- one entry more

pub climb_new : (entry : Entry) (older : Tree) → climb (entry ∷ older) (block_hash entry.header) ≡ climb older entry.header.prev ++ record { place = suc (length older); entry = entry } ∷ []
unfolding way
climb_new entry older =
    let step : Step = record { place = suc (length older); entry = entry } in
    rw (same-refl (block_hash entry.header)) (reverse_cons (way older entry.header.prev) step)

pub branch_new : (entry : Entry) (older : Tree) → branch (entry ∷ older) (block_hash entry.header) ≡ entry.header ∷ branch older entry.header.prev
unfolding branch
branch_new entry older = rw (same-refl (block_hash entry.header)) refl

pub height_new : (entry : Entry) (older : Tree) → height_of (entry ∷ older) (block_hash entry.header) ≡ option_map suc (height_of older entry.header.prev)
height_new entry older = rw (same-refl (block_hash entry.header)) refl

pub height_other : (entry : Entry) (older : Tree) (hash : Hash256) → same hash (block_hash entry.header) ≡ false → height_of (entry ∷ older) hash ≡ height_of older hash
height_other entry older hash isnt = rw isnt refl

best_cond : (ok higher : Bool) (hash other : Hash256) → ok ≡ true → higher ≡ true → cond (ok && higher) hash other ≡ hash
best_cond ok higher hash other e f = rw (e, f) refl

best_stays : (ok higher : Bool) (hash other : Hash256) → ok ≡ false → cond (ok && higher) hash other ≡ other
best_stays ok higher hash other e = rw e refl

pub best_new : (entry : Entry) (older : Tree) (u : Unspent) → unspent_after (entry ∷ older) (block_hash entry.header) ≡ Ok u → is_higher (entry ∷ older) (block_hash entry.header) (best older) ≡ true
    → best (entry ∷ older) ≡ block_hash entry.header
unfolding best
best_new entry older u ok higher =
    best_cond (is_ok (unspent_after (entry ∷ older) (block_hash entry.header))) (is_higher (entry ∷ older) (block_hash entry.header) (best older)) (block_hash entry.header) (best older) (ap is_ok ok) higher

pub best_other : (entry : Entry) (older : Tree) (stop : Stop) → unspent_after (entry ∷ older) (block_hash entry.header) ≡ Err stop → best (entry ∷ older) ≡ best older
unfolding best
best_other entry older stop err =
    best_stays (is_ok (unspent_after (entry ∷ older) (block_hash entry.header))) (is_higher (entry ∷ older) (block_hash entry.header) (best older)) (block_hash entry.header) (best older) (ap is_ok err)

-- what is higher than the tip isn't the tip
pub apart : (tree : Tree) (one other : Hash256) → is_higher tree one other ≡ true → same other one ≡ false
apart tree one other higher =
    elim (cases_Bool (same other one)) [
      | inl is ↦
          let h = unwrap_or (height_of tree one) 0 in
          let self : nat_lt h h ≡ true = subst (λ (x : Hash256). is_higher tree one x ≡ true) (same-true other one is) higher in
          absurd (omega (arith, ltb-true h h self))
      | inr isnt ↦ isnt
    ]

-- ---- a block on its branch

-- a block that stands on a kept one is higher than the tip
pub record IsAbove (block_indexes : List BlockIndex) (block : Block) (path : List ℕ) : Type 0 where
  pub tree : IsTree block_indexes
  pub places : path ≡ active_places (tree_of block_indexes)
  pub parent : ℕ
  pub known : place_of (tree_of block_indexes) block.header.prev ≡ Some parent
  pub kept : is_kept (tree_of block_indexes) block.header.prev ≡ true
  pub once : is_kept (tree_of block_indexes) (block_hash block.header) ≡ false
  pub higher : is_higher (block_entry block ∷ tree_of block_indexes) (block_hash block.header) (best (tree_of block_indexes)) ≡ true

-- the active places with it
path_is : (block_indexes : List BlockIndex) (block : Block) (path : List ℕ) (fork : ℕ) → IsAbove block_indexes block path → IsFork (tree_of block_indexes) block.header.prev fork
    → best (block_entry block ∷ tree_of block_indexes) ≡ block_hash block.header
    → take (fork + 1) path ++ map (λ (s : Step). s.place) (drop fork (climb (tree_of block_indexes) block.header.prev)) ++ length block_indexes ∷ [] ≡ active_places (block_entry block ∷ tree_of block_indexes)
path_is block_indexes block path fork is fork_is tip =
    let tree = tree_of block_indexes in
    let below = climb tree block.header.prev in
    let old = climb tree (best tree) in
    let last : Step = record { place = suc (length tree); entry = block_entry block } in
    let place : Step → ℕ = λ s. s.place in
    let long : length block_indexes ≡ suc (length tree) = length_tree block_indexes is.tree in
    let one : suc fork ≡ fork + 1 = omega arith in
    let low : take (fork + 1) path ≡ 0 ∷ map place (take fork below) =
    ap (take (fork + 1)) is.places ∙ ap (λ (n : ℕ). take n (0 ∷ map place old)) (sym one) ∙ ap (λ (ps : List ℕ). 0 ∷ ps) (take-map place fork old ∙ ap (map place) (sym (fork_is.below is.kept))) in
    let whole : climb (block_entry block ∷ tree) (best (block_entry block ∷ tree)) ≡ (take fork below ++ drop fork below) ++ last ∷ [] =
    ap (climb (block_entry block ∷ tree)) tip ∙ climb_new (block_entry block) tree ∙ ap (λ (xs : List Step). xs ++ last ∷ []) (sym (take-append-drop fork below)) in
    let places : map place ((take fork below ++ drop fork below) ++ last ∷ []) ≡ map place (take fork below) ++ map place (drop fork below) ++ length block_indexes ∷ [] =
    map-append place (take fork below ++ drop fork below) (last ∷ []) ∙ ap (λ (ps : List ℕ). ps ++ suc (length tree) ∷ []) (map-append place (take fork below) (drop fork below))
    ∙ ap (λ (n : ℕ). map place (take fork below) ++ map place (drop fork below) ++ n ∷ []) (sym long) in
    ap (λ (ps : List ℕ). ps ++ map place (drop fork below) ++ length block_indexes ∷ []) low ∙ ap (λ (ps : List ℕ). 0 ∷ ps) (sym places) ∙ ap (λ (ss : List Step). 0 ∷ map place ss) (sym whole)

pub joined_ok : (old : Tree) (block : Block) (u : Unspent) → is_higher (block_entry block ∷ old) (block_hash block.header) (best old) ≡ true → unspent_after (block_entry block ∷ old) (block_hash block.header) ≡ Ok u
    → joined old block ≡ (Ok (change_of old (block_entry block ∷ old)), block_entry block ∷ old)
joined_ok old block u higher ok = rw (higher, ok) refl

pub joined_err : (old : Tree) (block : Block) (first : Hash256) (fault : Fault) → is_higher (block_entry block ∷ old) (block_hash block.header) (best old) ≡ true
    → unspent_after (block_entry block ∷ old) (block_hash block.header) ≡ Err (faulty first fault) → joined old block ≡ (Err fault, marked_above first (block_entry block ∷ old))
joined_err old block first fault higher err = rw (higher, err) refl

-- a branch from the first block's header up
abbrev branch_up : Tree → Hash256 → List Header
branch_up tree hash = reverse (branch tree hash)

-- the hashes of what comes on
on_hashes : (tree : Tree) (prev : Hash256) (header : Header) (ones : List Header) (fork : ℕ) → ones ≡ genesis_header ∷ map (λ (s : Step). s.entry.header) (climb tree prev)
    → map block_hash (drop (suc fork) ones ++ header ∷ []) ≡ map (λ (s : Step). block_hash s.entry.header) (drop fork (climb tree prev)) ++ block_hash header ∷ []
on_hashes tree prev header ones fork ones_is =
    let name : Step → Header = λ s. s.entry.header in
    let high : drop (suc fork) ones ≡ map name (drop fork (climb tree prev)) = ap (drop (suc fork)) ones_is ∙ drop-map name fork (climb tree prev) in
    ap (λ (hs : List Header). map block_hash (hs ++ header ∷ [])) high ∙ map-append block_hash (map name (drop fork (climb tree prev))) (header ∷ [])
    ∙ ap (λ (hs : List Hash256). hs ++ block_hash header ∷ []) (map_map block_hash name (drop fork (climb tree prev)))

-- the branch of its parent and the active chain, from the first block's header up
record Beside (block_indexes : List BlockIndex) (block : Block) (fork : ℕ) (ones others : List Header) : Type 0 where
  ones_is : ones ≡ genesis_header ∷ map (λ (s : Step). s.entry.header) (climb (tree_of block_indexes) block.header.prev)
  others_is : others ≡ genesis_header ∷ map (λ (s : Step). s.entry.header) (climb (tree_of block_indexes) (best (tree_of block_indexes)))
  first : agree ones others 0 ≡ true
  some : 0 < length ones
  low : fork < length others
  short : length others ≤ length ones
  above : above_branch (reverse ones) others ≡ drop (suc fork) others
  new_is : best (block_entry block ∷ tree_of block_indexes) ≡ block_hash block.header → active (block_entry block ∷ tree_of block_indexes) ≡ ones ++ block.header ∷ []

beside : (block_indexes : List BlockIndex) (block : Block) (path : List ℕ) (fork : ℕ) → IsAbove block_indexes block path → IsFork (tree_of block_indexes) block.header.prev fork
    → Beside block_indexes block fork (branch_up (tree_of block_indexes) block.header.prev) (active (tree_of block_indexes))
beside block_indexes block path fork is fork_is =
    let tree = tree_of block_indexes in
    let new = block_entry block ∷ tree in
    let header = block.header in
    let prev = header.prev in
    let known = known_best tree in
    let name : Step → Header = λ s. s.entry.header in
    let ones = branch_up tree prev in
    let others = active tree in
    let ones_is : ones ≡ genesis_header ∷ map name (climb tree prev) = branch_climb block_indexes prev is.parent is.tree is.known in
    let others_is : others ≡ genesis_header ∷ map name (climb tree (best tree)) = active_way block_indexes is.tree in
    let apart_is = apart new (block_hash header) (best tree) is.higher in
    let height_one : height_of new (block_hash header) ≡ Some (suc (length (climb tree prev))) = height_new (block_entry block) tree ∙ ap (option_map suc) (height_climb block_indexes prev is.parent is.tree is.known) in
    let height_tip : height_of new (best tree) ≡ Some (length (climb tree (best tree))) = height_other (block_entry block) tree (best tree) apart_is ∙ height_climb block_indexes (best tree) known.0 is.tree known.1 in
    let test : nat_lt (length (climb tree (best tree))) (suc (length (climb tree prev))) ≡ true =
    sym (ap (λ (o : Option ℕ). nat_lt (unwrap_or o 0) (suc (length (climb tree prev)))) height_tip) ∙ sym (ap (λ (o : Option ℕ). nat_lt (unwrap_or (height_of new (best tree)) 0) (unwrap_or o 0)) height_one) ∙ is.higher in
    let lower = ltb-true (length (climb tree (best tree))) (suc (length (climb tree prev))) test in
    let ones_long : length ones ≡ suc (length (climb tree prev)) = ap length ones_is ∙ ap suc (length-map (climb tree prev) name) in
    let others_long : length others ≡ suc (length (climb tree (best tree))) = ap length others_is ∙ ap suc (length-map (climb tree (best tree)) name) in
    let down : reverse ones ≡ branch tree prev = reverse-reverse (branch tree prev) in
    record {
      ones_is = ones_is;
      others_is = others_is;
      first = rw (ones_is, others_is) (same-refl (block_hash genesis_header));
      some = omega (arith, ones_long);
      low = fork_is.low;
      short = omega (arith, ones_long, others_long, lower);
      above = ap (λ (hs : List Header). above_branch hs others) down ∙ fork_is.above;
      new_is = λ tip.
          let branch_is : branch new (best new) ≡ header ∷ reverse ones = ap (branch new) tip ∙ branch_new (block_entry block) tree ∙ ap (λ (hs : List Header). header ∷ hs) (sym down) in
          ap reverse branch_is ∙ reverse_cons (reverse ones) header ∙ ap (λ (hs : List Header). hs ++ header ∷ []) (reverse-reverse ones);
    }

-- what it changes
change_is : (block_indexes : List BlockIndex) (block : Block) (path : List ℕ) (fork : ℕ) → IsAbove block_indexes block path → IsFork (tree_of block_indexes) block.header.prev fork
    → best (block_entry block ∷ tree_of block_indexes) ≡ block_hash block.header → change_of (tree_of block_indexes) (block_entry block ∷ tree_of block_indexes) ≡ change_at (tree_of block_indexes) block.header fork
change_is block_indexes block path fork is fork_is tip =
    let tree = tree_of block_indexes in
    let new = block_entry block ∷ tree in
    let header = block.header in
    let prev = header.prev in
    let ones = branch_up tree prev in
    let others = active tree in
    let b = beside block_indexes block path fork is fork_is in
    let both = fork_back ones others fork header b.first b.some b.low b.short b.above in
    let active_is : active new ≡ ones ++ header ∷ [] = b.new_is tip in
    let branch_is : branch new (best new) ≡ header ∷ reverse ones = sym (reverse-reverse (branch new (best new))) ∙ ap reverse active_is ∙ reverse_push ones header in
    let old_is : branch tree (best tree) ≡ reverse others = sym (reverse-reverse (branch tree (best tree))) in
    let off : reverse (map block_hash (above_branch (branch new (best new)) others)) ≡ reverse (map block_hash (drop (suc fork) others)) =
    ap (λ (hs : List Header). reverse (map block_hash hs)) (ap (λ (hs : List Header). above_branch hs others) branch_is ∙ both.0) in
    let on : map block_hash (above_branch (branch tree (best tree)) (active new)) ≡ map (λ (s : Step). block_hash s.entry.header) (drop fork (climb tree prev)) ++ block_hash header ∷ [] =
    ap (map block_hash) (ap (λ (hs : List Header). above_branch hs (active new)) old_is ∙ ap (above_branch (reverse others)) active_is ∙ both.1) ∙ on_hashes tree prev header ones fork b.ones_is in
    changes_same off on

-- both chains begin alike, and part where the branch leaves
over_is : (block_indexes : List BlockIndex) (block : Block) (path : List ℕ) (fork : ℕ) → IsAbove block_indexes block path → IsFork (tree_of block_indexes) block.header.prev fork
    → best (block_entry block ∷ tree_of block_indexes) ≡ block_hash block.header
    → LeadsOver (active_hashes (tree_of block_indexes)) (change_at (tree_of block_indexes) block.header fork) (active_hashes (block_entry block ∷ tree_of block_indexes))
over_is block_indexes block path fork is fork_is tip =
    let tree = tree_of block_indexes in
    let header = block.header in
    let below = climb tree header.prev in
    let old = climb tree (best tree) in
    let name : Step → Header = λ s. s.entry.header in
    let ones = branch_up tree header.prev in
    let others = active tree in
    let b = beside block_indexes block path fork is fork_is in
    let come = on_hashes tree header.prev header ones fork b.ones_is in
    let low = take (suc fork) others in
    let high = drop (suc fork) others in
    let shared = map block_hash low in
    let turned : reverse (reverse (map block_hash high)) ≡ map block_hash high = reverse-reverse (map block_hash high) in
    let front : take (suc fork) ones ≡ low =
    ap (take (suc fork)) b.ones_is ∙ ap (λ (hs : List Header). genesis_header ∷ hs) (take-map name fork below ∙ ap (map name) (fork_is.below is.kept) ∙ sym (take-map name fork old)) ∙ sym (ap (take (suc fork)) b.others_is) in
    record {
      shared = shared;
      old_is = ap (map block_hash) (sym (take-append-drop (suc fork) others)) ∙ map-append block_hash low high ∙ ap (λ (hs : List Hash256). shared ++ hs) (sym turned);
      new_is =
          ap (map block_hash) (b.new_is tip ∙ ap (λ (hs : List Header). hs ++ header ∷ []) (sym (take-append-drop (suc fork) ones)) ∙ append_assoc (take (suc fork) ones) (drop (suc fork) ones) (header ∷ []))
          ∙ map-append block_hash (take (suc fork) ones) (drop (suc fork) ones ++ header ∷ []) ∙ ap (λ (hs : List Header). map block_hash hs ++ map block_hash (drop (suc fork) ones ++ header ∷ [])) front
          ∙ ap (λ (hs : List Hash256). shared ++ hs) come;
      apart =
          subst (λ (hs : List Hash256). PartAtOnce hs (map (λ (s : Step). block_hash s.entry.header) (drop fork below) ++ block_hash header ∷ [])) (sym turned)
          (subst (PartAtOnce (map block_hash high)) come (fork_parts ones others fork header b.first b.some b.low b.short b.above));
    }

-- ---- the chain with it

pub record IsLed (old : Tree) (block : Block) (change : Answer) (path : List ℕ) : Type 0 where
  pub places : path ≡ active_places (block_entry block ∷ old)
  pub tip : best (block_entry block ∷ old) ≡ block_hash block.header
  pub answer : (Ok change, block_entry block ∷ old) ≡ joined old block
  pub over : LeadsOver (active_hashes old) change (active_hashes (block_entry block ∷ old))

abbrev kept_ok : Tree → Answer → Result Answer Fault × Tree
kept_ok tree change = (Ok change, tree)

pub led : (block_indexes : List BlockIndex) (block : Block) (path now : List ℕ) (after : Unspent) (change : Answer) → IsAbove block_indexes block path → unspent_after (block_entry block ∷ tree_of block_indexes) (block_hash block.header) ≡ Ok after
    → Moved (tree_of block_indexes) block.header path (length block_indexes) now change → IsLed (tree_of block_indexes) block change now
led block_indexes block path now after change is ok moved =
    let tree = tree_of block_indexes in
    let new = block_entry block ∷ tree in
    let tip : best new ≡ block_hash block.header = best_new (block_entry block) tree after ok is.higher in
    record {
      places = moved.now_is ∙ path_is block_indexes block path moved.fork is moved.fork_is tip;
      tip = tip;
      answer = sym (joined_ok tree block after is.higher ok ∙ ap (kept_ok new) (change_is block_indexes block path moved.fork is moved.fork_is tip ∙ sym moved.change_is));
      over = subst (λ (c : Answer). LeadsOver (active_hashes tree) c (active_hashes new)) (sym moved.change_is) (over_is block_indexes block path moved.fork is moved.fork_is tip);
    }
