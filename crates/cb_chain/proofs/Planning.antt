-- What a block will change, by the places of the block indexes.
use Rattle.std.proofs.Common.{◌≡◌, ℕ, suc, ◌+◌, ◌-◌, ◌<◌, List, [], ◌∷◌, ◌++◌, length, map, take, drop, Option, Some, refl, sym, ap, subst, ◌∙◌, arith, All}
use Rattle.std.specs.Prelude.{option_map, reverse, unwrap_or}
use Rattle.std.specs.List.{AllByRecursion}
use Rattle.std.proofs.lemmas.List.{drop-map, take_rest}
use Rattle.std.proofs.lemmas.List.Elements.{All-from_recursion}
use Rattle.std.proofs.lemmas.Option.{slice_get_within}
use Rattle.cb_base.specs.declared.hash.Hash256.{Hash256}
use Rattle.cb_block.specs.declared.header.Header.{Header}
use Rattle.cb_chain.specs.Marking.{BlockIndex}
use Rattle.cb_chain.specs.Entries.{block_hash, genesis_hash}
use Rattle.cb_chain.specs.Best.{active, best}
use Rattle.cb_chain.specs.Keeping.{IsTree, Step, active_places, climb, place_of, tree_of}
use Rattle.cb_chain.specs.Plans.{change_at, hash_at}
use Rattle.cb_chain.proofs.BlockIndexes.{found}
use Rattle.cb_chain.proofs.Steps.{Stands, all_drop, all_more, same_map, steps_stand}
use Rattle.cb_chain.proofs.PathsDown.{active_way}

-- what a call answers
abbrev pub Answer : Type 0
Answer = Rattle.cb_chain.specs.declared.change.Change.Change

pub changes_same : {off other : List Hash256} {on more : List Hash256} → off ≡ other → on ≡ more → ◌≡◌ {A = Answer} (record { off = off; on = on }) (record { off = other; on = more })
changes_same {off} {other} {on} {more} e f = ap (λ (hs : List Hash256). record { off = hs; on = on }) e ∙ ap (λ (hs : List Hash256). record { off = other; on = hs }) f

hash_stands : (block_indexes : List BlockIndex) (step : Step) → Stands block_indexes step → hash_at block_indexes step.place ≡ block_hash step.entry.header
hash_stands block_indexes step h = ap (λ (o : Option BlockIndex). unwrap_or (option_map (λ (n : BlockIndex). n.hash) o) genesis_hash) h.at ∙ h.hash

pub map_map : {A B C : Type 0} (f : B → C) (g : A → B) (xs : List A) → map f (map g xs) ≡ map (λ x. f (g x)) xs
map_map f g [] = refl
map_map f g (x ∷ xs) = ap (λ ys. f (g x) ∷ ys) (map_map f g xs)

pub all_hashes : (block_indexes : List BlockIndex) (steps : List Step) → AllByRecursion (Stands block_indexes) steps → map (hash_at block_indexes) (map (λ (s : Step). s.place) steps) ≡ map (λ (s : Step). block_hash s.entry.header) steps
all_hashes block_indexes steps h =
    map_map (hash_at block_indexes) (λ (s : Step). s.place) steps
    ∙ same_map (λ (s : Step). hash_at block_indexes s.place) (λ (s : Step). block_hash s.entry.header) steps
    (all_more (Stands block_indexes) (λ (s : Step). hash_at block_indexes s.place ≡ block_hash s.entry.header) steps (hash_stands block_indexes) h)

pub place_low : (block_indexes : List BlockIndex) (hash : Hash256) (place : ℕ) → IsTree block_indexes → place_of (tree_of block_indexes) hash ≡ Some place → place < length block_indexes
place_low block_indexes hash place is e =
    let f = found block_indexes hash place is e in
    slice_get_within block_indexes place f.block_index f.at

all_places : (block_indexes : List BlockIndex) (steps : List Step) → AllByRecursion (Stands block_indexes) steps → AllByRecursion (λ (p : ℕ). p < length block_indexes) (map (λ (s : Step). s.place) steps)
all_places block_indexes [] h = tt
all_places block_indexes (step ∷ steps) h = (slice_get_within block_indexes step.place h.0.block_index h.0.at, all_places block_indexes steps h.1)

-- the places of a way's steps are those of block indexes
pub places_low : (block_indexes : List BlockIndex) (hash : Hash256) (fork : ℕ) (places : List ℕ) → IsTree block_indexes → places ≡ map (λ (s : Step). s.place) (drop fork (climb (tree_of block_indexes) hash)) → All (λ p. p < length block_indexes) places
places_low block_indexes hash fork places is e =
    let steps = drop fork (climb (tree_of block_indexes) hash) in
    let stands = all_drop (Stands block_indexes) fork (climb (tree_of block_indexes) hash) (steps_stand block_indexes hash is) in
    All-from_recursion (λ (p : ℕ). p < length block_indexes) places (subst (AllByRecursion (λ (p : ℕ). p < length block_indexes)) (sym e) (all_places block_indexes steps stands))

-- what stands above a height on the active chain
pub off_is : (block_indexes : List BlockIndex) (path : List ℕ) (fork : ℕ) → path ≡ active_places (tree_of block_indexes)
    → take (length path - (fork + 1)) (drop (fork + 1) path) ≡ map (λ (s : Step). s.place) (drop fork (climb (tree_of block_indexes) (best (tree_of block_indexes))))
off_is block_indexes path fork e =
    let place : Step → ℕ = λ s. s.place in
    let steps = climb (tree_of block_indexes) (best (tree_of block_indexes)) in
    let one : fork + 1 ≡ suc fork = omega arith in
    take_rest path (fork + 1) ∙ ap (drop (fork + 1)) e ∙ ap (λ (n : ℕ). drop n (0 ∷ map place steps)) one ∙ drop-map place fork steps

pub planned : (block_indexes : List BlockIndex) (header : Header) (fork : ℕ) (off branch : List ℕ) (hash : Hash256) (change : Answer) → IsTree block_indexes
    → off ≡ map (λ (s : Step). s.place) (drop fork (climb (tree_of block_indexes) (best (tree_of block_indexes)))) → branch ≡ map (λ (s : Step). s.place) (drop fork (climb (tree_of block_indexes) header.prev)) → hash ≡ block_hash header
    → change.off ≡ reverse (map (hash_at block_indexes) off) → change.on ≡ map (hash_at block_indexes) branch ++ hash ∷ [] → change ≡ change_at (tree_of block_indexes) header fork
planned block_indexes header fork off branch hash change is off_places branch_places hash_is off_hashes on_hashes =
    let tree = tree_of block_indexes in
    let name : Step → Header = λ s. s.entry.header in
    let old = climb tree (best tree) in
    let new = climb tree header.prev in
    let left : map (hash_at block_indexes) off ≡ map block_hash (drop (suc fork) (active tree)) =
    ap (map (hash_at block_indexes)) off_places ∙ all_hashes block_indexes (drop fork old) (all_drop (Stands block_indexes) fork old (steps_stand block_indexes (best tree) is)) ∙ sym (map_map block_hash name (drop fork old))
    ∙ ap (map block_hash) (sym (drop-map name fork old)) ∙ ap (λ (hs : List Header). map block_hash (drop (suc fork) hs)) (sym (active_way block_indexes is)) in
    let come : map (hash_at block_indexes) branch ≡ map (λ (s : Step). block_hash s.entry.header) (drop fork new) =
    ap (map (hash_at block_indexes)) branch_places ∙ all_hashes block_indexes (drop fork new) (all_drop (Stands block_indexes) fork new (steps_stand block_indexes header.prev is)) in
    changes_same (off_hashes ∙ ap reverse left) (on_hashes ∙ ap (λ (hs : List Hash256). hs ++ hash ∷ []) come ∙ ap (λ (h : Hash256). map (λ (s : Step). block_hash s.entry.header) (drop fork new) ++ h ∷ []) hash_is)
