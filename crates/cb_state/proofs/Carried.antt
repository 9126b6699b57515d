-- What is answered fits in messages: blocks, locators and names of transactions.
use Rattle.std.proofs.Common.{◌≡◌, ℕ, ◌+◌, ◌-◌, ◌≤◌, ◌^◌, zero, suc, List, [], ◌∷◌, length, filter, Option, None, Some, refl, sym, ap, subst, ◌∙◌, arith, inl, inr}
use Rattle.std.specs.Prelude.{Bool, true, false, All, IfSome, filter_map, nat_le, nat_lt, option_map, slice_get}
use Rattle.std.proofs.lemmas.Bool.{cases_Bool}
use Rattle.std.proofs.lemmas.Bool.Decides.{nat_tests}
use Rattle.std.proofs.lemmas.List.{length-map, length-reverse}
use Rattle.cb_base.specs.declared.hash.Hash256.{Hash256}
use Rattle.cb_block.specs.declared.block.Block.{Block}
use Rattle.cb_block.specs.Blocks.{MeetsBlockRules}
use Rattle.cb_chain.specs.Best.{active, best, branch}
use Rattle.cb_chain.specs.Entries.{Entry, Tree, block_hash, block_of, genesis_hash, height_of, same, sound_block}
use Rattle.cb_chain.specs.History.{IsHistoric}
use Rattle.cb_chain.specs.Locator.{depth_of, heights_from, locator_heights, locator_of}
use Rattle.cb_pool.specs.Listing.{since_of}
use Rattle.cb_block.specs.Txid.{txid_of}
use Rattle.cb_pool.specs.declared.members.Pooled.{Pooled}
use Rattle.cb_state.proofs.FirstBlock.{first_meets_rules}
use Rattle.cb_state.proofs.TipHeight.{tip_low}

-- ---- lists

few_kept : {X : Type 0} (p : X → Bool) (xs : List X) → length (filter p xs) ≤ length xs
few_kept p [] = omega arith
few_kept p (x ∷ xs) =
    elim (cases_Bool (p x)) [
      | inl is ↦ rw is (omega (arith, few_kept p xs))
      | inr isnt ↦ rw isnt (omega (arith, few_kept p xs))
    ]

few_found : {X Y : Type 0} (f : X → Option Y) (xs : List X) → length (filter_map f xs) ≤ length xs
few_found f [] = omega arith
few_found f (x ∷ xs) = go (f x) refl (few_found f xs) where
  go : (o : Option _) → f x ≡ o → length (filter_map f xs) ≤ length xs → length (filter_map f (x ∷ xs)) ≤ suc (length xs)
  go None e few = rw e (omega (arith, few))
  go (Some y) e few = rw e (omega (arith, few))

-- ---- names of transactions

pub since_few : (list : List Pooled) (number count : ℕ) (txids : List Hash256) → count ≡ length list → count ≤ 10000 → txids ≡ since_of list number → length txids ≤ 50000
since_few list number count txids is few e =
    let kept = filter (λ (pooled : Pooled). nat_le number pooled.number) list in
    omega (arith, is, few, ap length e, length-map kept (λ (pooled : Pooled). txid_of pooled.tx), few_kept (λ (pooled : Pooled). nat_le number pooled.number) list)

-- ---- locators

branch_long : (tree : Tree) (hash : Hash256) (height : ℕ) → height_of tree hash ≡ Some height → length (branch tree hash) ≡ suc height
unfolding branch
branch_long [] hash height e =
    elim (cases_Bool (same hash genesis_hash)) [
      | inl is ↦ let at : Some 0 ≡ Some height = rw is at e in let zero-is : 0 ≡ height = cc in rw is (ap suc zero-is)
      | inr isnt ↦ let at : None ≡ Some height = rw isnt at e in absurd cc
    ]
branch_long (entry ∷ older) hash height e =
    elim (cases_Bool (same hash (block_hash entry.header))) [
      | inl is ↦ rw is (above (height_of older entry.header.prev) refl (rw is at e) (λ h at. branch_long older entry.header.prev h at))
      | inr isnt ↦ rw isnt (branch_long older hash height (rw isnt at e))
    ] where
      above : (below : Option ℕ) → height_of older entry.header.prev ≡ below → option_map suc below ≡ Some height
          → ((h : ℕ) → height_of older entry.header.prev ≡ Some h → length (branch older entry.header.prev) ≡ suc h) → suc (length (branch older entry.header.prev)) ≡ suc height
      above None from at long = absurd cc
      above (Some h) from at long = let next : suc h ≡ height = cc in ap suc (long h from ∙ next)

-- behind the 40th hash none stands above the first block
heights_few : (tip k more : ℕ) → tip ≤ 1000000000 → k ≤ 40 → length (heights_from tip k more) ≤ (40 - k) + 1
heights_few tip k zero low le = omega arith
heights_few tip k (suc more) low le =
    elim (cases_Bool (nat_lt (depth_of k) tip)) [
      | inl above ↦ rw above (omega (arith, heights_few tip (suc k) more low (below above), below above))
      | inr end ↦ rw end (omega arith)
    ] where
      below : nat_lt (depth_of k) tip ≡ true → suc k ≤ 40
      below above = go (nat_lt k 40) refl where
        go : (b : Bool) → nat_lt k 40 ≡ b → suc k ≤ 40
        go true lt = grind (arith, nat_tests)
        go false ge =
            let forty : k ≡ 40 = grind (arith, nat_tests) in
            let far : nat_lt (9 + 2 ^ 30) tip ≡ true = subst (λ (n : ℕ). nat_lt (depth_of n) tip ≡ true) forty above in
            absurd (grind (arith, nat_tests))

pub locator_few : (tree : Tree) (height : ℕ) (hashes : List Hash256) → IsHistoric tree → height_of tree (best tree) ≡ Some height → hashes ≡ locator_of tree → length hashes ≤ 101
locator_few tree height hashes is at e =
    let low = tip_low tree height is at in
    let long : length (active tree) ≡ suc height = length-reverse (branch tree (best tree)) ∙ branch_long tree (best tree) height at in
    let tip : length (active tree) - 1 ≡ height = omega (arith, long) in
    let few : length (locator_heights (length (active tree) - 1)) ≤ 41 = heights_few (length (active tree) - 1) 0 (length (active tree) - 1) (omega (arith, tip, low)) (omega arith) in
    let hash_at : ℕ → Option Hash256 = λ place. option_map block_hash (slice_get (active tree) place) in
    omega (arith, ap length e, few_found hash_at (locator_heights (length (active tree) - 1)), few)

-- ---- blocks

shown : (entry : Entry) → IfSome entry.block MeetsBlockRules → IfSome (sound_block entry) MeetsBlockRules
shown entry meets =
    elim (cases_Bool entry.marked) [
      | inl marked ↦ rw marked tt
      | inr sound ↦ rw sound meets
    ]

kept_rules : (tree : Tree) (hash : Hash256) → All (λ (entry : Entry). IfSome entry.block MeetsBlockRules) tree → IfSome (block_of tree hash) MeetsBlockRules
kept_rules [] hash all =
    elim (cases_Bool (same hash genesis_hash)) [
      | inl is ↦ rw is first_meets_rules
      | inr isnt ↦ rw isnt tt
    ]
kept_rules (entry ∷ older) hash all =
    elim (cases_Bool (same hash (block_hash entry.header))) [
      | inl is ↦ rw is (shown entry (all 0 entry (omega arith)))
      | inr isnt ↦ rw isnt (kept_rules older hash (λ k d lt. all (suc k) d (omega (arith, lt))))
    ]

-- a copy of a block that is kept meets the rules
pub copy_meets_rules : (tree : Tree) (hash : Hash256) (shown : Option Block) (block copy : Block) → All (λ (entry : Entry). IfSome entry.block MeetsBlockRules) tree → shown ≡ block_of tree hash → shown ≡ Some block → copy ≡ block
    → MeetsBlockRules copy
copy_meets_rules tree hash shown block copy all is some same =
    let given : IfSome (Some block) MeetsBlockRules = subst (λ (o : Option Block). IfSome o MeetsBlockRules) (sym is ∙ some) (kept_rules tree hash all) in
    subst MeetsBlockRules (sym same) given
