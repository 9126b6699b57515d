-- The hashes of a locator, from the tip down.
use Rattle.std.proofs.Common.{◌≡◌, ℕ, zero, suc, ◌+◌, ◌-◌, ◌*◌, ◌^◌, ◌<◌, ◌≤◌, Bool, cond, List, [], ◌∷◌, ◌++◌, length, get_or, Some, Option, refl, sym, ap, subst, ◌∙◌, arith, inl, inr, length-append}
use Rattle.std.specs.Prelude.{slice_get, option_map, filter_map}
use Rattle.std.proofs.Math.Nat.{pow-suc}
use Rattle.std.proofs.lemmas.Bool.{cases_lt, le-ltb, lt-ltb}
use Rattle.std.proofs.lemmas.List.{append_assoc}
use Rattle.std.proofs.lemmas.Nat.{pow_pos}
use Rattle.std.proofs.lemmas.Option.{same_Some, slice_get_read}
use Rattle.cb_base.specs.declared.hash.Hash256.{Hash256}
use Rattle.cb_block.specs.declared.header.Header.{Header}
use Rattle.cb_chain.specs.Marking.{BlockIndex}
use Rattle.cb_chain.specs.Entries.{Tree, block_hash}
use Rattle.cb_chain.specs.Best.{active}
use Rattle.cb_chain.specs.Keeping.{IsTree, active_places, tree_of}
use Rattle.cb_chain.specs.Locator.{depth_of, heights_from, locator_heights, locator_of}
use Rattle.cb_chain.proofs.PathsDown.{active_slot, length_active, length_places}

-- ---- depths below the tip

near : (k : ℕ) → k < 12 → depth_of k ≡ k
near k lt = rw (lt-ltb k 12 lt) refl

far : (k : ℕ) → 12 ≤ k → depth_of k ≡ 9 + 2 ^ (k - 10)
far k le = rw (le-ltb k 12 le) refl

double : (n : ℕ) → 2 ^ suc n ≡ 2 ^ n * 2
double n = pow-suc 2 n

below_power : (n : ℕ) → n < 2 ^ n
below_power zero = omega arith
below_power (suc n) = omega (arith, below_power n, double n)

deeper : (k : ℕ) → k ≤ depth_of k
deeper k =
    elim (cases_lt k 12) [
      | inl lt ↦ omega (arith, near k lt)
      | inr le ↦ omega (arith, far k le, below_power (k - 10))
    ]

-- how much deeper the k-th hash stands than the one before
abbrev pub step_to : ℕ → ℕ
step_to k = 2 ^ (k - 11)

pub step_some : (k : ℕ) → 0 < step_to k
step_some k = pow_pos (k - 11)

step_one : (k : ℕ) → k < 12 → step_to k ≡ 1
step_one k lt = let none : k - 11 ≡ 0 = omega arith in ap (λ (n : ℕ). 2 ^ n) none

step_twice : (k : ℕ) → 12 ≤ suc k → step_to (suc k) ≡ step_to k * 2
step_twice k le = let one : suc k - 11 ≡ suc (k - 11) = omega arith in ap (λ (n : ℕ). 2 ^ n) one ∙ double (k - 11)

-- from the twelfth on, all of the depth but 9 is twice the last step
far_step : (k : ℕ) → 11 ≤ k → depth_of k ≡ 9 + step_to k * 2
far_step k le =
    elim (cases_lt k 12) [
      | inl lt ↦ omega (arith, near k lt, step_one k lt)
      | inr more ↦
          let one : k - 10 ≡ suc (k - 11) = omega arith in
          far k more ∙ ap (λ (n : ℕ). 9 + 2 ^ n) one ∙ ap (λ (n : ℕ). 9 + n) (double (k - 11))
    ]

depth_next : (k : ℕ) → depth_of (suc k) ≡ depth_of k + step_to (suc k)
depth_next k =
    elim (cases_lt (suc k) 12) [
      | inl lt ↦ omega (arith, near k (omega arith), near (suc k) lt, step_one (suc k) lt)
      | inr le ↦ omega (arith, far_step k (omega arith), far_step (suc k) (omega arith), step_twice k le)
    ]

-- ---- heights from the k-th on

heights_more : (tip k : ℕ) → depth_of k < tip → heights_from tip k (tip - k) ≡ (tip - depth_of k) ∷ heights_from tip (suc k) (tip - suc k)
heights_more tip k lt =
    let one : tip - k ≡ suc (tip - suc k) = omega (arith, deeper k) in
    ap (heights_from tip k) one ∙ ap (λ (b : Bool). cond b ((tip - depth_of k) ∷ heights_from tip (suc k) (tip - suc k)) (0 ∷ [])) (lt-ltb (depth_of k) tip lt)

heights_end : (tip k more : ℕ) → tip ≤ depth_of k → heights_from tip k more ≡ 0 ∷ []
heights_end tip k zero le = refl
heights_end tip k (suc more) le = ap (λ (b : Bool). cond b ((tip - depth_of k) ∷ heights_from tip (suc k) more) (0 ∷ [])) (le-ltb (depth_of k) tip le)

-- ---- hashes, from the tip down

abbrev hash_of : List Header → ℕ → Option Hash256
hash_of headers height = option_map block_hash (slice_get headers height)

abbrev hashes_of : List Header → List ℕ → List Hash256
hashes_of headers heights = filter_map (hash_of headers) heights

-- The first hashes of a locator, the height of the next one, and the step that led down to it.
pub record Locates (headers : List Header) (tip : ℕ) (hashes : List Hash256) (height step : ℕ) : Type 0 where
  pub stands : height ≡ tip - depth_of (length hashes)
  pub steps : step ≡ step_to (length hashes)
  pub heads : hashes ++ hashes_of headers (heights_from tip (length hashes) (tip - length hashes)) ≡ hashes_of headers (locator_heights tip)

pub locates_none : (headers : List Header) (tip : ℕ) (hashes : List Hash256) (height : ℕ) → hashes ≡ [] → height ≡ tip → Locates headers tip hashes height 1
locates_none headers tip hashes height none top =
    let whole : tip - 0 ≡ tip = omega arith in
    rw none (record { stands = top ∙ sym whole; steps = refl; heads = ap (λ (n : ℕ). hashes_of headers (heights_from tip 0 n)) whole })

pub locates_next : (headers : List Header) (tip : ℕ) (hashes more : List Hash256) (height step lower next : ℕ) (hash : Hash256) → Locates headers tip hashes height step → 0 < height
    → hash_of headers height ≡ Some hash → more ≡ hashes ++ hash ∷ [] → next ≡ step_to (length more) → lower ≡ height - next → Locates headers tip more lower next
locates_next headers tip hashes more height step lower next hash is some here put steps down =
    let k = length hashes in
    let long : length more ≡ suc k = ap length put ∙ length-append hashes (hash ∷ []) ∙ omega arith in
    let under : depth_of k < tip = omega (arith, is.stands) in
    let rest = heights_from tip (suc k) (tip - suc k) in
    let first : hash_of headers (tip - depth_of k) ≡ Some hash = ap (hash_of headers) (sym is.stands) ∙ here in
    let heads : hashes_of headers (heights_from tip k (tip - k)) ≡ hash ∷ hashes_of headers rest =
    ap (hashes_of headers) (heights_more tip k under) ∙ rw first refl
    in
    let whole : (hashes ++ hash ∷ []) ++ hashes_of headers rest ≡ hashes_of headers (locator_heights tip) =
    append_assoc hashes (hash ∷ []) (hashes_of headers rest) ∙ ap (λ (hs : List Hash256). hashes ++ hs) (sym heads) ∙ is.heads
    in
    record {
      stands = omega (arith, down, is.stands, depth_next k, steps, ap step_to long, ap depth_of long);
      steps = steps;
      heads = ap (λ (n : ℕ). more ++ hashes_of headers (heights_from tip n (tip - n))) long ∙ ap (λ (hs : List Hash256). hs ++ hashes_of headers rest) put ∙ whole;
    }

-- the step before a push is the one after it, or half of it
pub step_same : (headers : List Header) (tip : ℕ) (hashes : List Hash256) (height step : ℕ) → Locates headers tip hashes height step → suc (length hashes) < 12 → step ≡ step_to (suc (length hashes))
step_same headers tip hashes height step is lt = is.steps ∙ step_one (length hashes) (omega arith) ∙ sym (step_one (suc (length hashes)) lt)

pub step_doubles : (headers : List Header) (tip : ℕ) (hashes : List Hash256) (height step : ℕ) → Locates headers tip hashes height step → 12 ≤ suc (length hashes) → step * 2 ≡ step_to (suc (length hashes))
step_doubles headers tip hashes height step is le = ap (λ (n : ℕ). n * 2) is.steps ∙ sym (step_twice (length hashes) le)

pub step_fits : (headers : List Header) (tip : ℕ) (hashes : List Hash256) (height step : ℕ) → Locates headers tip hashes height step → 0 < height → 12 ≤ suc (length hashes) → step * 2 < tip
step_fits headers tip hashes height step is some le = omega (arith, is.stands, is.steps, far_step (length hashes) (omega arith))

pub locates_all : (headers : List Header) (tip : ℕ) (hashes : List Hash256) (height step : ℕ) (hash : Hash256) → Locates headers tip hashes height step → height ≤ 0 → hash_of headers 0 ≡ Some hash
    → hashes ++ hash ∷ [] ≡ hashes_of headers (locator_heights tip)
locates_all headers tip hashes height step hash is none first =
    let k = length hashes in
    let heads : hashes_of headers (heights_from tip k (tip - k)) ≡ hash ∷ [] =
    ap (hashes_of headers) (heights_end tip k (tip - k) (omega (arith, is.stands))) ∙ rw first refl
    in
    ap (λ (hs : List Hash256). hashes ++ hs) (sym heads) ∙ is.heads

-- ---- the active chain

hash_at : (block_indexes : List BlockIndex) (path : List ℕ) (height place : ℕ) (block_index : BlockIndex) → IsTree block_indexes → path ≡ active_places (tree_of block_indexes) → height < length path → place ≡ get_or path height place → slice_get block_indexes place ≡ Some block_index
    → hash_of (active (tree_of block_indexes)) height ≡ Some block_index.hash
hash_at block_indexes path height place block_index is are lt e at =
    let slot = subst (λ (ps : List ℕ). slice_get ps height ≡ Some place) are (slice_get_read path (length path) height place refl lt e) in
    let there = active_slot block_indexes height place is slot in
    let one : there.0.block_index ≡ block_index = same_Some there.0.block_index block_index (sym there.0.at ∙ ap (slice_get block_indexes) there.1 ∙ at) in
    ap (option_map block_hash) there.0.header ∙ ap Some (sym there.0.hash) ∙ ap (λ (n : BlockIndex). Some n.hash) one

pub found_hash : (block_indexes : List BlockIndex) (tree : Tree) (path : List ℕ) (height place : ℕ) (block_index : BlockIndex) → IsTree block_indexes → tree_of block_indexes ≡ tree → path ≡ active_places (tree_of block_indexes) → height < length path
    → place ≡ get_or path height place → slice_get block_indexes place ≡ Some block_index → hash_of (active tree) height ≡ Some block_index.hash
found_hash block_indexes tree path height place block_index is view are lt e at =
    subst (λ (t : Tree). hash_of (active t) height ≡ Some block_index.hash) view (hash_at block_indexes path height place block_index is are lt e at)

pub located : (block_indexes : List BlockIndex) (tree : Tree) (path : List ℕ) → IsTree block_indexes → tree_of block_indexes ≡ tree → path ≡ active_places (tree_of block_indexes) → hashes_of (active tree) (locator_heights (length path - 1)) ≡ locator_of tree
located block_indexes tree path is view are =
    let long : length path ≡ length (active tree) =
    ap length are ∙ length_places (tree_of block_indexes) ∙ sym (length_active block_indexes is) ∙ ap (λ (t : Tree). length (active t)) view
    in
    ap (λ (n : ℕ). hashes_of (active tree) (locator_heights (n - 1))) long

pub some_places : (tree : Tree) (path : List ℕ) → path ≡ active_places tree → 0 < length path
some_places tree path are = omega (arith, ap length are, length_places tree)

-- each height is one of an active block
pub locates_within : (headers : List Header) (tree : Tree) (path : List ℕ) (hashes : List Hash256) (height step : ℕ) → path ≡ active_places tree → Locates headers (length path - 1) hashes height step → height < length path
locates_within headers tree path hashes height step are is = omega (arith, is.stands, some_places tree path are)
