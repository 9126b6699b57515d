-- A block's own transactions as pairs: its form is rebuilt from them.
use Rattle.std.proofs.Common.{◌≡◌, ◌≢◌, ℕ, zero, suc, ◌+◌, ◌-◌, ◌<◌, ◌≤◌, ◌==◌, ◌||◌, inl, inr, Bool, true, false, cond, List, [], ◌∷◌, length, get_or, take, drop, map, All, Some, slice_get, refl, sym, ap, ◌∙◌, subst, arith}
use Rattle.std.proofs.lemmas.Bool.{cases_lt}
use Rattle.std.proofs.lemmas.List.Elements.{All-append, All-drop, All-head, All-map, All-tail, All-take}
use Rattle.std.proofs.lemmas.Option.{slice_get-get_or}
use Rattle.cb_block.specs.declared.tx.Tx.{Tx}
use Rattle.cb_block.specs.declared.block.Block.{Block}
use Rattle.cb_block.specs.Blocks.{IsSoundBlock}
use Rattle.cb_compact.specs.Differences.{Rise}
use Rattle.cb_compact.specs.Forms.{IsCompact, left_out}
use Rattle.cb_compact.specs.Honest.{AreOwn, AreUnserved, HaveOwnIds, IsHonest, IsRebuilt, id_of, own_pairs}
use Rattle.cb_compact.specs.Placing.{IsPlaced}
use Rattle.cb_compact.specs.Slots.{AreDifferent, is_among, with_id}
use Rattle.cb_compact.specs.declared.form.Compact.{Compact}
use Rattle.cb_compact.specs.declared.named_tx.Pair.{Pair}
use Rattle.cb_compact.specs.declared.partial.Filled.TheVariants.{Sound}
use Rattle.cb_compact.specs.declared.partial.Placed.{Placed}
use Rattle.cb_compact.specs.declared.partial.Placed.TheVariants.{Missing, Repeat, Whole}
use Rattle.cb_compact.proofs.Indexes.{left_at, left_kept}
use Rattle.cb_compact.proofs.Tabling.{eqb_is}
use Rattle.cb_compact.proofs.Seen.{below_rise, contains_first, not_contained, not_equal, some_is}
use Rattle.cb_compact.proofs.Honest.{NoneHas, ids_are, rebuilt, unserved}

-- each with the id that `f` gives it
abbrev paired : (Tx → ℕ) → List Tx → List Pair
paired f txs = map (λ tx. record { id = f tx; tx = tx }) txs

all_left : {A : Type 0} (P : A → Type 0) (first : ℕ) (places : List ℕ) (xs : List A) → All P xs → All P (left_out first places xs)
all_left P first [] xs all = all
all_left P first (place ∷ places) xs all =
    All-append P (take (place - first) xs) (left_out (place + 1) places (drop (place - first + 1) xs)) (All-take P (place - first) xs all)
    (all_left P (place + 1) places (drop (place - first + 1) xs) (All-drop P (place - first + 1) xs all))

none_among : (f : Tx → ℕ) (id : ℕ) (txs : List Tx) → All (λ it. f it ≢ id) txs → is_among id (map f txs) ≡ false
none_among f id [] all = refl
none_among f id (tx ∷ txs) all =
    ap (λ it. it || is_among id (map f txs)) (not_equal (f tx) id (All-head (λ it. f it ≢ id) tx txs all)) ∙ none_among f id txs (All-tail (λ it. f it ≢ id) tx txs all)

-- The id of each transaction at none of the places is that of no other.
abbrev HaveOwn : (Tx → ℕ) → ℕ → List ℕ → List Tx → Type 0
HaveOwn f first places txs = (k j : ℕ) (tx it : Tx) → slice_get txs k ≡ Some tx → is_among (first + k) places ≡ false → slice_get txs j ≡ Some it → f it ≡ f tx → j ≡ k

own_next : (f : Tx → ℕ) (first : ℕ) (places more : List ℕ) (tx : Tx) (txs : List Tx) → ((i : ℕ) → first < i → is_among i more ≡ is_among i places) → HaveOwn f first places (tx ∷ txs) → HaveOwn f (first + 1) more txs
own_next f first places more tx txs same all k j other it is outside there equal =
    let next : first + 1 + k ≡ first + suc k = omega arith in
    let one : suc j ≡ suc k = all (suc k) (suc j) other it is (sym (same (first + suc k) (omega arith)) ∙ sym (ap (λ n. is_among n more) next) ∙ outside) there equal in
    omega (arith, one)

own_first : (f : Tx → ℕ) (first : ℕ) (places : List ℕ) (tx : Tx) (txs : List Tx) → is_among first places ≡ false → HaveOwn f first places (tx ∷ txs) → All (λ it. f it ≢ f tx) txs
own_first f first places tx txs outside all k d within equal =
    let here : first + 0 ≡ first = omega arith in
    let no : suc k ≡ 0 = all 0 (suc k) tx (get_or txs k d) refl (ap (λ n. is_among n places) here ∙ outside) (slice_get-get_or txs k d within) equal in
    absurd (omega (arith, no))

different_left : (f : Tx → ℕ) (first total : ℕ) (places : List ℕ) (txs : List Tx) → total ≡ first + length txs → Rise first total places → HaveOwn f first places txs → AreDifferent (map f (left_out first places txs))
different_left f first total [] [] all rises own = tt
different_left f first total (place ∷ places) [] all (low, below, rest) own = absurd (omega (arith, all, low, below))
different_left f first total [] (tx ∷ txs) all rises own = (
  none_among f (f tx) txs (own_first f first [] tx txs refl own),
  different_left f (first + 1) total [] txs (omega (arith, all)) tt (own_next f first [] [] tx txs (λ i past. refl) own),
)
different_left f first total (place ∷ places) (tx ∷ txs) all (low, below, rest) own =
    elim (cases_lt first place) [
      | inl less ↦ let here : Rise (first + 1) total (place ∷ places) = (omega (arith, less), below, rest) in
          let others = left_out (first + 1) (place ∷ places) txs in
          subst (λ list. AreDifferent (map f list)) (sym (left_kept first total (place ∷ places) tx txs here)) (
            none_among f (f tx) others (all_left (λ it. f it ≢ f tx) (first + 1) (place ∷ places) txs (own_first f first (place ∷ places) tx txs (below_rise first (first + 1) total (place ∷ places) (omega arith) here) own)),
            different_left f (first + 1) total (place ∷ places) txs (omega (arith, all)) here (own_next f first (place ∷ places) (place ∷ places) tx txs (λ i past. refl) own),
          )
      | inr most ↦ let is : place ≡ first = omega (arith, low, most) in
          let later : Rise (first + 1) total places = subst (λ n. Rise (n + 1) total places) is rest in
          subst (λ list. AreDifferent (map f list)) (sym (left_at first place places tx txs is))
          (different_left f (first + 1) total places txs (omega (arith, all)) later
          (own_next f first (place ∷ places) places tx txs (λ i past. ap (λ it. it || is_among i places) (sym (not_equal place i (omega (arith, past, is))))) own))
    ]

-- at most one of the transactions has the id
abbrev HasOne : (Tx → ℕ) → ℕ → List Tx → Type 0
HasOne f id txs = (j k : ℕ) (a b : Tx) → slice_get txs j ≡ Some a → slice_get txs k ≡ Some b → f a ≡ id → f b ≡ id → j ≡ k

none_with : (f : Tx → ℕ) (id : ℕ) (txs : List Tx) → All (λ it. f it ≢ id) txs → with_id id (paired f txs) ≡ []
none_with f id [] all = refl
none_with f id (tx ∷ txs) all =
    ap (λ it. cond it (record { id = f tx; tx = tx } ∷ with_id id (paired f txs)) (with_id id (paired f txs))) (not_equal (f tx) id (All-head (λ it. f it ≢ id) tx txs all))
    ∙ none_with f id txs (All-tail (λ it. f it ≢ id) tx txs all)

one_with : (f : Tx → ℕ) (id : ℕ) (txs : List Tx) → HasOne f id txs → length (with_id id (paired f txs)) ≤ 1
one_with f id [] one = omega arith
one_with f id (tx ∷ txs) one = go (f tx == id) refl (one_with f id txs (λ j k a b at there is same. let next : suc j ≡ suc k = one (suc j) (suc k) a b at there is same in omega (arith, next))) where
  go : (b : Bool) → (f tx == id) ≡ b → length (with_id id (paired f txs)) ≤ 1 → length (with_id id (paired f (tx ∷ txs))) ≤ 1
  go true e later =
      let is = eqb_is (f tx) id e in
      let others : All (λ it. f it ≢ id) txs = λ k d within equal. let no : 0 ≡ suc k = one 0 (suc k) tx (get_or txs k d) refl (slice_get-get_or txs k d within) is equal in absurd (omega (arith, no)) in
      let alone : length (with_id id (paired f (tx ∷ txs))) ≡ 1 =
      ap (λ it. length (cond it (record { id = f tx; tx = tx } ∷ with_id id (paired f txs)) (with_id id (paired f txs)))) e ∙ ap (λ list. suc (length list)) (none_with f id txs others) in
      omega (arith, alone)
  go false e later = subst (λ n. n ≤ 1) (sym (ap (λ it. length (cond it (record { id = f tx; tx = tx } ∷ with_id id (paired f txs)) (with_id id (paired f txs)))) e)) later

-- The block's own pairs are so.
own_pairs_are : (block : Block) (nonce : ℕ) (places : List ℕ) → HaveOwnIds block nonce places → AreOwn block nonce places (own_pairs block nonce)
own_pairs_are block nonce places own =
    let f : Tx → ℕ = id_of block.header nonce in
    record {
      hold = λ place tx here. All-map (λ pair. pair.id ≡ f tx → pair.tx ≡ tx) (λ tx. record { id = f tx; tx = tx }) block.txs
          (λ k d within equal. let at = slice_get-get_or block.txs k d within in
          let same : k ≡ place = own place k tx (get_or block.txs k d) here at equal in
          some_is (get_or block.txs k d) tx (sym at ∙ ap (slice_get block.txs) same ∙ here.0));
      once = λ place tx here. one_with f (f tx) block.txs (λ j k a b at there is same. own place j tx a here at is ∙ sym (own place k tx b here there same));
    }

own_ids : (block : Block) (nonce : ℕ) (places : List ℕ) → HaveOwnIds block nonce places → HaveOwn (id_of block.header nonce) 0 places block.txs
own_ids block nonce places own k j tx it is outside there equal =
    let same : k ≡ 0 + k = omega arith in
    own k j tx it (is, not_contained k places (ap (λ n. is_among n places) same ∙ outside)) there equal

pub own_different : (block : Block) (nonce : ℕ) (places : List ℕ) (form : Compact) → Rise 0 (length block.txs) places → IsCompact block nonce places form → HaveOwnIds block nonce places → AreDifferent form.ids.items
own_different block nonce places form rises compact own =
    subst AreDifferent (sym (ids_are block nonce places form compact)) (different_left (id_of block.header nonce) 0 (length block.txs) places block.txs (omega arith) rises (own_ids block nonce places own))

-- A transaction's own pair has its id.
paired_has : (f : Tx → ℕ) (k : ℕ) (tx : Tx) (txs : List Tx) → slice_get txs k ≡ Some tx → ¬ NoneHas (f tx) (paired f txs)
paired_has f k tx [] is none = absurd cc
paired_has f zero tx (it ∷ txs) is none = All-head (λ pair. pair.id ≢ f tx) (record { id = f it; tx = it }) (paired f txs) none (ap f (some_is it tx is))
paired_has f (suc k) tx (it ∷ txs) is none = paired_has f k tx txs is (All-tail (λ pair. pair.id ≢ f tx) (record { id = f it; tx = it }) (paired f txs) none)

-- Each place is served by its own pair.
all_served : (block : Block) (nonce : ℕ) (places lacking : List ℕ) → AreUnserved block nonce places (own_pairs block nonce) lacking → ¬ (0 < length lacking)
all_served block nonce places [] unserved some = absurd (omega (arith, some))
all_served block nonce places (place ∷ more) unserved some =
    let found = (unserved.exact place).0 (contains_first place more) in
    let f : Tx → ℕ = id_of block.header nonce in
    paired_has f place found.0 block.txs found.1.0 found.2

pub own_honest : (block : Block) (nonce : ℕ) (places : List ℕ) (form : Compact) → IsSoundBlock block → Rise 0 (length block.txs) places → IsCompact block nonce places form → HaveOwnIds block nonce places
    → IsHonest block nonce places form × AreOwn block nonce places (own_pairs block nonce)
own_honest block nonce places form sound rises compact own = (
  record { sound = sound; rise = rises; compact = compact; different = own_different block nonce places form rises compact own },
  own_pairs_are block nonce places own,
)

pub own_rebuilt : (block : Block) (nonce : ℕ) (places : List ℕ) (form : Compact) → IsSoundBlock block → Rise 0 (length block.txs) places → IsCompact block nonce places form → HaveOwnIds block nonce places
    → (placed : Placed) → IsPlaced form.header form.ids.items form.prefilled.items (own_pairs block nonce) placed → placed ≡ Whole (Sound block)
own_rebuilt block nonce places form sound rises compact own placed is =
    let both = own_honest block nonce places form sound rises compact own in
    go placed is (rebuilt block nonce places form (own_pairs block nonce) both.0 both.1 placed is) where
      go : (placed : Placed) → IsPlaced form.header form.ids.items form.prefilled.items (own_pairs block nonce) placed → IsRebuilt block nonce places (own_pairs block nonce) placed → placed ≡ Whole (Sound block)
      go Repeat is here = absurd here
      go (Whole whole) is (served, same) = ap (λ it. Whole it) same
      go (Missing lacking partial) (different, some, are, stands) (unserved, more) = absurd (all_served block nonce places lacking.items unserved some)
