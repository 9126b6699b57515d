-- A form of an honest sender is rebuilt: what stands at each place is the block's transaction there.
use Rattle.std.proofs.Common.{◌≡◌, ◌≢◌, ℕ, zero, suc, ◌+◌, ◌-◌, ◌<◌, ◌≤◌, ◌⊎◌, ◌==◌, inl, inr, Bool, true, false, if◌then◌else◌, cond, List, [], ◌∷◌, length, take, drop, map, All, Contains, Option, Some, None, slice_get, refl, sym, ap, ◌∙◌, subst, arith, length-append, length-drop, length-take}
use Rattle.std.proofs.lemmas.Bool.{false≢true}
use Rattle.std.proofs.lemmas.List.{length-map}
use Rattle.std.proofs.lemmas.List.Elements.{All-cons, All-head, All-nil, All-tail, All-weaker}
use Rattle.std.proofs.lemmas.Simd.{map-map}
use Rattle.cb_base.specs.DoubleHash.{double_hash}
use Rattle.cb_base.specs.declared.hash.Hash256.{Hash256}
use Rattle.cb_block.specs.declared.tx.Tx.{Tx}
use Rattle.cb_block.specs.TxText.{tx_text}
use Rattle.cb_block.specs.declared.block.Block.{Block}
use Rattle.cb_block.specs.declared.header.Header.{Header}
use Rattle.cb_block.specs.Blocks.{texts, IsSoundBlock}
use Rattle.cb_block.specs.Soundness.{names, IsSound}
use Rattle.cb_compact.specs.Differences.{Rise}
use Rattle.cb_compact.specs.Forms.{IsCompact, left_out, places_of}
use Rattle.cb_compact.specs.Honest.{AreOwn, AreUnserved, IsHonest, IsRebuilt, id_of}
use Rattle.cb_compact.specs.Placing.{IsFilled, IsPlaced}
use Rattle.cb_compact.specs.ShortIds.{key_of, short_id_of}
use Rattle.cb_compact.specs.Slots.{choice, filled, is_among, laid_out, missing, only_tx, slots, with_id}
use Rattle.cb_compact.specs.declared.form.Compact.{Compact}
use Rattle.cb_compact.specs.declared.form.Prefilled.{Prefilled}
use Rattle.cb_compact.specs.declared.named_tx.Pair.{Pair}
use Rattle.cb_compact.specs.declared.partial.Filled.{Filled}
use Rattle.cb_compact.specs.declared.partial.Filled.TheVariants.{Sound, Wrong}
use Rattle.cb_compact.specs.declared.partial.Placed.{Placed}
use Rattle.cb_compact.specs.declared.partial.Placed.TheVariants.{Missing, Repeat, Whole}
use Rattle.cb_compact.proofs.Tabling.{eqb_is}
use Rattle.cb_compact.proofs.Seen.{AreAt, contains_cases, contains_first, contains_later, contains_none, laid_seen, left_map, length_seen, missing_rise, not_among, not_contained, seen, some_is, unequal_from}

-- What stands at the places of a form is its whole transactions, and of all others what the pairs choose for their ids.
abbrev pub chosen_for : Header → ℕ → List Pair → Tx → Option Tx
chosen_for header nonce pairs tx = choice pairs (id_of header nonce tx)

-- The ids of the names of the transactions at all other places are theirs.
pub named_ids : (block : Block) (nonce : ℕ) (places : List ℕ) → map (short_id_of (key_of block.header nonce)) (left_out 0 places (names (texts block.txs))) ≡ map (id_of block.header nonce) (left_out 0 places block.txs)
named_ids block nonce places =
    let key = key_of block.header nonce in
    let name : Tx → Hash256 = λ tx. double_hash (tx_text tx) in
    ap (λ list. map (short_id_of key) (left_out 0 places list)) (map-map double_hash tx_text block.txs)
    ∙ ap (map (short_id_of key)) (left_map name 0 places block.txs)
    ∙ map-map (short_id_of key) name (left_out 0 places block.txs)

pub ids_are : (block : Block) (nonce : ℕ) (places : List ℕ) (form : Compact) → IsCompact block nonce places form → form.ids.items ≡ map (id_of block.header nonce) (left_out 0 places block.txs)
ids_are block nonce places form compact = compact.ids ∙ named_ids block nonce places

pub listed_seen : (block : Block) (nonce : ℕ) (places ids : List ℕ) (given : List Prefilled) (pairs : List Pair) → Rise 0 (length block.txs) places → ids ≡ map (id_of block.header nonce) (left_out 0 places block.txs)
    → places_of given ≡ places → All (λ it. slice_get block.txs it.place ≡ Some it.tx) given → slots ids given pairs ≡ seen (chosen_for block.header nonce pairs) 0 places block.txs
listed_seen block nonce places ids given pairs rises are places_are whole =
    let txs = block.txs in
    let known = chosen_for block.header nonce pairs in
    let left = left_out 0 places txs in
    let others : map (choice pairs) ids ≡ map known left = ap (map (choice pairs)) are ∙ map-map (choice pairs) (id_of block.header nonce) left in
    let rise : Rise 0 (length txs) (places_of given) = subst (Rise 0 (length txs)) (sym places_are) rises in
    let at : AreAt 0 txs given = All-weaker (λ it. slice_get txs it.place ≡ Some it.tx) (λ it. slice_get txs (it.place - 0) ≡ Some it.tx) (λ it there. let same : it.place - 0 ≡ it.place = omega arith in ap (slice_get txs) same ∙ there) given whole in
    ap (laid_out 0 given) others
    ∙ ap (λ list. laid_out 0 given (map known (left_out 0 list txs))) (sym places_are)
    ∙ laid_seen known 0 (length txs) given txs (omega arith) rise at
    ∙ ap (λ list. seen known 0 list txs) places_are

pub form_seen : (block : Block) (nonce : ℕ) (places : List ℕ) (form : Compact) (pairs : List Pair) → Rise 0 (length block.txs) places → IsCompact block nonce places form
    → slots form.ids.items form.prefilled.items pairs ≡ seen (chosen_for block.header nonce pairs) 0 places block.txs
form_seen block nonce places form pairs rises compact =
    listed_seen block nonce places form.ids.items form.prefilled.items pairs rises (ids_are block nonce places form compact) compact.places_are compact.whole

-- ---- what pairs choose

-- none of the pairs has the id
abbrev pub NoneHas : ℕ → List Pair → Type 0
NoneHas id pairs = All (λ pair. pair.id ≢ id) pairs

-- The transaction is chosen where a pair has its id, and nothing where none has.
abbrev pub IsChosen : Option Tx → Tx → Type 0 → Type 0
IsChosen slot tx Free = ((slot ≡ Some tx) × ¬ Free) ⊎ ((slot ≡ None) × Free)

pub no_more : (list : List Pair) → suc (length list) ≤ 1 → list ≡ []
no_more [] few = refl
no_more (pair ∷ pairs) few = absurd (omega (arith, few))

pub is_chosen : (id : ℕ) (tx : Tx) (pairs : List Pair) → length (with_id id pairs) ≤ 1 → All (λ pair. pair.id ≡ id → pair.tx ≡ tx) pairs → IsChosen (choice pairs id) tx (NoneHas id pairs)
is_chosen id tx [] once own = inr (refl, All-nil (λ pair. pair.id ≢ id))
is_chosen id tx (pair ∷ pairs) once own =
    let Own : Pair → Type 0 = λ pair. pair.id ≡ id → pair.tx ≡ tx in
    go (pair.id == id) refl (All-head Own pair pairs own) (λ few. is_chosen id tx pairs few (All-tail Own pair pairs own)) where
      go : (b : Bool) → (pair.id == id) ≡ b → (pair.id ≡ id → pair.tx ≡ tx) → (length (with_id id pairs) ≤ 1 → IsChosen (choice pairs id) tx (NoneHas id pairs)) → IsChosen (choice (pair ∷ pairs) id) tx (NoneHas id (pair ∷ pairs))
      go true e first later =
          let here = ap (λ it. cond it (pair ∷ with_id id pairs) (with_id id pairs)) e in
          let few : suc (length (with_id id pairs)) ≤ 1 = subst (λ list. length list ≤ 1) here once in
          let alone = no_more (with_id id pairs) few in
          let is = eqb_is pair.id id e in
          inl (
            ap only_tx here ∙ ap (λ list. only_tx (pair ∷ list)) alone ∙ ap (λ it. Some it) (first is),
            λ none. All-head (λ pair. pair.id ≢ id) pair pairs none is,
          )
      go false e first later =
          let here = ap (λ it. cond it (pair ∷ with_id id pairs) (with_id id pairs)) e in
          let few : length (with_id id pairs) ≤ 1 = subst (λ list. length list ≤ 1) here once in
          elim (later few) [
            | inl one ↦ inl (ap only_tx here ∙ one.0, λ none. one.1 (All-tail (λ pair. pair.id ≢ id) pair pairs none))
            | inr nobody ↦ inr (ap only_tx here ∙ nobody.0, All-cons (λ pair. pair.id ≢ id) pair pairs (unequal_from pair.id id e) nobody.1)
          ]

-- ---- what is missing, and what comes of the list once it is filled

-- Each transaction at none of the places is known, or is free.
abbrev pub AreKnown : (Tx → Option Tx) → (Tx → Type 0) → ℕ → List ℕ → List Tx → Type 0
AreKnown known Free first places txs = (k : ℕ) (tx : Tx) → slice_get txs k ≡ Some tx → is_among (first + k) places ≡ false → IsChosen (known tx) tx (Free tx)

pub known_next : (known : Tx → Option Tx) (Free : Tx → Type 0) (first : ℕ) (places : List ℕ) (tx : Tx) (txs : List Tx) → AreKnown known Free first places (tx ∷ txs) → AreKnown known Free (first + 1) places txs
known_next known Free first places tx txs all k other is outside =
    let next : first + 1 + k ≡ first + suc k = omega arith in
    all (suc k) other is (sym (ap (λ n. is_among n places) next) ∙ outside)

-- What stands at the first place: its transaction, where the place is one of those or the transaction isn't free, and else
-- nothing.
abbrev pub IsHead : Option Tx → Tx → Bool → Type 0 → Type 0
IsHead slot tx among Free = ((slot ≡ Some tx) × (among ≡ false → ¬ Free)) ⊎ ((slot ≡ None) × (among ≡ false) × Free)

pub head_by : (among : Bool) (slot : Option Tx) (tx : Tx) (Free : Type 0) → (among ≡ false → IsChosen slot tx Free) → IsHead (if among then Some tx else slot) tx among Free
head_by true slot tx Free told = inl (refl, λ e. absurd (false≢true (sym e)))
head_by false slot tx Free told = elim (told refl) [
  | inl one ↦ inl (one.0, λ e. one.1)
  | inr nothing ↦ inr (nothing.0, refl, nothing.1)
]

pub head_known : (known : Tx → Option Tx) (Free : Tx → Type 0) (first : ℕ) (places : List ℕ) (tx : Tx) (txs : List Tx) → AreKnown known Free first places (tx ∷ txs) → IsHead (if is_among first places then Some tx else known tx) tx (is_among first places) (Free tx)
head_known known Free first places tx txs all =
    let here : first + 0 ≡ first = omega arith in
    head_by (is_among first places) (known tx) tx (Free tx) (λ outside. all 0 tx refl (ap (λ n. is_among n places) here ∙ outside))

-- the transactions of a list at the places at which nothing stands
abbrev pub lacked : List (Option Tx) → List Tx → List Tx
lacked [] txs = []
lacked (slot ∷ list) [] = []
lacked (Some it ∷ list) (tx ∷ txs) = lacked list txs
lacked (None ∷ list) (tx ∷ txs) = tx ∷ lacked list txs

pub filled_whole : (known : Tx → Option Tx) (Free : Tx → Type 0) (first : ℕ) (places : List ℕ) (txs : List Tx) → AreKnown known Free first places txs
    → filled (seen known first places txs) (lacked (seen known first places txs) txs) ≡ txs
filled_whole known Free first places [] all = refl
filled_whole known Free first places (tx ∷ txs) all =
    let slot = if is_among first places then Some tx else known tx in
    let list = seen known (first + 1) places txs in
    let rest = filled_whole known Free (first + 1) places txs (known_next known Free first places tx txs all) in
    elim (head_known known Free first places tx txs all) [
      | inl some ↦ ap (λ it. filled (it ∷ list) (lacked (it ∷ list) (tx ∷ txs))) some.0 ∙ ap (λ others. tx ∷ others) rest
      | inr nothing ↦ ap (λ it. filled (it ∷ list) (lacked (it ∷ list) (tx ∷ txs))) nothing.0 ∙ ap (λ others. tx ∷ others) rest
    ]

-- The transactions at the missing places are those that are lacked.
pub lacked_are : (all : List Tx) (first : ℕ) (list : List (Option Tx)) (txs : List Tx) → length list ≡ length txs → ((k : ℕ) → slice_get all (first + k) ≡ slice_get txs k) → map (slice_get all) (missing first list) ≡ map Some (lacked list txs)
lacked_are all first [] txs long are = refl
lacked_are all first (slot ∷ list) [] long are = absurd (let no : suc (length list) ≡ 0 = long in omega (arith, no))
lacked_are all first (Some it ∷ list) (tx ∷ txs) long are = lacked_are all (first + 1) list txs (omega (arith, long)) (λ k. ap (slice_get all) (omega arith) ∙ are (suc k))
lacked_are all first (None ∷ list) (tx ∷ txs) long are =
    let here : first ≡ first + 0 = omega arith in
    ap (λ it. it ∷ map (slice_get all) (missing (first + 1) list)) (ap (slice_get all) here ∙ are 0)
    ∙ ap (λ others. Some tx ∷ others) (lacked_are all (first + 1) list txs (omega (arith, long)) (λ k. ap (slice_get all) (omega arith) ∙ are (suc k)))

pub all_some : (xs ys : List Tx) → map Some xs ≡ map Some ys → xs ≡ ys
all_some [] [] e = refl
all_some [] (y ∷ ys) e = absurd cc
all_some (x ∷ xs) [] e = absurd cc
all_some (x ∷ xs) (y ∷ ys) e = let head : x ≡ y = cc in let tail : map Some xs ≡ map Some ys = cc in ap (λ it. it ∷ xs) head ∙ ap (λ list. y ∷ list) (all_some xs ys tail)

-- A missing place is none of the places, and its transaction is free.
pub missing_free : (known : Tx → Option Tx) (Free : Tx → Type 0) (first place : ℕ) (places : List ℕ) (txs : List Tx) → AreKnown known Free first places txs → Contains (missing first (seen known first places txs)) place
    → (k : ℕ) × (place ≡ first + k) × (tx : Tx) × (slice_get txs k ≡ Some tx) × (is_among place places ≡ false) × Free tx
missing_free known Free first place places [] all here = absurd (contains_none place here)
missing_free known Free first place places (tx ∷ txs) all here =
    let list = seen known (first + 1) places txs in
    let later : Contains (missing (first + 1) list) place → (k : ℕ) × (place ≡ first + k) × (it : Tx) × (slice_get (tx ∷ txs) k ≡ Some it) × (is_among place places ≡ false) × Free it =
    (λ there. let found = missing_free known Free (first + 1) place places txs (known_next known Free first places tx txs all) there in (suc found.0, omega (arith, found.1), found.2, found.3, found.4, found.5)) in
    elim (head_known known Free first places tx txs all) [
      | inl some ↦ later (subst (λ it. Contains (missing first (it ∷ list)) place) some.0 here)
      | inr nothing ↦ elim (contains_cases first place (missing (first + 1) list) (subst (λ it. Contains (missing first (it ∷ list)) place) nothing.0 here)) [
        | inl same ↦ (0, omega (arith, same), tx, refl, sym (ap (λ n. is_among n places) same) ∙ nothing.1, nothing.2)
        | inr there ↦ later there
      ]
    ]

-- A free transaction at none of the places has a missing place.
pub free_missing : (known : Tx → Option Tx) (Free : Tx → Type 0) (first k : ℕ) (places : List ℕ) (txs : List Tx) (it : Tx) → AreKnown known Free first places txs → slice_get txs k ≡ Some it → is_among (first + k) places ≡ false → Free it
    → Contains (missing first (seen known first places txs)) (first + k)
free_missing known Free first k places [] it all is outside free = absurd cc
free_missing known Free first zero places (tx ∷ txs) it all is outside free =
    let list = seen known (first + 1) places txs in
    let here : first + 0 ≡ first = omega arith in
    let among : is_among first places ≡ false = sym (ap (λ n. is_among n places) here) ∙ outside in
    let same : tx ≡ it = some_is tx it is in
    elim (head_known known Free first places tx txs all) [
      | inl some ↦ absurd (some.1 among (subst Free (sym same) free))
      | inr nothing ↦ subst (λ slot. Contains (missing first (slot ∷ list)) (first + 0)) (sym nothing.0) (subst (Contains (first ∷ missing (first + 1) list)) (sym here) (contains_first first (missing (first + 1) list)))
    ]
free_missing known Free first (suc k) places (tx ∷ txs) it all is outside free =
    let list = seen known (first + 1) places txs in
    let next : first + 1 + k ≡ first + suc k = omega arith in
    let there = free_missing known Free (first + 1) k places txs it (known_next known Free first places tx txs all) is (ap (λ n. is_among n places) next ∙ outside) free in
    let later = subst (Contains (missing (first + 1) list)) next there in
    elim (head_known known Free first places tx txs all) [
      | inl some ↦ subst (λ slot. Contains (missing first (slot ∷ list)) (first + suc k)) (sym some.0) later
      | inr nothing ↦ subst (λ slot. Contains (missing first (slot ∷ list)) (first + suc k)) (sym nothing.0) (contains_later first (first + suc k) (missing (first + 1) list) later)
    ]

-- ---- the law

pub zero_more : (k : ℕ) → 0 + k ≡ k
zero_more k = omega arith

-- What the pairs choose is the block's own.
pub own_known : (block : Block) (nonce : ℕ) (places : List ℕ) (pairs : List Pair) → AreOwn block nonce places pairs
    → AreKnown (chosen_for block.header nonce pairs) (λ tx. NoneHas (id_of block.header nonce tx) pairs) 0 places block.txs
own_known block nonce places pairs own place tx is outside =
    let same : place ≡ 0 + place = omega arith in
    let none : ¬ Contains places place = not_contained place places (ap (λ n. is_among n places) same ∙ outside) in
    is_chosen (id_of block.header nonce tx) tx pairs (own.once place tx (is, none)) (own.hold place tx (is, none))

pub unserved : (block : Block) (nonce : ℕ) (places : List ℕ) (pairs : List Pair) → AreOwn block nonce places pairs
    → AreUnserved block nonce places pairs (missing 0 (seen (chosen_for block.header nonce pairs) 0 places block.txs))
unserved block nonce places pairs own =
    let txs = block.txs in
    let known = chosen_for block.header nonce pairs in
    let Free : Tx → Type 0 = λ tx. NoneHas (id_of block.header nonce tx) pairs in
    let all = own_known block nonce places pairs own in
    record {
      rise = missing_rise 0 (length txs) (seen known 0 places txs) (omega (arith, length_seen known 0 places txs));
      exact = λ place. let same : 0 + place ≡ place = omega arith in (
        λ here. let found = missing_free known Free 0 place places txs all here in
            let at : place ≡ found.0 = found.1 ∙ zero_more found.0 in (found.2, (ap (slice_get txs) at ∙ found.3, not_contained place places found.4), found.5),
        λ there. subst (Contains (missing 0 (seen known 0 places txs))) same
            (free_missing known Free 0 place places txs there.0 all there.1.0 (ap (λ n. is_among n places) same ∙ not_among place places there.1.1) there.2),
      );
    }

pub again : (block : Block) (nonce : ℕ) (places : List ℕ) (pairs : List Pair) → AreOwn block nonce places pairs → (list : List (Option Tx)) → list ≡ seen (chosen_for block.header nonce pairs) 0 places block.txs
    → (txs : List Tx) → map (slice_get block.txs) (missing 0 list) ≡ map Some txs → filled list txs ≡ block.txs
again block nonce places pairs own list is txs at =
    let all = block.txs in
    let known = chosen_for block.header nonce pairs in
    let Free : Tx → Type 0 = λ tx. NoneHas (id_of block.header nonce tx) pairs in
    let there = seen known 0 places all in
    let wanted = lacked_are all 0 there all (length_seen known 0 places all) (λ k. let same : 0 + k ≡ k = omega arith in ap (slice_get all) same) in
    let same : txs ≡ lacked there all = all_some txs (lacked there all) (sym at ∙ ap (λ them. map (slice_get all) (missing 0 them)) is ∙ wanted) in
    ap (λ them. filled them txs) is ∙ ap (filled there) same ∙ filled_whole known Free 0 places all (own_known block nonce places pairs own)

-- What comes of the block's own list under its header is the block.
pub is_sound_block : (block : Block) (header : Header) (list : List Tx) (told : Filled) → IsSoundBlock block → header ≡ block.header → list ≡ block.txs → IsFilled header list told → told ≡ Sound block
is_sound_block block header list (Sound it) sound same are is =
    let here : it ≡ block = is.0 ∙ ap (λ h. record { header = h; txs = list }) same ∙ ap (λ txs. record { header = block.header; txs = txs }) are in
    ap (λ it. Sound it) here
is_sound_block block header list Wrong sound same are is =
    absurd (is (subst (λ txs. IsSound header.root (texts txs)) (sym are) (subst (λ h. IsSound h.root (texts block.txs)) (sym same) sound)))

pub rebuilt : (block : Block) (nonce : ℕ) (places : List ℕ) (form : Compact) (pairs : List Pair) → IsHonest block nonce places form → AreOwn block nonce places pairs
    → (placed : Placed) → IsPlaced form.header form.ids.items form.prefilled.items pairs placed → IsRebuilt block nonce places pairs placed
rebuilt block nonce places form pairs honest own Repeat repeats = repeats honest.different
rebuilt block nonce places form pairs honest own (Whole whole) (different, none, is) =
    let list = form_seen block nonce places form pairs honest.rise honest.compact in
    let at = ap (map (slice_get block.txs)) none in (
      subst (AreUnserved block nonce places pairs) (sym (ap (missing 0) list) ∙ none) (unserved block nonce places pairs own),
      is_sound_block block form.header (filled (slots form.ids.items form.prefilled.items pairs) []) whole honest.sound honest.compact.header
          (again block nonce places pairs own (slots form.ids.items form.prefilled.items pairs) list [] at) is,
    )
rebuilt block nonce places form pairs honest own (Missing lacking partial) (different, some, are, is) =
    let list = form_seen block nonce places form pairs honest.rise honest.compact in
    let stand : partial.slots ≡ slots form.ids.items form.prefilled.items pairs = ap (λ it. it.slots) is in
    let header : partial.header ≡ block.header = ap (λ it. it.header) is ∙ honest.compact.header in
    let here : partial.slots ≡ seen (chosen_for block.header nonce pairs) 0 places block.txs = stand ∙ list in
    let told : lacking.items ≡ missing 0 partial.slots = are ∙ sym (ap (missing 0) stand) in (
      subst (AreUnserved block nonce places pairs) (sym (told ∙ ap (missing 0) here)) (unserved block nonce places pairs own),
      λ txs at. let asked = sym (ap (map (slice_get block.txs)) told) ∙ at in (
        sym (sym (length-map (missing 0 partial.slots) (slice_get block.txs)) ∙ ap length asked ∙ length-map txs Some),
        λ filling comes. is_sound_block block partial.header (filled partial.slots txs) filling honest.sound header (again block nonce places pairs own partial.slots here txs asked) comes,
      ),
    )

-- ---- how many places there are

pub length_left : {A : Type 0} (first total : ℕ) (places : List ℕ) (xs : List A) → total ≡ first + length xs → Rise first total places → length (left_out first places xs) + length places ≡ length xs
length_left first total [] xs all rises = omega arith
length_left first total (place ∷ places) xs all (low, below, rest) =
    let behind : total ≡ place + 1 + length (drop (place - first + 1) xs) = omega (arith, length-drop (place - first + 1) xs, all, low, below) in
    let others = length_left (place + 1) total places (drop (place - first + 1) xs) behind rest in
    omega (
      arith,
      length-append (take (place - first) xs) (left_out (place + 1) places (drop (place - first + 1) xs)),
      length-take (place - first) xs,
      length-drop (place - first + 1) xs,
      others,
      all,
      low,
      below,
    )

pub as_many : (block : Block) (nonce : ℕ) (places : List ℕ) (form : Compact) → Rise 0 (length block.txs) places → IsCompact block nonce places form → length form.ids.items + length form.prefilled.items ≡ length block.txs
as_many block nonce places form rises compact =
    let named = names (texts block.txs) in
    let long : length named ≡ length block.txs = length-map (texts block.txs) double_hash ∙ length-map block.txs tx_text in
    let ids : length form.ids.items ≡ length (left_out 0 places named) = ap length compact.ids ∙ length-map (left_out 0 places named) (short_id_of (key_of block.header nonce)) in
    let given : length form.prefilled.items ≡ length places = sym (length-map form.prefilled.items (λ given. given.place)) ∙ ap length compact.places_are in
    let counted = length_left 0 (length named) places named (omega arith) (subst (λ n. Rise 0 n places) (sym long) rises) in
    omega (arith, long, ids, given, counted)

pub fits : (block : Block) (nonce : ℕ) (places : List ℕ) (form : Compact) → IsHonest block nonce places form
    → Rise 0 (length form.ids.items + length form.prefilled.items) (places_of form.prefilled.items) × (0 < length form.ids.items + length form.prefilled.items)
fits block nonce places form honest =
    let many = as_many block nonce places form honest.rise honest.compact in
    let some : 0 < length block.txs = subst (λ n. 0 < n) (length-map block.txs tx_text) honest.sound.some in (
      subst (λ n. Rise 0 n (places_of form.prefilled.items)) (sym many) (subst (Rise 0 (length block.txs)) (sym honest.compact.places_are) honest.rise),
      subst (λ n. 0 < n) (sym many) some,
    )
