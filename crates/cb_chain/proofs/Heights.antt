-- The heights of hashes on the active chain, and the headers that follow.
use Rattle.std.proofs.Common.{◌≡◌, ℕ, zero, suc, ◌+◌, ◌-◌, ◌<◌, ◌≤◌, Bool, true, false, cond, ltb, List, [], ◌∷◌, ◌++◌, length, get_or, min, take, drop, Some, None, Option, refl, sym, ap, subst, ◌∙◌, arith, inl, inr, add-zero}
use Rattle.std.specs.Prelude.{if◌then◌else◌, slice_get, unwrap_or}
use Rattle.std.proofs.lemmas.Bool.{cases_Bool, cases_lt, ltb-false}
use Rattle.std.proofs.lemmas.List.{append_assoc, append-nil, at_drop_all, at_drop_more, drop_all, drop_more, get_or-drop, length-drop, length-take, take_all, take_at, take_more, take_rest}
use Rattle.std.proofs.lemmas.Option.{get_or_from_slice_get, same_Some, slice_get-get_or, slice_get_past, slice_get_read}
use Rattle.cb_base.specs.declared.hash.Hash256.{Hash256}
use Rattle.cb_block.specs.declared.header.Header.{Header}
use Rattle.cb_chain.specs.Marking.{BlockIndex}
use Rattle.cb_chain.specs.Entries.{Tree, block_hash, genesis_hash, same}
use Rattle.cb_chain.specs.Best.{active, best, branch}
use Rattle.cb_chain.specs.Following.{above_branch, headers_above, place_in, start_of, up_to}
use Rattle.cb_chain.specs.Keeping.{tree_of, place_of, way, active_places, IsFork, IsTree}
use Rattle.cb_chain.proofs.BlockIndexes.{same-true, same-refl, same-symm, found}
use Rattle.cb_chain.proofs.PathsDown.{Active, active_at, active_past, active_slot, index_named, slot_is, slot_within, length_active, length_places}

-- ---- the height of a hash among headers

-- the hash doesn't stand at a place
abbrev Misses : List Header → Hash256 → ℕ → Type 0
Misses headers hash i = (header : Header) → slice_get headers i ≡ Some header → same hash (block_hash header) ≡ false

place_none : (headers : List Header) (height : ℕ) (hash : Hash256) → ((i : ℕ) → Misses headers hash i) → place_in headers height hash ≡ None
place_none [] height hash missed = refl
place_none (header ∷ headers) height hash missed =
    rw (missed 0 header refl) (place_none headers (suc height) hash (λ i. missed (suc i)))

place_some : (headers : List Header) (height : ℕ) (hash : Hash256) (i : ℕ) (header : Header) → slice_get headers i ≡ Some header → same hash (block_hash header) ≡ true → ((j : ℕ) → j < i → Misses headers hash j)
    → place_in headers height hash ≡ Some (height + i)
place_some [] height hash i header at is missed = absurd (let none : None ≡ Some header = at in cc)
place_some (first ∷ headers) height hash zero header at is missed =
    let one : first ≡ header = same_Some first header at in
    let on : same hash (block_hash first) ≡ true = ap (λ (h : Header). same hash (block_hash h)) one ∙ is in
    rw on (ap Some (sym (add-zero height)))
place_some (first ∷ headers) height hash (suc i) header at is missed =
    let more : suc height + i ≡ height + suc i = omega arith in
    rw (missed 0 (omega arith) first refl) (place_some headers (suc height) hash i header at is (λ j lt. missed (suc j) (omega arith)) ∙ ap Some more)

-- ---- the height of a hash on the active chain

-- a hash on the active chain is that of the active block's block index, and nothing newer has it
record Hit (block_indexes : List BlockIndex) (hash : Hash256) (height : ℕ) : Type 0 where
  there : Active block_indexes height
  newest : place_of (tree_of block_indexes) hash ≡ Some there.place

hit : (block_indexes : List BlockIndex) (hash : Hash256) (height : ℕ) (header : Header) → IsTree block_indexes → slice_get (active (tree_of block_indexes)) height ≡ Some header → same hash (block_hash header) ≡ true → Hit block_indexes hash height
hit block_indexes hash height header is at on =
    elim (cases_lt (length (way (tree_of block_indexes) (best (tree_of block_indexes)))) height) [
      | inl past ↦ absurd (let none : None ≡ Some header = sym (active_past block_indexes height is past).1 ∙ at in cc)
      | inr le ↦
          let there = active_at block_indexes height is le in
          let one : there.block_index.header ≡ header = same_Some there.block_index.header header (sym there.header ∙ at) in
          let name : hash ≡ there.block_index.hash = same-true hash (block_hash header) on ∙ ap block_hash (sym one) ∙ sym there.hash in
          record { there = there; newest = ap (place_of (tree_of block_indexes)) name ∙ there.newest }
    ]

-- so it stands there once
hit_level : (block_indexes : List BlockIndex) (hash : Hash256) (place : ℕ) (block_index : BlockIndex) (height : ℕ) → place_of (tree_of block_indexes) hash ≡ Some place → slice_get block_indexes place ≡ Some block_index → (h : Hit block_indexes hash height)
    → (height ≡ block_index.height) × (h.there.place ≡ place)
hit_level block_indexes hash place block_index height e at h =
    let same_place : h.there.place ≡ place = same_Some h.there.place place (sym h.newest ∙ e) in
    let one : h.there.block_index ≡ block_index = same_Some h.there.block_index block_index (sym h.there.at ∙ ap (slice_get block_indexes) same_place ∙ at) in
    (sym h.there.level ∙ ap (λ (n : BlockIndex). n.height) one, same_place)

misses : (block_indexes : List BlockIndex) (hash : Hash256) (height : ℕ) → IsTree block_indexes → (Hit block_indexes hash height → ⊥) → Misses (active (tree_of block_indexes)) hash height
misses block_indexes hash height is none header at =
    elim (cases_Bool (same hash (block_hash header))) [
      | inl on ↦ absurd (none (hit block_indexes hash height header is at on))
      | inr off ↦ off
    ]

unknown_in : (block_indexes : List BlockIndex) (hash : Hash256) → IsTree block_indexes → place_of (tree_of block_indexes) hash ≡ None → place_in (active (tree_of block_indexes)) 0 hash ≡ None
unknown_in block_indexes hash is e =
    place_none (active (tree_of block_indexes)) 0 hash (λ i. misses block_indexes hash i is (λ h. let none : None ≡ Some h.there.place = sym e ∙ h.newest in (cc)))

known_in : (block_indexes : List BlockIndex) (hash : Hash256) (place : ℕ) (block_index : BlockIndex) → IsTree block_indexes → place_of (tree_of block_indexes) hash ≡ Some place → slice_get block_indexes place ≡ Some block_index
    → slice_get (active_places (tree_of block_indexes)) block_index.height ≡ Some place → place_in (active (tree_of block_indexes)) 0 hash ≡ Some block_index.height
known_in block_indexes hash place block_index is e at slot =
    let there = active_slot block_indexes block_index.height place is slot in
    let one : there.0.block_index ≡ block_index = same_Some there.0.block_index block_index (sym there.0.at ∙ ap (slice_get block_indexes) there.1 ∙ at) in
    let by_hash = found block_indexes hash place is e in
    let named : by_hash.block_index ≡ block_index = same_Some by_hash.block_index block_index (sym by_hash.at ∙ at) in
    let name : hash ≡ block_hash there.0.block_index.header = sym by_hash.name ∙ ap (λ (n : BlockIndex). n.hash) (named ∙ sym one) ∙ there.0.hash in
    let on : same hash (block_hash there.0.block_index.header) ≡ true = subst (λ (h : Hash256). same hash h ≡ true) name (same-refl hash) in
    place_some (active (tree_of block_indexes)) 0 hash block_index.height there.0.block_index.header there.0.header on
    (λ j lt. misses block_indexes hash j is (λ h. let level : j ≡ block_index.height = (hit_level block_indexes hash place block_index j e at h).0 in omega arith))
    ∙ ap Some (omega arith)

elsewhere_in : (block_indexes : List BlockIndex) (hash : Hash256) (place : ℕ) (block_index : BlockIndex) → IsTree block_indexes → place_of (tree_of block_indexes) hash ≡ Some place → slice_get block_indexes place ≡ Some block_index
    → (slice_get (active_places (tree_of block_indexes)) block_index.height ≡ Some place → ⊥) → place_in (active (tree_of block_indexes)) 0 hash ≡ None
elsewhere_in block_indexes hash place block_index is e at other =
    place_none (active (tree_of block_indexes)) 0 hash
    (λ i. misses block_indexes hash i is (λ h. let l = hit_level block_indexes hash place block_index i e at h in other (subst (λ (j : ℕ). slice_get (active_places (tree_of block_indexes)) j ≡ Some place) l.0 (h.there.slot ∙ ap Some l.1))))

-- what `active_height` answers
pub height_unknown : (block_indexes : List BlockIndex) (tree : Tree) (hash : Hash256) → IsTree block_indexes → tree_of block_indexes ≡ tree → None ≡ place_of (tree_of block_indexes) hash → None ≡ place_in (active tree) 0 hash
height_unknown block_indexes tree hash is seen e = sym (unknown_in block_indexes hash is (sym e)) ∙ ap (λ (t : Tree). place_in (active t) 0 hash) seen

pub height_known : (block_indexes : List BlockIndex) (tree : Tree) (hash : Hash256) (places : List ℕ) (place : ℕ) (block_index : BlockIndex) (other : ℕ) → IsTree block_indexes → tree_of block_indexes ≡ tree → Some place ≡ place_of (tree_of block_indexes) hash
    → slice_get block_indexes place ≡ Some block_index → places ≡ active_places (tree_of block_indexes) → true ≡ ltb block_index.height (length places) → other ≡ get_or places block_index.height other → other ≡ place
    → Some block_index.height ≡ place_in (active tree) 0 hash
height_known block_indexes tree hash places place block_index other is seen e at are in_range look one =
    let slot = slot_is (tree_of block_indexes) places block_index.height other are in_range look in
    sym (known_in block_indexes hash place block_index is (sym e) at (slot ∙ ap Some one)) ∙ ap (λ (t : Tree). place_in (active t) 0 hash) seen

pub height_other : (block_indexes : List BlockIndex) (tree : Tree) (hash : Hash256) (places : List ℕ) (place : ℕ) (block_index : BlockIndex) (other : ℕ) → IsTree block_indexes → tree_of block_indexes ≡ tree → Some place ≡ place_of (tree_of block_indexes) hash
    → slice_get block_indexes place ≡ Some block_index → places ≡ active_places (tree_of block_indexes) → true ≡ ltb block_index.height (length places) → other ≡ get_or places block_index.height other → (other ≡ place → ⊥)
    → None ≡ place_in (active tree) 0 hash
height_other block_indexes tree hash places place block_index other is seen e at are in_range look differ =
    let slot = slot_is (tree_of block_indexes) places block_index.height other are in_range look in
    sym (elsewhere_in block_indexes hash place block_index is (sym e) at (λ here. differ (same_Some other place (sym slot ∙ here)))) ∙ ap (λ (t : Tree). place_in (active t) 0 hash) seen

pub height_past : (block_indexes : List BlockIndex) (tree : Tree) (hash : Hash256) (places : List ℕ) (place : ℕ) (block_index : BlockIndex) → IsTree block_indexes → tree_of block_indexes ≡ tree → Some place ≡ place_of (tree_of block_indexes) hash
    → slice_get block_indexes place ≡ Some block_index → places ≡ active_places (tree_of block_indexes) → false ≡ ltb block_index.height (length places) → None ≡ place_in (active tree) 0 hash
height_past block_indexes tree hash places place block_index is seen e at are past =
    let beyond : length places ≤ block_index.height = ltb-false block_index.height (length places) (sym past) in
    let none : slice_get (active_places (tree_of block_indexes)) block_index.height ≡ None = subst (λ (ps : List ℕ). slice_get ps block_index.height ≡ None) are (slice_get_past places block_index.height beyond) in
    sym (elsewhere_in block_indexes hash place block_index is (sym e) at (λ here. let never : None ≡ Some place = sym none ∙ here in (cc))) ∙ ap (λ (t : Tree). place_in (active t) 0 hash) seen

-- ---- where a locator begins

pub start_here : (headers : List Header) (locator : List Hash256) (i height : ℕ) (d : Hash256) → i < length locator → start_of headers (drop i locator) ≡ start_of headers locator
    → Some height ≡ place_in headers 0 (get_or locator i d) → height ≡ start_of headers locator
start_here headers locator i height d lt so e =
    ap (λ (o : Option ℕ). unwrap_or o (start_of headers (drop (i + 1) locator))) e ∙ sym (at_drop_more (start_of headers) locator i d lt) ∙ so

pub start_later : (headers : List Header) (locator : List Hash256) (i : ℕ) (d : Hash256) → i < length locator → start_of headers (drop i locator) ≡ start_of headers locator
    → None ≡ place_in headers 0 (get_or locator i d) → start_of headers (drop (i + 1) locator) ≡ start_of headers locator
start_later headers locator i d lt so e =
    ap (λ (o : Option ℕ). unwrap_or o (start_of headers (drop (i + 1) locator))) e ∙ sym (at_drop_more (start_of headers) locator i d lt) ∙ so

pub start_never : (headers : List Header) (locator : List Hash256) (i : ℕ) → length locator ≤ i → start_of headers (drop i locator) ≡ start_of headers locator → 0 ≡ start_of headers locator
start_never headers locator i le so = sym (at_drop_all (start_of headers) locator i le) ∙ so

-- ---- the headers that follow

-- the active places above a height, as the code cuts them out
abbrev pub rest_of : List ℕ → ℕ → List ℕ
rest_of places height = take (length places - (height + 1)) (drop (height + 1) places)

abbrev pub followers : List BlockIndex → ℕ → List Header
followers block_indexes height = drop (suc height) (active (tree_of block_indexes))

length_rest : (places : List ℕ) (height : ℕ) → length (rest_of places height) ≡ length places - (height + 1)
length_rest places height = ap length (take_rest places (height + 1)) ∙ length-drop (height + 1) places

length_followers : (block_indexes : List BlockIndex) (places : List ℕ) (height : ℕ) → IsTree block_indexes → places ≡ active_places (tree_of block_indexes) → length (followers block_indexes height) ≡ length (rest_of places height)
length_followers block_indexes places height is are =
    let long : length places ≡ length (active (tree_of block_indexes)) = ap length are ∙ length_places (tree_of block_indexes) ∙ sym (length_active block_indexes is) in
    length-drop (suc height) (active (tree_of block_indexes)) ∙ omega (arith, length_rest places height, long)

rest_slot : (tree : Tree) (places : List ℕ) (height i : ℕ) → places ≡ active_places tree → i < length (rest_of places height) → slice_get (active_places tree) (suc height + i) ≡ Some (get_or (rest_of places height) i 0)
rest_slot tree places height i are lt =
    let place : get_or (rest_of places height) i 0 ≡ get_or places (suc height + i) 0 =
    ap (λ (ps : List ℕ). get_or ps i 0) (take_rest places (height + 1)) ∙ get_or-drop (height + 1) places i 0 ∙ (let at : (height + 1) + i ≡ suc height + i = omega arith in ap (λ (k : ℕ). get_or places k 0) at)
    in
    let within : suc height + i < length places = omega (arith, lt, length_rest places height) in
    subst (λ (ps : List ℕ). slice_get ps (suc height + i) ≡ Some (get_or (rest_of places height) i 0)) are (slice_get-get_or places (suc height + i) 0 within ∙ ap Some (sym place))

pub rest_within : (block_indexes : List BlockIndex) (places : List ℕ) (height i : ℕ) → IsTree block_indexes → places ≡ active_places (tree_of block_indexes) → i < length (rest_of places height) → get_or (rest_of places height) i 0 < length block_indexes
rest_within block_indexes places height i is are lt = slot_within block_indexes (suc height + i) (get_or (rest_of places height) i 0) is (rest_slot (tree_of block_indexes) places height i are lt)

-- the header of the next block index is the next that follows
rest_header : (block_indexes : List BlockIndex) (places : List ℕ) (height i : ℕ) (block_index : BlockIndex) (d : Header) → IsTree block_indexes → places ≡ active_places (tree_of block_indexes) → i < length (rest_of places height)
    → slice_get block_indexes (get_or (rest_of places height) i 0) ≡ Some block_index → get_or (followers block_indexes height) i d ≡ block_index.header
rest_header block_indexes places height i block_index d is are lt at =
    let there = active_slot block_indexes (suc height + i) (get_or (rest_of places height) i 0) is (rest_slot (tree_of block_indexes) places height i are lt) in
    let one : there.0.block_index ≡ block_index = same_Some there.0.block_index block_index (sym there.0.at ∙ ap (slice_get block_indexes) there.1 ∙ at) in
    get_or-drop (suc height) (active (tree_of block_indexes)) i d ∙ get_or_from_slice_get (active (tree_of block_indexes)) (suc height + i) there.0.block_index.header d there.0.header ∙ ap (λ (n : BlockIndex). n.header) one

pub follow_more : (block_indexes : List BlockIndex) (places : List ℕ) (height i : ℕ) (block_index : BlockIndex) (items : List Header) → IsTree block_indexes → places ≡ active_places (tree_of block_indexes) → i < length (rest_of places height)
    → slice_get block_indexes (get_or (rest_of places height) i 0) ≡ Some block_index → items ≡ take i (followers block_indexes height) → items ++ block_index.header ∷ [] ≡ take (i + 1) (followers block_indexes height)
follow_more block_indexes places height i block_index items is are lt at so =
    let line = followers block_indexes height in
    let header = rest_header block_indexes places height i block_index block_index.header is are lt at in
    ap (λ (hs : List Header). hs ++ block_index.header ∷ []) so ∙ ap (λ (h : Header). take i line ++ h ∷ []) (sym header) ∙ sym (take_more line i block_index.header (omega (arith, lt, length_followers block_indexes places height is are)))

pub follow_all : (block_indexes : List BlockIndex) (places : List ℕ) (height i : ℕ) → IsTree block_indexes → places ≡ active_places (tree_of block_indexes) → length (rest_of places height) ≤ i → take i (followers block_indexes height) ≡ followers block_indexes height
follow_all block_indexes places height i is are le = take_all i (followers block_indexes height) (omega (arith, le, length_followers block_indexes places height is are))

-- where none follows

pub rest_none : (block_indexes : List BlockIndex) (places : List ℕ) (height : ℕ) → IsTree block_indexes → places ≡ active_places (tree_of block_indexes) → followers block_indexes height ≡ [] → length places - height - 1 ≡ 0
rest_none block_indexes places height is are none = omega (arith, ap length none, length_followers block_indexes places height is are, length_rest places height)

pub rest_some : (block_indexes : List BlockIndex) (places : List ℕ) (height i : ℕ) → IsTree block_indexes → places ≡ active_places (tree_of block_indexes) → i < length (rest_of places height) → followers block_indexes height ≡ [] → ⊥
rest_some block_indexes places height i is are lt none = omega (arith, lt, ap length none, length_followers block_indexes places height is are)

pub up_to_none : (stop : Hash256) (line : List Header) → take 2000 (up_to stop line) ≡ [] → line ≡ []
up_to_none stop [] e = refl
up_to_none stop (header ∷ headers) e =
    let rest : List Header = if same stop (block_hash header) then [] else up_to stop headers in
    let long : min 2000 (suc (length rest)) ≡ 0 = sym (length-take 2000 (header ∷ rest)) ∙ ap length e in
    absurd (omega arith)

-- ---- up to the stop

-- what was taken, with nothing of it the stop
pub record Taken (stop : Hash256) (line : List Header) (i : ℕ) (items : List Header) : Type 0 where
  pub few : i ≤ 2000
  pub within : i ≤ length line
  pub taken : items ≡ take i line
  pub going : up_to stop line ≡ take i line ++ up_to stop (drop i line)

pub taken_starts : (stop : Hash256) (line items : List Header) → items ≡ [] → Taken stop line 0 items
taken_starts stop line items none = record { few = omega arith; within = omega arith; taken = none; going = refl }

taken_next : (stop : Hash256) (line items : List Header) (i : ℕ) (header : Header) → Taken stop line i items → i < length line → get_or line i header ≡ header
    → up_to stop line ≡ take i line ++ header ∷ cond (same stop (block_hash header)) [] (up_to stop (drop (i + 1) line))
taken_next stop line items i header t lt at =
    let next : drop i line ≡ header ∷ drop (i + 1) line = drop_more line i header lt ∙ ap (λ (h : Header). h ∷ drop (i + 1) line) at in
    t.going ∙ ap (λ (hs : List Header). take i line ++ up_to stop hs) next

taken_push : (line items : List Header) (i : ℕ) (header : Header) → i < length line → get_or line i header ≡ header → items ≡ take i line → items ++ header ∷ [] ≡ take (i + 1) line
taken_push line items i header lt at so = ap (λ (hs : List Header). hs ++ header ∷ []) so ∙ ap (λ (h : Header). take i line ++ h ∷ []) (sym at) ∙ sym (take_more line i header lt)

taken_more : (stop : Hash256) (line items : List Header) (i : ℕ) (header : Header) → Taken stop line i items → i < length line → i < 2000 → get_or line i header ≡ header → same stop (block_hash header) ≡ false
    → Taken stop line (i + 1) (items ++ header ∷ [])
taken_more stop line items i header t lt few at off =
    let push = taken_push line items i header lt at t.taken in
    let rest = up_to stop (drop (i + 1) line) in
    record {
      few = omega arith;
      within = omega arith;
      taken = push;
      going = taken_next stop line items i header t lt at ∙ ap (λ (b : Bool). take i line ++ header ∷ cond b [] rest) off
          ∙ sym (append_assoc (take i line) (header ∷ []) rest) ∙ ap (λ (hs : List Header). hs ++ rest) (ap (λ (hs : List Header). hs ++ header ∷ []) (sym t.taken) ∙ push);
    }

taken_stop : (stop : Hash256) (line items : List Header) (i : ℕ) (header : Header) → Taken stop line i items → i < length line → i < 2000 → get_or line i header ≡ header → same stop (block_hash header) ≡ true
    → items ++ header ∷ [] ≡ take 2000 (up_to stop line)
taken_stop stop line items i header t lt few at on =
    let all : up_to stop line ≡ items ++ header ∷ [] =
    taken_next stop line items i header t lt at ∙ ap (λ (b : Bool). take i line ++ header ∷ cond b [] (up_to stop (drop (i + 1) line))) on ∙ ap (λ (hs : List Header). hs ++ header ∷ []) (sym t.taken)
    in
    let long : length (items ++ header ∷ []) ≡ min (i + 1) (length line) = ap length (taken_push line items i header lt at t.taken) ∙ length-take (i + 1) line in
    sym (ap (take 2000) all ∙ take_all 2000 (items ++ header ∷ []) (omega (arith, long)))

taken_long : (stop : Hash256) (line items : List Header) (i : ℕ) → Taken stop line i items → length items ≡ i
taken_long stop line items i t = ap length t.taken ∙ length-take i line ∙ omega (arith, t.within)

pub taken_full : (stop : Hash256) (line items : List Header) (i : ℕ) → Taken stop line i items → length items ≡ 2000 → items ≡ take 2000 (up_to stop line)
taken_full stop line items i t full =
    let long = taken_long stop line items i t in
    let all : up_to stop line ≡ items ++ up_to stop (drop i line) = t.going ∙ ap (λ (hs : List Header). hs ++ up_to stop (drop i line)) (sym t.taken) in
    sym (ap (take 2000) all ∙ take_at items (up_to stop (drop i line)) 2000 full)

pub taken_all : (stop : Hash256) (line items : List Header) (i : ℕ) → Taken stop line i items → length line ≤ i → items ≡ take 2000 (up_to stop line)
taken_all stop line items i t le =
    let long = taken_long stop line items i t in
    let none : drop i line ≡ [] = drop_all i line le in
    let all : up_to stop line ≡ items = t.going ∙ ap (λ (hs : List Header). take i line ++ up_to stop hs) none ∙ append-nil (take i line) ∙ sym t.taken in
    sym (ap (take 2000) all ∙ take_all 2000 items (omega (arith, long, t.few)))

-- one block index more
module _ (block_indexes : List BlockIndex) (places : List ℕ) (height i : ℕ) (block_index : BlockIndex) (stop : Hash256) (items : List Header) (is : IsTree block_indexes) (are : places ≡ active_places (tree_of block_indexes)) (lt : i < length (rest_of places height))
    (at : slice_get block_indexes (get_or (rest_of places height) i 0) ≡ Some block_index) (t : Taken stop (followers block_indexes height) i items) (room : length items ≡ 2000 → ⊥) where
  few : i < 2000
  few = let long = taken_long stop (followers block_indexes height) items i t in let other : i ≡ 2000 → ⊥ = λ full. room (long ∙ full) in omega (arith, t.few, other)

  in_line : i < length (followers block_indexes height)
  in_line = omega (arith, lt, length_followers block_indexes places height is are)

  next_is : get_or (followers block_indexes height) i block_index.header ≡ block_index.header
  next_is = rest_header block_indexes places height i block_index block_index.header is are lt at

  test_is : same block_index.hash stop ≡ same stop (block_hash block_index.header)
  test_is = same-symm block_index.hash stop ∙ ap (same stop) (index_named block_indexes (get_or (rest_of places height) i 0) block_index is at)

  pub to_more : same block_index.hash stop ≡ false → Taken stop (followers block_indexes height) (i + 1) (items ++ block_index.header ∷ [])
  to_more off = taken_more stop (followers block_indexes height) items i block_index.header t in_line few next_is (sym test_is ∙ off)

  pub to_stop : same block_index.hash stop ≡ true → items ++ block_index.header ∷ [] ≡ take 2000 (up_to stop (followers block_indexes height))
  to_stop on = taken_stop stop (followers block_indexes height) items i block_index.header t in_line few next_is (sym test_is ∙ on)

pub to_all : (block_indexes : List BlockIndex) (places : List ℕ) (height i : ℕ) (stop : Hash256) (items : List Header) → IsTree block_indexes → places ≡ active_places (tree_of block_indexes) → length (rest_of places height) ≤ i
    → Taken stop (followers block_indexes height) i items → items ≡ take 2000 (up_to stop (followers block_indexes height))
to_all block_indexes places height i stop items is are le t = taken_all stop (followers block_indexes height) items i t (omega (arith, le, length_followers block_indexes places height is are))

-- ---- the block index of a height, and the branch of an unknown hash

pub slot_read : (block_indexes : List BlockIndex) (tree : Tree) (places : List ℕ) (height place : ℕ) → tree_of block_indexes ≡ tree → places ≡ active_places (tree_of block_indexes) → height < length (active_places tree) → place ≡ get_or places height place
    → slice_get (active_places (tree_of block_indexes)) height ≡ Some place
slot_read block_indexes tree places height place seen are lt e =
    let within : height < length places = omega (arith, lt, ap length are, ap (λ (t : Tree). length (active_places t)) seen) in
    subst (λ (ps : List ℕ). slice_get ps height ≡ Some place) are (slice_get_read places (length places) height place refl within e)

pub slot_level : (block_indexes : List BlockIndex) (height place : ℕ) (block_index : BlockIndex) → IsTree block_indexes → slice_get (active_places (tree_of block_indexes)) height ≡ Some place → slice_get block_indexes place ≡ Some block_index → block_index.height ≡ height
slot_level block_indexes height place block_index is slot at =
    let there = active_slot block_indexes height place is slot in
    let one : there.0.block_index ≡ block_index = same_Some there.0.block_index block_index (sym there.0.at ∙ ap (slice_get block_indexes) there.1 ∙ at) in
    ap (λ (n : BlockIndex). n.height) (sym one) ∙ there.0.level

none_chosen : (b : Bool) (x : ℕ) (o : Option ℕ) → cond b (Some x) o ≡ None → (b ≡ false) × (o ≡ None)
none_chosen true x o e = absurd cc
none_chosen false x o e = (refl, e)

branch_none : (tree : Tree) (hash : Hash256) → place_of tree hash ≡ None → branch tree hash ≡ []
unfolding branch
branch_none [] hash e = rw (none_chosen (same hash genesis_hash) 0 None e).0 refl
branch_none (entry ∷ older) hash e =
    let off = none_chosen (same hash (block_hash entry.header)) (suc (length older)) (place_of older hash) e in
    rw off.0 (branch_none older hash off.1)

pub path_none : (block_indexes : List BlockIndex) (tree : Tree) (hash : Hash256) (items : List Header) → tree_of block_indexes ≡ tree → None ≡ place_of (tree_of block_indexes) hash → items ≡ [] → items ≡ headers_above tree hash
path_none block_indexes tree hash items seen e none =
    none ∙ ap (λ (hs : List Header). above_branch hs (active tree)) (sym (branch_none tree hash (ap (λ (t : Tree). place_of t hash) (sym seen) ∙ sym e)))

pub fork_low : (block_indexes : List BlockIndex) (places : List ℕ) (hash : Hash256) (fork : ℕ) → IsTree block_indexes → places ≡ active_places (tree_of block_indexes) → IsFork (tree_of block_indexes) hash fork → fork < length places
fork_low block_indexes places hash fork is are f = omega (arith, f.low, length_active block_indexes is, ap length are, length_places (tree_of block_indexes))
