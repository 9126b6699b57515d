-- What is kept under a mined block's hash has another header: the block would stand higher than the tip.
use Rattle.std.proofs.Common.{◌≡◌, ℕ, ◌+◌, ◌<◌, ◌≤◌, suc, Bool, true, false, cond, List, [], ◌∷◌, ◌++◌, length, take, drop, Option, Some, None, refl, sym, ap, subst, ◌∙◌, ◌⊎◌, inl, inr, arith}
use Rattle.std.specs.Prelude.{is_some, option_map, unwrap_or}
use Rattle.std.specs.Int.{w32, to_le_bytes, from_le_bytes, cast_unsigned}
use Rattle.std.proofs.lemmas.List.{drop_at, length-append, take_at}
use Rattle.std.proofs.lemmas.Nat.{from_le_bytes-to_le_bytes_4}
use Rattle.cb_base.specs.declared.hash.Hash256.{Hash256}
use Rattle.cb_base.proofs.Hashes.{length-double_hash}
use Rattle.cb_block.specs.TxText.{tx_text}
use Rattle.cb_block.specs.declared.header.Header.{Header}
use Rattle.cb_block.specs.Genesis.{genesis_header, genesis_tx}
use Rattle.cb_block.specs.BlockText.{header_text}
use Rattle.cb_chain.specs.Best.{best}
use Rattle.cb_chain.specs.Entries.{Entry, Tree, block_hash, entry_of, first_entry, genesis_hash, has_block, height_of, is_kept, is_marked, same}
use Rattle.cb_chain.specs.History.{IsHistoric}
use Rattle.cb_chain.specs.Laws.{height_in}
use Rattle.cb_chain.proofs.LawLemmas.{tip_kept}
use Rattle.cb_chain.proofs.NewTip.{height_other}
use Rattle.cb_chain.proofs.BlockIndexes.{same-true}
use Rattle.cb_chain.proofs.Reached.{ArePlanted, kept_apart, kept_behind, planted_after}
use Rattle.cb_hall.specs.MinedBlock.{HasNamesake}
use Rattle.cb_hall.proofs.LowBlocks.{stand_low}

-- ---- what stands under a hash

picked : (b : Bool) (x : Entry) (others : Option Entry) (entry : Entry) → cond b (Some x) others ≡ Some entry → ((b ≡ true) × (x ≡ entry)) ⊎ ((b ≡ false) × (others ≡ Some entry))
picked true x others entry e = inl (refl, let one : x ≡ entry = cc in one)
picked false x others entry e = inr (refl, e)

-- it has that hash
entry_named : (tree : Tree) (hash : Hash256) (entry : Entry) → entry_of tree hash ≡ Some entry → block_hash entry.header ≡ hash
unfolding genesis_hash
entry_named [] hash entry e =
    elim (picked (same hash genesis_hash) first_entry None entry e) [
      | inl is ↦ ap (λ (x : Entry). block_hash x.header) (sym is.1) ∙ sym (same-true hash genesis_hash is.0)
      | inr none ↦ absurd (let nothing : None ≡ Some entry = none.1 in cc)
    ]
entry_named (newest ∷ older) hash entry e =
    elim (picked (same hash (block_hash newest.header)) newest (entry_of older hash) entry e) [
      | inl is ↦ ap (λ (x : Entry). block_hash x.header) (sym is.1) ∙ sym (same-true hash (block_hash newest.header) is.0)
      | inr isnt ↦ entry_named older hash entry isnt.1
    ]

there : (o : Option Entry) → has_block o ≡ true → (entry : Entry) × (o ≡ Some entry) × (is_some entry.block ≡ true)
there None kept = absurd (let no : false ≡ true = kept in cc)
there (Some entry) kept = (entry, refl, kept)

-- a kept block's hash has 32 bytes
hash_long : (tree : Tree) (hash : Hash256) → is_kept tree hash ≡ true → length hash.0 ≡ 32
hash_long tree hash kept =
    let under = there (entry_of tree hash) kept in
    let named = entry_named tree hash under.0 under.1 in
    ap (λ (h : Hash256). length h.0) (sym named) ∙ length-double_hash (header_text under.0.header)

-- its parent is kept, and it stands one higher
abbrev StandsOn : Tree → Hash256 → Entry → Type 0
StandsOn tree hash entry = (is_kept tree entry.header.prev ≡ true) × (height_of tree hash ≡ option_map suc (height_of tree entry.header.prev))

-- so does each kept block but the network's first
stands_on : (tree : Tree) (hash : Hash256) (entry : Entry) → ArePlanted tree → entry_of tree hash ≡ Some entry → is_some entry.block ≡ true → (first_entry ≡ entry) ⊎ StandsOn tree hash entry
stands_on [] hash entry are e kept =
    elim (picked (same hash genesis_hash) first_entry None entry e) [
      | inl is ↦ inl is.1
      | inr none ↦ absurd (let nothing : None ≡ Some entry = none.1 in cc)
    ]
stands_on (newest ∷ older) hash entry are e kept =
    let tree = newest ∷ older in
    elim (picked (same hash (block_hash newest.header)) newest (entry_of older hash) entry e) [
      | inl is ↦
          let prev = newest.header.prev in
          let under = are.0.under (ap (λ (x : Entry). is_some x.block) is.1 ∙ kept) in
          let apart = kept_apart newest older prev are.0 under in
          let own : height_of tree hash ≡ option_map suc (height_of older prev) = rw is.0 refl in
          inr (subst (StandsOn tree hash) is.1 (kept_behind newest older prev apart ∙ under, own ∙ ap (option_map suc) (sym (height_other newest older prev apart))))
      | inr isnt ↦
          elim (stands_on older hash entry are.1 isnt.1 kept) [
            | inl first ↦ inl first
            | inr on ↦
                let prev = entry.header.prev in
                let apart = kept_apart newest older prev are.0 on.0 in
                inr (kept_behind newest older prev apart ∙ on.0, height_other newest older hash isnt.0 ∙ on.1 ∙ ap (option_map suc) (sym (height_other newest older prev apart)))
          ]
    ]

-- ---- what a header's text tells

abbrev last_numbers : Header → List ℕ
last_numbers h = to_le_bytes w32 h.time ++ (to_le_bytes w32 h.bits ++ to_le_bytes w32 h.nonce)

behind_version : (h : Header) → drop 4 (header_text h) ≡ h.prev.0 ++ (h.root.0 ++ last_numbers h)
unfolding header_text
behind_version h = drop_at (to_le_bytes w32 (cast_unsigned w32 h.version)) (h.prev.0 ++ (h.root.0 ++ last_numbers h)) 4 refl

text_long : (h : Header) → length (header_text h) ≡ 16 + length h.prev.0 + length h.root.0
unfolding header_text
text_long h =
    omega (
      arith,
      length-append (to_le_bytes w32 (cast_unsigned w32 h.version)) (h.prev.0 ++ (h.root.0 ++ last_numbers h)),
      length-append h.prev.0 (h.root.0 ++ last_numbers h),
      length-append h.root.0 (last_numbers h),
    )

abbrev hash_from : List ℕ → Hash256
hash_from bytes = record { 0 = bytes }

prev_told : (h : Header) → length h.prev.0 ≡ 32 → hash_from (take 32 (drop 4 (header_text h))) ≡ h.prev
prev_told h long = ap hash_from (ap (take 32) (behind_version h) ∙ take_at h.prev.0 (h.root.0 ++ last_numbers h) 32 long)

same_prev : (a b : Header) → length a.prev.0 ≡ 32 → length b.prev.0 ≡ 32 → header_text a ≡ header_text b → a.prev ≡ b.prev
same_prev a b a_long b_long e = sym (prev_told a a_long) ∙ ap (λ (text : List ℕ). hash_from (take 32 (drop 4 text))) e ∙ prev_told b b_long

time_told : (h : Header) → length h.prev.0 ≡ 32 → length h.root.0 ≡ 32 → take 4 (drop 32 (drop 32 (drop 4 (header_text h)))) ≡ to_le_bytes w32 h.time
time_told h prev_long root_long =
    let front : drop 32 (drop 4 (header_text h)) ≡ h.root.0 ++ last_numbers h = ap (drop 32) (behind_version h) ∙ drop_at h.prev.0 (h.root.0 ++ last_numbers h) 32 prev_long in
    let back : drop 32 (drop 32 (drop 4 (header_text h))) ≡ last_numbers h = ap (drop 32) front ∙ drop_at h.root.0 (last_numbers h) 32 root_long in
    ap (take 4) back ∙ take_at (to_le_bytes w32 h.time) (to_le_bytes w32 h.bits ++ to_le_bytes w32 h.nonce) 4 refl

same_time : (a b : Header) → length a.prev.0 ≡ 32 → length b.prev.0 ≡ 32 → length a.root.0 ≡ 32 → length b.root.0 ≡ 32 → a.time < 4294967296 → b.time < 4294967296
    → header_text a ≡ header_text b → a.time ≡ b.time
same_time a b a_prev b_prev a_root b_root a_low b_low e =
    let bytes : to_le_bytes w32 a.time ≡ to_le_bytes w32 b.time =
    sym (time_told a a_prev a_root) ∙ ap (λ (text : List ℕ). take 4 (drop 32 (drop 32 (drop 4 text)))) e ∙ time_told b b_prev b_root
    in
    sym (from_le_bytes-to_le_bytes_4 a.time a_low) ∙ ap (from_le_bytes w32) bytes ∙ from_le_bytes-to_le_bytes_4 b.time b_low

-- a later header isn't the network's first one
not_first : (header : Header) (height : ℕ) → header.time ≡ 1296688602 + height → 0 < height → height ≤ 1000000001 → length header.prev.0 ≡ 32 → length (header_text header) ≡ 80
    → header_text genesis_header ≡ header_text header → ⊥
not_first header height at above low prev_long long e =
    let root_long : length header.root.0 ≡ 32 = omega (arith, long, prev_long, text_long header) in
    let time : 1296688602 ≡ header.time =
    same_time genesis_header header refl prev_long (length-double_hash (tx_text genesis_tx)) root_long (omega arith) (omega (arith, at, low)) e
    in
    omega (arith, time, at, above)

-- ---- the header of a block on the tip

pub namesake : (tree : Tree) (header : Header) (height : ℕ) → IsHistoric tree → header.prev ≡ best tree → header.time ≡ 1296688602 + (height_in tree (best tree) + 1) → length (header_text header) ≡ 80
    → height_of tree (best tree) ≡ Some height → height ≤ 1000000000 → is_kept tree (block_hash header) ≡ true → is_marked tree (block_hash header) ≡ false → HasNamesake tree header
namesake tree header height is on at long tall low kept clean =
    let hash = block_hash header in
    let under = there (entry_of tree hash) kept in
    let entry = under.0 in
    let tip : height_in tree (best tree) ≡ height = ap (λ (h : Option ℕ). unwrap_or h 0) tall in
    let prev_long : length header.prev.0 ≡ 32 = ap (λ (h : Hash256). length h.0) on ∙ hash_long tree (best tree) (tip_kept tree (planted_after tree is)) in
    record {
      entry = entry;
      known = under.1;
      alike = entry_named tree hash entry under.1;
      other = λ e.
          elim (stands_on tree hash entry (planted_after tree is) under.1 under.2) [
            | inl first ↦
                not_first header (height_in tree (best tree) + 1) at (omega arith) (omega (arith, tip, low)) prev_long long (ap (λ (x : Entry). header_text x.header) first ∙ e)
            | inr stands ↦
                let prev : entry.header.prev ≡ best tree = same_prev entry.header header (hash_long tree entry.header.prev stands.0) prev_long e ∙ on in
                let above : height_of tree hash ≡ Some (suc height) = stands.1 ∙ ap (λ (h : Hash256). option_map suc (height_of tree h)) prev ∙ ap (option_map suc) tall in
                let high : height_in tree hash ≡ suc height = ap (λ (h : Option ℕ). unwrap_or h 0) above in
                omega (arith, high, tip, stand_low tree is hash kept clean)
          ];
    }
