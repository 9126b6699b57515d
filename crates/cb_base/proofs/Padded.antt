-- Padded messages, and their blocks.
use Rattle.std.proofs.Common.{◌≡◌, ℕ, zero, suc, ◌+◌, ◌-◌, ◌*◌, ◌/◌, ◌%◌, ◌^◌, ◌<◌, ◌≤◌, List, [], ◌∷◌, ◌++◌, length, take, drop, replicate, get_or, slice_index, refl, sym, ap, subst, ◌∙◌, append_assoc, mod-lt, arith, inl, inr}
use Rattle.std.proofs.lemmas.Bool.{cases_lt}
use Rattle.std.proofs.lemmas.List.{length-append, length-drop, length-replicate, take_at, take_all, take-append-le, drop_at, drop-append-le}
use Rattle.std.proofs.lemmas.Nat.{from_be_bytes-to_be_bytes_4}
use Rattle.std.specs.Int.{w64, to_be_bytes}
use Rattle.sha2.specs.Sha256.{IsWindow, add_state, compress, digest_bytes, final_hash, hash_after, initial_hash_256, padded_message, padding, schedule, rounds, sha256}
use Rattle.cb_base.specs.declared.hash.Hash256.{Hash256}
use Rattle.cb_base.specs.DoubleHash.{double_hash}
use Rattle.sha2.proofs.Absorbing256.{hash_after_next}
use Rattle.sha2.proofs.Schedule256.{IsWindow_first}
use Rattle.cb_base.specs.Lanes.{HasWholeBlocks, TakesBlock, lane}
use Rattle.cb_base.proofs.LaneLemmas.{below_four, lane_at, splat_at}

pub padded_by : (m zeros count : List ℕ) (n : ℕ) → n ≡ length m → zeros ≡ replicate ((119 - n % 64) % 64) 0 → count ≡ to_be_bytes w64 (n * 8 % 2 ^ 64)
    → ((m ++ 0x80 ∷ []) ++ zeros) ++ count ≡ padded_message m
padded_by m zeros count n en ez ec =
    rw (ez, ec, en)
    (append_assoc (m ++ 0x80 ∷ []) (replicate ((119 - length m % 64) % 64) 0) (to_be_bytes w64 (length m * 8 % 2 ^ 64))
    ∙ append_assoc m (0x80 ∷ []) (replicate ((119 - length m % 64) % 64) 0 ++ to_be_bytes w64 (length m * 8 % 2 ^ 64)))

-- how long a padded message is
pub length_padded : (m : List ℕ) → length (padded_message m) ≡ length m + 9 + (119 - length m % 64) % 64
length_padded m =
    let zeros : List ℕ = replicate ((119 - length m % 64) % 64) 0 in
    let count : List ℕ = to_be_bytes w64 (length m * 8 % 2 ^ 64) in
    let eight : length count ≡ 8 = refl in
    let after : length (zeros ++ count) ≡ (119 - length m % 64) % 64 + 8 = omega (arith, length-append zeros count, length-replicate {A = ℕ} ((119 - length m % 64) % 64) 0, eight) in
    omega (arith, length-append m (0x80 ∷ (zeros ++ count)), after)

pub padded_whole : (m : List ℕ) → HasWholeBlocks (padded_message m)
padded_whole m = (omega (arith, length_padded m), omega (arith, length_padded m))

pub padded_some : (m : List ℕ) → 1 ≤ length (padded_message m) / 64
padded_some m = omega (arith, length_padded m)

-- ---- block by block

-- The state has taken in the first i blocks of the text, or all of them where it has no more.
abbrev pub Absorbs : List ℕ → ℕ → List ℕ → Type 0
Absorbs text i h =
    (i ≤ length text / 64 → h ≡ hash_after initial_hash_256 text i) × (length text / 64 ≤ i → h ≡ hash_after initial_hash_256 text (length text / 64))

pub absorbs_start : (text h : List ℕ) → h ≡ initial_hash_256 → Absorbs text 0 h
unfolding hash_after
absorbs_start text h e = (
  λ le. e,
  λ none.
      let zero-blocks : length text / 64 ≡ 0 = omega arith in
      rw zero-blocks e,
)

pub absorbs_more : (text h next : List ℕ) (i : ℕ) → Absorbs text i h → TakesBlock text i h next → Absorbs text (i + 1) next
absorbs_more text h next i held took =
    let further : i < length text / 64 → next ≡ hash_after initial_hash_256 text (i + 1) =
    λ lt. took.0 lt ∙ ap (λ (x : List ℕ). compress x (take 64 (drop (i * 64) text))) (held.0 (omega arith)) ∙ sym (hash_after_next initial_hash_256 text i) in (
      λ le. further (omega arith),
      λ ge. elim (cases_lt i (length text / 64)) [
        | inl lt ↦
            let last : i + 1 ≡ length text / 64 = omega arith in
            further lt ∙ ap (hash_after initial_hash_256 text) last
        | inr over ↦ took.1 over ∙ held.1 over
      ],
    )

pub absorbs_all : (text h : List ℕ) (i : ℕ) → Absorbs text i h → length text / 64 ≤ i → h ≡ hash_after initial_hash_256 text (length text / 64)
absorbs_all text h i held all = held.1 all

-- what a state takes, from the choice between the next and the one before
pub takes_by : (text before block next after : List ℕ) (i going : ℕ) → (i < length text / 64 → going ≡ 1) → (length text / 64 ≤ i → going ≡ 0)
    → (going ≡ 1 → after ≡ next) → (going ≡ 0 → after ≡ before) → next ≡ compress before block
    → (i < length text / 64 → block ≡ take 64 (drop (i * 64) text)) → TakesBlock text i before after
takes_by text before block next after i going there ended goes rests taken is = (
  λ lt. goes (there lt) ∙ taken ∙ ap (compress before) (is lt),
  λ ge. rests (ended ge),
)

-- ---- messages of 64 bytes, and hashes

pub hash_of_64 : (m : List ℕ) → length m ≡ 64 → final_hash initial_hash_256 m ≡ compress (compress initial_hash_256 m) (padding 64)
unfolding hash_after
hash_of_64 m long =
    let p : padded_message m ≡ m ++ padding 64 = ap (λ (n : ℕ). m ++ padding n) long in
    let count : length (padded_message m) / 64 ≡ 2 = omega (arith, length_padded m, long) in
    let front : take 64 (m ++ padding 64) ≡ m = take_at m (padding 64) 64 long in
    let back : drop 64 (m ++ padding 64) ≡ padding 64 = drop_at m (padding 64) 64 long in
    rw (count, p, front, back) refl

pub hash_of_80 : (m : List ℕ) → length m ≡ 80 → final_hash initial_hash_256 m ≡ compress (compress initial_hash_256 (take 64 m)) (drop 64 m ++ padding 80)
unfolding hash_after
hash_of_80 m long =
    let p : padded_message m ≡ m ++ padding 80 = ap (λ (n : ℕ). m ++ padding n) long in
    let count : length (padded_message m) / 64 ≡ 2 = omega (arith, length_padded m, long) in
    let front : take 64 (m ++ padding 80) ≡ take 64 m = take-append-le 64 m (padding 80) (omega arith) in
    let back : drop 64 (m ++ padding 80) ≡ drop 64 m ++ padding 80 = drop-append-le 64 m (padding 80) (omega arith) in
    let tail : length (drop 64 m ++ padding 80) ≡ 64 = omega (arith, length-append (drop 64 m) (padding 80), length-drop 64 m, long) in
    let all : take 64 (drop 64 m ++ padding 80) ≡ drop 64 m ++ padding 80 = take_all 64 (drop 64 m ++ padding 80) (omega (arith, tail)) in
    rw (count, p, front, back, all) refl

abbrev pub FitsWords : List ℕ → Type 0
FitsWords h = (i : ℕ) → i < 8 → slice_index h i < 2 ^ 32

below_eight : (P : ℕ → Type 0) → P 0 → P 1 → P 2 → P 3 → P 4 → P 5 → P 6 → P 7 → (k : ℕ) → k < 8 → P k
below_eight P a0 a1 a2 a3 b0 b1 b2 b3 k h =
    let place : 4 * (k / 4) + k % 4 ≡ k = omega arith in
    subst P place (below_four (λ row. row < 2 → (col : ℕ) → col < 4 → P (4 * row + col))
    (λ _. below_four (λ col. P (4 * 0 + col)) a0 a1 a2 a3) (λ _. below_four (λ col. P (4 * 1 + col)) b0 b1 b2 b3)
    (λ lt. absurd (omega arith)) (λ lt. absurd (omega arith))
    (k / 4) (omega arith) (omega arith) (k % 4) (omega arith))

below_sixteen : (P : ℕ → Type 0) → P 0 → P 1 → P 2 → P 3 → P 4 → P 5 → P 6 → P 7
    → P 8 → P 9 → P 10 → P 11 → P 12 → P 13 → P 14 → P 15 → (k : ℕ) → k < 16 → P k
below_sixteen P a0 a1 a2 a3 b0 b1 b2 b3 c0 c1 c2 c3 d0 d1 d2 d3 k h =
    let place : 4 * (k / 4) + k % 4 ≡ k = omega arith in
    subst P place (below_four (λ row. (col : ℕ) → col < 4 → P (4 * row + col))
    (below_four _ a0 a1 a2 a3) (below_four _ b0 b1 b2 b3) (below_four _ c0 c1 c2 c3) (below_four _ d0 d1 d2 d3)
    (k / 4) (omega arith) (k % 4) (omega arith))

compress_fits : (h b : List ℕ) → FitsWords (compress h b)
unfolding compress
compress_fits h b =
    below_eight (λ i. slice_index (add_state h (rounds h (schedule b 48) 64)) i < 2 ^ 32)
    (mod-lt _ (omega arith)) (mod-lt _ (omega arith)) (mod-lt _ (omega arith)) (mod-lt _ (omega arith))
    (mod-lt _ (omega arith)) (mod-lt _ (omega arith)) (mod-lt _ (omega arith)) (mod-lt _ (omega arith))

after_fits : (h p : List ℕ) (n : ℕ) → 1 ≤ n → FitsWords (hash_after h p n)
unfolding hash_after
after_fits h p zero lt = absurd (omega arith)
after_fits h p (suc n) lt = compress_fits (hash_after h p n) (take 64 (drop (n * 64) p))

pub final_fits : (m : List ℕ) → FitsWords (final_hash initial_hash_256 m)
final_fits m = after_fits initial_hash_256 (padded_message m) (length (padded_message m) / 64) (padded_some m)

digest_long : (h : List ℕ) → length (digest_bytes h 8) ≡ 32
unfolding digest_bytes
digest_long h = refl

pub hash_of_hash : (h : List ℕ) → final_hash initial_hash_256 (digest_bytes h 8) ≡ compress initial_hash_256 (digest_bytes h 8 ++ padding 32)
unfolding hash_after
hash_of_hash h =
    let m : List ℕ = digest_bytes h 8 in
    let p : padded_message m ≡ m ++ padding 32 = ap (λ (n : ℕ). m ++ padding n) (digest_long h) in
    let count : length (padded_message m) / 64 ≡ 1 = omega (arith, length_padded m, digest_long h) in
    let all : take 64 (m ++ padding 32) ≡ m ++ padding 32 = take_all 64 (m ++ padding 32) (omega (arith, ap length p, length_padded m, digest_long h)) in
    rw (count, p, all) refl

pub sha_of_hash : (m : List ℕ) → sha256 m ≡ digest_bytes (final_hash initial_hash_256 m) 8
unfolding sha256
sha_of_hash m = refl

-- the words of a hash and its padding
abbrev pub hash_words : List ℕ → List ℕ
hash_words h =
    slice_index h 0 ∷ slice_index h 1 ∷ slice_index h 2 ∷ slice_index h 3 ∷ slice_index h 4 ∷ slice_index h 5 ∷ slice_index h 6 ∷ slice_index h 7
    ∷ 0x80000000 ∷ 0 ∷ 0 ∷ 0 ∷ 0 ∷ 0 ∷ 0 ∷ 256 ∷ []

pub hash_window : (h : List ℕ) → FitsWords h → IsWindow (hash_words h) (schedule (digest_bytes h 8 ++ padding 32) 48) 16
unfolding digest_bytes
hash_window h fits =
    IsWindow_first (digest_bytes h 8 ++ padding 32) (hash_words h) refl (below_sixteen _
    (sym (from_be_bytes-to_be_bytes_4 (slice_index h 0) (fits 0 (omega arith))))
    (sym (from_be_bytes-to_be_bytes_4 (slice_index h 1) (fits 1 (omega arith))))
    (sym (from_be_bytes-to_be_bytes_4 (slice_index h 2) (fits 2 (omega arith))))
    (sym (from_be_bytes-to_be_bytes_4 (slice_index h 3) (fits 3 (omega arith))))
    (sym (from_be_bytes-to_be_bytes_4 (slice_index h 4) (fits 4 (omega arith))))
    (sym (from_be_bytes-to_be_bytes_4 (slice_index h 5) (fits 5 (omega arith))))
    (sym (from_be_bytes-to_be_bytes_4 (slice_index h 6) (fits 6 (omega arith))))
    (sym (from_be_bytes-to_be_bytes_4 (slice_index h 7) (fits 7 (omega arith))))
    refl refl refl refl refl refl refl refl)

-- the vectors that hash four hashes
abbrev pub again_words : List (List ℕ) → List (List ℕ)
again_words state =
    get_or state 0 [] ∷ get_or state 1 [] ∷ get_or state 2 [] ∷ get_or state 3 [] ∷ get_or state 4 [] ∷ get_or state 5 [] ∷ get_or state 6 [] ∷ get_or state 7 []
    ∷ (0x80000000 ∷ 0x80000000 ∷ 0x80000000 ∷ 0x80000000 ∷ [])
    ∷ (0 ∷ 0 ∷ 0 ∷ 0 ∷ []) ∷ (0 ∷ 0 ∷ 0 ∷ 0 ∷ []) ∷ (0 ∷ 0 ∷ 0 ∷ 0 ∷ []) ∷ (0 ∷ 0 ∷ 0 ∷ 0 ∷ []) ∷ (0 ∷ 0 ∷ 0 ∷ 0 ∷ []) ∷ (0 ∷ 0 ∷ 0 ∷ 0 ∷ [])
    ∷ (256 ∷ 256 ∷ 256 ∷ 256 ∷ []) ∷ []

again_are : (k : ℕ) → k < 4 → (state : List (List ℕ)) → length state ≡ 8 → hash_words (lane k state) ≡ lane k (again_words state)
again_are k lt state long =
    let at : (i : ℕ) → i < 8 → slice_index (lane k state) i ≡ slice_index (get_or state i []) k = λ i below. lane_at k i state [] (omega (arith, long, below)) in
    rw (
      at 0 (omega arith),
      at 1 (omega arith),
      at 2 (omega arith),
      at 3 (omega arith),
      at 4 (omega arith),
      at 5 (omega arith),
      at 6 (omega arith),
      at 7 (omega arith),
      splat_at 0x80000000 k lt,
      splat_at 0 k lt,
      splat_at 256 k lt,
    ) refl

pub again_window : (k : ℕ) → k < 4 → (state : List (List ℕ)) → length state ≡ 8 → FitsWords (lane k state)
    → IsWindow (lane k (again_words state)) (schedule (digest_bytes (lane k state) 8 ++ padding 32) 48) 16
again_window k lt state long fits =
    subst (λ (w : List ℕ). IsWindow w (schedule (digest_bytes (lane k state) 8 ++ padding 32) 48) 16) (again_are k lt state long) (hash_window (lane k state) fits)

-- the digest of the hash value of a message's hash
pub twice : (m h : List ℕ) (hash : Hash256) → h ≡ final_hash initial_hash_256 (sha256 m) → hash.0 ≡ digest_bytes h 8 → hash ≡ double_hash m
twice m h hash e d = ap (λ (x : List ℕ). record { 0 = x }) (d ∙ ap (λ (x : List ℕ). digest_bytes x 8) e ∙ sym (sha_of_hash (sha256 m)))

-- two blocks of a message of 64 bytes
pub after_64 : (m start once state : List ℕ) → length m ≡ 64 → start ≡ initial_hash_256 → once ≡ compress start m → state ≡ compress once (padding 64) → state ≡ final_hash initial_hash_256 m
after_64 m start once state long es eo e =
    e ∙ ap (λ (x : List ℕ). compress x (padding 64)) (eo ∙ ap (λ (x : List ℕ). compress x m) es) ∙ sym (hash_of_64 m long)

-- two blocks of a message of 80 bytes
pub after_80 : (m start once state : List ℕ) → length m ≡ 80 → start ≡ initial_hash_256 → once ≡ compress start (take 64 m)
    → state ≡ compress once (drop 64 m ++ padding 80) → state ≡ final_hash initial_hash_256 m
after_80 m start once state long es eo e =
    e ∙ ap (λ (x : List ℕ). compress x (drop 64 m ++ padding 80)) (eo ∙ ap (λ (x : List ℕ). compress x (take 64 m)) es) ∙ sym (hash_of_80 m long)

-- all blocks of a padded message
pub after_all : (m text state : List ℕ) → text ≡ padded_message m → state ≡ hash_after initial_hash_256 text (length text / 64) → state ≡ final_hash initial_hash_256 m
after_all m text state is e = e ∙ ap (λ (x : List ℕ). hash_after initial_hash_256 x (length x / 64)) is
