-- A compact block of an honest sender is rebuilt, and a block is sent as one.
use Rattle.std.proofs.Common.{◌≡◌, ℕ, ◌<◌, true, ltb, List, [], ◌∷◌, length, map, Some, Ok, slice_get, refl, sym, ap, ◌∙◌, subst, arith}
use Rattle.std.proofs.lemmas.List.{length-map}
use Rattle.std.proofs.lemmas.List.Elements.{All-cons, All-nil}
use Rattle.std.specs.List.{list_all}
use Rattle.cb_base.specs.DoubleHash.{double_hash}
use Rattle.cb_block.specs.declared.tx.Tx.{Tx}
use Rattle.cb_block.specs.TxText.{tx_text}
use Rattle.cb_block.specs.Blocks.{IsSoundBlock}
use Rattle.cb_block.specs.Decision.{is_sound_block}
use Rattle.cb_block.specs.BlockText.{header_text}
use Rattle.cb_block.specs.declared.block.Block.{Block}
use Rattle.cb_block.proofs.Deciding.{sound_to}
use Rattle.cb_compact.specs.Differences.{Rise, sums}
use Rattle.cb_compact.specs.Forms.{left_out}
use Rattle.cb_compact.specs.Honest.{AreOwn, AreUnserved, id_of}
use Rattle.cb_compact.specs.Slots.{AreDifferent, Unfilled, filled, missing}
use Rattle.cb_compact.specs.declared.named_tx.Pair.{Pair}
use Rattle.cb_compact.specs.declared.partial.Filled.TheVariants as filling
use Rattle.cb_compact.proofs.Honest.{again, chosen_for, length_left, listed_seen, unserved}
use Rattle.cb_compact.proofs.Indexes.{rise_below, sums_of_differences}
use Rattle.cb_compact.proofs.Seen.{seen}
use Rattle.cb_wire.specs.declared.compact_block.HeaderAndShortIds.{HeaderAndShortIds}
use Rattle.cb_compact.specs.Completing.{judged_of}
use Rattle.cb_compact.specs.HonestMessages.{IsHonestMessage, IsRebuiltTo}
use Rattle.cb_compact.specs.Places.{differences_of, has_places, placed_from, total_of}
use Rattle.cb_compact.specs.Rebuilding.{block_with, rebuilt_of, told_by, unfilled_of, whole_of}
use Rattle.cb_compact.specs.Shortening.{shortened_of}
use Rattle.cb_compact.specs.declared.rebuilding.Rebuilt.TheVariants.{Sound}
use Rattle.cb_compact.proofs.Asked.{asked_are, request_block, unfilled_header}
use Rattle.cb_compact.proofs.Leading.{are_below, length_placed, places_placed}
use Rattle.cb_compact.proofs.Settling.{completed_right, rebuilt_apart}

-- ---- an honest message

-- the places are those that were told
pub told_places : (block : Block) (places : List ℕ) (message : HeaderAndShortIds) → IsHonestMessage block places message → sums 0 (differences_of message.txs.prefilled) ≡ places
told_places block places message honest = ap (sums 0) honest.differences_are ∙ sums_of_differences 0 (length block.txs) places honest.rise

pub honest_seen : (block : Block) (places : List ℕ) (message : HeaderAndShortIds) (pairs : List Pair) → IsHonestMessage block places message
    → (unfilled_of message pairs).slots ≡ seen (chosen_for block.header message.nonce pairs) 0 places block.txs
unfolding unfilled_of
honest_seen block places message pairs honest =
    listed_seen block message.nonce places message.txs.ids (placed_from 0 message.txs.prefilled) pairs honest.rise honest.ids
    (places_placed 0 message.txs.prefilled ∙ told_places block places message honest) honest.whole

-- the block's own list under its header
pub own_whole : (block it : Block) → IsSoundBlock block → it ≡ block → whole_of it ≡ Sound block
unfolding whole_of
own_whole block it sound same =
    let is : is_sound_block it ≡ true = ap is_sound_block same ∙ sound_to block sound in
    rw is (ap (λ b. Sound b) same)

pub own_judged : (block it : Block) → IsSoundBlock block → it ≡ block → judged_of it ≡ filling.Sound block
unfolding judged_of
own_judged block it sound same =
    let is : is_sound_block it ≡ true = ap is_sound_block same ∙ sound_to block sound in
    rw is (ap (λ b. filling.Sound b) same)

pub one_block : (block : Block) (partial : Unfilled) (txs : List Tx) → partial.header ≡ block.header → filled partial.slots txs ≡ block.txs → block_with partial txs ≡ block
one_block block partial txs header list =
    let one : record { header = partial.header; txs = filled partial.slots txs } ≡ record { header = block.header; txs = block.txs } = ap (λ h. record { header = h; txs = filled partial.slots txs }) header ∙ ap (λ them. record { header = block.header; txs = them }) list in
    one

-- by the places that are missing
pub told_honest : (block : Block) (nonce : ℕ) (places : List ℕ) (pairs : List Pair) (partial : Unfilled) → IsSoundBlock block → AreOwn block nonce places pairs → partial.header ≡ block.header
    → partial.slots ≡ seen (chosen_for block.header nonce pairs) 0 places block.txs → (lacking : List ℕ) → missing 0 partial.slots ≡ lacking → IsRebuiltTo block nonce places pairs (told_by partial lacking)
told_honest block nonce places pairs partial sound own header is [] none =
    let at = ap (map (slice_get block.txs)) none in
    let list = again block nonce places pairs own partial.slots is [] at in
    subst (IsRebuiltTo block nonce places pairs) (sym (own_whole block (block_with partial []) sound (one_block block partial [] header list))) (
      subst (AreUnserved block nonce places pairs) (sym (ap (missing 0) is) ∙ none) (unserved block nonce places pairs own),
      refl,
    )
told_honest block nonce places pairs partial sound own header is (place ∷ others) some = (
  subst (AreUnserved block nonce places pairs) (sym (ap (missing 0) is) ∙ sym (asked_are partial)) (unserved block nonce places pairs own),
  request_block partial ∙ ap (λ it. double_hash (header_text it)) header,
  λ given at.
      let asked : map (slice_get block.txs) (missing 0 partial.slots) ≡ map Some given.txs = sym (ap (map (slice_get block.txs)) (asked_are partial)) ∙ at in
      let count : length given.txs ≡ length (missing 0 partial.slots) = sym (sym (length-map (missing 0 partial.slots) (slice_get block.txs)) ∙ ap length asked ∙ length-map given.txs Some) in
      let list = again block nonce places pairs own partial.slots is given.txs asked in
      completed_right partial given count ∙ ap (λ it. Ok it) (own_judged block (block_with partial given.txs) sound (one_block block partial given.txs header list)),
)

pub honest_rebuilt : (block : Block) (places : List ℕ) (message : HeaderAndShortIds) (pairs : List Pair) → IsHonestMessage block places message → AreOwn block message.nonce places pairs
    → IsRebuiltTo block message.nonce places pairs (rebuilt_of message pairs)
honest_rebuilt block places message pairs honest own =
    let partial = unfilled_of message pairs in
    subst (IsRebuiltTo block message.nonce places pairs) (sym (rebuilt_apart message pairs honest.different))
    (told_honest block message.nonce places pairs partial honest.sound own (unfilled_header message pairs ∙ honest.header) (honest_seen block places message pairs honest) (missing 0 partial.slots) refl)

pub honest_places : (block : Block) (places : List ℕ) (message : HeaderAndShortIds) → IsHonestMessage block places message → has_places message.txs ≡ true
unfolding has_places
honest_places block places message honest =
    let txs = block.txs in
    let told = told_places block places message honest in
    let ids : length message.txs.ids ≡ length (left_out 0 places txs) = ap length honest.ids ∙ length-map (left_out 0 places txs) (id_of block.header message.nonce) in
    let given : length message.txs.prefilled ≡ length places =
    sym (length_placed 0 message.txs.prefilled) ∙ sym (length-map (placed_from 0 message.txs.prefilled) (λ it. it.place)) ∙ ap length (places_placed 0 message.txs.prefilled ∙ told) in
    let left = length_left 0 (length txs) places txs (omega arith) honest.rise in
    let total : length txs ≡ total_of message.txs = omega (arith, ids, given, left) in
    subst (λ list. list_all (λ place. ltb place (total_of message.txs)) list ≡ true) (sym told)
    (are_below (total_of message.txs) places (rise_below 0 (total_of message.txs) places (subst (λ n. Rise 0 n places) total honest.rise)))

-- ---- the form in which a block is sent

pub shortened_honest : (block : Block) (nonce : ℕ) → IsSoundBlock block → AreDifferent (shortened_of block nonce).txs.ids → IsHonestMessage block (0 ∷ []) (shortened_of block nonce)
unfolding shortened_of
shortened_honest block nonce sound different =
    go block.txs refl (subst (λ n. 0 < n) (length-map block.txs tx_text) sound.some) where
      go : (txs : List Tx) → block.txs ≡ txs → 0 < length txs → IsHonestMessage block (0 ∷ []) (shortened_of block nonce)
      go [] is some = absurd (omega (arith, some))
      go (first ∷ others) is some = record {
        sound = sound;
        rise = (omega arith, subst (λ list. 0 < length list) (sym is) (omega arith), tt);
        header = refl;
        ids = rw is refl;
        differences_are = rw is refl;
        whole = rw is (All-cons (λ it. slice_get (first ∷ others) it.place ≡ Some it.tx) (record { place = 0; tx = first }) [] refl (All-nil (λ it. slice_get (first ∷ others) it.place ≡ Some it.tx)));
        different = different;
      }
