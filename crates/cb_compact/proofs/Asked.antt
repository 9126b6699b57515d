-- What is told of a compact block: what lacks is asked for, and what is sound is the block.
use Rattle.std.proofs.Common.{◌≡◌, ℕ, zero, suc, ◌+◌, ◌↔◌, true, List, [], ◌∷◌, length, Contains, Option, Some, None, slice_get, Ok, refl, sym, ap, ◌∙◌, subst, arith, inl, inr}
use Rattle.std.specs.Prelude.{⊤}
use Rattle.std.proofs.lemmas.Bool.{cases_Bool}
use Rattle.cb_base.specs.DoubleHash.{double_hash}
use Rattle.cb_block.specs.declared.tx.Tx.{Tx}
use Rattle.cb_block.specs.Blocks.{IsSoundBlock}
use Rattle.cb_block.specs.Decision.{is_sound_block}
use Rattle.cb_block.specs.BlockText.{header_text}
use Rattle.cb_block.specs.declared.block.Block.{Block}
use Rattle.cb_block.proofs.Deciding.{sound_from}
use Rattle.cb_compact.specs.Differences.{sums}
use Rattle.cb_compact.specs.Honest.{AreOneIfApart}
use Rattle.cb_compact.specs.Slots.{Unfilled, filled, missing}
use Rattle.cb_compact.specs.declared.named_tx.Pair.{Pair}
use Rattle.cb_compact.specs.declared.partial.Filled.TheVariants as filling
use Rattle.cb_compact.proofs.Indexes.{sums_of_differences}
use Rattle.cb_compact.proofs.OnlyTold.{one_if_apart}
use Rattle.cb_compact.proofs.Seen.{contains_cases, contains_first, contains_later, contains_none, missing_rise}
use Rattle.cb_wire.specs.declared.block_transactions.BlockTransactions.{BlockTransactions}
use Rattle.cb_wire.specs.declared.block_transactions.BlockTransactionsRequest.{BlockTransactionsRequest}
use Rattle.cb_wire.specs.declared.compact_block.HeaderAndShortIds.{HeaderAndShortIds}
use Rattle.cb_compact.specs.Completing.{completed_of}
use Rattle.cb_compact.specs.Rebuilding.{are_different, block_with, rebuilt_of, request_of, told_by, unfilled_of, whole_of}
use Rattle.cb_compact.specs.declared.rebuilding.Rebuilt.{Rebuilt}
use Rattle.cb_compact.specs.declared.rebuilding.Rebuilt.TheVariants.{Lacking, Sound, Useless}
use Rattle.cb_compact.proofs.Settling.{completed_from}

-- ---- places at which nothing stands

pub empty_missing : (first k : ℕ) (list : List (Option Tx)) → slice_get list k ≡ Some None → Contains (missing first list) (first + k)
empty_missing first k [] is = absurd cc
empty_missing first zero (None ∷ list) is = subst (Contains (first ∷ missing (first + 1) list)) (let here : first ≡ first + 0 = omega arith in here) (contains_first first (missing (first + 1) list))
empty_missing first zero (Some tx ∷ list) is = absurd (let clash : Some (Some tx) ≡ Some None = is in cc)
empty_missing first (suc k) (None ∷ list) is =
    let next : first + 1 + k ≡ first + suc k = omega arith in
    contains_later first (first + suc k) (missing (first + 1) list) (subst (Contains (missing (first + 1) list)) next (empty_missing (first + 1) k list is))
empty_missing first (suc k) (Some tx ∷ list) is =
    let next : first + 1 + k ≡ first + suc k = omega arith in
    subst (Contains (missing (first + 1) list)) next (empty_missing (first + 1) k list is)

pub missing_empty : (first place : ℕ) (list : List (Option Tx)) → Contains (missing first list) place → (k : ℕ) × (place ≡ first + k) × (slice_get list k ≡ Some None)
missing_empty first place [] here = absurd (contains_none place here)
missing_empty first place (None ∷ list) here =
    elim (contains_cases first place (missing (first + 1) list) here) [
      | inl same ↦ (0, omega (arith, same), refl)
      | inr there ↦ let found = missing_empty (first + 1) place list there in (suc found.0, omega (arith, found.1), found.2)
    ]
missing_empty first place (Some tx ∷ list) here = let found = missing_empty (first + 1) place list here in (suc found.0, omega (arith, found.1), found.2)

pub zero_first : (k : ℕ) → 0 + k ≡ k
zero_first k = omega arith

pub empty_places : (list : List (Option Tx)) (place : ℕ) → Contains (missing 0 list) place ↔ (slice_get list place ≡ Some None)
empty_places list place = (
  λ here. let found = missing_empty 0 place list here in ap (slice_get list) (found.1 ∙ zero_first found.0) ∙ found.2,
  λ none. subst (Contains (missing 0 list)) (zero_first place) (empty_missing 0 place list none),
)

-- the places that are asked for
pub asked_are : (partial : Unfilled) → sums 0 (request_of partial).differences ≡ missing 0 partial.slots
unfolding request_of
asked_are partial =
    sums_of_differences 0 (length partial.slots) (missing 0 partial.slots) (missing_rise 0 (length partial.slots) partial.slots (sym (zero_first (length partial.slots))))

-- ---- what is told

-- the answers are one list's, and no other's
abbrev pub IsLacking : Unfilled → Rebuilt → Type 0
IsLacking unfilled (Lacking partial request) = (partial ≡ unfilled) × (request ≡ request_of unfilled)
IsLacking unfilled (Sound block) = (block ≡ block_with unfilled []) × (is_sound_block block ≡ true)
IsLacking unfilled Useless = ⊤

pub whole_lacks : (unfilled : Unfilled) → IsLacking unfilled (whole_of (block_with unfilled []))
unfolding whole_of
whole_lacks unfilled =
    elim (cases_Bool (is_sound_block (block_with unfilled []))) [
      | inl is ↦ rw is (refl, is)
      | inr isnt ↦ rw isnt tt
    ]

pub told_lacks : (unfilled : Unfilled) (places : List ℕ) → IsLacking unfilled (told_by unfilled places)
told_lacks unfilled [] = whole_lacks unfilled
told_lacks unfilled (place ∷ places) = (refl, refl)

pub rebuilt_lacks : (message : HeaderAndShortIds) (pairs : List Pair) → IsLacking (unfilled_of message pairs) (rebuilt_of message pairs)
unfolding rebuilt_of
rebuilt_lacks message pairs =
    elim (cases_Bool (are_different message.txs.ids)) [
      | inl is ↦ rw is (told_lacks (unfilled_of message pairs) (missing 0 (unfilled_of message pairs).slots))
      | inr isnt ↦ rw isnt tt
    ]

pub unfilled_header : (message : HeaderAndShortIds) (pairs : List Pair) → (unfilled_of message pairs).header ≡ message.header
unfolding unfilled_of
unfilled_header message pairs = refl

pub request_block : (partial : Unfilled) → (request_of partial).block ≡ double_hash (header_text partial.header)
unfolding request_of
request_block partial = refl

pub lacks_under : (message : HeaderAndShortIds) (pairs : List Pair) (partial : Unfilled) (request : BlockTransactionsRequest) → rebuilt_of message pairs ≡ Lacking partial request
    → (partial.header ≡ message.header) × (request.block ≡ double_hash (header_text message.header))
lacks_under message pairs partial request is =
    let both : IsLacking (unfilled_of message pairs) (Lacking partial request) = subst (IsLacking (unfilled_of message pairs)) is (rebuilt_lacks message pairs) in
    let header = unfilled_header message pairs in (
      ap (λ it. it.header) both.0 ∙ header,
      ap (λ it. it.block) both.1 ∙ request_block (unfilled_of message pairs) ∙ ap (λ it. double_hash (header_text it)) header,
    )

pub lacks_exact : (message : HeaderAndShortIds) (pairs : List Pair) (partial : Unfilled) (request : BlockTransactionsRequest) → rebuilt_of message pairs ≡ Lacking partial request
    → (place : ℕ) → Contains (sums 0 request.differences) place ↔ (slice_get partial.slots place ≡ Some None)
lacks_exact message pairs partial request is place =
    let unfilled = unfilled_of message pairs in
    let both : IsLacking unfilled (Lacking partial request) = subst (IsLacking unfilled) is (rebuilt_lacks message pairs) in
    let asked : sums 0 request.differences ≡ missing 0 partial.slots = ap (λ it. sums 0 it.differences) both.1 ∙ asked_are unfilled ∙ ap (λ it. missing 0 it.slots) (sym both.0) in
    subst (λ places. Contains places place ↔ (slice_get partial.slots place ≡ Some None)) (sym asked) (empty_places partial.slots place)

pub rebuilt_one : (block told : Block) (message : HeaderAndShortIds) (pairs : List Pair) → IsSoundBlock block → message.header ≡ block.header → rebuilt_of message pairs ≡ Sound told → AreOneIfApart block told
rebuilt_one block told message pairs sound same is =
    let unfilled = unfilled_of message pairs in
    let both : IsLacking unfilled (Sound told) = subst (IsLacking unfilled) is (rebuilt_lacks message pairs) in
    let whole : IsSoundBlock (block_with unfilled []) = subst IsSoundBlock both.0 (sound_from told both.1) in
    one_if_apart block told unfilled.header (filled unfilled.slots []) sound (unfilled_header message pairs ∙ same) (both.0, whole)

pub completed_one : (block told : Block) (partial : Unfilled) (given : BlockTransactions) → IsSoundBlock block → partial.header ≡ block.header → completed_of partial given ≡ Ok (filling.Sound told) → AreOneIfApart block told
completed_one block told partial given sound same is =
    one_if_apart block told partial.header (filled partial.slots given.txs) sound same (completed_from partial given (filling.Sound told) is).1
