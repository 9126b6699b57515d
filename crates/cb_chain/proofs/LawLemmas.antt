-- The laws of a chain, by recursion on its tree.
use Rattle.std.proofs.Common.{◌≡◌, ◌<◌, ◌≤◌, true, List, [], ◌∷◌, ◌++◌, length, map, drop, Some, None, Option, refl, sym, ap, subst, ◌∙◌, arith, inl, inr, ◌⊎◌}
use Rattle.std.specs.Prelude.{All, IfSome, reverse, is_ok, is_some, Result, Ok, Err, IsErr, IsOk, option_and_then}
use Rattle.std.specs.FinMap as finite
use Rattle.std.proofs.lemmas.Bool.{cases_Bool, false≢true, ltb-true, ltb-false}
use Rattle.std.proofs.lemmas.List.{map-append, append_assoc, append-nil, drop-append-le}
use Rattle.std.proofs.lemmas.List.Elements.{All-cons, All-nil}
use Rattle.cb_base.specs.declared.fault.Fault.{Fault}
use Rattle.cb_base.specs.declared.hash.Hash256.{Hash256}
use Rattle.cb_block.specs.declared.block.Block.{Block}
use Rattle.cb_block.specs.Blocks.{IsSoundBlock, MeetsBlockRules}
use Rattle.cb_block.specs.declared.header.Header.{Header}
use Rattle.cb_ledger.specs.Spend.{spend}
use Rattle.cb_ledger.specs.Unspent.{Unspent}
use Rattle.cb_ledger.proofs.Txs.{spend-append}
use Rattle.cb_block.specs.declared.tx.Tx.{Tx}
use Rattle.cb_chain.specs.Entries.{Entry, Tree, block_hash, genesis_hash, same, entry_of, has_block, is_kept, is_known, is_marked}
use Rattle.cb_chain.specs.Best.{Stop, faulty, missing, active, best, branch, is_higher, spend_block, stopped_at, then_spend, unspent_after}
use Rattle.cb_chain.specs.History.{IsHistoric}
use Rattle.cb_chain.specs.Laws.{AreBlocksOf, AreLinked, ComesAfter, IsLeftBy, IsMarkedFor, ReachesUp, height_in, kept_under, txs_of}
use Rattle.cb_chain.proofs.BlockIndexes.{same-true, same-refl, reverse_cons}
use Rattle.cb_chain.proofs.Reached.{ArePlanted, IsPlanted, kept_apart, kept_known, marked_err, marked_stop, nothing_missing, planted_after, spent_kept, stop_is, stop_leads}
use Rattle.cb_chain.proofs.Roots.{known_behind, known_first}

-- ---- the tip is kept

-- what becomes of the tip
data Turns (entry : Entry) (older : Tree) : Type 0 where
  leads : IsOk (unspent_after (entry ∷ older) (block_hash entry.header)) → height_in (entry ∷ older) (best older) < height_in (entry ∷ older) (block_hash entry.header) → best (entry ∷ older) ≡ block_hash entry.header → Turns entry older
  stays : (IsOk (unspent_after (entry ∷ older) (block_hash entry.header)) → height_in (entry ∷ older) (block_hash entry.header) ≤ height_in (entry ∷ older) (best older)) → best (entry ∷ older) ≡ best older → Turns entry older

turns : (entry : Entry) (older : Tree) → Turns entry older
unfolding best
turns entry older =
    let tree = entry ∷ older in
    let hash = block_hash entry.header in
    elim (cases_Bool (is_ok (unspent_after tree hash))) [
      | inl ok ↦
          elim (cases_Bool (is_higher tree hash (best older))) [
            | inl up ↦ leads ok (ltb-true (height_in tree (best older)) (height_in tree hash) up) (rw (ok, up) refl)
            | inr low ↦ stays (λ _. ltb-false (height_in tree (best older)) (height_in tree hash) low) (rw (ok, low) refl)
          ]
      | inr bad ↦ stays (λ ok. absurd (false≢true (sym bad ∙ ok))) (rw bad refl)
    ]

-- the tip is kept
pub tip_kept : (tree : Tree) → ArePlanted tree → is_kept tree (best tree) ≡ true
unfolding best
tip_kept [] are = rw (same-refl genesis_hash) refl
tip_kept (entry ∷ older) are =
    elim (turns entry older) [
      | leads ok up is ↦ subst (λ (hash : Hash256). is_kept (entry ∷ older) hash ≡ true) (sym is) (spent_kept (entry ∷ older) (block_hash entry.header) ok)
      | stays _ is ↦
          let below = tip_kept older are.1 in
          subst (λ (hash : Hash256). is_kept (entry ∷ older) hash ≡ true) (sym is) (rw (kept_apart entry older (best older) are.0 below) below)
    ]

tip_known : (tree : Tree) → ArePlanted tree → is_known tree (best tree) ≡ true
tip_known tree are = kept_known (entry_of tree (best tree)) (tip_kept tree are)

-- ---- the headers are linked

linked_more : (below : Hash256) (headers : List Header) (middle : Hash256) (header : Header) → AreLinked below headers middle → header.prev ≡ middle → AreLinked below (headers ++ header ∷ []) (block_hash header)
linked_more below [] middle header l e = (e ∙ sym l, refl)
linked_more below (other ∷ headers) middle header l e = (l.0, linked_more (block_hash other) headers middle header l.1 e)

reaches_more : (headers : List Header) (middle : Hash256) (header : Header) → ReachesUp headers middle → header.prev ≡ middle → ReachesUp (headers ++ header ∷ []) (block_hash header)
reaches_more [] middle header r e = absurd r
reaches_more (first ∷ others) middle header r e = (r.0, linked_more (block_hash first) others middle header r.1 e)

reaches_some : (headers : List Header) (top : Hash256) → ReachesUp headers top → 1 ≤ length headers
reaches_some [] top r = absurd r
reaches_some (first ∷ others) top r = omega arith

-- from the first header up to a known one
reaches : (tree : Tree) (hash : Hash256) → ArePlanted tree → is_known tree hash ≡ true → ReachesUp (reverse (branch tree hash)) hash
unfolding branch genesis_hash
reaches [] hash are known =
    let first = known_first hash known in
    rw first (refl, sym (same-true hash genesis_hash first))
reaches (entry ∷ older) hash are known =
    elim (cases_Bool (same hash (block_hash entry.header))) [
      | inl is ↦
          let below = reaches older entry.header.prev are.1 are.0.parent in
          let top = reaches_more (reverse (branch older entry.header.prev)) entry.header.prev entry.header below refl in
          let here : ReachesUp (reverse (branch (entry ∷ older) hash)) (block_hash entry.header) = rw (is, reverse_cons (branch older entry.header.prev) entry.header) top in
          subst (ReachesUp (reverse (branch (entry ∷ older) hash))) (sym (same-true hash (block_hash entry.header) is)) here
      | inr isnt ↦ rw isnt (reaches older hash are.1 (known_behind entry older hash isnt known))
    ]

pub active_linked : (tree : Tree) → IsHistoric tree → ReachesUp (active tree) (best tree)
active_linked tree is = let are = planted_after tree is in reaches tree (best tree) are (tip_known tree are)

-- ---- the blocks fold

has_kept : (o : Option Entry) (block : Block) → option_and_then (λ entry. entry.block) o ≡ Some block → has_block o ≡ true
has_kept None block e = absurd (let none : None ≡ Some block = e in cc)
has_kept (Some entry) block e = ap is_some e

kept_under_more : (entry : Entry) (older : Tree) (hash : Hash256) (block : Block) → IsPlanted entry older → kept_under older hash ≡ Some block → kept_under (entry ∷ older) hash ≡ Some block
kept_under_more entry older hash block is e = rw (kept_apart entry older hash is (has_kept (entry_of older hash) block e)) e

blocks_more : (entry : Entry) (older : Tree) (headers : List Header) (blocks : List Block) → IsPlanted entry older → AreBlocksOf older headers blocks → AreBlocksOf (entry ∷ older) headers blocks
blocks_more entry older [] [] is e = refl
blocks_more entry older [] (block ∷ blocks) is e = absurd cc
blocks_more entry older (header ∷ headers) [] is e = absurd cc
blocks_more entry older (header ∷ headers) (block ∷ blocks) is e =
    let here : kept_under older (block_hash header) ≡ Some block = cc in
    let others : AreBlocksOf older headers blocks = cc in
    let first = kept_under_more entry older (block_hash header) block is here in
    let rest : AreBlocksOf (entry ∷ older) headers blocks = blocks_more entry older headers blocks is others in
    ap (λ (o : Option Block). o ∷ map (λ (h : Header). kept_under (entry ∷ older) (block_hash h)) headers) first ∙ ap (λ (os : List (Option Block)). Some block ∷ os) rest

blocks_push : (tree : Tree) (headers : List Header) (blocks : List Block) (header : Header) (block : Block) → AreBlocksOf tree headers blocks → kept_under tree (block_hash header) ≡ Some block
    → AreBlocksOf tree (headers ++ header ∷ []) (blocks ++ block ∷ [])
blocks_push tree headers blocks header block e last =
    let under = λ (h : Header). kept_under tree (block_hash h) in
    map-append under headers (header ∷ []) ∙ ap (λ (os : List (Option Block)). os ++ under header ∷ []) e ∙ ap (λ (o : Option Block). map Some blocks ++ o ∷ []) last ∙ sym (map-append Some blocks (block ∷ []))

txs_push : (blocks : List Block) (block : Block) → txs_of (blocks ++ block ∷ []) ≡ txs_of blocks ++ block.txs
txs_push [] block = append-nil block.txs
txs_push (other ∷ blocks) block = ap (λ (txs : List Tx). other.txs ++ txs) (txs_push blocks block) ∙ sym (append_assoc other.txs (txs_of blocks) block.txs)

stopped : (hash : Hash256) (r : Result Unspent Fault) (u : Unspent) → stopped_at hash r ≡ Ok u → r ≡ Ok u
stopped hash (Ok v) u e = let same_u : v ≡ u = cc in ap Ok same_u
stopped hash (Err fault) u e = absurd cc

-- a block that could be spent behind its path
record Spends (entry : Entry) (before : Result Unspent Stop) (after : Unspent) : Type 0 where
  between : Unspent
  is : before ≡ Ok between
  block : Block
  kept : entry.block ≡ Some block
  spends : spend between block.txs ≡ Ok after

spends_block : (hash : Hash256) (o : Option Block) (v u : Unspent) → spend_block hash o v ≡ Ok u → (block : Block) × (o ≡ Some block) × (spend v block.txs ≡ Ok u)
spends_block hash None v u e = absurd (let none : Err (missing hash) ≡ Ok u = e in cc)
spends_block hash (Some block) v u e = (block, refl, stopped hash (spend v block.txs) u e)

spends : (entry : Entry) (before : Result Unspent Stop) (u : Unspent) → then_spend entry before ≡ Ok u → Spends entry before u
spends entry (Err stop) u e = absurd cc
spends entry (Ok v) u e =
    let block = spends_block (block_hash entry.header) entry.block v u e in
    record { between = v; is = refl; block = block.0; kept = block.1; spends = block.2 }

-- what is unspent after a path is what is left by the blocks above its first
abbrev Folds : Tree → List Header → Unspent → Type 0
Folds tree headers u = (blocks : List Block) × AreBlocksOf tree (drop 1 headers) blocks × (spend finite.empty (txs_of blocks) ≡ Ok u)

folds_more : (entry : Entry) (older : Tree) (headers : List Header) (u : Unspent) → IsPlanted entry older → Folds older headers u → Folds (entry ∷ older) headers u
folds_more entry older headers u is f = (f.0, blocks_more entry older (drop 1 headers) f.0 is f.1, f.2)

folds_on : (entry : Entry) (older : Tree) (headers : List Header) (between u : Unspent) (block : Block) → IsPlanted entry older → 1 ≤ length headers → Folds older headers between
    → entry.block ≡ Some block → spend between block.txs ≡ Ok u → Folds (entry ∷ older) (headers ++ entry.header ∷ []) u
folds_on entry older headers between u block is some f kept spent =
    let tree = entry ∷ older in
    let last : kept_under tree (block_hash entry.header) ≡ Some block = rw (same-refl (block_hash entry.header)) kept in
    let pushed = blocks_push tree (drop 1 headers) f.0 entry.header block (blocks_more entry older (drop 1 headers) f.0 is f.1) last in (
      f.0 ++ block ∷ [],
      subst (λ (hs : List Header). AreBlocksOf tree hs (f.0 ++ block ∷ [])) (sym (drop-append-le 1 headers (entry.header ∷ []) some)) pushed,
      ap (spend finite.empty) (txs_push f.0 block) ∙ spend-append finite.empty between (txs_of f.0) block.txs f.2 ∙ spent,
    )

folds : (tree : Tree) (hash : Hash256) (u : Unspent) → ArePlanted tree → is_known tree hash ≡ true → unspent_after tree hash ≡ Ok u → Folds tree (reverse (branch tree hash)) u
unfolding branch unspent_after spend
folds [] hash u are known after =
    let first = known_first hash known in
    let none : Ok finite.empty ≡ Ok u = rw first at after in
    let same_u : finite.empty ≡ u = cc in
    rw first ([], refl, ap Ok same_u)
folds (entry ∷ older) hash u are known after =
    elim (cases_Bool (same hash (block_hash entry.header))) [
      | inl is ↦
          let here : then_spend entry (unspent_after older entry.header.prev) ≡ Ok u = rw is at after in
          let s = spends entry (unspent_after older entry.header.prev) u here in
          let prev = entry.header.prev in
          let below = folds older prev s.between are.1 are.0.parent s.is in
          let some = reaches_some (reverse (branch older prev)) prev (reaches older prev are.1 are.0.parent) in
          rw (is, reverse_cons (branch older prev) entry.header) (folds_on entry older (reverse (branch older prev)) s.between u s.block are.0 some below s.kept s.spends)
      | inr isnt ↦
          let there : unspent_after older hash ≡ Ok u = rw isnt at after in
          rw isnt (folds_more entry older (reverse (branch older hash)) u are.0 (folds older hash u are.1 (known_behind entry older hash isnt known) there))
    ]

pub left_by : (tree : Tree) (u : Unspent) → IsHistoric tree → unspent_after tree (best tree) ≡ Ok u → IsLeftBy tree u
left_by tree u is e = let are = planted_after tree is in folds tree (best tree) u are (tip_known tree are) e

-- ---- none stands higher

height_stays : (entry : Entry) (older : Tree) (hash : Hash256) → IsPlanted entry older → is_kept older hash ≡ true → height_in (entry ∷ older) hash ≡ height_in older hash
height_stays entry older hash is kept = rw (kept_apart entry older hash is kept) refl

-- the tip only rises
rises : (entry : Entry) (older : Tree) → ArePlanted (entry ∷ older) → height_in older (best older) ≤ height_in (entry ∷ older) (best (entry ∷ older))
rises entry older are =
    let same_height = height_stays entry older (best older) are.0 (tip_kept older are.1) in
    elim (turns entry older) [
      | leads ok up is ↦ let tip = ap (height_in (entry ∷ older)) is in omega (arith, same_height, tip, up)
      | stays _ is ↦ let tip = ap (height_in (entry ∷ older)) is in omega (arith, same_height, tip)
    ]

-- a block that was just kept
comes_last : (entry : Entry) (older : Tree) → ArePlanted (entry ∷ older) → IsOk (unspent_after (entry ∷ older) (block_hash entry.header)) → ComesAfter (entry ∷ older) entry older
comes_last entry older are ok =
    elim (turns entry older) [
      | leads _ up is ↦ let tip = ap (height_in (entry ∷ older)) is in (omega (arith, tip), λ _. inl is)
      | stays low is ↦
          let tip = ap (height_in (entry ∷ older)) is in
          let kept = subst (λ (hash : Hash256). is_kept older hash ≡ true) (sym is) (tip_kept older are.1) in
          (omega (arith, tip, low ok), λ _. inr kept)
    ]

later : (newer : Tree) (entry : Entry) (older : Tree) → ArePlanted (newer ++ entry ∷ older) → IsOk (unspent_after (entry ∷ older) (block_hash entry.header)) → ComesAfter (newer ++ entry ∷ older) entry older
later [] entry older are ok = comes_last entry older are ok
later (newest ∷ newer) entry older are ok =
    let tree = newer ++ entry ∷ older in
    let below = later newer entry older are.1 ok in
    let same_height = height_stays newest tree (best tree) are.0 (tip_kept tree are.1) in
    elim (turns newest tree) [
      | leads _ up is ↦
          let tip = ap (height_in (newest ∷ tree)) is in
          let lower = below.0 in
          (omega (arith, same_height, tip, up, lower), λ equal. absurd (omega (arith, same_height, tip, up, lower, equal)))
      | stays _ is ↦
          let tip = ap (height_in (newest ∷ tree)) is ∙ same_height in (
            omega (arith, tip, below.0),
            λ equal. subst (λ (hash : Hash256). (hash ≡ block_hash entry.header) ⊎ (is_kept older hash ≡ true)) (sym is) (below.1 (equal ∙ tip)),
          )
    ]

below_tip : (tree : Tree) (hash : Hash256) → ArePlanted tree → IsOk (unspent_after tree hash) → height_in tree hash ≤ height_in tree (best tree)
unfolding unspent_after
below_tip [] hash are ok =
    elim (cases_Bool (same hash genesis_hash)) [
      | inl is ↦ let none : height_in [] hash ≡ 0 = rw is refl in omega (arith, none)
      | inr isnt ↦ let none : height_in [] hash ≡ 0 = rw isnt refl in omega (arith, none)
    ]
below_tip (entry ∷ older) hash are ok =
    elim (cases_Bool (same hash (block_hash entry.header))) [
      | inl is ↦
          let own = same-true hash (block_hash entry.header) is in
          let last = comes_last entry older are (subst (λ (h : Hash256). IsOk (unspent_after (entry ∷ older) h)) own ok) in
          let same_height = ap (height_in (entry ∷ older)) own in
          omega (arith, same_height, last.0)
      | inr isnt ↦
          let there : IsOk (unspent_after older hash) = rw isnt at ok in
          let below = below_tip older hash are.1 there in
          let same_height : height_in (entry ∷ older) hash ≡ height_in older hash = rw isnt refl in
          omega (arith, same_height, below, rises entry older are)
    ]

pub comes_after : (tree newer : Tree) (entry : Entry) (older : Tree) → IsHistoric tree → tree ≡ newer ++ entry ∷ older → IsOk (unspent_after (entry ∷ older) (block_hash entry.header)) → ComesAfter tree entry older
comes_after tree newer entry older is parts ok =
    subst (λ (t : Tree). ComesAfter t entry older) (sym parts) (later newer entry older (subst ArePlanted parts (planted_after tree is)) ok)

pub highest : (tree : Tree) (hash : Hash256) → IsHistoric tree → IsOk (unspent_after tree hash) → height_in tree hash ≤ height_in tree (best tree)
highest tree hash is ok = below_tip tree hash (planted_after tree is) ok

-- ---- a block is kept once, under its own header, and meets the rules

planted_at : (newer : Tree) (entry : Entry) (older : Tree) → ArePlanted (newer ++ entry ∷ older) → IsPlanted entry older
planted_at [] entry older are = are.0
planted_at (newest ∷ newer) entry older are = planted_at newer entry older are.1

pub planted_in : (tree newer : Tree) (entry : Entry) (older : Tree) → IsHistoric tree → tree ≡ newer ++ entry ∷ older → IsPlanted entry older
planted_in tree newer entry older is parts = planted_at newer entry older (subst ArePlanted parts (planted_after tree is))

abbrev pub HasGoodBlock : Entry → Type 0
HasGoodBlock entry = IfSome entry.block MeetsBlockRules

good : (tree : Tree) → ArePlanted tree → All HasGoodBlock tree
good [] are = All-nil HasGoodBlock
good (entry ∷ older) are = All-cons HasGoodBlock entry older are.0.rules (good older are.1)

pub all_good : (tree : Tree) → IsHistoric tree → All HasGoodBlock tree
all_good tree is = good tree (planted_after tree is)

abbrev pub HasSoundBlock : Entry → Type 0
HasSoundBlock entry = IfSome entry.block IsSoundBlock

sound : (tree : Tree) → ArePlanted tree → All HasSoundBlock tree
sound [] are = All-nil HasSoundBlock
sound (entry ∷ older) are = All-cons HasSoundBlock entry older are.0.sound (sound older are.1)

pub all_sound : (tree : Tree) → IsHistoric tree → All HasSoundBlock tree
all_sound tree is = sound tree (planted_after tree is)

-- ---- what a kept block is marked for

reason_of : (tree : Tree) (hash : Hash256) (r : Result Unspent Stop) → unspent_after tree hash ≡ r → IsHistoric tree → is_kept tree hash ≡ true → is_marked tree hash ≡ true → IsErr r → IsMarkedFor tree hash
reason_of tree hash (Ok u) e is kept marked err = absurd (false≢true err)
reason_of tree hash (Err (missing lacking)) e is kept marked err = absurd (nothing_missing tree hash lacking is kept e)
reason_of tree hash (Err (faulty first fault)) e is kept marked err =
    let are = planted_after tree is in
    record {
      first = first;
      fault = fault;
      through = stop_leads tree hash first fault are kept e;
      marked = sym (marked_stop tree hash first fault is kept e) ∙ marked;
      why = (stop_is tree hash first fault are kept e).why;
    }

pub marked_for : (tree : Tree) (hash : Hash256) → IsHistoric tree → is_kept tree hash ≡ true → is_marked tree hash ≡ true → IsMarkedFor tree hash
marked_for tree hash is kept marked = reason_of tree hash (unspent_after tree hash) refl is kept marked (marked_err tree hash is marked)
