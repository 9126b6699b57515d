-- The decision by levels and the relation of levels say the same of a block.
use Rattle.std.proofs.Common.{◌≡◌, ℕ, zero, suc, ◌<◌, ◌≤◌, ◌⊎◌, true, false, List, [], ◌∷◌, length, All, refl, sym, ap, subst, ◌∙◌, arith, inl, inr}
use Rattle.std.specs.Prelude.{◌≢◌, not, ◌==◌, Result, Ok, Err, IfErr, IfOk, is_err}
use Rattle.std.specs.Bool.{Decides}
use Rattle.std.specs.Str.{bytes_eq}
use Rattle.std.proofs.lemmas.Bool.{false≢true, not-true, and_parts, and_from, not_from_false, false_from_ne_true}
use Rattle.std.proofs.lemmas.Bool.Decides.{Decides-eqb, Decides-like, Decides-not, Decides-or, Decides-by_and}
use Rattle.std.proofs.lemmas.List.{length-map, get_or-map}
use Rattle.std.proofs.lemmas.List.Elements.{All-map}
use Rattle.std.proofs.lemmas.Slice.Eq.{bytes_eq-Decides}
use Rattle.cb_base.specs.declared.fault.Fault.{Fault}
use Rattle.cb_base.specs.declared.fault.Fault.TheVariants.{Memory, Empty, Size64, Mutated, BadRoot}
use Rattle.cb_base.specs.declared.hash.Hash256.{Hash256}
use Rattle.cb_base.specs.DoubleHash.{double_hash}
use Rattle.cb_block.specs.declared.tx.Tx.{Tx}
use Rattle.cb_block.specs.TxText.{tx_text}
use Rattle.cb_block.specs.declared.block.Block.{Block}
use Rattle.cb_block.specs.Blocks.{texts, IsSoundBlock, IsUnsound}
use Rattle.cb_block.specs.MerkleTree.{up, IsLevel, itself, above, IsRoot, HasEqualPair, IsMutated}
use Rattle.cb_block.specs.Soundness.{names}
use Rattle.cb_block.proofs.Climbing.{up_half, few_mutated}
use Rattle.cb_block.proofs.Levels.{level_split, level_then, level_top}
use Rattle.cb_block.specs.Decision.{has_equal_pair, rises_to, has_no_size_64, is_hashed, is_sound_block}

-- ---- equal hashes, equal neighbours, sizes

hash_decides : (a b : Hash256) → Decides (bytes_eq a.0 b.0) (a ≡ b)
hash_decides a b =
    Decides-like (bytes_eq a.0 b.0) (λ (e : a.0 ≡ b.0). ap (λ (x : List ℕ). record { 0 = x }) e) (λ (e : a ≡ b). ap (λ (x : Hash256). x.0) e) (bytes_eq-Decides a.0 b.0)

pair_decides : (level : List Hash256) → Decides (has_equal_pair level) (HasEqualPair level)
pair_decides [] = (λ e. absurd (false≢true e), λ h. absurd h)
pair_decides (a ∷ []) = (λ e. absurd (false≢true e), λ h. absurd h)
pair_decides (a ∷ b ∷ level) = Decides-or (bytes_eq a.0 b.0) (has_equal_pair level) (hash_decides a b) (pair_decides level)

sizes_decide : (strings : List (List ℕ)) → Decides (has_no_size_64 strings) (All (λ text. length text ≢ 64) strings)
sizes_decide =
    Decides-by_and (λ text. not (length text == 64)) (λ text. length text ≢ 64) has_no_size_64 (λ text. Decides-not (length text == 64) (Decides-eqb (length text) 64)) refl (λ x xs. refl)

-- ---- levels

-- the level above one of two hashes or more
level_up : (a b : Hash256) (others level : List Hash256) → IsLevel (up (a ∷ b ∷ others)) level → IsLevel (a ∷ b ∷ others) level
level_up a b others level l =
    level_then (a ∷ b ∷ others) (up (a ∷ b ∷ others)) level (above (a ∷ b ∷ others) (itself refl) (omega arith) refl) l

-- what rises to a root has a hash
rises_some : (root : Hash256) (steps : ℕ) (level : List Hash256) → rises_to root steps level ≡ true → 0 < length level
rises_some root steps [] e = absurd (false≢true e)
rises_some root steps (a ∷ level) e = omega arith

-- what rises to a root has that root, and isn't mutated
rises_from : (root : Hash256) (steps : ℕ) (level : List Hash256) → rises_to root steps level ≡ true → IsRoot level root × ¬ IsMutated level
rises_from root steps [] e = absurd (false≢true e)
rises_from root steps (a ∷ []) e = (
  itself (ap (λ (x : Hash256). x ∷ []) (sym ((hash_decides a root).0 e))),
  few_mutated (a ∷ []) (omega arith),
)
rises_from root zero (a ∷ b ∷ others) e = absurd (false≢true e)
rises_from root (suc steps) (a ∷ b ∷ others) e =
    let level = a ∷ b ∷ others in
    let parts = and_parts (not (has_equal_pair level)) (rises_to root steps (up level)) e in
    let next = rises_from root steps (up level) parts.1 in (
      level_up a b others (root ∷ []) next.0,
      λ m. elim (level_split level m.0 m.1) [
        | inl same ↦ false≢true (sym (not-true (has_equal_pair level) parts.0) ∙ (pair_decides level).1 (subst HasEqualPair same m.2))
        | inr rest ↦ next.1 (m.0, rest.1, m.2)
      ],
    )

one_of : (a b : Hash256) (x y : List Hash256) → a ∷ x ≡ b ∷ y → a ≡ b
one_of a b x y e = cc

-- what isn't mutated rises to its root, in as many steps as it has hashes
rises_all : (root : Hash256) (steps : ℕ) (level : List Hash256) → 0 < length level → length level ≤ steps → IsRoot level root → ¬ IsMutated level → rises_to root steps level ≡ true
rises_all root steps [] some enough is clean = absurd (omega arith)
rises_all root steps (a ∷ []) some enough is clean =
    (hash_decides a root).1 (sym (one_of root a [] [] (level_top (a ∷ []) (root ∷ []) (omega arith) is)))
rises_all root zero (a ∷ b ∷ others) some enough is clean = absurd (omega arith)
rises_all root (suc steps) (a ∷ b ∷ others) some enough is clean =
    let level = a ∷ b ∷ others in
    let half = up_half level in
    let apart = false_from_ne_true (has_equal_pair level) (λ t. clean (level, itself refl, (pair_decides level).0 t)) in
    elim (level_split level (root ∷ []) is) [
      | inl same ↦ absurd (omega (arith, ap length same))
      | inr rest ↦
          and_from (not (has_equal_pair level)) (rises_to root steps (up level)) (not_from_false (has_equal_pair level) apart)
          (rises_all root steps (up level) (omega (arith, half.1)) (omega (arith, half.0, enough)) rest.1 (λ m. clean (m.0, level_up a b others m.0 m.1, m.2)))
    ]

-- ---- blocks

leaves_long : (txs : List Tx) → length (names (texts txs)) ≡ length txs
leaves_long txs = length-map (texts txs) double_hash ∙ length-map txs tx_text

-- what is decided to be sound is
pub sound_from : (b : Block) → is_sound_block b ≡ true → IsSoundBlock b
unfolding is_sound_block
sound_from b e =
    let leaves = names (texts b.txs) in
    let parts = and_parts (has_no_size_64 (texts b.txs)) (rises_to b.header.root (length b.txs) leaves) e in
    let tree = rises_from b.header.root (length b.txs) leaves parts.1 in
    record {
      some = omega (arith, rises_some b.header.root (length b.txs) leaves parts.1, length-map (texts b.txs) double_hash);
      no_size_64 = (sizes_decide (texts b.txs)).0 parts.0;
      not_mutated = tree.1;
      root_is = tree.0;
    }

-- what is sound is decided to be
pub sound_to : (b : Block) → IsSoundBlock b → is_sound_block b ≡ true
unfolding is_sound_block
sound_to b sound =
    let leaves = names (texts b.txs) in
    let some : 0 < length leaves = omega (arith, sound.some, length-map (texts b.txs) double_hash) in
    let enough : length leaves ≤ length b.txs = omega (arith, leaves_long b.txs) in
    and_from (has_no_size_64 (texts b.txs)) (rises_to b.header.root (length b.txs) leaves)
    ((sizes_decide (texts b.txs)).1 sound.no_size_64)
    (rises_all b.header.root (length b.txs) leaves some enough sound.root_is sound.not_mutated)

-- no reason why a block isn't sound is there of a sound one
unsound_not : (b : Block) (fault : Fault) → IsUnsound b fault → IsSoundBlock b → ⊥
unsound_not b Empty none sound = absurd (omega (arith, sound.some, length-map b.txs tx_text, none))
unsound_not b Size64 (k, tx, less, is, size) sound =
    sound.no_size_64 k (tx_text tx) (omega (arith, less, length-map b.txs tx_text))
    (ap length (get_or-map tx_text b.txs k tx (tx_text tx) less) ∙ ap (λ (x : Tx). length (tx_text x)) is ∙ size)
unsound_not b Mutated tree sound = sound.not_mutated tree.2
unsound_not b BadRoot tree sound = tree.3 sound.root_is
unsound_not b other none sound = absurd none

-- what isn't sound, for whatever reason, is decided not to be
pub unsound_is : (b : Block) (fault : Fault) → IsUnsound b fault → is_sound_block b ≡ false
unsound_is b fault why = false_from_ne_true (is_sound_block b) (λ t. unsound_not b fault why (sound_from b t))

-- ---- what judging a block tells

pub judged_sound : (told block now : Block) → (told ≡ block) × IsSoundBlock block → block ≡ now → (told ≡ now) × (is_sound_block now ≡ true)
judged_sound told block now tells same = (tells.0 ∙ same, ap is_sound_block (sym same) ∙ sound_to block tells.1)

pub judged_not : (block now : Block) (fault : Fault) → (fault ≡ Memory) ⊎ IsUnsound block fault → fault ≢ Memory → block ≡ now → is_sound_block now ≡ false
judged_not block now fault (inl none) other same = absurd (other none)
judged_not block now fault (inr why) other same = ap is_sound_block (sym same) ∙ unsound_is block fault why

-- ---- what the sizes tell before anything is hashed

hashed : (b : Block) → 0 < length b.txs → All (λ tx. length (tx_text tx) ≢ 64) b.txs → is_hashed b ≡ true
hashed b some sizes =
    and_from (not (length b.txs == 0)) (has_no_size_64 (texts b.txs))
    ((Decides-not (length b.txs == 0) (Decides-eqb (length b.txs) 0)).1 (λ none. absurd (omega (arith, some, none))))
    ((sizes_decide (texts b.txs)).1 (All-map (λ text. length text ≢ 64) tx_text b.txs sizes))

module _ {T : Type 0} (b : Block) where
  pub refused_is : (told : Result T Fault) → IfErr told (λ fault. (fault ≢ Memory) × IsUnsound b fault) → is_err told ≡ true → is_sound_block b ≡ false
  refused_is (Err fault) tells is = unsound_is b fault tells.1
  refused_is (Ok done) tells is = absurd cc

  pub unhashed_is : {P : Type 0} (told : Result T Fault) → IfOk told (λ done. 0 < length b.txs) → IfOk told (λ done. All (λ tx. length (tx_text tx) ≢ 64) b.txs) → is_err told ≡ false
      → is_hashed b ≡ false → P
  unhashed_is (Err fault) some sizes is unhashed = absurd cc
  unhashed_is (Ok done) some sizes is unhashed = absurd (let e : true ≡ false = sym (hashed b some sizes) ∙ unhashed in cc)
