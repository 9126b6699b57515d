-- Going up a tree, level by level, and keeping whether a level had equal neighbours.
use Rattle.std.proofs.Common.{◌≡◌, ◌+◌, ◌*◌, ◌<◌, ◌≤◌, ◌⊎◌, Bool, true, false, List, [], ◌∷◌, length, refl, sym, ap, subst, ◌∙◌, arith, inl, inr}
use Rattle.std.specs.Prelude.{◌↔◌, ◌||◌, IsTrue, slice_index_or}
use Rattle.cb_base.specs.declared.hash.Hash256.{Hash256}
use Rattle.cb_block.specs.MerkleTree.{up, IsLevel, itself, above, HasEqualPair, IsMutated}
use Rattle.cb_block.proofs.Levels.{level_split, level_top}

-- the level above has half as many hashes
pub up_half : (level : List Hash256) → (2 * length (up level) ≤ length level + 1) × (length level ≤ 2 * length (up level))
up_half [] = (omega arith, omega arith)
up_half (a ∷ []) = (omega arith, omega arith)
up_half (a ∷ b ∷ level) = let h = up_half level in (omega (arith, h.0), omega (arith, h.1))

-- What is kept: the level is one of the tree, and whether a level below it had equal neighbours.
pub record IsClimbing (leaves level : List Hash256) (mutated : Bool) : Type 0 where
  pub is_level : IsLevel leaves level
  pub some : 0 < length level
  pub seen : IsTrue mutated → IsMutated leaves
  pub later : (other : List Hash256) → IsLevel leaves other → HasEqualPair other → IsTrue mutated ⊎ IsLevel level other

pub climb_start : (leaves : List Hash256) → 0 < length leaves → IsClimbing leaves leaves false
climb_start leaves some = record { is_level = itself refl; some = some; seen = λ t. absurd cc; later = λ other l p. inr l }

climb_more : (leaves level next : List Hash256) (mutated equal now : Bool) → IsClimbing leaves level mutated → 1 < length level → next ≡ up level
    → IsTrue equal ↔ HasEqualPair level → ((equal ≡ true) × (now ≡ true)) ⊎ ((equal ≡ false) × (now ≡ mutated)) → IsClimbing leaves next now
climb_more leaves level next mutated equal now c many is tells (inl h) = record {
  is_level = above level c.is_level many is;
  some = omega (arith, (up_half level).1, ap length is);
  seen = λ _. (level, c.is_level, tells.0 h.0);
  later = λ other l p. inl h.1;
}
climb_more leaves level next mutated equal now c many is tells (inr h) = record {
  is_level = above level c.is_level many is;
  some = omega (arith, (up_half level).1, ap length is);
  seen = λ t. c.seen (sym h.1 ∙ t);
  later = λ other l p.
      elim (c.later other l p) [
        | inl t ↦ inl (h.1 ∙ t)
        | inr rises ↦
            elim (level_split level other rises) [
              | inl same ↦ absurd (let t : equal ≡ true = tells.1 (subst HasEqualPair same p) in let f = sym t ∙ h.0 in cc)
              | inr rest ↦ inr (subst (λ (x : List Hash256). IsLevel x other) (sym is) rest.1)
            ]
      ];
}

by_or : (mutated equal now : Bool) → now ≡ (mutated || equal) → ((equal ≡ true) × (now ≡ true)) ⊎ ((equal ≡ false) × (now ≡ mutated))
by_or true true now e = inl (refl, e)
by_or false true now e = inl (refl, e)
by_or true false now e = inr (refl, e)
by_or false false now e = inr (refl, e)

-- the level above, where it is known whether the level or one below it had equal neighbours
pub climb_next : (leaves level next : List Hash256) (mutated equal now : Bool) → IsClimbing leaves level mutated → 1 < length level → next ≡ up level
    → IsTrue equal ↔ HasEqualPair level → now ≡ (mutated || equal) → IsClimbing leaves next now
climb_next leaves level next mutated equal now c many is tells either = climb_more leaves level next mutated equal now c many is tells (by_or mutated equal now either)

no_pair : (level : List Hash256) → length level ≤ 1 → HasEqualPair level → ⊥
no_pair [] le h = h
no_pair (a ∷ []) le h = h
no_pair (a ∷ b ∷ level) le h = absurd (omega arith)

pub climb_end : (leaves level : List Hash256) (mutated : Bool) → IsClimbing leaves level mutated → length level ≤ 1 → IsTrue mutated ↔ IsMutated leaves
climb_end leaves level mutated c few = (
  c.seen,
  λ m. elim (c.later m.0 m.1 m.2) [
    | inl t ↦ t
    | inr rises ↦ absurd (no_pair level few (subst HasEqualPair (level_top level m.0 (omega arith) rises) m.2))
  ],
)

pub climb_root : (leaves level : List Hash256) (mutated : Bool) (root : Hash256) → IsClimbing leaves level mutated → length level ≤ 1 → slice_index_or level 0 root ≡ root → IsLevel leaves (root ∷ [])
climb_root leaves [] mutated root c few e = absurd (omega (arith, c.some))
climb_root leaves (a ∷ []) mutated root c few e = subst (λ (x : Hash256). IsLevel leaves (x ∷ [])) e c.is_level
climb_root leaves (a ∷ b ∷ level) mutated root c few e = absurd (omega arith)

pub few_mutated : (leaves : List Hash256) → length leaves < 2 → ¬ IsMutated leaves
few_mutated leaves few m = no_pair leaves (omega arith) (subst HasEqualPair (level_top leaves m.0 few m.1) m.2)

-- one hash is the root of its tree
pub one_is_root : (leaves : List Hash256) (other : Hash256) → 1 ≤ length leaves → length leaves < 2 → IsLevel leaves (slice_index_or leaves 0 other ∷ [])
one_is_root [] other some few = absurd (omega arith)
one_is_root (a ∷ []) other some few = itself refl
one_is_root (a ∷ b ∷ leaves) other some few = absurd (omega arith)
