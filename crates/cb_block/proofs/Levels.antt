-- The levels of a tree lie one above the other.
use Rattle.std.proofs.Common.{◌≡◌, ◌<◌, ◌≤◌, ◌⊎◌, List, [], ◌∷◌, length, sym, ap, subst, ◌∙◌, arith, inl, inr}
use Rattle.cb_base.specs.declared.hash.Hash256.{Hash256}
use Rattle.cb_block.specs.MerkleTree.{up, IsLevel, itself, above, IsRoot}

-- a level is the leaves, or a level above the level above the leaves
pub level_split : (leaves level : List Hash256) → IsLevel leaves level → (level ≡ leaves) ⊎ ((2 ≤ length leaves) × IsLevel (up leaves) level)
level_split leaves level (itself e) = inl e
level_split leaves level (above below l many e) =
    elim (level_split leaves below l) [
      | inl same ↦ inr (subst (λ (x : List Hash256). 2 ≤ length x) same many, itself (e ∙ ap up same))
      | inr rest ↦ inr (rest.0, above below rest.1 many e)
    ]

-- a level of a level is a level
pub level_then : (leaves middle level : List Hash256) → IsLevel leaves middle → IsLevel middle level → IsLevel leaves level
level_then leaves middle level l (itself e) = subst (IsLevel leaves) (sym e) l
level_then leaves middle level l (above below m many e) = above below (level_then leaves middle below l m) many e

-- of two levels one is above the other
pub level_linear : (leaves a b : List Hash256) → IsLevel leaves a → IsLevel leaves b → IsLevel a b ⊎ IsLevel b a
level_linear leaves a b (itself e) l = inl (subst (λ (x : List Hash256). IsLevel x b) (sym e) l)
level_linear leaves a b (above below k many e) l =
    elim (level_linear leaves below b k l) [
      | inr down ↦ inr (above below down many e)
      | inl rises ↦
          elim (level_split below b rises) [
            | inl same ↦ inr (above below (itself (sym same)) many e)
            | inr rest ↦ inl (subst (λ (x : List Hash256). IsLevel x b) (sym e) rest.1)
          ]
    ]

-- nothing is above a level of one hash
pub level_top : (leaves level : List Hash256) → length leaves < 2 → IsLevel leaves level → level ≡ leaves
level_top leaves level few l =
    elim (level_split leaves level l) [ inl same ↦ same | inr rest ↦ absurd (omega (arith, rest.0)) ]

one_of : (a b : Hash256) (x y : List Hash256) → a ∷ x ≡ b ∷ y → a ≡ b
one_of a b x y e = cc

-- a tree has one root
pub one_root : (leaves : List Hash256) (a b : Hash256) → IsRoot leaves a → IsRoot leaves b → a ≡ b
one_root leaves a b k l =
    elim (level_linear leaves (a ∷ []) (b ∷ []) k l) [
      | inl rises ↦ one_of a b [] [] (sym (level_top (a ∷ []) (b ∷ []) (omega arith) rises))
      | inr falls ↦ one_of a b [] [] (level_top (b ∷ []) (a ∷ []) (omega arith) falls)
    ]
