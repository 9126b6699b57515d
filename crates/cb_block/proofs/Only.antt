-- A sound list is the only one under its root, where no hashes collide.
use Rattle.std.proofs.Common.{◌≡◌, ℕ, suc, ◌<◌, ◌≤◌, ◌⊎◌, List, [], ◌∷◌, ◌++◌, length, take, drop, map, All, refl, sym, ap, subst, ◌∙◌, arith, inl, inr}
use Rattle.std.specs.Prelude.{◌≢◌, Contains}
use Rattle.std.proofs.lemmas.List.{take_at, drop_at, length-append}
use Rattle.std.proofs.lemmas.List.Elements.{All-head}
use Rattle.sha2.proofs.Facts256.{length-sha256}
use Rattle.cb_base.specs.declared.hash.Hash256.{Hash256}
use Rattle.cb_base.specs.DoubleHash.{double_hash}
use Rattle.cb_block.specs.MerkleTree.{pair_texts, up, IsLevel, itself, above, HasEqualPair, IsMutated}
use Rattle.cb_block.specs.Soundness.{names, IsSound, IsMet, AreApart}

-- each hash has 32 bytes
data AreHashes : List Hash256 → Type 0 where
  none : AreHashes []
  more : {h : Hash256} {hs : List Hash256} → length h.0 ≡ 32 → AreHashes hs → AreHashes (h ∷ hs)

names_are : (texts : List (List ℕ)) → AreHashes (names texts)
names_are [] = none
names_are (t ∷ ts) = more (length-sha256 _) (names_are ts)

level_is : (leaves level : List Hash256) → AreHashes leaves → IsLevel leaves level → AreHashes level
level_is leaves level are (itself e) = subst AreHashes (sym e) are
level_is leaves level are (above below l many e) = subst AreHashes (sym e) (names_are (pair_texts below))

-- ---- from a level down to the one below

hash_from : (a b : Hash256) → a.0 ≡ b.0 → a ≡ b
hash_from a b e = ap (λ (x : List ℕ). record { 0 = x }) e

-- two hashes joined are those two alone
split : (a b c d : Hash256) → length a.0 ≡ 32 → length c.0 ≡ 32 → a.0 ++ b.0 ≡ c.0 ++ d.0 → (a ≡ c) × (b ≡ d)
split a b c d la lc e =
    let front : a.0 ≡ c.0 = sym (take_at a.0 b.0 32 la) ∙ ap (take 32) e ∙ take_at c.0 d.0 32 lc in
    let back : b.0 ≡ d.0 = sym (drop_at a.0 b.0 32 la) ∙ ap (drop 32) e ∙ drop_at c.0 d.0 32 lc in
    (hash_from a c front, hash_from b d back)

first_of : {A : Type 0} (x y : A) (xs ys : List A) → x ∷ xs ≡ y ∷ ys → x ≡ y
first_of x y xs ys e = cc

rest_of : {A : Type 0} (x y : A) (xs ys : List A) → x ∷ xs ≡ y ∷ ys → xs ≡ ys
rest_of x y xs ys e = cc

no_text : (a : Hash256) (others : List Hash256) → pair_texts (a ∷ others) ≡ [] → ⊥
no_text a [] e = absurd cc
no_text a (b ∷ others) e = absurd cc

-- levels whose pairs are the same are the same, unless one has equal neighbours
below_same : (k m : List Hash256) → AreHashes k → AreHashes m → ¬ HasEqualPair k → ¬ HasEqualPair m → pair_texts k ≡ pair_texts m → k ≡ m
below_same [] [] hk hm ck cm e = refl
below_same [] (c ∷ m) hk hm ck cm e = absurd (no_text c m (sym e))
below_same (a ∷ k) [] hk hm ck cm e = absurd (no_text a k e)
below_same (a ∷ []) (c ∷ []) (more la _) (more lc _) ck cm e =
    ap (λ (x : Hash256). x ∷ []) (split a a c c la lc (first_of _ _ [] [] e)).0
below_same (a ∷ []) (c ∷ d ∷ m) (more la _) (more lc _) ck cm e =
    let s = split a a c d la lc (first_of _ _ [] (pair_texts m) e) in
    absurd (cm (inl (sym s.0 ∙ s.1)))
below_same (a ∷ b ∷ k) (c ∷ []) (more la _) (more lc _) ck cm e =
    let s = split a b c c la lc (first_of _ _ (pair_texts k) [] e) in
    absurd (ck (inl (s.0 ∙ sym s.1)))
below_same (a ∷ b ∷ k) (c ∷ d ∷ m) (more la (more lb hk)) (more lc (more ld hm)) ck cm e =
    let s = split a b c d la lc (first_of _ _ (pair_texts k) (pair_texts m) e) in
    let others = below_same k m hk hm (λ x. ck (inr x)) (λ x. cm (inr x)) (rest_of _ _ (pair_texts k) (pair_texts m) e) in
    ap (λ (x : Hash256). x ∷ b ∷ k) s.0 ∙ ap (λ (x : Hash256). c ∷ x ∷ k) s.1 ∙ ap (λ (x : List Hash256). c ∷ d ∷ x) others

-- ---- strings that don't collide

has_first : (x : List ℕ) (xs : List (List ℕ)) → Contains (x ∷ xs) x
has_first x xs = (0, omega arith, refl)

has_later : (x y : List ℕ) (ys : List (List ℕ)) → Contains ys x → Contains (y ∷ ys) x
has_later x y ys h = (suc h.0, omega (arith, h.1), h.2)

-- lists with the same hashes are the same, where no two of their strings collide
texts_same : (xs ys : List (List ℕ)) → ((x y : List ℕ) → Contains xs x → Contains ys y → double_hash x ≡ double_hash y → x ≡ y) → names xs ≡ names ys → xs ≡ ys
texts_same [] [] apart e = refl
texts_same [] (y ∷ ys) apart e = absurd cc
texts_same (x ∷ xs) [] apart e = absurd cc
texts_same (x ∷ xs) (y ∷ ys) apart e =
    let first = apart x y (has_first x xs) (has_first y ys) (first_of (double_hash x) (double_hash y) (names xs) (names ys) e) in
    let others = texts_same xs ys (λ a b ca cb. apart a b (has_later a x xs ca) (has_later b y ys cb)) (rest_of (double_hash x) (double_hash y) (names xs) (names ys) e) in
    ap (λ (z : List ℕ). z ∷ xs) first ∙ ap (λ (zs : List (List ℕ)). y ∷ zs) others

-- the leaves are above a level with two hashes
record IsInner (leaves others : List Hash256) : Type 0 where
  level : List Hash256
  is_level : IsLevel others level
  many : 2 ≤ length level
  is_up : leaves ≡ up level

module _ (texts others : List (List ℕ)) (apart : AreApart texts others) (clean : ¬ IsMutated (names texts)) (clean' : ¬ IsMutated (names others)) where
  -- from a level that the two trees share, down to the leaves of one
  descends : (level level' : List Hash256) → IsLevel (names texts) level → IsLevel (names others) level' → level ≡ level'
      → (names texts ≡ names others) ⊎ IsInner (names texts) (names others) ⊎ IsInner (names others) (names texts)
  descends level level' (itself e) (itself f) same = inl (sym e ∙ same ∙ f)
  descends level level' (itself e) (above below l many f) same = inr (inl (record { level = below; is_level = l; many = many; is_up = sym e ∙ same ∙ f }))
  descends level level' (above below k many e) (itself f) same = inr (inr (record { level = below; is_level = k; many = many; is_up = sym f ∙ sym same ∙ e }))
  descends level level' (above below k many e) (above below' l many' f) same =
      let hashed : pair_texts below ≡ pair_texts below' =
      texts_same (pair_texts below) (pair_texts below') (λ x y cx cy. apart x y (inl (inr (below, k, many, cx))) (inr (inr (below', l, many', cy)))) (sym e ∙ same ∙ f) in
      let down : below ≡ below' =
      below_same below below' (level_is (names texts) below (names_are texts) k) (level_is (names others) below' (names_are others) l) (λ p. clean (below, k, p)) (λ p. clean' (below', l, p)) hashed in
      descends below below' k l down

-- leaves that are above a level have a string of 64 bytes
inner_has_64 : (texts others : List (List ℕ)) → ((x y : List ℕ) → IsMet texts x → IsMet others y → double_hash x ≡ double_hash y → x ≡ y)
    → 0 < length texts → All (λ text. length text ≢ 64) texts → IsInner (names texts) (names others) → ⊥
inner_has_64 [] others apart some sizes inner = absurd (omega arith)
inner_has_64 (t ∷ ts) others apart some sizes inner = elim_level inner.level inner.is_level inner.many inner.is_up (level_is (names others) inner.level (names_are others) inner.is_level) where
  elim_level : (level : List Hash256) → IsLevel (names others) level → 2 ≤ length level → names (t ∷ ts) ≡ up level → AreHashes level → ⊥
  elim_level [] l many e are = absurd (omega arith)
  elim_level (a ∷ []) l many e are = absurd (omega arith)
  elim_level (a ∷ b ∷ rest) l many e (more la (more lb are)) =
      let joined = a.0 ++ b.0 in
      let met : IsMet others joined = inr (a ∷ b ∷ rest, l, many, has_first joined (pair_texts rest)) in
      let same : t ≡ joined = apart t joined (inl (has_first t ts)) met (first_of (double_hash t) (double_hash joined) (names ts) (map double_hash (pair_texts rest)) e) in
      let long : length t ≡ 64 = ap length same ∙ omega (arith, length-append a.0 b.0, la, lb) in
      All-head (λ text. length text ≢ 64) t ts sizes long

-- Each list that is sound under the root, and apart from this one, is this one.
pub only_one : (root : Hash256) (texts : List (List ℕ)) → IsSound root texts → (others : List (List ℕ)) → IsSound root others → AreApart texts others → others ≡ texts
only_one root texts sound others sound' apart =
    elim (descends texts others apart sound.not_mutated sound'.not_mutated (root ∷ []) (root ∷ []) sound.root_is sound'.root_is refl) [
      | inl same ↦ sym (texts_same texts others (λ x y cx cy. apart x y (inl (inl cx)) (inr (inl cy))) same)
      | inr (inl inner) ↦ absurd (inner_has_64 texts others (λ x y mx my. apart x y (inl mx) (inr my)) sound.some sound.no_size_64 inner)
      | inr (inr inner) ↦ absurd (inner_has_64 others texts (λ x y mx my. apart x y (inr mx) (inl my)) sound'.some sound'.no_size_64 inner)
    ]
