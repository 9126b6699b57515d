-- Putting a level's pairs in place of the level, from the left.
use Rattle.std.proofs.Common.{◌≡◌, ℕ, zero, suc, ◌+◌, ◌-◌, ◌*◌, ◌/◌, ◌%◌, ◌<◌, ◌≤◌, ◌⊎◌, List, [], ◌∷◌, ◌++◌, length, get_or, take, drop, set, refl, sym, ap, ◌∙◌, append_assoc, arith, inl, inr}
use Rattle.std.specs.Prelude.{◌↔◌}
use Rattle.std.proofs.lemmas.List.{take_at, take_all, take_more, drop_at, drop-drop, length-append, length-take, get_or-append_right, get_or-drop, drop_more, set_at}
use Rattle.std.proofs.Math.Seq.{take-add}
use Rattle.cb_base.specs.declared.hash.Hash256.{Hash256}
use Rattle.cb_base.specs.DoubleHash.{double_hash}
use Rattle.cb_block.specs.MerkleTree.{up, HasEqualPair}

abbrev joined : Hash256 → Hash256 → Hash256
joined a b = double_hash (a.0 ++ b.0)

-- what stands in front by twos is joined by itself
up_append : (k : ℕ) (front rest : List Hash256) → length front ≡ 2 * k → up (front ++ rest) ≡ up front ++ up rest
up_append k [] rest e = refl
up_append k (a ∷ []) rest e = absurd (omega arith)
up_append zero (a ∷ b ∷ front) rest e = absurd (omega arith)
up_append (suc k) (a ∷ b ∷ front) rest e = ap (λ (x : List Hash256). joined a b ∷ x) (up_append k front rest (omega arith))

length_up : (k : ℕ) (front : List Hash256) → length front ≡ 2 * k → length (up front) ≡ k
length_up zero [] e = refl
length_up (suc k) [] e = absurd (omega arith)
length_up k (a ∷ []) e = absurd (omega arith)
length_up zero (a ∷ b ∷ front) e = absurd (omega arith)
length_up (suc k) (a ∷ b ∷ front) e = ap suc (length_up k front (omega arith))

pub equal_append : (k : ℕ) (front rest : List Hash256) → length front ≡ 2 * k → HasEqualPair (front ++ rest) ↔ (HasEqualPair front ⊎ HasEqualPair rest)
equal_append k [] rest e = (λ h. inr h, λ h. elim h [ inl x ↦ absurd x | inr y ↦ y ])
equal_append k (a ∷ []) rest e = absurd (omega arith)
equal_append zero (a ∷ b ∷ front) rest e = absurd (omega arith)
equal_append (suc k) (a ∷ b ∷ front) rest e =
    let others = equal_append k front rest (omega arith) in (
      λ h. elim h [ inl x ↦ inl (inl x) | inr y ↦ elim (others.0 y) [ inl z ↦ inl (inr z) | inr w ↦ inr w ] ],
      λ h. elim h [ inl x ↦ elim x [ inl y ↦ inl y | inr z ↦ inr (others.1 (inl z)) ] | inr w ↦ inr (others.1 (inr w)) ],
    )

-- one pair more of a level
pub pair_in : (l : List Hash256) (k : ℕ) (a b : Hash256) → 2 * k + 1 < length l → a ≡ get_or l (2 * k) a → b ≡ get_or l (2 * k + 1) b → take (2 * (k + 1)) l ≡ take (2 * k) l ++ (a ∷ b ∷ [])
pair_in l k a b lt la lb =
    let one : take (2 * k + 1) l ≡ take (2 * k) l ++ a ∷ [] = take_more l (2 * k) a (omega arith) ∙ ap (λ (x : Hash256). take (2 * k) l ++ x ∷ []) (sym la) in
    let two : take (2 * k + 1 + 1) l ≡ take (2 * k + 1) l ++ b ∷ [] = take_more l (2 * k + 1) b lt ∙ ap (λ (x : Hash256). take (2 * k + 1) l ++ x ∷ []) (sym lb) in
    let same : 2 * (k + 1) ≡ 2 * k + 1 + 1 = omega arith in
    ap (λ (n : ℕ). take n l) same ∙ two ∙ ap (λ (x : List Hash256). x ++ b ∷ []) one ∙ append_assoc (take (2 * k) l) (a ∷ []) (b ∷ [])

-- two hashes of a level
two_at : (l : List Hash256) (n : ℕ) (a b : Hash256) → n + 1 < length l → a ≡ get_or l n a → b ≡ get_or l (n + 1) b → drop n l ≡ a ∷ b ∷ drop (n + 2) l
two_at l n a b lt ea eb =
    let next : n + 1 + 1 ≡ n + 2 = omega arith in
    drop_more l n a (omega arith) ∙ ap (λ (x : Hash256). x ∷ drop (n + 1) l) (sym ea)
    ∙ ap (λ (x : List Hash256). a ∷ x) (drop_more l (n + 1) b lt ∙ ap (λ (x : Hash256). x ∷ drop (n + 1 + 1) l) (sym eb) ∙ ap (λ (i : ℕ). b ∷ drop i l) next)

-- the parents of four pairs
pub four_up : (l : List Hash256) (n : ℕ) (a b c d e f g h : Hash256) → n + 8 ≤ length l → a ≡ get_or l n a → b ≡ get_or l (n + 1) b → c ≡ get_or l (n + 2) c → d ≡ get_or l (n + 3) d
    → e ≡ get_or l (n + 4) e → f ≡ get_or l (n + 5) f → g ≡ get_or l (n + 6) g → h ≡ get_or l (n + 7) h
    → up (take 8 (drop n l)) ≡ joined a b ∷ joined c d ∷ joined e f ∷ joined g h ∷ []
four_up l n a b c d e f g h le ea eb ec ed ee ef eg eh =
    let three : n + 2 + 1 ≡ n + 3 = omega arith in
    let four : n + 2 + 2 ≡ n + 4 = omega arith in
    let five : n + 4 + 1 ≡ n + 5 = omega arith in
    let six : n + 4 + 2 ≡ n + 6 = omega arith in
    let seven : n + 6 + 1 ≡ n + 7 = omega arith in
    let first : drop n l ≡ a ∷ b ∷ drop (n + 2) l = two_at l n a b (omega arith) ea eb in
    let second : drop (n + 2) l ≡ c ∷ d ∷ drop (n + 4) l = two_at l (n + 2) c d (omega arith) ec (rw three ed) ∙ ap (λ (i : ℕ). c ∷ d ∷ drop i l) four in
    let third : drop (n + 4) l ≡ e ∷ f ∷ drop (n + 6) l = two_at l (n + 4) e f (omega arith) ee (rw five ef) ∙ ap (λ (i : ℕ). e ∷ f ∷ drop i l) six in
    let last : drop (n + 6) l ≡ g ∷ h ∷ drop (n + 6 + 2) l = two_at l (n + 6) g h (omega arith) eg (rw seven eh) in
    let all : drop n l ≡ a ∷ b ∷ c ∷ d ∷ e ∷ f ∷ g ∷ h ∷ drop (n + 6 + 2) l =
    first ∙ ap (λ (x : List Hash256). a ∷ b ∷ x) (second ∙ ap (λ (x : List Hash256). c ∷ d ∷ x) (third ∙ ap (λ (x : List Hash256). e ∷ f ∷ x) last)) in
    ap (λ (x : List Hash256). up (take 8 x)) all

-- the same, where the joined hashes are texts
pub four_by : (l : List Hash256) (n : ℕ) (a b c d e f g h : Hash256) (p q r s : List ℕ) (hashes : List Hash256) → n + 8 ≤ length l → a ≡ get_or l n a → b ≡ get_or l (n + 1) b → c ≡ get_or l (n + 2) c → d ≡ get_or l (n + 3) d
    → e ≡ get_or l (n + 4) e → f ≡ get_or l (n + 5) f → g ≡ get_or l (n + 6) g → h ≡ get_or l (n + 7) h
    → p ≡ a.0 ++ b.0 → q ≡ c.0 ++ d.0 → r ≡ e.0 ++ f.0 → s ≡ g.0 ++ h.0
    → hashes ≡ double_hash p ∷ double_hash q ∷ double_hash r ∷ double_hash s ∷ [] → hashes ≡ up (take 8 (drop n l))
four_by l n a b c d e f g h p q r s hashes le ea eb ec ed ee ef eg eh ep eq er es is =
    is ∙ rw (ep, eq, er, es) (sym (four_up l n a b c d e f g h le ea eb ec ed ee ef eg eh))

-- four parents more
pub raise_four : (l level above : List Hash256) (k : ℕ) → level ≡ up (take (2 * k) l) ++ drop k l → 2 * k + 8 ≤ length l → above ≡ up (take 8 (drop (2 * k) level))
    → take k level ++ (above ++ drop 4 (drop k level)) ≡ up (take (2 * (k + 4)) l) ++ drop (k + 4) l
raise_four l level above k so_far le is =
    let front : List Hash256 = up (take (2 * k) l) in
    let even : length (take (2 * k) l) ≡ 2 * k = omega (arith, length-take (2 * k) l) in
    let long : length front ≡ k = length_up k (take (2 * k) l) even in
    let kept : take k level ≡ front = ap (take k) so_far ∙ take_at front (drop k l) k long in
    let behind : drop k level ≡ drop k l = ap (drop k) so_far ∙ drop_at front (drop k l) k long in
    let rest : drop 4 (drop k level) ≡ drop (k + 4) l = ap (drop 4) behind ∙ drop-drop 4 k l in
    let twice : k + k ≡ 2 * k = omega arith in
    let there : drop (2 * k) level ≡ drop (2 * k) l =
    ap (λ (n : ℕ). drop n level) (sym twice) ∙ sym (drop-drop k k level) ∙ ap (drop k) behind ∙ drop-drop k k l ∙ ap (λ (n : ℕ). drop n l) twice in
    let further : 2 * (k + 4) ≡ 2 * k + 8 = omega arith in
    let cut : take (2 * (k + 4)) l ≡ take (2 * k) l ++ take 8 (drop (2 * k) l) = ap (λ (n : ℕ). take n l) further ∙ take-add (2 * k) 8 l in
    let raised : up (take (2 * (k + 4)) l) ≡ front ++ above =
    ap up cut ∙ up_append k (take (2 * k) l) (take 8 (drop (2 * k) l)) even ∙ ap (λ (x : List Hash256). front ++ up (take 8 x)) (sym there) ∙ ap (λ (x : List Hash256). front ++ x) (sym is) in
    rw (kept, rest, raised) (sym (append_assoc front above (drop (k + 4) l)))

-- the same, as it is written
pub raise_four_at : (l level above written : List Hash256) (i count : ℕ) → level ≡ up (take (2 * (4 * i)) l) ++ drop (4 * i) l → 8 * i + 8 ≤ length l → above ≡ up (take 8 (drop (8 * i) level)) → written ≡ above → count ≡ 4
    → take (4 * i) level ++ (written ++ drop count (drop (4 * i) level)) ≡ up (take (2 * (4 * (i + 1))) l) ++ drop (4 * (i + 1)) l
raise_four_at l level above written i count so_far le is same four =
    let eight : 8 * i ≡ 2 * (4 * i) = omega arith in
    let next : 4 * i + 4 ≡ 4 * (i + 1) = omega arith in
    rw (same, four, ← next) (raise_four l level above (4 * i) so_far (omega arith) (is ∙ ap (λ (n : ℕ). up (take 8 (drop n level))) eight))

-- the level, where its first pairs are joined already
module _ (l level : List Hash256) (k : ℕ) (so_far : level ≡ up (take (2 * k) l) ++ drop k l) where
  read_there : (i : ℕ) (x : Hash256) → 2 * k ≤ i → i < length l → x ≡ get_or level i x → x ≡ get_or l i x
  read_there i x le lt e =
      let long : length (up (take (2 * k) l)) ≡ k = length_up k (take (2 * k) l) (omega (arith, length-take (2 * k) l)) in
      let moved : get_or (up (take (2 * k) l) ++ drop k l) i x ≡ get_or (drop k l) (i - k) x = get_or-append_right (up (take (2 * k) l)) (drop k l) k i x long (omega arith) in
      let place : k + (i - k) ≡ i = omega arith in
      e ∙ ap (λ (z : List Hash256). get_or z i x) so_far ∙ moved ∙ get_or-drop k l (i - k) x ∙ ap (λ (n : ℕ). get_or l n x) place

  pair_there : (a b : Hash256) → 2 * k + 1 < length l → a ≡ get_or level (2 * k) a → b ≡ get_or level (2 * k + 1) b → take (2 * (k + 1)) l ≡ take (2 * k) l ++ (a ∷ b ∷ [])
  pair_there a b lt ea eb = pair_in l k a b lt (read_there (2 * k) a (omega arith) (omega arith) ea) (read_there (2 * k + 1) b (omega arith) lt eb)

  written : (x : Hash256) → k < length l → 2 * k ≤ length l → set level k x ≡ up (take (2 * k) l) ++ x ∷ drop (k + 1) l
  written x lt le =
      let long : length (up (take (2 * k) l)) ≡ k = length_up k (take (2 * k) l) (omega (arith, length-take (2 * k) l)) in
      ap (λ (z : List Hash256). set z k x) (so_far ∙ ap (λ (z : List Hash256). up (take (2 * k) l) ++ z) (drop_more l k x lt)) ∙ set_at (up (take (2 * k) l)) (get_or l k x) (drop (k + 1) l) x k long

  pub raise_more : (a b : Hash256) → 2 * k + 1 < length l → a ≡ get_or level (2 * k) a → b ≡ get_or level (2 * k + 1) b
      → set level k (joined a b) ≡ up (take (2 * (k + 1)) l) ++ drop (k + 1) l
  raise_more a b lt ea eb =
      let front : length (take (2 * k) l) ≡ 2 * k = omega (arith, length-take (2 * k) l) in
      let raised : up (take (2 * (k + 1)) l) ≡ up (take (2 * k) l) ++ joined a b ∷ [] = ap up (pair_there a b lt ea eb) ∙ up_append k (take (2 * k) l) (a ∷ b ∷ []) front in
      written (joined a b) (omega arith) (omega arith)
      ∙ sym (append_assoc (up (take (2 * k) l)) (joined a b ∷ []) (drop (k + 1) l))
      ∙ ap (λ (x : List Hash256). x ++ drop (k + 1) l) (sym raised)

  pub raise_even : length l ≡ 2 * k → take k level ≡ up l
  raise_even len =
      let whole : take (2 * k) l ≡ l = take_all (2 * k) l (omega arith) in
      let long : length (up (take (2 * k) l)) ≡ k = length_up k (take (2 * k) l) (ap length whole ∙ len) in
      ap (take k) so_far ∙ take_at (up (take (2 * k) l)) (drop k l) k long ∙ ap up whole

  odd_is : (last : Hash256) → length l ≡ 2 * k + 1 → last ≡ get_or level (2 * k) last → l ≡ take (2 * k) l ++ last ∷ []
  odd_is last len e =
      let is : last ≡ get_or l (2 * k) last = read_there (2 * k) last (omega arith) (omega arith) e in
      sym (take_all (2 * k + 1) l (omega arith)) ∙ take_more l (2 * k) last (omega arith) ∙ ap (λ (x : Hash256). take (2 * k) l ++ x ∷ []) (sym is)

  pub raise_odd : (last : Hash256) → length l ≡ 2 * k + 1 → last ≡ get_or level (2 * k) last → take (k + 1) (set level k (joined last last)) ≡ up l
  raise_odd last len e =
      let front : length (take (2 * k) l) ≡ 2 * k = omega (arith, length-take (2 * k) l) in
      let long : length (up (take (2 * k) l)) ≡ k = length_up k (take (2 * k) l) front in
      let raised : up l ≡ up (take (2 * k) l) ++ joined last last ∷ [] = ap up (odd_is last len e) ∙ up_append k (take (2 * k) l) (last ∷ []) front in
      let now : set level k (joined last last) ≡ (up (take (2 * k) l) ++ joined last last ∷ []) ++ drop (k + 1) l =
      written (joined last last) (omega arith) (omega arith) ∙ sym (append_assoc (up (take (2 * k) l)) (joined last last ∷ []) (drop (k + 1) l)) in
      ap (take (k + 1)) now ∙ take_at (up (take (2 * k) l) ++ joined last last ∷ []) (drop (k + 1) l) (k + 1) (omega (arith, length-append (up (take (2 * k) l)) (joined last last ∷ []), long)) ∙ sym raised

pub raise_ends_odd : (l level : List Hash256) (k n : ℕ) (last x : Hash256) → level ≡ up (take (2 * k) l) ++ drop k l → length l ≡ n → k ≡ n / 2 → n % 2 ≡ 1
    → last ≡ get_or level (n - 1) last → x ≡ joined last last → take (n / 2 + n % 2) (set level (n / 2) x) ≡ up l
raise_ends_odd l level k n last x so_far len half odd e is =
    let place : n - 1 ≡ 2 * k = omega arith in
    let count : n / 2 + n % 2 ≡ k + 1 = omega arith in
    let whole : length l ≡ 2 * k + 1 = omega arith in
    let at : last ≡ get_or level (2 * k) last = e ∙ ap (λ (i : ℕ). get_or level i last) place in
    ap (λ (i : ℕ). take i (set level (n / 2) x)) count ∙ ap (λ (i : ℕ). take (k + 1) (set level i x)) (sym half) ∙ ap (λ (y : Hash256). take (k + 1) (set level k y)) is ∙ raise_odd l level k so_far last whole at

pub raise_ends_even : (l level : List Hash256) (k n : ℕ) → level ≡ up (take (2 * k) l) ++ drop k l → length l ≡ n → k ≡ n / 2 → (n % 2 ≡ 1 → ⊥)
    → take (n / 2 + n % 2) level ≡ up l
raise_ends_even l level k n so_far len half even =
    let zero-rest : n % 2 ≡ 0 = omega arith in
    let count : n / 2 + n % 2 ≡ k = omega arith in
    ap (λ (i : ℕ). take i level) count ∙ raise_even l level k so_far (omega arith)
