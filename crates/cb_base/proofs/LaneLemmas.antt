-- Vectors of four words, lane by lane.
use Rattle.std.proofs.Common.{◌≡◌, ℕ, zero, suc, ◌-◌, ◌*◌, ◌/◌, ◌%◌, ◌^◌, ◌<◌, List, [], ◌∷◌, length, map, eqb, cond, get_or, set, slice_index, bit_or, arith, refl}
use Rattle.std.proofs.lemmas.List.{get_or-map, map-set}
use Rattle.std.specs.Simd.Lanes.{Each1, zip2, sel_l, top}
use Rattle.std.proofs.lemmas.Simd.{Each1-get_or}
use mir.Val.{Fits}
use Rattle.std.specs.Int.{w32, rotate_right}
use Rattle.cb_base.specs.Lanes.{lane}

-- what holds of each of the four lanes
pub below_four : (P : ℕ → Type 0) → P 0 → P 1 → P 2 → P 3 → (k : ℕ) → k < 4 → P k
below_four P p0 p1 p2 p3 zero h = p0
below_four P p0 p1 p2 p3 (suc zero) h = p1
below_four P p0 p1 p2 p3 (suc (suc zero)) h = p2
below_four P p0 p1 p2 p3 (suc (suc (suc zero))) h = p3
below_four P p0 p1 p2 p3 (suc (suc (suc (suc n)))) h = absurd (omega arith)

-- what holds of each list of four words
pub four_words : (P : List ℕ → Type 0) → ((a b c d : ℕ) → P (a ∷ b ∷ c ∷ d ∷ [])) → (xs : List ℕ) → length xs ≡ 4 → P xs
four_words P p (a ∷ b ∷ c ∷ d ∷ []) h = p a b c d
four_words P p [] h = absurd (omega arith)
four_words P p (a ∷ []) h = absurd (omega arith)
four_words P p (a ∷ b ∷ []) h = absurd (omega arith)
four_words P p (a ∷ b ∷ c ∷ []) h = absurd (omega arith)
four_words P p (a ∷ b ∷ c ∷ d ∷ e ∷ xs) h = absurd (omega arith)

-- two shifts of each lane and an or are a rotation
abbrev Rotates : ℕ → List ℕ → Type 0
Rotates by x = (k : ℕ) → k < 4
    → slice_index (zip2 bit_or
    (zip2 (λ a n. a / 2 ^ n) x (by ∷ by ∷ by ∷ by ∷ []))
    (zip2 (λ a n. a * 2 ^ n % 2 ^ 32) x ((32 - by) ∷ (32 - by) ∷ (32 - by) ∷ (32 - by) ∷ []))) k
    ≡ rotate_right w32 (slice_index x k) by

pub shifts_rotate : (by : ℕ) → 0 < by → by < 32 → (x : List ℕ) → length x ≡ 4 → Rotates by x
shifts_rotate by low high =
    let left : (32 - by % 32) % 32 ≡ 32 - by = omega arith in
    let right : by % 32 ≡ by = omega arith in
    four_words (Rotates by) (λ a b c d. below_four _ (rw (left, right) refl) (rw (left, right) refl) (rw (left, right) refl) (rw (left, right) refl))

-- word i of the message in lane k
pub lane_at : (k i : ℕ) (vs : List (List ℕ)) (d : List ℕ) → i < length vs → slice_index (lane k vs) i ≡ slice_index (get_or vs i d) k
lane_at k i vs d lt = get_or-map (λ v. slice_index v k) vs i d 0 lt

-- one word more in a ring
pub lane_set : (k i : ℕ) (vs : List (List ℕ)) (v : List ℕ) → lane k (set vs i v) ≡ set (lane k vs) i (slice_index v k)
lane_set k i vs v = map-set (λ x. slice_index x k) vs i v

-- a state in lane k, word by word
pub lane_eight : (k : ℕ) (vs : List (List ℕ)) → length vs ≡ 8 → lane k vs
    ≡ slice_index (get_or vs 0 []) k ∷ slice_index (get_or vs 1 []) k ∷ slice_index (get_or vs 2 []) k ∷ slice_index (get_or vs 3 []) k
    ∷ slice_index (get_or vs 4 []) k ∷ slice_index (get_or vs 5 []) k ∷ slice_index (get_or vs 6 []) k ∷ slice_index (get_or vs 7 []) k ∷ []
lane_eight k (a ∷ b ∷ c ∷ d ∷ e ∷ f ∷ g ∷ h ∷ []) is = refl
lane_eight k [] is = absurd (omega arith)
lane_eight k (a ∷ []) is = absurd (omega arith)
lane_eight k (a ∷ b ∷ []) is = absurd (omega arith)
lane_eight k (a ∷ b ∷ c ∷ []) is = absurd (omega arith)
lane_eight k (a ∷ b ∷ c ∷ d ∷ []) is = absurd (omega arith)
lane_eight k (a ∷ b ∷ c ∷ d ∷ e ∷ []) is = absurd (omega arith)
lane_eight k (a ∷ b ∷ c ∷ d ∷ e ∷ f ∷ []) is = absurd (omega arith)
lane_eight k (a ∷ b ∷ c ∷ d ∷ e ∷ f ∷ g ∷ []) is = absurd (omega arith)
lane_eight k (a ∷ b ∷ c ∷ d ∷ e ∷ f ∷ g ∷ h ∷ i ∷ vs) is = absurd (omega arith)

-- one word in all lanes
pub splat_at : (x k : ℕ) → k < 4 → slice_index (x ∷ x ∷ x ∷ x ∷ []) k ≡ x
splat_at x = below_four (λ k. slice_index (x ∷ x ∷ x ∷ x ∷ []) k ≡ x) refl refl refl refl

pub shifts_right : (by : ℕ) (x : List ℕ) → length x ≡ 4 → (k : ℕ) → k < 4 → slice_index (zip2 (λ a n. a / 2 ^ n) x (by ∷ by ∷ by ∷ by ∷ [])) k ≡ slice_index x k / 2 ^ by
shifts_right by =
    four_words (λ x. (k : ℕ) → k < 4 → slice_index (zip2 (λ a n. a / 2 ^ n) x (by ∷ by ∷ by ∷ by ∷ [])) k ≡ slice_index x k / 2 ^ by) (λ a b c d. below_four _ refl refl refl refl)

-- a choice in each lane, by a 1 or a 0
abbrev chosen : List ℕ → List ℕ → List ℕ → List ℕ
chosen going x y = sel_l (map (top 31) (zip2 (λ a b. cond (eqb a b) (2 ^ 32 - 1) 0) going (1 ∷ 1 ∷ 1 ∷ 1 ∷ []))) x y

abbrev Chooses : ℕ → List ℕ → List ℕ → List ℕ → List ℕ → Type 0
Chooses bit z going x y = (k : ℕ) → k < 4 → slice_index going k ≡ bit → slice_index (chosen going x y) k ≡ slice_index z k

pub choose_goes : (going x y : List ℕ) → length going ≡ 4 → length x ≡ 4 → length y ≡ 4 → Chooses 1 x going x y
choose_goes going x y lg lx ly =
    four_words (λ g. Chooses 1 x g x y) (λ g0 g1 g2 g3.
    four_words (λ x. Chooses 1 x (g0 ∷ g1 ∷ g2 ∷ g3 ∷ []) x y) (λ x0 x1 x2 x3.
    four_words (Chooses 1 (x0 ∷ x1 ∷ x2 ∷ x3 ∷ []) (g0 ∷ g1 ∷ g2 ∷ g3 ∷ []) (x0 ∷ x1 ∷ x2 ∷ x3 ∷ [])) (λ y0 y1 y2 y3.
    below_four _ (λ e. rw e refl) (λ e. rw e refl) (λ e. rw e refl) (λ e. rw e refl)) y ly) x lx) going lg

pub choose_rests : (going x y : List ℕ) → length going ≡ 4 → length x ≡ 4 → length y ≡ 4 → Chooses 0 y going x y
choose_rests going x y lg lx ly =
    four_words (λ g. Chooses 0 y g x y) (λ g0 g1 g2 g3.
    four_words (λ x. Chooses 0 y (g0 ∷ g1 ∷ g2 ∷ g3 ∷ []) x y) (λ x0 x1 x2 x3.
    four_words (λ y. Chooses 0 y (g0 ∷ g1 ∷ g2 ∷ g3 ∷ []) (x0 ∷ x1 ∷ x2 ∷ x3 ∷ []) y) (λ y0 y1 y2 y3.
    below_four _ (λ e. rw e refl) (λ e. rw e refl) (λ e. rw e refl) (λ e. rw e refl)) y ly) x lx) going lg

-- a word in a lane has 32 bits
pub lane_fits : (x : List ℕ) (k : ℕ) → k < 4 → length x ≡ 4 → Each1 (Fits w32) x → slice_index x k < 2 ^ 32
lane_fits x k lt long fit = (Each1-get_or (Fits w32) x k 0 (omega (arith, long, lt)) fit).fits
