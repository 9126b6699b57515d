-- Where two chains part: the highest height at which they have the same hash.
use Rattle.std.proofs.Common.{◌≡◌, ℕ, zero, suc, ◌+◌, ◌<◌, ◌≤◌, ◌-◌, Bool, true, false, cond, List, [], ◌∷◌, ◌++◌, length, map, drop, Some, None, Option, refl, sym, ap, ◌∙◌, arith, inl, inr}
use Rattle.std.specs.Prelude.{reverse, slice_get}
use Rattle.std.specs.Option.{option_map_or}
use Rattle.std.proofs.lemmas.Bool.{cases_Bool, cases_lt, false≢true}
use Rattle.std.proofs.lemmas.List.{reverse-reverse, length-reverse, length-drop, drop-append-le}
use Rattle.std.proofs.lemmas.Option.{slice_get_past, slice_get_cases}
use Rattle.cb_block.specs.declared.header.Header.{Header}
use Rattle.cb_chain.specs.Entries.{block_hash, same}
use Rattle.cb_chain.specs.Following.{above_branch, stands_at}
use Rattle.cb_chain.specs.Laws.{PartAtOnce}
use Rattle.cb_chain.proofs.BlockIndexes.{get_last, reverse_cons, same-refl, same-symm}

-- the greatest number below this one that passes
abbrev pub top : ℕ → (ℕ → Bool) → Option ℕ
top zero passes = None
top (suc n) passes = cond (passes n) (Some n) (top n passes)

top_same : (n : ℕ) (p q : ℕ → Bool) → ((k : ℕ) → k < n → p k ≡ q k) → top n p ≡ top n q
top_same zero p q h = refl
top_same (suc n) p q h = ap (λ (b : Bool). cond b (Some n) (top n p)) (h n (omega arith)) ∙ ap (cond (q n) (Some n)) (top_same n p q (λ k lt. h k (omega arith)))

-- none passes from here on
top_cut : (n more m : ℕ) (p : ℕ → Bool) → m ≡ more + n → ((k : ℕ) → n ≤ k → p k ≡ false) → top m p ≡ top n p
top_cut n zero m p e h = ap (λ (x : ℕ). top x p) (let one : m ≡ n = omega arith in one)
top_cut n (suc more) m p e h =
    let k = more + n in
    let one : m ≡ suc k = omega arith in
    ap (λ (x : ℕ). top x p) one ∙ ap (λ (b : Bool). cond b (Some k) (top k p)) (h k (omega arith)) ∙ top_cut n more k p refl h

-- which it is
top_is : (n : ℕ) (p : ℕ → Bool) → p 0 ≡ true → 0 < n → (j : ℕ) × (j < n) × (p j ≡ true) × (top n p ≡ Some j)
top_is zero p h lt = absurd (omega arith)
top_is (suc n) p h lt =
    elim (cases_Bool (p n)) [
      | inl is ↦ (n, omega arith, is, rw is refl)
      | inr isnt ↦
          let some : 0 < n = elim (cases_lt 0 n) [
            | inl lt ↦ lt
            | inr none ↦ absurd (false≢true (sym isnt ∙ ap p (let z : n ≡ 0 = omega arith in z) ∙ h))
          ] in
          let r = top_is n p h some in
          (r.0, omega (arith, r.1), r.2, rw isnt r.3)
    ]

abbrev above : List Header → Option ℕ → List Header
above headers None = []
above headers (Some j) = drop (suc j) headers

-- both have a header of one hash at this height
abbrev pub agree : List Header → List Header → ℕ → Bool
agree ones others k = option_map_or (λ header. stands_at others k header) (slice_get ones k) false

both_symm : (x y : Option Header)
    → option_map_or (λ header. option_map_or (λ other. same (block_hash other) (block_hash header)) y false) x false
    ≡ option_map_or (λ header. option_map_or (λ other. same (block_hash other) (block_hash header)) x false) y false
both_symm None None = refl
both_symm None (Some y) = refl
both_symm (Some x) None = refl
both_symm (Some x) (Some y) = same-symm (block_hash y) (block_hash x)

agree_symm : (ones others : List Header) (k : ℕ) → agree ones others k ≡ agree others ones k
agree_symm ones others k = both_symm (slice_get ones k) (slice_get others k)

get_low : {A : Type 0} (xs ys : List A) (k : ℕ) → k < length xs → slice_get (xs ++ ys) k ≡ slice_get xs k
get_low [] ys k lt = absurd (omega arith)
get_low (x ∷ xs) ys zero lt = refl
get_low (x ∷ xs) ys (suc k) lt = get_low xs ys k (omega arith)

above_cond : (b : Bool) (headers : List Header) (j : ℕ) (o : Option ℕ) → cond b (drop (suc j) headers) (above headers o) ≡ above headers (cond b (Some j) o)
above_cond true headers j o = refl
above_cond false headers j o = refl

-- what stands above the highest height at which they agree
pub above_top : (down headers : List Header) → above_branch down headers ≡ above headers (top (length down) (agree (reverse down) headers))
above_top [] headers = refl
above_top (header ∷ below) headers =
    let whole = reverse (header ∷ below) in
    let ends : whole ≡ reverse below ++ header ∷ [] = reverse_cons below header in
    let long : length (reverse below) ≡ length below = length-reverse below in
    let last : slice_get whole (length below) ≡ Some header = rw (ends, ← long) (get_last (reverse below) header) in
    let here : agree whole headers (length below) ≡ stands_at headers (length below) header = ap (λ (o : Option Header). option_map_or (λ x. stands_at headers (length below) x) o false) last in
    let lower : top (length below) (agree whole headers) ≡ top (length below) (agree (reverse below) headers) =
    top_same (length below) (agree whole headers) (agree (reverse below) headers)
    (λ k lt. ap (λ (o : Option Header). option_map_or (λ x. stands_at headers k x) o false) (ap (λ (xs : List Header). slice_get xs k) ends ∙ get_low (reverse below) (header ∷ []) k (omega arith))) in
    ap (cond (stands_at headers (length below) header) (drop (suc (length below)) headers)) (above_top below headers) ∙ above_cond (stands_at headers (length below) header) headers (length below) (top (length below) (agree (reverse below) headers))
    ∙ ap (above headers) (ap (λ (b : Bool). cond b (Some (length below)) (top (length below) (agree (reverse below) headers))) (sym here) ∙ ap (cond (agree whole headers (length below)) (Some (length below))) (sym lower))

agree_within : (ones others : List Header) (k : ℕ) → agree ones others k ≡ true → k < length others
agree_within ones others k e =
    elim (slice_get_cases others k).1 [
      | inl w ↦ w.1
      | inr w ↦ absurd (false≢true (sym (agree_symm ones others k ∙ ap (λ (o : Option Header). option_map_or (λ x. stands_at ones k x) o false) w.1) ∙ e))
    ]

-- the height that `above_branch` found
fork_top : (ones others : List Header) (fork : ℕ) → agree ones others 0 ≡ true → 0 < length ones → fork < length others → above_branch (reverse ones) others ≡ drop (suc fork) others
    → top (length ones) (agree ones others) ≡ Some fork
fork_top ones others fork first some low is =
    let t = top_is (length ones) (agree ones others) first some in
    let found : above_branch (reverse ones) others ≡ drop (suc t.0) others =
    above_top (reverse ones) others ∙ ap (λ (xs : List Header). above others (top (length (reverse ones)) (agree xs others))) (reverse-reverse ones)
    ∙ ap (λ (n : ℕ). above others (top n (agree ones others))) (length-reverse ones) ∙ ap (above others) t.3 in
    let within : t.0 < length others = agree_within ones others t.0 t.2 in
    let lengths : length others - suc t.0 ≡ length others - suc fork = sym (length-drop (suc t.0) others) ∙ ap length (sym found ∙ is) ∙ length-drop (suc fork) others in
    let one : t.0 ≡ fork = omega arith in
    t.3 ∙ ap Some one

-- The active chain leaves a branch, which grows by one header, where the branch leaves the active chain.
pub fork_back : (ones others : List Header) (fork : ℕ) (header : Header) → agree ones others 0 ≡ true → 0 < length ones → fork < length others → length others ≤ length ones
    → above_branch (reverse ones) others ≡ drop (suc fork) others
    → (above_branch (header ∷ reverse ones) others ≡ drop (suc fork) others) × (above_branch (reverse others) (ones ++ header ∷ []) ≡ drop (suc fork) ones ++ header ∷ [])
fork_back ones others fork header first some low short is =
    let found = fork_top ones others fork first some low is in
    let past : slice_get others (length (reverse ones)) ≡ None = slice_get_past others (length (reverse ones)) (omega (arith, length-reverse ones)) in
    let new = ones ++ header ∷ [] in
    let n = length others in
    let more : length ones ≡ (length ones - n) + n = omega arith in
    let same_below : top n (agree others new) ≡ top n (agree ones others) =
    top_same n (agree others new) (agree ones others)
    (λ k lt. agree_symm others new k ∙ ap (λ (o : Option Header). option_map_or (λ x. stands_at others k x) o false) (get_low ones (header ∷ []) k (omega arith))) in
    let cut : top (length ones) (agree ones others) ≡ top n (agree ones others) =
    top_cut n (length ones - n) (length ones) (agree ones others) more (λ k le. agree_symm ones others k ∙ ap (λ (o : Option Header). option_map_or (λ x. stands_at ones k x) o false) (slice_get_past others k le)) in
    let top_new : top (length (reverse others)) (agree (reverse (reverse others)) new) ≡ Some fork =
    ap (λ (m : ℕ). top m (agree (reverse (reverse others)) new)) (length-reverse others) ∙ ap (λ (xs : List Header). top n (agree xs new)) (reverse-reverse others) ∙ same_below ∙ sym cut ∙ found in (
      ap (λ (o : Option Header). cond (option_map_or (λ x. same (block_hash x) (block_hash header)) o false) (drop (suc (length (reverse ones))) others) (above_branch (reverse ones) others)) past ∙ is,
      above_top (reverse others) new ∙ ap (above new) top_new ∙ drop-append-le (suc fork) ones (header ∷ []) (omega arith),
    )

-- ---- above that height they differ

top_above : (n : ℕ) (p : ℕ → Bool) (j k : ℕ) → top n p ≡ Some j → j < k → k < n → p k ≡ false
top_above zero p j k e lt within = absurd (omega arith)
top_above (suc n) p j k e lt within =
    elim (cases_Bool (p n)) [
      | inl is ↦
          let here : Some n ≡ Some j = sym (ap (λ (b : Bool). cond b (Some n) (top n p)) is) ∙ e in
          let one : n ≡ j = cc in
          absurd (omega arith)
      | inr isnt ↦
          let below : top n p ≡ Some j = sym (ap (λ (b : Bool). cond b (Some n) (top n p)) isnt) ∙ e in
          elim (cases_lt k n) [
            | inl less ↦ top_above n p j k below lt less
            | inr past ↦ ap p (let one : k ≡ n = omega arith in one) ∙ isnt
          ]
    ]

parts_at : (k : ℕ) (ones others : List Header) (header : Header) → length others ≤ length ones → (k < length ones → agree ones others k ≡ false)
    → PartAtOnce (map block_hash (drop k others)) (map block_hash (drop k ones ++ header ∷ []))
parts_at zero ones [] header short differ = tt
parts_at zero [] (other ∷ others) header short differ = absurd (omega arith)
parts_at zero (one ∷ ones) (other ∷ others) header short differ =
    λ e. false≢true (sym (differ (omega arith)) ∙ ap (same (block_hash other)) (sym e) ∙ same-refl (block_hash other))
parts_at (suc k) ones [] header short differ = tt
parts_at (suc k) [] (other ∷ others) header short differ = absurd (omega arith)
parts_at (suc k) (one ∷ ones) (other ∷ others) header short differ = parts_at k ones others header (omega arith) (λ lt. differ (omega arith))

-- the active chain and the branch, which grows by one header, where the branch leaves it
pub fork_parts : (ones others : List Header) (fork : ℕ) (header : Header) → agree ones others 0 ≡ true → 0 < length ones → fork < length others → length others ≤ length ones
    → above_branch (reverse ones) others ≡ drop (suc fork) others → PartAtOnce (map block_hash (drop (suc fork) others)) (map block_hash (drop (suc fork) ones ++ header ∷ []))
fork_parts ones others fork header first some low short is =
    let found = fork_top ones others fork first some low is in
    parts_at (suc fork) ones others header short (λ lt. top_above (length ones) (agree ones others) fork (suc fork) found (omega arith) lt)
