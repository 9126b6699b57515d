-- The block indexes of a list that is stored in chunks, by their places.
use Rattle.std.proofs.Common.{◌≡◌, ℕ, zero, suc, ◌+◌, ◌*◌, ◌/◌, ◌%◌, ◌<◌, ◌≤◌, List, [], ◌∷◌, ◌++◌, All, length, length-append, append_assoc, get_or, Some, refl, sym, ap, ◌∙◌, arith}
use Rattle.std.specs.Prelude.{slice_get}
use Rattle.std.proofs.Math.Nat.{mod-lt}
use Rattle.std.proofs.lemmas.List.Elements.{All-head, All-tail}
use Rattle.std.proofs.lemmas.Nat.{div-add-mod'}
use Rattle.cb_chain.specs.declared.block_index.BareIndex.{BareIndex}
use Rattle.cb_chain.specs.Listing.{listed}

-- ---- lists

get_left : {A : Type 0} (xs ys : List A) (i : ℕ) → i < length xs → slice_get (xs ++ ys) i ≡ slice_get xs i
get_left [] ys i lt = absurd (omega (arith, lt))
get_left (x ∷ xs) ys zero lt = refl
get_left (x ∷ xs) ys (suc i) lt = get_left xs ys i (omega (arith, lt))

get_right : {A : Type 0} (xs ys : List A) (i j : ℕ) → j ≡ length xs + i → slice_get (xs ++ ys) j ≡ slice_get ys i
get_right [] ys i j e = let same : j ≡ i = omega (arith, e) in ap (slice_get ys) same
get_right (x ∷ xs) ys i zero e = absurd (omega (arith, e))
get_right (x ∷ xs) ys i (suc j) e = get_right xs ys i j (omega (arith, e))

-- what was read within the list stands there
pub get_read : {A : Type 0} (xs : List A) (i : ℕ) (x : A) → i < length xs → x ≡ get_or xs i x → slice_get xs i ≡ Some x
get_read [] i x lt e = absurd (omega (arith, lt))
get_read (y ∷ xs) zero x lt e = ap Some (sym e)
get_read (y ∷ xs) (suc i) x lt e = get_read xs i x (omega (arith, lt)) e

-- ---- chunks

abbrev pub IsWhole : List BareIndex → Type 0
IsWhole chunk = length chunk ≡ 256

pub listed_more : (chunks : List (List BareIndex)) (last : List BareIndex) (block_index : BareIndex) → listed chunks (last ++ block_index ∷ []) ≡ listed chunks last ++ block_index ∷ []
listed_more [] last block_index = refl
listed_more (chunk ∷ chunks) last block_index = ap (λ (ns : List BareIndex). chunk ++ ns) (listed_more chunks last block_index) ∙ sym (append_assoc chunk (listed chunks last) (block_index ∷ []))

-- one more chunk is full
pub listed_closed : (chunks : List (List BareIndex)) (chunk last : List BareIndex) → listed (chunks ++ chunk ∷ []) last ≡ listed chunks (chunk ++ last)
listed_closed [] chunk last = refl
listed_closed (first ∷ chunks) chunk last = ap (λ (ns : List BareIndex). first ++ ns) (listed_closed chunks chunk last)

length_listed : (chunks : List (List BareIndex)) (last : List BareIndex) → All IsWhole chunks → length (listed chunks last) ≡ length chunks * 256 + length last
length_listed [] last all = omega arith
length_listed (chunk ∷ chunks) last all =
    let long : length chunk ≡ 256 = All-head IsWhole chunk chunks all in
    omega (arith, long, length-append chunk (listed chunks last), length_listed chunks last (All-tail IsWhole chunk chunks all))

get_full : (chunks : List (List BareIndex)) (last read : List BareIndex) (chunk within place : ℕ) → All IsWhole chunks → chunk < length chunks → within < 256 → place ≡ chunk * 256 + within
    → slice_get (listed chunks last) place ≡ slice_get (get_or chunks chunk read) within
get_full [] last read chunk within place all low lt e = absurd (omega (arith, low))
get_full (first ∷ chunks) last read zero within place all low lt e =
    let long : length first ≡ 256 = All-head IsWhole first chunks all in
    let same : place ≡ within = omega (arith, e) in
    ap (slice_get (first ++ listed chunks last)) same ∙ get_left first (listed chunks last) within (omega (arith, long, lt))
get_full (first ∷ chunks) last read (suc chunk) within place all low lt e =
    let long : length first ≡ 256 = All-head IsWhole first chunks all in
    let next : place ≡ length first + (chunk * 256 + within) = omega (arith, e, long) in
    get_right first (listed chunks last) (chunk * 256 + within) place next
    ∙ get_full chunks last read chunk within (chunk * 256 + within) (All-tail IsWhole first chunks all) (omega (arith, low)) lt refl

get_last : (chunks : List (List BareIndex)) (last : List BareIndex) (within place : ℕ) → All IsWhole chunks → place ≡ length chunks * 256 + within → slice_get (listed chunks last) place ≡ slice_get last within
get_last [] last within place all e = let same : place ≡ within = omega (arith, e) in ap (slice_get last) same
get_last (first ∷ chunks) last within place all e =
    let long : length first ≡ 256 = All-head IsWhole first chunks all in
    let next : place ≡ length first + (length chunks * 256 + within) = omega (arith, e, long) in
    get_right first (listed chunks last) (length chunks * 256 + within) place next
    ∙ get_last chunks last within (length chunks * 256 + within) (All-tail IsWhole first chunks all) refl

-- the chunk of a place, if that is full
pub in_chunk : (chunks : List (List BareIndex)) (last read : List BareIndex) (place : ℕ) → All IsWhole chunks → place / 256 < length chunks → read ≡ get_or chunks (place / 256) read
    → slice_get (listed chunks last) place ≡ slice_get read (place % 256)
in_chunk chunks last read place all low e =
    get_full chunks last read (place / 256) (place % 256) place all low (mod-lt place (omega arith)) (sym (div-add-mod' place 256)) ∙ ap (λ (ns : List BareIndex). slice_get ns (place % 256)) (sym e)

-- the place in the last one
pub last_within : (chunks : List (List BareIndex)) (last : List BareIndex) (place : ℕ) → All IsWhole chunks → length last ≤ 256 → place < length (listed chunks last) → length chunks ≤ place / 256
    → (place ≡ length chunks * 256 + place % 256) × (place % 256 < length last)
last_within chunks last place all short low high =
    let long = length_listed chunks last all in
    let split = div-add-mod' place 256 in
    let less : place % 256 < 256 = mod-lt place (omega arith) in
    let here : place / 256 ≡ length chunks = omega (arith, long, split, less, short, low, high) in (
      omega (arith, split, here),
      omega (arith, long, split, here, low),
    )

pub in_last : (chunks : List (List BareIndex)) (last : List BareIndex) (place : ℕ) (block_index : BareIndex) → All IsWhole chunks → length last ≤ 256 → place < length (listed chunks last) → length chunks ≤ place / 256
    → block_index ≡ get_or last (place % 256) block_index → slice_get (listed chunks last) place ≡ Some block_index
in_last chunks last place block_index all short low high e =
    let is = last_within chunks last place all short low high in
    get_last chunks last (place % 256) place all is.0 ∙ get_read last (place % 256) block_index is.1 e
