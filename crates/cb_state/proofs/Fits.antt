-- How many transactions fit in a block.
use Rattle.std.proofs.Common.{◌≡◌, ℕ, ◌+◌, ◌-◌, ◌<◌, ◌≤◌, zero, suc, List, [], ◌∷◌, ◌++◌, ◌^◌, length, min, take, drop, Some, refl, sym, ap, subst, ◌∙◌, arith, inl, inr}
use Rattle.std.specs.Prelude.{slice_get}
use Rattle.std.specs.List.{flat_map}
use Rattle.std.proofs.lemmas.Bool.{cases_lt}
use Rattle.std.proofs.lemmas.Bool.Decides.{nat_tests}
use Rattle.std.proofs.lemmas.List.{length-append, length-take-le, take-append-drop, take-take}
use Rattle.std.proofs.lemmas.List.Concat.{flat_map-cons}
use Rattle.std.proofs.lemmas.Grind.{flat_map-append}
use Rattle.std.proofs.lemmas.Option.{slice_get_within}
use Rattle.cb_base.specs.CompactSize.{compact_text}
use Rattle.cb_block.specs.declared.tx.Tx.{Tx}
use Rattle.cb_block.specs.TxRules.{MeetsRules}
use Rattle.cb_block.specs.TxText.{input_text, list_text, output_text, script_text, tx_text}
use Rattle.cb_base.specs.declared.fault.TxRule.TheVariants.{TooLong}
use Rattle.cb_pool.specs.Rules.{StandsAlone}
use Rattle.cb_state.specs.Mining.{FitInBlock, IsMostFitting, coinbase_of}

-- ---- lists

take_suc : {X : Type 0} (xs : List X) (k : ℕ) (x : X) → slice_get xs k ≡ Some x → take (suc k) xs ≡ take k xs ++ x ∷ []
take_suc [] k x e = absurd cc
take_suc (y ∷ ys) zero x e = let one : y ≡ x = cc in ap (λ z. z ∷ []) one
take_suc (y ∷ ys) (suc k) x e = ap (λ zs. y ∷ zs) (take_suc ys k x e)

pub take_next : {X : Type 0} (xs : List X) (k : ℕ) (x : X) → slice_get xs k ≡ Some x → take (k + 1) xs ≡ take k xs ++ x ∷ []
take_next xs k x e = let more : k + 1 ≡ suc k = omega arith in ap (λ (n : ℕ). take n xs) more ∙ take_suc xs k x e

-- a shorter beginning begins a longer one
beginning : {X : Type 0} (xs : List X) (k more : ℕ) → k ≤ more → take more xs ≡ take k xs ++ drop k (take more xs)
beginning xs k more le = sym (take-append-drop k (take more xs)) ∙ ap (λ ys. ys ++ drop k (take more xs)) (take-take k more xs le)

-- ---- sizes

-- the bytes of transactions, without their count
abbrev pub bytes_of : List Tx → ℕ
bytes_of txs = length (flat_map tx_text txs)

pub size_is : (txs : List Tx) → length (list_text tx_text txs) ≡ length (compact_text (length txs)) + bytes_of txs
unfolding list_text
size_is txs = length-append (compact_text (length txs)) (flat_map tx_text txs)

compact_grows : (m n : ℕ) → m ≤ n → length (compact_text m) ≤ length (compact_text n)
unfolding compact_text
compact_grows m n le = grind (arith, nat_tests)

pub compact_short : (n : ℕ) → length (compact_text n) ≤ 9
unfolding compact_text
compact_short n = grind (arith, nat_tests)

bytes_join : (xs ys : List Tx) → bytes_of (xs ++ ys) ≡ bytes_of xs + bytes_of ys
bytes_join xs ys = ap length (flat_map-append tx_text xs ys) ∙ length-append (flat_map tx_text xs) (flat_map tx_text ys)

size_grows : (xs ys : List Tx) → length (list_text tx_text xs) ≤ length (list_text tx_text (xs ++ ys))
size_grows xs ys =
    omega (arith, size_is xs, size_is (xs ++ ys), bytes_join xs ys, compact_grows (length xs) (length (xs ++ ys)) (omega (arith, length-append xs ys)))

pub bytes_one : (tx : Tx) → bytes_of (tx ∷ []) ≡ length (tx_text tx)
bytes_one tx = ap length (flat_map-cons tx_text tx []) ∙ length-append (tx_text tx) [] ∙ omega arith

pub bytes_next : (coinbase : Tx) (waiting : List Tx) (count : ℕ) (tx : Tx) → slice_get waiting count ≡ Some tx
    → bytes_of (coinbase ∷ take (count + 1) waiting) ≡ bytes_of (coinbase ∷ take count waiting) + length (tx_text tx)
bytes_next coinbase waiting count tx e =
    ap (λ txs. bytes_of (coinbase ∷ txs)) (take_next waiting count tx e)
    ∙ bytes_join (coinbase ∷ take count waiting) (tx ∷ [])
    ∙ ap (λ n. bytes_of (coinbase ∷ take count waiting) + n) (bytes_one tx)

count_next : (coinbase : Tx) (waiting : List Tx) (count : ℕ) (tx : Tx) → slice_get waiting count ≡ Some tx → length (coinbase ∷ take (count + 1) waiting) ≡ count + 2
count_next coinbase waiting count tx e =
    let long : length (take (count + 1) waiting) ≡ count + 1 = length-take-le (count + 1) waiting (omega (arith, slice_get_within waiting count tx e)) in
    omega (arith, long)

-- ---- the coinbase alone, one more, and the end

pub coinbase_long : (height mark : ℕ) → length (tx_text (coinbase_of height mark)) ≡ 66
unfolding tx_text list_text input_text output_text script_text compact_text
coinbase_long height mark = refl

pub fit_first : (coinbase : Tx) (waiting : List Tx) → length (tx_text coinbase) ≤ 1000 → FitInBlock (coinbase ∷ take 0 waiting)
unfolding compact_text
fit_first coinbase waiting small = omega (arith, small, size_is (coinbase ∷ []), bytes_one coinbase)

pub fit_next : (coinbase : Tx) (waiting : List Tx) (count : ℕ) (tx : Tx) (size : ℕ) → slice_get waiting count ≡ Some tx
    → size ≡ 80 + bytes_of (coinbase ∷ take (count + 1) waiting) → size + length (compact_text (count + 2)) ≤ 1000000 → FitInBlock (coinbase ∷ take (count + 1) waiting)
fit_next coinbase waiting count tx size e is le =
    omega (arith, is, le, size_is (coinbase ∷ take (count + 1) waiting), ap (λ n. length (compact_text n)) (count_next coinbase waiting count tx e))

-- where one more doesn't fit, none of the longer beginnings does
pub most_here : (coinbase : Tx) (waiting : List Tx) (count : ℕ) (tx : Tx) (size : ℕ) → slice_get waiting count ≡ Some tx → FitInBlock (coinbase ∷ take count waiting)
    → size ≡ 80 + bytes_of (coinbase ∷ take (count + 1) waiting) → 1000000 < size + length (compact_text (count + 2)) → IsMostFitting coinbase waiting count
most_here coinbase waiting count tx size e fit is above = record {
  within = omega (arith, slice_get_within waiting count tx e);
  fit = fit;
  most = λ more lt within fits.
      let longer : take more waiting ≡ take (count + 1) waiting ++ drop (count + 1) (take more waiting) = beginning waiting (count + 1) more (omega (arith, lt)) in
      let all : FitInBlock (coinbase ∷ (take (count + 1) waiting ++ drop (count + 1) (take more waiting))) = subst (λ txs. FitInBlock (coinbase ∷ txs)) longer fits in
      absurd (omega (
        arith,
        is,
        above,
        all,
        size_grows (coinbase ∷ take (count + 1) waiting) (drop (count + 1) (take more waiting)),
        size_is (coinbase ∷ take (count + 1) waiting),
        ap (λ n. length (compact_text n)) (count_next coinbase waiting count tx e),
      ));
}

pub most_all : (coinbase : Tx) (waiting : List Tx) (count : ℕ) → count ≡ length waiting → FitInBlock (coinbase ∷ take count waiting) → IsMostFitting coinbase waiting count
most_all coinbase waiting count all fit = record {
  within = omega (arith, all);
  fit = fit;
  most = λ more lt within _. absurd (omega (arith, all, lt, within));
}

-- a transaction that meets its rules has at most 1,000,000 bytes
pub not_long : (tx : Tx) → MeetsRules tx → length (tx_text tx) ≤ 1000000
not_long tx rules =
    elim (cases_lt 1000000 (length (tx_text tx))) [
      | inl above ↦ absurd (rules TooLong above)
      | inr le ↦ le
    ]

-- ---- what `Tx::size` tells

pub size_alone : (tx other : Tx) (size : ℕ) → other ≡ tx → StandsAlone tx → size ≡ min (length (tx_text other)) (2 ^ 64 - 1) → (size ≡ length (tx_text tx)) × (size ≤ 1000000)
size_alone tx other size same alone is =
    let long = ap (λ (t : Tx). length (tx_text t)) same in
    (omega (arith, is, long, not_long tx alone.rules), omega (arith, is, long, not_long tx alone.rules))

pub first_size : (coinbase : Tx) (size : ℕ) → length (tx_text coinbase) ≤ 1000 → size ≡ min (length (tx_text coinbase)) (2 ^ 64 - 1) → 80 + size ≡ 80 + bytes_of (coinbase ∷ [])
first_size coinbase size small is = omega (arith, small, is, bytes_one coinbase)

pub size_low : (txs : List Tx) (size : ℕ) → size ≡ 80 + bytes_of txs → FitInBlock txs → size ≤ 1000000
size_low txs size is fit = omega (arith, is, fit, size_is txs)
