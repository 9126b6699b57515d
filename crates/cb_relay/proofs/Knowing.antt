-- With the txids of the transactions, those whose short ids the compact block has are all that it can take.
use Rattle.std.proofs.Common.{◌≡◌, ℕ, ◌==◌, Bool, true, false, cond, List, [], ◌∷◌, length, map, Option, suc, Result, Ok, Err, refl, sym, ap, ◌∙◌, inl, inr}
use Rattle.std.specs.Prelude.{filter}
use Rattle.std.proofs.lemmas.Bool.{cases_Bool, eq-eqb, false≢true, or_left, or_right}
use Rattle.cb_base.specs.declared.fault.Fault.{Fault}
use Rattle.cb_base.specs.Reading.{◌>>=◌}
use Rattle.cb_base.specs.declared.hash.Hash256.{Hash256}
use Rattle.cb_block.specs.Blocks.{texts}
use Rattle.cb_block.specs.Soundness.{names}
use Rattle.cb_compact.specs.ShortIds.{key_of}
use Rattle.cb_compact.specs.Slots.{choice, is_among, laid_out, missing, only_tx, with_id}
use Rattle.cb_compact.specs.declared.named_tx.Pair.{Pair}
use Rattle.cb_compact.proofs.Tabling.{eqb_is}
use Rattle.cb_wire.specs.declared.compact_block.HeaderAndShortIds.{HeaderAndShortIds}
use Rattle.cb_compact.specs.Matching.{pair_of}
use Rattle.cb_compact.specs.Places.{placed_from}
use Rattle.cb_compact.specs.Rebuilding.{are_different, rebuilt_of, told_by, unfilled_of}
use Rattle.cb_compact.specs.declared.rebuilding.Rebuilt.TheVariants as rebuilding
use Rattle.cb_relay.specs.Known.{counted, known_in, told_among, told_pairs}
use Rattle.cb_relay.specs.Rebuilding.{answer_of, pairs_under, rebuilt_in}
use Rattle.cb_relay.specs.WholeMessages.{form_in, txs_in}
use Rattle.cb_relay.specs.declared.rebuilding.Kind.{Kind}
use Rattle.cb_block.specs.declared.tx.Tx.{Tx}

-- ---- candidates that nobody asks for

alike : {X : Type 0} (p q : X → Bool) (xs : List X) → ((x : X) → p x ≡ q x) → filter p xs ≡ filter q xs
alike p q [] same = refl
alike p q (x ∷ xs) same =
    elim (cases_Bool (p x)) [
      | inl is ↦ let there : q x ≡ true = sym (same x) ∙ is in rw (is, there) (ap (λ l. x ∷ l) (alike p q xs same))
      | inr isnt ↦ let there : q x ≡ false = sym (same x) ∙ isnt in rw (isnt, there) (alike p q xs same)
    ]

-- the candidates that are asked for
abbrev asked : List ℕ → List Pair → List Pair
asked ids pairs = filter (λ pair. is_among pair.id ids) pairs

other_id : (a b : ℕ) (ids : List ℕ) → is_among a ids ≡ false → is_among b ids ≡ true → (a == b) ≡ false
other_id a b ids apart there =
    elim (cases_Bool (a == b)) [
      | inl e ↦ absurd (false≢true (sym apart ∙ ap (λ it. is_among it ids) (eqb_is a b e) ∙ there))
      | inr e ↦ e
    ]

with_asked : (ids : List ℕ) (id : ℕ) (pairs : List Pair) → is_among id ids ≡ true → with_id id (asked ids pairs) ≡ with_id id pairs
with_asked ids id [] there = refl
with_asked ids id (pair ∷ pairs) there =
    let more = with_asked ids id pairs there in
    elim (cases_Bool (is_among pair.id ids)) [
      | inl is ↦ rw is (ap (λ it. cond (pair.id == id) (pair ∷ it) it) more)
      | inr isnt ↦ let other = other_id pair.id id ids isnt there in rw (isnt, other) more
    ]

choices : (ids some : List ℕ) (pairs : List Pair) → ((id : ℕ) → is_among id some ≡ true → is_among id ids ≡ true) → map (choice (asked ids pairs)) some ≡ map (choice pairs) some
choices ids [] pairs inside = refl
choices ids (id ∷ others) pairs inside =
    let here : is_among id ids ≡ true = inside id (or_left (id == id) (is_among id others) (eq-eqb id id refl)) in
    ap (λ it. only_tx it ∷ map (choice (asked ids pairs)) others) (with_asked ids id pairs here)
    ∙ ap (λ it. choice pairs id ∷ it) (choices ids others pairs (λ it there. inside it (or_right (id == it) (is_among it others) there)))

rebuilt_same : (form : HeaderAndShortIds) (pairs : List Pair) → rebuilt_of form (asked form.txs.ids pairs) ≡ rebuilt_of form pairs
unfolding rebuilt_of unfilled_of
rebuilt_same form pairs =
    let same = ap (laid_out 0 (placed_from 0 form.txs.prefilled)) (choices form.txs.ids form.txs.ids pairs (λ id there. there)) in
    ap (λ (it : List (Option Tx)). cond (are_different form.txs.ids) (told_by (record { header = form.header; slots = it }) (missing 0 it)) rebuilding.Useless) same

-- ---- the txids of the transactions

told_are : (key : ℕ × ℕ) (txs : List Tx) → told_pairs key (names (texts txs)) txs ≡ map (pair_of key) txs
told_are key [] = refl
told_are key (tx ∷ txs) = ap (λ it. pair_of key tx ∷ it) (told_are key txs)

as_many : (txs : List Tx) → length (names (texts txs)) ≡ length txs
as_many [] = refl
as_many (tx ∷ txs) = ap (λ it. suc it) (as_many txs)

all_counted : (txs : List Tx) → counted (names (texts txs)) txs ≡ Ok txs
all_counted txs = rw (eq-eqb (length (names (texts txs))) (length txs) (as_many txs)) refl

one_answer : (form : HeaderAndShortIds) (txs : List Tx) → answer_of (rebuilt_of form (told_among form (names (texts txs)) txs)) ≡ answer_of (rebuilt_of form (pairs_under form txs))
one_answer form txs =
    ap (λ it. answer_of (rebuilt_of form (asked form.txs.ids it))) (told_are (key_of form.header form.nonce) txs)
    ∙ ap answer_of (rebuilt_same form (pairs_under form txs))

behind : (read : Result HeaderAndShortIds Fault) (all : Result (List Tx) Fault) (given : List Tx) → all ≡ Ok given
    → (read >>= λ form. all >>= λ txs. counted (names (texts given)) txs >>= λ counted. Ok (answer_of (rebuilt_of form (told_among form (names (texts given)) counted))))
    ≡ (read >>= λ form. all >>= λ txs. Ok (answer_of (rebuilt_of form (pairs_under form txs))))
behind (Ok form) all given e =
    ap (λ (it : Result (List Tx) Fault). it >>= λ txs. counted (names (texts given)) txs >>= λ counted. Ok (answer_of (rebuilt_of form (told_among form (names (texts given)) counted)))) e
    ∙ ap (λ (it : Result (List Tx) Fault). it >>= λ counted. Ok (answer_of (rebuilt_of form (told_among form (names (texts given)) counted)))) (all_counted given)
    ∙ ap (λ (it : Kind × List ℕ). Ok it) (one_answer form given)
    ∙ ap (λ (it : Result (List Tx) Fault). it >>= λ txs. Ok (answer_of (rebuilt_of form (pairs_under form txs)))) (sym e)
behind (Err fault) all given e = refl

pub known_same : (message txs : List ℕ) (given : List Tx) → txs_in txs ≡ Ok given → known_in message txs (names (texts given)) ≡ rebuilt_in message txs
unfolding known_in rebuilt_in
known_same message txs given e = behind (form_in message) (txs_in txs) given e

-- those whose ids stand in a set of the ids
pub found_told : (form : HeaderAndShortIds) (txids : List Hash256) (txs : List Tx) (key : ℕ × ℕ) (ids : List ℕ) (wanted : ℕ → Bool) (list : List Pair) → key ≡ key_of form.header form.nonce → ids ≡ form.txs.ids
    → ((id : ℕ) → wanted id ≡ is_among id ids) → list ≡ filter (λ pair. wanted pair.id) (told_pairs key txids txs) → list ≡ told_among form txids txs
found_told form txids txs key ids wanted list keyed same there is =
    is ∙ ap (λ it. filter (λ (pair : Pair). wanted pair.id) (told_pairs it txids txs)) keyed
    ∙ alike (λ (pair : Pair). wanted pair.id) (λ (pair : Pair). is_among pair.id form.txs.ids) (told_pairs (key_of form.header form.nonce) txids txs) (λ (pair : Pair). there pair.id ∙ ap (is_among pair.id) same)
