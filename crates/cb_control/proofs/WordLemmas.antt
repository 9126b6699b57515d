-- What the words of a line are, as functions of the text.
use Rattle.std.proofs.Common.{◌≡◌, ◌≢◌, ℕ, suc, ◌^◌, ◌<◌, Bool, true, false, ◌&&◌, cond, eqb, ltb, List, [], ◌∷◌, ◌++◌, length, get_or, Option, Some, None, Result, Ok, Err, option_map, refl, sym, ap, ◌∙◌, arith, inl, inr}
use Rattle.std.specs.Borrow.{Bor}
use Rattle.std.specs.Option.{MatchOption}
use Rattle.std.specs.Result.{result_ok}
use Rattle.std.specs.Str.Parse.{IsNumeral, digits_value, ParsesUnsigned}
use Rattle.std.proofs.lemmas.Bool.{ne_eqb, eqb-true, and_parts, lt-ltb, ltb-true, cases_Bool, and_left, and_right, false≢true}
use Rattle.std.proofs.lemmas.Str.Parse.{numerals_by_value, tells_all_ascii_digits, digit_at, without_leading_plus_none}
use Rattle.std.specs.Str.{IsAscii}
use Rattle.std.proofs.lemmas.Str.Ascii.{IsAscii-nil, IsAscii-cons}
use Rattle.std.proofs.lemmas.Fmt.{IsAscii-from_digits}
use Rattle.cb_control.specs.Words.{Writes, cut_of, is_numeral, number_in}

-- the text has no space
abbrev pub NoSpace : List ℕ → Type 0
NoSpace text = (i : ℕ) → i < length text → get_or text i 0 ≢ 32

no_space_behind : (c : ℕ) (cs : List ℕ) → NoSpace (c ∷ cs) → NoSpace cs
no_space_behind c cs h i lt = h (suc i) (omega arith)

pub cut_none : (text : List ℕ) → NoSpace text → cut_of text ≡ None
cut_none [] h = refl
cut_none (c ∷ cs) h = rw (ne_eqb c 32 (h 0 (omega arith)), cut_none cs (no_space_behind c cs h)) refl

pub cut_some : (word rest : List ℕ) → NoSpace word → cut_of (word ++ 32 ∷ rest) ≡ Some (word, rest)
cut_some [] rest h = refl
cut_some (c ∷ cs) rest h = rw (ne_eqb c 32 (h 0 (omega arith)), cut_some cs rest (no_space_behind c cs h)) refl

-- what `split_once` at a space says
pub cut_is : (text : List ℕ) (r : Option (Bor (List ℕ) × Bor (List ℕ))) → MatchOption r (NoSpace text) (λ x. (text ≡ x.0.now ++ 32 ∷ x.1.now) × NoSpace x.0.now) → option_map (λ parts. (parts.0.now, parts.1.now)) r ≡ cut_of text
cut_is text None h = sym (cut_none text h)
cut_is text (Some x) h = sym (ap cut_of h.0 ∙ cut_some x.0.now x.1.now h.1)

pub numeral_from : (word : List ℕ) → IsNumeral 10 word → is_numeral word ≡ true
numeral_from [] h = absurd (omega (arith, h.0))
numeral_from (c ∷ cs) h = (numerals_by_value _ tells_all_ascii_digits).from (c ∷ cs) h.1

pub numeral_to : (word : List ℕ) → is_numeral word ≡ true → IsNumeral 10 word
numeral_to [] h = absurd (false≢true h)
numeral_to (c ∷ cs) h = (omega arith, (numerals_by_value _ tells_all_ascii_digits).to (c ∷ cs) h)

-- a numeral below the limit, and anything else
pub number_some : (limit : ℕ) (word : List ℕ) → IsNumeral 10 word → digits_value 10 word < limit → number_in limit word ≡ Some (digits_value 10 word)
number_some limit word digits lt = rw (numeral_from word digits, lt-ltb (digits_value 10 word) limit lt) refl

pub number_none : (limit : ℕ) (word : List ℕ) → (IsNumeral 10 word × (digits_value 10 word < limit) → ⊥) → number_in limit word ≡ None
number_none limit word h =
    elim (cases_Bool (is_numeral word)) [
      | inr fails ↦ rw (and_left (is_numeral word) (ltb (digits_value 10 word) limit) fails) refl
      | inl numeral ↦
          elim (cases_Bool (ltb (digits_value 10 word) limit)) [
            | inr fails ↦ rw (and_right (is_numeral word) (ltb (digits_value 10 word) limit) fails) refl
            | inl lt ↦ absurd (h (numeral_to word numeral, ltb-true (digits_value 10 word) limit lt))
          ]
    ]

-- what `parse` says where no plus stands first
pub number_is : {E : Type 0} (word : List ℕ) (r : Result ℕ E) → get_or word 0 0 ≢ 43 → ParsesUnsigned 64 10 word r → result_ok r ≡ number_in (2 ^ 64) word
number_is word (Ok n) plus h =
    let g = rw (without_leading_plus_none word plus) at h in
    rw (g.1) (sym (number_some (2 ^ 64) word g.0.0 g.0.1))
number_is word (Err e) plus h =
    let g = rw (without_leading_plus_none word plus) at h in
    sym (number_none (2 ^ 64) word g)

-- no number begins with a plus
pub plus_is_none : (word : List ℕ) → get_or word 0 0 ≡ 43 → number_in (2 ^ 64) word ≡ None
plus_is_none [] h = refl
plus_is_none (c ∷ cs) h = rw h refl

-- ---- from what is read to what is written

pub some_is : {A : Type 0} (x y : A) → Some x ≡ Some y → x ≡ y
some_is x y e = cc

pub none_is_no_some : {A B : Type 0} (x : A) → None ≡ Some x → B
none_is_no_some x e = absurd cc

cut_step : (c : ℕ) (cs : List ℕ) (p : List ℕ × List ℕ) (space : Bool) → eqb c 32 ≡ space → (found : Option (List ℕ × List ℕ)) → ((q : List ℕ × List ℕ) → found ≡ Some q → cs ≡ q.0 ++ 32 ∷ q.1) → cond space (Some ([], cs)) (option_map (λ q. (c ∷ q.0, q.1)) found) ≡ Some p → c ∷ cs ≡ p.0 ++ 32 ∷ p.1
cut_step c cs p true is found rest e = let q = some_is ([], cs) p e in rw (← q) (ap (λ d. d ∷ cs) (eqb-true c 32 is))
cut_step c cs p false is None rest e = none_is_no_some p e
cut_step c cs p false is (Some q) rest e = let r = some_is (c ∷ q.0, q.1) p e in rw (← r) (ap (λ ds. c ∷ ds) (rest q refl))

number_step : (limit : ℕ) (word : List ℕ) (n : ℕ) (reads : Bool) → (is_numeral word && ltb (digits_value 10 word) limit) ≡ reads → cond reads (Some (digits_value 10 word)) None ≡ Some n → Writes word n × (n < limit)
number_step limit word n true is e =
    let same = some_is (digits_value 10 word) n e in
    let parts = and_parts (is_numeral word) (ltb (digits_value 10 word) limit) is in
    ((numeral_to word parts.0, same), rw (← same) (ltb-true (digits_value 10 word) limit parts.1))
number_step limit word n false is e = none_is_no_some n e

-- a space was found, and the parts are those round it
pub cut_parts : (text : List ℕ) (p : List ℕ × List ℕ) → cut_of text ≡ Some p → text ≡ p.0 ++ 32 ∷ p.1
cut_parts [] p e = none_is_no_some p e
cut_parts (c ∷ cs) p e = cut_step c cs p (eqb c 32) refl (cut_of cs) (cut_parts cs) e

-- a number was read
pub number_read : (limit : ℕ) (word : List ℕ) (n : ℕ) → number_in limit word ≡ Some n → Writes word n × (n < limit)
number_read limit word n e = number_step limit word n (is_numeral word && ltb (digits_value 10 word) limit) refl e

-- a number that is written is read
pub written : (limit : ℕ) (word : List ℕ) (n : ℕ) → Writes word n → n < limit → number_in limit word ≡ Some n
written limit word n writes lt = number_some limit word writes.0 (rw writes.1 lt) ∙ ap (λ m. Some m) writes.1

-- a decimal number has no space
pub digits_no_space : (word : List ℕ) → IsNumeral 10 word → NoSpace word
digits_no_space word h i lt e = let digit = digit_at word i h.1 lt in omega (arith, digit.0, e)

-- ---- names and numbers are ASCII

abbrev pub below_128 : List ℕ → Bool
below_128 [] = true
below_128 (b ∷ bs) = ltb b 128 && below_128 bs

pub ascii_word : (bs : List ℕ) → below_128 bs ≡ true → IsAscii bs
ascii_word [] h = IsAscii-nil
ascii_word (b ∷ bs) h = let parts = and_parts (ltb b 128) (below_128 bs) h in IsAscii-cons b bs (ltb-true b 128 parts.0) (ascii_word bs parts.1)

pub ascii_append : (xs ys : List ℕ) → IsAscii xs → IsAscii ys → IsAscii (xs ++ ys)
ascii_append [] ys p q = q
ascii_append (x ∷ xs) ys p q = IsAscii-cons x (xs ++ ys) (p 0) (ascii_append xs ys (λ i. p (suc i)) q)

-- a word and what follows it behind a space
pub ascii_then : (xs ys : List ℕ) → IsAscii xs → IsAscii ys → IsAscii (xs ++ 32 ∷ ys)
ascii_then xs ys p q = ascii_append xs (32 ∷ ys) p (IsAscii-cons 32 ys (omega arith) q)

pub ascii_number : (word : List ℕ) (n : ℕ) → Writes word n → IsAscii word
ascii_number word n writes = IsAscii-from_digits word writes.0.1
