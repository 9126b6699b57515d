-- What the values of options write.
use Rattle.std.proofs.Common.{◌≡◌, ◌≢◌, ℕ, suc, ◌^◌, ◌<◌, true, ltb, List, [], ◌∷◌, ◌++◌, length, get_or, codes, Option, Some, None, Result, Ok, Err, IfSome, option_map, refl, sym, ap, subst, ◌∙◌, arith, inl, inr}
use Rattle.std.specs.Prelude.{◌↔◌, IfOk, IsSome}
use Rattle.std.specs.Borrow.{Bor}
use Rattle.std.specs.Option.{MatchOption}
use Rattle.std.specs.Result.{result_ok}
use Rattle.std.specs.Str.{bytes_eq}
use Rattle.std.specs.Str.Parse.{IsNumeral, digits_value, ParsesUnsigned, without_leading_plus}
use Rattle.std.proofs.lemmas.Bool.{eq-eqb, ne_eqb, lt-ltb, ltb-true, cases_Bool, and_left, and_right, false≢true}
use Rattle.std.proofs.lemmas.Slice.Eq.{bytes_eq-Decides}
use Rattle.std.proofs.lemmas.Str.Parse.{numerals_by_value, tells_all_ascii_digits}
use Rattle.clap.specs.Words.{Row, Text, first_of, first_value, found_of, rows_of, subcommand_name_of, subcommand_rows_of}
use Rattle.clap.proofs.WalkLemmas.{first_value-rows}
use Rattle.clap.specs.declared.parser.matches.ArgMatches.{ArgMatches}
use Rattle.cb_net_plan.specs.NetWords.{behind, cut_at, is_numeral, net_rows, number_in, numeral_in, rows_in}

pub if_ok_more : {T E : Type 0} {P Q : T → Type 0} (r : Result T E) → ((t : T) → P t → Q t) → IfOk r P → IfOk r Q
if_ok_more (Ok t) f p = f t p
if_ok_more (Err e) f p = p

-- ---- texts around a sign

-- the text doesn't have the sign
abbrev pub Lacks : ℕ → List ℕ → Type 0
Lacks sign text = (i : ℕ) → i < length text → get_or text i 0 ≢ sign

lacks_behind : (sign c : ℕ) (cs : List ℕ) → Lacks sign (c ∷ cs) → Lacks sign cs
lacks_behind sign c cs h i lt = h (suc i) (omega arith)

cut_none : (sign : ℕ) (text : List ℕ) → Lacks sign text → cut_at sign text ≡ None
cut_none sign [] h = refl
cut_none sign (c ∷ cs) h = rw (ne_eqb c sign (h 0 (omega arith)), cut_none sign cs (lacks_behind sign c cs h)) refl

cut_some : (sign : ℕ) (front rest : List ℕ) → Lacks sign front → cut_at sign (front ++ sign ∷ rest) ≡ Some (front, rest)
cut_some sign [] rest h = rw (eq-eqb sign sign refl) refl
cut_some sign (c ∷ cs) rest h = rw (ne_eqb c sign (h 0 (omega arith)), cut_some sign cs rest (lacks_behind sign c cs h)) refl

-- what `split_once` at a sign says
pub cut_is : (sign : ℕ) (text : List ℕ) (r : Option (Bor (List ℕ) × Bor (List ℕ))) → MatchOption r (Lacks sign text) (λ x. (text ≡ x.0.now ++ sign ∷ x.1.now) × Lacks sign x.0.now) → option_map (λ parts. (parts.0.now, parts.1.now)) r ≡ cut_at sign text
cut_is sign text None h = sym (cut_none sign text h)
cut_is sign text (Some x) h = sym (ap (cut_at sign) h.0 ∙ cut_some sign x.0.now x.1.now h.1)

first_is : (sign : ℕ) (rest : List ℕ) → behind sign (sign ∷ rest) ≡ Some rest
first_is sign rest = rw (eq-eqb sign sign refl) refl

-- what `strip_prefix` of a sign says
pub behind_is : (sign : ℕ) (text : List ℕ) (r : Option (Bor (List ℕ))) → MatchOption r ((rest : List ℕ) → text ≢ sign ∷ rest) (λ x. text ≡ sign ∷ x.now) → option_map (λ rest. rest.now) r ≡ behind sign text
behind_is sign [] None h = refl
behind_is sign (c ∷ cs) None h = rw (ne_eqb c sign (λ same. h cs (ap (λ d. d ∷ cs) same))) refl
behind_is sign text (Some x) h = sym (ap (behind sign) h ∙ first_is sign x.now)

-- ---- numbers

numeral_from : (word : List ℕ) → IsNumeral 10 word → is_numeral word ≡ true
numeral_from [] h = absurd (omega (arith, h.0))
numeral_from (c ∷ cs) h = (numerals_by_value _ tells_all_ascii_digits).from (c ∷ cs) h.1

numeral_to : (word : List ℕ) → is_numeral word ≡ true → IsNumeral 10 word
numeral_to [] h = absurd (false≢true h)
numeral_to (c ∷ cs) h = (omega arith, (numerals_by_value _ tells_all_ascii_digits).to (c ∷ cs) h)

-- a numeral below the limit, and anything else
number_some : (limit : ℕ) (word : List ℕ) → IsNumeral 10 word → digits_value 10 word < limit → numeral_in limit word ≡ Some (digits_value 10 word)
number_some limit word digits lt = rw (numeral_from word digits, lt-ltb (digits_value 10 word) limit lt) refl

number_none : (limit : ℕ) (word : List ℕ) → (IsNumeral 10 word × (digits_value 10 word < limit) → ⊥) → numeral_in limit word ≡ None
number_none limit word h =
    elim (cases_Bool (is_numeral word)) [
      | inr fails ↦ rw (and_left (is_numeral word) (ltb (digits_value 10 word) limit) fails) refl
      | inl numeral ↦
          elim (cases_Bool (ltb (digits_value 10 word) limit)) [
            | inr fails ↦ rw (and_right (is_numeral word) (ltb (digits_value 10 word) limit) fails) refl
            | inl lt ↦ absurd (h (numeral_to word numeral, ltb-true (digits_value 10 word) limit lt))
          ]
    ]

-- what `parse` says
pub number_is : {E : Type 0} (bits : ℕ) (text : List ℕ) (r : Result ℕ E) → ParsesUnsigned bits 10 text r → result_ok r ≡ number_in bits text
number_is bits text (Ok n) h = rw (h.1) (sym (number_some (2 ^ bits) (without_leading_plus text) h.0.0 h.0.1))
number_is bits text (Err e) h = sym (number_none (2 ^ bits) (without_leading_plus text) h)

-- ---- options

-- the value of an option, by the rows
pub given_text : (m : ArgMatches) (id : List ℕ) (r : Option (Bor (List ℕ))) → option_map (λ s. s.now) r ≡ first_value (found_of m) id → option_map (λ s. s.now) r ≡ first_of id (rows_of (found_of m))
given_text m id r is = is ∙ first_value-rows (found_of m) id

some_is : {A : Type 0} (x y : A) → Some x ≡ Some y → x ≡ y
some_is x y e = cc

none_is_no_some : {A B : Type 0} (x : A) → None ≡ Some x → B
none_is_no_some x e = absurd cc

-- the rows of `net`, if that is the command that was entered
entered_rows : (rows : Option (Text × List Row)) (r : Option (Bor ArgMatches)) → (IsSome r ↔ (option_map (λ f. f.0) rows ≡ Some (codes "net"))) → IfSome r (λ n. option_map (λ f. f.1) rows ≡ Some (rows_of (found_of n.now))) → rows_in (option_map (λ n. n.now) r) ≡ net_rows rows
entered_rows None None found is = refl
entered_rows (Some f) None found is =
    elim (cases_Bool (bytes_eq f.0 (codes "net"))) [
      | inl same ↦ absurd (false≢true (found.1 (ap (λ t. Some t) ((bytes_eq-Decides f.0 (codes "net")).0 same))))
      | inr differs ↦ rw (differs) refl
    ]
entered_rows None (Some n) found is = none_is_no_some (rows_of (found_of n.now)) is
entered_rows (Some f) (Some n) found is =
    rw ((bytes_eq-Decides f.0 (codes "net")).1 (some_is f.0 (codes "net") (found.0 refl))) (sym (some_is f.1 (rows_of (found_of n.now)) is))

mapped_twice : {A B C : Type 0} (f : A → B) (g : B → C) (o : Option A) → option_map (λ a. g (f a)) o ≡ option_map g (option_map f o)
mapped_twice f g None = refl
mapped_twice f g (Some a) = refl

-- the name of the command that was entered, and the same with its matches
name_of_rows : (m : ArgMatches) → subcommand_name_of m ≡ option_map (λ found. found.0) (subcommand_rows_of m)
name_of_rows m = mapped_twice _ (λ found. found.0) _

pub net_rows_are : (m : ArgMatches) (r : Option (Bor ArgMatches)) → (IsSome r ↔ (subcommand_name_of m ≡ Some (codes "net"))) → IfSome r (λ n. option_map (λ f. f.1) (subcommand_rows_of m) ≡ Some (rows_of (found_of n.now))) → rows_in (option_map (λ n. n.now) r) ≡ net_rows (subcommand_rows_of m)
net_rows_are m r found is =
    entered_rows (subcommand_rows_of m) r (subst (λ (name : Option (List ℕ)). IsSome r ↔ (name ≡ Some (codes "net"))) (name_of_rows m) found) is
