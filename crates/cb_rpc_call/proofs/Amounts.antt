-- The texts of amounts are JSON numbers, and what they mean.
use Rattle.std.proofs.Common.{◌≡◌, ℤ, ℕ, zero, suc, ◌-◌, ◌/◌, ◌%◌, ◌^◌, ◌<◌, ◌≤◌, Bool, true, false, List, [], ◌∷◌, ◌++◌, length, replicate, get_or, refl, sym, ap, ◌∙◌, arith, append-nil, length-append}
use Rattle.std.specs.Fmt.{char_count, decimal, format_spec, padded_integral, sign_text}
use Rattle.std.specs.Str.Parse.{IsNumeral, digits_value, AllDigits}
use Rattle.std.specs.Float.Numeral.{Parts, text_of}
use Rattle.std.proofs.lemmas.Fmt.{decimal_is_IsNumeral, decimal_digit, first_decimal, length-decimal-le}
use Rattle.std.proofs.lemmas.List.{length-replicate}
use Rattle.json.specs.Print.{IsNumber}
use Rattle.json.proofs.Printed.Floats.{IsNumber-plain}
use Rattle.std.specs.Prelude.{unsigned_abs}
use Rattle.std.specs.Int.{is_negative}
use Rattle.std.specs.Int.Signed.{mag, nat_abs-le}
use Rattle.cb_rpc_call.specs.Amounts.{IsAmount, amount_text, filled, millis_text, point_text}

-- zeros before digits are digits, and add nothing
zeros_digits : (k : ℕ) (ds : List ℕ) → AllDigits 10 ds → AllDigits 10 (replicate k 48 ++ ds)
zeros_digits zero ds h = h
zeros_digits (suc k) ds h = (omega arith, zeros_digits k ds h)

zeros_value : (k : ℕ) (ds : List ℕ) → digits_value 10 (replicate k 48 ++ ds) ≡ digits_value 10 ds
zeros_value zero ds = refl
zeros_value (suc k) ds = zeros_value k ds

pub filled_is_numeral : (width n : ℕ) → n < 2 ^ 64 → IsNumeral 10 (filled width n) × (digits_value 10 (filled width n) ≡ n)
unfolding filled
filled_is_numeral width n h =
    let d = decimal_is_IsNumeral n h in
    let k = width - length (decimal n) in (
      (omega (arith, d.0.0, length-append (replicate k 48) (decimal n)), zeros_digits k (decimal n) d.0.1),
      zeros_value k (decimal n) ∙ d.1,
    )

pub length-filled : (width n : ℕ) → length (decimal n) ≤ width → length (filled width n) ≡ width
unfolding filled
length-filled width n h =
    omega (arith, length-append (replicate (width - length (decimal n)) 48) (decimal n), length-replicate {A = ℕ} (width - length (decimal n)) 48)

-- no zero stands before another digit
no_leading_zero : (n : ℕ) → n < 2 ^ 64 → get_or (decimal n) 0 0 ≡ 48 → length (decimal n) ≡ 1
no_leading_zero zero h zero_first = ap length (decimal_digit 0 (omega arith))
no_leading_zero (suc n) h zero_first = absurd (omega (arith, first_decimal (suc n) (omega arith) h))

-- a whole part and decimals with a point between them are a JSON number
pub IsNumber-point : (negative : Bool) (whole width decimals : ℕ) → whole < 2 ^ 64 → decimals < 2 ^ 64 → IsNumber (sign_text negative ++ point_text whole width decimals)
IsNumber-point negative whole width decimals hw hd =
    let w = decimal_is_IsNumeral whole hw in
    let d = filled_is_numeral width decimals hd in
    let p : Parts = record { whole = decimal whole; point = true; fraction = filled width decimals; exponent_negative = false; exponent = []; len = length (decimal whole ++ (46 ∷ filled width decimals ++ [])) } in
    let text : sign_text negative ++ point_text whole width decimals ≡ sign_text negative ++ text_of p = ap (λ (l : List ℕ). sign_text negative ++ (decimal whole ++ (46 ∷ l))) (sym (append-nil (filled width decimals))) in
    IsNumber-plain _ (
      negative,
      p,
      text,
      record {
        well_formed = record {
          whole_digits = w.0.1;
          fraction_digits = d.0.1;
          exponent_digits = tt;
          no_point = λ e. cc;
          no_exponent = λ e. refl;
          len_is = refl;
        };
        whole = w.0.0;
        no_leading_zero = no_leading_zero whole hw;
        fraction = λ e. d.0.0;
        marked = λ e. cc;
      },
    )

-- what a hole writes that fills a number with zeros
pub filled_is : (width n : ℕ) → padded_integral (format_spec 32 0 4 width (2 ^ 64 - 1)) false [] (decimal n) ≡ filled width n
unfolding padded_integral char_count filled
filled_is width n = let e : width - length (decimal n) - 0 - 0 ≡ width - length (decimal n) = omega arith in rw (e, append-nil (decimal n))

-- what is written of an amount
pub amount_written : (z satoshis : ℤ) (sign text hole : List ℕ) (size : ℕ) → z ≡ satoshis → sign ≡ sign_text (is_negative z) → size ≡ unsigned_abs z → hole ≡ filled 8 (size % 100000000)
    → text ≡ sign ++ (decimal (size / 100000000) ++ 46 ∷ hole) → text ≡ amount_text satoshis
unfolding amount_text
amount_written z satoshis sign text hole size same signed sized filling written = cc

pub millis_written : (millis : ℕ) (text hole : List ℕ) → hole ≡ filled 3 (millis % 1000) → text ≡ decimal (millis / 1000) ++ 46 ∷ hole → text ≡ millis_text millis
unfolding millis_text
millis_written millis text hole filling written = cc

abs_fits : (z : ℤ) → mag z < 2 ^ 63 → unsigned_abs z < 2 ^ 64
abs_fits z h = omega (arith, nat_abs-le z h)

pub IsNumber-amount : (z : ℤ) → mag z < 2 ^ 63 → IsNumber (amount_text z)
unfolding amount_text
IsNumber-amount z h =
    let bound = abs_fits z h in
    IsNumber-point (is_negative z) (unsigned_abs z / 100000000) 8 (unsigned_abs z % 100000000) (omega arith) (omega arith)

pub IsNumber-millis : (millis : ℕ) → millis < 2 ^ 64 → IsNumber (millis_text millis)
unfolding millis_text
IsNumber-millis millis h = IsNumber-point false (millis / 1000) 3 (millis % 1000) (omega arith) (omega arith)

-- such a text is that amount
pub amount_is : (z : ℤ) → mag z < 2 ^ 63 → IsAmount z (amount_text z)
unfolding amount_text
amount_is z h =
    let bound = abs_fits z h in
    let size = unsigned_abs z in
    let w = decimal_is_IsNumeral (size / 100000000) (omega arith) in
    let d = filled_is_numeral 8 (size % 100000000) (omega arith) in
    record {
      whole = decimal (size / 100000000);
      decimals = filled 8 (size % 100000000);
      parts = refl;
      whole_digits = w.0;
      decimal_digits = d.0;
      eight = length-filled 8 (size % 100000000) (length-decimal-le 8 (size % 100000000) (omega arith) (omega arith) (omega arith));
      value = omega (arith, w.1, d.1);
    }
