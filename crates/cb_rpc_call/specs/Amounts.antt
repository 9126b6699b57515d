-- Amounts of money: satoshis as a JSON number of bitcoins with eight decimals (Bitcoin Core's
-- `ValueFromAmount`), and what such a text means.
use Rattle.std.specs.Prelude.{◌≡◌, ℕ, ◌+◌, ◌-◌, ◌*◌, ◌/◌, ◌%◌, ℤ, unsigned_abs, List, ◌++◌, length, replicate, codes}
use Rattle.std.specs.Fmt.{decimal, sign_text}
use Rattle.std.specs.Int.{is_negative}
use Rattle.std.specs.Str.Parse.{IsNumeral, digits_value}
use Rattle.json.specs.Token.{Token}
use Rattle.cb_rpc_call.specs.Fields.{exact_field}

-- a number with zeros before it, up to this many digits
unfoldable pub filled : ℕ → ℕ → List ℕ
filled width n = replicate (width - length (decimal n)) 48 ++ decimal n

-- a whole part and decimals with a point between them
abbrev pub point_text : ℕ → ℕ → ℕ → List ℕ
point_text whole width decimals = decimal whole ++ (codes "." ++ filled width decimals)

-- a sign if it is below 0, the whole bitcoins, a point, and eight decimals
unfoldable pub amount_text : ℤ → List ℕ
amount_text satoshis =
    sign_text (is_negative satoshis)
    ++ point_text (unsigned_abs satoshis / 100000000) 8 (unsigned_abs satoshis % 100000000)

-- The text is this amount: its whole part times 100,000,000 and its decimals add up to it, and
-- there are exactly eight decimals.
pub record IsAmount (satoshis : ℤ) (text : List ℕ) : Type 0 where
  pub whole : List ℕ
  pub decimals : List ℕ
  pub parts : text ≡ sign_text (is_negative satoshis) ++ (whole ++ (codes "." ++ decimals))
  pub whole_digits : IsNumeral 10 whole
  pub decimal_digits : IsNumeral 10 decimals
  pub eight : length decimals ≡ 8
  pub value : digits_value 10 whole * 100000000 + digits_value 10 decimals ≡ unsigned_abs satoshis

abbrev pub amount_field : List ℕ → ℤ → List Token
amount_field name satoshis = exact_field name (amount_text satoshis)

-- milliseconds as seconds with three decimals
unfoldable pub millis_text : ℕ → List ℕ
millis_text millis = point_text (millis / 1000) 3 (millis % 1000)
