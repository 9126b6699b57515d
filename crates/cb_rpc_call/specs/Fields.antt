-- The members of a JSON object: a name and a value each.
use Rattle.std.specs.Prelude.{ℕ, ℤ, ◌-◌, ◌*◌, ◌^◌, min, Bool, List, [], ◌∷◌, ◌++◌, reverse}
use Rattle.std.specs.Fmt.{decimal, signed_decimal}
use Rattle.std.specs.List.{flat_map}
use Rattle.hex.specs.Hex.{encode_lower}
use Rattle.json.specs.Token.{Token}
use Rattle.cb_base.specs.declared.hash.Hash256.{Hash256}

unfoldable pub number_field : List ℕ → ℕ → List Token
number_field name n = Token.key name ∷ Token.number (decimal n) ∷ []

unfoldable pub signed_field : List ℕ → ℤ → List Token
signed_field name z = Token.key name ∷ Token.number (signed_decimal z) ∷ []

-- a number in a text of its own
unfoldable pub exact_field : List ℕ → List ℕ → List Token
exact_field name text = Token.key name ∷ Token.number text ∷ []

unfoldable pub switch_field : List ℕ → Bool → List Token
switch_field name b = Token.key name ∷ Token.boolean b ∷ []

unfoldable pub text_field : List ℕ → List ℕ → List Token
text_field name text = Token.key name ∷ Token.string text ∷ []

-- bytes in hex, two digits each
unfoldable pub hex_field : List ℕ → List ℕ → List Token
hex_field name bytes = Token.key name ∷ Token.string (encode_lower bytes) ∷ []

-- a hash as people write it: its bytes reversed, in hex (Bitcoin Core's `uint256::GetHex`)
abbrev pub hash_text : Hash256 → List ℕ
hash_text hash = encode_lower (reverse hash.0)

unfoldable pub hash_field : List ℕ → Hash256 → List Token
hash_field name hash = Token.key name ∷ Token.string (hash_text hash) ∷ []

-- a list of hashes
abbrev pub hash_item : Hash256 → List Token
hash_item hash = Token.string (hash_text hash) ∷ []

unfoldable pub list_tokens : {A : Type 0} → (A → List Token) → List A → List Token
list_tokens item items = Token.begin_array ∷ (flat_map item items ++ Token.end_array ∷ [])

unfoldable pub list_field : {A : Type 0} → List ℕ → (A → List Token) → List A → List Token
list_field name item items = Token.key name ∷ list_tokens item items

unfoldable pub empty_field : List ℕ → List Token
empty_field name = Token.key name ∷ Token.begin_array ∷ Token.end_array ∷ []

-- an object of these members
abbrev pub object_tokens : List Token → List Token
object_tokens members = Token.begin_object ∷ (members ++ Token.end_object ∷ [])

-- a number of 64 bits, or the greatest one in place of a larger
abbrev pub capped : ℕ → ℕ
capped n = min n (2 ^ 64 - 1)

-- four times the size, for a transaction or block without witnesses (BIP 141)
abbrev pub weight_of : ℕ → ℕ
weight_of size = capped (size * 4)
