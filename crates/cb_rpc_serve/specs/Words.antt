-- What the words in a request's head say.
use Rattle.std.specs.Prelude.{ℕ, Bool, true, ◌&&◌, ◌||◌, nat_eq, nat_le, List, [], ◌∷◌, codes, length, take, drop, slice_index}
use Rattle.std.specs.Str.{str_eq_ignore_ascii_case}
use Rattle.std.specs.Char.{is_ascii_digit}

-- the text begins with the word, in small or large letters
abbrev pub begins_with : List ℕ → List ℕ → Bool
begins_with word text =
    nat_le (length word) (length text)
    && str_eq_ignore_ascii_case (take (length word) text) word

-- a content type (RFC 9110, section 8.3) that is JSON's, or one whose name goes on
abbrev pub is_json_type : List ℕ → Bool
is_json_type content = begins_with (codes "application/json") content

-- `localhost` with or without a port
abbrev pub is_named : List ℕ → Bool
is_named host =
    begins_with (codes "localhost") host
    && (nat_eq (length host) 9 || nat_eq (slice_index host 9) 58)

-- digits and dots alone up to a colon or the end
abbrev pub follows_numbers : List ℕ → Bool
follows_numbers [] = true
follows_numbers (c ∷ cs) =
    nat_eq c 58 || ((is_ascii_digit c || nat_eq c 46) && follows_numbers cs)

-- an address in numbers that begins with 127, with or without a port. No name in the domain name
-- system ends in a number
abbrev pub is_numbered : List ℕ → Bool
is_numbered host = begins_with (codes "127.") host && follows_numbers (drop 4 host)

-- a `host` that is a name of the own machine
abbrev pub is_loopback : List ℕ → Bool
is_loopback host = is_named host || begins_with (codes "[::1]") host || is_numbered host
