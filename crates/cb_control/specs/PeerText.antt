-- What is told of a peer: its times, and what its `version` told.
use Rattle.std.specs.Prelude.{ℕ, ◌==◌, ◌||◌, Bool, if◌then◌else◌, List, [], ◌∷◌, ◌++◌, codes, Option, Some, None}
use Rattle.std.specs.Fmt.{decimal, signed_decimal}
use Rattle.std.specs.Char.{is_ascii_alphanumeric}
use Rattle.std.specs.List.{flat_map, list_any}
use Rattle.cb_control.specs.declared.report.Greeting.{Greeting}
use Rattle.cb_control.specs.declared.report.PeerReport.{PeerReport}

-- what there may be, or `-`
abbrev pub or_dash : {A : Type 0} → (A → List ℕ) → Option A → List ℕ
or_dash text None = codes "-"
or_dash text (Some a) = text a

-- how long the latest `pong` took
abbrev pub pong_text : Option ℕ → List ℕ
pong_text None = codes " pong -"
pong_text (Some millis) = codes " pong " ++ (decimal millis ++ codes " ms")

-- when the connection was made, when its latest message came, and how long the latest `pong` took
abbrev pub times_text : PeerReport → List ℕ
times_text peer =
    (codes " since " ++ (signed_decimal peer.since ++ codes " last "))
    ++ or_dash signed_decimal peer.last ++ pong_text peer.pong

-- Letters, digits and a few signs, as Bitcoin Core's SanitizeString leaves of a text
-- (util/strencodings.cpp, SAFE_CHARS_DEFAULT).
abbrev pub is_safe : ℕ → Bool
is_safe byte = is_ascii_alphanumeric byte || list_any (λ sign. sign == byte) (codes " .,;-_/:?@()")

-- what is told of an agent: each byte that is safe, and nothing in the place of others
abbrev pub agent_byte : ℕ → List ℕ
agent_byte byte = if is_safe byte then byte ∷ [] else []

abbrev pub agent_text : List ℕ → List ℕ
agent_text agent = flat_map agent_byte agent

-- a peer's protocol version, height and agent, if its `version` came
abbrev pub greeting_text : Option Greeting → List ℕ
greeting_text None = codes " version - height - agent -"
greeting_text (Some greeting) =
    (codes " version "
    ++ (signed_decimal greeting.version
    ++ (codes " height " ++ (signed_decimal greeting.height ++ codes " agent "))))
    ++ agent_text greeting.agent.items

-- the end of a peer's line: its times, and what its `version` told
abbrev pub peer_end : PeerReport → List ℕ
peer_end peer = times_text peer ++ greeting_text peer.greeting ++ codes "\n"
