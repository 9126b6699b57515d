-- What `decode` prints for its whole input.
use Rattle.std.specs.Prelude.{◌≡◌, ℕ, ◌+◌, List, [], ◌∷◌, ◌++◌, length, codes, ⊤, ◌⊎◌, Option, Some, None, Ok, Err}
use Rattle.std.specs.Fmt.{decimal}
use Rattle.std.specs.Str.Lines.{lines}
use Rattle.hex.specs.Hex.{decode_of}
use Rattle.hex.specs.declared.error.FromHexError.{FromHexError}
use Rattle.cb_base.specs.declared.fault.Fault.{Fault}
use Rattle.cb_wire.specs.declared.item.Item.{Item}
use Rattle.cb_wire.specs.Stream.{Stream}
use Rattle.cb_control.specs.declared.ending.Status.{Status}
use Rattle.cb_control.specs.declared.ending.Status.TheVariants.{Success, RunFailed}
use Rattle.cb_commands.specs.Printed.{items_text, broken_text}

-- a stream that is decoded: the bytes left after the last whole envelope, and the stream's fault
pub record Decoded : Type 0 where
  pub rest : List ℕ
  pub fault : Option Fault

-- the bytes are such a stream, and the text is what is printed for its items and its fault
pub record Decodes (bytes text : List ℕ) (stream : Decoded) : Type 0 where
  pub items : List Item
  pub spelled : Stream bytes items stream.rest stream.fault
  pub printed : text ≡ items_text items ++ broken_text stream.fault

-- each line is hex, and the bytes are the lines decoded, one after another
abbrev pub AreHexOf : List (List ℕ) → List ℕ → Type 0
AreHexOf [] bytes = bytes ≡ []
AreHexOf (line ∷ more) bytes =
    (piece : List ℕ) × (rest : List ℕ) × (decode_of line ≡ Ok piece) × (bytes ≡ piece ++ rest)
    × AreHexOf more rest

-- the text isn't hex
abbrev pub IsNotHex : List ℕ → Type 0
IsNotHex line = (error : FromHexError) × (decode_of line ≡ Err error)

-- the last line: how many bytes are left over
abbrev pub rest_text : ℕ → List ℕ
rest_text n = codes "rest " ++ decimal n ++ codes "\n"

-- the last line if a line isn't hex: that line's number
abbrev pub not_hex_text : ℕ → List ℕ
not_hex_text number = codes "line " ++ decimal number ++ codes " not hex\n"

-- The status after a stream. A fault of the stream is bad input. A damaged or bad item is only
-- printed.
abbrev pub stream_status : Option Fault → Status
stream_status None = Success
stream_status (Some fault) = RunFailed

-- All lines are hex. The output is what their stream prints, and then how many bytes are left over.
pub record ReportsAll (input out : List ℕ) (status : Status) : Type 0 where
  pub bytes : List ℕ
  pub text : List ℕ
  pub stream : Decoded
  pub hex : AreHexOf (lines input) bytes
  pub decodes : Decodes bytes text stream
  pub out_is : out ≡ text ++ rest_text (length stream.rest)
  pub status_is : status ≡ stream_status stream.fault

-- A line isn't hex. The output is what the stream of the lines before it prints, and then that
-- line's number.
pub record ReportsUpTo (input out : List ℕ) (status : Status) : Type 0 where
  pub before : List (List ℕ)
  pub line : List ℕ
  pub after : List (List ℕ)
  pub bytes : List ℕ
  pub text : List ℕ
  pub stream : Decoded
  pub lines_are : lines input ≡ before ++ (line ∷ after)
  pub hex : AreHexOf before bytes
  pub not_hex : IsNotHex line
  pub decodes : Decodes bytes text stream
  pub out_is : out ≡ text ++ not_hex_text (length before + 1)
  pub status_is : status ≡ RunFailed

-- what a run prints for its whole input, and its status
abbrev pub Reports : List ℕ → List ℕ → Status → Type 0
Reports input out status = ReportsAll input out status ⊎ ReportsUpTo input out status

-- the same, if the bytes of the reader and the writer are known
abbrev pub ReportsKnown : Option (List ℕ) → Option (List ℕ) → Option (List ℕ) → Status → Type 0
ReportsKnown None old new status = ⊤
ReportsKnown (Some input) None new status = ⊤
ReportsKnown (Some input) (Some held) None status = ⊥
ReportsKnown (Some input) (Some held) (Some holds) status =
    (out : List ℕ) × (holds ≡ held ++ out) × Reports input out status
