-- What a writer leaves if it fails halfway.
use Rattle.std.specs.Prelude.{◌≡◌, ℕ, List, length, take}

-- new begins with old
abbrev pub Extends : List ℕ → List ℕ → Type 0
Extends old new = take (length old) new ≡ old
