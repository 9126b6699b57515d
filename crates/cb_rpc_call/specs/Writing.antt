-- What a call writes.
use Rattle.std.specs.Prelude.{◌≡◌, List, ◌++◌, Result, OnOk}
use Rattle.json.specs.Token.{Token}
use Rattle.json.specs.Written.{Written}

-- On success these tokens stand behind those that the writer had, and what its buffer held before
-- stays in any case.
pub record Adds {E : Type 0} (r : Result (Unit {0}) E) (old new : Written) (added : List Token)
    : Type 0 where
  pub tokens : OnOk r (new.tokens ≡ old.tokens ++ added)
  pub before : new.before ≡ old.before
