-- The types of inventory entries.
use Rattle.std.specs.Prelude.{◌≢◌, ℕ}

-- A type without a name: it isn't that of a transaction (1), a block (2) or a compact block (4, BIP
-- 152).
pub record IsOtherKind (kind : ℕ) : Type 0 where
  pub tx : kind ≢ 1
  pub block : kind ≢ 2
  pub compact : kind ≢ 4
