-- The double hashes of the payloads that come next in a stream.
use Rattle.std.specs.Prelude.{◌≡◌, ℕ, ◌+◌, List, [], ◌∷◌, take, drop}
use Rattle.cb_base.specs.DoubleHash.{double_hash}
use Rattle.cb_base.specs.declared.hash.Hash256.{Hash256}
use Rattle.cb_wire.specs.declared.envelope.Front.TheVariants.{Whole}
use Rattle.cb_wire.specs.Envelope.{front_at}

-- the envelope at the front is whole: it has this payload, and these bytes are behind it
pub record Cuts (bytes payload after : List ℕ) : Type 0 where
  pub size : ℕ
  pub whole : front_at bytes ≡ Whole size
  pub payload_is : payload ≡ take size (drop 24 bytes)
  pub after_is : after ≡ drop (24 + size) bytes

-- these are the hashes of the first payloads
abbrev pub Foretells : List ℕ → List Hash256 → Type 0
Foretells bytes [] = Unit {0}
Foretells bytes (hash ∷ hashes) =
    (size : ℕ) × (front_at bytes ≡ Whole size) × (hash ≡ double_hash (take size (drop 24 bytes)))
    × Foretells (drop (24 + size) bytes) hashes
