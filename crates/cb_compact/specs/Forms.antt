-- The compact form of a block (BIP 152): some transactions are prefilled, all others have short
-- ids.
use Rattle.std.specs.Prelude.{◌≡◌, ℕ, ◌+◌, ◌-◌, List, [], ◌∷◌, ◌++◌, map, take, drop, slice_get, All, Some}
use Rattle.cb_block.specs.Blocks.{texts}
use Rattle.cb_block.specs.Soundness.{names}
use Rattle.cb_block.specs.declared.block.Block.{Block}
use Rattle.cb_compact.specs.ShortIds.{key_of, short_id_of}
use Rattle.cb_compact.specs.declared.form.Compact.{Compact}
use Rattle.cb_compact.specs.declared.form.Prefilled.{Prefilled}

-- the list without the elements at these rising places, where `first` is the place of its first
-- element
abbrev pub left_out : {A : Type 0} → ℕ → List ℕ → List A → List A
left_out first [] list = list
left_out first (place ∷ places) list =
    take (place - first) list ++ left_out (place + 1) places (drop (place - first + 1) list)

-- the places of prefilled transactions
abbrev pub places_of : List Prefilled → List ℕ
places_of prefilled = map (λ given. given.place) prefilled

-- The form is the compact form of the block under the nonce, with the transactions at these places
-- prefilled.
pub record IsCompact (block : Block) (nonce : ℕ) (places : List ℕ) (form : Compact) : Type 0 where
  pub header : form.header ≡ block.header
  pub nonce_is : form.nonce ≡ nonce
  pub ids : form.ids.items
      ≡ map (short_id_of (key_of block.header nonce)) (left_out 0 places (names (texts block.txs)))
  pub places_are : places_of form.prefilled.items ≡ places
  pub whole : All (λ given. slice_get block.txs given.place ≡ Some given.tx) form.prefilled.items
