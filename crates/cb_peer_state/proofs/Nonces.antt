-- The nonces of the compact blocks that are sent.
use Rattle.std.proofs.Common.{◌≡◌, ◌∙◌, ℕ, suc, ◌+◌, ◌^◌, List, [], ◌∷◌, ◌++◌, refl, sym, ap, arith}
use Rattle.std.specs.Prelude.{◌%◌, filter_map}
use Rattle.std.proofs.lemmas.List.{append-nil}
use Rattle.std.proofs.lemmas.List.Elements.{filter_map-append}
use Rattle.cb_block.specs.declared.block.Block as blocks
use Rattle.cb_wire.specs.declared.inventory.Inventory.{Inventory}
use Rattle.cb_compact.specs.Shortening.{shortened_of}
use Rattle.cb_state.specs.declared.serving.Piece.{Piece}
use Rattle.cb_state.specs.declared.serving.Piece.TheVariants as piece
use Rattle.cb_peer_state.specs.Serving.{lacking_in, nonce_in, nonces_from, nonces_in, not_found, sent, served, shorts}

form_nonce : (block : blocks.Block) (nonce : ℕ) → (shortened_of block nonce).nonce ≡ nonce
unfolding shortened_of
form_nonce block nonce = refl

none_told : (entries : List Inventory) → nonces_in (not_found entries) ≡ []
none_told [] = refl
none_told (entry ∷ entries) = refl

sent_nonces : (nonce : ℕ) (pieces : List Piece) → nonces_in (sent nonce pieces) ≡ nonces_from nonce (shorts pieces)
sent_nonces nonce [] = refl
sent_nonces nonce (piece.Tx tx ∷ pieces) = sent_nonces nonce pieces
sent_nonces nonce (piece.Whole block ∷ pieces) = sent_nonces nonce pieces
sent_nonces nonce (piece.Lacking asked ∷ pieces) = sent_nonces nonce pieces
sent_nonces nonce (piece.Short block ∷ pieces) =
    let next = (nonce + 1) % 2 ^ 64 in
    let more : shorts pieces + 1 ≡ suc (shorts pieces) = omega arith in
    ap (λ (n : ℕ). n ∷ nonces_in (sent next pieces)) (form_nonce block nonce)
    ∙ ap (λ (l : List ℕ). nonce ∷ l) (sent_nonces next pieces)
    ∙ sym (ap (nonces_from nonce) more)

pub served_nonces : (nonce : ℕ) (pieces : List Piece) → nonces_in (served nonce pieces) ≡ nonces_from nonce (shorts pieces)
served_nonces nonce pieces =
    let entries = filter_map lacking_in pieces in
    filter_map-append nonce_in (sent nonce pieces) (not_found entries)
    ∙ ap (λ (l : List ℕ). nonces_in (sent nonce pieces) ++ l) (none_told entries)
    ∙ append-nil (nonces_in (sent nonce pieces))
    ∙ sent_nonces nonce pieces
