-- Where no block becomes wanted, and where no block is named.
use Rattle.std.proofs.Common.{◌≡◌, ◌⊎◌, ℕ, zero, suc, ◌+◌, ◌≤◌, ◌<◌, Bool, true, false, cond, List, [], ◌∷◌, ◌++◌, length, take, get_or, refl, sym, ap, ◌∙◌, arith, inl, inr}
use Rattle.std.specs.Prelude.{fold, nat_lt}
use Rattle.std.proofs.lemmas.List.{length-append}
use Rattle.cb_base.specs.declared.hash.Hash256.{Hash256}
use Rattle.cb_wire.specs.declared.inventory.Inventory.{Inventory}
use Rattle.cb_wire.specs.declared.inventory.Inventory.TheVariants.{Block, CompactBlock, Other, Tx}
use Rattle.cb_peer_state.specs.Fetching.{FetchState, block_in, blocks_in, is_fetched, wanting}

-- nothing changes, or one more is wanted
same_or_more : (found room : Bool) (fetch more : FetchState) → length more.wanted ≡ length fetch.wanted + 1
    → (cond found fetch (cond room more fetch) ≡ fetch) ⊎ (length (cond found fetch (cond room more fetch)).wanted ≡ length fetch.wanted + 1)
same_or_more true room fetch more longer = inl refl
same_or_more false true fetch more longer = inr longer
same_or_more false false fetch more longer = inl refl

one_more : (fetch : FetchState) (hash : Hash256) → (wanting fetch hash ≡ fetch) ⊎ (length (wanting fetch hash).wanted ≡ length fetch.wanted + 1)
one_more fetch hash =
    let more : FetchState = record { flight = fetch.flight; wanted = fetch.wanted ++ hash ∷ [] } in
    same_or_more (is_fetched fetch hash) (nat_lt (length fetch.wanted) 2000) fetch more (omega (arith, length-append fetch.wanted (hash ∷ [])))

one_no_fewer : (fetch : FetchState) (hash : Hash256) → length fetch.wanted ≤ length (wanting fetch hash).wanted
one_no_fewer fetch hash =
    elim (one_more fetch hash) [
      | inl same ↦
          let long : length (wanting fetch hash).wanted ≡ length fetch.wanted = ap (λ (f : FetchState). length f.wanted) same in
          omega (arith, long)
      | inr more ↦ omega (arith, more)
    ]

pub no_fewer_each : (fetch : FetchState) (hashes : List Hash256) → length fetch.wanted ≤ length (fold wanting fetch hashes).wanted
no_fewer_each fetch [] = omega arith
no_fewer_each fetch (hash ∷ hashes) = omega (arith, one_no_fewer fetch hash, no_fewer_each (wanting fetch hash) hashes)

-- if no more are wanted in the end, none became so at any place
still_at : (fetch : FetchState) (hashes : List Hash256) (k : ℕ) (none : Hash256) → k < length hashes → length (fold wanting fetch hashes).wanted ≤ length fetch.wanted
    → wanting (fold wanting fetch (take k hashes)) (get_or hashes k none) ≡ fold wanting fetch (take k hashes)
still_at fetch [] k none low few = absurd (omega (arith, low))
still_at fetch (hash ∷ hashes) zero none low few =
    elim (one_more fetch hash) [
      | inl same ↦ same
      | inr more ↦ absurd (omega (arith, more, few, no_fewer_each (wanting fetch hash) hashes))
    ]
still_at fetch (hash ∷ hashes) (suc k) none low few =
    still_at (wanting fetch hash) hashes k none (omega (arith, low)) (omega (arith, few, one_no_fewer fetch hash))

pub still_each : (fetch now : FetchState) (hashes : List Hash256) (k : ℕ) (none : Hash256) → k < length hashes → now ≡ fold wanting fetch (take k hashes) → fold wanting fetch hashes ≡ fetch
    → wanting now (get_or hashes k none) ≡ now
still_each fetch now hashes k none low was same =
    let long : length (fold wanting fetch hashes).wanted ≡ length fetch.wanted = ap (λ (f : FetchState). length f.wanted) same in
    ap (λ (f : FetchState). wanting f (get_or hashes k none)) was ∙ still_at fetch hashes k none low (omega (arith, long)) ∙ sym was

-- no entry names a block
none_behind : (entry : Inventory) (others : List Hash256) → block_in entry ++ others ≡ [] → (block_in entry ≡ []) × (others ≡ [])
none_behind (Block hash) others none = absurd cc
none_behind (Tx txid) others none = (refl, none)
none_behind (CompactBlock hash) others none = (refl, none)
none_behind (Other kind hash) others none = (refl, none)

pub none_named : (entries : List Inventory) (k : ℕ) (d : Inventory) → k < length entries → blocks_in entries ≡ [] → block_in (get_or entries k d) ≡ []
none_named [] k d low none = absurd (omega (arith, low))
none_named (entry ∷ entries) zero d low none = (none_behind entry (blocks_in entries) none).0
none_named (entry ∷ entries) (suc k) d low none = none_named entries k d (omega (arith, low)) (none_behind entry (blocks_in entries) none).1
