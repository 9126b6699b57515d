-- When reading a compact block, a request for transactions or transactions takes memory: not before a count that isn't 0.
use Rattle.std.proofs.Common.{◌≡◌, ◌≢◌, ℕ, zero, suc, ◌+◌, ◌*◌, ◌<◌, ◌⊎◌, ltb, eqb, List, [], length, Ok, Err, sym, ap, ◌∙◌, arith, inl, inr}
use Rattle.std.specs.Int.{w64}
use Rattle.cb_base.specs.declared.fault.Fault.{Fault}
use Rattle.cb_base.specs.declared.fault.Fault.TheVariants.{Memory, Truncated, TooMany, Empty}
use Rattle.cb_base.specs.CompactSize.{compact_at}
use Rattle.cb_base.specs.Reading.{Read, ◌>>=◌, number_at}
use Rattle.cb_base.proofs.Fields.{bind_ok, ok_is}
use Rattle.cb_base.proofs.Unpaid.{IsUnpaid, unpaid_then, unpaid_cond, unpaid_compact, unpaid_number, never_memory}
use Rattle.cb_block.specs.TxReading.{CountsSome, count_at, items_at, list_at}
use Rattle.cb_block.specs.declared.header.Header.{Header}
use Rattle.cb_block.specs.BlockReading.{header_at}
use Rattle.cb_wire.specs.ShortForms.{FormTakesMemory, prefilled_count_at, short_id_at}
use Rattle.cb_wire.specs.CompactBlocks.{CompactBlockTakesMemory, compact_block_count_at}

short : Truncated ≢ Memory
short e = absurd cc

many : TooMany ≢ Memory
many e = absurd cc

none : Empty ≢ Memory
none e = absurd cc

unpaid_prefilled : (ids : ℕ) (bytes : List ℕ) → IsUnpaid (prefilled_count_at ids bytes)
unfolding prefilled_count_at
unpaid_prefilled ids bytes =
    unpaid_then (compact_at bytes) _ (unpaid_compact bytes) (λ n.
    unpaid_cond (eqb (ids + n.0) 0) _ _ none (unpaid_cond (ltb 16666 (ids + n.0)) _ _ many (unpaid_cond (ltb (length n.1) (n.0 * 11)) _ _ short tt)))

pub prefilled_count_is_unpaid : (ids : ℕ) (bytes : List ℕ) (fault : Fault) → prefilled_count_at ids bytes ≡ Err fault → fault ≡ Memory → ⊥
prefilled_count_is_unpaid ids bytes fault e memory = never_memory (prefilled_count_at ids bytes) (unpaid_prefilled ids bytes) (e ∙ ap Err memory)

pub nonce_is_unpaid : (bytes : List ℕ) (fault : Fault) → number_at w64 bytes ≡ Err fault → fault ≡ Memory → ⊥
nonce_is_unpaid bytes fault e memory = never_memory (number_at w64 bytes) (unpaid_number w64 bytes) (e ∙ ap Err memory)

from_ids : (n : ℕ) (bytes ids after : List ℕ) → items_at short_id_at n bytes ≡ Ok (ids, after) → (0 < n) ⊎ ((ids ≡ []) × (bytes ≡ after))
unfolding items_at
from_ids zero bytes ids after e =
    let same : ([], bytes) ≡ (ids, after) = ok_is ([], bytes) (ids, after) e in
    inr (ap (λ (p : List ℕ × List ℕ). p.0) (sym same), ap (λ (p : List ℕ × List ℕ). p.1) same)
from_ids (suc n) bytes ids after e = inl (omega arith)

-- ids that couldn't be read for want of memory are some
pub ids_take : (bytes : List ℕ) → CountsSome 6 bytes → FormTakesMemory bytes
ids_take bytes h = (h.0, h.1, inl h.2)

-- ids were read, and then a count of prefilled transactions
pub prefilled_take : (bytes ids after : List ℕ) (k : ℕ) (n : ℕ × List ℕ) → list_at 6 short_id_at bytes ≡ Ok (ids, after) → k ≡ length ids → prefilled_count_at k after ≡ Ok n → FormTakesMemory bytes
unfolding list_at
prefilled_take bytes ids after k n e same f =
    let b = bind_ok (count_at 6 bytes) (λ m. items_at short_id_at m.0 m.1) (ids, after) e in
    elim (from_ids b.0.0 b.0.1 ids after b.2) [
      | inl some ↦ (b.0, b.1, inl some)
      | inr h ↦ (b.0, b.1, inr (n, ap (λ (bs : List ℕ). prefilled_count_at 0 bs) h.1 ∙ ap (λ (is : List ℕ). prefilled_count_at (length is) after) (sym h.0) ∙ ap (λ (i : ℕ). prefilled_count_at i after) (sym same) ∙ f))
    ]

-- a form that takes memory stands behind the header and the nonce
pub block_takes : (bytes : List ℕ) (header : Header) (after : List ℕ) (nonce : ℕ) (later : List ℕ) → header_at bytes ≡ Ok (header, after) → number_at w64 after ≡ Ok (nonce, later)
    → FormTakesMemory later → CompactBlockTakesMemory bytes
unfolding compact_block_count_at
block_takes bytes header after nonce later e f h =
    (h.0, ap (λ (r : Read Header). r >>= λ x. number_at w64 x.1 >>= λ n. count_at 6 n.1) e ∙ ap (λ (r : Read ℕ). r >>= λ n. count_at 6 n.1) f ∙ h.1, h.2)
