-- When reading a transaction takes memory: not before a count that isn't 0.
use Rattle.std.proofs.Common.{◌≡◌, ℕ, zero, suc, ◌*◌, ◌<◌, ◌⊎◌, ltb, true, false, ℤ, List, [], length, Result, Ok, Err, refl, sym, ap, subst, ◌∙◌, arith, inl, inr, ◌≢◌}
use Rattle.std.specs.Prelude.{IsOk}
use Rattle.std.specs.Int.{w32}
use Rattle.cb_base.specs.declared.fault.Fault.{Fault}
use Rattle.cb_base.specs.declared.fault.Fault.TheVariants.{Memory, Truncated}
use Rattle.cb_base.specs.CompactSize.{compact_at}
use Rattle.cb_base.specs.Reading.{Read, ◌>>=◌, bytes_at, signed_at}
use Rattle.cb_base.proofs.Fields.{bind_ok, ok_is}
use Rattle.cb_base.proofs.Unpaid.{IsUnpaid, unpaid_bytes, unpaid_then, unpaid_cond, unpaid_compact, never_memory}
use Rattle.cb_block.specs.declared.tx.TxIn.{TxIn}
use Rattle.cb_block.specs.TxReading.{hash_at, count_at, items_at, list_at, input_at, first_count_at, CountsSome, TakesMemory}

short : Truncated ≢ Memory
short e = absurd cc

pub unpaid_hash : (bytes : List ℕ) → IsUnpaid (hash_at bytes)
unfolding hash_at
unpaid_hash bytes = unpaid_then (bytes_at 32 bytes) _ (unpaid_bytes 32 bytes) (λ _. tt)

pub unpaid_count : (least : ℕ) (bytes : List ℕ) → IsUnpaid (count_at least bytes)
unfolding count_at
unpaid_count least bytes = unpaid_then (compact_at bytes) _ (unpaid_compact bytes) (λ n. unpaid_cond (ltb (length n.1) (n.0 * least)) _ _ short tt)

-- what a `?` hands on is want of memory only where it was
pub memory_told : {A : Type 0} (r : Result A Fault) (told fault : Fault) → r ≡ Err told → told ≡ fault → r ≡ Err Memory → fault ≡ Memory
memory_told r told fault e same memory = sym same ∙ cc

-- a count that can't be read is no want of memory
pub count_paid : (least : ℕ) (bytes : List ℕ) (fault : Fault) → count_at least bytes ≡ Err fault → fault ≡ Memory → CountsSome least bytes
count_paid least bytes fault e memory = absurd (never_memory (count_at least bytes) (unpaid_count least bytes) (e ∙ ap Err memory))

from_items : (n : ℕ) (bytes : List ℕ) (inputs : List TxIn) (after : List ℕ) → items_at input_at n bytes ≡ Ok (inputs, after) → (0 < n) ⊎ (bytes ≡ after)
unfolding items_at
from_items zero bytes inputs after e = inr (ap (λ (p : List TxIn × List ℕ). p.1) (ok_is ([], bytes) (inputs, after) e))
from_items (suc n) bytes inputs after e = inl (omega arith)

-- the inputs were read, and the second count isn't 0
pub takes_second : (bytes : List ℕ) (version : ℤ) (after : List ℕ) (inputs : List TxIn) (later : List ℕ) → signed_at w32 bytes ≡ Ok (version, after)
    → list_at 41 input_at after ≡ Ok (inputs, later) → CountsSome 9 later → TakesMemory bytes
unfolding first_count_at list_at
takes_second bytes version after inputs later e f h =
    let b = bind_ok (count_at 41 after) (λ n. items_at input_at n.0 n.1) (inputs, later) f in
    let first : first_count_at bytes ≡ Ok b.0 = ap (λ (r : Read ℤ). r >>= λ v. count_at 41 v.1) e ∙ b.1 in
    elim (from_items b.0.0 b.0.1 inputs later b.2) [
      | inl some ↦ (b.0, first, inl some)
      | inr none ↦ (b.0, first, inr (subst (CountsSome 9) (sym none) h))
    ]

-- where items couldn't be read for want of memory, their count isn't 0
pub some_counted : {A : Type 0} (least said : ℕ) (bytes : List ℕ) (n : ℕ) (after : List ℕ) (r : Result A Fault) → said ≡ least → count_at said bytes ≡ Ok (n, after) → (n ≡ 0 → IsOk r) → r ≡ Err Memory
    → CountsSome least bytes
some_counted least said bytes zero after r same e unpaid memory = absurd (let z : false ≡ true = subst IsOk memory (unpaid refl) in cc)
some_counted least said bytes (suc n) after r same e unpaid memory = ((suc n, after), subst (λ (m : ℕ). count_at m bytes ≡ Ok (suc n, after)) same e, omega arith)
