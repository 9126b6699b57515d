-- Reading never meets the fault of memory.
use Rattle.std.proofs.Common.{◌≡◌, ℕ, Bool, true, false, cond, ltb, eqb, List, length, Result, Ok, Err, ◌≢◌}
use Rattle.std.specs.Int.{Width, w8, w16, w32, w64, byte_len}
use Rattle.cb_base.specs.declared.fault.Fault.{Fault}
use Rattle.cb_base.specs.declared.fault.Fault.TheVariants.{Memory, Truncated, NotShortest}
use Rattle.cb_base.specs.Reading.{◌>>=◌, bytes_at, number_at, signed_at}
use Rattle.cb_base.specs.CompactSize.{compact_at, wide_at}

-- it is no fault of memory
abbrev pub IsUnpaid : {A : Type 0} → Result A Fault → Type 0
IsUnpaid (Ok x) = Unit {0}
IsUnpaid (Err fault) = fault ≢ Memory

pub unpaid_then : {A B : Type 0} (r : Result A Fault) (f : A → Result B Fault) → IsUnpaid r → ((x : A) → IsUnpaid (f x)) → IsUnpaid (r >>= f)
unpaid_then (Ok x) f h more = more x
unpaid_then (Err fault) f h more = h

pub unpaid_cond : {A : Type 0} (b : Bool) (r s : Result A Fault) → IsUnpaid r → IsUnpaid s → IsUnpaid (cond b r s)
unpaid_cond true r s h g = h
unpaid_cond false r s h g = g

short : Truncated ≢ Memory
short e = absurd cc

longer : NotShortest ≢ Memory
longer e = absurd cc

pub unpaid_bytes : (n : ℕ) (bytes : List ℕ) → IsUnpaid (bytes_at n bytes)
unpaid_bytes n bytes = unpaid_cond (ltb (length bytes) n) _ _ short tt

pub unpaid_number : (w : Width) (bytes : List ℕ) → IsUnpaid (number_at w bytes)
unpaid_number w bytes = unpaid_cond (ltb (length bytes) (byte_len w)) _ _ short tt

pub unpaid_signed : (w : Width) (bytes : List ℕ) → IsUnpaid (signed_at w bytes)
unpaid_signed w bytes = unpaid_cond (ltb (length bytes) (byte_len w)) _ _ short tt

unpaid_wide : (w : Width) (least : ℕ) (bytes : List ℕ) → IsUnpaid (wide_at w least bytes)
unfolding wide_at
unpaid_wide w least bytes = unpaid_then (number_at w bytes) _ (unpaid_number w bytes) (λ n. unpaid_cond (ltb n.0 least) _ _ longer tt)

pub unpaid_compact : (bytes : List ℕ) → IsUnpaid (compact_at bytes)
unfolding compact_at
unpaid_compact bytes =
    unpaid_then (number_at w8 bytes) _ (unpaid_number w8 bytes) (λ first.
    unpaid_cond (ltb first.0 253) _ _ tt
    (unpaid_cond (eqb first.0 253) _ _ (unpaid_wide w16 253 first.1)
    (unpaid_cond (eqb first.0 254) _ _ (unpaid_wide w32 65536 first.1) (unpaid_wide w64 4294967296 first.1))))

-- so it doesn't answer it
pub never_memory : {A : Type 0} (r : Result A Fault) → IsUnpaid r → r ≡ Err Memory → ⊥
never_memory (Ok x) h e = absurd cc
never_memory (Err fault) h e = h cc
