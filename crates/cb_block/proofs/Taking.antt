-- Reading a header takes no memory.
use Rattle.std.proofs.Common.{◌≡◌, ℕ, List, Err, ap, ◌∙◌}
use Rattle.std.specs.Int.{w32}
use Rattle.cb_base.specs.declared.fault.Fault.{Fault}
use Rattle.cb_base.specs.declared.fault.Fault.TheVariants.{Memory}
use Rattle.cb_base.specs.Reading.{number_at, signed_at}
use Rattle.cb_base.proofs.Unpaid.{IsUnpaid, unpaid_then, unpaid_number, unpaid_signed, never_memory}
use Rattle.cb_block.specs.TxReading.{hash_at}
use Rattle.cb_block.proofs.TakingTxs.{unpaid_hash}
use Rattle.cb_block.specs.BlockReading.{header_at}

unpaid_header : (bytes : List ℕ) → IsUnpaid (header_at bytes)
unfolding header_at
unpaid_header bytes =
    unpaid_then (signed_at w32 bytes) _ (unpaid_signed w32 bytes) (λ version.
    unpaid_then (hash_at version.1) _ (unpaid_hash version.1) (λ prev.
    unpaid_then (hash_at prev.1) _ (unpaid_hash prev.1) (λ root.
    unpaid_then (number_at w32 root.1) _ (unpaid_number w32 root.1) (λ time.
    unpaid_then (number_at w32 time.1) _ (unpaid_number w32 time.1) (λ bits.
    unpaid_then (number_at w32 bits.1) _ (unpaid_number w32 bits.1) (λ nonce. tt))))))

pub header_is_unpaid : (bytes : List ℕ) (fault : Fault) → header_at bytes ≡ Err fault → fault ≡ Memory → ⊥
header_is_unpaid bytes fault e memory = never_memory (header_at bytes) (unpaid_header bytes) (e ∙ ap Err memory)
