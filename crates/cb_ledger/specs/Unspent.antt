-- The UTXO set: a finite map from outpoints to values in satoshis.
use Rattle.std.specs.Prelude.{ℕ, ℤ, pos, ◌+ℤ◌, List, [], ◌∷◌, refl}
use Rattle.std.specs.Coded.{Coded, code_by, coded×, coded_list, coded_ℕ, coded_ℤ}
use Rattle.std.specs.Cmp.Lexicographic.{slice_cmp}
use Rattle.std.specs.FinMap as map
use Rattle.std.specs.Ordering.{nat_cmp, ordering_then}
use Rattle.std.specs.declared.cmp.Ordering.{Ordering}
use Rattle.cb_block.specs.declared.tx.OutPoint.{OutPoint}

-- the order of outpoints: by the bytes of the txid, then by the index
abbrev pub outpoint_cmp : OutPoint → OutPoint → Ordering
outpoint_cmp a b = ordering_then (slice_cmp nat_cmp a.txid.0 b.txid.0) (nat_cmp a.index b.index)

-- an outpoint as a pair of bytes and a number
abbrev pub coded_outpoint : Coded OutPoint
coded_outpoint =
    code_by (List ℕ × ℕ) (coded× (coded_list coded_ℕ) coded_ℕ) (λ p. (p.txid.0, p.index))
    (λ p. record { txid = record { 0 = p.0 }; index = p.1 }) (λ _. refl)

-- the value of each unspent output
abbrev pub Unspent : Type 0
Unspent = map.FinMap outpoint_cmp ℤ

abbrev pub coded_unspent : Coded Unspent
coded_unspent = map.code coded_outpoint coded_ℤ

-- the sum of the values of a list of entries
abbrev pub sum_of : List (OutPoint × ℤ) → ℤ
sum_of [] = pos 0
sum_of (e ∷ es) = e.1 +ℤ sum_of es

-- the value of the whole UTXO set
abbrev pub total : Unspent → ℤ
total u = sum_of (map.entries u)

-- What contracts see of a ledger: the UTXO set, and for how many more outputs it has room.
pub record Held : Type 0 where
  pub unspent : Unspent
  pub room : ℕ

abbrev pub coded_held : Coded Held
coded_held =
    code_by (Unspent × ℕ) (coded× coded_unspent coded_ℕ) (λ h. (h.unspent, h.room))
    (λ p. record { unspent = p.0; room = p.1 }) (λ _. refl)
