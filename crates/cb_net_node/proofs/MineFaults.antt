-- Why a node mines no block.
use Rattle.std.proofs.Common.{◌≡◌, ◌⊎◌, ℕ, refl, inl, inr}
use Rattle.cb_base.specs.declared.fault.Fault.{Fault}
use Rattle.cb_base.specs.declared.fault.Fault.TheVariants.{BadWork, Memory, Mutated}
use Rattle.cb_state.specs.Mining.{CannotMine}
use Rattle.cb_state.specs.State.{RelayState}

cannot : (state : RelayState) (mark : ℕ) (fault : Fault) → CannotMine state mark fault → (fault ≡ BadWork) ⊎ (fault ≡ Mutated)
cannot state mark Mutated h = inr refl
cannot state mark BadWork h = inl refl
cannot state mark _ h = absurd h

pub mine_faults : (state : RelayState) (mark : ℕ) (fault : Fault) → (fault ≡ Memory) ⊎ CannotMine state mark fault
    → (fault ≡ Memory) ⊎ (fault ≡ BadWork) ⊎ (fault ≡ Mutated)
mine_faults state mark fault e =
    elim e [
      | inl memory ↦ inl memory
      | inr cannot_mine ↦ inr (cannot state mark fault cannot_mine)
    ]
