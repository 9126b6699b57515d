-- How a network fails.
use Rattle.std.proofs.Common.{◌≡◌, ◌⊎◌, inl, inr, subst, sym, Result, Ok, Err, IfErr, IsOkUnless}
use Rattle.cb_base.specs.declared.fault.Fault.{Fault}
use Rattle.cb_base.specs.declared.fault.Fault.TheVariants.{BadWork, JournalFull, Memory, Mutated, NoMore}
use Rattle.cb_net.specs.Faults.{IsNetFault, bad_work, journal_full, mutated, no_more, wants_memory}

pub of_memory : (fault : Fault) → fault ≡ Memory → IsNetFault fault
of_memory fault same = subst IsNetFault (sym same) wants_memory

pub of_no_more : (fault : Fault) → (fault ≡ NoMore) ⊎ (fault ≡ Memory) → IsNetFault fault
of_no_more fault (inl same) = subst IsNetFault (sym same) no_more
of_no_more fault (inr same) = subst IsNetFault (sym same) wants_memory

pub of_full : (fault : Fault) → (fault ≡ JournalFull) ⊎ (fault ≡ Memory) → IsNetFault fault
of_full fault (inl same) = subst IsNetFault (sym same) journal_full
of_full fault (inr same) = subst IsNetFault (sym same) wants_memory

pub of_open : (fault : Fault) → (fault ≡ NoMore) ⊎ (fault ≡ JournalFull) ⊎ (fault ≡ Memory) → IsNetFault fault
of_open fault (inl same) = subst IsNetFault (sym same) no_more
of_open fault (inr (inl same)) = subst IsNetFault (sym same) journal_full
of_open fault (inr (inr same)) = subst IsNetFault (sym same) wants_memory

-- what fails only for want of memory
pub unless_memory : {T : Type 0} (r : Result T Fault) → IsOkUnless r Memory → IfErr r IsNetFault
unless_memory (Ok x) is = tt
unless_memory (Err fault) is = of_memory fault is

pub unless_no_more : {T : Type 0} (r : Result T Fault) → IfErr r (λ fault. (fault ≡ NoMore) ⊎ (fault ≡ Memory)) → IfErr r IsNetFault
unless_no_more (Ok x) is = tt
unless_no_more (Err fault) is = of_no_more fault is

pub unless_journal_full : {T : Type 0} (r : Result T Fault) → IfErr r (λ fault. (fault ≡ JournalFull) ⊎ (fault ≡ Memory)) → IfErr r IsNetFault
unless_journal_full (Ok x) is = tt
unless_journal_full (Err fault) is = of_full fault is

of_mine : (fault : Fault) → (fault ≡ Memory) ⊎ (fault ≡ NoMore) ⊎ (fault ≡ JournalFull) ⊎ (fault ≡ BadWork) ⊎ (fault ≡ Mutated) → IsNetFault fault
of_mine fault (inl same) = subst IsNetFault (sym same) wants_memory
of_mine fault (inr (inl same)) = subst IsNetFault (sym same) no_more
of_mine fault (inr (inr (inl same))) = subst IsNetFault (sym same) journal_full
of_mine fault (inr (inr (inr (inl same)))) = subst IsNetFault (sym same) bad_work
of_mine fault (inr (inr (inr (inr same)))) = subst IsNetFault (sym same) mutated

pub unless_mine : {T : Type 0} (r : Result T Fault) → IfErr r (λ fault. (fault ≡ Memory) ⊎ (fault ≡ NoMore) ⊎ (fault ≡ JournalFull) ⊎ (fault ≡ BadWork) ⊎ (fault ≡ Mutated)) → IfErr r IsNetFault
unless_mine (Ok x) is = tt
unless_mine (Err fault) is = of_mine fault is

pub no_more_is : IsNetFault NoMore
no_more_is = no_more
