-- The calls that a chain has had, with one more.
use Rattle.std.proofs.Common.{◌≡◌, List, ◌∷◌, None, Some, Option, refl, sym, ap, subst, inl, inr, ◌⊎◌}
use Rattle.std.specs.Prelude.{IfErr, IfOk, MatchResult, Result, Ok, Err}
use Rattle.cb_base.specs.declared.fault.Fault.{Fault}
use Rattle.cb_base.specs.declared.fault.Fault.TheVariants.{Memory}
use Rattle.cb_block.specs.declared.block.Block.{Block}
use Rattle.cb_block.specs.declared.header.Header.{Header}
use Rattle.cb_block.specs.Blocks.{IsSoundBlock, MeetsBlockRules}
use Rattle.cb_block.specs.Work.{HasWork}
use Rattle.cb_chain.specs.declared.change.Change.{Change}
use Rattle.cb_chain.specs.Calls.AcceptsBlock.{meets_rules}
use Rattle.cb_chain.specs.Calls.{AcceptsBlock, AcceptsHeader, block_fault, joined}
use Rattle.cb_chain.specs.Entries.{Tree}
use Rattle.cb_chain.specs.History.{BlockCall, Call, HeaderCall, IsHistoric, IsHistory}

-- ---- some list of calls leaves it

pub historic_header : (old new : Tree) (header : Header) (answer : Option Fault) → IsHistoric old → AcceptsHeader old header answer new → IsHistoric new
historic_header old new header answer is told = (HeaderCall header ∷ is.0, (old, is.1, (answer, told)))

pub historic_block : (old new : Tree) (block : Block) (answer : Result Change Fault) → IsSoundBlock block → IsHistoric old → AcceptsBlock old block answer new → IsHistoric new
historic_block old new block answer sound is told = (BlockCall block ∷ is.0, (old, is.1, (sound, answer, told)))

pub historic_joined : (old : Tree) (block : Block) → IsSoundBlock block → HasWork block.header → block_fault old block.header ≡ None → MeetsBlockRules block → IsHistoric old → IsHistoric (joined old block).1
historic_joined old block sound work none rules is = historic_block old (joined old block).1 block (joined old block).0 sound is (meets_rules work none rules refl)

-- what has become of a block
pub historic_after : (old new : Tree) (block : Block) (answer : Result Change Fault) → IsHistoric (joined old block).1 → (answer, new) ≡ joined old block → IsHistoric new
historic_after old new block answer is e = subst IsHistoric (sym (ap (λ (p : Result Change Fault × Tree). p.1) e)) is

-- the same, where memory may have been wanting
pub historic_either : (old new : Tree) (block : Block) (fault : Fault) → IsHistoric old → IsHistoric (joined old block).1 → ((fault ≡ Memory) × (new ≡ old)) ⊎ ((Err fault, new) ≡ joined old block) → IsHistoric new
historic_either old new block fault before is (inl w) = subst IsHistoric (sym w.1) before
historic_either old new block fault before is (inr e) = historic_after old new block (Err fault) is e

-- ---- the list itself

-- a header is refused
pub history_header : (old : Tree) (header : Header) (result : Result Unit Fault) (fault : Fault) → result ≡ Err fault → AcceptsHeader old header (Some fault) old
    → (calls : List Call) → IsHistory calls old
    → MatchResult result (λ _. IsHistory (HeaderCall header ∷ calls) old) (λ e. ((e ≡ Memory) × IsHistory calls old) ⊎ IsHistory (HeaderCall header ∷ calls) old)
history_header old header result fault is told calls past = rw is (inr (old, past, (Some fault, told)))

-- a block is refused
pub history_block : (old : Tree) (block : Block) (result : Result Change Fault) (fault : Fault) → result ≡ Err fault → IsSoundBlock block → AcceptsBlock old block (Err fault) old
    → (calls : List Call) → IsHistory calls old
    → MatchResult result (λ _. IsHistory (BlockCall block ∷ calls) old) (λ e. ((e ≡ Memory) × IsHistory calls old) ⊎ IsHistory (BlockCall block ∷ calls) old)
history_block old block result fault is sound told calls past = rw is (inr (old, past, (sound, Err fault, told)))

-- a block joins
pub history_joined : (old new : Tree) (block : Block) (result : Result Change Fault) → IsSoundBlock block → HasWork block.header → block_fault old block.header ≡ None → MeetsBlockRules block
    → IfOk result (λ change. (Ok change, new) ≡ joined old block) → IfErr result (λ fault. ((fault ≡ Memory) × (new ≡ old)) ⊎ ((Err fault, new) ≡ joined old block))
    → (calls : List Call) → IsHistory calls old
    → MatchResult result (λ _. IsHistory (BlockCall block ∷ calls) new) (λ fault. ((fault ≡ Memory) × IsHistory calls new) ⊎ IsHistory (BlockCall block ∷ calls) new)
history_joined old new block (Ok change) sound work none rules ok err calls past = (old, past, (sound, Ok change, meets_rules work none rules ok))
history_joined old new block (Err fault) sound work none rules ok (inl w) calls past = inl (w.0, subst (IsHistory calls) (sym w.1) past)
history_joined old new block (Err fault) sound work none rules ok (inr e) calls past = inr (old, past, (sound, Err fault, meets_rules work none rules e))
