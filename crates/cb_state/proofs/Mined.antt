-- The header with the least nonce, and the block under it.
use Rattle.std.proofs.Common.{◌≡◌, ℕ, ◌+◌, List, [], ◌∷◌, ◌++◌, take, Some, refl, sym, ap, subst, ◌∙◌, ◌⊎◌, inl, inr}
use Rattle.std.specs.Prelude.{pos, slice_get, IfErr, IfOk, Result, Ok, Err}
use Rattle.std.proofs.lemmas.List.{map-append}
use Rattle.cb_base.specs.declared.hash.Hash256.{Hash256}
use Rattle.cb_base.specs.DoubleHash.{double_hash}
use Rattle.cb_block.specs.declared.tx.Tx.{Tx}
use Rattle.cb_block.specs.TxText.{tx_text}
use Rattle.cb_block.specs.declared.header.Header.{Header}
use Rattle.cb_block.specs.Blocks.{texts}
use Rattle.cb_block.specs.Soundness.{names}
use Rattle.cb_block.specs.MerkleTree.{IsMutated, IsRoot}
use Rattle.cb_block.specs.declared.block.Block.{Block}
use Rattle.cb_chain.specs.Best.{best}
use Rattle.cb_chain.specs.Entries.{Tree}
use Rattle.cb_pool.specs.Listing.{txs_of}
use Rattle.cb_base.specs.declared.fault.Fault.{Fault}
use Rattle.cb_base.specs.declared.fault.Fault.TheVariants.{BadWork, Memory, Mutated}
use Rattle.cb_state.specs.Mining.{AreMined, CannotMine, HasLeastNonce, HasNoNonce, IsHeaderOver, IsMined, IsMostFitting, coinbase_of, next_height, with_nonce}
use Rattle.cb_state.specs.State.{RelayState}
use Rattle.cb_state.proofs.Fits.{take_next}

-- one transaction more, and its name
pub names_next : (coinbase : Tx) (waiting : List Tx) (count : ℕ) (tx : Tx) (txids : List Hash256) (txid : Hash256) → slice_get waiting count ≡ Some tx
    → txids ≡ names (texts (coinbase ∷ take count waiting)) → txid ≡ double_hash (tx_text tx) → txids ++ txid ∷ [] ≡ names (texts (coinbase ∷ take (count + 1) waiting))
names_next coinbase waiting count tx txids txid e is named =
    let txs = coinbase ∷ take count waiting in
    ap (λ (l : List Hash256). l ++ txid ∷ []) is
    ∙ ap (λ (h : Hash256). names (texts txs) ++ h ∷ []) named
    ∙ sym (ap names (map-append tx_text txs (tx ∷ [])) ∙ map-append double_hash (texts txs) (tx_text tx ∷ []))
    ∙ ap (λ (l : List Tx). names (texts (coinbase ∷ l))) (sym (take_next waiting count tx e))

-- ---- the block and its header

pub are_mined : (state : RelayState) (mark height count : ℕ) (coinbase other : Tx) → coinbase ≡ coinbase_of height mark → height ≡ next_height state.tree → other ≡ coinbase
    → IsMostFitting other (txs_of state.pool.list) count → AreMined state mark (coinbase ∷ take count (txs_of state.pool.list))
are_mined state mark height count coinbase other made at same most =
    let waiting = txs_of state.pool.list in
    let is : coinbase ≡ coinbase_of (next_height state.tree) mark = made ∙ ap (λ (h : ℕ). coinbase_of h mark) at in
    (count, subst (λ (tx : Tx). IsMostFitting tx waiting count) (same ∙ is) most, ap (λ (tx : Tx). tx ∷ take count waiting) is)

pub header_over : (tree : Tree) (txs : List Tx) (prev root : Hash256) (height : ℕ) (txids : List Hash256) → prev ≡ best tree → height ≡ next_height tree → txids ≡ names (texts txs) → IsRoot txids root
    → IsHeaderOver tree txs (record { version = pos 1; prev = prev; root = root; time = 1296688602 + height; bits = 545259519; nonce = 0 })
header_over tree txs prev root height txids on at named is = record {
  version = refl;
  prev = on;
  root = subst (λ (l : List Hash256). IsRoot l root) named is;
  time = ap (λ (h : ℕ). 1296688602 + h) at;
  bits = refl;
}

pub over_worked : (tree : Tree) (txs : List Tx) (header worked : Header) (nonce : ℕ) → worked ≡ with_nonce header nonce → IsHeaderOver tree txs header → IsHeaderOver tree txs worked
over_worked tree txs header worked nonce is over =
    subst (IsHeaderOver tree txs) (sym is) (record { version = over.version; prev = over.prev; root = over.root; time = over.time; bits = over.bits })

-- no nonce meets the target
pub no_nonce : {T : Type 0} (state : RelayState) (mark : ℕ) (txs : List Tx) (header : Header) (result : Result T Fault) (fault : Fault) → result ≡ Err fault → fault ≡ BadWork
    → AreMined state mark txs → IsHeaderOver state.tree txs header → HasNoNonce header → IfErr result (λ fault. (fault ≡ Memory) ⊎ CannotMine state mark fault)
no_nonce state mark txs header result fault is bad are over none = rw is (inr (subst (CannotMine state mark) (sym bad) (txs, header, are, over, none)))

pub is_mined : (state : RelayState) (mark : ℕ) (txs given : List Tx) (header : Header) (result : Result Block Fault) → given ≡ txs → AreMined state mark txs → IsHeaderOver state.tree txs header → HasLeastNonce header
    → IfOk result (λ block. block ≡ record { header = header; txs = given }) → IfOk result (λ block. IsMined state mark block)
is_mined state mark txs given header (Ok block) same are over least is =
    subst (IsMined state mark) (sym (is ∙ ap (λ (l : List Tx). record { header = header; txs = l }) same)) (record { txs = are; header = over; nonce = least })
is_mined state mark txs given header (Err fault) same are over least is = is

pub is_mutated : (state : RelayState) (mark : ℕ) (txs given : List Tx) (result : Result Block Fault) → given ≡ txs → AreMined state mark txs
    → IfErr result (λ fault. (fault ≡ Memory) ⊎ ((fault ≡ Mutated) × IsMutated (names (texts given)))) → IfErr result (λ fault. (fault ≡ Memory) ⊎ CannotMine state mark fault)
is_mutated state mark txs given (Ok block) same are is = is
is_mutated state mark txs given (Err fault) same are (inl memory) = inl memory
is_mutated state mark txs given (Err fault) same are (inr is) =
    inr (subst (CannotMine state mark) (sym is.0) (txs, are, subst (λ (l : List Tx). IsMutated (names (texts l))) same is.1))
