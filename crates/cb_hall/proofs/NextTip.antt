-- What becomes of a mined block: each fault but four is excluded by what holds of the state that mined it.
use Rattle.std.proofs.Common.{◌≡◌, ℕ, ◌≤◌, suc, Bool, true, false, cond, List, ◌∷◌, length, take, drop, Option, Some, None, refl, sym, ap, subst, ◌∙◌, ◌⊎◌, inl, inr, arith}
use Rattle.std.specs.Prelude.{not, nat_lt, reverse, option_map, unwrap_or, slice_get, All, IsErr, IsOk, Result, Ok, Err}
use Rattle.std.proofs.lemmas.Bool.{false≢true, lt-ltb, ltb-true}
use Rattle.std.proofs.lemmas.List.{take-append-drop}
use Rattle.std.proofs.lemmas.Option.{slice_get_within, get_or_from_slice_get}
use Rattle.cb_base.specs.declared.fault.Fault.{Fault}
use Rattle.cb_base.specs.declared.fault.Fault.TheVariants.{BadCoinbase, BadParent, BadTx, Known, NoParent, Oversize, Remade, TooMany}
use Rattle.cb_base.specs.declared.hash.Hash256.{Hash256}
use Rattle.cb_block.specs.declared.tx.Tx.{Tx}
use Rattle.cb_block.specs.TxRules.{MeetsRules}
use Rattle.cb_block.specs.declared.block.Block.{Block}
use Rattle.cb_block.specs.declared.header.Header.{Header}
use Rattle.cb_block.specs.Blocks.{HasOneCoinbase, IsRefused, MeetsBlockRules}
use Rattle.cb_block.specs.BlockText.{header_text}
use Rattle.cb_ledger.specs.Spend.{spend}
use Rattle.cb_ledger.specs.Unspent.{Unspent}
use Rattle.cb_ledger.proofs.Txs.{true-is_coinbase}
use Rattle.cb_chain.specs.declared.change.Change.{Change}
use Rattle.cb_chain.specs.Best.{Stop, best, branch, is_higher, stopped_at, unspent_after}
use Rattle.cb_chain.specs.Calls.{AcceptsBlock, block_entry, block_fault, change_of, is_full_under, joined, marked_above}
use Rattle.cb_chain.specs.Entries.{Tree, block_hash, height_of, is_kept, is_marked}
use Rattle.cb_chain.specs.History.{IsHistoric}
use Rattle.cb_chain.specs.Laws.{height_in}
use Rattle.cb_chain.proofs.LawLemmas.{tip_kept}
use Rattle.cb_chain.proofs.NewTip.{best_new, branch_new, height_new, height_other, joined_err, joined_ok}
use Rattle.cb_chain.proofs.BlockIndexes.{reverse_cons, same-refl}
use Rattle.cb_chain.proofs.Reached.{marked_err, planted_after}
use Rattle.cb_chain.proofs.SideBranchIndexes.{block_free, kept_other}
use Rattle.cb_pool.specs.Listing.{txs_of}
use Rattle.cb_pool.proofs.Spent.{ok_at}
use Rattle.cb_state.specs.declared.connection.Connection.{Connection}
use Rattle.cb_state.specs.declared.accepting.Taken.{Taken}
use Rattle.cb_state.specs.Accepting.{TakesBlock, refused_for}
use Rattle.cb_state.specs.Mining.{IsMined, coinbase_of, next_height, subsidy}
use Rattle.cb_state.specs.State.{IsUnspent, RelayState, WaitOn}
use Rattle.cb_state.proofs.Growing.{spent_on}
use Rattle.cb_state.proofs.TipHeight.{tip_low}
use Rattle.cb_hall.specs.MinedBlock.{FaresAsMined, IsMadeAgain, IsNextTip}
use Rattle.cb_hall.proofs.Extending.{behind_coinbase, spends_front}
use Rattle.cb_hall.proofs.Namesakes.{namesake}

-- ---- the block's own rules

meets_at : (txs : List Tx) (k : ℕ) (tx : Tx) → slice_get txs k ≡ Some tx → All MeetsRules txs → MeetsRules tx
meets_at txs k tx at all = subst MeetsRules (get_or_from_slice_get txs k tx tx at) (all k tx (slice_get_within txs k tx at))

refused_meets : (block : Block) (fault : Fault) → IsRefused block fault → MeetsBlockRules block → ⊥
refused_meets block Oversize is meets = omega (arith, is, meets.size)
refused_meets block BadCoinbase is meets = is.1 meets.coinbase
refused_meets block (BadTx rule) is meets =
    let broken = is.2 in
    meets_at block.txs broken.0 broken.1 broken.2 meets.txs rule broken.3.broken
refused_meets block _ is meets = absurd is

-- ---- what speaks against a header before them

first_told : (b : Bool) (x fault : Fault) (others : Option Fault) → cond b (Some x) others ≡ Some fault → ((b ≡ true) × (fault ≡ x)) ⊎ ((b ≡ false) × (others ≡ Some fault))
first_told true x fault others e = inl (refl, let one : fault ≡ x = cc in one)
first_told false x fault others e = inr (refl, e)

not_true : (b : Bool) → not b ≡ true → b ≡ false
not_true true e = absurd (false≢true e)
not_true false e = refl

data Against (tree : Tree) (header : Header) (fault : Fault) : Type 0 where
  marked : fault ≡ BadParent → is_marked tree (block_hash header) ≡ true → Against tree header fault
  kept : fault ≡ Known → is_marked tree (block_hash header) ≡ false → is_kept tree (block_hash header) ≡ true → Against tree header fault
  bad_parent : is_marked tree header.prev ≡ true → Against tree header fault
  no_parent : is_kept tree header.prev ≡ false → Against tree header fault
  full : fault ≡ TooMany → is_full_under tree header.prev ≡ true → Against tree header fault

against : (tree : Tree) (header : Header) (fault : Fault) → block_fault tree header ≡ Some fault → Against tree header fault
against tree header fault e =
    let hash = block_hash header in
    let prev = header.prev in
    let room = cond (is_full_under tree prev) (Some TooMany) None in
    let lacking = cond (not (is_kept tree prev)) (Some NoParent) room in
    let under = cond (is_marked tree prev) (Some BadParent) lacking in
    elim (first_told (is_marked tree hash) BadParent fault (cond (is_kept tree hash) (Some Known) under) e) [
      | inl is ↦ marked is.1 is.0
      | inr clean ↦
          elim (first_told (is_kept tree hash) Known fault under clean.1) [
            | inl is ↦ kept is.1 clean.0 is.0
            | inr fresh ↦
                elim (first_told (is_marked tree prev) BadParent fault lacking fresh.1) [
                  | inl is ↦ bad_parent is.0
                  | inr sound ↦
                      elim (first_told (not (is_kept tree prev)) NoParent fault room sound.1) [
                        | inl is ↦ no_parent (not_true (is_kept tree prev) is.0)
                        | inr there ↦
                            elim (first_told (is_full_under tree prev) TooMany fault None there.1) [
                              | inl is ↦ full is.1 is.0
                              | inr none ↦ absurd (let nothing : None ≡ Some fault = none.1 in cc)
                            ]
                      ]
                ]
          ]
    ]

-- ---- a block on the tip

-- what is known of the tree and the tip
pub record IsTipOf (tree : Tree) (height : ℕ) (u : Unspent) : Type 0 where
  pub historic : IsHistoric tree
  pub tall : height_of tree (best tree) ≡ Some height
  pub unspent : unspent_after tree (best tree) ≡ Ok u

level_of : (tree : Tree) (height : ℕ) (u : Unspent) → IsTipOf tree height u → height_in tree (best tree) ≡ height
level_of tree height u is = ap (λ (h : Option ℕ). unwrap_or h 0) is.tall

kept_tip : (tree : Tree) (height : ℕ) (u : Unspent) → IsTipOf tree height u → is_kept tree (best tree) ≡ true
kept_tip tree height u is = tip_kept tree (planted_after tree is.historic)

-- the tip isn't marked
clean_tip : (tree : Tree) (height : ℕ) (u : Unspent) → IsTipOf tree height u → is_marked tree (best tree) ≡ true → ⊥
clean_tip tree height u is bad = go (unspent_after tree (best tree)) is.unspent (marked_err tree (best tree) is.historic bad) where
  go : (r : Result Unspent Stop) → r ≡ Ok u → IsErr r → ⊥
  go (Ok w) e err = false≢true err
  go (Err stop) e err = absurd (let none : Err stop ≡ Ok u = e in cc)

full_at : (height : ℕ) → nat_lt 1000000000 (suc height) ≡ true → height ≤ 1000000000 → height ≡ 1000000000
full_at height e low = let above = ltb-true 1000000000 (suc height) e in omega (arith, above, low)

-- where the tip has no room above it, it has the most height
full_tip : (tree : Tree) (height : ℕ) (u : Unspent) → IsTipOf tree height u → is_full_under tree (best tree) ≡ true → height_in tree (best tree) ≡ 1000000000
full_tip tree height u is most =
    let test : nat_lt 1000000000 (suc height) ≡ true = sym (ap (λ (h : Option ℕ). nat_lt 1000000000 (suc (unwrap_or h 0))) is.tall) ∙ most in
    level_of tree height u is ∙ full_at height test (tip_low tree height is.historic is.tall)

module _ (old : Tree) (block : Block) (height : ℕ) (u : Unspent) (is : IsTipOf old height u) (on : block.header.prev ≡ best old) (fresh : is_kept old (block_hash block.header) ≡ false) where
  abbrev grown : Tree
  grown = block_entry block ∷ old

  abbrev hash : Hash256
  hash = block_hash block.header

  tall_new : height_of grown hash ≡ Some (suc height)
  tall_new = height_new (block_entry block) old ∙ ap (λ (h : Hash256). option_map suc (height_of old h)) on ∙ ap (option_map suc) is.tall

  tall_old : height_of grown (best old) ≡ Some height
  tall_old = height_other (block_entry block) old (best old) (kept_other old (best old) hash (kept_tip old height u is) fresh) ∙ is.tall

  higher : is_higher grown hash (best old) ≡ true
  higher = rw (tall_new, tall_old) (lt-ltb height (suc height) (omega arith))

  spent : unspent_after grown hash ≡ stopped_at hash (spend u block.txs)
  spent = spent_on old block u on is.unspent

  next_tip : (w : Unspent) → spend u block.txs ≡ Ok w → IsNextTip old block grown
  next_tip w e =
      let tip : best grown ≡ hash = best_new (block_entry block) old w (spent ∙ ap (stopped_at hash) e) higher in
      let header = block.header in
      let path : branch grown (best grown) ≡ header ∷ branch old (best old) = ap (branch grown) tip ∙ branch_new (block_entry block) old ∙ ap (λ (h : Hash256). header ∷ branch old h) on in
      let above : height_in grown (best grown) ≡ suc height = ap (height_in grown) tip ∙ ap (λ (h : Option ℕ). unwrap_or h 0) tall_new in
      record {
        tip = tip;
        kept = rw (same-refl hash) refl;
        chain = ap reverse path ∙ reverse_cons (branch old (best old)) header;
        height = omega (arith, above, level_of old height u is);
      }

  joins : (w : Unspent) → spend u block.txs ≡ Ok w → joined old block ≡ (Ok (change_of old grown), grown)
  joins w e = joined_ok old block w higher (spent ∙ ap (stopped_at hash) e)

  stops : spend u block.txs ≡ Err Remade → joined old block ≡ (Err Remade, marked_above hash grown)
  stops e = joined_err old block hash Remade higher (spent ∙ ap (stopped_at hash) e)

-- ---- what it spends

spends : (state : RelayState) (mark : ℕ) (block : Block) (u : Unspent) → IsUnspent state.tree u → WaitOn state.tree state.pool → MeetsBlockRules block → IsMined state mark block
    → IsOk (spend u block.txs) ⊎ ((spend u block.txs ≡ Err Remade) × IsMadeAgain u block.txs)
spends state mark block u unspent wait rules is =
    let height = next_height state.tree in
    let coinbase = coinbase_of height mark in
    let waiting = txs_of state.pool.list in
    let count = is.txs.0 in
    let others = take count waiting in
    let txs : block.txs ≡ coinbase ∷ others = is.txs.2 in
    let one : HasOneCoinbase (coinbase ∷ others) = subst HasOneCoinbase txs rules.coinbase in
    let all = ok_at (spend u waiting) (wait u unspent) in
    let front = spends_front u all.0 others (drop count waiting) (ap (spend u) (take-append-drop count waiting) ∙ all.1) in
    subst (λ (l : List Tx). IsOk (spend u l) ⊎ ((spend u l ≡ Err Remade) × IsMadeAgain u l)) (sym txs)
    (behind_coinbase u front.0 coinbase subsidy others (true-is_coinbase coinbase.inputs (refl, refl)) refl one.1 front.1)

-- ---- what becomes of it

-- what a node knows of a block that it mined
pub record Knows (state : RelayState) (mark : ℕ) (block : Block) (height : ℕ) (u : Unspent) : Type 0 where
  pub mined : IsMined state mark block
  pub tip : IsTipOf state.tree height u
  pub wait : WaitOn state.tree state.pool
  pub rules : MeetsBlockRules block
  pub long : length (header_text block.header) ≡ 80

fares_refused : (state new : RelayState) (mark : ℕ) (block : Block) (height : ℕ) (u : Unspent) (taken : Taken) (fault : Fault) → Knows state mark block height u → taken.refused ≡ Some fault
    → Against state.tree block.header fault → FaresAsMined state block taken new
fares_refused state new mark block height u taken fault k told (marked is bad) = FaresAsMined.was_marked (told ∙ ap Some is) bad
fares_refused state new mark block height u taken fault k told (kept is clean there) =
    let header = k.mined.header in
    FaresAsMined.has_namesake (told ∙ ap Some is)
    (namesake state.tree block.header height k.tip.historic header.prev header.time k.long k.tip.tall (tip_low state.tree height k.tip.historic k.tip.tall) there clean)
fares_refused state new mark block height u taken fault k told (bad_parent bad) =
    absurd (clean_tip state.tree height u k.tip (ap (is_marked state.tree) (sym k.mined.header.prev) ∙ bad))
fares_refused state new mark block height u taken fault k told (no_parent lacks) =
    absurd (false≢true (sym lacks ∙ ap (is_kept state.tree) k.mined.header.prev ∙ kept_tip state.tree height u k.tip))
fares_refused state new mark block height u taken fault k told (full is most) =
    FaresAsMined.tip_is_full (told ∙ ap Some is) (full_tip state.tree height u k.tip (ap (is_full_under state.tree) (sym k.mined.header.prev) ∙ most))

fares_joined : (state new : RelayState) (mark : ℕ) (block : Block) (height : ℕ) (u : Unspent) (taken : Taken) (answer : Result Change Fault) → Knows state mark block height u → taken.refused ≡ refused_for answer
    → block_fault state.tree block.header ≡ None → (answer, new.tree) ≡ joined state.tree block → FaresAsMined state block taken new
fares_joined state new mark block height u taken answer k told none e =
    let old = state.tree in
    let on = k.mined.header.prev in
    let fresh = (block_free old block.header none).once in
    elim (spends state mark block u k.tip.unspent k.wait k.rules k.mined) [
      | inl ok ↦
          let w = ok_at (spend u block.txs) ok in
          let both = e ∙ joins old block height u k.tip on fresh w.0 w.1 in
          let answer_is = ap (λ (p : Result Change Fault × Tree). refused_for p.0) both in
          let tree_is = ap (λ (p : Result Change Fault × Tree). p.1) both in
          FaresAsMined.is_next_tip (told ∙ answer_is) (subst (IsNextTip old block) (sym tree_is) (next_tip old block height u k.tip on fresh w.0 w.1))
      | inr bad ↦
          let both = e ∙ stops old block height u k.tip on fresh bad.0 in
          let answer_is = ap (λ (p : Result Change Fault × Tree). refused_for p.0) both in
          FaresAsMined.makes_again (told ∙ answer_is) (record { unspent = u; behind_tip = k.tip.unspent; fault = bad.0; again = bad.1 })
    ]

fares_by : (state new : RelayState) (mark : ℕ) (block : Block) (height : ℕ) (u : Unspent) (taken : Taken) (answer : Result Change Fault) → Knows state mark block height u → taken.refused ≡ refused_for answer
    → AcceptsBlock state.tree block answer new.tree → FaresAsMined state block taken new
fares_by state new mark block height u taken answer k told (AcceptsBlock.without_work lacks _ _) = absurd (lacks k.mined.nonce.work)
fares_by state new mark block height u taken answer k told (AcceptsBlock.refused _ fault is answered _) =
    fares_refused state new mark block height u taken fault k (told ∙ ap refused_for answered) (against state.tree block.header fault is)
fares_by state new mark block height u taken answer k told (AcceptsBlock.breaks_rule _ _ fault breaks _ _) = absurd (refused_meets block fault breaks k.rules)
fares_by state new mark block height u taken answer k told (AcceptsBlock.meets_rules _ none _ e) = fares_joined state new mark block height u taken answer k told none e

pub fares : (state new : RelayState) (mark : ℕ) (block : Block) (height : ℕ) (u : Unspent) (from : Option Connection) (taken : Taken) → Knows state mark block height u → TakesBlock state block from taken new
    → FaresAsMined state block taken new
fares state new mark block height u from taken k takes = fares_by state new mark block height u taken takes.answer k takes.refused takes.chain
