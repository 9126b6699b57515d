-- What a transaction, a block and headers leave.
use Rattle.std.proofs.Common.{◌≡◌, ◌∙◌, ◌⊎◌, ◌-◌, Bool, true, false, List, [], ◌∷◌, Option, None, Some, map, length, refl, sym, ap, subst, arith, inl, inr}
use Rattle.std.specs.Prelude.{◌≢◌, nat_eq, filter, filter_map, option_map, slice_get, reverse, Result, Ok, Err, IfErr, IfOk, IfSome, IsOk, MatchOption, OnErr}
use Rattle.std.proofs.lemmas.Bool.{eqb-true, false≢true}
use Rattle.std.proofs.lemmas.List.{reverse-reverse}
use Rattle.cb_base.specs.declared.fault.Fault.{Fault}
use Rattle.cb_base.specs.declared.fault.Fault.TheVariants.{BadWork, Known, Memory, NoInput, NoParent, Overspent, PoolFull, Remade}
use Rattle.cb_base.specs.declared.hash.Hash256.{Hash256}
use Rattle.cb_block.specs.declared.block.Block.{Block}
use Rattle.cb_block.specs.declared.header.Header.{Header}
use Rattle.cb_block.specs.declared.tx.Tx.{Tx}
use Rattle.cb_ledger.specs.Spend.{spend}
use Rattle.cb_ledger.specs.Unspent.{Unspent}
use Rattle.cb_chain.specs.declared.change.Change.{Change}
use Rattle.cb_chain.specs.Calls.{AcceptsBlock}
use Rattle.cb_chain.specs.Entries.{Tree, block_hash, is_lacking}
use Rattle.cb_chain.specs.Following.{headers_above}
use Rattle.cb_chain.specs.Headers.{TakesHeaders}
use Rattle.cb_chain.specs.Laws as laws
use Rattle.cb_chain.specs.Laws.{MayLead}
use Rattle.cb_chain.specs.Locator.{locator_heights, locator_of}
use Rattle.cb_pool.specs.Folding.{Refolds}
use Rattle.cb_pool.specs.Listing.{Listing, txs_of, with_last}
use Rattle.cb_pool.specs.Rules.{Applies, Refuses, RefusesAlone}
use Rattle.cb_state.specs.declared.connection.Connection.{Connection}
use Rattle.cb_state.specs.declared.accepting.Heads.{Heads}
use Rattle.cb_state.specs.declared.accepting.Outlook.{Outlook}
use Rattle.cb_state.specs.declared.accepting.Outlook.TheVariants.{Folds, Stays, Thins}
use Rattle.cb_state.specs.declared.accepting.Taken.{Taken}
use Rattle.cb_state.specs.Accepting.{Follows, JudgesTx, JudgesTxOver, MayLackMemory, TakesBlock, TakesHeads, TakesTx, TakesTxOver, announcers_after, became_tip, has_some, locator_for, txs_above, txs_in, txs_put_off}
use Rattle.cb_state.specs.Judging.{RefusesHeading}
use Rattle.cb_state.specs.Outlooks.{IsOutlookOn, IsReady, first_of}
use Rattle.cb_state.specs.State.{RelayState, IsUnspent, WaitOn}
use Rattle.cb_state.proofs.Growing.{grown_on}

-- A refusal is an error only for want of memory. What holds for want of memory then holds.
pub refused_whole : (told : Result Taken Fault) (fault : Fault) {Whole : Type 0} → IfErr told (λ error. (error ≡ Memory) × (fault ≡ Memory)) → (fault ≡ Memory → Whole) → OnErr told Whole
refused_whole (Ok taken) fault lacks whole = tt
refused_whole (Err error) fault lacks whole = whole lacks.1

-- a locator is told of the active chain alone
pub locator_stays : (old new : Tree) → laws.Stays old new → locator_of old ≡ locator_of new
locator_stays old new stays =
    ap (λ (headers : List Header). filter_map (λ height. option_map block_hash (slice_get headers height)) (locator_heights (length headers - 1))) (sym stays.0)

-- ---- a transaction

pub tx_refused : (old : RelayState) (tx : Tx) (pool : Listing) (fault : Fault) (u : Unspent) (told : Result (Option Fault) Fault)
    → IsUnspent old.tree u → ((fault ≡ Memory) ⊎ Refuses u (txs_of old.pool.list) tx fault) → pool ≡ old.pool
    → IfOk told (λ refused. (refused ≡ Some fault) × (fault ≢ Memory))
    → IfOk told (λ refused. TakesTx old tx refused (record old { pool = pool }))
tx_refused old tx pool fault u (Err error) unspent why same_pool ok = tt
tx_refused old tx pool fault u (Ok told) unspent (inl memory) same_pool ok = absurd (ok.1 memory)
tx_refused old tx pool fault u (Ok told) unspent (inr refuses) same_pool ok =
    let new : RelayState = record old { pool = pool } in
    let one : new ≡ old = ap (λ (p : Listing). record old { pool = p }) same_pool in
    (u, unspent, subst (λ (r : Option Fault). TakesTxOver u old tx r new) (sym ok.0) (refuses, one))

-- what speaks against a transaction by itself refuses it
alone_refuses : (u : Unspent) (taken : List Tx) (tx : Tx) (fault : Fault) → RefusesAlone tx fault → Refuses u taken tx fault
alone_refuses u taken tx Known h = absurd h
alone_refuses u taken tx NoInput h = absurd h
alone_refuses u taken tx Overspent h = absurd h
alone_refuses u taken tx Remade h = absurd h
alone_refuses u taken tx PoolFull h = absurd h
alone_refuses u taken tx other h = h

pub tx_judged : (state : RelayState) (tx candidate : Tx) (u : Unspent) (told : Option Fault) → IsUnspent state.tree u → candidate ≡ tx
    → MatchOption told (Applies u (txs_of state.pool.list) candidate) (λ fault. Refuses u (txs_of state.pool.list) candidate fault)
    → JudgesTx state tx told
tx_judged state tx candidate u None unspent same applies = (u, unspent, subst (Applies u (txs_of state.pool.list)) same applies)
tx_judged state tx candidate u (Some fault) unspent same refuses = (u, unspent, subst (λ (t : Tx). Refuses u (txs_of state.pool.list) t fault) same refuses)

pub tx_judged_alone : (state : RelayState) (tx : Tx) (fault : Fault) (u : Unspent) (told : Result (Option Fault) Fault)
    → IsUnspent state.tree u → ((fault ≡ Memory) ⊎ RefusesAlone tx fault)
    → IfOk told (λ refused. (refused ≡ Some fault) × (fault ≢ Memory))
    → IfOk told (λ refused. JudgesTx state tx refused)
tx_judged_alone state tx fault u (Err error) unspent why ok = tt
tx_judged_alone state tx fault u (Ok told) unspent (inl memory) ok = absurd (ok.1 memory)
tx_judged_alone state tx fault u (Ok told) unspent (inr alone) ok =
    (u, unspent, subst (λ (r : Option Fault). JudgesTxOver u state tx r) (sym ok.0) (alone_refuses u (txs_of state.pool.list) tx fault alone))

pub tx_taken : (old : RelayState) (tx : Tx) (pool : Listing) (u : Unspent) → IsUnspent old.tree u → Applies u (txs_of old.pool.list) tx
    → pool ≡ with_last old.pool tx → TakesTx old tx None (record old { pool = pool })
tx_taken old tx pool u unspent applies is = (u, unspent, (applies, ap (λ (p : Listing). record old { pool = p }) is))

-- ---- a block

pub nothing_on : {X : Type 0} (xs : List X) → nat_eq (length xs) 0 ≡ true → xs ≡ []
nothing_on [] e = refl
nothing_on (x ∷ xs) e = absurd (omega (arith, eqb-true (length (x ∷ xs)) 0 e))

pub something_on : (hashes : List Hash256) → nat_eq (length hashes) 0 ≡ false → hashes ≢ []
something_on [] e = absurd (false≢true (sym e))
something_on (hash ∷ hashes) e = λ none. absurd (let is : hash ∷ hashes ≡ [] = none in cc)

-- what waits can still be spent where what is unspent stays
pub waits_on : (old new : Tree) (pool : Listing) → WaitOn old pool → laws.Stays old new → WaitOn new pool
waits_on old new pool wait same_chain = λ u is. wait u (sym same_chain.1 ∙ is)

-- it can be spent over what is unspent
pub waits_over : (tree : Tree) (pool : Listing) (u : Unspent) → IsUnspent tree u → IsOk (spend u (txs_of pool.list)) → WaitOn tree pool
waits_over tree pool u is ok = λ other are.
    let one : Ok u ≡ Ok other = sym is ∙ are in
    let same_u : u ≡ other = cc in
    subst (λ (w : Unspent). IsOk (spend w (txs_of pool.list))) same_u ok

pub block_refused : (old : RelayState) (tree : Tree) (block : Block) (from : Option Connection) (fault : Fault) (locator : List Hash256) (told : Result Taken Fault)
    → (((fault ≡ Memory) × (tree ≡ old.tree)) ⊎ AcceptsBlock old.tree block (Err fault) tree) → laws.Stays old.tree tree → locator ≡ locator_of old.tree
    → IfOk told (λ taken. (taken.refused ≡ Some fault) × (taken.locator ≡ locator_for (Some fault) locator) × (fault ≢ Memory))
    → IfOk told (λ taken. TakesBlock old block from taken (record old { tree = tree }))
block_refused old tree block from fault locator (Err error) why same_chain located ok = tt
block_refused old tree block from fault locator (Ok taken) (inl memory) same_chain located ok = absurd (ok.2 memory.0)
block_refused old tree block from fault locator (Ok taken) (inr accepts) same_chain located ok = record {
  answer = Err fault;
  chain = accepts;
  pool = Follows.stays refl refl;
  announcers = refl;
  refused = ok.0;
  locator = ok.1 ∙ ap (locator_for (Some fault)) (located ∙ locator_stays old.tree tree same_chain) ∙ ap (λ (r : Option Fault). locator_for r (locator_of tree)) (sym ok.0);
}

-- the chain refuses a block by its header, and nothing changes
refused_by : (tree : Tree) (block : Block) (fault : Fault) → RefusesHeading tree block.header fault → AcceptsBlock tree block (Err fault) tree
refused_by tree block fault (RefusesHeading.without_work without is) = AcceptsBlock.without_work without (ap (λ (f : Fault). Err f) is) refl
refused_by tree block fault (RefusesHeading.with_work work against) = AcceptsBlock.refused work fault against refl refl

pub block_unheard : (old : RelayState) (block : Block) (from : Option Connection) (fault : Fault) (told : Result Taken Fault)
    → RefusesHeading old.tree block.header fault
    → IfOk told (λ taken. (taken.refused ≡ Some fault) × (taken.locator ≡ locator_for (Some fault) (locator_of old.tree)))
    → IfOk told (λ taken. TakesBlock old block from taken old)
block_unheard old block from fault (Err error) why ok = tt
block_unheard old block from fault (Ok taken) why ok = record {
  answer = Err fault;
  chain = refused_by old.tree block fault why;
  pool = Follows.stays refl refl;
  announcers = refl;
  refused = ok.0;
  locator = ok.1 ∙ ap (λ (r : Option Fault). locator_for r (locator_of old.tree)) (sym ok.0);
}

-- memory lacks for its locator alone
pub lacks_parent : (tree : Tree) (header : Header) (fault : Fault) → RefusesHeading tree header fault → fault ≡ NoParent → MayLackMemory tree header
lacks_parent tree header fault (RefusesHeading.without_work without is) missing = absurd (let other : BadWork ≡ NoParent = sym is ∙ missing in cc)
lacks_parent tree header fault (RefusesHeading.with_work work against) missing = (work, inr (against ∙ ap (λ (f : Fault). Some f) missing))

tip_not : (change : Change) → change.on ≡ [] → became_tip (Ok change) ≡ false
tip_not change none = ap has_some none

some_long : (hashes : List Hash256) → hashes ≢ [] → has_some hashes ≡ true
some_long [] some = absurd (some refl)
some_long (hash ∷ hashes) some = refl

pub block_aside : (old : RelayState) (tree : Tree) (block : Block) (from : Option Connection) (change : Change) (locator : List Hash256)
    → AcceptsBlock old.tree block (Ok change) tree → change.on ≡ [] → locator ≡ []
    → TakesBlock old block from (record { refused = None; locator = locator }) (record old { tree = tree })
block_aside old tree block from change locator accepts none untold = record {
  answer = Ok change;
  chain = accepts;
  pool = Follows.stays (tip_not change none) refl;
  announcers = ap (λ (became : Bool). announcers_after old.announcers became from) (sym (tip_not change none));
  refused = refl;
  locator = untold;
}

-- the outlook on the pool where the block becomes the tip, and none where it can't
abbrev pub IsForeseen : RelayState → Block → Option Outlook → Type 0
IsForeseen state block outlook = MatchOption outlook (¬ MayLead state.tree block.header.prev) (IsOutlookOn state block)

-- the pool went by the outlook
abbrev pub Followed : Unspent → Listing → Listing → Option Outlook → Type 0
Followed u old new outlook = MatchOption outlook (new ≡ old) (λ o. Refolds u (first_of o) old new × IsOk (spend u (txs_of new.list)))

-- what comes first is what was put off
first_is : (state : RelayState) (block : Block) (outlook : Outlook) → IsOutlookOn state block outlook → first_of outlook ≡ txs_above state.tree block.header.prev
first_is state block Stays is = sym is.above
first_is state block (Thins plan) is = sym is.above
first_is state block (Folds plan) is = is.first

pub block_leads : (old : RelayState) (tree : Tree) (pool : Listing) (announcers : List Connection) (block : Block) (from : Option Connection) (change : Change) (outlook : Option Outlook) (u : Unspent) (locator : List Hash256)
    → AcceptsBlock old.tree block (Ok change) tree → change.on ≢ []
    → (change.on ≢ [] → MayLead old.tree block.header.prev × (change.off ≡ reverse (map block_hash (headers_above old.tree block.header.prev))))
    → IsForeseen old block outlook → IsUnspent tree u → Followed u old.pool pool outlook → announcers ≡ announcers_after old.announcers true from → locator ≡ []
    → TakesBlock old block from (record { refused = None; locator = locator }) (record { tree = tree; pool = pool; announcers = announcers })
block_leads old tree pool announcers block from change None u locator accepts some leads foreseen unspent followed thanked untold = absurd (foreseen (leads some).0)
block_leads old tree pool announcers block from change (Some outlook) u locator accepts some leads foreseen unspent followed thanked untold =
    let hashes = map block_hash (headers_above old.tree block.header.prev) in
    let tip : became_tip (Ok change) ≡ true = some_long change.on some in
    let first : first_of outlook ≡ txs_put_off old.tree change.off = first_is old block outlook foreseen ∙ ap (txs_in old.tree) (sym (reverse-reverse hashes)) ∙ ap (txs_put_off old.tree) (sym (leads some).1) in
    record {
      answer = Ok change;
      chain = accepts;
      pool = Follows.folds change refl tip u unspent (subst (λ (txs : List Tx). Refolds u txs old.pool pool) first followed.0);
      announcers = thanked ∙ ap (λ (became : Bool). announcers_after old.announcers became from) (sym tip);
      refused = refl;
      locator = untold;
    }

pub leads_waits : (old : RelayState) (tree : Tree) (pool : Listing) (block : Block) (outlook : Option Outlook) (u : Unspent)
    → MayLead old.tree block.header.prev → IsForeseen old block outlook → IsUnspent tree u → Followed u old.pool pool outlook → WaitOn tree pool
leads_waits old tree pool block None u leads foreseen unspent followed = absurd (foreseen leads)
leads_waits old tree pool block (Some outlook) u leads foreseen unspent followed = waits_over tree pool u unspent followed.1

-- the pool is ready for what was foreseen, once the chain has taken the block
pub ready_for : (old : RelayState) (tree : Tree) (block : Block) (change : Change) (outlook : Option Outlook) (u : Unspent)
    → AcceptsBlock old.tree block (Ok change) tree → change.on ≢ [] → IsForeseen old block outlook → IsUnspent tree u → IfSome outlook (IsReady u old.pool.list)
ready_for old tree block change None u accepts some foreseen unspent = tt
ready_for old tree block change (Some Stays) u accepts some foreseen unspent =
    foreseen.wait u (grown_on old.tree tree block change foreseen.unspent u accepts some foreseen.on foreseen.behind_tip unspent)
ready_for old tree block change (Some (Thins plan)) u accepts some foreseen unspent =
    foreseen.thins u (grown_on old.tree tree block change foreseen.unspent u accepts some foreseen.on foreseen.behind_tip unspent)
ready_for old tree block change (Some (Folds plan)) u accepts some foreseen unspent = foreseen.room

-- what was foreseen of the whole state
pub foreseen_for : (whole old : RelayState) (block : Block) (outlook : Option Outlook) → old ≡ whole → IsForeseen whole block outlook → IsForeseen old block outlook
foreseen_for whole old block outlook same foreseen = subst (λ (state : RelayState). IsForeseen state block outlook) (sym same) foreseen

-- ---- headers

-- the locator was read before the chain changed
pub heads_taken : (old : RelayState) (tree : Tree) (headers : List Header) (heads : Heads) (met locator : List Hash256) → TakesHeaders old.tree headers heads.refused met tree → laws.Stays old.tree tree
    → locator ≡ locator_of old.tree → heads.lack ≡ filter (is_lacking tree) met → heads.locator ≡ locator_for heads.refused locator → TakesHeads old headers heads (record old { tree = tree })
heads_taken old tree headers heads met locator takes stays read lack told =
    record {
      met = met;
      chain = takes;
      pool = refl;
      announcers = refl;
      lack = lack;
      locator = told ∙ ap (locator_for heads.refused) (read ∙ locator_stays old.tree tree stays);
    }
