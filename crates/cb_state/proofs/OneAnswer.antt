-- To a transaction, a block and headers over a state there is one answer, and they leave one state.
use Rattle.std.proofs.Common.{◌≡◌, ◌∙◌, ℕ, ◌≤◌, true, false, List, [], ◌∷◌, ◌++◌, cond, eqb, Option, None, Some, filter, length, refl, sym, ap, subst, arith, inl, inr}
use Rattle.std.specs.Prelude.{Result, Ok, Err, IsOk}
use Rattle.std.proofs.lemmas.Bool.{cases_lt, false≢true}
use Rattle.cb_base.specs.Fault.{rule_number}
use Rattle.cb_base.specs.declared.fault.Fault.{Fault}
use Rattle.cb_base.specs.declared.fault.Fault.TheVariants.{BadCoinbase, BadTx, Known, NoInput, Overspent, PoolFull, Remade, Size64}
use Rattle.cb_base.specs.declared.fault.TxRule.{TxRule}
use Rattle.cb_base.specs.declared.fault.TxRule.TheVariants.{NoInputs, NoOutputs, TooLong, BadValue, BadSum, RepeatedInput, BadCoinbaseScript, NullInput}
use Rattle.cb_block.specs.declared.block.Block.{Block}
use Rattle.cb_block.specs.declared.header.Header.{Header}
use Rattle.cb_block.specs.declared.tx.Tx.{Tx}
use Rattle.cb_block.specs.TxRules.{IsLeastBroken}
use Rattle.cb_ledger.specs.Spend.{spend}
use Rattle.cb_ledger.specs.Unspent.{Unspent}
use Rattle.cb_chain.specs.declared.change.Change.{Change}
use Rattle.cb_chain.specs.Entries.{Tree, is_lacking}
use Rattle.cb_chain.specs.Locator.{locator_of}
use Rattle.cb_chain.proofs.Once.{one_block, one_heading}
use Rattle.cb_pool.specs.Folding.{Refolds}
use Rattle.cb_pool.specs.Listing.{txs_of}
use Rattle.cb_pool.specs.Rules.{Applies, Refuses, RefusesAlone, StandsAlone, is_named_in}
use Rattle.cb_block.specs.Txid.{txid_of}
use Rattle.cb_pool.proofs.LawLemmas.{one_refold}
use Rattle.cb_state.specs.declared.connection.Connection.{Connection}
use Rattle.cb_state.specs.declared.accepting.Heads.{Heads}
use Rattle.cb_state.specs.declared.accepting.Taken.{Taken}
use Rattle.cb_state.specs.Accepting.{Follows, TakesBlock, TakesHeads, TakesTx, TakesTxOver, announcers_after, became_tip, locator_for, refused_for, txs_put_off}
use Rattle.cb_state.specs.State.{RelayState, IsUnspent}

-- ---- records by their fields

same_state : (a b : RelayState) → a.tree ≡ b.tree → a.pool ≡ b.pool → a.announcers ≡ b.announcers → a ≡ b
same_state a b e f g = λ i. record { tree = e i; pool = f i; announcers = g i }

same_taken : (a b : Taken) → a.refused ≡ b.refused → a.locator ≡ b.locator → a ≡ b
same_taken a b e f = λ i. record { refused = e i; locator = f i }

same_heads : (a b : Heads) → a.refused ≡ b.refused → a.lack ≡ b.lack → a.locator ≡ b.locator → a ≡ b
same_heads a b e f g = λ i. record { refused = e i; lack = f i; locator = g i }

one_unspent : (tree : Tree) (u w : Unspent) → IsUnspent tree u → IsUnspent tree w → u ≡ w
one_unspent tree u w is are = let one : Ok u ≡ Ok w = sym is ∙ are in cc

-- ---- a transaction

rule_of : ℕ → TxRule
rule_of n =
    cond (eqb n 1) NoInputs (cond (eqb n 2) NoOutputs (cond (eqb n 3) TooLong (cond (eqb n 4) BadValue (cond (eqb n 5) BadSum (cond (eqb n 6) RepeatedInput (cond (eqb n 7) BadCoinbaseScript NullInput))))))

by_number : (rule : TxRule) → rule_of (rule_number rule) ≡ rule
unfolding rule_of
by_number NoInputs = refl
by_number NoOutputs = refl
by_number TooLong = refl
by_number BadValue = refl
by_number BadSum = refl
by_number RepeatedInput = refl
by_number BadCoinbaseScript = refl
by_number NullInput = refl

one_rule : (tx : Tx) (rule other : TxRule) → IsLeastBroken tx rule → IsLeastBroken tx other → rule ≡ other
one_rule tx rule other is are =
    elim (cases_lt (rule_number rule) (rule_number other)) [
      | inl less ↦ absurd (are.earlier rule less is.broken)
      | inr le ↦
          elim (cases_lt (rule_number other) (rule_number rule)) [
            | inl less ↦ absurd (is.earlier other less are.broken)
            | inr ge ↦ sym (by_number rule) ∙ ap rule_of (let one : rule_number rule ≡ rule_number other = omega arith in one) ∙ by_number other
          ]
    ]

one_alone : (tx : Tx) (fault other : Fault) → RefusesAlone tx fault → RefusesAlone tx other → fault ≡ other
one_alone tx (BadTx rule) (BadTx again) is are = ap BadTx (one_rule tx rule again is are)
one_alone tx (BadTx rule) BadCoinbase is are = absurd (are.0 rule is.broken)
one_alone tx (BadTx rule) Size64 is are = absurd (are.0 rule is.broken)
one_alone tx (BadTx rule) _ is are = absurd are
one_alone tx BadCoinbase (BadTx rule) is are = absurd (is.0 rule are.broken)
one_alone tx BadCoinbase BadCoinbase is are = refl
one_alone tx BadCoinbase Size64 is are = absurd (are.1 is.1)
one_alone tx BadCoinbase _ is are = absurd are
one_alone tx Size64 (BadTx rule) is are = absurd (is.0 rule are.broken)
one_alone tx Size64 BadCoinbase is are = absurd (is.1 are.1)
one_alone tx Size64 Size64 is are = refl
one_alone tx Size64 _ is are = absurd are
one_alone tx _ other is are = absurd is

not_alone : (tx : Tx) (fault : Fault) → RefusesAlone tx fault → StandsAlone tx → ⊥
not_alone tx (BadTx rule) is alone = alone.rules rule is.broken
not_alone tx BadCoinbase is alone = alone.ordinary is.1
not_alone tx Size64 is alone = alone.size is.2
not_alone tx _ is alone = absurd is

-- why it is refused: four kinds, each of which excludes the others
data Reason (u : Unspent) (taken : List Tx) (tx : Tx) (fault : Fault) : Type 0 where
  by_itself : RefusesAlone tx fault → Reason u taken tx fault
  named : StandsAlone tx → is_named_in taken (txid_of tx) ≡ true → fault ≡ Known → Reason u taken tx fault
  unspendable : StandsAlone tx → is_named_in taken (txid_of tx) ≡ false → spend u (taken ++ tx ∷ []) ≡ Err fault → Reason u taken tx fault
  full : StandsAlone tx → is_named_in taken (txid_of tx) ≡ false → IsOk (spend u (taken ++ tx ∷ [])) → 10000 ≤ length taken → fault ≡ PoolFull → Reason u taken tx fault

reason : (u : Unspent) (taken : List Tx) (tx : Tx) (fault : Fault) → Refuses u taken tx fault → Reason u taken tx fault
reason u taken tx Known is = Reason.named is.0 is.1 refl
reason u taken tx NoInput is = Reason.unspendable is.0 is.1 is.2
reason u taken tx Overspent is = Reason.unspendable is.0 is.1 is.2
reason u taken tx Remade is = Reason.unspendable is.0 is.1 is.2
reason u taken tx PoolFull is = Reason.full is.0 is.1 is.2 is.3 refl
reason u taken tx _ is = Reason.by_itself is

err_ok : (r : Result Unspent Fault) (fault : Fault) → r ≡ Err fault → IsOk r → ⊥
err_ok (Ok u) fault e ok = absurd (let one : Ok u ≡ Err fault = e in cc)
err_ok (Err other) fault e ok = false≢true ok

one_err : (r : Result Unspent Fault) (fault other : Fault) → r ≡ Err fault → r ≡ Err other → fault ≡ other
one_err r fault other e f = let one : Err fault ≡ Err other = sym e ∙ f in cc

one_reason : (u : Unspent) (taken : List Tx) (tx : Tx) (fault other : Fault) → Reason u taken tx fault → Reason u taken tx other → fault ≡ other
one_reason u taken tx fault other (Reason.by_itself is) (Reason.by_itself are) = one_alone tx fault other is are
one_reason u taken tx fault other (Reason.by_itself is) (Reason.named alone _ _) = absurd (not_alone tx fault is alone)
one_reason u taken tx fault other (Reason.by_itself is) (Reason.unspendable alone _ _) = absurd (not_alone tx fault is alone)
one_reason u taken tx fault other (Reason.by_itself is) (Reason.full alone _ _ _ _) = absurd (not_alone tx fault is alone)
one_reason u taken tx fault other (Reason.named alone _ _) (Reason.by_itself are) = absurd (not_alone tx other are alone)
one_reason u taken tx fault other (Reason.named _ _ e) (Reason.named _ _ f) = e ∙ sym f
one_reason u taken tx fault other (Reason.named _ there _) (Reason.unspendable _ not_yet _) = absurd (false≢true (sym not_yet ∙ there))
one_reason u taken tx fault other (Reason.named _ there _) (Reason.full _ not_yet _ _ _) = absurd (false≢true (sym not_yet ∙ there))
one_reason u taken tx fault other (Reason.unspendable alone _ _) (Reason.by_itself are) = absurd (not_alone tx other are alone)
one_reason u taken tx fault other (Reason.unspendable _ not_yet _) (Reason.named _ there _) = absurd (false≢true (sym not_yet ∙ there))
one_reason u taken tx fault other (Reason.unspendable _ _ e) (Reason.unspendable _ _ f) = one_err (spend u (taken ++ tx ∷ [])) fault other e f
one_reason u taken tx fault other (Reason.unspendable _ _ e) (Reason.full _ _ ok _ _) = absurd (err_ok (spend u (taken ++ tx ∷ [])) fault e ok)
one_reason u taken tx fault other (Reason.full alone _ _ _ _) (Reason.by_itself are) = absurd (not_alone tx other are alone)
one_reason u taken tx fault other (Reason.full _ not_yet _ _ _) (Reason.named _ there _) = absurd (false≢true (sym not_yet ∙ there))
one_reason u taken tx fault other (Reason.full _ _ ok _ _) (Reason.unspendable _ _ e) = absurd (err_ok (spend u (taken ++ tx ∷ [])) other e ok)
one_reason u taken tx fault other (Reason.full _ _ _ _ e) (Reason.full _ _ _ _ f) = e ∙ sym f

-- what applies isn't refused
not_both : (u : Unspent) (taken : List Tx) (tx : Tx) (fault : Fault) → Applies u taken tx → Reason u taken tx fault → ⊥
not_both u taken tx fault applies (Reason.by_itself is) = not_alone tx fault is applies.alone
not_both u taken tx fault applies (Reason.named _ there _) = false≢true (sym applies.fresh ∙ there)
not_both u taken tx fault applies (Reason.unspendable _ _ e) = err_ok (spend u (taken ++ tx ∷ [])) fault e applies.spends
not_both u taken tx fault applies (Reason.full _ _ _ many _) = let few = applies.fits in omega (arith, few, many)

over : (u : Unspent) (old new other : RelayState) (tx : Tx) (refused again : Option Fault) → TakesTxOver u old tx refused new → TakesTxOver u old tx again other → (refused ≡ again) × (new ≡ other)
over u old new other tx None None a b = (refl, a.1 ∙ sym b.1)
over u old new other tx None (Some fault) a b = absurd (not_both u (txs_of old.pool.list) tx fault a.0 (reason u (txs_of old.pool.list) tx fault b.0))
over u old new other tx (Some fault) None a b = absurd (not_both u (txs_of old.pool.list) tx fault b.0 (reason u (txs_of old.pool.list) tx fault a.0))
over u old new other tx (Some fault) (Some again) a b =
    let taken = txs_of old.pool.list in
    (ap Some (one_reason u taken tx fault again (reason u taken tx fault a.0) (reason u taken tx again b.0)), a.1 ∙ sym b.1)

pub one_tx : (old new other : RelayState) (tx : Tx) (refused again : Option Fault) → TakesTx old tx refused new → TakesTx old tx again other → (refused ≡ again) × (new ≡ other)
one_tx old new other tx refused again a b =
    let same_u = one_unspent old.tree b.0 a.0 b.1 a.1 in
    over a.0 old new other tx refused again a.2 (subst (λ (u : Unspent). TakesTxOver u old tx again other) same_u b.2)

-- ---- a block

one_pool : (old new other : RelayState) (answer : Result Change Fault) → new.tree ≡ other.tree → Follows old answer new → Follows old answer other → new.pool ≡ other.pool
one_pool old new other answer tree (Follows.stays _ e) (Follows.stays _ f) = e ∙ sym f
one_pool old new other answer tree (Follows.stays aside _) (Follows.folds _ _ tip _ _ _) = absurd (false≢true (sym aside ∙ tip))
one_pool old new other answer tree (Follows.folds _ _ tip _ _ _) (Follows.stays aside _) = absurd (false≢true (sym aside ∙ tip))
one_pool old new other answer tree (Follows.folds change is _ u unspent folds) (Follows.folds again are _ w unspent2 folds2) =
    let one_ok : Ok change ≡ Ok again = sym is ∙ are in
    let one_change : again ≡ change = cc in
    let same_u : w ≡ u = one_unspent new.tree w u (subst (λ (t : Tree). IsUnspent t w) (sym tree) unspent2) unspent in
    let there : Refolds u (txs_put_off old.tree change.off) old.pool other.pool =
    subst (λ (v : Unspent). Refolds v (txs_put_off old.tree change.off) old.pool other.pool) same_u
    (subst (λ (c : Change). Refolds w (txs_put_off old.tree c.off) old.pool other.pool) one_change folds2) in
    one_refold u (txs_put_off old.tree change.off) old.pool new.pool other.pool folds there

pub one_taken : (old new other : RelayState) (block : Block) (from : Option Connection) (taken again : Taken) → TakesBlock old block from taken new → TakesBlock old block from again other
    → (taken ≡ again) × (new ≡ other)
one_taken old new other block from taken again a b =
    let both = one_block old.tree new.tree other.tree block a.answer b.answer a.chain b.chain in
    let tree = both.1 in
    let pool = one_pool old new other a.answer tree a.pool (subst (λ (r : Result Change Fault). Follows old r other) (sym both.0) b.pool) in
    let refused : taken.refused ≡ again.refused = a.refused ∙ ap refused_for both.0 ∙ sym b.refused in (
      same_taken taken again refused
          (a.locator ∙ ap (λ (r : Option Fault). locator_for r (locator_of new.tree)) refused ∙ ap (λ (t : Tree). locator_for again.refused (locator_of t)) tree ∙ sym b.locator),
      same_state new other tree pool (a.announcers ∙ ap (λ (r : Result Change Fault). announcers_after old.announcers (became_tip r) from) both.0 ∙ sym b.announcers),
    )

-- ---- headers

pub one_heads : (old new other : RelayState) (headers : List Header) (heads again : Heads) → TakesHeads old headers heads new → TakesHeads old headers again other → (heads ≡ again) × (new ≡ other)
one_heads old new other headers heads again a b =
    let one = one_heading headers old.tree new.tree other.tree heads.refused again.refused a.met b.met a.chain b.chain in
    let lack : heads.lack ≡ again.lack = a.lack ∙ ap (filter (is_lacking new.tree)) one.1 ∙ ap (λ (t : Tree). filter (is_lacking t) b.met) one.2 ∙ sym b.lack in
    let locator : heads.locator ≡ again.locator =
    a.locator ∙ ap (λ (r : Option Fault). locator_for r (locator_of new.tree)) one.0 ∙ ap (λ (t : Tree). locator_for again.refused (locator_of t)) one.2 ∙ sym b.locator in
    (same_heads heads again one.0 lack locator, same_state new other one.2 (a.pool ∙ sym b.pool) (a.announcers ∙ sym b.announcers))
