-- What holds of each pool whose list applies in turn to a ledger, and that there is one fold.
use Rattle.std.proofs.Common.{◌≡◌, ℕ, zero, suc, ◌≤◌, Bool, true, false, cond, List, [], ◌∷◌, ◌++◌, length, map, Some, None, Option, Ok, Result, is_some, refl, sym, ap, subst, ◌∙◌, arith, inl, inr, append_assoc}
use Rattle.std.specs.Prelude.{◌≢◌, All, IsOk}
use Rattle.std.specs.List.{AllByRecursion, IsDistinct}
use Rattle.std.specs.FinMap as finite
use Rattle.std.specs.Map.{keys_of}
use Rattle.std.proofs.lemmas.Bool.{cases_Bool, false≢true}
use Rattle.std.proofs.lemmas.List.{length-append}
use lib.Pointwise.{bytes_decides}
use Rattle.cb_base.specs.Reading.{◌>>=◌}
use Rattle.cb_base.specs.declared.fault.Fault.{Fault}
use Rattle.cb_base.specs.declared.hash.Hash256.{Hash256}
use Rattle.cb_base.proofs.Fields.{bind_ok}
use Rattle.cb_block.specs.declared.tx.OutPoint.{OutPoint}
use Rattle.cb_block.specs.declared.tx.Tx.{Tx}
use Rattle.cb_ledger.specs.Spend.{is_coinbase, spend, spend_tx}
use Rattle.cb_ledger.specs.Touched.{IsMade, IsNamed}
use Rattle.cb_ledger.specs.Unspent.{Unspent}
use Rattle.cb_ledger.proofs.Touching.{inputs_take, two, txs_none, txs_take}
use Rattle.cb_pool.specs.declared.members.Pooled.{Pooled}
use Rattle.cb_pool.specs.Folding.{Folds, Offer, Refolds, new_offer, next_after, numbered, old_offer}
use Rattle.cb_pool.specs.Listing.{Listing, NamesDiffer, txs_of}
use Rattle.cb_pool.specs.Rules.{Applies, StandsAlone, is_named_in, named_in, same}
use Rattle.cb_block.specs.Txid.{txid_of}
use Rattle.cb_pool.proofs.Named.{AreNamed, pooled_of, txs_long}
use Rattle.cb_pool.proofs.Spent.{not_coinbase, ok_at}

-- ---- transactions behind others

pub spend_split : (u w : Unspent) (txs others : List Tx) → spend u (txs ++ others) ≡ Ok w → (v : Unspent) × (spend u txs ≡ Ok v) × (spend v others ≡ Ok w)
unfolding spend
spend_split u w [] others e = (u, refl, e)
spend_split u w (tx ∷ txs) others e =
    let a = bind_ok (spend_tx u tx) (λ next. spend next (txs ++ others)) w e in
    let b = spend_split a.0 w txs others a.2 in
    (b.0, ap (λ (r : Result Unspent Fault). r >>= λ next. spend next txs) a.1 ∙ b.1, b.2)

pub first_of : (u w : Unspent) (tx : Tx) (txs : List Tx) → spend u (tx ∷ txs) ≡ Ok w → (v : Unspent) × (spend_tx u tx ≡ Ok v) × (spend v txs ≡ Ok w)
unfolding spend
first_of u w tx txs e = bind_ok (spend_tx u tx) (λ next. spend next txs) w e

pub needs : (u w : Unspent) (tx : Tx) (point : OutPoint) → is_coinbase tx.inputs ≡ false → spend_tx u tx ≡ Ok w → IsNamed tx.inputs point → finite.get u point ≢ None
needs u w tx point other e named = let t = two point u tx w other e in (inputs_take point u tx.inputs t.rest t.spent named).0

pub spends_what_is_there : (u : Unspent) (before after : List Tx) (tx : Tx) (point : OutPoint) → StandsAlone tx → IsOk (spend u (before ++ tx ∷ after)) → IsNamed tx.inputs point → ¬ IsMade before point
    → finite.get u point ≢ None
spends_what_is_there u before after tx point alone ok named not_made none =
    let whole = ok_at (spend u (before ++ tx ∷ after)) ok in
    let parts = spend_split u whole.0 before (tx ∷ after) whole.1 in
    let one = first_of parts.0 whole.0 tx after parts.2 in
    needs parts.0 one.0 tx point (not_coinbase tx alone) one.1 named (txs_none point u parts.0 before parts.1 not_made none)

pub not_spent_again : (u : Unspent) (before between after : List Tx) (tx other : Tx) (point : OutPoint) → StandsAlone tx → StandsAlone other → IsOk (spend u (before ++ tx ∷ (between ++ other ∷ after)))
    → IsNamed tx.inputs point → ¬ IsMade (tx ∷ between) point → ¬ IsNamed other.inputs point
not_spent_again u before between after tx other point alone other_alone ok named not_made again =
    let whole = ok_at (spend u (before ++ tx ∷ (between ++ other ∷ after))) ok in
    let parts = spend_split u whole.0 before (tx ∷ (between ++ other ∷ after)) whole.1 in
    let both = spend_split parts.0 whole.0 (tx ∷ between) (other ∷ after) parts.2 in
    let one = first_of both.0 whole.0 other after both.2 in
    needs both.0 one.0 other point (not_coinbase other other_alone) one.1 again (txs_take point parts.0 both.0 (tx ∷ between) both.1 (inl (not_coinbase tx alone, named)) not_made).1

-- ---- one fold

one_kept : (u : Unspent) (offers : List Offer) (taken : List Tx) (kept others : List Offer) → Folds u taken offers kept → Folds u taken offers others → kept ≡ others
one_kept u [] taken kept others a b = a ∙ sym b
one_kept u (offer ∷ offers) taken kept others (inl a) (inl b) =
    a.1.1 ∙ ap (λ (l : List Offer). offer ∷ l) (one_kept u offers (taken ++ offer.tx ∷ []) a.1.0 b.1.0 a.1.2 b.1.2) ∙ sym b.1.1
one_kept u (offer ∷ offers) taken kept others (inl a) (inr b) = absurd (b.0 a.0)
one_kept u (offer ∷ offers) taken kept others (inr a) (inl b) = absurd (a.0 b.0)
one_kept u (offer ∷ offers) taken kept others (inr a) (inr b) = one_kept u offers taken kept others a.1 b.1

same_listing : (a b : Listing) → a.list ≡ b.list → a.next ≡ b.next → a ≡ b
same_listing a b e f = ap (λ (p : List Pooled × ℕ). record { list = p.0; next = p.1 }) (λ i. (e i, f i))

pub one_refold : (u : Unspent) (first : List Tx) (old new other : Listing) → Refolds u first old new → Refolds u first old other → new ≡ other
one_refold u first old new other a b =
    let kept : a.kept ≡ b.kept = one_kept u (map new_offer first ++ map old_offer old.list) [] a.kept b.kept a.folds b.folds in
    same_listing new other
    (a.list_is ∙ ap (numbered old.next) kept ∙ sym b.list_is)
    (a.next_is ∙ ap (next_after old.next) kept ∙ sym b.next_is)

-- ---- names

pub same_symm : (a b : Hash256) → same a b ≡ false → same b a ≡ false
same_symm a b e =
    elim (cases_Bool (same b a)) [
      | inl is ↦ absurd (false≢true (sym e ∙ (bytes_decides a.0 b.0).1 (sym ((bytes_decides b.0 a.0).0 is))))
      | inr isnt ↦ isnt
    ]

absent_all : (entries : List (Hash256 × Pooled)) (txid : Hash256) → AreNamed entries → AllByRecursion (λ (key : Hash256). same txid key ≡ false) (keys_of entries) → is_named_in (txs_of (pooled_of entries)) txid ≡ false
absent_all [] txid names all = refl
absent_all (entry ∷ entries) txid names all =
    let here : same txid (txid_of entry.1.tx) ≡ false = ap (same txid) (sym names.0) ∙ all.0 in
    rw here (absent_all entries txid names.1 all.1)

pub names_differ : (entries : List (Hash256 × Pooled)) → AreNamed entries → IsDistinct same (keys_of entries) → NamesDiffer (txs_of (pooled_of entries))
unfolding IsDistinct
names_differ [] names all = tt
names_differ (entry ∷ entries) names all =
    (ap (is_named_in (txs_of (pooled_of entries))) (sym names.0) ∙ absent_all entries entry.0 names.1 all.0, names_differ entries names.1 all.1)

pub all_alone : (list : List Pooled) → AllByRecursion (λ (pooled : Pooled). StandsAlone pooled.tx) list → All StandsAlone (txs_of list)
all_alone [] all k d lt = absurd (omega arith)
all_alone (pooled ∷ list) all zero d lt = all.0
all_alone (pooled ∷ list) all (suc k) d lt = all_alone list all.1 k d (omega (arith, lt))

pub alone_in : (before after : List Tx) (tx : Tx) → All StandsAlone (before ++ tx ∷ after) → StandsAlone tx
alone_in [] after tx all = all 0 tx (omega arith)
alone_in (first ∷ before) after tx all = alone_in before after tx (λ k d lt. all (suc k) d (omega (arith, lt)))

-- ---- a pool that stays as it is

cond_false : (b : Bool) (tx : Tx) (rest : Option Tx) → is_some (cond b (Some tx) rest) ≡ false → (b ≡ false) × (is_some rest ≡ false)
cond_false true tx rest e = absurd (false≢true (sym e))
cond_false false tx rest e = (refl, e)

pub apart_in : (before after : List Tx) (tx : Tx) (txid : Hash256) → is_named_in (before ++ tx ∷ after) txid ≡ false → same txid (txid_of tx) ≡ false
apart_in [] after tx txid e = (cond_false (same txid (txid_of tx)) tx (named_in after txid) e).0
apart_in (first ∷ before) after tx txid e = apart_in before after tx txid (cond_false (same txid (txid_of first)) first (named_in (before ++ tx ∷ after) txid) e).1

pub fresh_behind : (before after : List Tx) (tx : Tx) → NamesDiffer (before ++ tx ∷ after) → is_named_in before (txid_of tx) ≡ false
fresh_behind [] after tx differ = refl
fresh_behind (first ∷ before) after tx differ =
    let back : same (txid_of tx) (txid_of first) ≡ false = same_symm (txid_of first) (txid_of tx) (apart_in before after tx (txid_of first) differ.0) in
    rw back (fresh_behind before after tx differ.1)

front_ok : (u : Unspent) (before after : List Tx) (tx : Tx) → IsOk (spend u (before ++ tx ∷ after)) → IsOk (spend u (before ++ tx ∷ []))
front_ok u before after tx ok =
    let whole = ok_at (spend u (before ++ tx ∷ after)) ok in
    let one = spend_split u whole.0 (before ++ tx ∷ []) after (ap (spend u) (append_assoc before (tx ∷ []) after) ∙ whole.1) in
    let e : spend u (before ++ tx ∷ []) ≡ Ok one.0 = one.1 in
    rw e refl

stays_folds : (u : Unspent) (done : List Tx) (rest : List Pooled) → IsOk (spend u (done ++ txs_of rest)) → NamesDiffer (done ++ txs_of rest) → All StandsAlone (done ++ txs_of rest) → length (done ++ txs_of rest) ≤ 10000
    → Folds u done (map old_offer rest) (map old_offer rest)
stays_folds u done [] ok differ alone few = refl
stays_folds u done (pooled ∷ rest) ok differ alone few =
    let tx = pooled.tx in
    let after = txs_of rest in
    let moved : (done ++ tx ∷ []) ++ after ≡ done ++ tx ∷ after = append_assoc done (tx ∷ []) after in
    let applies : Applies u done tx = record {
      alone = alone_in done after tx alone;
      fresh = fresh_behind done after tx differ;
      spends = front_ok u done after tx ok;
      fits = omega (arith, few, length-append done (tx ∷ after));
    } in
    inl (
      applies,
      (
        map old_offer rest,
        refl,
        stays_folds u (done ++ tx ∷ []) rest
            (subst (λ (l : List Tx). IsOk (spend u l)) (sym moved) ok) (subst NamesDiffer (sym moved) differ) (subst (All StandsAlone) (sym moved) alone) (subst (λ (l : List Tx). length l ≤ 10000) (sym moved) few),
      ),
    )

numbered_old : (next : ℕ) (list : List Pooled) → numbered next (map old_offer list) ≡ list
numbered_old next [] = refl
numbered_old next (pooled ∷ list) = ap (λ (l : List Pooled). pooled ∷ l) (numbered_old next list)

next_old : (next : ℕ) (list : List Pooled) → next_after next (map old_offer list) ≡ next
next_old next [] = refl
next_old next (pooled ∷ list) = next_old next list

pub stays : (u : Unspent) (pool : Listing) → IsOk (spend u (txs_of pool.list)) → NamesDiffer (txs_of pool.list) → All StandsAlone (txs_of pool.list) → length pool.list ≤ 10000 → Refolds u [] pool pool
stays u pool ok differ alone few = record {
  kept = map old_offer pool.list;
  folds = stays_folds u [] pool.list ok differ alone (omega (arith, few, txs_long pool.list));
  list_is = sym (numbered_old pool.next pool.list);
  next_is = sym (next_old pool.next pool.list);
}
