-- A pool thinned out: the marks in turn, and what those that stay change.
use Rattle.std.proofs.Common.{◌≡◌, ℕ, zero, suc, ◌+◌, ◌<◌, ◌≤◌, ◌⊎◌, ℤ, pos, Bool, true, false, cond, List, [], ◌∷◌, ◌++◌, length, map, None, Option, Some, Ok, is_some, get_or, take, refl, sym, ap, subst, ◌∙◌, arith, inl, inr, append_assoc}
use Rattle.std.specs.Prelude.{◌≢◌, All, IsOk, filter, not}
use Rattle.std.specs.FinMap as finite
use Rattle.std.specs.List.{AllByRecursion}
use Rattle.std.specs.Map.{lookup}
use Rattle.std.proofs.lemmas.Bool.{cases_Bool, false≢true}
use Rattle.std.proofs.lemmas.List.{append-nil, length-append, map-append, take_all, take_more}
use lib.Pointwise.{bytes_decides}
use Rattle.cb_base.proofs.Fields.{ok_is}
use Rattle.cb_base.specs.declared.hash.Hash256.{Hash256}
use Rattle.cb_block.specs.declared.tx.OutPoint.{OutPoint}
use Rattle.cb_block.specs.declared.tx.Tx.{Tx}
use Rattle.cb_ledger.specs.Spend.{spend, spend_tx}
use Rattle.cb_ledger.specs.Touched.{IsNamed}
use Rattle.cb_ledger.specs.Undo.{changed, changes_of}
use Rattle.cb_ledger.specs.Unspent.{Unspent, outpoint_cmp}
use Rattle.cb_ledger.proofs.Changes.{over, value_is}
use Rattle.cb_ledger.proofs.Outpoints.{maps_same}
use Rattle.cb_ledger.proofs.Txs.{spend-append}
use Rattle.cb_pool.specs.declared.marks.OutputMark.{OutputMark}
use Rattle.cb_pool.specs.declared.marks.OutputMark.TheVariants.{Gone, Holds, Same, Unknown}
use Rattle.cb_pool.specs.declared.members.Pooled.{Pooled}
use Rattle.cb_pool.specs.Folding.{Refolds, Took, old_offer}
use Rattle.cb_pool.specs.Leaving.{after_tx, after_txs, without_inputs}
use Rattle.cb_pool.specs.Listing.{Listing, NamesDiffer, txs_of}
use Rattle.cb_pool.specs.Rules.{Applies, StandsAlone, is_named_in, named_in, same}
use Rattle.cb_block.specs.Txid.{txid_of}
use Rattle.cb_pool.specs.Staying.{Agree, Covers, IsLevel, Marking, Moves, Says, StaysOf, Tells, Turned, is_gone, mark_at, same_point, staying}
use Rattle.cb_pool.specs.Touching.{IsTouched, IsTouchedBy}
use Rattle.cb_pool.proofs.LawLemmas.{alone_in, apart_in, first_of, fresh_behind, needs, same_symm, spend_split}
use Rattle.cb_pool.proofs.Left.{without_other}
use Rattle.cb_pool.proofs.Named.{txs_long}
use Rattle.cb_pool.proofs.Spent.{after_more, not_coinbase, ok_at, tx_leaves}
use Rattle.cb_pool.proofs.Taking.{took_both, took_more, took_none, took_passed}
use Rattle.cb_pool.proofs.Untouched.{Alike, insert_here, kept_at, kept_behind, kept_with, same_with, same_without, tx_alike, untouched}

-- ---- who stays

pub stay_last : (gone : List Hash256) (done : List Pooled) (pooled : Pooled) → is_gone gone (txid_of pooled.tx) ≡ false → staying gone (done ++ pooled ∷ []) ≡ staying gone done ++ pooled ∷ []
stay_last gone [] pooled e = rw e refl
stay_last gone (first ∷ done) pooled e =
    elim (cases_Bool (is_gone gone (txid_of first.tx))) [
      | inl is ↦ rw is (stay_last gone done pooled e)
      | inr isnt ↦ rw isnt (ap (λ (l : List Pooled). first ∷ l) (stay_last gone done pooled e))
    ]

pub gone_last : (gone : List Hash256) (done : List Pooled) (pooled : Pooled) → is_gone gone (txid_of pooled.tx) ≡ true → staying gone (done ++ pooled ∷ []) ≡ staying gone done
gone_last gone [] pooled e = rw e refl
gone_last gone (first ∷ done) pooled e =
    elim (cases_Bool (is_gone gone (txid_of first.tx))) [
      | inl is ↦ rw is (gone_last gone done pooled e)
      | inr isnt ↦ rw isnt (ap (λ (l : List Pooled). first ∷ l) (gone_last gone done pooled e))
    ]

cond_none : (b : Bool) (tx : Tx) (rest : Option Tx) → is_some (cond b (Some tx) rest) ≡ false → (b ≡ false) × (is_some rest ≡ false)
cond_none true tx rest e = absurd (false≢true (sym e))
cond_none false tx rest e = (refl, e)

-- one txid more changes nothing where it doesn't stand
stay_same : (gone more : List Hash256) (txid : Hash256) (done : List Pooled) → ((other : Hash256) → is_gone more other ≡ cond (same txid other) true (is_gone gone other)) → is_named_in (txs_of done) txid ≡ false
    → staying more done ≡ staying gone done
stay_same gone more txid [] added fresh = refl
stay_same gone more txid (first ∷ done) added fresh =
    let name = txid_of first.tx in
    let apart = cond_none (same txid name) first.tx (named_in (txs_of done) txid) fresh in
    let isnt : same txid name ≡ false = apart.0 in
    let one : is_gone more name ≡ is_gone gone name = added name ∙ rw isnt refl in
    let rest = stay_same gone more txid done added apart.1 in
    rw one (ap (λ (l : List Pooled). cond (not (is_gone gone name)) (first ∷ l) l) rest)

stay_absent : (gone : List Hash256) (done : List Pooled) (txid : Hash256) → is_named_in (txs_of done) txid ≡ false → is_named_in (txs_of (staying gone done)) txid ≡ false
stay_absent gone [] txid fresh = refl
stay_absent gone (first ∷ done) txid fresh =
    let apart = cond_none (same txid (txid_of first.tx)) first.tx (named_in (txs_of done) txid) fresh in
    let isnt : same txid (txid_of first.tx) ≡ false = apart.0 in
    elim (cases_Bool (is_gone gone (txid_of first.tx))) [
      | inl is ↦ rw is (stay_absent gone done txid apart.1)
      | inr stays ↦ rw (stays, isnt) (stay_absent gone done txid apart.1)
    ]

pub stay_short : (gone : List Hash256) (done : List Pooled) → length (staying gone done) ≤ length done
stay_short gone [] = omega arith
stay_short gone (first ∷ done) =
    let rest = stay_short gone done in
    elim (cases_Bool (is_gone gone (txid_of first.tx))) [
      | inl is ↦ rw is (omega (arith, rest))
      | inr isnt ↦ rw isnt (omega (arith, rest))
    ]

-- nothing is gone yet
pub all_stay : (list : List Pooled) → staying [] list ≡ list
all_stay [] = refl
all_stay (first ∷ list) = ap (λ (l : List Pooled). first ∷ l) (all_stay list)

front_absent : (front : List Tx) (tx : Tx) (txid : Hash256) → is_named_in (front ++ tx ∷ []) txid ≡ false → is_named_in front txid ≡ false
front_absent [] tx txid e = refl
front_absent (first ∷ front) tx txid e =
    let apart = cond_none (same txid (txid_of first)) first (named_in (front ++ tx ∷ []) txid) e in
    let isnt : same txid (txid_of first) ≡ false = apart.0 in
    rw isnt (front_absent front tx txid apart.1)

txs_last : (front : List Pooled) (pooled : Pooled) → txs_of (front ++ pooled ∷ []) ≡ txs_of front ++ pooled.tx ∷ []
txs_last front pooled = map-append (λ (one : Pooled). one.tx) front (pooled ∷ [])

-- ---- one transaction

untouched_by : (u : Unspent) (tx : Tx) (q : OutPoint) → ¬ IsTouchedBy tx q → finite.get (after_tx u tx) q ≡ finite.get u q
untouched_by u tx q other =
    kept_with q (without_inputs u tx.inputs) (txid_of tx) 0 tx.outputs (λ both. other (inr (both.0, omega (arith, both.1))))
    ∙ without_other q u tx.inputs (λ named. other (inl named))

same_by : (u v : Unspent) (tx : Tx) (q : OutPoint) → finite.get u q ≡ finite.get v q → finite.get (after_tx u tx) q ≡ finite.get (after_tx v tx) q
same_by u v tx q e = same_with q (without_inputs u tx.inputs) (without_inputs v tx.inputs) (txid_of tx) 0 tx.outputs (same_without q u v tx.inputs e)

level_says : (mark : Option OutputMark) (x y : Option ℤ) → IsLevel mark → Says mark x y → x ≡ y
level_says None x y level e = e
level_says (Some Gone) x y level e = absurd level
level_says (Some (Holds v)) x y level e = absurd level
level_says (Some Same) x y level e = e
level_says (Some Unknown) x y level e = absurd level

says_level : (mark : Option OutputMark) (x y : Option ℤ) → IsLevel mark → x ≡ y → Says mark x y
says_level None x y level e = e
says_level (Some Gone) x y level e = absurd level
says_level (Some (Holds v)) x y level e = absurd level
says_level (Some Same) x y level e = e
says_level (Some Unknown) x y level e = absurd level

level_cases : (mark : Option OutputMark) → IsLevel mark ⊎ (¬ IsLevel mark)
level_cases None = inl tt
level_cases (Some Gone) = inr (λ h. h)
level_cases (Some (Holds v)) = inr (λ h. h)
level_cases (Some Same) = inl tt
level_cases (Some Unknown) = inr (λ h. h)

-- what both UTXO sets have behind a transaction at whose outputs nothing differs
level_tells : (marks : Marking) (tx : Tx) (was now next left : Unspent) → StandsAlone tx → ((q : OutPoint) → IsTouchedBy tx q → IsLevel (mark_at marks q)) → Tells marks was now → spend_tx was tx ≡ Ok next → spend_tx now tx ≡ Ok left
    → Alike (λ (q : OutPoint). IsLevel (mark_at marks q)) next left → Tells marks next left
level_tells marks tx was now next left alone level tells e f alike q =
    elim (level_cases (mark_at marks q)) [
      | inl flat ↦ says_level (mark_at marks q) (finite.get next q) (finite.get left q) flat (alike q flat)
      | inr steep ↦
          let other : ¬ IsTouchedBy tx q = λ touched. steep (level q touched) in
          let a : finite.get next q ≡ finite.get was q = ap (λ (m : Unspent). finite.get m q) (tx_leaves was tx next (not_coinbase tx alone) e) ∙ untouched_by was tx q other in
          let b : finite.get left q ≡ finite.get now q = ap (λ (m : Unspent). finite.get m q) (tx_leaves now tx left (not_coinbase tx alone) f) ∙ untouched_by now tx q other in
          subst (λ (x : Option ℤ). Says (mark_at marks q) x (finite.get left q)) (sym a) (subst (Says (mark_at marks q) (finite.get was q)) (sym b) (tells q))
    ]

-- ---- behind some of the transactions

joined : (u v w : Unspent) (txs : List Tx) (tx : Tx) → spend u txs ≡ Ok v → spend_tx v tx ≡ Ok w → spend u (txs ++ tx ∷ []) ≡ Ok w
unfolding spend
joined u v w txs tx e f = spend-append u v txs (tx ∷ []) e ∙ rw f refl

-- of the list's transactions `done` came so far, and `kept` are those of them that stay
pub record Run (u after : Unspent) (marks : Marking) (list rest done kept : List Pooled) : Type 0 where
  pub was : Unspent
  pub now : Unspent
  pub spent : spend u (txs_of done) ≡ Ok was
  pub left : spend after (txs_of kept) ≡ Ok now
  pub tells : Tells marks was now
  pub took : (next : ℕ) → Took after (map old_offer list) (map old_offer rest) next [] kept next

next_of : (u was : Unspent) (done rest : List Pooled) (pooled : Pooled) → IsOk (spend u (txs_of (done ++ pooled ∷ rest))) → spend u (txs_of done) ≡ Ok was
    → (next : Unspent) × (spend_tx was pooled.tx ≡ Ok next) × (spend u (txs_of (done ++ pooled ∷ [])) ≡ Ok next)
next_of u was done rest pooled ok spent =
    let whole = ok_at (spend u (txs_of (done ++ pooled ∷ rest))) ok in
    let cut : spend u (txs_of done ++ pooled.tx ∷ txs_of rest) ≡ Ok whole.0 = ap (spend u) (sym (map-append (λ (one : Pooled). one.tx) done (pooled ∷ rest))) ∙ whole.1 in
    let parts = spend_split u whole.0 (txs_of done) (pooled.tx ∷ txs_of rest) cut in
    let one = first_of parts.0 whole.0 pooled.tx (txs_of rest) parts.2 in
    let is : parts.0 ≡ was = ok_is parts.0 was (sym parts.1 ∙ spent) in
    let step : spend_tx was pooled.tx ≡ Ok one.0 = ap (λ (m : Unspent). spend_tx m pooled.tx) (sym is) ∙ one.1 in
    (one.0, step, ap (spend u) (txs_last done pooled) ∙ joined u was one.0 (txs_of done) pooled.tx spent step)

run_stays : (u after : Unspent) (marks : Marking) (list rest done kept : List Pooled) (pooled : Pooled) → Run u after marks list (pooled ∷ rest) done kept → IsOk (spend u (txs_of (done ++ pooled ∷ rest))) → StandsAlone pooled.tx
    → ((q : OutPoint) → IsTouchedBy pooled.tx q → IsLevel (mark_at marks q)) → is_named_in (txs_of kept) (txid_of pooled.tx) ≡ false → length (txs_of kept) < 10000
    → Run u after marks list rest (done ++ pooled ∷ []) (kept ++ pooled ∷ [])
run_stays u after marks list rest done kept pooled run ok alone level fresh fits =
    let tx = pooled.tx in
    let step = next_of u run.was done rest pooled ok run.spent in
    let flat : OutPoint → Type 0 = λ q. IsLevel (mark_at marks q) in
    let both = tx_alike flat run.was run.now tx step.0 alone level (λ q p. level_says (mark_at marks q) (finite.get run.was q) (finite.get run.now q) p (run.tells q)) step.1 in
    let whole : spend after (txs_of kept ++ tx ∷ []) ≡ Ok both.0 = joined after run.now both.0 (txs_of kept) tx run.left both.1 in
    let applies : Applies after (txs_of kept) tx = record { alone = alone; fresh = fresh; spends = rw whole refl; fits = fits } in
    record {
      was = step.0;
      now = both.0;
      spent = step.2;
      left = ap (spend after) (txs_last kept pooled) ∙ whole;
      tells = level_tells marks tx run.was run.now step.0 both.0 alone level run.tells step.1 both.1 both.2;
      took = λ next. took_more after (map old_offer list) (map old_offer rest) (old_offer pooled) next [] kept next (run.took next) applies;
    }

run_leaves : (u after : Unspent) (marks more : Marking) (list rest done kept : List Pooled) (pooled : Pooled) (q : OutPoint) → Run u after marks list (pooled ∷ rest) done kept → IsOk (spend u (txs_of (done ++ pooled ∷ rest)))
    → StandsAlone pooled.tx → IsNamed pooled.tx.inputs q → mark_at marks q ≡ Some Gone → Moves pooled.tx marks more → Run u after more list rest (done ++ pooled ∷ []) kept
run_leaves u after marks more list rest done kept pooled q run ok alone named gone moves =
    let tx = pooled.tx in
    let step = next_of u run.was done rest pooled ok run.spent in
    let none : finite.get run.now q ≡ None = subst (λ (m : Option OutputMark). Says m (finite.get run.was q) (finite.get run.now q)) gone (run.tells q) in
    let refused : ¬ Applies after (txs_of kept) tx = λ applies.
    let whole = ok_at (spend after (txs_of kept ++ tx ∷ [])) applies.spends in
    let parts = spend_split after whole.0 (txs_of kept) (tx ∷ []) whole.1 in
    let one = first_of parts.0 whole.0 tx [] parts.2 in
    let is : parts.0 ≡ run.now = ok_is parts.0 run.now (sym parts.1 ∙ run.left) in
    needs parts.0 one.0 tx q (not_coinbase tx alone) one.1 named (ap (λ (m : Unspent). finite.get m q) is ∙ none) in
    record {
      was = step.0;
      now = run.now;
      spent = step.2;
      left = run.left;
      tells = moves.tells run.was run.now step.0 step.1 run.tells;
      took = λ next. took_passed after (map old_offer list) (map old_offer rest) (old_offer pooled) next [] kept next (run.took next) refused;
    }

-- ---- all of them in turn

pub record Turning (first marks : Marking) (gone : List Hash256) (list rest : List Pooled) : Type 0 where
  pub done : List Pooled
  pub whole : done ++ rest ≡ list
  pub runs : (u after : Unspent) → Tells first u after → IsOk (spend u (txs_of list)) → Run u after marks list rest done (staying gone done)
  pub agree : Agree marks (txs_of done) (txs_of (staying gone done))
  pub fresh : (txid : Hash256) → is_named_in (txs_of done) txid ≡ false → is_gone gone txid ≡ false

pub turning_none : (first : Marking) (list : List Pooled) → Turning first first [] list list
unfolding spend
turning_none first list = record {
  done = [];
  whole = refl;
  runs = λ u after tells ok. record { was = u; now = after; spent = refl; left = refl; tells = tells; took = λ next. took_none after (map old_offer list) next [] };
  agree = λ u q none. refl;
  fresh = λ txid e. refl;
}

name_here : (txid : Hash256) → same txid txid ≡ true
name_here txid = (bytes_decides txid.0 txid.0).1 refl

agree_stays : (marks : Marking) (done kept : List Pooled) (pooled : Pooled) → Agree marks (txs_of done) (txs_of kept) → Agree marks (txs_of (done ++ pooled ∷ [])) (txs_of (kept ++ pooled ∷ []))
agree_stays marks done kept pooled so_far u q none =
    let tx = pooled.tx in
    ap (λ (l : List Tx). finite.get (after_txs u l) q) (txs_last done pooled)
    ∙ ap (λ (m : Unspent). finite.get m q) (after_more u (txs_of done) tx)
    ∙ same_by (after_txs u (txs_of done)) (after_txs u (txs_of kept)) tx q (so_far u q none)
    ∙ sym (ap (λ (m : Unspent). finite.get m q) (after_more u (txs_of kept) tx))
    ∙ sym (ap (λ (l : List Tx). finite.get (after_txs u l) q) (txs_last kept pooled))

agree_leaves : (marks more : Marking) (done kept : List Pooled) (pooled : Pooled) → Moves pooled.tx marks more → Agree marks (txs_of done) (txs_of kept) → Agree more (txs_of (done ++ pooled ∷ [])) (txs_of kept)
agree_leaves marks more done kept pooled moves so_far u q none =
    let tx = pooled.tx in
    let before = moves.marked q none in
    ap (λ (l : List Tx). finite.get (after_txs u l) q) (txs_last done pooled)
    ∙ ap (λ (m : Unspent). finite.get m q) (after_more u (txs_of done) tx)
    ∙ untouched_by (after_txs u (txs_of done)) tx q before.1
    ∙ so_far u q before.0

turning_stays : (first marks : Marking) (gone : List Hash256) (list rest : List Pooled) (pooled : Pooled) → Turning first marks gone list (pooled ∷ rest) → All StandsAlone (txs_of list) → NamesDiffer (txs_of list) → length list ≤ 10000
    → ((q : OutPoint) → IsTouchedBy pooled.tx q → IsLevel (mark_at marks q)) → Turning first marks gone list rest
turning_stays first marks gone list rest pooled so_far alone differ few level =
    let done = so_far.done in
    let kept = staying gone done in
    let tx = pooled.tx in
    let parts : txs_of list ≡ txs_of done ++ tx ∷ txs_of rest = ap txs_of (sym so_far.whole) ∙ map-append (λ (one : Pooled). one.tx) done (pooled ∷ rest) in
    let fresh : is_named_in (txs_of done) (txid_of tx) ≡ false = fresh_behind (txs_of done) (txs_of rest) tx (subst NamesDiffer parts differ) in
    let own : StandsAlone tx = alone_in (txs_of done) (txs_of rest) tx (subst (All StandsAlone) parts alone) in
    let more : staying gone (done ++ pooled ∷ []) ≡ kept ++ pooled ∷ [] = stay_last gone done pooled (so_far.fresh (txid_of tx) fresh) in
    let fits : length (txs_of kept) < 10000 = omega (arith, few, ap length so_far.whole, length-append done (pooled ∷ rest), stay_short gone done, txs_long kept) in
    record {
      done = done ++ pooled ∷ [];
      whole = append_assoc done (pooled ∷ []) rest ∙ so_far.whole;
      runs = λ u after tells ok.
          subst (λ (l : List Pooled). Run u after marks list rest (done ++ pooled ∷ []) l) (sym more)
          (run_stays u after marks list rest done kept pooled (so_far.runs u after tells ok) (subst (λ (l : List Pooled). IsOk (spend u (txs_of l))) (sym so_far.whole) ok) own level (stay_absent gone done (txid_of tx) fresh) fits);
      agree = subst (λ (l : List Pooled). Agree marks (txs_of (done ++ pooled ∷ [])) (txs_of l)) (sym more) (agree_stays marks done kept pooled so_far.agree);
      fresh = λ txid e. so_far.fresh txid (front_absent (txs_of done) tx txid (ap (λ (l : List Tx). is_named_in l txid) (sym (txs_last done pooled)) ∙ e));
    }

turning_leaves : (first marks next : Marking) (gone more : List Hash256) (list rest : List Pooled) (pooled : Pooled) (q : OutPoint) → Turning first marks gone list (pooled ∷ rest) → All StandsAlone (txs_of list) → NamesDiffer (txs_of list)
    → IsNamed pooled.tx.inputs q → mark_at marks q ≡ Some Gone → ((other : Hash256) → is_gone more other ≡ cond (same (txid_of pooled.tx) other) true (is_gone gone other)) → Moves pooled.tx marks next
    → Turning first next more list rest
turning_leaves first marks next gone more list rest pooled q so_far alone differ named lost added moves =
    let done = so_far.done in
    let kept = staying gone done in
    let tx = pooled.tx in
    let name = txid_of tx in
    let parts : txs_of list ≡ txs_of done ++ tx ∷ txs_of rest = ap txs_of (sym so_far.whole) ∙ map-append (λ (one : Pooled). one.tx) done (pooled ∷ rest) in
    let fresh : is_named_in (txs_of done) name ≡ false = fresh_behind (txs_of done) (txs_of rest) tx (subst NamesDiffer parts differ) in
    let own : StandsAlone tx = alone_in (txs_of done) (txs_of rest) tx (subst (All StandsAlone) parts alone) in
    let out : is_gone more name ≡ true = added name ∙ rw (name_here name) refl in
    let same_ones : staying more (done ++ pooled ∷ []) ≡ kept = gone_last more done pooled out ∙ stay_same gone more name done added fresh in
    record {
      done = done ++ pooled ∷ [];
      whole = append_assoc done (pooled ∷ []) rest ∙ so_far.whole;
      runs = λ u after tells ok.
          subst (λ (l : List Pooled). Run u after next list rest (done ++ pooled ∷ []) l) (sym same_ones)
          (run_leaves u after marks next list rest done kept pooled q (so_far.runs u after tells ok) (subst (λ (l : List Pooled). IsOk (spend u (txs_of l))) (sym so_far.whole) ok) own named lost moves);
      agree = subst (λ (l : List Pooled). Agree next (txs_of (done ++ pooled ∷ [])) (txs_of l)) (sym same_ones) (agree_leaves marks next done kept pooled moves so_far.agree);
      fresh = λ txid e.
          let whole : is_named_in (txs_of done ++ tx ∷ []) txid ≡ false = ap (λ (l : List Tx). is_named_in l txid) (sym (txs_last done pooled)) ∙ e in
          let isnt : same name txid ≡ false = same_symm txid name (apart_in (txs_of done) [] tx txid whole) in
          added txid ∙ rw isnt (so_far.fresh txid (front_absent (txs_of done) tx txid whole));
    }

pub turning_more : (first marks next : Marking) (gone more : List Hash256) (list rest : List Pooled) (pooled : Pooled) → Turning first marks gone list (pooled ∷ rest) → All StandsAlone (txs_of list) → NamesDiffer (txs_of list) → length list ≤ 10000
    → Turned pooled.tx marks next gone more → Turning first next more list rest
turning_more first marks next gone more list rest pooled so_far alone differ few (Turned.stays same_marks same_gone level) =
    subst (λ (m : Marking). Turning first m more list rest) (sym same_marks) (subst (λ (g : List Hash256). Turning first marks g list rest) (sym same_gone) (turning_stays first marks gone list rest pooled so_far alone differ few level))
turning_more first marks next gone more list rest pooled so_far alone differ few (Turned.leaves q named lost added moves) =
    turning_leaves first marks next gone more list rest pooled q so_far alone differ named lost added moves

pub all_turned : (first marks : Marking) (gone : List Hash256) (list : List Pooled) → Turning first marks gone list [] → Turning first marks gone list [] × (Agree marks (txs_of list) (txs_of (staying gone list)))
all_turned first marks gone list so_far =
    let all : so_far.done ≡ list = sym (append-nil so_far.done) ∙ so_far.whole in
    (so_far, subst (λ (l : List Pooled). Agree marks (txs_of l) (txs_of (staying gone l))) all so_far.agree)

pub stays_of : (first marks : Marking) (gone : List Hash256) (list : List Pooled) (u after : Unspent) → Turning first marks gone list [] → Tells first u after → IsOk (spend u (txs_of list)) → StaysOf after list (staying gone list)
stays_of first marks gone list u after so_far tells ok =
    let all : so_far.done ≡ list = sym (append-nil so_far.done) ∙ so_far.whole in
    let run : Run u after marks list [] list (staying gone list) = subst (λ (l : List Pooled). Run u after marks list [] l (staying gone l)) all (so_far.runs u after tells ok) in
    let left : spend after (txs_of (staying gone list)) ≡ Ok run.now = run.left in
    record {
      refolds = λ next. took_both after [] (record { list = list; next = next }) (record { list = staying gone list; next = next }) [] next (took_none after [] next []) (run.took next);
      spends = rw left refl;
    }

-- ---- what those that stay change

pub covers_none : (marks : Marking) (coins : List (OutPoint × Option ℤ)) → coins ≡ [] → Covers marks coins []
unfolding changed after_txs
covers_none marks coins none = rw none (λ u q some. refl)

pub covers_more : (marks : Marking) (coins others : List (OutPoint × Option ℤ)) (kept : List Tx) (tx : Tx) → ((u : Unspent) → changed u (changes_of others) ≡ after_tx (changed u (changes_of coins)) tx) → Covers marks coins kept
    → Covers marks others (kept ++ tx ∷ [])
covers_more marks coins others kept tx after so_far u q some =
    ap (λ (m : Unspent). finite.get m q) (after u)
    ∙ same_by (changed u (changes_of coins)) (after_txs u kept) tx q (so_far u q some)
    ∙ sym (ap (λ (m : Unspent). finite.get m q) (after_more u kept tx))

pub covers_passed : (marks : Marking) (coins : List (OutPoint × Option ℤ)) (kept : List Tx) (tx : Tx) → ((q : OutPoint) → IsTouchedBy tx q → mark_at marks q ≡ None) → Covers marks coins kept → Covers marks coins (kept ++ tx ∷ [])
covers_passed marks coins kept tx free so_far u q some =
    so_far u q some
    ∙ sym (untouched_by (after_txs u kept) tx q (λ touched. false≢true (ap is_some (sym (free q touched)) ∙ some)))
    ∙ sym (ap (λ (m : Unspent). finite.get m q) (after_more u kept tx))

pub record Covering (marks : Marking) (coins : List (OutPoint × Option ℤ)) (gone : List Hash256) (list rest : List Pooled) : Type 0 where
  pub done : List Pooled
  pub whole : done ++ rest ≡ list
  pub covers : Covers marks coins (txs_of (staying gone done))

pub covering_none : (marks : Marking) (coins : List (OutPoint × Option ℤ)) (gone : List Hash256) (list : List Pooled) → coins ≡ [] → Covering marks coins gone list list
covering_none marks coins gone list none = record { done = []; whole = refl; covers = covers_none marks coins none }

pub noted_gone : (marks : Marking) (coins : List (OutPoint × Option ℤ)) (gone : List Hash256) (done : List Pooled) (pooled : Pooled) → is_gone gone (txid_of pooled.tx) ≡ true → Covers marks coins (txs_of (staying gone done))
    → Covers marks coins (txs_of (staying gone (done ++ pooled ∷ [])))
noted_gone marks coins gone done pooled out so_far = subst (λ (l : List Pooled). Covers marks coins (txs_of l)) (sym (gone_last gone done pooled out)) so_far

pub noted_stays : (marks : Marking) (coins others : List (OutPoint × Option ℤ)) (gone : List Hash256) (done : List Pooled) (pooled : Pooled) → is_gone gone (txid_of pooled.tx) ≡ false
    → ((kept : List Tx) → Covers marks coins kept → Covers marks others (kept ++ pooled.tx ∷ [])) → Covers marks coins (txs_of (staying gone done)) → Covers marks others (txs_of (staying gone (done ++ pooled ∷ [])))
noted_stays marks coins others gone done pooled stays more so_far =
    let both : txs_of (staying gone (done ++ pooled ∷ [])) ≡ txs_of (staying gone done) ++ pooled.tx ∷ [] = ap txs_of (stay_last gone done pooled stays) ∙ txs_last (staying gone done) pooled in
    subst (Covers marks others) (sym both) (more (txs_of (staying gone done)) so_far)

pub covering_more : (marks : Marking) (coins others : List (OutPoint × Option ℤ)) (gone : List Hash256) (list rest : List Pooled) (pooled : Pooled)
    → ((done : List Pooled) → Covers marks coins (txs_of (staying gone done)) → Covers marks others (txs_of (staying gone (done ++ pooled ∷ [])))) → Covering marks coins gone list (pooled ∷ rest) → Covering marks others gone list rest
covering_more marks coins others gone list rest pooled more so_far = record {
  done = so_far.done ++ pooled ∷ [];
  whole = append_assoc so_far.done (pooled ∷ []) rest ∙ so_far.whole;
  covers = more so_far.done so_far.covers;
}

pub all_covered : (marks : Marking) (coins : List (OutPoint × Option ℤ)) (gone : List Hash256) (list : List Pooled) → Covering marks coins gone list [] → Covers marks coins (txs_of (staying gone list))
all_covered marks coins gone list so_far = subst (λ (l : List Pooled). Covers marks coins (txs_of (staying gone l))) (sym (append-nil so_far.done) ∙ so_far.whole) so_far.covers

-- ---- a block

abbrev pub Leads : Marking → Marking → List Tx → Type 0
Leads old new txs = (was now next : Unspent) → spend now txs ≡ Ok next → Tells old was now → Tells new was next

pub block_none : (marks : Marking) → Leads marks marks []
unfolding spend
block_none marks was now next e tells = subst (Tells marks was) (ok_is now next e) tells

only_one : (u w : Unspent) (tx : Tx) → spend u (tx ∷ []) ≡ Ok w → spend_tx u tx ≡ Ok w
unfolding spend
only_one u w tx e = let a = first_of u w tx [] e in a.1 ∙ ap Ok (ok_is a.0 w a.2)

pub block_more : (old mid new : Marking) (txs : List Tx) (place : ℕ) (tx : Tx) → place < length txs → tx ≡ get_or txs place tx
    → ((was now next : Unspent) → spend_tx now tx ≡ Ok next → Tells mid was now → Tells new was next) → Leads old mid (take place txs) → Leads old new (take (place + 1) txs)
block_more old mid new txs place tx lt is one so_far was now next e tells =
    let longer : take (place + 1) txs ≡ take place txs ++ tx ∷ [] = take_more txs place tx lt ∙ ap (λ (t : Tx). take place txs ++ t ∷ []) (sym is) in
    let parts = spend_split now next (take place txs) (tx ∷ []) (ap (spend now) (sym longer) ∙ e) in
    one was parts.0 next (only_one parts.0 next tx parts.2) (so_far was now parts.0 parts.1 tells)

pub block_all : (old new : Marking) (txs : List Tx) (place : ℕ) → length txs ≤ place → Leads old new (take place txs) → Leads old new txs
block_all old new txs place le so_far = subst (Leads old new) (take_all place txs le) so_far
