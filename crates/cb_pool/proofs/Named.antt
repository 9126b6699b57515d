-- Transactions under their names.
use Rattle.std.proofs.Common.{◌≡◌, ℕ, zero, suc, ◌<◌, ◌≤◌, true, false, List, [], ◌∷◌, ◌++◌, length, get_or, map, Some, None, Option, is_some, refl, sym, ℤ, ap, subst, ◌∙◌, arith, inl, inr}
use Rattle.std.specs.Prelude.{◌≢◌, All, option_map, slice_get}
use Rattle.cb_block.specs.Blocks.{HasOneCoinbase, texts}
use Rattle.cb_block.specs.TxText.{tx_text}
use Rattle.std.specs.List.{AllByRecursion}
use Rattle.std.specs.Map.{lookup}
use Rattle.std.proofs.lemmas.List.{length-append, length-map, map-append}
use Rattle.std.proofs.lemmas.Bool.{cases_Bool, false≢true}
use Rattle.cb_base.specs.declared.hash.Hash256.{Hash256}
use Rattle.cb_block.specs.declared.tx.Tx.{Tx}
use Rattle.cb_block.specs.declared.tx.OutPoint.{OutPoint}
use Rattle.cb_block.specs.TxRules.{IsCoinbase, IsCoinbaseInputs, MeetsFirst, MeetsRules}
use Rattle.cb_block.specs.declared.tx.TxIn.{TxIn}
use Rattle.cb_ledger.specs.Undo.{changed, changes_of}
use Rattle.cb_ledger.specs.Unspent.{Unspent}
use Rattle.cb_pool.specs.Leaving.{AreMembers, after_tx, after_txs}
use Rattle.cb_pool.proofs.Spent.{after_more}
use Rattle.cb_pool.specs.declared.members.Pooled.{Pooled}
use Rattle.cb_pool.specs.Listing.{txs_of}
use Rattle.cb_pool.specs.Rules.{IsUntold, StandsAlone, is_named_in, named_in, same}
use Rattle.cb_block.specs.Txid.{txid_of}

abbrev pub AreNamed : List (Hash256 × Pooled) → Type 0
AreNamed = AllByRecursion (λ (entry : Hash256 × Pooled). entry.0 ≡ txid_of entry.1.tx)

abbrev pub pooled_of : List (Hash256 × Pooled) → List Pooled
pooled_of entries = map (λ (entry : Hash256 × Pooled). entry.1) entries

-- what stands under a name is the first transaction of that name
pub looked_up : (entries : List (Hash256 × Pooled)) (txid : Hash256) → AreNamed entries → option_map (λ (pooled : Pooled). pooled.tx) (lookup (same txid) entries) ≡ named_in (txs_of (pooled_of entries)) txid
looked_up [] txid names = refl
looked_up (entry ∷ entries) txid names =
    elim (cases_Bool (same txid entry.0)) [
      | inl is ↦ let here : same txid (txid_of entry.1.tx) ≡ true = ap (same txid) (sym names.0) ∙ is in rw (is, here) refl
      | inr isnt ↦ let there : same txid (txid_of entry.1.tx) ≡ false = ap (same txid) (sym names.0) ∙ isnt in rw (isnt, there) (looked_up entries txid names.1)
    ]

some_of : (found : Option Pooled) → is_some (option_map (λ (pooled : Pooled). pooled.tx) found) ≡ is_some found
some_of None = refl
some_of (Some pooled) = refl

pub is_there : (entries : List (Hash256 × Pooled)) (txid : Hash256) → AreNamed entries → is_some (lookup (same txid) entries) ≡ is_named_in (txs_of (pooled_of entries)) txid
is_there entries txid names = sym (some_of (lookup (same txid) entries)) ∙ ap is_some (looked_up entries txid names)

none_at : (found : Option Pooled) → is_some found ≡ false → found ≡ None
none_at None e = refl
none_at (Some pooled) e = absurd (false≢true (sym e))

pub is_absent : (entries : List (Hash256 × Pooled)) (txid : Hash256) → AreNamed entries → is_named_in (txs_of (pooled_of entries)) txid ≡ false → lookup (same txid) entries ≡ None
is_absent entries txid names fresh = none_at (lookup (same txid) entries) (is_there entries txid names ∙ fresh)

-- ---- one more

pub all_more : {X : Type 0} (P : X → Type 0) (xs : List X) (x : X) → AllByRecursion P xs → P x → AllByRecursion P (xs ++ x ∷ [])
all_more P [] x all one = (one, tt)
all_more P (y ∷ xs) x all one = (all.0, all_more P xs x all.1 one)

pub members_none : (entries : List (Hash256 × Pooled)) (coins : List (OutPoint × Option ℤ)) → entries ≡ [] → coins ≡ [] → AreMembers entries (pooled_of entries) coins
unfolding changed after_txs
members_none entries coins e none = rw (e, none) (record { names = tt; alone = tt; few = omega arith; after = λ u. refl })

pub members_kept : (entries next : List (Hash256 × Pooled)) (coins others : List (OutPoint × Option ℤ)) → AreMembers entries (pooled_of entries) coins → next ≡ entries
    → ((u : Unspent) → changed u (changes_of others) ≡ changed u (changes_of coins)) → AreMembers next (pooled_of next) others
members_kept entries next coins others members same_entries same_coins =
    rw same_entries (record { names = members.names; alone = members.alone; few = members.few; after = λ u. same_coins u ∙ members.after u })

pub members_more : (entries next : List (Hash256 × Pooled)) (coins others : List (OutPoint × Option ℤ)) (txid : Hash256) (pooled : Pooled) → AreMembers entries (pooled_of entries) coins
    → next ≡ entries ++ (txid, pooled) ∷ [] → txid ≡ txid_of pooled.tx → StandsAlone pooled.tx → length (pooled_of entries) < 10000
    → ((u : Unspent) → changed u (changes_of others) ≡ after_tx (changed u (changes_of coins)) pooled.tx) → AreMembers next (pooled_of next) others
members_more entries next coins others txid pooled members next_is name alone fits after =
    let longer : pooled_of (entries ++ (txid, pooled) ∷ []) ≡ pooled_of entries ++ pooled ∷ [] = map-append (λ (entry : Hash256 × Pooled). entry.1) entries ((txid, pooled) ∷ []) in
    let txs : txs_of (pooled_of entries ++ pooled ∷ []) ≡ txs_of (pooled_of entries) ++ pooled.tx ∷ [] = map-append (λ (one : Pooled). one.tx) (pooled_of entries) (pooled ∷ []) in
    rw (next_is, longer) (record {
      names = all_more (λ (entry : Hash256 × Pooled). entry.0 ≡ txid_of entry.1.tx) entries (txid, pooled) members.names name;
      alone = all_more (λ (one : Pooled). StandsAlone one.tx) (pooled_of entries) pooled members.alone alone;
      few = omega (arith, length-append (pooled_of entries) (pooled ∷ []));
      after = λ u. after u ∙ ap (λ (m : Unspent). after_tx m pooled.tx) (members.after u) ∙ sym (after_more u (txs_of (pooled_of entries)) pooled.tx) ∙ ap (after_txs u) (sym txs);
    })

-- a coinbase has one input
several_inputs : (inputs : List TxIn) → 1 < length inputs → ¬ IsCoinbaseInputs inputs
several_inputs [] lt is = absurd (omega arith)
several_inputs (only ∷ []) lt is = absurd (omega arith)
several_inputs (first ∷ second ∷ others) lt is = is

-- what a list of a pool has at a place
pub at_place : (entries : List (Hash256 × Pooled)) (place : ℕ) → slice_get (txs_of (pooled_of entries)) place ≡ option_map (λ (entry : Hash256 × Pooled). entry.1.tx) (slice_get entries place)
at_place [] place = refl
at_place (entry ∷ entries) zero = refl
at_place (entry ∷ entries) (suc place) = at_place entries place

pub txs_long : (list : List Pooled) → length (txs_of list) ≡ length list
txs_long list = length-map list (λ (pooled : Pooled). pooled.tx)

pub pooled_long : (entries : List (Hash256 × Pooled)) → length (pooled_of entries) ≡ length entries
pooled_long entries = length-map entries (λ (entry : Hash256 × Pooled). entry.1)

-- ---- transactions of a block

pub behind_coinbase : (txs : List Tx) (place : ℕ) (tx : Tx) → HasOneCoinbase txs → 0 < place → place < length txs → get_or txs place tx ≡ tx → ¬ IsCoinbase tx
behind_coinbase [] place tx h lt within is = absurd (omega arith)
behind_coinbase (first ∷ txs) zero tx h lt within is = absurd (omega arith)
behind_coinbase (first ∷ txs) (suc place) tx h lt within is = subst (λ (t : Tx). ¬ IsCoinbase t) is (h.1 place tx (omega arith))

text_at : (txs : List Tx) (place : ℕ) (tx : Tx) → place < length txs → get_or txs place tx ≡ tx → get_or (texts txs) place [] ≡ tx_text tx
text_at [] place tx within is = absurd (omega arith)
text_at (first ∷ txs) zero tx within is = ap tx_text is
text_at (first ∷ txs) (suc place) tx within is = text_at txs place tx (omega arith) is

pub other_length : (txs : List Tx) (place : ℕ) (tx : Tx) → All (λ (text : List ℕ). length text ≢ 64) (texts txs) → place < length txs → get_or txs place tx ≡ tx → length (tx_text tx) ≢ 64
other_length txs place tx all within is =
    subst (λ (text : List ℕ). length text ≢ 64) (text_at txs place tx within is) (all place [] (omega (arith, within, length-map txs tx_text)))

pub stands_in_block : (txs : List Tx) (place : ℕ) (tx : Tx) → All MeetsRules txs → HasOneCoinbase txs → All (λ (text : List ℕ). length text ≢ 64) (texts txs) → 0 < place → place < length txs → get_or txs place tx ≡ tx
    → StandsAlone tx
stands_in_block txs place tx rules coinbase sizes lt within is = record {
  rules = subst MeetsRules is (rules place tx within);
  ordinary = behind_coinbase txs place tx coinbase lt within is;
  size = other_length txs place tx sizes within is;
}

pub got_at : {X : Type 0} (xs : List X) (place : ℕ) (x : X) → place < length xs → get_or xs place x ≡ x → slice_get xs place ≡ Some x
got_at [] place x within is = absurd (omega arith)
got_at (y ∷ xs) zero x within is = ap Some is
got_at (y ∷ xs) (suc place) x within is = got_at xs place x (omega arith) is

-- two inputs are more than a coinbase has
pub untold : (tx : Tx) → MeetsFirst tx → 2 ≤ length tx.inputs → IsUntold tx
untold tx first several = (first, several_inputs tx.inputs (omega (arith, several)), λ few. absurd (omega (arith, few, several)))

-- a relation that joins values of one kind alone, and says of two that they are one
pub copied : (is_copy : Option ℤ → Option ℤ → Type 0) → ((y : ℤ) → ¬ is_copy None (Some y)) → ((x : ℤ) → ¬ is_copy (Some x) None) → ((x y : ℤ) → is_copy (Some x) (Some y) → y ≡ x) → (v w : Option ℤ) → is_copy v w → w ≡ v
copied is_copy none some one None None h = refl
copied is_copy none some one None (Some y) h = absurd (none y h)
copied is_copy none some one (Some x) None h = absurd (some x h)
copied is_copy none some one (Some x) (Some y) h = ap Some (one x y h)
