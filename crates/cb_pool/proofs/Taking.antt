-- Why a transaction isn't taken, and taking those that apply in turn.
use Rattle.std.proofs.Common.{◌≡◌, ℕ, ◌<◌, ◌⊎◌, true, false, if◌then◌else◌, List, [], ◌∷◌, ◌++◌, length, map, Some, None, Option, is_some, refl, sym, ap, subst, ◌∙◌, arith, inl, inr, append_assoc}
use Rattle.std.specs.Prelude.{IsOk, MatchOption, unwrap_or}
use Rattle.std.proofs.lemmas.Bool.{false≢true}
use Rattle.std.proofs.lemmas.List.{append-nil, map-append}
use Rattle.cb_base.specs.declared.fault.Fault.{Fault}
use Rattle.cb_base.specs.declared.fault.Fault.TheVariants.{Memory, Truncated, NotShortest, TooMany, BadTx, BadRoot, Mutated, Size64, Empty, BadCoinbase, BadWork, BadMagic, Oversize, Trailing, BadBool, BadIndex, WrongCount, Known, NoInput, PoolFull, Overspent, Remade, NoParent, BadParent, JournalFull, NotEnabled, Full, NoMore}
use Rattle.cb_block.specs.declared.tx.Tx.{Tx}
use Rattle.cb_ledger.specs.Spend.{spend}
use Rattle.cb_ledger.specs.Unspent.{Unspent}
use Rattle.cb_pool.specs.declared.members.Pooled.{Pooled}
use Rattle.cb_pool.specs.Folding.{Folds, Offer, Refolds, Took, new_offer, next_after, numbered, old_offer}
use Rattle.cb_pool.specs.Listing.{Listing, number_after, txs_of}
use Rattle.cb_pool.proofs.Named.{txs_long}
use Rattle.cb_pool.specs.Rules.{Applies, CannotSpend, Refuses}

-- ---- one transaction

pub refuses_from : (u : Unspent) (taken : List Tx) (tx : Tx) (fault : Fault) → (fault ≡ NoInput) ⊎ ((fault ≡ Overspent) ⊎ (fault ≡ Remade)) → CannotSpend u taken tx fault → Refuses u taken tx fault
refuses_from u taken tx fault (inl e) h = rw e (subst (CannotSpend u taken tx) e h)
refuses_from u taken tx fault (inr (inl e)) h = rw e (subst (CannotSpend u taken tx) e h)
refuses_from u taken tx fault (inr (inr e)) h = rw e (subst (CannotSpend u taken tx) e h)

cannot : (u : Unspent) (taken : List Tx) (tx : Tx) (fault : Fault) → CannotSpend u taken tx fault → ¬ Applies u taken tx
cannot u taken tx fault h applies = false≢true (subst IsOk h.2 applies.spends)

-- a reason against a transaction says that it doesn't apply
pub refuses_not : (u : Unspent) (taken : List Tx) (tx : Tx) (fault : Fault) → Refuses u taken tx fault → ¬ Applies u taken tx
refuses_not u taken tx (BadTx rule) h applies = applies.alone.rules rule h.broken
refuses_not u taken tx BadCoinbase h applies = applies.alone.ordinary h.1
refuses_not u taken tx Size64 h applies = applies.alone.size h.2
refuses_not u taken tx Known h applies = false≢true (sym applies.fresh ∙ h.1)
refuses_not u taken tx NoInput h applies = cannot u taken tx NoInput h applies
refuses_not u taken tx Overspent h applies = cannot u taken tx Overspent h applies
refuses_not u taken tx Remade h applies = cannot u taken tx Remade h applies
refuses_not u taken tx PoolFull h applies = absurd (omega (arith, h.3, applies.fits))
refuses_not u taken tx Memory h applies = h
refuses_not u taken tx Truncated h applies = h
refuses_not u taken tx NotShortest h applies = h
refuses_not u taken tx TooMany h applies = h
refuses_not u taken tx BadRoot h applies = h
refuses_not u taken tx Mutated h applies = h
refuses_not u taken tx Empty h applies = h
refuses_not u taken tx BadWork h applies = h
refuses_not u taken tx BadMagic h applies = h
refuses_not u taken tx Oversize h applies = h
refuses_not u taken tx Trailing h applies = h
refuses_not u taken tx BadBool h applies = h
refuses_not u taken tx BadIndex h applies = h
refuses_not u taken tx WrongCount h applies = h
refuses_not u taken tx NoParent h applies = h
refuses_not u taken tx BadParent h applies = h
refuses_not u taken tx JournalFull h applies = h
refuses_not u taken tx NotEnabled h applies = h
refuses_not u taken tx Full h applies = h
refuses_not u taken tx NoMore h applies = h

-- what was told, by whether a reason was
pub applies_from : (u : Unspent) (taken : List Tx) (tx : Tx) (told : Option Fault) → MatchOption told (Applies u taken tx) (λ fault. Refuses u taken tx fault) → is_some told ≡ false → Applies u taken tx
applies_from u taken tx None h e = h
applies_from u taken tx (Some fault) h e = absurd (false≢true (sym e))

pub refused_from : (u : Unspent) (taken : List Tx) (tx : Tx) (told : Option Fault) → MatchOption told (Applies u taken tx) (λ fault. Refuses u taken tx fault) → is_some told ≡ true → ¬ Applies u taken tx
refused_from u taken tx None h e = absurd (false≢true e)
refused_from u taken tx (Some fault) h e = refuses_not u taken tx fault h

-- ---- offers in turn

-- a pool's transaction for an offer
abbrev pub as_pooled : Offer → ℕ → Pooled
as_pooled offer next = record { tx = offer.tx; number = unwrap_or offer.number next }

abbrev pub next_behind : Offer → ℕ → ℕ
next_behind offer next = if is_some offer.number then next else number_after next

numbered_behind : (next : ℕ) (kept : List Offer) (offer : Offer) → numbered next (kept ++ offer ∷ []) ≡ numbered next kept ++ as_pooled offer (next_after next kept) ∷ []
numbered_behind next [] offer = refl
numbered_behind next (first ∷ kept) offer = ap (λ (l : List Pooled). as_pooled first next ∷ l) (numbered_behind (next_behind first next) kept offer)

next_behind_last : (next : ℕ) (kept : List Offer) (offer : Offer) → next_after next (kept ++ offer ∷ []) ≡ next_behind offer (next_after next kept)
next_behind_last next [] offer = refl
next_behind_last next (first ∷ kept) offer = next_behind_last (next_behind first next) kept offer

pub took_none : (u : Unspent) (all : List Offer) (next : ℕ) (old : List Pooled) → Took u all all next old old next
took_none u all next old = record { kept = []; folds = λ more others h. h; list_is = sym (append-nil old); next_is = refl }

pub took_more : (u : Unspent) (all rest : List Offer) (offer : Offer) (next : ℕ) (old now : List Pooled) (last : ℕ) → Took u all (offer ∷ rest) next old now last → Applies u (txs_of now) offer.tx
    → Took u all rest next old (now ++ as_pooled offer last ∷ []) (next_behind offer last)
took_more u all rest offer next old now last took applies =
    let longer : txs_of (now ++ as_pooled offer last ∷ []) ≡ txs_of now ++ offer.tx ∷ [] = map-append (λ (pooled : Pooled). pooled.tx) now (as_pooled offer last ∷ []) in
    record {
      kept = took.kept ++ offer ∷ [];
      folds = λ more others h.
          let whole : Folds u (txs_of now) (offer ∷ rest ++ more) (offer ∷ others) = inl (applies, (others, refl, subst (λ (l : List Tx). Folds u l (rest ++ more) others) longer h)) in
          subst (λ (l : List Offer). Folds u (txs_of old) (all ++ more) l) (sym (append_assoc took.kept (offer ∷ []) others)) (took.folds more (offer ∷ others) whole);
      list_is =
          ap (λ (l : List Pooled). l ++ as_pooled offer last ∷ []) took.list_is
          ∙ append_assoc old (numbered next took.kept) (as_pooled offer last ∷ [])
          ∙ ap (λ (n : ℕ). old ++ (numbered next took.kept ++ as_pooled offer n ∷ [])) took.next_is
          ∙ ap (λ (l : List Pooled). old ++ l) (sym (numbered_behind next took.kept offer));
      next_is = ap (next_behind offer) took.next_is ∙ sym (next_behind_last next took.kept offer);
    }

pub took_passed : (u : Unspent) (all rest : List Offer) (offer : Offer) (next : ℕ) (old now : List Pooled) (last : ℕ) → Took u all (offer ∷ rest) next old now last → ¬ Applies u (txs_of now) offer.tx
    → Took u all rest next old now last
took_passed u all rest offer next old now last took refused = record {
  kept = took.kept;
  folds = λ more others h. took.folds more others (inr (refused, h));
  list_is = took.list_is;
  next_is = took.next_is;
}

numbered_both : (next : ℕ) (kept others : List Offer) → numbered next (kept ++ others) ≡ numbered next kept ++ numbered (next_after next kept) others
numbered_both next [] others = refl
numbered_both next (first ∷ kept) others = ap (λ (l : List Pooled). as_pooled first next ∷ l) (numbered_both (next_behind first next) kept others)

next_both : (next : ℕ) (kept others : List Offer) → next_after next (kept ++ others) ≡ next_after (next_after next kept) others
next_both next [] others = refl
next_both next (first ∷ kept) others = next_both (next_behind first next) kept others

-- the first ones, and then those of the pool
pub took_both : (u : Unspent) (first : List Tx) (old new : Listing) (mid : List Pooled) (between : ℕ) → Took u (map new_offer first) [] old.next [] mid between
    → Took u (map old_offer old.list) [] between mid new.list new.next → Refolds u first old new
took_both u first old new mid between one two = record {
  kept = one.kept ++ two.kept;
  folds =
      let last : Folds u (txs_of mid) (map old_offer old.list ++ []) (two.kept ++ []) = two.folds [] [] refl in
      let second : Folds u (txs_of mid) (map old_offer old.list) two.kept = subst (λ (l : List Offer). Folds u (txs_of mid) l two.kept) (append-nil (map old_offer old.list)) (subst (λ (l : List Offer). Folds u (txs_of mid) (map old_offer old.list ++ []) l) (append-nil two.kept) last) in
      one.folds (map old_offer old.list) two.kept second;
  list_is = two.list_is ∙ ap (λ (l : List Pooled). l ++ numbered between two.kept) one.list_is ∙ ap (λ (n : ℕ). numbered old.next one.kept ++ numbered n two.kept) one.next_is ∙ sym (numbered_both old.next one.kept two.kept);
  next_is = two.next_is ∙ ap (λ (n : ℕ). next_after n two.kept) one.next_is ∙ sym (next_both old.next one.kept two.kept);
}

-- the list with one more applies too
pub more_applies : (u : Unspent) (now : List Pooled) (pooled : Pooled) → Applies u (txs_of now) pooled.tx → IsOk (spend u (txs_of (now ++ pooled ∷ [])))
more_applies u now pooled applies =
    subst (λ (l : List Tx). IsOk (spend u l)) (sym (map-append (λ (one : Pooled). one.tx) now (pooled ∷ []))) applies.spends

pub fits_from : (u : Unspent) (now : List Pooled) (tx : Tx) → Applies u (txs_of now) tx → length now < 10000
fits_from u now tx applies = omega (arith, txs_long now, applies.fits)

pub nothing_applies : (u : Unspent) → IsOk (spend u [])
unfolding spend
nothing_applies u = refl
