-- Reading items one after the other, as a loop does.
use Rattle.std.proofs.Common.{◌≡◌, ℕ, suc, ◌-◌, ◌+◌, ◌≤◌, ◌<◌, ◌⊎◌, List, [], ◌∷◌, ◌++◌, length, ltb, Ok, Err, refl, sym, ap, ◌∙◌, append_assoc, arith, inl, inr}
use Rattle.std.proofs.lemmas.Bool.{ltb-false}
use Rattle.std.proofs.lemmas.List.{append-nil, length-take}
use Rattle.cb_base.specs.declared.fault.Fault.{Fault}
use Rattle.cb_base.specs.declared.fault.Fault.TheVariants.{Memory, Truncated}
use Rattle.cb_base.specs.Reading.{Read, ◌>>=◌, bytes_at}
use Rattle.cb_base.proofs.Fields.{guard_ok}
use Rattle.cb_block.specs.TxReading.{items_at}

-- bytes that were read are as many as were asked for
pub bytes_long : (n : ℕ) (bytes text rest : List ℕ) → bytes_at n bytes ≡ Ok (text, rest) → length text ≡ n
bytes_long n bytes text rest e =
    let g = guard_ok (ltb (length bytes) n) Truncated _ (text, rest) e in
    let long : n ≤ length bytes = ltb-false _ _ g.0 in
    let same = ap (λ (p : List ℕ × List ℕ). length p.0) g.1 in
    sym same ∙ omega (arith, length-take n bytes)

-- what was read before, and what is still read
abbrev pub with_front : {A : Type 0} → List A → Read (List A) → Read (List A)
with_front front read = read >>= λ x. Ok (front ++ x.0, x.1)

module _ (A : Type 0) (item_at : List ℕ → Read A) where
  regroup : (front : List A) (x : A) (read : Read (List A)) → with_front front (read >>= λ xs. Ok (x ∷ xs.0, xs.1)) ≡ with_front (front ++ x ∷ []) read
  regroup front x (Ok xs) = ap (λ (ys : List A). Ok (ys, xs.1)) (simp append_assoc)
  regroup front x (Err f) = refl

  pub goes_on : (front : List A) (count i : ℕ) (bytes : List ℕ) (x : A) (after : List ℕ) (total : Read (List A)) → i < count → item_at bytes ≡ Ok (x, after)
      → with_front front (items_at item_at (count - i) bytes) ≡ total → with_front (front ++ x ∷ []) (items_at item_at (count - (i + 1)) after) ≡ total
  unfolding items_at
  goes_on front count i bytes x after total lt h so_far =
      let k : count - i ≡ suc (count - (i + 1)) = omega arith in
      let one : with_front front (items_at item_at (count - i) bytes) ≡ with_front (front ++ x ∷ []) (items_at item_at (count - (i + 1)) after) = rw (k, h) (regroup front x (items_at item_at (count - (i + 1)) after)) in
      sym one ∙ so_far

  pub ends : (fault : Fault) (front : List A) (count i : ℕ) (bytes : List ℕ) (total : Read (List A)) → i < count → ((fault ≡ Memory) ⊎ (item_at bytes ≡ Err fault))
      → with_front front (items_at item_at (count - i) bytes) ≡ total → (fault ≡ Memory) ⊎ (total ≡ Err fault)
  unfolding items_at
  ends fault front count i bytes total lt (inl memory) so_far = inl memory
  ends fault front count i bytes total lt (inr h) so_far =
      let k : count - i ≡ suc (count - (i + 1)) = omega arith in
      let one : with_front front (items_at item_at (count - i) bytes) ≡ Err fault = rw (k, h) refl in
      inr (sym so_far ∙ one)

  pub is_done : (front : List A) (count i : ℕ) (bytes : List ℕ) (total : Read (List A)) → count ≤ i → with_front front (items_at item_at (count - i) bytes) ≡ total → total ≡ Ok (front, bytes)
  unfolding items_at
  is_done front count i bytes total le so_far =
      let k : count - i ≡ 0 = omega arith in
      let one : with_front front (items_at item_at (count - i) bytes) ≡ Ok (front, bytes) = rw k (ap (λ (xs : List A). Ok (xs, bytes)) (append-nil front)) in
      sym so_far ∙ one
