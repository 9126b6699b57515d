-- Which addresses are dialled from the start.
use Rattle.std.proofs.Common.{◌≡◌, ◌⊎◌, ◌<◌, ℕ, ◌+◌, zero, suc, List, [], ◌∷◌, ◌++◌, get_or, length, take, inl, inr, sym, subst, ap, arith, ◌∙◌}
use Rattle.std.proofs.lemmas.List.{map-append, take_more}
use Rattle.std.proofs.lemmas.List.Elements.{All-append, All-cons, All-nil, All-weaker, Contains-append_left, Contains-append_right, Contains-push, Contains-push_cases}
use Rattle.std.specs.List.{Contains}
use Rattle.std.specs.declared.net.socket_addr.SocketAddr.{SocketAddr}
use Rattle.cb_process.specs.declared.dialling.Target.{Target}
use Rattle.cb_process.specs.Dialling.{AreDialled, AreDifferent, addresses_of}
use Rattle.cb_process.specs.OwnAddress.{IsOwn}

in_none : (address : SocketAddr) → Contains [] address → ⊥
in_none address c = absurd (omega (arith, c.1))

different_more : (addresses : List SocketAddr) (address : SocketAddr) → AreDifferent addresses → (Contains addresses address → ⊥) → AreDifferent (addresses ++ address ∷ [])
different_more [] address different new = ((λ c. in_none address c), tt)
different_more (first ∷ rest) address different new = (
  (λ c. elim (Contains-push_cases rest address first c) [
    | inl had ↦ different.0 had
    | inr same ↦ new (subst (λ (a : SocketAddr). Contains (first ∷ rest) a) (sym same) (Contains-append_left (first ∷ []) rest first (Contains-push [] first)))
  ]),
  different_more rest address different.1 (λ c. new (Contains-append_right (first ∷ []) rest address c)),
)

pub aimed_none : (own : SocketAddr) → AreDialled own [] []
aimed_none own = record { asked_for = All-nil (Contains []); never_own = All-nil (λ address. IsOwn own address → ⊥); once = tt; each = λ address c mine. absurd (in_none address c) }

-- one more is dialled
aimed_more : (own address : SocketAddr) (asked dialled : List SocketAddr) → (IsOwn own address → ⊥) → (Contains dialled address → ⊥) → AreDialled own asked dialled → AreDialled own (asked ++ address ∷ []) (dialled ++ address ∷ [])
aimed_more own address asked dialled mine known d =
    record {
      asked_for = All-append (Contains (asked ++ address ∷ [])) dialled (address ∷ []) (All-weaker (Contains asked) (Contains (asked ++ address ∷ [])) (λ x c. Contains-append_left asked (address ∷ []) x c) dialled d.asked_for) (All-cons (Contains (asked ++ address ∷ [])) address [] (Contains-push asked address) (All-nil (Contains (asked ++ address ∷ []))));
      never_own = All-append (λ (a : SocketAddr). IsOwn own a → ⊥) dialled (address ∷ []) d.never_own (All-cons (λ (a : SocketAddr). IsOwn own a → ⊥) address [] mine (All-nil (λ (a : SocketAddr). IsOwn own a → ⊥)));
      once = different_more dialled address d.once known;
      each = λ x c not. elim (Contains-push_cases asked address x c) [
        | inl had ↦ Contains-append_left dialled (address ∷ []) x (d.each x had not)
        | inr same ↦ subst (λ (a : SocketAddr). Contains (dialled ++ address ∷ []) a) same (Contains-push dialled address)
      ];
    }

-- it is the node's own, or dialled already
aimed_same : (own address : SocketAddr) (asked dialled : List SocketAddr) → IsOwn own address ⊎ Contains dialled address → AreDialled own asked dialled → AreDialled own (asked ++ address ∷ []) dialled
aimed_same own address asked dialled why d =
    record {
      asked_for = All-weaker (Contains asked) (Contains (asked ++ address ∷ [])) (λ x c. Contains-append_left asked (address ∷ []) x c) dialled d.asked_for;
      never_own = d.never_own;
      once = d.once;
      each = λ x c not. elim (Contains-push_cases asked address x c) [
        | inl had ↦ d.each x had not
        | inr same ↦ elim why [
          | inl mine ↦ absurd (not (subst (λ (a : SocketAddr). IsOwn own a) same mine))
          | inr known ↦ subst (λ (a : SocketAddr). Contains dialled a) same known
        ]
      ];
    }

pub aimed_own : (own address : SocketAddr) (asked dialled : List SocketAddr) → IsOwn own address → AreDialled own asked dialled → AreDialled own (asked ++ address ∷ []) dialled
aimed_own own address asked dialled mine d = aimed_same own address asked dialled (inl mine) d

pub aimed_known : (own address : SocketAddr) (asked dialled : List SocketAddr) → Contains dialled address → AreDialled own asked dialled → AreDialled own (asked ++ address ∷ []) dialled
aimed_known own address asked dialled known d = aimed_same own address asked dialled (inr known) d

pub aimed_push : (own address : SocketAddr) (asked : List SocketAddr) (old new : List Target) (target : Target) → (IsOwn own address → ⊥) → (Contains (addresses_of old) address → ⊥) → target.address ≡ address → new ≡ old ++ target ∷ []
    → AreDialled own asked (addresses_of old) → AreDialled own (asked ++ address ∷ []) (addresses_of new)
aimed_push own address asked old new target mine known at is d =
    let mapped : addresses_of new ≡ addresses_of old ++ address ∷ [] = ap addresses_of is ∙ map-append (λ (t : Target). t.address) old (target ∷ []) ∙ ap (λ (a : SocketAddr). addresses_of old ++ a ∷ []) at in
    subst (λ (dialled : List SocketAddr). AreDialled own (asked ++ address ∷ []) dialled) (sym mapped) (aimed_more own address asked (addresses_of old) mine known d)

-- ---- whether an address is among those of targets

mapped_at : (targets : List Target) (i : ℕ) (d : Target) → i < length targets → Contains (addresses_of targets) (get_or targets i d).address
mapped_at [] i d within = absurd (omega (arith, within))
mapped_at (target ∷ targets) zero d within = Contains-append_left (target.address ∷ []) (addresses_of targets) target.address (Contains-push [] target.address)
mapped_at (target ∷ targets) (suc i) d within = Contains-append_right (target.address ∷ []) (addresses_of targets) (get_or targets i d).address (mapped_at targets i d (omega (arith, within)))

pub found_at : (targets : List Target) (i : ℕ) (d target : Target) (address : SocketAddr) → i < length targets → target ≡ get_or targets i d → target.address ≡ address → Contains (addresses_of targets) address
found_at targets i d target address within at same =
    subst (λ (a : SocketAddr). Contains (addresses_of targets) a) (ap (λ (t : Target). t.address) (sym at) ∙ same) (mapped_at targets i d within)

-- not among those up to a place
pub none_yet : (address : SocketAddr) → Contains [] address → ⊥
none_yet address c = in_none address c

pub not_yet : (targets : List Target) (i : ℕ) (d target : Target) (address : SocketAddr) → i < length targets → target ≡ get_or targets i d → (target.address ≡ address → ⊥)
    → (Contains (addresses_of (take i targets)) address → ⊥) → Contains (addresses_of (take (i + 1) targets)) address → ⊥
not_yet targets i d target address within at other before c =
    let step : take (i + 1) targets ≡ take i targets ++ target ∷ [] = take_more targets i d within ∙ ap (λ (t : Target). take i targets ++ t ∷ []) (sym at) in
    let mapped : addresses_of (take (i + 1) targets) ≡ addresses_of (take i targets) ++ target.address ∷ [] = ap addresses_of step ∙ map-append (λ (t : Target). t.address) (take i targets) (target ∷ []) in
    elim (Contains-push_cases (addresses_of (take i targets)) target.address address (subst (λ (all : List SocketAddr). Contains all address) mapped c)) [
      | inl had ↦ before had
      | inr same ↦ other same
    ]
