-- What writes append to the known bytes of a writer.
use Rattle.std.proofs.Common.{◌≡◌, ℕ, ◌-◌, List, [], ◌++◌, length, take, drop, Option, None, Result, Ok, Err, OnErr, refl, sym, ap, ◌∙◌, subst, append_assoc, take-append-drop}
use Rattle.std.proofs.lemmas.List.{take_rest, take_at}
use Rattle.std.proofs.lemmas.List.{append-nil}
use Rattle.std.specs.Io.KnownBytes.{Appends}
use Rattle.cb_peer_state.specs.Writing.{Wrote}

-- Of a list some are gone and the rest is left; so it is after more of the rest are gone.
pub gone_more : (all done rest : List ℕ) (n : ℕ) → all ≡ done ++ rest → all ≡ (done ++ take n rest) ++ take (length rest - n) (drop n rest)
gone_more all done rest n e =
    e ∙ ap (λ l. done ++ l) (sym (take-append-drop n rest)) ∙ sym (append_assoc done (take n rest) (drop n rest)) ∙ ap (λ l. (done ++ take n rest) ++ l) (sym (take_rest rest n))

-- What is gone is a beginning.
pub gone_part : (a b : Option (List ℕ)) (all done rest : List ℕ) → all ≡ done ++ rest → Appends a b done → (n : ℕ) × Appends a b (take n all)
gone_part a b all done rest e appended =
    let first : take (length done) all ≡ done = ap (take (length done)) e ∙ take_at done rest (length done) refl in
    (length done, subst (Appends a b) (sym first) appended)

-- What holds anyway holds after an error.
pub on_err : {T E : Type 0} (r : Result T E) (P : Type 0) → P → OnErr r P
on_err (Ok x) P p = tt
on_err (Err e) P p = p

-- A sink that tells no bytes took a text.
pub wrote_untold : (text : List ℕ) (written : ℕ) → Wrote None None text written []
wrote_untold text written = record { sent = text; parts = sym (append-nil text); appended = tt; count = λ tells. absurd tells }
