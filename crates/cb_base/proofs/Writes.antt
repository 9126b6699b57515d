-- What went out of a piece, write by write.
use Rattle.std.proofs.Common.{◌≡◌, ◌≢◌, ℕ, List, [], ◌++◌, length, take, drop, false, Option, Some, None, refl, sym, ap, ◌∙◌, append_assoc, arith}
use Rattle.std.specs.Prelude.{◌&&◌, ◌==◌, Bool, nat_lt, if◌then◌else◌}
use Rattle.std.proofs.lemmas.Bool.Decides.{nat_tests}
use Rattle.std.proofs.lemmas.List.{length-take, take-append-drop}
use Rattle.std.specs.Io.KnownBytes.{Appends}
use Rattle.cb_base.specs.declared.sink.SinkFailure.{SinkFailure}
use Rattle.cb_base.specs.declared.sink.SinkFailure.TheVariants.{Zero}
use Rattle.cb_base.specs.Bytes.{failure_after}
use Rattle.cb_base.proofs.Known.{Keeps-same, Appends-then, Appends-nothing}

-- the front of a piece was taken, and this is left
pub record Taken (old new : Option (List ℕ)) (piece rest : List ℕ) : Type 0 where
  pub front : List ℕ
  pub parts : piece ≡ front ++ rest
  pub appended : Appends old new front

-- one write more
pub taken_more : (a b c : Option (List ℕ)) (piece rest after : List ℕ) (n : ℕ) → Taken a b piece rest → Appends b c (take n rest) → after ≡ drop n rest → Taken a c piece after
taken_more a b c piece rest after n t w d =
    record {
      front = t.front ++ take n rest;
      parts =
          t.parts ∙ ap (λ (x : List ℕ). t.front ++ x) (sym (take-append-drop n rest)) ∙ sym (append_assoc t.front (take n rest) (drop n rest))
          ∙ ap (λ (x : List ℕ). (t.front ++ take n rest) ++ x) (sym d);
      appended = Appends-then a b c t.front (take n rest) t.appended w;
    }

-- a write that took some bytes didn't fail
pub unfailed_more : (before after : Option SinkFailure) (n : ℕ) (rest : List ℕ) → after ≡ failure_after before (Some n) rest → n ≢ 0 → after ≡ before
unfailed_more (Some failure) after n rest e some = e
unfailed_more None after n rest e some =
    let none : (n == 0) ≡ false = grind (arith, nat_tests) in
    e ∙ ap (λ b. if b && nat_lt 0 (length rest) then Some Zero else None) none

-- one write more, of a sink that has failed just if it had at first
pub heeds_more : {S : Type 0} (heeds : S → S → Type 0) → ((a b c : S) → heeds a b → heeds b c → heeds a c) → (a b c : S) (had has : Bool) → (had ≡ false → heeds a b) → has ≡ had → (has ≡ false → heeds b c) → had ≡ false → heeds a c
heeds_more heeds both a b c had has before same more unfailed = both a b c (before unfailed) (more (same ∙ unfailed))
