-- A trace that kept its history keeps it behind an entry more, and behind a checkpoint that was due.
use Rattle.std.proofs.Common.{◌≡◌, ℕ, ◌⊎◌, Bool, true, false, List, [], ◌∷◌, ◌++◌, refl, sym, ap, subst, ◌∙◌, append_assoc, arith, inl, inr}
use Rattle.std.specs.Prelude.{◌||◌, is_none, length, nat_lt, not}
use Rattle.std.specs.List.{flat_map}
use Rattle.std.proofs.lemmas.Bool.{and_parts, ltb-false, ltb-true, or_cases}
use Rattle.std.proofs.lemmas.List.{append-nil}
use Rattle.std.proofs.lemmas.List.Concat.{flat_map-append}
use Rattle.std.proofs.lemmas.List.Elements.{All-push, All-nil}
use Rattle.cb_trace.specs.declared.trace.TraceEntry.{TraceEntry}
use Rattle.cb_trace.specs.Trace.{Grows, Rests, StandsFor, TraceView, held_of, is_due}
use Rattle.cb_trace.specs.Kept.{AreEnough, KeepsHistory, StillKeeps}

abbrev joined : List (List TraceEntry) → List TraceEntry
joined pieces = flat_map (λ piece. piece) pieces

-- a trace that stands for no entry has dropped none
none_kept : (trace : TraceView) (dropped entries : List TraceEntry) → [] ≡ dropped ++ entries → trace.entries ≡ entries → StandsFor trace [] → KeepsHistory trace
none_kept trace [] [] parts same stands = record { pieces = []; enough = All-nil AreEnough; stands = subst (λ (es : List TraceEntry). StandsFor trace es) (sym same) stands }
none_kept trace [] (entry ∷ entries) parts same stands = absurd cc
none_kept trace (entry ∷ dropped) entries parts same stands = absurd cc

pub new_keeps : (trace : TraceView) → StandsFor trace [] → KeepsHistory trace
new_keeps trace stands = none_kept trace stands.dropped trace.entries stands.parts refl stands

pub grown_keeps : (old new : TraceView) (entry : TraceEntry) → Grows old new entry → StillKeeps old new
grown_keeps old new entry grows keeps =
    record {
      pieces = keeps.pieces;
      enough = keeps.enough;
      stands =
          subst (λ (history : List TraceEntry). StandsFor new history)
          (append_assoc (joined keeps.pieces) old.entries (entry ∷ []) ∙ ap (λ (es : List TraceEntry). joined keeps.pieces ++ es) (sym grows.entries))
          (grows.history _ keeps.stands);
    }

not_few : (b : Bool) → not b ≡ true → b ≡ false
not_few true e = absurd cc
not_few false e = refl

enough_by : (entries : List TraceEntry) → (not (nat_lt (length entries) 65000) ≡ true) ⊎ (nat_lt 8000000 (held_of entries) ≡ true) → AreEnough entries
enough_by entries (inl many) = inl (let few = ltb-false (length entries) 65000 (not_few (nat_lt (length entries) 65000) many) in omega (arith, few))
enough_by entries (inr heavy) = inr (ltb-true 8000000 (held_of entries) heavy)

-- where a checkpoint is due, there are enough entries for one
enough_due : (trace : TraceView) → is_due trace ≡ true → AreEnough trace.entries
enough_due trace due =
    enough_by trace.entries
    (or_cases (not (nat_lt (length trace.entries) 65000)) (nat_lt 8000000 (held_of trace.entries))
    (and_parts (is_none trace.session.pending) (not (nat_lt (length trace.entries) 65000) || nat_lt 8000000 (held_of trace.entries)) due).1)

-- a checkpoint that was due dropped enough entries
taken_keeps : (old new : TraceView) → is_due old ≡ true → Rests old new → StillKeeps old new
taken_keeps old new due rests keeps =
    let pieces = keeps.pieces ++ old.entries ∷ [] in
    let none = (rests.taken due).2 in
    let one : joined pieces ≡ joined keeps.pieces ++ old.entries =
    flat_map-append (λ (piece : List TraceEntry). piece) keeps.pieces (old.entries ∷ []) ∙ ap (λ (es : List TraceEntry). joined keeps.pieces ++ es) (append-nil old.entries) in
    record {
      pieces = pieces;
      enough = All-push AreEnough keeps.pieces old.entries keeps.enough (enough_due old due);
      stands =
          subst (λ (history : List TraceEntry). StandsFor new history)
          (sym one ∙ sym (append-nil (joined pieces)) ∙ ap (λ (es : List TraceEntry). joined pieces ++ es) (sym none))
          (rests.same.history _ keeps.stands);
    }

-- without one, all entries are as before
pub rested_keeps : (old new : TraceView) → Rests old new → StillKeeps old new
rested_keeps old new rests =
    let by : (b : Bool) → is_due old ≡ b → StillKeeps old new =
    elim [
      | true ↦ λ due. taken_keeps old new due rests
      | false ↦ λ due keeps.
          record {
            pieces = keeps.pieces;
            enough = keeps.enough;
            stands = subst (λ (history : List TraceEntry). StandsFor new history) (ap (λ (es : List TraceEntry). joined keeps.pieces ++ es) (sym (rests.kept due).2)) (rests.same.history _ keeps.stands);
          }
    ] in
    by (is_due old) refl

-- with other room it keeps as much
pub roomed_keeps : (old new : TraceView) (room : ℕ) → new ≡ record old { room = room } → StillKeeps old new
roomed_keeps old new room same keeps =
    subst KeepsHistory (sym same)
    (record {
      pieces = keeps.pieces;
      enough = keeps.enough;
      stands = record {
        dropped = keeps.stands.dropped;
        parts = keeps.stands.parts;
        base = keeps.stands.base;
        before = keeps.stands.before;
        session = keeps.stands.session;
        total = keeps.stands.total;
        each = keeps.stands.each;
      };
    })
