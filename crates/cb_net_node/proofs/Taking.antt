-- A hall takes transactions, one after another.
use Rattle.std.proofs.Common.{◌≡◌, ℕ, ◌+◌, ◌<◌, ◌≤◌, List, [], ◌∷◌, ◌++◌, length, take, drop, get_or, Some, refl, sym, ap, subst, ◌∙◌, append_assoc, arith}
use Rattle.std.proofs.lemmas.List.{append-nil, take-append-drop, take_more}
use Rattle.std.proofs.Math.Seq.{take-length}
use Rattle.cb_block.specs.declared.tx.Tx.{Tx}
use Rattle.cb_hall.specs.Journal.{JournalState}
use Rattle.cb_hall.specs.declared.answer.Answer.{Answer}
use Rattle.cb_hall.specs.declared.entry.Local.TheVariants as locals
use Rattle.cb_hall.specs.Hall.{Submitted}
use Rattle.cb_net_node.specs.Nodes.{TakesAll, TakesSome}

-- whatever is taken from here on was taken behind the first ones
abbrev pub Goes : JournalState → List Tx → ℕ → JournalState → Type 0
Goes first txs i now = (rest : List Tx) (end : JournalState) → TakesAll now rest end → TakesAll first (take i txs ++ rest) end

pub took_one : (first was now : JournalState) (txs : List Tx) (i : ℕ) (tx : Tx) (answer : Answer) → i < length txs → tx ≡ get_or txs i tx → Submitted was (locals.Tx tx) now answer
    → Goes first txs i was → Goes first txs (i + 1) now
took_one first was now txs i tx answer h is took goes =
    λ rest end all.
    subst (λ (l : List Tx). TakesAll first l end)
    (sym (append_assoc (take i txs) (tx ∷ []) rest) ∙ ap (λ (x : Tx). (take i txs ++ x ∷ []) ++ rest) is ∙ ap (λ (l : List Tx). l ++ rest) (sym (take_more txs i tx h)))
    (goes (tx ∷ rest) end (answer, now, took, all))

took : (first now : JournalState) (txs : List Tx) (i : ℕ) → Goes first txs i now → TakesAll first (take i txs) now
took first now txs i goes = subst (λ (l : List Tx). TakesAll first l now) (append-nil (take i txs)) (goes [] now refl)

-- the first ones were taken
pub took_first : (first now : JournalState) (txs : List Tx) (i : ℕ) → Goes first txs i now → TakesSome txs (Some first) (Some now)
took_first first now txs i goes =
    record { taken = take i txs; left = drop i txs; parts = sym (take-append-drop i txs); takes = took first now txs i goes }

-- all of them were taken
pub took_whole : (first now : JournalState) (txs : List Tx) (i : ℕ) → length txs ≤ i → i ≤ length txs → Goes first txs i now → TakesAll first txs now
took_whole first now txs i above below goes =
    let e : i ≡ length txs = omega (arith, above, below) in
    subst (λ (l : List Tx). TakesAll first l now) (ap (λ (n : ℕ). take n txs) e ∙ take-length txs) (took first now txs i goes)
