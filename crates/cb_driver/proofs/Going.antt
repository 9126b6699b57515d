-- The playing of a script line by line: what stands before each, and what it comes to at the end.
use Rattle.std.proofs.Common.{◌≡◌, ℕ, suc, Bool, true, false, ◌+◌, List, [], ◌∷◌, ◌++◌, length, Option, Some, None, refl, sym, ap, subst, ◌∙◌, append_assoc, arith}
use Rattle.std.proofs.lemmas.List.{append-nil, length-append}
use Rattle.std.specs.Io.KnownBytes.{prepend_known, Appends}
use Rattle.std.specs.Str.Lines.{lines}
use Rattle.cb_control.specs.Lines.{NextLine}
use Rattle.cb_control.specs.declared.refusal.Refusal.{Refusal}
use Rattle.cb_control.specs.declared.refusal.Refusal.TheVariants as refusals
use Rattle.cb_control.specs.declared.script_line.ScriptOrder.{ScriptOrder}
use Rattle.cb_control.specs.declared.script_text.Tally.{Tally}
use Rattle.cb_driver.specs.declared.playing.Played.TheVariants.{Whole, Unreadable}
use Rattle.cb_control.specs.ScriptLine.{ReadsScript}
use Rattle.cb_driver.specs.Playing.{CanBecome, PlaysKnown, PlaysLines}
use Rattle.cb_control.specs.Outcomes.{good, outcome_text, tally_after}

-- what becomes of a line
pub record Becomes (nodes : ℕ) (text : List ℕ) (outcome : Option Refusal) : Type 0 where
  pub order : ScriptOrder
  pub reads : ReadsScript nodes text (Some order)
  pub ends : CanBecome order outcome

one_more : (number before : ℕ) → number + suc before ≡ (number + 1) + before
one_more number before = omega arith

nothing_more : (number : ℕ) → number + 0 ≡ number
nothing_more number = omega arith

-- these lines, and then one more
plays-more : (nodes number last : ℕ) (before : List (List ℕ)) (old between : Tally) (printed text : List ℕ) (outcome : Option Refusal) → last ≡ number + length before
    → PlaysLines nodes number before old printed between → Becomes nodes text outcome
    → PlaysLines nodes number (before ++ text ∷ []) old (printed ++ outcome_text last outcome) (tally_after between outcome)
plays-more nodes number last [] old between printed text outcome place plays becomes =
    let here : last ≡ number = place ∙ nothing_more number in
    let now : tally_after between outcome ≡ tally_after old outcome = ap (λ (t : Tally). tally_after t outcome) plays.1 in (
      becomes.order,
      outcome,
      [],
      becomes.reads,
      becomes.ends,
      ap (λ (x : List ℕ). x ++ outcome_text last outcome) plays.0 ∙ ap (λ (n : ℕ). outcome_text n outcome) here ∙ sym (append-nil (outcome_text number outcome)),
      (refl, now),
    )
plays-more nodes number last (first ∷ before) old between printed text outcome place plays becomes = (
  plays.0,
  plays.1,
  plays.2 ++ outcome_text last outcome,
  plays.3,
  plays.4,
  ap (λ (x : List ℕ). x ++ outcome_text last outcome) plays.5 ∙ append_assoc (outcome_text number plays.1) plays.2 (outcome_text last outcome),
  plays-more nodes (number + 1) last before (tally_after old plays.1) between plays.2 text outcome (place ∙ one_more number (length before)) plays.6 becomes,
)

-- what stands before the line of this number: what was printed for the lines before it was written
pub record Going (nodes : ℕ) (input held rest holds : List ℕ) (tally : Tally) (number : ℕ) : Type 0 where
  pub before : List (List ℕ)
  pub text : List ℕ
  pub lines_are : lines input ≡ before ++ lines rest
  pub plays : PlaysLines nodes 1 before good text tally
  pub holds_is : holds ≡ held ++ text
  pub number_is : number ≡ 1 + length before

-- the same where the reader and the writer tell their bytes
abbrev pub GoingKnown : ℕ → Option (List ℕ) → Option (List ℕ) → Option (List ℕ) → Option (List ℕ) → Tally → ℕ → Type 0
GoingKnown nodes None old rest new tally number = Unit {0}
GoingKnown nodes (Some input) None rest new tally number = Unit {0}
GoingKnown nodes (Some input) (Some held) None new tally number = ⊥
GoingKnown nodes (Some input) (Some held) (Some rest) None tally number = ⊥
GoingKnown nodes (Some input) (Some held) (Some rest) (Some holds) tally number = Going nodes input held rest holds tally number

-- at the beginning
pub going-start : (nodes : ℕ) (whole old : Option (List ℕ)) (ahead : List ℕ) (tally : Tally) → ahead ≡ [] → tally ≡ good → GoingKnown nodes whole old (prepend_known ahead whole) old tally 1
going-start nodes None old ahead tally n e = tt
going-start nodes (Some input) None ahead tally n e = tt
going-start nodes (Some input) (Some held) ahead tally n e = record {
  before = [];
  text = [];
  lines_are = ap (λ (x : List ℕ). lines (x ++ input)) (sym n);
  plays = (refl, e);
  holds_is = sym (append-nil held);
  number_is = refl;
}

next_number : (number : ℕ) (before : List (List ℕ)) (line : List ℕ) → number ≡ 1 + length before → number + 1 ≡ 1 + length (before ++ line ∷ [])
next_number number before line is = let long : length (before ++ line ∷ []) ≡ length before + 1 = length-append before (line ∷ []) in omega (arith, is, long)

going-line : (nodes : ℕ) (whole old r r' o o' : Option (List ℕ)) (tally : Tally) (number : ℕ) (line : List ℕ) (outcome : Option Refusal) → GoingKnown nodes whole old r o tally number
    → NextLine true r r' line → Becomes nodes line outcome → Appends o o' (outcome_text number outcome) → GoingKnown nodes whole old r' o' (tally_after tally outcome) (number + 1)
going-line nodes None old r r' o o' tally number line outcome g n b w = tt
going-line nodes (Some input) None r r' o o' tally number line outcome g n b w = tt
going-line nodes (Some input) (Some held) None r' o o' tally number line outcome g n b w = absurd g
going-line nodes (Some input) (Some held) (Some xs) r' None o' tally number line outcome g n b w = absurd g
going-line nodes (Some input) (Some held) (Some xs) None (Some ys) o' tally number line outcome g n b w = absurd n
going-line nodes (Some input) (Some held) (Some xs) (Some xs') (Some ys) None tally number line outcome g n b w = absurd w
going-line nodes (Some input) (Some held) (Some xs) (Some xs') (Some ys) (Some ys') tally number line outcome g n b w = record {
  before = g.before ++ line ∷ [];
  text = g.text ++ outcome_text number outcome;
  lines_are = g.lines_are ∙ ap (λ (x : List (List ℕ)). g.before ++ x) n ∙ sym (append_assoc g.before (line ∷ []) (lines xs'));
  plays = plays-more nodes 1 number g.before good tally g.text line outcome g.number_is g.plays b;
  holds_is = w ∙ ap (λ (x : List ℕ). x ++ outcome_text number outcome) g.holds_is ∙ append_assoc held g.text (outcome_text number outcome);
  number_is = next_number number g.before line g.number_is;
}

-- a line that was played
pub going-on : (nodes : ℕ) (whole old r r' o o' : Option (List ℕ)) (tally next : Tally) (number : ℕ) (found : Bool) (text : List ℕ) (order : ScriptOrder) (read : Option ScriptOrder) (outcome : Option Refusal)
    → GoingKnown nodes whole old r o tally number → NextLine found r r' text → found ≡ true → ReadsScript nodes text read → read ≡ Some order → CanBecome order outcome
    → Appends o o' (outcome_text number outcome) → next ≡ tally_after tally outcome → GoingKnown nodes whole old r' o' next (number + 1)
going-on nodes whole old r r' o o' tally next number found text order read outcome g n e reads some ends w is =
    subst (λ (t : Tally). GoingKnown nodes whole old r' o' t (number + 1)) (sym is)
    (going-line nodes whole old r r' o o' tally number text outcome g (subst (λ (b : Bool). NextLine b r r' text) e n)
    (record { order = order; reads = subst (λ (x : Option ScriptOrder). ReadsScript nodes text x) some reads; ends = ends }) w)

ended : (nodes : ℕ) (whole old r r' o : Option (List ℕ)) (tally : Tally) (number : ℕ) (line : List ℕ) → GoingKnown nodes whole old r o tally number → NextLine false r r' line → PlaysKnown nodes whole old o (Whole tally)
ended nodes None old r r' o tally number line g n = tt
ended nodes (Some input) None r r' o tally number line g n = tt
ended nodes (Some input) (Some held) None r' o tally number line g n = absurd g
ended nodes (Some input) (Some held) (Some xs) r' None tally number line g n = absurd g
ended nodes (Some input) (Some held) (Some xs) None (Some ys) tally number line g n = absurd n
ended nodes (Some input) (Some held) (Some xs) (Some xs') (Some ys) tally number line g n =
    let all : lines input ≡ g.before = g.lines_are ∙ ap (λ (x : List (List ℕ)). g.before ++ x) (ap lines n.0) ∙ append-nil g.before in (
      g.text,
      g.holds_is,
      subst (λ (x : List (List ℕ)). PlaysLines nodes 1 x good g.text tally) (sym all) g.plays,
    )

-- the input is at its end
pub going-end : (nodes : ℕ) (whole old r r' o : Option (List ℕ)) (tally : Tally) (number : ℕ) (found : Bool) (line : List ℕ) → GoingKnown nodes whole old r o tally number → NextLine found r r' line → found ≡ false
    → PlaysKnown nodes whole old o (Whole tally)
going-end nodes whole old r r' o tally number found line g n e = ended nodes whole old r r' o tally number line g (subst (λ (b : Bool). NextLine b r r' line) e n)

behind : (number : ℕ) (before : List (List ℕ)) → number ≡ 1 + length before → number ≡ length before + 1
behind number before is = omega (arith, is)

stopped : (nodes : ℕ) (whole old r r' o o' : Option (List ℕ)) (tally : Tally) (number : ℕ) (line : List ℕ) → GoingKnown nodes whole old r o tally number → NextLine true r r' line → ReadsScript nodes line None
    → Appends o o' (outcome_text number (Some refusals.Unreadable)) → PlaysKnown nodes whole old o' Unreadable
stopped nodes None old r r' o o' tally number line g n h w = tt
stopped nodes (Some input) None r r' o o' tally number line g n h w = tt
stopped nodes (Some input) (Some held) None r' o o' tally number line g n h w = absurd g
stopped nodes (Some input) (Some held) (Some xs) r' None o' tally number line g n h w = absurd g
stopped nodes (Some input) (Some held) (Some xs) None (Some ys) o' tally number line g n h w = absurd n
stopped nodes (Some input) (Some held) (Some xs) (Some xs') (Some ys) None tally number line g n h w = absurd w
stopped nodes (Some input) (Some held) (Some xs) (Some xs') (Some ys) (Some ys') tally number line g n h w = (
  g.text ++ outcome_text number (Some refusals.Unreadable),
  w ∙ ap (λ (x : List ℕ). x ++ outcome_text number (Some refusals.Unreadable)) g.holds_is ∙ append_assoc held g.text (outcome_text number (Some refusals.Unreadable)),
  record {
    before = g.before;
    line = line;
    after = lines xs';
    text = g.text;
    tally = tally;
    lines_are = g.lines_are ∙ ap (λ (x : List (List ℕ)). g.before ++ x) n;
    plays = g.plays;
    unreadable = h;
    out_is = ap (λ (x : ℕ). g.text ++ outcome_text x (Some refusals.Unreadable)) (behind number g.before g.number_is);
  },
)

-- a line can't be read
pub going-stop : (nodes : ℕ) (whole old r r' o o' : Option (List ℕ)) (tally : Tally) (number : ℕ) (found : Bool) (line : List ℕ) (read : Option ScriptOrder) → GoingKnown nodes whole old r o tally number
    → NextLine found r r' line → found ≡ true → ReadsScript nodes line read → read ≡ None → Appends o o' (outcome_text number (Some refusals.Unreadable)) → PlaysKnown nodes whole old o' Unreadable
going-stop nodes whole old r r' o o' tally number found line read g n e h none w =
    stopped nodes whole old r r' o o' tally number line g (subst (λ (b : Bool). NextLine b r r' line) e n) (subst (λ (x : Option ScriptOrder). ReadsScript nodes line x) none h) w
