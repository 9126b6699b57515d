-- The run of `sim` line by line: what stands after each, and what it comes to at the end.
use Rattle.std.proofs.Common.{◌≡◌, ℕ, Bool, true, false, List, [], ◌∷◌, ◌++◌, Option, Some, None, Result, Ok, Err, refl, sym, ap, subst, ◌∙◌, append_assoc, inl, inr}
use Rattle.std.proofs.lemmas.List.{append-nil}
use Rattle.std.specs.Io.KnownBytes.{prepend_known, Appends}
use Rattle.std.specs.Prelude.{IfOk, OnOk}
use Rattle.std.specs.Str.Lines.{lines}
use Rattle.cb_control.specs.declared.ending.Halt.{Halt}
use Rattle.cb_commands.specs.declared.sim.Flow.{Flow}
use Rattle.cb_commands.specs.declared.sim.Flow.TheVariants.{Next, Stop}
use Rattle.cb_commands.specs.declared.sim.RunStage.{RunStage}
use Rattle.cb_commands.specs.declared.sim.RunStage.TheVariants.{Opening, Running, Unreadable}
use Rattle.cb_control.specs.Lines.{NextLine}
use Rattle.cb_commands.specs.SimRun.{SimState, DoesLine, LineAt, IsUnreadable, at_stage, final_text, status_of}
use Rattle.cb_commands.specs.SimInput.{DoesLines, opening_run, SimulatesKnown}

-- ---- lines, one after another

-- these lines, and then more
pub does-append : (before more : List (List ℕ)) (old between new : SimState) (text rest : List ℕ) → DoesLines before old text between → DoesLines more between rest new
    → DoesLines (before ++ more) old (text ++ rest) new
does-append [] more old between new text rest d m =
    subst (λ (s : SimState). DoesLines more s (text ++ rest) new) d.1 (subst (λ (x : List ℕ). DoesLines more between (x ++ rest) new) (sym d.0) m)
does-append (line ∷ before) more old between new text rest d m =
    (d.0, d.1, d.2 ++ rest, d.3, d.4, ap (λ (x : List ℕ). x ++ rest) d.5 ∙ append_assoc d.1 d.2 rest, does-append before more d.3 between new d.2 rest d.6 m)

-- ---- the lines that print nothing more

-- these lines print nothing, and leave the stage and the refusals as they are
abbrev pub AreQuiet : List (List ℕ) → SimState → Type 0
AreQuiet more now = (at_end : SimState) × DoesLines more now [] at_end × (at_end.stage ≡ now.stage) × (at_end.refused ≡ now.refused)

-- no line at all
none-quiet : (now : SimState) → AreQuiet [] now
none-quiet now = (now, (refl, refl), refl, refl)

-- behind a line that can't be read
unreadable-quiet : (more : List (List ℕ)) (now : SimState) → now.stage ≡ Unreadable → AreQuiet more now
unreadable-quiet [] now is = none-quiet now
unreadable-quiet (line ∷ more) now is =
    let next : SimState = at_stage now Unreadable in
    let then : AreQuiet more next = unreadable-quiet more next refl in
    let first : DoesLine line now Stop [] next = subst (λ (s : RunStage). LineAt s line now Stop [] next) (sym is) (refl, refl, refl) in
    (then.0, (Stop, [], [], next, first, refl, then.1), then.2 ∙ sym is, then.3)

-- a line that ends the run can't be read
stop-unreadable : (stage : RunStage) (line : List ℕ) (old : SimState) (printed : List ℕ) (new : SimState) → LineAt stage line old Stop printed new → new.stage ≡ Unreadable
stop-unreadable Opening line old printed new (inl opens) = absurd (let z : Stop ≡ Next = opens.2 in cc)
stop-unreadable Opening line old printed new (inr not) = let u : IsUnreadable old Stop printed new = not.1 in ap (λ (s : SimState). s.stage) u.2
stop-unreadable (Running m) line old printed new (inl acts) = absurd (let z : Stop ≡ Next = acts.2 in cc)
stop-unreadable (Running m) line old printed new (inr not) = let u : IsUnreadable old Stop printed new = not.1 in ap (λ (s : SimState). s.stage) u.2
stop-unreadable Unreadable line old printed new u = ap (λ (s : SimState). s.stage) u.2

-- ---- all lines so far

-- how the run stands behind the lines so far: what is printed for them was written
pub record SimGoing (input held rest holds : List ℕ) (now : SimState) : Type 0 where
  pub before : List (List ℕ)
  pub text : List ℕ
  pub lines_are : lines input ≡ before ++ lines rest
  pub does : DoesLines before opening_run text now
  pub holds_is : holds ≡ held ++ text

-- the same where the reader and the writer tell their bytes
abbrev pub SimGoingKnown : Option (List ℕ) → Option (List ℕ) → Option (List ℕ) → Option (List ℕ) → SimState → Type 0
SimGoingKnown None old rest new now = Unit {0}
SimGoingKnown (Some input) None rest new now = Unit {0}
SimGoingKnown (Some input) (Some held) None new now = ⊥
SimGoingKnown (Some input) (Some held) (Some rest) None now = ⊥
SimGoingKnown (Some input) (Some held) (Some rest) (Some holds) now = SimGoing input held rest holds now

-- at the beginning
pub sim-start : (whole old : Option (List ℕ)) (ahead : List ℕ) (now : SimState) → ahead ≡ [] → now ≡ opening_run → SimGoingKnown whole old (prepend_known ahead whole) old now
sim-start None old ahead now n e = tt
sim-start (Some input) None ahead now n e = tt
sim-start (Some input) (Some held) ahead now n e = record {
  before = [];
  text = [];
  lines_are = ap (λ (x : List ℕ). lines (x ++ input)) (sym n);
  does = (refl, e);
  holds_is = sym (append-nil held);
}

-- what is printed for a line was added to the fresh text
abbrev pub LinePrints : List ℕ → SimState → Flow → List ℕ → List ℕ → SimState → Type 0
LinePrints line old flow fresh text new = (printed : List ℕ) × (text ≡ fresh ++ printed) × DoesLine line old flow printed new

one-line : (whole old r r' o o' : Option (List ℕ)) (now next : SimState) (line : List ℕ) (flow : Flow) (text : List ℕ) → SimGoingKnown whole old r o now
    → NextLine true r r' line → DoesLine line now flow text next → Appends o o' text → SimGoingKnown whole old r' o' next
one-line None old r r' o o' now next line flow text g n d w = tt
one-line (Some input) None r r' o o' now next line flow text g n d w = tt
one-line (Some input) (Some held) None r' o o' now next line flow text g n d w = absurd g
one-line (Some input) (Some held) (Some xs) r' None o' now next line flow text g n d w = absurd g
one-line (Some input) (Some held) (Some xs) None (Some ys) o' now next line flow text g n d w = absurd n
one-line (Some input) (Some held) (Some xs) (Some xs') (Some ys) None now next line flow text g n d w = absurd w
one-line (Some input) (Some held) (Some xs) (Some xs') (Some ys) (Some ys') now next line flow text g n d w = record {
  before = g.before ++ line ∷ [];
  text = g.text ++ text;
  lines_are = g.lines_are ∙ ap (λ (x : List (List ℕ)). g.before ++ x) n ∙ sym (append_assoc g.before (line ∷ []) (lines xs'));
  does = does-append g.before (line ∷ []) opening_run now next g.text text g.does (flow, text, [], next, d, sym (append-nil text), (refl, refl));
  holds_is = w ∙ ap (λ (x : List ℕ). x ++ text) g.holds_is ∙ append_assoc held g.text text;
}

-- one line more
pub sim-line : (whole old r r' o o' : Option (List ℕ)) (now next : SimState) (found : Bool) (line : List ℕ) (flow : Flow) (fresh text : List ℕ) → SimGoingKnown whole old r o now
    → NextLine found r r' line → found ≡ true → fresh ≡ [] → LinePrints line now flow fresh text next → Appends o o' text → SimGoingKnown whole old r' o' next
sim-line whole old r r' o o' now next found line flow fresh text g n e f p w =
    let all : text ≡ p.0 = p.1 ∙ ap (λ (x : List ℕ). x ++ p.0) f in
    one-line whole old r r' o o' now next line flow text g (subst (λ (b : Bool). NextLine b r r' line) e n)
    (subst (λ (x : List ℕ). DoesLine line now flow x next) (sym all) p.2) w

-- ---- the end

-- the lines to come print nothing, where the reader tells its bytes
abbrev pub QuietKnown : Option (List ℕ) → SimState → Type 0
QuietKnown None now = Unit {0}
QuietKnown (Some rest) now = AreQuiet (lines rest) now

ended : (whole old r o o' : Option (List ℕ)) (now : SimState) (status : ℕ) → SimGoingKnown whole old r o now → QuietKnown r now
    → Appends o o' (final_text now.stage) → status ≡ status_of now.stage now.refused → SimulatesKnown whole old o' status
ended None old r o o' now status g q w s = tt
ended (Some input) None r o o' now status g q w s = tt
ended (Some input) (Some held) None o o' now status g q w s = absurd g
ended (Some input) (Some held) (Some xs) None o' now status g q w s = absurd g
ended (Some input) (Some held) (Some xs) (Some ys) None now status g q w s = absurd w
ended (Some input) (Some held) (Some xs) (Some ys) (Some ys') now status g q w s = (
  g.text ++ final_text now.stage,
  w ∙ ap (λ (x : List ℕ). x ++ final_text now.stage) g.holds_is ∙ append_assoc held g.text (final_text now.stage),
  record {
    printed = g.text ++ [];
    at_end = q.0;
    does = subst (λ (x : List (List ℕ)). DoesLines x opening_run (g.text ++ []) q.0) (sym g.lines_are) (does-append g.before (lines xs) opening_run now q.0 g.text [] g.does q.1);
    out_is = ap (λ (x : List ℕ). x ++ final_text now.stage) (sym (append-nil g.text)) ∙ ap (λ (x : RunStage). (g.text ++ []) ++ final_text x) (sym q.2);
    status_is = s ∙ ap (λ (x : RunStage). status_of x now.refused) (sym q.2) ∙ ap (λ (x : Bool). status_of q.0.stage x) (sym q.3);
  },
)

-- the end was printed, or couldn't be
finished : (whole old r o o' : Option (List ℕ)) (now : SimState) (result : Result ℕ Halt) → SimGoingKnown whole old r o now → QuietKnown r now
    → OnOk result (Appends o o' (final_text now.stage)) → IfOk result (λ status. status ≡ status_of now.stage now.refused) → IfOk result (SimulatesKnown whole old o')
finished whole old r o o' now (Ok status) g q w s = ended whole old r o o' now status g q w s
finished whole old r o o' now (Err halt) g q w s = tt

no-line-quiet : (r r' : Option (List ℕ)) (line : List ℕ) (now : SimState) → NextLine false r r' line → QuietKnown r now
no-line-quiet None r' line now n = tt
no-line-quiet (Some xs) None line now n = absurd n
no-line-quiet (Some xs) (Some xs') line now n = subst (λ (x : List (List ℕ)). AreQuiet x now) (sym (ap lines n.0)) (none-quiet now)

-- the input is at its end
pub sim-end : (whole old r r' o o' : Option (List ℕ)) (now : SimState) (found : Bool) (line : List ℕ) (result : Result ℕ Halt) → SimGoingKnown whole old r o now
    → NextLine found r r' line → found ≡ false → OnOk result (Appends o o' (final_text now.stage)) → IfOk result (λ status. status ≡ status_of now.stage now.refused) → IfOk result (SimulatesKnown whole old o')
sim-end whole old r r' o o' now found line result g n e w s =
    finished whole old r o o' now result g (no-line-quiet r r' line now (subst (λ (b : Bool). NextLine b r r' line) e n)) w s

stopped-quiet : (r : Option (List ℕ)) (now : SimState) → now.stage ≡ Unreadable → QuietKnown r now
stopped-quiet None now is = tt
stopped-quiet (Some xs) now is = unreadable-quiet (lines xs) now is

-- a line can't be read
pub sim-stop : (whole old r r' o o' o'' : Option (List ℕ)) (now next : SimState) (found : Bool) (line : List ℕ) (flow : Flow) (fresh text : List ℕ) (result : Result ℕ Halt) → SimGoingKnown whole old r o now
    → NextLine found r r' line → found ≡ true → fresh ≡ [] → LinePrints line now flow fresh text next → flow ≡ Stop → Appends o o' text
    → OnOk result (Appends o' o'' (final_text next.stage)) → IfOk result (λ status. status ≡ status_of next.stage next.refused) → IfOk result (SimulatesKnown whole old o'')
sim-stop whole old r r' o o' o'' now next found line flow fresh text result g n e f p stop w w' s =
    let is : next.stage ≡ Unreadable = stop-unreadable now.stage line now p.0 next (subst (λ (x : Flow). DoesLine line now x p.0 next) stop p.2) in
    finished whole old r' o' o'' next result (sim-line whole old r r' o o' now next found line flow fresh text g n e f p w) (stopped-quiet r' next is) w' s
