-- A run in its parts: what was played, and what was printed at the end.
use Rattle.std.proofs.Common.{◌≡◌, ℕ, Bool, false, List, [], ◌++◌, Option, Some, None, Result, Ok, Err, IfOk, refl, ap, subst, ◌∙◌, append_assoc, inl, inr}
use Rattle.std.specs.Io.KnownBytes.{Appends}
use Rattle.cb_control.specs.declared.script_text.Tally.{Tally}
use Rattle.cb_control.specs.declared.ending.Halt.{Halt}
use Rattle.cb_driver.specs.declared.playing.Played.{Played}
use Rattle.cb_driver.specs.declared.playing.Played.TheVariants.{Whole, Unreadable}
use Rattle.cb_driver.specs.Playing.{PlaysKnown}
use Rattle.cb_control.specs.Outcomes.{status_of}
use Rattle.cb_driver.specs.declared.report.NodeReport.{NodeReport}
use Rattle.cb_driver.specs.Summary.{AreOfAll, RunsKnown, not_started_text, reports_text, tally_reported}

-- what is printed at the end, and the status
abbrev pub Concludes : (List NodeReport → Type 0) → ℕ → Bool → Tally → Option (List ℕ) → Option (List ℕ) → ℕ → Type 0
Concludes AreTold count stats tally mid new status =
    (reports : List NodeReport) × (rest : List ℕ) × AreOfAll count reports × AreTold reports × (stats ≡ false → rest ≡ []) × Appends mid new (reports_text reports ++ rest)
    × (status ≡ status_of (tally_reported tally reports))

-- all lines were played
pub run_whole : (AreTold Told : List NodeReport → Type 0) → ((reports : List NodeReport) → AreTold reports → Told reports) → (nodes : ℕ) (stats : Bool) (whole old mid new : Option (List ℕ)) (tally : Tally) (count status : ℕ)
    → PlaysKnown nodes whole old mid (Whole tally) → count ≡ nodes → Concludes AreTold count stats tally mid new status → RunsKnown Told nodes stats whole old new status
run_whole AreTold Told so nodes stats None old mid new tally count status p same c = tt
run_whole AreTold Told so nodes stats (Some input) None mid new tally count status p same c = tt
run_whole AreTold Told so nodes stats (Some input) (Some held) None new tally count status p same c = absurd p
run_whole AreTold Told so nodes stats (Some input) (Some held) (Some xs) None tally count status p same c = absurd c.5
run_whole AreTold Told so nodes stats (Some input) (Some held) (Some xs) (Some ys) tally count status p same c =
    let end : List ℕ = reports_text c.0 ++ c.1 in (
      p.0 ++ end,
      c.5 ∙ ap (λ (x : List ℕ). x ++ end) p.1 ∙ append_assoc held p.0 end,
      inl (record {
        text = p.0;
        tally = tally;
        reports = c.0;
        rest = c.1;
        plays = p.2;
        of_all = subst (λ (n : ℕ). AreOfAll n c.0) same c.2;
        told = so c.0 c.3;
        plain = c.4;
        out_is = refl;
        status_is = c.6;
      }),
    )

-- the same by the results of both parts
pub run_whole_ok : (AreTold Told : List NodeReport → Type 0) → ((reports : List NodeReport) → AreTold reports → Told reports) → (nodes : ℕ) (stats : Bool) (whole old mid new : Option (List ℕ)) (tally : Tally) (count : ℕ)
    (played : Result Played Halt) (result : Result ℕ Halt) → IfOk played (PlaysKnown nodes whole old mid) → played ≡ Ok (Whole tally) → count ≡ nodes → IfOk result (λ status. Concludes AreTold count stats tally mid new status)
    → IfOk result (λ status. RunsKnown Told nodes stats whole old new status)
run_whole_ok AreTold Told so nodes stats whole old mid new tally count played (Err halt) plays is same concludes = concludes
run_whole_ok AreTold Told so nodes stats whole old mid new tally count played (Ok status) plays is same concludes =
    run_whole AreTold Told so nodes stats whole old mid new tally count status (subst (λ (r : Result Played Halt). IfOk r (PlaysKnown nodes whole old mid)) is plays) same concludes

-- a line couldn't be read
pub run_unreadable : (Told : List NodeReport → Type 0) (nodes : ℕ) (stats : Bool) (whole old new : Option (List ℕ)) (status : ℕ) → PlaysKnown nodes whole old new Unreadable → status ≡ 3 → RunsKnown Told nodes stats whole old new status
run_unreadable Told nodes stats None old new status p s = tt
run_unreadable Told nodes stats (Some input) None new status p s = tt
run_unreadable Told nodes stats (Some input) (Some held) None status p s = absurd p
run_unreadable Told nodes stats (Some input) (Some held) (Some ys) status p s = (p.0, p.1, inr (inl p.2, s))

-- the nodes couldn't be started
pub run_not_started : (Told : List NodeReport → Type 0) (nodes : ℕ) (stats : Bool) (whole old new : Option (List ℕ)) (status : ℕ) → Appends old new not_started_text → status ≡ 3 → RunsKnown Told nodes stats whole old new status
run_not_started Told nodes stats None old new status w s = tt
run_not_started Told nodes stats (Some input) None new status w s = tt
run_not_started Told nodes stats (Some input) (Some held) None status w s = absurd w
run_not_started Told nodes stats (Some input) (Some held) (Some ys) status w s = (not_started_text, w, inr (inr refl, s))
