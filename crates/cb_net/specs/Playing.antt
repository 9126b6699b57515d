-- What `net` prints, and its status.
use Rattle.std.specs.Prelude.{◌≡◌, ℕ, ◌⊎◌, Bool, true, if◌then◌else◌, List, [], ◌++◌, codes, Option, Result, Ok, Err}
use Rattle.std.specs.Io.KnownBytes.{Appends}
use Rattle.std.specs.List.{flat_map}
use Rattle.cb_net_node.specs.declared.results.BlockResult.{BlockResult}
use Rattle.cb_net_plan.specs.declared.settings.NetSettings.{NetSettings}
use Rattle.cb_net_plan.specs.NetWords.{bad_net_text}
use Rattle.cb_net_plan.specs.declared.bad_net.BadNet.{BadNet}
use Rattle.cb_control.specs.declared.ending.Halt.{Halt}
use Rattle.cb_control.specs.declared.ending.Halt.TheVariants as halts
use Rattle.cb_net.specs.declared.net_end.NetEnd.{NetEnd}
use Rattle.cb_net.specs.declared.net_end.NetEnd.TheVariants.{Ended, Broke}
use Rattle.cb_net.specs.Played.{HasPlayed}
use Rattle.cb_net.specs.NetEnding.{block_text, ending_text, fault_text, head_row, is_well, row_text}

-- The status is 0 exactly if all is well.
abbrev pub end_status : NetEnd → ℕ
end_status (Ended ending) = if is_well ending then 0 else 2
end_status (Broke fault) = 2

-- ---- what is printed, in words or in rows

abbrev pub head_part : Bool → List ℕ
head_part csv = if csv then head_row else []

abbrev pub block_part : Bool → BlockResult → List ℕ
block_part csv block = if csv then row_text block else block_text block

abbrev pub end_words : NetSettings → NetEnd → List ℕ
end_words settings (Ended ending) = ending_text settings.audit settings.seed ending
end_words settings (Broke fault) = fault_text fault settings.seed

abbrev pub end_part : NetSettings → NetEnd → List ℕ
end_part settings end = if settings.csv then [] else end_words settings end

-- A network was played, and what is told of its blocks was printed, in their order; then how it
-- ended. The status is the end's.
pub record PlaysNet (settings : NetSettings) (out : List ℕ) (status : ℕ) : Type 0 where
  pub blocks : List BlockResult
  pub end : NetEnd
  pub played : HasPlayed settings blocks end
  pub out_is : out
      ≡ head_part settings.csv ++ flat_map (block_part settings.csv) blocks
      ++ end_part settings end
  pub status_is : status ≡ end_status end

-- why not all was printed: memory ran out, or the writer is marked as failed
abbrev pub LacksOrFails : Bool → Halt → Type 0
LacksOrFails failed halt = (halt ≡ halts.Memory) ⊎ ((halt ≡ halts.WriteFailed) × (failed ≡ true))

-- ---- by the words of `net`

-- what standard error is told where no network can be as it was asked for
abbrev pub bad_net_line : BadNet → List ℕ
bad_net_line bad = codes "error: " ++ (bad_net_text bad ++ codes "\n")

-- A network was played and printed, and the sink of errors was told nothing (`Quiet`); the line of
-- progress goes to a sink of its own. Or no network can be as it was asked for; the sink of errors
-- was told why, and nothing was printed (`Still`).
abbrev pub RunsNet : Type 0 → Type 0 → Option (List ℕ) → Option (List ℕ) → Option (List ℕ)
    → Option (List ℕ) → Result NetSettings BadNet → ℕ → Type 0
RunsNet Still Quiet held holds told tells (Ok settings) status =
    ((out : List ℕ) × Appends held holds out × PlaysNet settings out status) × Quiet
RunsNet Still Quiet held holds told tells (Err bad) status =
    Appends told tells (bad_net_line bad) × (status ≡ 3) × Still

-- why it ended early: memory ran out, or a write failed, to standard output or to standard error
abbrev pub EndsShort : Bool → Bool → Halt → Type 0
EndsShort write_failed errors_failed halt =
    (halt ≡ halts.Memory)
    ⊎ ((halt ≡ halts.WriteFailed) × ((write_failed ≡ true) ⊎ (errors_failed ≡ true)))
