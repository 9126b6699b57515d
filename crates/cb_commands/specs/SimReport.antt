-- What `sim` prints at the end of a run: the report.
use Rattle.std.specs.Prelude.{ℕ, List, [], ◌∷◌, ◌++◌, length, codes}
use Rattle.std.specs.List.{flat_map, range_with_len}
use Rattle.std.specs.Fmt.{decimal}
use Rattle.cb_crew.specs.declared.act.Mark.{Mark}
use Rattle.cb_crew.specs.Text.{mark_text}
use Rattle.cb_crew.specs.Desks.{held_by}
use Rattle.cb_crew.specs.CrewModel.{Crew, line_of}

-- each item as f prints it, separated by commas, or `-` if there are none
abbrev pub joined : {A : Type 0} → (A → List ℕ) → List A → List ℕ
joined f [] = codes "-"
joined f (x ∷ xs) = f x ++ flat_map (λ y. codes "," ++ f y) xs

abbrev pub marks_text : List Mark → List ℕ
marks_text marks = joined mark_text marks

-- a peer's line
abbrev pub peer_text : Crew → ℕ → List ℕ
peer_text s p =
    codes "peer " ++ decimal p ++ codes " queued " ++ marks_text (line_of s p).queued
    ++ codes " taken " ++ marks_text (line_of s p).taken ++ 10 ∷ []

abbrev pub peers_text : Crew → List ℕ
peers_text s = flat_map (peer_text s) (range_with_len 0 (length s.lines))

abbrev pub ring_text : Crew → List ℕ
ring_text s = codes "ring " ++ joined decimal s.desks.ring ++ 10 ∷ []

-- what a handler holds
abbrev pub hand_text : List ℕ → List ℕ
hand_text [] = codes "-"
hand_text (desk ∷ desks) = codes "desk " ++ decimal desk

-- a handler's line
abbrev pub handler_text : Crew → ℕ → List ℕ
handler_text s k =
    codes "handler " ++ decimal k ++ codes " " ++ hand_text (held_by s.desks k) ++ 10 ∷ []

abbrev pub handlers_text : Crew → List ℕ
handlers_text s = flat_map (handler_text s) (range_with_len 0 (length s.desks.held))

-- a line for each peer, one for the ring and one for each handler
abbrev pub report_text : Crew → List ℕ
report_text s = peers_text s ++ ring_text s ++ handlers_text s
