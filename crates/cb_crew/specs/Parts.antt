-- The connections of a peer, one after another: its marks, cut at each open mark.
use Rattle.std.specs.Prelude.{ℕ, Bool, List, [], slice_index_or}
use Rattle.std.specs.List.{slice_split}

-- The marks of each connection, its end mark included. An open mark stands between two parts and
-- belongs to neither.
abbrev pub parts : {M : Type 0} → (M → Bool) → List M → List (List M)
parts is_open marks = slice_split is_open marks

-- the marks of connection k, counted from 0
abbrev pub part : {M : Type 0} → (M → Bool) → List M → ℕ → List M
part is_open marks k = slice_index_or (parts is_open marks) k []
