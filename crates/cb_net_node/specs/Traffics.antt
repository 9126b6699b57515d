-- What was sent, by commands.
use Rattle.std.specs.Prelude.{◌≡◌, ◌≢◌, ℕ, ◌+◌, ◌-◌, ◌^◌, ◌<◌, List, min, sum_by}
use Rattle.std.specs.List.{slice_index_or}
use Rattle.cb_net_node.specs.declared.traffic.Row.{Row}
use Rattle.cb_net_node.specs.declared.traffic.Traffic.{Traffic}

-- a count stops at 2^64 - 1
abbrev pub capped : ℕ → ℕ
capped count = min count (2 ^ 64 - 1)

abbrev pub nothing : Row
nothing = record { messages = 0; bytes = 0 }

-- the rows, one for each command
abbrev pub rows_of : Traffic → List Row
rows_of traffic = traffic.rows

-- the row at a place
abbrev pub row_at : Traffic → ℕ → Row
row_at traffic place = slice_index_or (rows_of traffic) place nothing

-- so many messages and bytes more
abbrev pub with_more : Row → Row → Row
with_more row more = record {
  messages = capped (row.messages + more.messages);
  bytes = capped (row.bytes + more.bytes);
}

-- One message of so many bytes was counted in the row at a place, and in no other.
pub record Counts (place bytes : ℕ) (old new : Traffic) : Type 0 where
  pub counted : row_at new place
      ≡ with_more (row_at old place) (record { messages = 1; bytes = bytes })
  pub others : (other : ℕ) → other ≢ place → row_at new other ≡ row_at old other

-- each row was added to its own
abbrev pub AddsRows : Traffic → Traffic → Traffic → Type 0
AddsRows more old new =
    (place : ℕ) → place < 17 → row_at new place ≡ with_more (row_at old place) (row_at more place)

-- all rows together
abbrev pub sum_of : List Row → Row
sum_of rows = record {
  messages = capped (sum_by (λ row. row.messages) rows);
  bytes = capped (sum_by (λ row. row.bytes) rows);
}
