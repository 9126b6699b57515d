-- The entries of an inbox: items, and the marks between a peer's connections.
use Rattle.std.specs.Prelude.{Bool, true, false, List}
use Rattle.cb_crew.specs.Laws.{ends_last}
use Rattle.cb_crew.specs.declared.queued.Queued.{Queued}
use Rattle.cb_crew.specs.declared.queued.Queued.TheVariants as queued

-- it is the end mark: a connection ends
abbrev pub is_end : {M O : Type 0} → Queued M O → Bool
is_end (queued.Item item) = false
is_end queued.End = true
is_end (queued.Open opening) = false

-- it is an open mark: the next connection begins
abbrev pub is_open : {M O : Type 0} → Queued M O → Bool
is_open (queued.Item item) = false
is_open queued.End = false
is_open (queued.Open opening) = true

-- the last of these marks is an end mark
abbrev pub has_ended : {M O : Type 0} → List (Queued M O) → Bool
has_ended marks = ends_last is_end false marks

-- what an open mark brings may begin a connection
abbrev pub IsFresh : {M O : Type 0} → (O → Type 0) → Queued M O → Type 0
IsFresh fresh (queued.Item item) = Unit {0}
IsFresh fresh queued.End = Unit {0}
IsFresh fresh (queued.Open opening) = fresh opening
