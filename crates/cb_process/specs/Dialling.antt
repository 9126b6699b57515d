-- Which addresses are dialled, and when again.
use Rattle.std.specs.Prelude.{ℕ, ◌+◌, ◌*◌, ◌-◌, ◌^◌, ◌≤◌, List, [], ◌∷◌, map, min, ⊤}
use Rattle.std.specs.List.{All, Contains}
use Rattle.std.specs.declared.net.socket_addr.SocketAddr.{SocketAddr}
use Rattle.cb_process.specs.OwnAddress.{IsOwn}
use Rattle.cb_process.specs.declared.dialling.DialStage.{DialStage}
use Rattle.cb_process.specs.declared.dialling.Target.{Target}
use Rattle.cb_process.specs.declared.dialling.DialStage.TheVariants as stages

-- the delay, in seconds, behind one of so many seconds: 1, 2, 4 .. 32, 60
abbrev pub longer : ℕ → ℕ
longer delay = min (delay * 2) 60

-- the time in milliseconds that is so many seconds later, or the last one
abbrev pub later : ℕ → ℕ → ℕ
later now seconds = min (now + seconds * 1000) (2 ^ 64 - 1)

-- it waits until a time that has come
abbrev pub IsDue : DialStage → ℕ → Type 0
IsDue (stages.Waits due) now = due ≤ now
IsDue (stages.Dials dial) now = ⊥
IsDue (stages.Lasts slot since) now = ⊥

-- it waits, until whatever time
abbrev pub IsWaiting : DialStage → Type 0
IsWaiting (stages.Waits due) = Unit {0}
IsWaiting (stages.Dials dial) = ⊥
IsWaiting (stages.Lasts slot since) = ⊥

-- a thread dials it
abbrev pub IsDialled : DialStage → Type 0
IsDialled (stages.Waits due) = ⊥
IsDialled (stages.Dials dial) = Unit {0}
IsDialled (stages.Lasts slot since) = ⊥

-- its connection has lasted for a minute
abbrev pub LastsWell : DialStage → ℕ → Type 0
LastsWell (stages.Waits due) now = ⊥
LastsWell (stages.Dials dial) now = ⊥
LastsWell (stages.Lasts slot since) now = since + 60000 ≤ now

-- ---- from the start

-- the addresses of these
abbrev pub addresses_of : List Target → List SocketAddr
addresses_of targets = map (λ target. target.address) targets

-- no address stands twice
abbrev pub AreDifferent : List SocketAddr → Type 0
AreDifferent [] = ⊤
AreDifferent (address ∷ addresses) = (Contains addresses address → ⊥) × AreDifferent addresses

-- A node that listens at the first address, and is asked to dial these, dials those: each of them
-- once, its own never, and no other.
pub record AreDialled (own : SocketAddr) (asked dialled : List SocketAddr) : Type 0 where
  pub asked_for : All (Contains asked) dialled
  pub never_own : All (λ address. IsOwn own address → ⊥) dialled
  pub once : AreDifferent dialled
  pub each : (address : SocketAddr) → Contains asked address → (IsOwn own address → ⊥)
      → Contains dialled address
