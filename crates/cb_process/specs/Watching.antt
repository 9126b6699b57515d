-- Which connections are late.
use Rattle.std.specs.Prelude.{◌≡◌, ◌≢◌, ◌⊎◌, ℕ, ◌+◌, ◌-◌, ◌≤◌, Bool, true, false, List, codes, Option, Some, None, is_some, unwrap_or, if◌then◌else◌, ◌==◌}
use Rattle.std.specs.Option.{option_or}
use Rattle.cb_process.specs.declared.limits.Limits.{Limits}
use Rattle.cb_process.specs.declared.watch.Cause.{Cause}
use Rattle.cb_process.specs.declared.watch.Cause.TheVariants as causes
use Rattle.cb_process.specs.declared.watch.DueAction.{DueAction}
use Rattle.cb_process.specs.declared.watch.DueAction.TheVariants as dues
use Rattle.cb_process.specs.declared.watch.Sight.{Sight}
use Rattle.cb_process.specs.declared.watch.Watch.{Watch}

-- the names in the log
abbrev pub cause_text : Cause → List ℕ
cause_text causes.Handshake = codes "HandshakeTimeout"
cause_text causes.Idle = codes "IdleTimeout"
cause_text causes.Block = codes "BlockTimeout"

-- ---- what is remembered

-- Since when blocks are in flight and none came: never if none is in flight; now if one came; and
-- else since before, or now if none was in flight then.
abbrev pub waits_since : Option ℕ → Bool → ℕ → ℕ → Option ℕ
waits_since before came flight now =
    if flight == 0 then None else (if came then Some now else Some (unwrap_or before now))

-- since when something stands: never if it doesn't, else since before, or now if it didn't then
abbrev pub stands_since : Option ℕ → Bool → ℕ → Option ℕ
stands_since before stands now = if stands then Some (unwrap_or before now) else None

-- how long an answer took that comes now
abbrev pub took : Option ℕ → ℕ → Option ℕ
took None now = None
took (Some since) now = Some (now - since)

-- What is seen of a connection at a time is remembered.
pub record IsNoted (sight : Sight) (now : ℕ) (old new : Watch) : Type 0 where
  pub made : new.made ≡ old.made
  pub latest : new.latest ≡ sight
  pub spoke : sight.messages ≢ old.latest.messages
      → (new.heard ≡ Some now) × (new.probed ≡ false)
  pub silent : sight.messages ≡ old.latest.messages
      → (new.heard ≡ old.heard) × (new.probed ≡ old.probed)
  -- none is in flight
  pub none : sight.flight ≡ 0 → new.waits ≡ None
  -- one came, and more are in flight
  pub gave : sight.flight ≢ 0 → sight.blocks ≢ old.latest.blocks → new.waits ≡ Some now
  -- none came: it goes on, or begins
  pub held : sight.flight ≢ 0 → sight.blocks ≡ old.latest.blocks
      → new.waits ≡ Some (unwrap_or old.waits now)
  -- a `pong` answers the first probe that none answered yet
  pub answered : sight.pongs ≢ old.latest.pongs
      → (new.pong ≡ option_or (took old.asked now) old.pong) × (new.asked ≡ None)
  pub unanswered : sight.pongs ≡ old.latest.pongs
      → (new.pong ≡ old.pong) × (new.asked ≡ old.asked)
  -- its session waits for headers of what is unknown: that goes on, or begins
  pub unknown : new.unknown ≡ stands_since old.unknown sight.unknown now

-- ---- what is due

-- since its last whole message, or since it was made
abbrev pub silent_since : Watch → ℕ
silent_since watch = unwrap_or watch.heard watch.made

-- no whole message came for as long as the operator says
abbrev pub IsIdle : Limits → Watch → ℕ → Type 0
IsIdle limits watch now = silent_since watch + limits.idle ≤ now

-- it was so for so many milliseconds
abbrev pub HasWaited : Option ℕ → ℕ → ℕ → Type 0
HasWaited None millis now = ⊥
HasWaited (Some since) millis now = since + millis ≤ now

-- blocks are in flight, and none was given for as long as the operator says
abbrev pub Stalls : Limits → Watch → ℕ → Type 0
Stalls limits watch now = HasWaited watch.waits limits.block now

-- it is ready, and isn't late itself
abbrev pub IsAble : Limits → Watch → ℕ → Type 0
IsAble limits watch now =
    (watch.latest.ready ≡ true) × (IsIdle limits watch now → ⊥) × (Stalls limits watch now → ⊥)

-- A connection is late for a cause, if another one is able or none is: it isn't ready so long
-- behind the time at which it was made, or it is idle, or it stalls while another is able.
abbrev pub IsLate : Limits → Watch → Bool → ℕ → Cause → Type 0
IsLate limits watch other now causes.Handshake =
    (watch.latest.ready ≡ false) × (watch.made + limits.handshake ≤ now)
IsLate limits watch other now causes.Idle = IsIdle limits watch now
IsLate limits watch other now causes.Block = (other ≡ true) × Stalls limits watch now

-- ready, silent for two minutes, and not probed since
pub record IsQuiet (watch : Watch) (now : ℕ) : Type 0 where
  pub ready : watch.latest.ready ≡ true
  pub once : watch.probed ≡ false
  pub silent : silent_since watch + 120000 ≤ now

-- ready, and its session has waited for half a minute for headers of what is unknown, since the
-- latest probe if there was one
pub record IsStuck (watch : Watch) (now : ℕ) : Type 0 where
  pub ready : watch.latest.ready ≡ true
  pub stands : HasWaited watch.unknown 30000 now

-- its peer is to be asked for a sign of life
abbrev pub WantsProbe : Watch → ℕ → Type 0
WantsProbe watch now = IsQuiet watch now ⊎ IsStuck watch now

-- no cause
abbrev pub IsInTime : Limits → Watch → Bool → ℕ → Type 0
IsInTime limits watch other now = (cause : Cause) → IsLate limits watch other now cause → ⊥

-- what is due: the end, for a cause that holds; a probe that is wanted of one that is in time; and
-- nothing only where neither is
abbrev pub Decides : Limits → Watch → Bool → ℕ → DueAction → Type 0
Decides limits watch other now (dues.End cause) = IsLate limits watch other now cause
Decides limits watch other now dues.Probe =
    IsInTime limits watch other now × WantsProbe watch now
Decides limits watch other now dues.Nothing =
    IsInTime limits watch other now × (WantsProbe watch now → ⊥)

-- A probe is sent now. A session forgets by it that it waits for headers of what is unknown, so
-- what still stands is counted from now on.
abbrev pub probed : Watch → ℕ → Watch
probed watch now = record watch {
  probed = true;
  asked = Some (unwrap_or watch.asked now);
  unknown = stands_since None (is_some watch.unknown) now;
}

-- a probe that is due counts as sent now
abbrev pub marked : Watch → ℕ → DueAction → Watch
marked watch now dues.Nothing = watch
marked watch now dues.Probe = probed watch now
marked watch now (dues.End cause) = watch
