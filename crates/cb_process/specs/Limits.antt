-- What an operator lets peers do.
use Rattle.std.specs.Prelude.{ℕ, ◌/◌, None, max, min}
use Rattle.cb_process.specs.declared.limits.Limits.{Limits}

-- a minute for a handshake, 20 minutes for a message, 2 minutes for a block; 64 slots
abbrev pub usual_limits : Limits
usual_limits = record {
  handshake = 60000;
  idle = 1200000;
  block = 120000;
  inbound = 48;
  outbound = 16;
  per_address = None;
}

-- how many of so many slots serve peers that are dialled: a quarter, at least 1 and at most 16
abbrev pub dialled_of : ℕ → ℕ
dialled_of most = min (max (most / 4) 1) 16
