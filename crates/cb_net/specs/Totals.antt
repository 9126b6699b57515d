-- What was sent since a network began.
use Rattle.std.specs.Prelude.{◌≡◌, replicate}
use Rattle.cb_net_node.specs.Traffics.{AddsRows, nothing, rows_of}
use Rattle.cb_net.specs.Moments.{Lasts}
use Rattle.cb_net.specs.declared.net.Net.{Net}

-- What was sent since the block before is added to what was sent before that, and counting starts
-- over.
pub record Settles (old new : Net) : Type 0 where
  pub total : AddsRows old.world.traffic old.total new.total
  pub nothing_yet : rows_of new.world.traffic ≡ replicate 17 nothing
  pub others : new ≡ record old {
    total = new.total;
    world = record old.world { traffic = new.world.traffic };
  }

-- At some moment all that had been sent was added up, and counting started over. What was sent
-- since then isn't in the total yet.
pub record SettlesOnce (old new : Net) : Type 0 where
  pub before : Net
  pub after : Net
  pub begins : Lasts old before
  pub settles : Settles before after
  pub lasts : Lasts after new
  pub total : new.total ≡ after.total

-- At the end all that was sent is added up.
pub record SettlesAtLast (old new : Net) : Type 0 where
  pub before : Net
  pub begins : Lasts old before
  pub settles : Settles before new
