-- Settings at another time.
use Rattle.std.specs.Prelude.{ℤ}
use Rattle.cb_node.specs.declared.settings.NodeSettings.{NodeSettings}

-- they tell this time, and are else the same
abbrev pub settings_at : NodeSettings → ℤ → NodeSettings
settings_at settings time = record settings { time = time }
