-- A node at another time.
use Rattle.std.specs.Prelude.{ℤ}
use Rattle.std.proofs.Common.{◌≡◌, ap, ◌∙◌}
use Rattle.cb_node.specs.declared.settings.NodeSettings.{NodeSettings}
use Rattle.cb_node.specs.Node.{NodeState, with_time}
use Rattle.cb_node.specs.Times.{settings_at}

-- its settings are at another time
pub set_at : (inside old : NodeState) (time : ℤ) (settings : NodeSettings) → settings ≡ settings_at inside.settings time → inside ≡ old → record inside { settings = settings } ≡ with_time old time
set_at inside old time settings is same =
    ap (λ (s : NodeSettings). record inside { settings = s }) is ∙ ap (λ (n : NodeState). with_time n time) same
