-- What the words of `node` ask for about JSON-RPC, and whether they let it read lines.
use Rattle.std.specs.Prelude.{◌≡◌, ◌≢◌, ℕ, Bool, false, List, [], ◌++◌, codes, Option, Some, None, string_bytes}
use Rattle.std.specs.List.{Contains}
use Rattle.std.specs.Net.Addr.{IsLoopbackV4, IsLoopbackV6, MatchIp}
use Rattle.std.specs.Net.Grammar.{IsSocketText}
use Rattle.std.specs.Net.Socket.{socket_ip}
use Rattle.std.specs.Str.{bytes_eq}
use Rattle.clap.specs.Words.{App, Row, Rule, first_of, new_rule, with_rule}
use Rattle.clap.specs.declared.builder.action.ArgAction.TheVariants.{SetTrue}
use Rattle.cb_rpc_serve.specs.declared.settings.RpcSettings.{RpcSettings}

-- an option of this name with a value
abbrev pub worded : List ℕ → Rule
worded name = record (new_rule name) { long = Some name; value_names = 1 }

-- a flag of this name
abbrev pub switch : List ℕ → Rule
switch name = record (new_rule name) { long = Some name; action = Some SetTrue }

-- these options, behind those that a command has
abbrev pub with_rpc : App → App
with_rpc a =
    with_rule
    (with_rule
    (with_rule
    (with_rule (with_rule a (worded (codes "rpc"))) (worded (codes "rpc-user")))
    (worded (codes "rpc-password")))
    (switch (codes "rpc-allow-remote")))
    (switch (codes "no-input"))

-- whether a value is that of a flag that was told
abbrev pub is_true : Option (List ℕ) → Bool
is_true None = false
is_true (Some text) = bytes_eq text (codes "true")

-- whether a flag was told
abbrev pub is_set : List ℕ → List Row → Bool
is_set name rows = is_true (first_of name rows)

-- a user and a password as HTTP's basic authentication joins them (RFC 7617): neither is empty, and
-- the user has no colon
abbrev pub IsSecret : Option (List ℕ) → Option (List ℕ) → List ℕ → Type 0
IsSecret (Some user) (Some password) secret =
    (user ≢ []) × (password ≢ []) × (Contains user 58 → ⊥)
    × (secret ≡ user ++ (codes ":" ++ password))
IsSecret user password secret = ⊥

-- Where and to whom a node answers JSON-RPC, by the value of `--rpc`. Another address than loopback
-- was allowed.
pub record AreSettings (rows : List Row) (text : List ℕ) (settings : RpcSettings) : Type 0 where
  pub place : IsSocketText text settings.address
  pub secret : IsSecret (first_of (codes "rpc-user") rows) (first_of (codes "rpc-password") rows)
      (string_bytes settings.user_and_password)
  pub remote : settings.remote ≡ is_set (codes "rpc-allow-remote") rows
  pub near : settings.remote ≡ false
      → MatchIp (socket_ip settings.address) IsLoopbackV4 IsLoopbackV6

-- the same, if `--rpc` was told
abbrev pub SettingsOf : List Row → Option (List ℕ) → Option RpcSettings → Type 0
SettingsOf rows None rpc = rpc ≡ None
SettingsOf rows (Some text) None = ⊥
SettingsOf rows (Some text) (Some settings) = AreSettings rows text settings

-- by the values of all options
abbrev pub IsRpc : List Row → Option RpcSettings → Type 0
IsRpc rows rpc = SettingsOf rows (first_of (codes "rpc") rows) rpc
