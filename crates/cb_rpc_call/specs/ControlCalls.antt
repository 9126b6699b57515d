-- Calls about the node itself.
use Rattle.std.specs.Prelude.{ℕ, if◌then◌else◌, List, codes, Option, Some, None, Result, Ok, Err}
use Rattle.std.specs.Str.{bytes_eq}
use Rattle.log.specs.declared.level.LevelFilter.{LevelFilter}
use Rattle.log.specs.declared.level.LevelFilter.TheVariants as levels
use Rattle.json.specs.Json.{Json}
use Rattle.cb_rpc_call.specs.Arguments.{◌>>=◌, argument, if_given, text_of}
use Rattle.cb_rpc_call.specs.Methods.{method_in}
use Rattle.cb_rpc_call.specs.declared.call.Call.{Call}
use Rattle.cb_rpc_call.specs.declared.call.Call.TheVariants as calls
use Rattle.cb_rpc_call.specs.declared.fault.RpcFault.{RpcFault}
use Rattle.cb_rpc_call.specs.declared.fault.RpcFault.TheVariants.{BadWord}
use Rattle.cb_rpc_call.specs.declared.method.Method.{Method}

abbrev pub level_in : List ℕ → Result LevelFilter RpcFault
level_in word =
    if bytes_eq word (codes "off")
    then Ok levels.Off
    else if bytes_eq word (codes "error")
    then Ok levels.Error
    else if bytes_eq word (codes "warn")
    then Ok levels.Warn
    else if bytes_eq word (codes "info")
    then Ok levels.Info
    else if bytes_eq word (codes "debug")
    then Ok levels.Debug
    else if bytes_eq word (codes "trace")
    then Ok levels.Trace
    else Err BadWord

abbrev pub some_level_of : Json → Result (Option LevelFilter) RpcFault
some_level_of j = do
  word ← text_of j
  level ← level_in word
  Ok (Some level)

abbrev pub logging_call : Json → Result Call RpcFault
logging_call request = do
  level ← if_given None some_level_of (argument 0 (codes "level") request)
  Ok (calls.Logging level)

-- the method that a text names, if it names one
abbrev pub some_method_of : Json → Result (Option (Option Method)) RpcFault
some_method_of j = do
  name ← text_of j
  Ok (Some (method_in name))

abbrev pub help_call : Json → Result Call RpcFault
help_call request = do
  method ← if_given None some_method_of (argument 0 (codes "command") request)
  Ok (calls.Help method)
