-- The arguments of a request, by their places or by their names, and what they are read as.
use Rattle.std.specs.Prelude.{ℕ, Bool, if◌then◌else◌, List, codes, Option, Some, None, ok_or, option_and_then, Result, Ok, Err}
use Rattle.json.specs.Json.{Json}
use Rattle.json.specs.Find.{get, at, as_bool, as_number, as_str, is_null, later_or}
use Rattle.cb_base.specs.declared.hash.Hash256.{Hash256}
use Rattle.cb_control.specs.Written.{hash_in}
use Rattle.cb_control.specs.Words.{number_in}
use Rattle.cb_rpc_call.specs.declared.fault.RpcFault.{RpcFault}
use Rattle.cb_rpc_call.specs.declared.fault.RpcFault.TheVariants.{BadHash, OutOfRange, Usage, WrongType}
use Rattle.cb_rpc_call.specs.declared.method.Method.{Method}

-- goes on with a value, unless it was refused
infixl 10 ◌>>=◌
abbrev pub ◌>>=◌ : {A B : Type 0} → Result A RpcFault → (A → Result B RpcFault) → Result B RpcFault
Ok a >>= f = f a
Err fault >>= f = Err fault

-- an argument that is null counts as left out
abbrev pub unless_null : Json → Option Json
unless_null j = if is_null j then None else Some j

-- the argument at this place of the list `params`, or with this name in the object `params`
abbrev pub argument : ℕ → List ℕ → Json → Option Json
argument place name request =
    option_and_then unless_null
    (option_and_then (λ params. later_or (at place params) (get name params))
    (get (codes "params") request))

-- an argument that may not be left out, and one that may
abbrev pub needed : {A : Type 0} → Method → (Json → Result A RpcFault) → Option Json
    → Result A RpcFault
needed method read None = Err (Usage method)
needed method read (Some j) = read j

abbrev pub if_given : {A : Type 0} → A → (Json → Result A RpcFault) → Option Json
    → Result A RpcFault
if_given default read None = Ok default
if_given default read (Some j) = read j

-- ---- what an argument is read as

abbrev pub text_of : Json → Result (List ℕ) RpcFault
text_of j = ok_or (as_str j) WrongType

abbrev pub switch_of : Json → Result Bool RpcFault
switch_of j = ok_or (as_bool j) WrongType

-- a decimal number below a limit, in digits alone
abbrev pub number_of : ℕ → Json → Result ℕ RpcFault
number_of limit j = do
  digits ← ok_or (as_number j) WrongType
  ok_or (number_in limit digits) OutOfRange

-- a hash: 64 digits of hex, the last byte first
abbrev pub hash_of : Json → Result Hash256 RpcFault
hash_of j = do
  text ← text_of j
  ok_or (hash_in text) BadHash
