-- Names that are compared, and the names of members.
use Rattle.std.proofs.Common.{◌≡◌, ℕ, false, ◌&&◌, List, [], ◌∷◌, refl, ap}
use Rattle.std.specs.Borrow.{Bor}
use Rattle.std.specs.List.{list_all}
use Rattle.std.specs.Str.{bytes_eq}
use Rattle.std.proofs.lemmas.Bool.{false_from_ne_true}
use Rattle.std.proofs.lemmas.Slice.Eq.{bytes_eq-Decides}
use Rattle.json.specs.declared.value.Value.{Value}
use Rattle.json.specs.Value.{members_view}
use Rattle.cb_rpc_call.specs.Calls.{all_taken}
use Rattle.cb_rpc_call.specs.Methods.{takes}
use Rattle.cb_rpc_call.specs.declared.method.Method.{Method}

pub differs : (a b : List ℕ) → (a ≡ b → ⊥) → bytes_eq a b ≡ false
differs a b h = false_from_ne_true (bytes_eq a b) (λ t. h ((bytes_eq-Decides a b).0 t))

-- each member's name, seen in the list of members or in the value
pub taken_all : {A : Type 0} (method : Method) (ms : List (Bor (List ℕ) × Value A)) → list_all (λ m. takes method m.0.now) ms ≡ all_taken method (members_view ms)
taken_all method [] = refl
taken_all method (m ∷ ms) = ap (λ b. takes method m.0.now && b) (taken_all method ms)
