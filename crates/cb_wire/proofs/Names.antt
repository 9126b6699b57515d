-- A command in the twelve bytes of an envelope.
use Rattle.std.proofs.Common.{◌≡◌, ℕ, zero, suc, ◌+◌, ◌-◌, ◌<◌, ◌≤◌, Bool, true, false, not, cond, ◌&&◌, eqb, ltb, List, [], ◌∷◌, length, take, drop, replicate, Some, None, Result, Ok, Err, refl, sym, ap, subst, ◌∙◌, arith}
use Rattle.std.specs.Prelude.{MatchResult}
use Rattle.std.specs.Option.{option_map}
use Rattle.std.specs.Result.{result_ok}
use Rattle.std.specs.List.{list_all, prefix_len, position_or_len, position}
use Rattle.std.specs.Str.{IsAscii, IsUtf8}
use Rattle.std.proofs.lemmas.Str.{IsUtf8-from_ascii}
use Rattle.std.proofs.lemmas.List.{take_at, drop_at}
use Rattle.std.proofs.lemmas.List.Sums.{prefix_len-le-length}
use Rattle.std.proofs.lemmas.List.Folds.{prefix_len-append}
use Rattle.std.proofs.lemmas.Bool.{ltb-false, leb-true}
use Rattle.std.proofs.lemmas.Bool.Decides.{nat_tests}
use Rattle.cb_wire.specs.Command.{is_command, is_command_byte, command_field, name_length, command_in}

-- where no zero stands, the name is the whole field
pub name_length-none : (field : List ℕ) → position (λ byte. eqb byte 0) field ≡ None → length field ≡ name_length field
name_length-none field e =
    let stops : (b : Bool) → cond b (Some (name_length field)) None ≡ None → b ≡ false = elim [ true ↦ λ h. absurd cc | false ↦ λ _. refl ] in
    let le : length field ≤ name_length field = ltb-false _ _ (stops (ltb (name_length field) (length field)) e) in
    let ge = prefix_len-le-length (λ byte. not (eqb byte 0)) field in
    omega arith

and_true : (a b : Bool) → (a && b) ≡ true → (a ≡ true) × (b ≡ true)
and_true true b e = (refl, e)
and_true false b e = absurd cc

command_byte-small : (byte : ℕ) → is_command_byte byte ≡ true → byte < 128
command_byte-small byte e = grind (arith, nat_tests)

command_byte-nonzero : (byte : ℕ) → is_command_byte byte ≡ true → not (eqb byte 0) ≡ true
command_byte-nonzero byte e = grind (arith, nat_tests)

command_bytes-ascii : (name : List ℕ) → list_all is_command_byte name ≡ true → IsAscii name
command_bytes-ascii [] e i = omega arith
command_bytes-ascii (byte ∷ name) e zero = command_byte-small byte (and_true _ _ e).0
command_bytes-ascii (byte ∷ name) e (suc i) = command_bytes-ascii name (and_true _ _ e).1 i

-- the third test of a command's form
all_of : (name : List ℕ) → is_command name ≡ true → list_all is_command_byte name ≡ true
all_of name e = (and_true _ _ e).1

pub command-utf8 : (name : List ℕ) → is_command name ≡ true → IsUtf8 name
command-utf8 name e = IsUtf8-from_ascii name (command_bytes-ascii name (all_of name e))

-- reading text that is UTF-8 gives that text
pub utf8_read : {S E : Type 0} (now : S → List ℕ) (bytes : List ℕ) (Q : E → Type 0) (r : Result S E) → IsUtf8 bytes
    → MatchResult r (λ s. (now s ≡ bytes) × IsUtf8 bytes) (λ e. ¬ (IsUtf8 bytes) × Q e) → option_map now (result_ok r) ≡ Some bytes
utf8_read now bytes Q (Ok s) u h = ap (λ b. Some b) h.0
utf8_read now bytes Q (Err e) u h = absurd (h.0 u)

-- ---- a command that was written is found again

command_bytes-length : (name : List ℕ) → list_all is_command_byte name ≡ true → position_or_len (λ byte. eqb byte 0) name ≡ length name
command_bytes-length [] e = refl
command_bytes-length (byte ∷ name) e =
    let t = and_true _ _ e in
    let nonzero = command_byte-nonzero byte t.0 in
    let more = command_bytes-length name t.1 in
    rw nonzero (omega (arith, more))

zeros-length : (k : ℕ) → position_or_len (λ byte. eqb byte 0) (replicate k 0) ≡ 0
zeros-length zero = refl
zeros-length (suc k) = refl

zeros-all : (k : ℕ) → list_all (λ byte. eqb byte 0) (replicate k 0) ≡ true
zeros-all zero = refl
zeros-all (suc k) = zeros-all k

eqb-same : (n : ℕ) → eqb n n ≡ true
eqb-same n = grind (arith, nat_tests)

name_length-field : (name : List ℕ) → is_command name ≡ true → name_length (command_field name) ≡ length name
name_length-field name e =
    let p : ℕ → Bool = λ byte. not (eqb byte 0) in
    let zs = replicate (12 - length name) 0 in
    let len : prefix_len p name ≡ length name = command_bytes-length name (all_of name e) in
    let same : eqb (prefix_len p name) (length name) ≡ true = subst (λ n. eqb n (length name) ≡ true) (sym len) (eqb-same (length name)) in
    let none : prefix_len p zs ≡ 0 = zeros-length (12 - length name) in
    prefix_len-append p name zs ∙ ap (λ b. cond b (length name + prefix_len p zs) (prefix_len p name)) same ∙ omega (arith, none)

pub command_in-field : (name : List ℕ) → is_command name ≡ true → command_in (command_field name) ≡ Some name
unfolding command_in
command_in-field name e =
    let zs = replicate (12 - length name) 0 in
    let len = name_length-field name e in
    let front : take (name_length (command_field name)) (command_field name) ≡ name =
    ap (λ n. take n (command_field name)) len ∙ take_at name zs (length name) refl in
    let back : drop (name_length (command_field name)) (command_field name) ≡ zs =
    ap (λ n. drop n (command_field name)) len ∙ drop_at name zs (length name) refl in
    let zeros : list_all (λ byte. eqb byte 0) (drop (name_length (command_field name)) (command_field name)) ≡ true =
    ap (list_all (λ byte. eqb byte 0)) back ∙ zeros-all (12 - length name) in
    let form : is_command (take (name_length (command_field name)) (command_field name)) ≡ true = ap is_command front ∙ e in
    ap (λ b. cond (b && list_all (λ byte. eqb byte 0) (drop (name_length (command_field name)) (command_field name))) (Some (take (name_length (command_field name)) (command_field name))) None) form
    ∙ ap (λ b. cond b (Some (take (name_length (command_field name)) (command_field name))) None) zeros
    ∙ ap (λ n. Some n) front

-- a field that was cut at its first zero, into a name and zeros
pub command_in-cut : (field front back : List ℕ) (k : ℕ) → k ≡ name_length field → front ≡ take k field → back ≡ drop k field
    → is_command front ≡ true → list_all (λ byte. eqb byte 0) back ≡ true → command_in field ≡ Some front
unfolding command_in
command_in-cut field front back k len cut rest form zeros =
    let front_is : front ≡ take (name_length field) field = cut ∙ ap (λ n. take n field) len in
    let back_is : back ≡ drop (name_length field) field = rest ∙ ap (λ n. drop n field) len in
    let form' : is_command (take (name_length field) field) ≡ true = ap is_command (sym front_is) ∙ form in
    let zeros' : list_all (λ byte. eqb byte 0) (drop (name_length field) field) ≡ true = ap (list_all (λ byte. eqb byte 0)) (sym back_is) ∙ zeros in
    ap (λ b. cond (b && list_all (λ byte. eqb byte 0) (drop (name_length field) field)) (Some (take (name_length field) field)) None) form'
    ∙ ap (λ b. cond b (Some (take (name_length field) field)) None) zeros'
    ∙ ap (λ n. Some n) (sym front_is)

pub command-le : (name : List ℕ) → is_command name ≡ true → length name ≤ 12
command-le name e = leb-true (length name) 12 (and_true _ _ (and_true _ _ e).0).1
