-- What calls write, one after another.
use Rattle.std.proofs.Common.{◌≡◌, List, [], ◌∷◌, ◌++◌, Result, Ok, Err, ap, ◌∙◌, append_assoc}
use Rattle.json.specs.Token.{Token}
use Rattle.json.specs.Written.{Written, Writes}
use Rattle.cb_rpc_call.specs.Writing.{Adds}

-- a call behind another
pub adds_then : {D E : Type 0} {u : Unit {0}} {r : Result (Unit {0}) E} {old mid new : Written} {a b : List Token} → Adds {E = D} (Ok u) old mid a → Adds r mid new b → Adds r old new (a ++ b)
adds_then {r = Ok u} {old = old} {a = a} {b = b} first second =
    record {
      tokens = second.tokens ∙ ap (λ (l : List Token). l ++ b) first.tokens ∙ append_assoc old.tokens a b;
      before = second.before ∙ first.before;
    }
adds_then {r = Err e} first second = record { tokens = tt; before = second.before ∙ first.before }

-- a call behind a token
pub adds_behind : {D E : Type 0} {u : Unit {0}} {r : Result (Unit {0}) E} {old mid new : Written} {t : Token} {b : List Token} → Writes {E = D} (Ok u) old mid t → Adds r mid new b → Adds r old new (t ∷ b)
adds_behind {r = Ok u} {old = old} {t = t} {b = b} first second =
    record {
      tokens = second.tokens ∙ ap (λ (l : List Token). l ++ b) first.ok ∙ append_assoc old.tokens (t ∷ []) b;
      before = second.before ∙ first.room.0;
    }
adds_behind {r = Err e} first second = record { tokens = tt; before = second.before ∙ first.room.0 }

-- a token alone
pub adds_one : {E : Type 0} {r : Result (Unit {0}) E} {old new : Written} {t : Token} → Writes r old new t → Adds r old new (t ∷ [])
adds_one w = record { tokens = w.ok; before = w.room.0 }

-- what is added, under another name
pub adds_is : {E : Type 0} {r : Result (Unit {0}) E} {old new : Written} {a b : List Token} → Adds r old new a → a ≡ b → Adds r old new b
adds_is {r = Ok u} {old = old} added same = record { tokens = added.tokens ∙ ap (λ (l : List Token). old.tokens ++ l) same; before = added.before }
adds_is {r = Err e} added same = record { tokens = tt; before = added.before }
