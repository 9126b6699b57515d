-- Known bytes over several calls in a row.
use Rattle.std.proofs.Common.{ℕ, List, [], ◌++◌, Option, Some, None, refl, sym, ap, ◌∙◌, append_assoc}
use Rattle.std.proofs.lemmas.List.{append-nil}
use Rattle.std.specs.Io.KnownBytes.{Keeps, Appends, Consumes}

pub Keeps-same : (a : Option (List ℕ)) → Keeps a a
Keeps-same None = tt
Keeps-same (Some xs) = refl

pub Keeps-then : (a b c : Option (List ℕ)) → Keeps a b → Keeps b c → Keeps a c
Keeps-then None b c h k = tt
Keeps-then (Some xs) None c h k = absurd h
Keeps-then (Some xs) (Some ys) None h k = absurd k
Keeps-then (Some xs) (Some ys) (Some zs) h k = k ∙ h

pub Keeps-then_appends : (a b c : Option (List ℕ)) (bytes : List ℕ) → Keeps a b → Appends b c bytes → Appends a c bytes
Keeps-then_appends None b c bytes h k = tt
Keeps-then_appends (Some xs) None c bytes h k = absurd h
Keeps-then_appends (Some xs) (Some ys) None bytes h k = absurd k
Keeps-then_appends (Some xs) (Some ys) (Some zs) bytes h k = k ∙ ap (λ (x : List ℕ). x ++ bytes) h

pub Keeps-then_consumes : (a b c : Option (List ℕ)) (bytes : List ℕ) → Keeps a b → Consumes b c bytes → Consumes a c bytes
Keeps-then_consumes None b c bytes h k = tt
Keeps-then_consumes (Some xs) None c bytes h k = absurd h
Keeps-then_consumes (Some xs) (Some ys) None bytes h k = absurd k
Keeps-then_consumes (Some xs) (Some ys) (Some zs) bytes h k = sym h ∙ k

pub Appends-then : (a b c : Option (List ℕ)) (x y : List ℕ) → Appends a b x → Appends b c y → Appends a c (x ++ y)
Appends-then None b c x y h k = tt
Appends-then (Some xs) None c x y h k = absurd h
Appends-then (Some xs) (Some ys) None x y h k = absurd k
Appends-then (Some xs) (Some ys) (Some zs) x y h k = k ∙ ap (λ (b : List ℕ). b ++ y) h ∙ append_assoc xs x y

pub Consumes-then : (a b c : Option (List ℕ)) (x y : List ℕ) → Consumes a b x → Consumes b c y → Consumes a c (x ++ y)
Consumes-then None b c x y h k = tt
Consumes-then (Some xs) None c x y h k = absurd h
Consumes-then (Some xs) (Some ys) None x y h k = absurd k
Consumes-then (Some xs) (Some ys) (Some zs) x y h k = h ∙ ap (λ (b : List ℕ). x ++ b) k ∙ sym (append_assoc x y zs)

pub Appends-nothing : (a b : Option (List ℕ)) → Keeps a b → Appends a b []
Appends-nothing None b h = tt
Appends-nothing (Some xs) None h = h
Appends-nothing (Some xs) (Some ys) h = h ∙ sym (append-nil xs)

pub Consumes-nothing : (a b : Option (List ℕ)) → Keeps a b → Consumes a b []
Consumes-nothing None b h = tt
Consumes-nothing (Some xs) None h = h
Consumes-nothing (Some xs) (Some ys) h = sym h
