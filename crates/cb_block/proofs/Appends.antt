-- One append after another.
use Rattle.std.proofs.Common.{◌≡◌, ℕ, zero, suc, ◌+◌, ◌<◌, ◌≤◌, List, [], ◌∷◌, ◌++◌, length, get_or, take, sym, refl, ap, ◌∙◌, append_assoc, arith}
use Rattle.std.proofs.lemmas.List.{append-nil, length-append, take_at, take_all, take-take}
use Rattle.std.specs.List.{flat_map}
use Rattle.std.proofs.lemmas.List.Concat.{flat_map-cons}
use Rattle.cb_base.specs.CompactSize.{compact_text}
use Rattle.cb_block.specs.TxText.{list_text}
use Rattle.cb_block.specs.TxWriting.{Extends}

pub Extends-same : (a b : List ℕ) → b ≡ a → Extends a b
Extends-same a b e = rw e (take_all (length a) a (omega arith))

pub Extends-then : (a b c x : List ℕ) → b ≡ a ++ x → Extends b c → Extends a c
Extends-then a b c x e h =
    let shorter : take (length a) (take (length b) c) ≡ take (length a) c = take-take (length a) (length b) c (omega (arith, ap length e, length-append a x)) in
    sym shorter ∙ ap (take (length a)) (h ∙ e) ∙ take_at a x (length a) refl

-- the texts of the items so far, and of one more, are at most those of all
one_more : {A : Type 0} (text : A → List ℕ) (xs : List A) (i : ℕ) (x : A) → i < length xs → x ≡ get_or xs i x → length (flat_map text (take i xs)) + length (text x) ≤ length (flat_map text xs)
one_more text [] i x lt is = absurd (omega arith)
one_more text (y ∷ ys) zero x lt is =
    omega (arith, ap (λ z. length (text z)) is, ap length (flat_map-cons text y ys), length-append (text y) (flat_map text ys))
one_more text (y ∷ ys) (suc i) x lt is =
    omega (arith, one_more text ys i x (omega arith) is, ap length (flat_map-cons text y ys), length-append (text y) (flat_map text ys), ap length (flat_map-cons text y (take i ys)), length-append (text y) (flat_map text (take i ys)))

-- Where there is no room for one item's text, there is none for the list's.
pub no_room : {A : Type 0} (text : A → List ℕ) (xs : List A) (i : ℕ) (x : A) (capacity now : ℕ) (old items : List ℕ) → items ≡ old ++ (compact_text (length xs) ++ flat_map text (take i xs))
    → i < length xs → x ≡ get_or xs i x → capacity ≤ now → now < length items + length (text x) → capacity < length old + length (list_text text xs)
unfolding list_text
no_room text xs i x capacity now old items is lt at grown short =
    omega (arith, one_more text xs i x lt at, ap length is, length-append old (compact_text (length xs) ++ flat_map text (take i xs)), length-append (compact_text (length xs)) (flat_map text (take i xs)), length-append (compact_text (length xs)) (flat_map text xs))

pub ruleset appends = (append_assoc, Extends-same, Extends-then)
