-- Cutting lines: where the first LF stands, and what `lines` makes of it.
use Rattle.std.proofs.Common.{◌≡◌, ℕ, suc, ◌+◌, ◌-◌, ◌^◌, ◌<◌, ◌==◌, Bool, true, false, not, cond, List, [], ◌∷◌, ◌++◌, length, take, drop, Option, Some, None, refl, sym, ap, subst, ◌∙◌, arith, append_assoc, position, slice_index}
use Rattle.std.proofs.lemmas.Grind.{common_steps}
use Rattle.std.proofs.Math.Seq.{drop-cons}
use Rattle.std.proofs.lemmas.Bool.{eqb-true, ne_eqb}
use Rattle.std.proofs.lemmas.List.{append-nil, take-append-drop, length-append, length-take, length-drop, get_or-take, drop-drop}
use Rattle.std.proofs.lemmas.List.Elements.{All-append, All-from_get_or}
use Rattle.std.proofs.lemmas.List.Quantifiers.{position-Some}
use Rattle.std.proofs.lemmas.List.Sums.{fails_before_first}
use Rattle.std.proofs.lemmas.List.Splits.{slice_split_none, slice_split_at, length-slice_split}
use Rattle.std.specs.Bool.{OnTrue}
use Rattle.std.specs.List.{slice_split}
use Rattle.std.specs.Str.Lines.{lines, lines_of_parts, strip_carriage_return}
use Rattle.std.specs.Io.KnownBytes.{prepend_known, Keeps, Consumes, IsAtEnd}
use Rattle.cb_control.specs.Lines.{Cutting, HasNoFeed, Moves, NextLine}

-- the byte LF
abbrev pub is_feed : ℕ → Bool
is_feed byte = byte == 10

-- ---- the first LF

feed_at : (bytes : List ℕ) (place : ℕ) → position is_feed bytes ≡ Some place → HasNoFeed (take place bytes) × (bytes ≡ take place bytes ++ (10 ∷ drop (place + 1) bytes))
feed_at bytes place e =
    let p = position-Some is_feed bytes place 0 e in
    let byte : slice_index bytes place ≡ 10 = eqb-true (slice_index bytes place) 10 p.1 in
    let one : suc place ≡ place + 1 = omega arith in
    let behind : drop place bytes ≡ 10 ∷ drop (place + 1) bytes =
    drop-cons bytes place 0 p.0 ∙ ap (λ (b : ℕ). b ∷ drop (suc place) bytes) byte ∙ ap (λ (n : ℕ). 10 ∷ drop n bytes) one in (
      All-from_get_or (λ (b : ℕ). is_feed b ≡ false) (take place bytes) 0 (λ i l.
          let below : i < place = omega (arith, length-take place bytes) in
          ap is_feed (get_or-take place bytes i 0 below) ∙ p.2 i below),
      sym (take-append-drop place bytes) ∙ ap (λ (b : List ℕ). take place bytes ++ b) behind,
    )

none_by : (inside : Bool) (place : ℕ) → cond inside (Some place) None ≡ None → inside ≡ false
none_by true place e = absurd cc
none_by false place e = refl

no_feed : (bytes : List ℕ) → position is_feed bytes ≡ None → HasNoFeed bytes
no_feed bytes e =
    All-from_get_or (λ (b : ℕ). is_feed b ≡ false) bytes 0 (λ i l.
    fails_before_first is_feed bytes i 0 (let past = none_by _ _ e in grind (arith, common_steps)))

nothing_by : (bytes : List ℕ) → length bytes ≡ 0 → bytes ≡ []
nothing_by [] e = refl
nothing_by (b ∷ bytes) e = absurd cc

nothing_behind : (n : ℕ) (bytes : List ℕ) → drop n (take n bytes) ≡ []
nothing_behind n bytes = nothing_by (drop n (take n bytes)) (omega (arith, length-drop n (take n bytes), length-take n bytes))

-- what was ahead up to the first LF
pub moved_to_feed : (ahead all taken line line' : List ℕ) (used place : ℕ) → ahead ≡ drop used all → taken ≡ ahead → position is_feed taken ≡ Some place
    → line' ≡ line ++ take place taken
    → (front : List ℕ) × HasNoFeed front × (ahead ≡ front ++ (10 ∷ drop (used + (place + 1)) all)) × (line' ≡ line ++ front)
moved_to_feed ahead all taken line line' used place a t e l =
    let f = feed_at taken place e in (
      take place taken,
      f.0,
      sym t ∙ f.1 ∙ ap (λ (b : List ℕ). take place taken ++ (10 ∷ b)) (ap (drop (place + 1)) (t ∙ a) ∙ drop-drop (place + 1) used all),
      l,
    )

-- all that was ahead
pub moved_all : (ahead all taken line line' : List ℕ) (filled : ℕ) → taken ≡ ahead → position is_feed taken ≡ None
    → line' ≡ line ++ taken
    → HasNoFeed ahead × (drop filled (take filled all) ≡ []) × (line' ≡ line ++ ahead)
moved_all ahead all taken line line' filled t e l =
    (subst HasNoFeed t (no_feed taken e), nothing_behind filled all, l ∙ ap (λ (b : List ℕ). line ++ b) t)

-- ---- `lines`

lines_of_parts-cons : (x : List ℕ) (parts : List (List ℕ)) → 0 < length parts → lines_of_parts (x ∷ parts) ≡ strip_carriage_return x ∷ lines_of_parts parts
lines_of_parts-cons x [] l = absurd (omega arith)
lines_of_parts-cons x (y ∷ more) l = refl

lines-feed : (front rest : List ℕ) → HasNoFeed front → lines (front ++ (10 ∷ rest)) ≡ strip_carriage_return front ∷ lines rest
lines-feed front rest h =
    ap lines_of_parts (slice_split_at is_feed front 10 rest h refl)
    ∙ lines_of_parts-cons front (slice_split is_feed rest) (omega (arith, length-slice_split is_feed rest))

lines-last : (byte : ℕ) (bytes : List ℕ) → HasNoFeed (byte ∷ bytes) → lines (byte ∷ bytes) ≡ (byte ∷ bytes) ∷ []
lines-last byte bytes h =
    ap lines_of_parts (slice_split_none is_feed (byte ∷ bytes) h) ∙ ap (λ (none : Bool). cond none [] ((byte ∷ bytes) ∷ [])) (ne_eqb (length (byte ∷ bytes)) 0 (λ z. omega arith))

-- ---- the room of a line

-- a block that came leaves less room
pub grown : (old moved new : Cutting) (found more : Bool) → Moves found old moved → found ≡ false → length moved.line < 2 ^ 63 → new.line ≡ moved.line
    → OnTrue more (0 < length new.ahead) → more ≡ true
    → 2 ^ 63 - (length new.line + length new.ahead) < 2 ^ 63 - (length old.line + length old.ahead)
grown old moved new true more m f room l a e = absurd (let z : true ≡ false = f in cc)
grown old moved new false false m f room l a e = absurd (let z : false ≡ true = e in cc)
grown old moved new false true m f room l a e =
    let moved_to : length moved.line ≡ length old.line + length old.ahead = ap length m.2 ∙ length-append old.line old.ahead in
    let kept : length new.line ≡ length moved.line = ap length l in
    omega (arith, moved_to, kept, room, a)

-- ---- a step of the reader over known bytes

-- a block was read
pub kept_read : (whole r r' : Option (List ℕ)) (line ahead line' ahead' : List ℕ) → Keeps whole (prepend_known (line ++ ahead) r) → line' ≡ line ++ ahead
    → Consumes r r' ahead' → Keeps whole (prepend_known (line' ++ ahead') r')
kept_read None r r' line ahead line' ahead' k l c = tt
kept_read (Some w) None r' line ahead line' ahead' k l c = absurd k
kept_read (Some w) (Some xs) None line ahead line' ahead' k l c = absurd c
kept_read (Some w) (Some xs) (Some ys) line ahead line' ahead' k l c =
    append_assoc line' ahead' ys ∙ ap (λ (b : List ℕ). b ++ (ahead' ++ ys)) l ∙ ap (λ (b : List ℕ). (line ++ ahead) ++ b) (sym c) ∙ k

-- a line ends at an LF
pub next_line : (whole r : Option (List ℕ)) (old new : Cutting) (final : List ℕ) → Keeps whole (prepend_known (old.line ++ old.ahead) r) → HasNoFeed old.line
    → Moves true old new → final ≡ strip_carriage_return new.line → NextLine true whole (prepend_known new.ahead r) final
next_line None r old new final k h m f = tt
next_line (Some w) None old new final k h m f = absurd k
next_line (Some w) (Some xs) old new final k h m f =
    let all : HasNoFeed new.line = subst HasNoFeed (sym m.3) (All-append (λ (b : ℕ). is_feed b ≡ false) old.line m.0 h m.1) in
    let spelled : w ≡ new.line ++ (10 ∷ (new.ahead ++ xs)) =
    sym k ∙ append_assoc old.line old.ahead xs ∙ ap (λ (b : List ℕ). old.line ++ (b ++ xs)) m.2
    ∙ ap (λ (b : List ℕ). old.line ++ b) (append_assoc m.0 (10 ∷ new.ahead) xs)
    ∙ sym (append_assoc old.line m.0 (10 ∷ (new.ahead ++ xs))) ∙ ap (λ (b : List ℕ). b ++ (10 ∷ (new.ahead ++ xs))) (sym m.3) in
    ap lines spelled ∙ lines-feed new.line (new.ahead ++ xs) all ∙ ap (λ (b : List ℕ). b ∷ lines (new.ahead ++ xs)) (sym f)

nothing_more : (bytes line rest : List ℕ) → bytes ≡ line ++ rest → rest ≡ [] → bytes ≡ line
nothing_more bytes line rest e n = e ∙ ap (λ (r : List ℕ). line ++ r) n ∙ append-nil line

last_by : (bytes line rest : List ℕ) (found : Bool) → bytes ≡ line → rest ≡ [] → HasNoFeed line → found ≡ not (length line == 0) → NextLine found (Some bytes) (Some rest) line
last_by bytes [] rest true e n h f = absurd (let z : true ≡ false = f in cc)
last_by bytes [] rest false e n h f = (e, n)
last_by bytes (b ∷ bs) rest false e n h f = absurd (let z : false ≡ true = f ∙ ap not (ne_eqb (length (b ∷ bs)) 0 (λ z. omega arith)) in cc)
last_by bytes (b ∷ bs) rest true e n h f = ap lines e ∙ lines-last b bs h ∙ ap (λ (r : List ℕ). (b ∷ bs) ∷ lines r) (sym n)

-- the last line ends with the source
pub last_line : (whole r r' : Option (List ℕ)) (old new : Cutting) (line ahead : List ℕ) (found : Bool) → Keeps whole (prepend_known (old.line ++ old.ahead) r)
    → HasNoFeed old.line → Moves false old new → line ≡ new.line → Consumes r r' ahead → ahead ≡ [] → IsAtEnd r' → found ≡ not (length line == 0)
    → NextLine found whole (prepend_known ahead r') line
last_line None r r' old new line ahead found k h m l c a e f = tt
last_line (Some w) None r' old new line ahead found k h m l c a e f = absurd k
last_line (Some w) (Some xs) None old new line ahead found k h m l c a e f = absurd c
last_line (Some w) (Some xs) (Some ys) old new line ahead found k h m l c a e f =
    let all : line ≡ old.line ++ old.ahead = l ∙ m.2 in
    let none : ahead ++ ys ≡ [] = rw (a, e) refl in
    last_by w line (ahead ++ ys) found
    (nothing_more w line (ahead ++ ys) (sym k ∙ ap (λ (b : List ℕ). b ++ xs) (sym all) ∙ ap (λ (b : List ℕ). line ++ b) c) none)
    none
    (subst HasNoFeed (sym all) (All-append (λ (b : ℕ). is_feed b ≡ false) old.line old.ahead h m.0))
    f
