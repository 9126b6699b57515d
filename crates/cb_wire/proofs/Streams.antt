-- What a stream spells: one answer and no other, some answer always, and the same answer however the stream was cut.
use Rattle.std.proofs.Common.{◌≡◌, ℕ, zero, suc, ◌+◌, ◌≤◌, Bool, true, false, not, cond, ltb, List, [], ◌∷◌, ◌++◌, length, take, drop, Option, Some, None, refl, sym, ap, subst, ◌∙◌, arith, inl, inr, ◌⊎◌}
use Rattle.std.specs.Prelude.{is_some}
use Rattle.std.specs.Int.{w32, from_le_bytes}
use Rattle.std.specs.Str.{bytes_eq}
use Rattle.std.proofs.lemmas.Bool.{ltb-false, le-ltb}
use Rattle.std.proofs.lemmas.List.{append-nil, length-append, length-drop, take-append-le, drop-append-le}
use Rattle.cb_base.specs.declared.fault.Fault.{Fault}
use Rattle.cb_base.specs.declared.fault.Fault.TheVariants.{BadMagic, Oversize}
use Rattle.cb_wire.specs.declared.item.Item.{Item}
use Rattle.cb_wire.specs.declared.envelope.Front.{Front}
use Rattle.cb_wire.specs.declared.envelope.Front.TheVariants.{Partial, Broken, Whole}
use Rattle.cb_wire.specs.Envelope.{magic, told_length, front_at, item_from, item_at}
use Rattle.cb_wire.specs.Stream.{Ends, Stream, IsSettled, Extends, Reading}

-- ---- what stands at the front

front_by : Bool → Bool → Bool → Bool → ℕ → Front
front_by short other long cut n = cond short Partial (cond other (Broken BadMagic) (cond long (Broken Oversize) (cond cut Partial (Whole n))))

front_at_lem : (bytes : List ℕ) → front_at bytes ≡ front_by (ltb (length bytes) 24) (not (bytes_eq (take 4 bytes) magic)) (ltb 4000000 (told_length bytes)) (ltb (length bytes) (24 + told_length bytes)) (told_length bytes)
unfolding front_at front_by
front_at_lem bytes = refl

whole_by : (short other long cut : Bool) (n m : ℕ) → front_by short other long cut n ≡ Whole m → (short ≡ false) × (other ≡ false) × (long ≡ false) × (cut ≡ false) × (n ≡ m)
unfolding front_by
whole_by true other long cut n m e = absurd cc
whole_by false true long cut n m e = absurd cc
whole_by false false true cut n m e = absurd cc
whole_by false false false true n m e = absurd cc
whole_by false false false false n m e = (refl, refl, refl, refl, cc)

broken_by : (short other long cut : Bool) (n : ℕ) (why : Fault) → front_by short other long cut n ≡ Broken why
    → (short ≡ false) × (((other ≡ true) × (why ≡ BadMagic)) ⊎ ((other ≡ false) × (long ≡ true) × (why ≡ Oversize)))
unfolding front_by
broken_by true other long cut n why e = absurd cc
broken_by false true long cut n why e = (refl, inl (refl, cc))
broken_by false false true cut n why e = (refl, inr (refl, refl, cc))
broken_by false false false true n why e = absurd cc
broken_by false false false false n why e = absurd cc

front_by-whole : (short other long cut : Bool) (n : ℕ) → short ≡ false → other ≡ false → long ≡ false → cut ≡ false → front_by short other long cut n ≡ Whole n
unfolding front_by
front_by-whole short other long cut n a b c d = rw (a, b, c, d) refl

front_by-magic : (short other long cut : Bool) (n : ℕ) → short ≡ false → other ≡ true → front_by short other long cut n ≡ Broken BadMagic
unfolding front_by
front_by-magic short other long cut n a b = rw (a, b) refl

front_by-oversize : (short other long cut : Bool) (n : ℕ) → short ≡ false → other ≡ false → long ≡ true → front_by short other long cut n ≡ Broken Oversize
unfolding front_by
front_by-oversize short other long cut n a b c = rw (a, b, c) refl

-- a whole envelope at the front
pub record IsWhole (bytes : List ℕ) (n : ℕ) : Type 0 where
  pub told : told_length bytes ≡ n
  pub marked : not (bytes_eq (take 4 bytes) magic) ≡ false
  pub limit : n ≤ 4000000
  pub within : 24 + n ≤ length bytes

pub whole_is : (bytes : List ℕ) (n : ℕ) → front_at bytes ≡ Whole n → IsWhole bytes n
whole_is bytes n e =
    let w = whole_by _ _ _ _ _ _ (sym (front_at_lem bytes) ∙ e) in
    let limit : told_length bytes ≤ 4000000 = ltb-false _ _ w.2 in
    let within : 24 + told_length bytes ≤ length bytes = ltb-false _ _ w.3 in
    record { told = w.4; marked = w.1; limit = omega (arith, w.4); within = omega (arith, w.4) }

pub front_at-whole : (bytes : List ℕ) (n : ℕ) → IsWhole bytes n → front_at bytes ≡ Whole n
front_at-whole bytes n w =
    let told = w.told in
    let within = w.within in
    let limit = w.limit in
    front_at_lem bytes ∙ front_by-whole _ _ _ _ _ (le-ltb _ _ (omega arith)) w.marked (le-ltb _ _ (omega arith)) (le-ltb _ _ (omega arith)) ∙ ap (λ k. Whole k) told

-- ---- more bytes behind

told_length-grows : (h p : List ℕ) → 24 ≤ length h → told_length (h ++ p) ≡ told_length h
told_length-grows h p long =
    let tail : drop 16 (h ++ p) ≡ drop 16 h ++ p = drop-append-le 16 h p (omega arith) in
    let four : take 4 (drop 16 h ++ p) ≡ take 4 (drop 16 h) = take-append-le 4 (drop 16 h) p (omega (arith, length-drop 16 h)) in
    ap (λ (bytes : List ℕ). from_le_bytes w32 (take 4 bytes)) tail ∙ ap (from_le_bytes w32) four

magic-grows : (h p : List ℕ) → 24 ≤ length h → not (bytes_eq (take 4 (h ++ p)) magic) ≡ not (bytes_eq (take 4 h) magic)
magic-grows h p long = ap (λ (bytes : List ℕ). not (bytes_eq bytes magic)) (take-append-le 4 h p (omega arith))

whole-grows : (h p : List ℕ) (n : ℕ) → IsWhole h n → IsWhole (h ++ p) n
whole-grows h p n w =
    let within = w.within in
    record {
      told = told_length-grows h p (omega arith) ∙ w.told;
      marked = magic-grows h p (omega arith) ∙ w.marked;
      limit = w.limit;
      within = omega (arith, length-append h p);
    }

broken-grows : (h p : List ℕ) (why : Fault) → front_at h ≡ Broken why → front_at (h ++ p) ≡ Broken why
broken-grows h p why e =
    let b = broken_by _ _ _ _ _ _ (sym (front_at_lem h) ∙ e) in
    let long : 24 ≤ length h = ltb-false _ _ b.0 in
    let short : ltb (length (h ++ p)) 24 ≡ false = le-ltb _ _ (omega (arith, length-append h p)) in
    let marked = magic-grows h p long in
    let told = told_length-grows h p long in
    elim b.1 [
      | inl x ↦ front_at_lem (h ++ p) ∙ front_by-magic _ _ _ _ _ short (marked ∙ x.0) ∙ ap (λ f. Broken f) (sym x.1)
      | inr x ↦ front_at_lem (h ++ p) ∙ front_by-oversize _ _ _ _ _ short (marked ∙ x.0) (ap (λ k. ltb 4000000 k) told ∙ x.1) ∙ ap (λ f. Broken f) (sym x.2)
    ]

item_at-grows : (h p : List ℕ) (n : ℕ) → 24 + n ≤ length h → item_at n (h ++ p) ≡ item_at n h
unfolding item_at
item_at-grows h p n long =
    let header : take 24 (h ++ p) ≡ take 24 h = take-append-le 24 h p (omega arith) in
    let tail : drop 24 (h ++ p) ≡ drop 24 h ++ p = drop-append-le 24 h p (omega arith) in
    let payload : take n (drop 24 h ++ p) ≡ take n (drop 24 h) = take-append-le n (drop 24 h) p (omega (arith, length-drop 24 h)) in
    ap (λ (bytes : List ℕ). item_from bytes (take n (drop 24 (h ++ p)))) header
    ∙ ap (λ (bytes : List ℕ). item_from (take 24 h) bytes) (ap (take n) tail ∙ payload)

-- ---- however it was cut

ends_none : (front : Front) (bytes rest : List ℕ) → Ends front bytes rest None → rest ≡ bytes
ends_none Partial bytes rest h = h.0
ends_none (Broken why) bytes rest h = absurd (let e = h.1 in cc)
ends_none (Whole n) bytes rest h = absurd h

ends_some : (front : Front) (bytes rest : List ℕ) (why : Fault) → Ends front bytes rest (Some why) → (rest ≡ []) × (front ≡ Broken why)
ends_some Partial bytes rest why h = absurd (let e = h.1 in cc)
ends_some (Broken other) bytes rest why h = (h.0, let e = h.1 in cc)
ends_some (Whole n) bytes rest why h = absurd h

-- the rest goes on into the next piece
pub Stream-grows : (h p : List ℕ) (items : List Item) (rest : List ℕ) (more : List Item) (rest' : List ℕ) (fault' : Option Fault)
    → Stream h items rest None → Stream (rest ++ p) more rest' fault' → Stream (h ++ p) (items ++ more) rest' fault'
Stream-grows h p [] rest more rest' fault' s t =
    subst (λ (bytes : List ℕ). Stream (bytes ++ p) more rest' fault') (ends_none (front_at h) h rest s) t
Stream-grows h p (item ∷ items) rest more rest' fault' s t =
    let w = whole_is h s.0 s.1 in
    let within = w.within in
    let tail : drop (24 + s.0) (h ++ p) ≡ drop (24 + s.0) h ++ p = drop-append-le (24 + s.0) h p within in (
      s.0,
      front_at-whole (h ++ p) s.0 (whole-grows h p s.0 w),
      s.2 ∙ sym (item_at-grows h p s.0 within),
      subst (λ (bytes : List ℕ). Stream bytes (items ++ more) rest' fault') (sym tail) (Stream-grows (drop (24 + s.0) h) p items rest more rest' fault' s.3 t),
    )

-- after a fault nothing changes any more
pub Stream-broken : (h p : List ℕ) (items : List Item) (rest : List ℕ) (why : Fault) → Stream h items rest (Some why) → Stream (h ++ p) items rest (Some why)
Stream-broken h p [] rest why s =
    let e = ends_some (front_at h) h rest why s in
    subst (λ front. Ends front (h ++ p) rest (Some why)) (sym (broken-grows h p why e.1)) (e.0, refl)
Stream-broken h p (item ∷ items) rest why s =
    let w = whole_is h s.0 s.1 in
    let within = w.within in
    let tail : drop (24 + s.0) (h ++ p) ≡ drop (24 + s.0) h ++ p = drop-append-le (24 + s.0) h p within in (
      s.0,
      front_at-whole (h ++ p) s.0 (whole-grows h p s.0 w),
      s.2 ∙ sym (item_at-grows h p s.0 within),
      subst (λ (bytes : List ℕ). Stream bytes items rest (Some why)) (sym tail) (Stream-broken (drop (24 + s.0) h) p items rest why s.3),
    )

-- ---- one answer at the most

ends_one : (front : Front) (bytes r s : List ℕ) (f g : Option Fault) → Ends front bytes r f → Ends front bytes s g → (r ≡ s) × (f ≡ g)
ends_one Partial bytes r s f g h k = (h.0 ∙ sym k.0, h.1 ∙ sym k.1)
ends_one (Broken why) bytes r s f g h k = (h.0 ∙ sym k.0, h.1 ∙ sym k.1)
ends_one (Whole n) bytes r s f g h k = absurd h

ends_whole : (front : Front) (bytes r : List ℕ) (f : Option Fault) (n : ℕ) → Ends front bytes r f → front ≡ Whole n → ⊥
ends_whole Partial bytes r f n h e = cc
ends_whole (Broken why) bytes r f n h e = cc
ends_whole (Whole m) bytes r f n h e = h

-- two answers to one stream are the same
pub record IsSame (i j : List Item) (r s : List ℕ) (f g : Option Fault) : Type 0 where
  pub items : i ≡ j
  pub rest : r ≡ s
  pub fault : f ≡ g

pub Stream-one : (bytes : List ℕ) (i j : List Item) (r s : List ℕ) (f g : Option Fault) → Stream bytes i r f → Stream bytes j s g → IsSame i j r s f g
Stream-one bytes [] [] r s f g h k = let e = ends_one (front_at bytes) bytes r s f g h k in record { items = refl; rest = e.0; fault = e.1 }
Stream-one bytes [] (y ∷ j) r s f g h k = absurd (ends_whole (front_at bytes) bytes r f k.0 h k.1)
Stream-one bytes (x ∷ i) [] r s f g h k = absurd (ends_whole (front_at bytes) bytes s g h.0 k h.1)
Stream-one bytes (x ∷ i) (y ∷ j) r s f g h k =
    let n : h.0 ≡ k.0 = (let e = sym h.1 ∙ k.1 in cc) in
    let item : x ≡ y = h.2 ∙ ap (λ m. item_at m bytes) n ∙ sym k.2 in
    let same = Stream-one (drop (24 + h.0) bytes) i j r s f g h.3 (subst (λ (m : ℕ). Stream (drop (24 + m) bytes) j s g) (sym n) k.3) in
    record { items = ap (λ z. z ∷ i) item ∙ ap (λ zs. y ∷ zs) same.items; rest = same.rest; fault = same.fault }

-- ---- some answer always

reading_by : (fuel : ℕ) (bytes : List ℕ) (front : Front) → length bytes ≤ fuel → front_at bytes ≡ front → Reading bytes
reading_by fuel bytes Partial le e = record { items = []; rest = bytes; fault = None; stream = subst (λ front. Ends front bytes bytes None) (sym e) (refl, refl) }
reading_by fuel bytes (Broken why) le e = record { items = []; rest = []; fault = Some why; stream = subst (λ front. Ends front bytes [] (Some why)) (sym e) (refl, refl) }
reading_by zero bytes (Whole n) le e = absurd (let within = (whole_is bytes n e).within in omega arith)
reading_by (suc fuel) bytes (Whole n) le e =
    let within = (whole_is bytes n e).within in
    let tail = reading_by fuel (drop (24 + n) bytes) (front_at (drop (24 + n) bytes)) (omega (arith, length-drop (24 + n) bytes)) refl in
    record { items = item_at n bytes ∷ tail.items; rest = tail.rest; fault = tail.fault; stream = (n, e, refl, tail.stream) }

pub reading_of : (bytes : List ℕ) → Reading bytes
reading_of bytes = reading_by (length bytes) bytes (front_at bytes) (omega arith) refl

-- more bytes have a reading that goes on from the items before
pub reading_goes_on : (bytes piece : List ℕ) (items : List Item) (rest : List ℕ) (fault : Option Fault) → Stream bytes items rest fault → Extends (bytes ++ piece) items
reading_goes_on bytes piece items rest None s =
    let tail = reading_of (rest ++ piece) in
    record { more = tail.items; rest = tail.rest; fault = tail.fault; stream = Stream-grows bytes piece items rest tail.items tail.rest tail.fault s tail.stream }
reading_goes_on bytes piece items rest (Some why) s = record {
  more = [];
  rest = rest;
  fault = Some why;
  stream = subst (λ (is : List Item). Stream (bytes ++ piece) is rest (Some why)) (sym (append-nil items)) (Stream-broken bytes piece items rest why s);
}

-- ---- what the assembler keeps

-- what the rest spells comes behind the items so far
abbrev pub Continues : List ℕ → List Item → List ℕ → Type 0
Continues bytes items rest = (more : List Item) (after : List ℕ) (fault : Option Fault) → Stream rest more after fault → Stream bytes (items ++ more) after fault

partial_stream : (rest : List ℕ) → front_at rest ≡ Partial → Stream rest [] rest None
partial_stream rest e = subst (λ front. Ends front rest rest None) (sym e) (refl, refl)

broken_stream : (rest : List ℕ) (why : Fault) → front_at rest ≡ Broken why → Stream rest [] [] (Some why)
broken_stream rest why e = subst (λ front. Ends front rest [] (Some why)) (sym e) (refl, refl)

-- the loop ends before less than an envelope
pub cut-partial : (bytes : List ℕ) (items : List Item) (rest left : List ℕ) → Continues bytes items rest → front_at rest ≡ Partial → left ≡ rest → Stream bytes items left None
cut-partial bytes items rest left spells e same =
    let s : Stream bytes (items ++ []) rest None = spells [] rest None (partial_stream rest e) in
    let t : Stream bytes items rest None = subst (λ (is : List Item). Stream bytes is rest None) (append-nil items) s in
    subst (λ (r : List ℕ). Stream bytes items r None) (sym same) t

-- the loop ends before bytes that begin no envelope
pub cut-broken : (bytes : List ℕ) (items : List Item) (rest left : List ℕ) (why : Fault) → Continues bytes items rest → front_at rest ≡ Broken why → left ≡ [] → Stream bytes items left (Some why)
cut-broken bytes items rest left why spells e same =
    let s : Stream bytes (items ++ []) [] (Some why) = spells [] [] (Some why) (broken_stream rest why e) in
    let t : Stream bytes items [] (Some why) = subst (λ (is : List Item). Stream bytes is [] (Some why)) (append-nil items) s in
    subst (λ (r : List ℕ). Stream bytes items r (Some why)) (sym same) t

ends_settled : (front : Front) (bytes rest : List ℕ) (fault : Option Fault) → front_at bytes ≡ front → Ends front bytes rest fault → IsSettled rest fault
ends_settled Partial bytes rest fault e h = subst (λ o. IsSettled rest o) (sym h.1) (ap front_at h.0 ∙ e)
ends_settled (Broken why) bytes rest fault e h = subst (λ o. IsSettled rest o) (sym h.1) h.0
ends_settled (Whole n) bytes rest fault e h = absurd h

-- the rest of a stream is settled
pub Stream-settles : (bytes : List ℕ) (items : List Item) (rest : List ℕ) (fault : Option Fault) → Stream bytes items rest fault → IsSettled rest fault
Stream-settles bytes [] rest fault s = ends_settled (front_at bytes) bytes rest fault refl s
Stream-settles bytes (item ∷ items) rest fault s = Stream-settles (drop (24 + s.0) bytes) items rest fault s.3

-- a piece after a fault
pub feed-broken : (rest piece : List ℕ) (fault : Option Fault) (more : List Item) → is_some fault ≡ true → more ≡ []
    → (bytes : List ℕ) (items : List Item) → Stream bytes items rest fault → Stream (bytes ++ piece) (items ++ more) rest fault
feed-broken rest piece None more e n bytes items s = absurd cc
feed-broken rest piece (Some why) more e n bytes items s =
    subst (λ (is : List Item). Stream (bytes ++ piece) is rest (Some why)) (sym (ap (λ (m : List Item). items ++ m) n ∙ append-nil items)) (Stream-broken bytes piece items rest why s)

none_is : (fault : Option Fault) → is_some fault ≡ false → fault ≡ None
none_is None e = refl
none_is (Some why) e = absurd cc

-- a piece that was taken
pub feed-taken : (rest piece all after : List ℕ) (fault fault' : Option Fault) (used : ℕ) (more : List Item) → is_some fault ≡ false → all ≡ rest ++ piece → after ≡ drop used all
    → Stream all more (drop used all) fault'
    → (bytes : List ℕ) (items : List Item) → Stream bytes items rest fault → Stream (bytes ++ piece) (items ++ more) after fault'
feed-taken rest piece all after fault fault' used more none is left s bytes items t =
    let t' : Stream bytes items rest None = subst (λ (o : Option Fault). Stream bytes items rest o) (none_is fault none) t in
    let s' : Stream all more after fault' = subst (λ (r : List ℕ). Stream all more r fault') (sym left) s in
    let s'' : Stream (rest ++ piece) more after fault' = subst (λ (a : List ℕ). Stream a more after fault') is s' in
    Stream-grows bytes piece items rest more after fault' t' s''

-- nothing stands at the front of nothing
pub front_at-nil : front_at [] ≡ Partial
unfolding front_at
front_at-nil = refl
