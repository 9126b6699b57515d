-- CompactSize: what is read was written so, what was written is read again, and when each fault comes.
use Rattle.std.proofs.Common.{◌≡◌, ℕ, suc, ◌+◌, ◌^◌, ◌<◌, ◌≤◌, ◌⊎◌, Bool, true, false, cond, eqb, ltb, List, [], ◌∷◌, ◌++◌, length, get_or, take, drop, Result, Ok, Err, refl, sym, ap, subst, ◌∙◌, arith, inl, inr}
use Rattle.std.specs.Prelude.{◌↔◌, IfOk}
use Rattle.std.specs.Int.{Width, w8, w16, w32, w64, byte_len, from_le_bytes, to_le_bytes}
use Rattle.std.proofs.lemmas.Bool.{ltb-false, ltb-true, lt-ltb, le-ltb, cases_lt}
use Rattle.std.proofs.lemmas.List.{get_or-append-add, length-append}
use Rattle.cb_base.specs.declared.fault.Fault.{Fault}
use Rattle.cb_base.specs.declared.fault.Fault.TheVariants.{NotShortest, Truncated}
use Rattle.cb_base.specs.Reading.{Reads, ◌>>=◌, number_at}
use Rattle.cb_base.specs.CompactSize.{compact_text, SpellsLonger, BeginsLonger, wanted, wide_at, compact_at}
use Rattle.cb_base.proofs.Fields.{AreBytes, bind_ok, guard_ok, Takes, IsWide, wide16, wide32, wide64, number_takes, number_again, ok_is}

byte_read : (b : ℕ) (rest : List ℕ) → number_at w8 (b ∷ rest) ≡ Ok (b, rest)
byte_read b rest =
    let long : ltb (length (b ∷ rest)) 1 ≡ false = le-ltb _ _ (omega arith) in
    rw long refl

-- ---- a number of known width

-- a number that is read, or too few bytes
number_cases : (w : Width) (bytes : List ℕ) → ((length bytes < byte_len w) × (number_at w bytes ≡ Err Truncated)) ⊎ ((byte_len w ≤ length bytes) × (x : ℕ × List ℕ) × (number_at w bytes ≡ Ok x))
number_cases w bytes =
    elim (cases_lt (length bytes) (byte_len w)) [
      | inl lt ↦ let e : ltb (length bytes) (byte_len w) ≡ true = lt-ltb _ _ lt in inl (lt, rw e refl)
      | inr le ↦ let e : ltb (length bytes) (byte_len w) ≡ false = le-ltb _ _ le in inr (le, (from_le_bytes w (take (byte_len w) bytes), drop (byte_len w) bytes), rw e refl)
    ]

record WideLaws (w : Width) (least limit : ℕ) : Type 0 where
  takes : (bytes : List ℕ) (n : ℕ) (rest : List ℕ) → AreBytes bytes → wide_at w least bytes ≡ Ok (n, rest) → (bytes ≡ to_le_bytes w n ++ rest) × (least ≤ n) × (n < limit)
  again : (n : ℕ) (rest : List ℕ) → least ≤ n → n < limit → wide_at w least (to_le_bytes w n ++ rest) ≡ Ok (n, rest)
  longer : (bytes : List ℕ) → AreBytes bytes → wide_at w least bytes ≡ Err NotShortest → (n : ℕ) × (rest : List ℕ) × (n < least) × (bytes ≡ to_le_bytes w n ++ rest)
  is_longer : (n : ℕ) (rest : List ℕ) → n < least → wide_at w least (to_le_bytes w n ++ rest) ≡ Err NotShortest
  short : (bytes : List ℕ) → wide_at w least bytes ≡ Err Truncated → length bytes < byte_len w
  is_short : (bytes : List ℕ) → length bytes < byte_len w → wide_at w least bytes ≡ Err Truncated

guard_err : {A : Type 0} (b : Bool) (d e : Fault) (x : A) → cond b (Err d) (Ok x) ≡ Err e → (b ≡ true) × (d ≡ e)
guard_err true d e x h = (refl, cc)
guard_err false d e x h = absurd cc

wide_laws : (w : Width) (least limit : ℕ) → IsWide w limit → least ≤ limit → WideLaws w least limit
unfolding wide_at
wide_laws w least limit wide fits = record {
  takes = λ bytes n rest are e.
      let b = bind_ok (number_at w bytes) (λ n. cond (ltb n.0 least) (Err NotShortest) (Ok n)) (n, rest) e in
      let g = guard_ok (ltb b.0.0 least) NotShortest b.0 (n, rest) b.2 in
      let t = number_takes w limit wide bytes b.0.0 b.0.1 are b.1 in
      let low : least ≤ b.0.0 = ltb-false _ _ g.0 in
      subst (λ (x : ℕ × List ℕ). (bytes ≡ to_le_bytes w x.0 ++ x.1) × (least ≤ x.0) × (x.0 < limit)) g.1 (t.0.parts, low, t.1);
  again = λ n rest low high.
      let e : ltb n least ≡ false = le-ltb _ _ low in
      rw (number_again w limit wide n rest high, e) refl;
  longer = λ bytes are e.
      elim (number_cases w bytes) [
        | inl short ↦ let f : (number_at w bytes >>= λ n. cond (ltb n.0 least) (Err NotShortest) (Ok n)) ≡ Err NotShortest = e in absurd (let g = rw short.1 at f in cc)
        | inr long ↦
            let x = long.1 in
            let f : (number_at w bytes >>= λ n. cond (ltb n.0 least) (Err NotShortest) (Ok n)) ≡ Err NotShortest = e in
            let g = guard_err (ltb x.0 least) NotShortest NotShortest x (rw long.2 at f) in
            let t = number_takes w limit wide bytes x.0 x.1 are long.2 in
            (x.0, x.1, ltb-true _ _ g.0, t.0.parts)
      ];
  is_longer = λ n rest low.
      let e : ltb n least ≡ true = lt-ltb _ _ low in
      let high : n < limit = omega arith in
      rw (number_again w limit wide n rest high, e) refl;
  short = λ bytes e.
      elim (number_cases w bytes) [
        | inl short ↦ short.0
        | inr long ↦
            let x = long.1 in
            let f : (number_at w bytes >>= λ n. cond (ltb n.0 least) (Err NotShortest) (Ok n)) ≡ Err Truncated = e in
            let g = guard_err (ltb x.0 least) NotShortest Truncated x (rw long.2 at f) in
            absurd (let h = g.1 in cc)
      ];
  is_short = λ bytes lt.
      let e : ltb (length bytes) (byte_len w) ≡ true = lt-ltb _ _ lt in
      rw e refl;
}

laws16 : WideLaws w16 253 (2 ^ 16)
laws16 = wide_laws w16 253 (2 ^ 16) wide16 (omega arith)

laws32 : WideLaws w32 65536 (2 ^ 32)
laws32 = wide_laws w32 65536 (2 ^ 32) wide32 (omega arith)

laws64 : WideLaws w64 4294967296 (2 ^ 64)
laws64 = wide_laws w64 4294967296 (2 ^ 64) wide64 (omega arith)

-- ---- the first byte

first_is : (b : ℕ) (rest : List ℕ) → compact_at (b ∷ rest) ≡ cond (ltb b 253) (Ok (b, rest)) (cond (eqb b 253) (wide_at w16 253 rest) (cond (eqb b 254) (wide_at w32 65536 rest) (wide_at w64 4294967296 rest)))
unfolding compact_at
first_is b rest = rw (byte_read b rest) refl

-- what the first byte says
data FirstByte (b : ℕ) (rest : List ℕ) : Type 0 where
  itself : b < 253 → compact_at (b ∷ rest) ≡ Ok (b, rest) → wanted (b ∷ rest) ≡ 1 → FirstByte b rest
  two : b ≡ 253 → compact_at (b ∷ rest) ≡ wide_at w16 253 rest → wanted (b ∷ rest) ≡ 3 → FirstByte b rest
  four : b ≡ 254 → compact_at (b ∷ rest) ≡ wide_at w32 65536 rest → wanted (b ∷ rest) ≡ 5 → FirstByte b rest
  eight : 254 < b → compact_at (b ∷ rest) ≡ wide_at w64 4294967296 rest → wanted (b ∷ rest) ≡ 9 → FirstByte b rest

first_byte : (b : ℕ) (rest : List ℕ) → FirstByte b rest
first_byte b rest =
    elim (cases_lt b 253) [
      | inl lt ↦ let e : ltb b 253 ≡ true = lt-ltb _ _ lt in itself lt (first_is b rest ∙ rw e refl) (rw e refl)
      | inr ge ↦
          let e : ltb b 253 ≡ false = le-ltb _ _ ge in
          elim (cases_lt 253 b) [
            | inr le ↦ let is : b ≡ 253 = omega arith in two is (first_is b rest ∙ rw is refl) (rw is refl)
            | inl gt ↦
                let e3 : eqb b 253 ≡ false = grind arith in
                elim (cases_lt 254 b) [
                  | inr le ↦ let is : b ≡ 254 = omega arith in four is (first_is b rest ∙ rw is refl) (rw is refl)
                  | inl more ↦ let e4 : eqb b 254 ≡ false = grind arith in eight more (first_is b rest ∙ rw (e, e3, e4) refl) (rw (e, e3, e4) refl)
                ]
          ]
    ]

-- ---- the laws of reading

spelled_itself : (n : ℕ) → n < 253 → compact_text n ≡ n ∷ []
unfolding compact_text
spelled_itself n lt = let e : ltb n 253 ≡ true = lt-ltb _ _ lt in rw e refl

spelled_in_two : (n : ℕ) → 253 ≤ n → n < 65536 → compact_text n ≡ 253 ∷ to_le_bytes w16 n
unfolding compact_text
spelled_in_two n low high = let e : ltb n 253 ≡ false = le-ltb _ _ low in let f : ltb n 65536 ≡ true = lt-ltb _ _ high in rw (e, f) refl

spelled_in_four : (n : ℕ) → 65536 ≤ n → n < 4294967296 → compact_text n ≡ 254 ∷ to_le_bytes w32 n
unfolding compact_text
spelled_in_four n low high = let e : ltb n 253 ≡ false = le-ltb _ _ (omega arith) in let f : ltb n 65536 ≡ false = le-ltb _ _ low in let g : ltb n 4294967296 ≡ true = lt-ltb _ _ high in rw (e, f, g) refl

spelled_in_eight : (n : ℕ) → 4294967296 ≤ n → compact_text n ≡ 255 ∷ to_le_bytes w64 n
unfolding compact_text
spelled_in_eight n low = let e : ltb n 253 ≡ false = le-ltb _ _ (omega arith) in let f : ltb n 65536 ≡ false = le-ltb _ _ (omega arith) in let g : ltb n 4294967296 ≡ false = le-ltb _ _ low in rw (e, f, g) refl

AreBytes-rest : (b : ℕ) (rest : List ℕ) → AreBytes (b ∷ rest) → AreBytes rest
AreBytes-rest b rest h i = h (suc i)

-- a spelling of one byte and w bytes
spells_by : (b : ℕ) (w : Width) (n : ℕ) (rest tail : List ℕ) → compact_text n ≡ b ∷ to_le_bytes w n → rest ≡ to_le_bytes w n ++ tail → b ∷ rest ≡ compact_text n ++ tail
spells_by b w n rest tail e f = rw (e, f) refl

compact_spells : (bytes : List ℕ) (n : ℕ) (tail : List ℕ) → AreBytes bytes → compact_at bytes ≡ Ok (n, tail) → (bytes ≡ compact_text n ++ tail) × (n < 2 ^ 64)
unfolding compact_at
compact_spells [] n tail are e = absurd cc
compact_spells (b ∷ rest) n tail are e =
    elim (first_byte b rest) [
      | itself lt is long ↦
          let same : (b, rest) ≡ (n, tail) = ok_is (b, rest) (n, tail) (sym is ∙ e) in
          subst (λ (x : ℕ × List ℕ). (b ∷ rest ≡ compact_text x.0 ++ x.1) × (x.0 < 2 ^ 64)) same (rw (spelled_itself b lt) refl, omega arith)
      | two at is long ↦
          let t = laws16.takes rest n tail (AreBytes-rest b rest are) (sym is ∙ e) in
          (spells_by b w16 n rest tail (spelled_in_two n t.1 (omega (arith, t.2)) ∙ rw (← at) refl) t.0, omega (arith, t.2))
      | four at is long ↦
          let t = laws32.takes rest n tail (AreBytes-rest b rest are) (sym is ∙ e) in
          (spells_by b w32 n rest tail (spelled_in_four n t.1 (omega (arith, t.2)) ∙ rw (← at) refl) t.0, omega (arith, t.2))
      | eight at is long ↦
          let byte : b < 256 = are 0 in
          let at5 : b ≡ 255 = omega arith in
          let t = laws64.takes rest n tail (AreBytes-rest b rest are) (sym is ∙ e) in
          (spells_by b w64 n rest tail (spelled_in_eight n t.1 ∙ rw (← at5) refl) t.0, t.2)
    ]

AreBytes-append : (front rest : List ℕ) → AreBytes (front ++ rest) → AreBytes rest
AreBytes-append front rest h i = let e = get_or-append-add front rest i 0 in let b : get_or (front ++ rest) (length front + i) 0 < 256 = h (length front + i) in rw e at b

-- what is read is spelled so, and then comes the rest
pub compact_takes : (bytes : List ℕ) (n : ℕ) (tail : List ℕ) → AreBytes bytes → compact_at bytes ≡ Ok (n, tail) → Takes bytes (compact_text n) tail × (n < 2 ^ 64)
compact_takes bytes n tail are e =
    let s = compact_spells bytes n tail are e in
    (record { parts = s.0; rest_bytes = AreBytes-append (compact_text n) tail (subst AreBytes s.0 are) }, s.1)

-- what is spelled so is read, whatever follows it
pub compact_again : (n : ℕ) (tail : List ℕ) → n < 2 ^ 64 → compact_at (compact_text n ++ tail) ≡ Ok (n, tail)
compact_again n tail lt =
    elim (cases_lt n 253) [
      | inl small ↦ ap (λ (x : List ℕ). compact_at (x ++ tail)) (spelled_itself n small) ∙ first_is n tail ∙ (let e : ltb n 253 ≡ true = lt-ltb _ _ small in rw e refl)
      | inr ge ↦
          elim (cases_lt n 65536) [
            | inl below ↦ ap (λ (x : List ℕ). compact_at (x ++ tail)) (spelled_in_two n ge below) ∙ first_is 253 (to_le_bytes w16 n ++ tail) ∙ laws16.again n tail ge below
            | inr more ↦
                elim (cases_lt n 4294967296) [
                  | inl below ↦ ap (λ (x : List ℕ). compact_at (x ++ tail)) (spelled_in_four n more below) ∙ first_is 254 (to_le_bytes w32 n ++ tail) ∙ laws32.again n tail more below
                  | inr above ↦ ap (λ (x : List ℕ). compact_at (x ++ tail)) (spelled_in_eight n above) ∙ first_is 255 (to_le_bytes w64 n ++ tail) ∙ laws64.again n tail above lt
                ]
          ]
    ]

by_first : (b k : ℕ) (rest text tail : List ℕ) → b ≡ k → rest ≡ text ++ tail → b ∷ rest ≡ k ∷ text ++ tail
by_first b k rest text tail e f = rw (e, f) refl

is_longer : (bytes : List ℕ) → AreBytes bytes → compact_at bytes ≡ Err NotShortest → BeginsLonger bytes
unfolding compact_at
is_longer [] are e = absurd cc
is_longer (b ∷ rest) are e =
    elim (first_byte b rest) [
      | itself lt is long ↦ absurd (let f = sym is ∙ e in cc)
      | two at is long ↦
          let t = laws16.longer rest (AreBytes-rest b rest are) (sym is ∙ e) in
          (253 ∷ to_le_bytes w16 t.0, t.0, t.1, inl (t.2, refl), by_first b 253 rest (to_le_bytes w16 t.0) t.1 at t.3)
      | four at is long ↦
          let t = laws32.longer rest (AreBytes-rest b rest are) (sym is ∙ e) in
          (254 ∷ to_le_bytes w32 t.0, t.0, t.1, inr (inl (t.2, refl)), by_first b 254 rest (to_le_bytes w32 t.0) t.1 at t.3)
      | eight at is long ↦
          let byte : b < 256 = are 0 in
          let at5 : b ≡ 255 = omega arith in
          let t = laws64.longer rest (AreBytes-rest b rest are) (sym is ∙ e) in
          (255 ∷ to_le_bytes w64 t.0, t.0, t.1, inr (inr (t.2, refl)), by_first b 255 rest (to_le_bytes w64 t.0) t.1 at5 t.3)
    ]

longer_fails : (text : List ℕ) (n : ℕ) (rest : List ℕ) → SpellsLonger text n → compact_at (text ++ rest) ≡ Err NotShortest
longer_fails text n rest (inl h) = ap (λ (x : List ℕ). compact_at (x ++ rest)) h.1 ∙ first_is 253 (to_le_bytes w16 n ++ rest) ∙ laws16.is_longer n rest h.0
longer_fails text n rest (inr (inl h)) = ap (λ (x : List ℕ). compact_at (x ++ rest)) h.1 ∙ first_is 254 (to_le_bytes w32 n ++ rest) ∙ laws32.is_longer n rest h.0
longer_fails text n rest (inr (inr h)) = ap (λ (x : List ℕ). compact_at (x ++ rest)) h.1 ∙ first_is 255 (to_le_bytes w64 n ++ rest) ∙ laws64.is_longer n rest h.0

is_short : (bytes : List ℕ) → compact_at bytes ≡ Err Truncated → length bytes < wanted bytes
unfolding compact_at
is_short [] e = omega arith
is_short (b ∷ rest) e =
    elim (first_byte b rest) [
      | itself lt is long ↦ absurd (let f = sym is ∙ e in cc)
      | two at is long ↦ rw long (omega (arith, laws16.short rest (sym is ∙ e)))
      | four at is long ↦ rw long (omega (arith, laws32.short rest (sym is ∙ e)))
      | eight at is long ↦ rw long (omega (arith, laws64.short rest (sym is ∙ e)))
    ]

short_fails : (bytes : List ℕ) → length bytes < wanted bytes → compact_at bytes ≡ Err Truncated
unfolding compact_at
short_fails [] lt = refl
short_fails (b ∷ rest) lt =
    elim (first_byte b rest) [
      | itself small is long ↦ absurd (omega (arith, long))
      | two at is long ↦ is ∙ laws16.is_short rest (omega (arith, long))
      | four at is long ↦ is ∙ laws32.is_short rest (omega (arith, long))
      | eight at is long ↦ is ∙ laws64.is_short rest (omega (arith, long))
    ]

-- the first byte of a spelling tells its length
wanted_is : (n : ℕ) → wanted (compact_text n) ≡ length (compact_text n)
wanted_is n =
    elim (cases_lt n 253) [
      | inl small ↦ let e : ltb n 253 ≡ true = lt-ltb _ _ small in rw (spelled_itself n small, e) refl
      | inr ge ↦
          elim (cases_lt n 65536) [
            | inl below ↦ rw (spelled_in_two n ge below) refl
            | inr more ↦
                elim (cases_lt n 4294967296) [
                  | inl below ↦ rw (spelled_in_four n more below) refl
                  | inr above ↦ rw (spelled_in_eight n above) refl
                ]
          ]
    ]

-- a strict beginning of a spelling is too short
pub compact_short : (n : ℕ) (b c : List ℕ) → compact_text n ≡ b ++ c → 0 < length c → compact_at b ≡ Err Truncated
compact_short n [] c e some = short_fails [] (omega arith)
compact_short n (f ∷ b) c e some =
    let same : wanted (f ∷ b) ≡ length (compact_text n) = ap wanted (sym e) ∙ wanted_is n in
    short_fails (f ∷ b) (omega (arith, same, ap length e, length-append (f ∷ b) c))

-- what follows for a call that had old, gave r and has new
pub record CompactLaws (old : List ℕ) (r : Result ℕ Fault) (new : List ℕ) : Type 0 where
  pub found : IfOk r (λ n. old ≡ compact_text n ++ new)
  pub only : (n : ℕ) (rest : List ℕ) → n < 2 ^ 64 → old ≡ compact_text n ++ rest → (r ≡ Ok n) × (new ≡ rest)
  pub longer : (r ≡ Err NotShortest) ↔ BeginsLonger old
  pub short : (r ≡ Err Truncated) ↔ (length old < wanted old)

pub compact_laws : (old : List ℕ) (r : Result ℕ Fault) (new : List ℕ) → AreBytes old → Reads (compact_at old) old r new → CompactLaws old r new
compact_laws old (Ok n) new are h = record {
  found = (compact_spells old n new are h).0;
  only = λ m rest lt e.
      let again : compact_at old ≡ Ok (m, rest) = ap compact_at e ∙ compact_again m rest lt in
      let same : (n, new) ≡ (m, rest) = ok_is (n, new) (m, rest) (sym h ∙ again) in
      (ap (λ (x : ℕ × List ℕ). Ok x.0) same, ap (λ (x : ℕ × List ℕ). x.1) same);
  longer = (λ e. absurd cc, λ b. absurd (let f = sym h ∙ ap compact_at b.4 ∙ longer_fails b.0 b.1 b.2 b.3 in cc));
  short = (λ e. absurd cc, λ lt. absurd (let f = sym h ∙ short_fails old lt in cc));
}
compact_laws old (Err fault) new are h = record {
  found = tt;
  only = λ m rest lt e.
      let again : compact_at old ≡ Ok (m, rest) = ap compact_at e ∙ compact_again m rest lt in
      absurd (let f = sym h.0 ∙ again in cc);
  longer = (λ e. is_longer old are (h.0 ∙ (let f : fault ≡ NotShortest = cc in ap Err f)), λ b. (let f = sym h.0 ∙ ap compact_at b.4 ∙ longer_fails b.0 b.1 b.2 b.3 in cc));
  short = (λ e. is_short old (h.0 ∙ (let f : fault ≡ Truncated = cc in ap Err f)), λ lt. (let f = sym h.0 ∙ short_fails old lt in cc));
}

-- the same, where the bytes are known by another name
pub compact_laws_at : (inner old : List ℕ) (r : Result ℕ Fault) (new : List ℕ) → inner ≡ old → AreBytes inner → Reads (compact_at old) old r new → CompactLaws old r new
compact_laws_at inner old r new e are h = compact_laws old r new (subst AreBytes e are) h

-- one number has one spelling, and no spelling begins another
pub one_spelling : (m n : ℕ) (x y : List ℕ) → m < 2 ^ 64 → n < 2 ^ 64 → compact_text m ++ x ≡ compact_text n ++ y → (m ≡ n) × (x ≡ y)
one_spelling m n x y lm ln e =
    let same : (m, x) ≡ (n, y) = ok_is (m, x) (n, y) (sym (compact_again m x lm) ∙ ap compact_at e ∙ compact_again n y ln) in
    (ap (λ (p : ℕ × List ℕ). p.0) same, ap (λ (p : ℕ × List ℕ). p.1) same)

-- a spelling has a byte at least
pub compact_long : (n : ℕ) → 1 ≤ length (compact_text n)
compact_long n =
    elim (cases_lt n 253) [
      | inl small ↦ rw (spelled_itself n small) (omega arith)
      | inr ge ↦
          elim (cases_lt n 65536) [
            | inl below ↦ rw (spelled_in_two n ge below) (omega arith)
            | inr more ↦
                elim (cases_lt n 4294967296) [
                  | inl below ↦ rw (spelled_in_four n more below) (omega arith)
                  | inr above ↦ rw (spelled_in_eight n above) (omega arith)
                ]
          ]
    ]
