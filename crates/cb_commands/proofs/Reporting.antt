-- The run of `decode` line by line: what stands after each, and what it comes to at the end.
use Rattle.std.proofs.Common.{◌≡◌, ℕ, Bool, true, false, ◌+◌, List, [], ◌∷◌, ◌++◌, length, Option, Some, None, Result, Ok, Err, MatchResult, IfOk, refl, sym, ap, subst, ◌∙◌, append_assoc, inl, inr, arith}
use Rattle.std.proofs.lemmas.List.{append-nil, length-append}
use Rattle.std.proofs.lemmas.Grind.{flat_map-append}
use Rattle.std.specs.Prelude.{is_some, IsErrAnd}
use Rattle.std.specs.Io.KnownBytes.{prepend_known, Appends}
use Rattle.std.specs.Str.Lines.{lines}
use Rattle.hex.specs.Hex.{decode_of}
use Rattle.cb_base.specs.declared.fault.Fault.{Fault}
use Rattle.cb_wire.specs.declared.item.Item.{Item}
use Rattle.cb_wire.specs.Stream.{Stream}
use Rattle.cb_wire.proofs.Streams.{Stream-broken, Stream-one, front_at-nil}
use Rattle.cb_control.specs.declared.ending.Status.{Status}
use Rattle.cb_control.specs.declared.ending.Status.TheVariants.{RunFailed}
use Rattle.cb_control.specs.Lines.{NextLine}
use Rattle.cb_commands.specs.Printed.{item_text, items_text, broken_text}
use Rattle.cb_commands.specs.Report.{Decoded, Decodes, AreHexOf, IsNotHex, rest_text, not_hex_text, stream_status, ReportsKnown}

-- ---- one piece

none_is : (fault : Option Fault) → is_some fault ≡ false → fault ≡ None
none_is None e = refl
none_is (Some why) e = absurd (let z = e in cc)

-- a piece of a stream that has no fault yet
pub decodes-more : (bytes out piece text : List ℕ) (old new : Decoded) (more : List Item) → is_some old.fault ≡ false
    → ((items : List Item) → Stream bytes items old.rest old.fault → Stream (bytes ++ piece) (items ++ more) new.rest new.fault)
    → text ≡ items_text more ++ broken_text new.fault → Decodes bytes out old → Decodes (bytes ++ piece) (out ++ text) new
decodes-more bytes out piece text old new more none goes t d =
    let quiet : broken_text old.fault ≡ [] = ap broken_text (none_is old.fault none) in
    record {
      items = d.items ++ more;
      spelled = goes d.items d.spelled;
      printed =
          ap (λ (x : List ℕ). x ++ text) (d.printed ∙ ap (λ (x : List ℕ). items_text d.items ++ x) quiet ∙ append-nil (items_text d.items)) ∙ ap (λ (x : List ℕ). items_text d.items ++ x) t
          ∙ sym (append_assoc (items_text d.items) (items_text more) (broken_text new.fault)) ∙ ap (λ (x : List ℕ). x ++ broken_text new.fault) (sym (flat_map-append item_text d.items more));
    }

-- a list that stays as it is was given nothing
nothing_added : {A : Type 0} (xs ys : List A) → xs ≡ xs ++ ys → ys ≡ []
nothing_added xs [] e = refl
nothing_added xs (y ∷ ys) e = absurd (let l : length xs ≡ length xs + length (y ∷ ys) = ap length e ∙ length-append xs (y ∷ ys) in omega arith)

fault_of : (fault : Option Fault) → is_some fault ≡ true → (why : Fault) × (fault ≡ Some why)
fault_of None e = absurd (let z = e in cc)
fault_of (Some why) e = (why, refl)

-- a piece of a stream that has a fault: it gives no item
pub decodes-broken : (bytes out piece text : List ℕ) (old new : Decoded) (more : List Item) → is_some old.fault ≡ true
    → ((items : List Item) → Stream bytes items old.rest old.fault → Stream (bytes ++ piece) (items ++ more) new.rest new.fault)
    → text ≡ items_text more → Decodes bytes out old → Decodes (bytes ++ piece) (out ++ text) new
decodes-broken bytes out piece text old new more some goes t d =
    let why = fault_of old.fault some in
    let broken : Stream bytes d.items old.rest (Some why.0) = subst (λ (f : Option Fault). Stream bytes d.items old.rest f) why.1 d.spelled in
    let s = Stream-broken bytes piece d.items old.rest why.0 broken in
    let n = goes d.items d.spelled in
    let same = Stream-one (bytes ++ piece) d.items (d.items ++ more) old.rest new.rest (Some why.0) new.fault s n in
    let none : more ≡ [] = nothing_added d.items more same.items in
    let nothing : text ≡ [] = t ∙ ap items_text none in
    record {
      items = d.items ++ more;
      spelled = n;
      printed =
          ap (λ (x : List ℕ). out ++ x) nothing ∙ append-nil out ∙ d.printed
          ∙ ap (λ (f : Option Fault). items_text d.items ++ broken_text f) (why.1 ∙ same.fault)
          ∙ ap (λ (i : List Item). items_text i ++ broken_text new.fault) same.items;
    }

-- ---- all lines so far

-- behind these lines
pub hex-more : (before : List (List ℕ)) (line bytes piece : List ℕ) → AreHexOf before bytes → decode_of line ≡ Ok piece → AreHexOf (before ++ line ∷ []) (bytes ++ piece)
hex-more [] line bytes piece h e = (piece, [], e, ap (λ (x : List ℕ). x ++ piece) h ∙ sym (append-nil piece), refl)
hex-more (first ∷ before) line bytes piece h e =
    (h.0, h.1 ++ piece, h.2, ap (λ (x : List ℕ). x ++ piece) h.3 ∙ append_assoc h.0 h.1 piece, hex-more before line h.1 piece h.4 e)

-- what stands before the line of this number: the lines so far were hex, and what their stream prints was written
pub record Going (input held rest holds : List ℕ) (stream : Decoded) (number : ℕ) : Type 0 where
  pub before : List (List ℕ)
  pub bytes : List ℕ
  pub text : List ℕ
  pub lines_are : lines input ≡ before ++ lines rest
  pub hex : AreHexOf before bytes
  pub decodes : Decodes bytes text stream
  pub holds_is : holds ≡ held ++ text
  pub number_is : number ≡ length before + 1

-- the same where the reader and the writer tell their bytes
abbrev pub GoingKnown : Option (List ℕ) → Option (List ℕ) → Option (List ℕ) → Option (List ℕ) → Decoded → ℕ → Type 0
GoingKnown None old rest new stream number = Unit {0}
GoingKnown (Some input) None rest new stream number = Unit {0}
GoingKnown (Some input) (Some held) None new stream number = ⊥
GoingKnown (Some input) (Some held) (Some rest) None stream number = ⊥
GoingKnown (Some input) (Some held) (Some rest) (Some holds) stream number = Going input held rest holds stream number

-- at the beginning
pub going-start : (whole old : Option (List ℕ)) (ahead : List ℕ) (stream : Decoded) → ahead ≡ [] → stream ≡ record { rest = []; fault = None }
    → GoingKnown whole old (prepend_known ahead whole) old stream 1
going-start None old ahead stream n e = tt
going-start (Some input) None ahead stream n e = tt
going-start (Some input) (Some held) ahead stream n e = record {
  before = [];
  bytes = [];
  text = [];
  lines_are = ap (λ (x : List ℕ). lines (x ++ input)) (sym n);
  hex = refl;
  decodes = rw (e) (record { items = []; spelled = rw (front_at-nil) (refl, refl); printed = refl });
  holds_is = sym (append-nil held);
  number_is = refl;
}

going-line : (whole old r r' o o' : Option (List ℕ)) (stream stream' : Decoded) (number number' : ℕ) (line piece text : List ℕ) → GoingKnown whole old r o stream number
    → NextLine true r r' line → decode_of line ≡ Ok piece
    → ((bytes out : List ℕ) → Decodes bytes out stream → Decodes (bytes ++ piece) (out ++ text) stream')
    → Appends o o' text → number' ≡ number + 1 → GoingKnown whole old r' o' stream' number'
going-line None old r r' o o' stream stream' number number' line piece text g n d goes w m = tt
going-line (Some input) None r r' o o' stream stream' number number' line piece text g n d goes w m = tt
going-line (Some input) (Some held) None r' o o' stream stream' number number' line piece text g n d goes w m = absurd g
going-line (Some input) (Some held) (Some xs) r' None o' stream stream' number number' line piece text g n d goes w m = absurd g
going-line (Some input) (Some held) (Some xs) None (Some ys) o' stream stream' number number' line piece text g n d goes w m = absurd n
going-line (Some input) (Some held) (Some xs) (Some xs') (Some ys) None stream stream' number number' line piece text g n d goes w m = absurd w
going-line (Some input) (Some held) (Some xs) (Some xs') (Some ys) (Some ys') stream stream' number number' line piece text g n d goes w m = record {
  before = g.before ++ line ∷ [];
  bytes = g.bytes ++ piece;
  text = g.text ++ text;
  lines_are = g.lines_are ∙ ap (λ (x : List (List ℕ)). g.before ++ x) n ∙ sym (append_assoc g.before (line ∷ []) (lines xs'));
  hex = hex-more g.before line g.bytes piece g.hex d;
  decodes = goes g.bytes g.text g.decodes;
  holds_is = w ∙ ap (λ (x : List ℕ). x ++ text) g.holds_is ∙ append_assoc held g.text text;
  number_is = m ∙ ap (λ (x : ℕ). x + 1) g.number_is ∙ ap (λ (x : ℕ). x + 1) (sym (length-append g.before (line ∷ [])));
}

-- a line that is hex
pub going-hex : (whole old r r' o o' : Option (List ℕ)) (stream stream' : Decoded) (number : ℕ) (found : Bool) (line text : List ℕ) → GoingKnown whole old r o stream number
    → NextLine found r r' line → found ≡ true
    → ((piece : List ℕ) × (decode_of line ≡ Ok piece)
    × ((bytes out : List ℕ) → Decodes bytes out stream → Decodes (bytes ++ piece) (out ++ text) stream'))
    → Appends o o' text → GoingKnown whole old r' o' stream' (number + 1)
going-hex whole old r r' o o' stream stream' number found line text g n e h w =
    going-line whole old r r' o o' stream stream' number (number + 1) line h.0 text g (subst (λ (b : Bool). NextLine b r r' line) e n) h.1 h.2 w refl

no_lines : (rest : List ℕ) → rest ≡ [] → lines rest ≡ []
no_lines rest e = ap lines e

ended : (whole old r r' o o' : Option (List ℕ)) (stream : Decoded) (number : ℕ) (line : List ℕ) (status : Status) → GoingKnown whole old r o stream number
    → NextLine false r r' line → Appends o o' (rest_text (length stream.rest)) → status ≡ stream_status stream.fault → ReportsKnown whole old o' status
ended None old r r' o o' stream number line status g n w s = tt
ended (Some input) None r r' o o' stream number line status g n w s = tt
ended (Some input) (Some held) None r' o o' stream number line status g n w s = absurd g
ended (Some input) (Some held) (Some xs) r' None o' stream number line status g n w s = absurd g
ended (Some input) (Some held) (Some xs) None (Some ys) o' stream number line status g n w s = absurd n
ended (Some input) (Some held) (Some xs) (Some xs') (Some ys) None stream number line status g n w s = absurd w
ended (Some input) (Some held) (Some xs) (Some xs') (Some ys) (Some ys') stream number line status g n w s =
    let all : lines input ≡ g.before = g.lines_are ∙ ap (λ (x : List (List ℕ)). g.before ++ x) (no_lines xs n.0) ∙ append-nil g.before in (
      g.text ++ rest_text (length stream.rest),
      w ∙ ap (λ (x : List ℕ). x ++ rest_text (length stream.rest)) g.holds_is ∙ append_assoc held g.text (rest_text (length stream.rest)),
      inl (record {
        bytes = g.bytes;
        text = g.text;
        stream = stream;
        hex = subst (λ (x : List (List ℕ)). AreHexOf x g.bytes) (sym all) g.hex;
        decodes = g.decodes;
        out_is = refl;
        status_is = s;
      }),
    )

-- the input is at its end
pub going-end : (whole old r r' o o' : Option (List ℕ)) (stream : Decoded) (number : ℕ) (found : Bool) (line : List ℕ) (status : Status) → GoingKnown whole old r o stream number
    → NextLine found r r' line → found ≡ false → Appends o o' (rest_text (length stream.rest)) → status ≡ stream_status stream.fault → ReportsKnown whole old o' status
going-end whole old r r' o o' stream number found line status g n e w s =
    ended whole old r r' o o' stream number line status g (subst (λ (b : Bool). NextLine b r r' line) e n) w s

stopped : (whole old r r' o o' : Option (List ℕ)) (stream : Decoded) (number : ℕ) (line : List ℕ) → GoingKnown whole old r o stream number
    → NextLine true r r' line → IsNotHex line → Appends o o' (not_hex_text number) → ReportsKnown whole old o' RunFailed
stopped None old r r' o o' stream number line g n h w = tt
stopped (Some input) None r r' o o' stream number line g n h w = tt
stopped (Some input) (Some held) None r' o o' stream number line g n h w = absurd g
stopped (Some input) (Some held) (Some xs) r' None o' stream number line g n h w = absurd g
stopped (Some input) (Some held) (Some xs) None (Some ys) o' stream number line g n h w = absurd n
stopped (Some input) (Some held) (Some xs) (Some xs') (Some ys) None stream number line g n h w = absurd w
stopped (Some input) (Some held) (Some xs) (Some xs') (Some ys) (Some ys') stream number line g n h w = (
  g.text ++ not_hex_text number,
  w ∙ ap (λ (x : List ℕ). x ++ not_hex_text number) g.holds_is ∙ append_assoc held g.text (not_hex_text number),
  inr (record {
    before = g.before;
    line = line;
    after = lines xs';
    bytes = g.bytes;
    text = g.text;
    stream = stream;
    lines_are = g.lines_are ∙ ap (λ (x : List (List ℕ)). g.before ++ x) n;
    hex = g.hex;
    not_hex = h;
    decodes = g.decodes;
    out_is = ap (λ (x : ℕ). g.text ++ not_hex_text x) g.number_is;
    status_is = refl;
  }),
)

-- a line isn't hex
pub going-stop : (whole old r r' o o' : Option (List ℕ)) (stream : Decoded) (number : ℕ) (found : Bool) (line : List ℕ) → GoingKnown whole old r o stream number
    → NextLine found r r' line → found ≡ true → IsNotHex line → Appends o o' (not_hex_text number) → ReportsKnown whole old o' RunFailed
going-stop whole old r r' o o' stream number found line g n e h w =
    stopped whole old r r' o o' stream number line g (subst (λ (b : Bool). NextLine b r r' line) e n) h w

-- what a call gave, whose error was then changed
pub ok_before : {T E D : Type 0} (P : T → Type 0) (Q : E → D → Type 0) (r : Result T E) (changed : Result T D) (t : T)
    → MatchResult r (λ x. changed ≡ Ok x) (λ e. IsErrAnd changed (Q e)) → changed ≡ Ok t → IfOk r P → P t
ok_before P Q (Ok x) changed t m e p = subst P (let same : Ok x ≡ Ok t = sym m ∙ e in cc) p
ok_before P Q (Err why) (Ok y) t m e p = absurd m
ok_before P Q (Err why) (Err d) t m e p = absurd (let wrong : Err d ≡ Ok t = e in cc)
