-- Which acts and sizes are read from a line.
use Rattle.std.proofs.Common.{◌≡◌, ℕ, ◌^◌, ◌<◌, ◌≤◌, Bool, true, false, ◌&&◌, cond, leb, List, [], ◌∷◌, ◌++◌, Option, Some, None, option_map, refl, sym, ap, ◌∙◌, arith}
use Rattle.std.specs.Option.{IfSome}
use Rattle.std.proofs.lemmas.Bool.{and_parts, leb-true, le-leb}
use Rattle.std.specs.Str.{bytes_eq, IsAscii, IsUtf8}
use Rattle.std.proofs.lemmas.Str.{IsUtf8-from_ascii}
use Rattle.std.specs.Prelude.{◌↔◌, codes, option_and_then}
use Rattle.std.proofs.lemmas.Slice.Eq.{bytes_eq-Decides}
use Rattle.cb_crew.specs.declared.act.Act.{Act}
use Rattle.cb_crew.specs.declared.act.Act.TheVariants as act
use Rattle.cb_commands.specs.declared.sim.read.Sizes.{Sizes}
use Rattle.cb_commands.specs.SimLine.{TellsSizes, sizes_in, sizes_named, TellsAct, act_in, act_named}
use Rattle.cb_control.specs.Words.{Writes, cut_of, number_in}
use Rattle.cb_control.proofs.WordLemmas.{ascii_number, ascii_then, ascii_word, cut_parts, cut_some, digits_no_space, none_is_no_some, number_read, some_is, written}

-- ---- acts

-- an act of a name and one number
one_read : (make : ℕ → Act) (rest : List ℕ) (a : Act) (found : Option ℕ) → number_in (2 ^ 16) rest ≡ found → option_map make found ≡ Some a → (n : ℕ) × Writes rest n × (n < 2 ^ 16) × (make n ≡ a)
one_read make rest a None is e = none_is_no_some a e
one_read make rest a (Some n) is e = let number = number_read (2 ^ 16) rest n is in (n, number.0, number.1, some_is (make n) a e)

-- of which name the act is
names_end : (name rest : List ℕ) (a : Act) → bytes_eq name (codes "end") ≡ true → option_map (λ n. act.End n) (number_in (2 ^ 16) rest) ≡ Some a → TellsAct (name ++ 32 ∷ rest) a
names_end name rest a named e =
    let read = one_read (λ n. act.End n) rest a (number_in (2 ^ 16) rest) refl e in
    rw (← read.3, (bytes_eq-Decides name (codes "end")).0 named) (rest, read.1, read.2, refl)

names_open : (name rest : List ℕ) (a : Act) → bytes_eq name (codes "open") ≡ true → option_map (λ n. act.Open n) (number_in (2 ^ 16) rest) ≡ Some a → TellsAct (name ++ 32 ∷ rest) a
names_open name rest a named e =
    let read = one_read (λ n. act.Open n) rest a (number_in (2 ^ 16) rest) refl e in
    rw (← read.3, (bytes_eq-Decides name (codes "open")).0 named) (rest, read.1, read.2, refl)

names_claim : (name rest : List ℕ) (a : Act) → bytes_eq name (codes "claim") ≡ true → option_map (λ n. act.Claim n) (number_in (2 ^ 16) rest) ≡ Some a → TellsAct (name ++ 32 ∷ rest) a
names_claim name rest a named e =
    let read = one_read (λ n. act.Claim n) rest a (number_in (2 ^ 16) rest) refl e in
    rw (← read.3, (bytes_eq-Decides name (codes "claim")).0 named) (rest, read.1, read.2, refl)

names_take : (name rest : List ℕ) (a : Act) → bytes_eq name (codes "take") ≡ true → option_map (λ n. act.Take n) (number_in (2 ^ 16) rest) ≡ Some a → TellsAct (name ++ 32 ∷ rest) a
names_take name rest a named e =
    let read = one_read (λ n. act.Take n) rest a (number_in (2 ^ 16) rest) refl e in
    rw (← read.3, (bytes_eq-Decides name (codes "take")).0 named) (rest, read.1, read.2, refl)

names_give : (name rest : List ℕ) (a : Act) → bytes_eq name (codes "give") ≡ true → option_map (λ n. act.Give n) (number_in (2 ^ 16) rest) ≡ Some a → TellsAct (name ++ 32 ∷ rest) a
names_give name rest a named e =
    let read = one_read (λ n. act.Give n) rest a (number_in (2 ^ 16) rest) refl e in
    rw (← read.3, (bytes_eq-Decides name (codes "give")).0 named) (rest, read.1, read.2, refl)

put_numbers : (peer item : List ℕ) (a : Act) (p x : Option ℕ) → number_in (2 ^ 16) peer ≡ p → number_in (2 ^ 64) item ≡ x → option_and_then (λ n. option_map (λ m. act.Put n m) x) p ≡ Some a → TellsAct (codes "put" ++ 32 ∷ (peer ++ 32 ∷ item)) a
put_numbers peer item a None x is also e = none_is_no_some a e
put_numbers peer item a (Some n) None is also e = none_is_no_some a e
put_numbers peer item a (Some n) (Some m) is also e =
    let first = number_read (2 ^ 16) peer n is in
    let second = number_read (2 ^ 64) item m also in
    rw (← some_is (act.Put n m) a e) (peer, item, first.0, first.1, second.0, second.1, refl)

put_parts : (rest : List ℕ) (a : Act) (found : Option (List ℕ × List ℕ)) → cut_of rest ≡ found → option_and_then (λ p. option_and_then (λ n. option_map (λ m. act.Put n m) (number_in (2 ^ 64) p.1)) (number_in (2 ^ 16) p.0)) found ≡ Some a → TellsAct (codes "put" ++ 32 ∷ rest) a
put_parts rest a None is e = none_is_no_some a e
put_parts rest a (Some p) is e = rw (cut_parts rest p is) (put_numbers p.0 p.1 a (number_in (2 ^ 16) p.0) (number_in (2 ^ 64) p.1) refl refl e)

names_put : (name rest : List ℕ) (a : Act) → bytes_eq name (codes "put") ≡ true → option_and_then (λ p. option_and_then (λ n. option_map (λ m. act.Put n m) (number_in (2 ^ 64) p.1)) (number_in (2 ^ 16) p.0)) (cut_of rest) ≡ Some a → TellsAct (name ++ 32 ∷ rest) a
names_put name rest a named e = rw ((bytes_eq-Decides name (codes "put")).0 named) (put_parts rest a (cut_of rest) refl e)

by_name : (name rest : List ℕ) (a : Act) (put end opens claim take give : Bool) → bytes_eq name (codes "put") ≡ put → bytes_eq name (codes "end") ≡ end → bytes_eq name (codes "open") ≡ opens → bytes_eq name (codes "claim") ≡ claim → bytes_eq name (codes "take") ≡ take → bytes_eq name (codes "give") ≡ give
    → cond put (option_and_then (λ p. option_and_then (λ n. option_map (λ m. act.Put n m) (number_in (2 ^ 64) p.1)) (number_in (2 ^ 16) p.0)) (cut_of rest))
    (cond end (option_map (λ n. act.End n) (number_in (2 ^ 16) rest))
    (cond opens (option_map (λ n. act.Open n) (number_in (2 ^ 16) rest)) (cond claim (option_map (λ n. act.Claim n) (number_in (2 ^ 16) rest)) (cond take (option_map (λ n. act.Take n) (number_in (2 ^ 16) rest)) (cond give (option_map (λ n. act.Give n) (number_in (2 ^ 16) rest)) None))))) ≡ Some a
    → TellsAct (name ++ 32 ∷ rest) a
by_name name rest a true end opens claim take give p q o r s t e = names_put name rest a p e
by_name name rest a false true opens claim take give p q o r s t e = names_end name rest a q e
by_name name rest a false false true claim take give p q o r s t e = names_open name rest a o e
by_name name rest a false false false true take give p q o r s t e = names_claim name rest a r e
by_name name rest a false false false false true give p q o r s t e = names_take name rest a s e
by_name name rest a false false false false false true p q o r s t e = names_give name rest a t e
by_name name rest a false false false false false false p q o r s t e = none_is_no_some a e

act_parts : (text : List ℕ) (a : Act) (found : Option (List ℕ × List ℕ)) → cut_of text ≡ found → option_and_then (λ p. act_named p.0 p.1) found ≡ Some a → TellsAct text a
act_parts text a None is e = none_is_no_some a e
act_parts text a (Some p) is e =
    rw (cut_parts text p is) (by_name p.0 p.1 a (bytes_eq p.0 (codes "put")) (bytes_eq p.0 (codes "end")) (bytes_eq p.0 (codes "open")) (bytes_eq p.0 (codes "claim")) (bytes_eq p.0 (codes "take")) (bytes_eq p.0 (codes "give")) refl refl refl refl refl refl e)

-- the act that is read is told
pub act_is_told : (text : List ℕ) (a : Act) → act_in text ≡ Some a → TellsAct text a
act_is_told text a e = act_parts text a (cut_of text) refl e

-- the act that is told is read
pub told_act_is : (text : List ℕ) (a : Act) → TellsAct text a → act_in text ≡ Some a
told_act_is text (act.Put p x) (peer, item, p_is, p_lt, x_is, x_lt, e) =
    rw (e, cut_some peer item (digits_no_space peer p_is.0), written (2 ^ 16) peer p p_is p_lt, written (2 ^ 64) item x x_is x_lt) refl
told_act_is text (act.End n) (word, is, lt, e) = rw (e, written (2 ^ 16) word n is lt) refl
told_act_is text (act.Open n) (word, is, lt, e) = rw (e, written (2 ^ 16) word n is lt) refl
told_act_is text (act.Claim n) (word, is, lt, e) = rw (e, written (2 ^ 16) word n is lt) refl
told_act_is text (act.Take n) (word, is, lt, e) = rw (e, written (2 ^ 16) word n is lt) refl
told_act_is text (act.Give n) (word, is, lt, e) = rw (e, written (2 ^ 16) word n is lt) refl

-- ---- what is told is ASCII, so that a text which isn't UTF-8 tells nothing

told_ascii : (text : List ℕ) (a : Act) → TellsAct text a → IsAscii text
told_ascii text (act.Put p x) (peer, item, p_is, p_lt, x_is, x_lt, e) =
    rw e (ascii_then (codes "put") (peer ++ 32 ∷ item) (ascii_word (codes "put") refl) (ascii_then peer item (ascii_number peer p p_is) (ascii_number item x x_is)))
told_ascii text (act.End n) (word, is, lt, e) = rw e (ascii_then (codes "end") word (ascii_word (codes "end") refl) (ascii_number word n is))
told_ascii text (act.Open n) (word, is, lt, e) = rw e (ascii_then (codes "open") word (ascii_word (codes "open") refl) (ascii_number word n is))
told_ascii text (act.Claim n) (word, is, lt, e) = rw e (ascii_then (codes "claim") word (ascii_word (codes "claim") refl) (ascii_number word n is))
told_ascii text (act.Take n) (word, is, lt, e) = rw e (ascii_then (codes "take") word (ascii_word (codes "take") refl) (ascii_number word n is))
told_ascii text (act.Give n) (word, is, lt, e) = rw e (ascii_then (codes "give") word (ascii_word (codes "give") refl) (ascii_number word n is))

pub told_utf8 : (text : List ℕ) (a : Act) → TellsAct text a → IsUtf8 text
told_utf8 text a told = IsUtf8-from_ascii text (told_ascii text a told)

-- ---- sizes

abbrev sizes_at : ℕ → ℕ → ℕ → Sizes
sizes_at p k c = record { peers = p; handlers = k; capacity = c }

range_parts : (m n : ℕ) → (leb 1 m && leb m n) ≡ true → (1 ≤ m) × (m ≤ n)
range_parts m n h = let q = and_parts (leb 1 m) (leb m n) h in (leb-true 1 m q.0, leb-true m n q.1)

sizes_step : (name : List ℕ) (p k c : ℕ) (t : Sizes) (fit : Bool) → (bytes_eq name (codes "system") && (leb 1 p && leb p 64) && (leb 1 k && leb k 16) && (leb 1 c && leb c 1024)) ≡ fit → cond fit (Some (sizes_at p k c)) None ≡ Some t → (name ≡ codes "system") × ((1 ≤ p) × (p ≤ 64)) × ((1 ≤ k) × (k ≤ 16)) × ((1 ≤ c) × (c ≤ 1024)) × (sizes_at p k c ≡ t)
sizes_step name p k c t false is e = none_is_no_some t e
sizes_step name p k c t true is e =
    let a = and_parts (bytes_eq name (codes "system") && (leb 1 p && leb p 64) && (leb 1 k && leb k 16)) (leb 1 c && leb c 1024) is in
    let b = and_parts (bytes_eq name (codes "system") && (leb 1 p && leb p 64)) (leb 1 k && leb k 16) a.0 in
    let d = and_parts (bytes_eq name (codes "system")) (leb 1 p && leb p 64) b.0 in
    ((bytes_eq-Decides name (codes "system")).0 d.0, range_parts p 64 d.1, range_parts k 16 b.1, range_parts c 1024 a.1, some_is (sizes_at p k c) t e)

sizes_numbers : (name peers handlers capacity : List ℕ) (np nk nc : Option ℕ) (t : Sizes) → number_in (2 ^ 16) peers ≡ np → number_in (2 ^ 16) handlers ≡ nk → number_in (2 ^ 16) capacity ≡ nc → sizes_named name np nk nc ≡ Some t → TellsSizes (name ++ 32 ∷ (peers ++ 32 ∷ (handlers ++ 32 ∷ capacity))) t
sizes_numbers name peers handlers capacity None nk nc t a b d e = none_is_no_some t e
sizes_numbers name peers handlers capacity (Some p) None nc t a b d e = none_is_no_some t e
sizes_numbers name peers handlers capacity (Some p) (Some k) None t a b d e = none_is_no_some t e
sizes_numbers name peers handlers capacity (Some p) (Some k) (Some c) t a b d e =
    let s = sizes_step name p k c t (bytes_eq name (codes "system") && (leb 1 p && leb p 64) && (leb 1 k && leb k 16) && (leb 1 c && leb c 1024)) refl e in
    rw (s.0, ← s.4) (record {
      peers = peers;
      handlers = handlers;
      capacity = capacity;
      peers_are = (number_read (2 ^ 16) peers p a).0;
      handlers_are = (number_read (2 ^ 16) handlers k b).0;
      capacity_is = (number_read (2 ^ 16) capacity c d).0;
      peers_range = s.1;
      handlers_range = s.2;
      capacity_range = s.3;
      line = refl;
    })

sizes_third : (name peers rest : List ℕ) (found : Option (List ℕ × List ℕ)) (t : Sizes) → cut_of rest ≡ found → option_and_then (λ c. sizes_named name (number_in (2 ^ 16) peers) (number_in (2 ^ 16) c.0) (number_in (2 ^ 16) c.1)) found ≡ Some t → TellsSizes (name ++ 32 ∷ (peers ++ 32 ∷ rest)) t
sizes_third name peers rest None t is e = none_is_no_some t e
sizes_third name peers rest (Some c) t is e =
    rw (cut_parts rest c is) (sizes_numbers name peers c.0 c.1 (number_in (2 ^ 16) peers) (number_in (2 ^ 16) c.0) (number_in (2 ^ 16) c.1) t refl refl refl e)

sizes_second : (name rest : List ℕ) (found : Option (List ℕ × List ℕ)) (t : Sizes) → cut_of rest ≡ found → option_and_then (λ b. option_and_then (λ c. sizes_named name (number_in (2 ^ 16) b.0) (number_in (2 ^ 16) c.0) (number_in (2 ^ 16) c.1)) (cut_of b.1)) found ≡ Some t → TellsSizes (name ++ 32 ∷ rest) t
sizes_second name rest None t is e = none_is_no_some t e
sizes_second name rest (Some b) t is e = rw (cut_parts rest b is) (sizes_third name b.0 b.1 (cut_of b.1) t refl e)

sizes_first : (text : List ℕ) (found : Option (List ℕ × List ℕ)) (t : Sizes) → cut_of text ≡ found → option_and_then (λ a. option_and_then (λ b. option_and_then (λ c. sizes_named a.0 (number_in (2 ^ 16) b.0) (number_in (2 ^ 16) c.0) (number_in (2 ^ 16) c.1)) (cut_of b.1)) (cut_of a.1)) found ≡ Some t → TellsSizes text t
sizes_first text None t is e = none_is_no_some t e
sizes_first text (Some a) t is e = rw (cut_parts text a is) (sizes_second a.0 a.1 (cut_of a.1) t refl e)

-- the sizes that are read are told
pub sizes_are_told : (text : List ℕ) (t : Sizes) → sizes_in text ≡ Some t → TellsSizes text t
sizes_are_told text t e = sizes_first text (cut_of text) t refl e

-- the sizes that are told are read
pub told_sizes_are : (text : List ℕ) (s : Sizes) → TellsSizes text s → sizes_in text ≡ Some s
told_sizes_are text s t =
    rw (
      t.line,
      cut_some t.peers (t.handlers ++ 32 ∷ t.capacity) (digits_no_space t.peers t.peers_are.0),
      cut_some t.handlers t.capacity (digits_no_space t.handlers t.handlers_are.0),
      written (2 ^ 16) t.peers s.peers t.peers_are (omega (arith, t.peers_range.1)),
      written (2 ^ 16) t.handlers s.handlers t.handlers_are (omega (arith, t.handlers_range.1)),
      written (2 ^ 16) t.capacity s.capacity t.capacity_is (omega (arith, t.capacity_range.1)),
      le-leb 1 s.peers t.peers_range.0,
      le-leb s.peers 64 t.peers_range.1,
      le-leb 1 s.handlers t.handlers_range.0,
      le-leb s.handlers 16 t.handlers_range.1,
      le-leb 1 s.capacity t.capacity_range.0,
      le-leb s.capacity 1024 t.capacity_range.1,
    ) refl

pub told_sizes_utf8 : (text : List ℕ) (s : Sizes) → TellsSizes text s → IsUtf8 text
told_sizes_utf8 text s t =
    rw t.line (IsUtf8-from_ascii (codes "system" ++ 32 ∷ (t.peers ++ 32 ∷ (t.handlers ++ 32 ∷ t.capacity)))
    (ascii_then (codes "system") (t.peers ++ 32 ∷ (t.handlers ++ 32 ∷ t.capacity)) (ascii_word (codes "system") refl)
    (ascii_then t.peers (t.handlers ++ 32 ∷ t.capacity) (ascii_number t.peers s.peers t.peers_are) (ascii_then t.handlers t.capacity (ascii_number t.handlers s.handlers t.handlers_are) (ascii_number t.capacity s.capacity t.capacity_is)))))

-- ---- what the calls answer

pub act_answer : (text : List ℕ) (r : Option Act) → r ≡ act_in text → (a : Act) → (r ≡ Some a) ↔ TellsAct text a
act_answer text r is a = (λ e. act_is_told text a (sym is ∙ e), λ told. is ∙ told_act_is text a told)

pub no_act : (text : List ℕ) → (IsUtf8 text → ⊥) → (a : Act) → (None ≡ Some a) ↔ TellsAct text a
no_act text h a = (λ e. none_is_no_some a e, λ told. absurd (h (told_utf8 text a told)))

pub sizes_answer : (text : List ℕ) (r : Option Sizes) → r ≡ sizes_in text → (s : Sizes) → (r ≡ Some s) ↔ TellsSizes text s
sizes_answer text r is s = (λ e. sizes_are_told text s (sym is ∙ e), λ told. is ∙ told_sizes_are text s told)

pub no_sizes : (text : List ℕ) → (IsUtf8 text → ⊥) → (s : Sizes) → (None ≡ Some s) ↔ TellsSizes text s
no_sizes text h s = (λ e. none_is_no_some s e, λ told. absurd (h (told_sizes_utf8 text s told)))

pub if_some : {A : Type 0} (r : Option A) (P : A → Type 0) → ((x : A) → r ≡ Some x → P x) → IfSome r P
if_some None P f = tt
if_some (Some x) P f = f x refl
