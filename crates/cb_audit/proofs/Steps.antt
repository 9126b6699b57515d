-- One turn more of a comparison.
use Rattle.std.proofs.Common.{◌≡◌, ◌∙◌, ◌≢◌, ℕ, zero, suc, ◌+◌, ◌-◌, ◌<◌, ◌≤◌, max, true, false, List, [], ◌∷◌, ◌++◌, length, take, drop, Option, Some, None, refl, sym, ap, subst, arith}
use Rattle.std.specs.Prelude.{is_some, slice_get}
use Rattle.std.proofs.lemmas.List.{drop-append-le, drop_all, length-drop, take-append-le, take_all, take_at}
use Rattle.std.proofs.lemmas.Option.{slice_get_past}
use Rattle.cb_hall.specs.Connections.{Slots}
use Rattle.cb_audit.specs.Comparing.{EndsAt, HasCome, IsCome, PartsAt, first_place}
use Rattle.cb_audit.specs.Counting.{granted}
use Rattle.cb_audit.specs.Heard.{skip_of, start_of}
use Rattle.cb_audit.specs.Order.{AuditedTrace}
use Rattle.cb_audit.specs.Turns.{Turn, turns_in}

-- ---- lists

drop_nil : {A : Type 0} (n : ℕ) → ◌≡◌ {A = List A} (drop n []) []
drop_nil zero = refl
drop_nil (suc n) = refl

get_drop : {A : Type 0} (n i : ℕ) (xs : List A) → slice_get (drop n xs) i ≡ slice_get xs (n + i)
get_drop n i [] = ap (λ (l : List _). slice_get l i) (drop_nil n)
get_drop zero i (x ∷ xs) = ap (slice_get (x ∷ xs)) (let e : i ≡ 0 + i = omega arith in e)
get_drop (suc n) i (x ∷ xs) = get_drop n i xs ∙ ap (slice_get (x ∷ xs)) (let e : suc (n + i) ≡ suc n + i = omega arith in e)

take_suc : {A : Type 0} (n : ℕ) (xs : List A) (x : A) → slice_get xs n ≡ Some x → take (suc n) xs ≡ take n xs ++ x ∷ []
take_suc n [] x at = absurd (let never : None ≡ Some x = at in cc)
take_suc zero (y ∷ xs) x at = let same : y ≡ x = (let some_same : Some y ≡ Some x = at in cc) in ap (λ (z : _). z ∷ []) same
take_suc (suc n) (y ∷ xs) x at = ap (λ (l : List _). y ∷ l) (take_suc n xs x at)

take_one : {A : Type 0} (n : ℕ) (xs : List A) (x : A) → slice_get xs n ≡ Some x → take (n + 1) xs ≡ take n xs ++ x ∷ []
take_one n xs x at = ap (λ (k : ℕ). take k xs) (let e : n + 1 ≡ suc n = omega arith in e) ∙ take_suc n xs x at

get_first : {A : Type 0} (i : ℕ) (xs ys : List A) → i < length xs → slice_get (xs ++ ys) i ≡ slice_get xs i
get_first i [] ys low = absurd (omega (arith, low))
get_first zero (x ∷ xs) ys low = refl
get_first (suc i) (x ∷ xs) ys low = get_first i xs ys (omega (arith, low))

get_last : {A : Type 0} (xs : List A) (x : A) → slice_get (xs ++ x ∷ []) (length xs) ≡ Some x
get_last [] x = refl
get_last (y ∷ xs) x = get_last xs x

length_one : {A : Type 0} (xs : List A) (x : A) → length (xs ++ x ∷ []) ≡ length xs + 1
length_one [] x = refl
length_one (y ∷ xs) x = let rest = length_one xs x in omega (arith, rest)

-- ---- before the journal

pub place_first : (kept : Slots) (one : AuditedTrace) (dropped told first : ℕ) → dropped ≡ granted kept one.connection → told ≡ one.trace.before.told → first ≡ max dropped told
    → HasCome (start_of kept one) (skip_of kept one) (turns_in one.trace) [] (first - dropped) (first - told) None
place_first kept one dropped told first d t f =
    let all : first ≡ first_place kept one.connection (Some one.trace) = f ∙ ap (λ (n : ℕ). max n told) d ∙ ap (λ (n : ℕ). max (granted kept one.connection) n) t in
    let none = drop_nil {A = Turn} (skip_of kept one) in
    let skips : first - dropped ≡ skip_of kept one = ap (λ (n : ℕ). n - dropped) all ∙ ap (λ (n : ℕ). first_place kept one.connection (Some one.trace) - n) d in
    let starts : first - told ≡ start_of kept one = ap (λ (n : ℕ). n - told) all ∙ ap (λ (n : ℕ). first_place kept one.connection (Some one.trace) - n) t in
    record {
      remaining = omega (arith, skips);
      come = subst (λ (l : List Turn). IsCome (start_of kept one) (turns_in one.trace) l (first - told) None) (sym none) ((omega (arith, starts)), refl);
    }

-- ---- a turn that is passed over

pub place_skipped : (start skip left next : ℕ) (differs : Option ℕ) (theirs seen : List Turn) (turn : Turn) → HasCome start skip theirs seen left next differs → 0 < left
    → HasCome start skip theirs (seen ++ turn ∷ []) (left - 1) next differs
place_skipped start skip left next differs theirs seen turn is some_left =
    let l = is.remaining in
    let more = length_one seen turn in
    let none : drop skip seen ≡ [] = drop_all skip seen (omega (arith, l, some_left)) in
    let still : drop skip (seen ++ turn ∷ []) ≡ [] = drop_all skip (seen ++ turn ∷ []) (omega (arith, l, some_left, more)) in
    record {
      remaining = omega (arith, l, more);
      come = subst (λ (ours : List Turn). IsCome start theirs ours next differs) (none ∙ sym still) is.come;
    }

-- what was seen, but for the first turns, has one turn more
seen_one : (skip : ℕ) (seen : List Turn) (turn : Turn) → 0 ≡ skip - length seen → drop skip (seen ++ turn ∷ []) ≡ drop skip seen ++ turn ∷ []
seen_one skip seen turn none = drop-append-le skip seen (turn ∷ []) (omega (arith, none))

no_left : (skip : ℕ) (seen : List Turn) (turn : Turn) → 0 ≡ skip - length seen → 0 ≡ skip - length (seen ++ turn ∷ [])
no_left skip seen turn none = let more = length_one seen turn in omega (arith, none, more)

-- ---- a turn behind the first difference

parts_more : (ours theirs : List Turn) (place : ℕ) (turn : Turn) → place < length ours → PartsAt ours theirs place → PartsAt (ours ++ turn ∷ []) theirs place
parts_more ours theirs place turn low parts =
    record {
      before = take-append-le place ours (turn ∷ []) (omega (arith, low)) ∙ parts.before;
      here = λ e. parts.here (sym (get_first place ours (turn ∷ []) low) ∙ e);
    }

come_kept : (start next differs : ℕ) (theirs ours : List Turn) (turn : Turn) → IsCome start theirs ours next (Some differs) → IsCome start theirs (ours ++ turn ∷ []) next (Some differs)
come_kept start next differs theirs ours turn (place, is, low, parts) =
    let more = length_one ours turn in (place, is, omega (arith, low, more), parts_more ours (drop start theirs) place turn low parts)

pub place_kept : (start skip next differs : ℕ) (theirs seen : List Turn) (turn : Turn) → HasCome start skip theirs seen 0 next (Some differs) → HasCome start skip theirs (seen ++ turn ∷ []) 0 next (Some differs)
place_kept start skip next differs theirs seen turn is =
    record {
      remaining = no_left skip seen turn is.remaining;
      come = subst (λ (ours : List Turn). IsCome start theirs ours next (Some differs)) (sym (seen_one skip seen turn is.remaining)) (come_kept start next differs theirs (drop skip seen) turn is.come);
    }

is_left : (n : ℕ) → n ≤ 0 → n ≡ 0
is_left n low = omega (arith, low)

-- by what the code asks
pub after_kept : (start skip left next : ℕ) (differs : Option ℕ) (theirs seen : List Turn) (turn : Turn) → left ≤ 0 → is_some differs ≡ true → HasCome start skip theirs seen left next differs
    → HasCome start skip theirs (seen ++ turn ∷ []) left next differs
after_kept start skip left next None theirs seen turn none there is = (let never : false ≡ true = there in absurd (cc))
after_kept start skip left next (Some differs) theirs seen turn none there is =
    let e = is_left left none in
    subst (λ (n : ℕ). HasCome start skip theirs (seen ++ turn ∷ []) n next (Some differs)) (sym e)
    (place_kept start skip next differs theirs seen turn (subst (λ (n : ℕ). HasCome start skip theirs seen n next (Some differs)) e is))

-- ---- a turn that is the same, and one that differs

come_same : (start next : ℕ) (theirs ours : List Turn) (turn : Turn) → IsCome start theirs ours next None → slice_get theirs next ≡ Some turn → IsCome start theirs (ours ++ turn ∷ []) (next + 1) None
come_same start next theirs ours turn (at, same) is =
    let more = length_one ours turn in
    let there : slice_get (drop start theirs) (length ours) ≡ Some turn = get_drop start (length ours) theirs ∙ ap (slice_get theirs) (sym at) ∙ is in (
      omega (arith, at, more),
      ap (λ (l : List Turn). l ++ turn ∷ []) same ∙ sym (take_one (length ours) (drop start theirs) turn there) ∙ ap (λ (n : ℕ). take n (drop start theirs)) (sym more),
    )

pub place_same : (start skip next : ℕ) (theirs seen : List Turn) (turn : Turn) → HasCome start skip theirs seen 0 next None → slice_get theirs next ≡ Some turn
    → HasCome start skip theirs (seen ++ turn ∷ []) 0 (next + 1) None
place_same start skip next theirs seen turn is same =
    record {
      remaining = no_left skip seen turn is.remaining;
      come = subst (λ (ours : List Turn). IsCome start theirs ours (next + 1) None) (sym (seen_one skip seen turn is.remaining)) (come_same start next theirs (drop skip seen) turn is.come same);
    }

come_other : (start next : ℕ) (theirs ours : List Turn) (turn : Turn) → IsCome start theirs ours next None → slice_get theirs next ≢ Some turn → IsCome start theirs (ours ++ turn ∷ []) next (Some next)
come_other start next theirs ours turn (at, same) differs =
    let more = length_one ours turn in (
      length ours,
      at,
      omega (arith, more),
      record {
        before = take_at ours (turn ∷ []) (length ours) refl ∙ same;
        here = λ e. differs (ap (slice_get theirs) at ∙ sym (get_drop start (length ours) theirs) ∙ sym e ∙ get_last ours turn);
      },
    )

pub place_other : (start skip next : ℕ) (theirs seen : List Turn) (turn : Turn) → HasCome start skip theirs seen 0 next None → slice_get theirs next ≢ Some turn
    → HasCome start skip theirs (seen ++ turn ∷ []) 0 next (Some next)
place_other start skip next theirs seen turn is differs =
    record {
      remaining = no_left skip seen turn is.remaining;
      come = subst (λ (ours : List Turn). IsCome start theirs ours next (Some next)) (sym (seen_one skip seen turn is.remaining)) (come_other start next theirs (drop skip seen) turn is.come differs);
    }

at_none : (start skip left next : ℕ) (differs : Option ℕ) (theirs seen : List Turn) → left ≤ 0 → is_some differs ≡ false → HasCome start skip theirs seen left next differs → HasCome start skip theirs seen 0 next None
at_none start skip left next None theirs seen none gone is = subst (λ (n : ℕ). HasCome start skip theirs seen n next None) (is_left left none) is
at_none start skip left next (Some differs) theirs seen none gone is = (let never : true ≡ false = gone in absurd (cc))

pub after_same : (start skip left next : ℕ) (differs : Option ℕ) (theirs seen : List Turn) (turn : Turn) → left ≤ 0 → is_some differs ≡ false → HasCome start skip theirs seen left next differs → slice_get theirs next ≡ Some turn
    → HasCome start skip theirs (seen ++ turn ∷ []) 0 (next + 1) None
after_same start skip left next differs theirs seen turn none gone is same = place_same start skip next theirs seen turn (at_none start skip left next differs theirs seen none gone is) same

pub after_other : (start skip left next : ℕ) (differs : Option ℕ) (theirs seen : List Turn) (turn : Turn) → left ≤ 0 → is_some differs ≡ false → HasCome start skip theirs seen left next differs → slice_get theirs next ≢ Some turn
    → HasCome start skip theirs (seen ++ turn ∷ []) 0 next (Some next)
after_other start skip left next differs theirs seen turn none gone is other = place_other start skip next theirs seen turn (at_none start skip left next differs theirs seen none gone is) other

-- ---- at the end

come_ends : (start next differs : ℕ) (theirs ours : List Turn) → IsCome start theirs ours next (Some differs) → EndsAt start theirs ours differs
come_ends start next differs theirs ours (place, is, low, parts) = record { place = place; is = is; within = omega (arith, low); parts = parts }

pub ends_differs : (start skip left next differs : ℕ) (theirs seen : List Turn) → HasCome start skip theirs seen left next (Some differs) → EndsAt start theirs (drop skip seen) differs
ends_differs start skip left next differs theirs seen is = come_ends start next differs theirs (drop skip seen) is.come

come_short : (start next : ℕ) (theirs ours : List Turn) → IsCome start theirs ours next None → next < length theirs → EndsAt start theirs ours next
come_short start next theirs ours (at, same) low =
    record {
      place = length ours;
      is = at;
      within = omega arith;
      parts =
          record {
            before = take_all (length ours) ours (omega arith) ∙ same;
            here = λ e.
                (let gone : None ≡ slice_get theirs next = sym (slice_get_past ours (length ours) (omega arith)) ∙ e ∙ get_drop start (length ours) theirs ∙ ap (slice_get theirs) (sym at) in
                is_there theirs next low (sym gone));
          };
    }
  where
    is_there : (xs : List Turn) (n : ℕ) → n < length xs → slice_get xs n ≡ None → ⊥
    is_there [] n low at = omega (arith, low)
    is_there (x ∷ xs) zero low at = (let never : Some x ≡ None = at in absurd (cc))
    is_there (x ∷ xs) (suc n) low at = is_there xs n (omega (arith, low)) at

pub ends_short : (start skip left next : ℕ) (theirs seen : List Turn) → HasCome start skip theirs seen left next None → next < length theirs → EndsAt start theirs (drop skip seen) next
ends_short start skip left next theirs seen is low = come_short start next theirs (drop skip seen) is.come low

come_all : (start next : ℕ) (theirs ours : List Turn) → IsCome start theirs ours next None → length theirs ≤ next → ours ≡ drop start theirs
come_all start next theirs ours (at, same) past =
    let long = length-drop start theirs in same ∙ take_all (length ours) (drop start theirs) (omega (arith, at, past, long))

pub ends_agree : (start skip left next : ℕ) (theirs seen : List Turn) → HasCome start skip theirs seen left next None → length theirs ≤ next → drop skip seen ≡ drop start theirs
ends_agree start skip left next theirs seen is past = come_all start next theirs (drop skip seen) is.come past
