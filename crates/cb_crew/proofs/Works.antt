-- What works were given, as marks are taken one after another.
use Rattle.std.proofs.Common.{◌≡◌, ℕ, zero, suc, ◌<◌, Bool, true, false, cond, List, [], ◌∷◌, ◌++◌, length, map, get_or, set, All, refl, sym, ap, ◌∙◌, arith}
use Rattle.std.specs.List.{AllZip, slice_split, onto_first, flat_map}
use Rattle.std.proofs.lemmas.Bool.{false≢true}
use Rattle.std.proofs.lemmas.List.{append-nil, append_assoc, length-map}
use Rattle.std.proofs.lemmas.List.Elements.{All-nil, All-cons, All-head, All-tail}
use Rattle.std.proofs.lemmas.Grind.{flat_map-append}
use Rattle.std.proofs.lemmas.List.Splits.{length-slice_split}
use Rattle.cb_crew.specs.Line.{connections}
use Rattle.cb_crew.specs.Laws.{OpensFollowEnds, ends_last}
use Rattle.cb_crew.specs.declared.queued.Queued.{Queued}
use Rattle.cb_crew.specs.Queued.{is_open}
use Rattle.cb_crew.specs.declared.work.Given.{Given}
use Rattle.cb_crew.specs.Work.{IsFresh, WorksOn, given_by, connections_of}

-- ---- a list cut in parts, one element more

-- more stands at the end of the last list
abbrev pub onto_last : {A : Type 0} → List (List A) → List A → List (List A)
onto_last [] more = more ∷ []
onto_last (part ∷ []) more = (part ++ more) ∷ []
onto_last (part ∷ next ∷ rest) more = part ∷ onto_last (next ∷ rest) more

abbrev pub HasFirst : {A : Type 0} → List (List A) → Type 0
HasFirst {A} ss = (part : List A) × (rest : List (List A)) × (ss ≡ part ∷ rest)

cut_first : {A : Type 0} (x : A) (b : Bool) (ss : List (List A)) → HasFirst ss → HasFirst (cond b ([] ∷ ss) (onto_first x ss))
cut_first x true ss some = ([], ss, refl)
cut_first x false ss some = (x ∷ some.0, some.1, ap (onto_first x) some.2)

-- a list is cut in one part or more
pub split_some : {A : Type 0} (p : A → Bool) (xs : List A) → HasFirst (slice_split p xs)
split_some p [] = ([], [], refl)
split_some p (x ∷ xs) = cut_first x (p x) (slice_split p xs) (split_some p xs)

first_last : {A : Type 0} (x : A) (part : List A) (rest : List (List A)) (more : List A) → onto_first x (onto_last (part ∷ rest) more) ≡ onto_last (onto_first x (part ∷ rest)) more
first_last x part [] more = refl
first_last x part (next ∷ rest) more = refl

cut_more : {A : Type 0} (x : A) (b : Bool) (ss ts : List (List A)) (more : List A) → HasFirst ss → ts ≡ onto_last ss more → cond b ([] ∷ ts) (onto_first x ts) ≡ onto_last (cond b ([] ∷ ss) (onto_first x ss)) more
cut_more x true ss ts more some is = rw (is, some.2) refl
cut_more x false ss ts more some is = rw (is, some.2) (first_last x some.0 some.1 more)

-- an element that doesn't cut comes to the last part
pub split_more : {A : Type 0} (p : A → Bool) (xs : List A) (y : A) → p y ≡ false → slice_split p (xs ++ y ∷ []) ≡ onto_last (slice_split p xs) (y ∷ [])
split_more p [] y uncut = rw uncut refl
split_more p (x ∷ xs) y uncut = cut_more x (p x) (slice_split p xs) (slice_split p (xs ++ y ∷ [])) (y ∷ []) (split_some p xs) (split_more p xs y uncut)

cut_again : {A : Type 0} (x : A) (b : Bool) (ss ts : List (List A)) (new : List A) → HasFirst ss → ts ≡ ss ++ new ∷ [] → cond b ([] ∷ ts) (onto_first x ts) ≡ cond b ([] ∷ ss) (onto_first x ss) ++ new ∷ []
cut_again x true ss ts new some is = ap (λ us. [] ∷ us) is
cut_again x false ss ts new some is = rw (is, some.2) refl

-- an element that cuts begins an empty part
pub split_again : {A : Type 0} (p : A → Bool) (xs : List A) (y : A) → p y ≡ true → slice_split p (xs ++ y ∷ []) ≡ slice_split p xs ++ [] ∷ []
split_again p [] y cuts = rw cuts refl
split_again p (x ∷ xs) y cuts = cut_again x (p x) (slice_split p xs) (slice_split p (xs ++ y ∷ [])) [] (split_some p xs) (split_again p xs y cuts)

-- the same through a map of each part that goes over appends
map_onto_last : {A B : Type 0} (f : A → List B) (part : List A) (rest : List (List A)) (more : List A) → map (flat_map f) (onto_last (part ∷ rest) more) ≡ onto_last (map (flat_map f) (part ∷ rest)) (flat_map f more)
map_onto_last f part [] more = ap (λ xs. xs ∷ []) (flat_map-append f part more)
map_onto_last f part (next ∷ rest) more = ap (λ xss. flat_map f part ∷ xss) (map_onto_last f next rest more)

map_push : {A B : Type 0} (f : A → B) (xs : List A) (y : A) → map f (xs ++ y ∷ []) ≡ map f xs ++ f y ∷ []
map_push f [] y = refl
map_push f (x ∷ xs) y = ap (λ ys. f x ∷ ys) (map_push f xs y)

-- what is taken of a connection comes to the last one
pub connections_more : {M O : Type 0} (marks : List (Queued M O)) (mark : Queued M O) → is_open mark ≡ false → connections_of (marks ++ mark ∷ []) ≡ onto_last (connections_of marks) (flat_map given_by (mark ∷ []))
connections_more marks mark uncut =
    let some = split_some is_open marks in
    rw (split_more is_open marks mark uncut, some.2) (map_onto_last given_by some.0 some.1 (mark ∷ []))

-- an open mark begins the next
pub connections_again : {M O : Type 0} (marks : List (Queued M O)) (mark : Queued M O) → is_open mark ≡ true → connections_of (marks ++ mark ∷ []) ≡ connections_of marks ++ [] ∷ []
connections_again marks mark cuts = rw (split_again is_open marks mark cuts) (map_push (flat_map given_by) (slice_split is_open marks) [])

-- ---- two lists, place by place

pub zip_push : {A B : Type 0} (R : A → B → Type 0) (xs : List A) (ys : List B) (x : A) (y : B) → AllZip R xs ys → R x y → AllZip R (xs ++ x ∷ []) (ys ++ y ∷ [])
zip_push R [] [] x y all r = (r, tt)
zip_push R [] (b ∷ ys) x y all r = absurd all
zip_push R (a ∷ xs) [] x y all r = absurd all
zip_push R (a ∷ xs) (b ∷ ys) x y all r = (all.0, zip_push R xs ys x y all.1 r)

pub zip_none : {A B : Type 0} (R : A → B → Type 0) (xs : List A) (x : A) → AllZip R (xs ++ x ∷ []) [] → ⊥
zip_none R [] x all = all
zip_none R (a ∷ xs) x all = all

-- the last two became others
pub zip_last : {A B : Type 0} (R : A → List B → Type 0) (xs : List A) (x y : A) (css : List (List B)) (more : List B) → AllZip R (xs ++ x ∷ []) css → ((cs : List B) → R x cs → R y (cs ++ more)) → AllZip R (xs ++ y ∷ []) (onto_last css more)
zip_last R [] x y [] more all step = absurd all
zip_last R [] x y (cs ∷ []) more all step = (step cs all.0, tt)
zip_last R [] x y (cs ∷ ds ∷ css) more all step = absurd all.1
zip_last R (a ∷ xs) x y [] more all step = absurd all
zip_last R (a ∷ xs) x y (cs ∷ []) more all step = absurd (zip_none R xs x all.1)
zip_last R (a ∷ xs) x y (cs ∷ ds ∷ css) more all step = (all.0, zip_last R xs x y (ds ∷ css) more all.1 step)

-- the last of the first list became another
pub zip_swap : {A B : Type 0} (R : A → B → Type 0) (xs : List A) (x y : A) (cs : List B) → AllZip R (xs ++ x ∷ []) cs → ((c : B) → R x c → R y c) → AllZip R (xs ++ y ∷ []) cs
zip_swap R [] x y [] all step = absurd all
zip_swap R [] x y (c ∷ []) all step = (step c all.0, tt)
zip_swap R [] x y (c ∷ d ∷ cs) all step = absurd all.1
zip_swap R (a ∷ xs) x y [] all step = absurd all
zip_swap R (a ∷ xs) x y (c ∷ cs) all step = (all.0, zip_swap R xs x y cs all.1 step)

zip_length : {A B : Type 0} (R : A → B → Type 0) (xs : List A) (ys : List B) → AllZip R xs ys → length xs ≡ length ys
zip_length R [] [] all = refl
zip_length R [] (y ∷ ys) all = absurd all
zip_length R (x ∷ xs) [] all = absurd all
zip_length R (x ∷ xs) (y ∷ ys) all = omega (arith, zip_length R xs ys all.1)

pub zip_refl : {A : Type 0} (R : A → A → Type 0) → ((x : A) → R x x) → (xs : List A) → AllZip R xs xs
zip_refl R same [] = tt
zip_refl R same (x ∷ xs) = (same x, zip_refl R same xs)

pub zip_then : {A B C : Type 0} (R : A → B → Type 0) (S : B → C → Type 0) (T : A → C → Type 0) → ((x : A) (y : B) (z : C) → R x y → S y z → T x z) → (xs : List A) (ys : List B) (zs : List C) → AllZip R xs ys → AllZip S ys zs → AllZip T xs zs
zip_then R S T step [] [] [] all more = tt
zip_then R S T step [] [] (z ∷ zs) all more = absurd more
zip_then R S T step [] (y ∷ ys) zs all more = absurd all
zip_then R S T step (x ∷ xs) [] zs all more = absurd all
zip_then R S T step (x ∷ xs) (y ∷ ys) [] all more = absurd more
zip_then R S T step (x ∷ xs) (y ∷ ys) (z ∷ zs) all more = (step x y z all.0 more.0, zip_then R S T step xs ys zs all.1 more.1)

pub zip_append : {A B : Type 0} (R : A → B → Type 0) (xs : List A) (ys : List B) (us : List A) (vs : List B) → AllZip R xs ys → AllZip R us vs → AllZip R (xs ++ us) (ys ++ vs)
zip_append R [] [] us vs all more = more
zip_append R [] (y ∷ ys) us vs all more = absurd all
zip_append R (x ∷ xs) [] us vs all more = absurd all
zip_append R (x ∷ xs) (y ∷ ys) us vs all more = (all.0, zip_append R xs ys us vs all.1 more)

-- one of the second list became another
pub zip_set : {A B : Type 0} (R : A → B → Type 0) (xs : List A) (ys : List B) (i : ℕ) (new d : B) → i < length ys → ((x : A) → R x (get_or ys i d) → R x new) → AllZip R xs ys → AllZip R xs (set ys i new)
zip_set R [] [] i new d lt step all = tt
zip_set R [] (y ∷ ys) i new d lt step all = absurd all
zip_set R (x ∷ xs) [] i new d lt step all = absurd all
zip_set R (x ∷ xs) (y ∷ ys) zero new d lt step all = (step x all.0, all.1)
zip_set R (x ∷ xs) (y ∷ ys) (suc i) new d lt step all = (all.0, zip_set R xs ys i new d (omega (arith, lt)) step all.1)

pub zip_flip : {A B : Type 0} (R : A → B → Type 0) (xs : List A) (ys : List B) → AllZip R xs ys → AllZip (λ y x. R x y) ys xs
zip_flip R [] [] all = tt
zip_flip R [] (y ∷ ys) all = absurd all
zip_flip R (x ∷ xs) [] all = absurd all
zip_flip R (x ∷ xs) (y ∷ ys) all = (all.0, zip_flip R xs ys all.1)

pub zip_weaker : {A B : Type 0} (R S : A → B → Type 0) → ((x : A) (y : B) → R x y → S x y) → (xs : List A) (ys : List B) → AllZip R xs ys → AllZip S xs ys
zip_weaker R S step [] [] all = tt
zip_weaker R S step [] (y ∷ ys) all = absurd all
zip_weaker R S step (x ∷ xs) [] all = absurd all
zip_weaker R S step (x ∷ xs) (y ∷ ys) all = (step x y all.0, zip_weaker R S step xs ys all.1)

-- what holds of each of the first list tells what holds of each of the second
pub zip_all : {A B : Type 0} (R : A → B → Type 0) (P : A → Type 0) (Q : B → Type 0) → ((x : A) (y : B) → R x y → P x → Q y) → (xs : List A) (ys : List B) → AllZip R xs ys → All P xs → All Q ys
zip_all R P Q step [] [] all each = All-nil Q
zip_all R P Q step [] (y ∷ ys) all each = absurd all
zip_all R P Q step (x ∷ xs) [] all each = absurd all
zip_all R P Q step (x ∷ xs) (y ∷ ys) all each = All-cons Q y ys (step x y all.0 (All-head P x xs each)) (zip_all R P Q step xs ys all.1 (All-tail P x xs each))

-- the second list, cut where the first is
pub record ZipParts {A B : Type 0} (R : A → B → Type 0) (xs : List A) (x : A) (more : List A) (zs : List B) : Type 0 where
  pub front : List B
  pub at : B
  pub behind : List B
  pub is : zs ≡ front ++ at ∷ behind
  pub fronts : AllZip R xs front
  pub ats : R x at
  pub behinds : AllZip R more behind

pub zip_parts : {A B : Type 0} (R : A → B → Type 0) (xs : List A) (x : A) (more : List A) (zs : List B) → AllZip R (xs ++ x ∷ more) zs → ZipParts R xs x more zs
zip_parts R [] x more [] all = absurd all
zip_parts R [] x more (z ∷ zs) all = record { front = []; at = z; behind = zs; is = refl; fronts = tt; ats = all.0; behinds = all.1 }
zip_parts R (y ∷ xs) x more [] all = absurd all
zip_parts R (y ∷ xs) x more (z ∷ zs) all =
    let p = zip_parts R xs x more zs all.1 in
    record { front = z ∷ p.front; at = p.at; behind = p.behind; is = ap (λ ws. z ∷ ws) p.is; fronts = (all.0, p.fronts); ats = p.ats; behinds = p.behinds }

-- ---- marks in turn

-- what holds of all marks holds of those before the last
pub follows_front : {Q : Type 0} (ends opens : Q → Bool) (b : Bool) (xs ys : List Q) → OpensFollowEnds ends opens b (xs ++ ys) → OpensFollowEnds ends opens b xs
follows_front ends opens b [] ys all = tt
follows_front ends opens b (x ∷ xs) ys all = (all.0, follows_front ends opens (ends x) xs ys all.1)

-- an open mark stands only behind an end mark
pub opens_last : {Q : Type 0} (ends opens : Q → Bool) (b : Bool) (xs : List Q) (m : Q) → OpensFollowEnds ends opens b (xs ++ m ∷ []) → opens m ≡ ends_last ends b xs
opens_last ends opens b [] m all = all.0
opens_last ends opens b (x ∷ xs) m all = opens_last ends opens (ends x) xs m all.1

pub last_ends : {Q : Type 0} (ends : Q → Bool) (b : Bool) (xs : List Q) (m : Q) → ends_last ends b (xs ++ m ∷ []) ≡ ends m
last_ends ends b [] m = refl
last_ends ends b (x ∷ xs) m = last_ends ends (ends x) xs m

-- ---- what a work was given

module _ {W M : Type 0} (given : W → List (Given M) → Type 0) (is_closed : W → Bool) where
  -- an open work was given what was taken
  pub works_more : (old new : W) (more connection : List (Given M)) → is_closed old ≡ false → ((items : List (Given M)) → given old items → given new (items ++ more)) → WorksOn given is_closed old connection → WorksOn given is_closed new (connection ++ more)
  works_more old new more connection live step w = record {
    items = w.items ++ more;
    are_given = step w.items w.are_given;
    begin = ([], ap (λ items. items ++ more) (sym (w.whole live)) ∙ sym (append-nil (w.items ++ more)));
    whole = λ _. ap (λ items. items ++ more) (w.whole live);
  }

  -- what was taken was passed over by a closed one
  pub works_passed : (work : W) (more connection : List (Given M)) → is_closed work ≡ true → WorksOn given is_closed work connection → WorksOn given is_closed work (connection ++ more)
  works_passed work more connection closed w = record {
    items = w.items;
    are_given = w.are_given;
    begin = (w.begin.0 ++ more, ap (λ items. items ++ more) w.begin.1 ∙ append_assoc w.items w.begin.0 more);
    whole = λ live. absurd (false≢true (sym live ∙ closed));
  }

  -- it was given nothing, and if it is open it was so before
  pub works_kept : (old new : W) (connection : List (Given M)) → (is_closed new ≡ false → is_closed old ≡ false) → ((items : List (Given M)) → given old items → given new items) → WorksOn given is_closed old connection → WorksOn given is_closed new connection
  works_kept old new connection live step w = record { items = w.items; are_given = step w.items w.are_given; begin = w.begin; whole = λ is. w.whole (live is) }

  -- it begins a connection
  pub works_fresh : (ticked : W → List ℕ → Type 0) (is_whole : W → Type 0) (work : W) → IsFresh given ticked is_closed is_whole work → WorksOn given is_closed work []
  works_fresh ticked is_whole work fresh = record { items = []; are_given = fresh.nothing; begin = ([], refl); whole = λ _. refl }

  -- as many works as connections
  pub works_count : {O : Type 0} (works : List W) (marks : List (Queued M O)) → AllZip (WorksOn given is_closed) works (connections_of marks) → length works ≡ connections is_open marks
  works_count works marks all = omega (arith, zip_length (WorksOn given is_closed) works (connections_of marks) all, length-map (slice_split is_open marks) (flat_map given_by), length-slice_split is_open marks)
