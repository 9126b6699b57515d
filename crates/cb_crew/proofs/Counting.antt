-- How many marks were given to works, as a desk is served mark by mark.
use Rattle.std.proofs.Common.{◌≡◌, ◌+◌, false, List, [], ◌∷◌, ◌++◌, length, map, refl, sym, ap, subst, ◌∙◌, arith}
use Rattle.std.specs.List.{AllZip, flat_map, sum_by}
use Rattle.std.proofs.lemmas.Bool.{false≢true}
use Rattle.std.proofs.lemmas.List.{append-nil, append_assoc, length-append}
use Rattle.std.proofs.lemmas.List.Sums.{sum_by-cons}
use Rattle.cb_crew.specs.Laws.{IsBeginning}
use Rattle.cb_crew.specs.declared.queued.Queued.{Queued}
use Rattle.cb_crew.specs.declared.queued.Queued.TheVariants as queued
use Rattle.cb_crew.specs.Queued.{is_open}
use Rattle.cb_crew.specs.declared.work.Given.{Given}
use Rattle.cb_crew.specs.Work.{IsGivenMore, IsGivenNone, connections_of, given_by, go_on, last_of}
use Rattle.cb_crew.specs.Desk.{DeskState, WereGiven}
use Rattle.cb_crew.proofs.Works.{HasFirst, connections_more, onto_last, split_some, zip_flip, zip_last, zip_none, zip_push, zip_swap, zip_then}

-- ---- lists, one connection after another

onto_rest : {A : Type 0} (list : List A) (lists : List (List A)) (more : List A) → HasFirst lists → onto_last (list ∷ lists) more ≡ list ∷ onto_last lists more
onto_rest list lists more some = rw some.2 refl

goes_first : {A : Type 0} (list : List A) (lists more : List (List A)) → HasFirst (go_on (list ∷ lists) more)
goes_first list [] [] = (list, [], refl)
goes_first list [] (first ∷ more) = (list ++ first, more, refl)
goes_first list (next ∷ lists) more = (list, go_on (next ∷ lists) more, refl)

-- what comes to the last of the lists comes to the last of all
pub go_onto : {A : Type 0} (had gave : List (List A)) (more : List A) → go_on had (onto_last gave more) ≡ onto_last (go_on had gave) more
go_onto [] gave more = refl
go_onto (list ∷ []) [] more = refl
go_onto (list ∷ []) (first ∷ []) more = ap (λ xs. xs ∷ []) (sym (append_assoc list first more))
go_onto (list ∷ []) (first ∷ next ∷ gave) more = refl
go_onto (list ∷ next ∷ had) gave more = ap (λ ls. list ∷ ls) (go_onto (next ∷ had) gave more) ∙ sym (onto_rest list (go_on (next ∷ had) gave) more (goes_first next had gave))

-- a list of its own comes behind all
go_again : {A : Type 0} (had gave : List (List A)) (new : List A) → HasFirst gave → go_on had (gave ++ new ∷ []) ≡ go_on had gave ++ new ∷ []
go_again [] gave new some = refl
go_again (list ∷ []) gave new some = rw some.2 refl
go_again (list ∷ next ∷ had) gave new some = ap (λ ls. list ∷ ls) (go_again (next ∷ had) gave new some)

-- nothing more
go_none : {A : Type 0} (list : List A) (lists : List (List A)) → go_on (list ∷ lists) ([] ∷ []) ≡ list ∷ lists
go_none list [] = ap (λ xs. xs ∷ []) (append-nil list)
go_none list (next ∷ lists) = ap (λ ls. list ∷ ls) (go_none next lists)

pub last_onto : {A : Type 0} (lists : List (List A)) (more : List A) → last_of (onto_last lists more) ≡ last_of lists ++ more
last_onto [] more = refl
last_onto (list ∷ []) more = refl
last_onto (list ∷ next ∷ []) more = refl
last_onto (list ∷ next ∷ other ∷ lists) more = last_onto (next ∷ other ∷ lists) more

pub last_again : {A : Type 0} (lists : List (List A)) (new : List A) → last_of (lists ++ new ∷ []) ≡ new
last_again [] new = refl
last_again (list ∷ []) new = refl
last_again (list ∷ next ∷ lists) new = last_again (next ∷ lists) new

pub sum_onto : {A : Type 0} (lists : List (List A)) (more : List A) → sum_by length (onto_last lists more) ≡ sum_by length lists + length more
sum_onto [] more = omega (arith, sum_by-cons (length {A = _}) more [])
sum_onto (list ∷ []) more = omega (arith, sum_by-cons (length {A = _}) (list ++ more) [], sum_by-cons (length {A = _}) list [], length-append list more)
sum_onto (list ∷ next ∷ lists) more = omega (arith, sum_by-cons (length {A = _}) list (onto_last (next ∷ lists) more), sum_by-cons (length {A = _}) list (next ∷ lists), sum_onto (next ∷ lists) more)

pub zip_some : {A B : Type 0} (R : List A → List B → Type 0) (xs : List (List A)) (ys : List (List B)) → AllZip R xs ys → HasFirst ys → HasFirst xs
zip_some R [] [] all some = absurd (omega (arith, ap length some.2))
zip_some R [] (y ∷ ys) all some = absurd all
zip_some R (x ∷ xs) ys all some = (x, xs, refl)

-- the last lists are alike, and the same comes to both
pub begin_both : {A : Type 0} (gave all : List (List A)) (more : List A) → last_of gave ≡ last_of all → AllZip IsBeginning gave all → AllZip IsBeginning (onto_last gave more) (onto_last all more)
begin_both [] [] more same begin = (([], sym (append-nil more)), tt)
begin_both [] (c ∷ all) more same begin = absurd begin
begin_both (g ∷ gave) [] more same begin = absurd begin
begin_both (g ∷ []) (c ∷ []) more same begin = (([], ap (λ xs. xs ++ more) (sym same) ∙ sym (append-nil (g ++ more))), tt)
begin_both (g ∷ []) (c ∷ d ∷ all) more same begin = absurd begin.1
begin_both (g ∷ h ∷ gave) (c ∷ []) more same begin = absurd begin.1
begin_both (g ∷ h ∷ gave) (c ∷ d ∷ all) more same begin = (begin.0, begin_both (h ∷ gave) (d ∷ all) more same begin.1)

-- more comes to the whole
pub begin_more : {A : Type 0} (gave all : List (List A)) (more : List A) → HasFirst all → AllZip IsBeginning gave all → AllZip IsBeginning gave (onto_last all more)
begin_more [] [] more some begin = absurd (omega (arith, ap length some.2))
begin_more [] (c ∷ all) more some begin = absurd begin
begin_more (g ∷ gave) [] more some begin = absurd begin
begin_more (g ∷ []) (c ∷ []) more some begin = ((begin.0.0 ++ more, ap (λ xs. xs ++ more) begin.0.1 ∙ append_assoc g begin.0.0 more), tt)
begin_more (g ∷ []) (c ∷ d ∷ all) more some begin = absurd begin.1
begin_more (g ∷ h ∷ gave) (c ∷ []) more some begin = absurd begin.1
begin_more (g ∷ h ∷ gave) (c ∷ d ∷ all) more some begin = (begin.0, begin_more (h ∷ gave) (d ∷ all) more (d, all, refl) begin.1)

pub connections_some : {M O : Type 0} (marks : List (Queued M O)) → HasFirst (connections_of marks)
connections_some marks = let some = split_some is_open marks in (flat_map given_by some.0, map (flat_map given_by) some.1, ap (map (flat_map given_by)) some.2)

pub one_given : {M O : Type 0} (mark : Queued M O) → is_open mark ≡ false → length (given_by mark) ≡ 1
one_given (queued.Item item) stays = refl
one_given queued.End stays = refl
one_given (queued.Open opening) stays = absurd (false≢true (sym stays))

pub connections_on : {M O : Type 0} (marks : List (Queued M O)) (mark : Queued M O) → is_open mark ≡ false → connections_of (marks ++ mark ∷ []) ≡ onto_last (connections_of marks) (given_by mark)
connections_on marks mark stays = connections_more marks mark stays ∙ ap (onto_last (connections_of marks)) (append-nil (given_by mark))

-- ---- what the works were given

module _ {W M : Type 0} (given : W → List (Given M) → Type 0) where
  given_same : (past : List W) (work : W) (had : List (List (Given M))) → AllZip given (past ++ work ∷ []) had → go_on had ([] ∷ []) ≡ had
  given_same past work [] was = absurd (zip_none given past work was)
  given_same past work (list ∷ had) was = go_none list had

  -- they were given nothing
  pub given_none : (old new : DeskState W M) → new.past ≡ old.past → IsGivenNone given old.work new.work → WereGiven given old new ([] ∷ [])
  given_none old new past none had was =
      subst (AllZip given (new.past ++ new.work ∷ [])) (sym (given_same old.past old.work had was))
      (subst (λ works. AllZip given (works ++ new.work ∷ []) had) (sym past) (zip_swap given old.past old.work new.work had was none))

  -- the latest was given more
  pub given_more : (old mid new : DeskState W M) (gave : List (List (Given M))) (more : List (Given M)) → new.past ≡ mid.past → IsGivenMore given more mid.work new.work → WereGiven given old mid gave → WereGiven given old new (onto_last gave more)
  given_more old mid new gave more past step w had was =
      subst (AllZip given (new.past ++ new.work ∷ [])) (sym (go_onto had gave more))
      (subst (λ works. AllZip given (works ++ new.work ∷ []) (onto_last (go_on had gave) more)) (sym past) (zip_last given mid.past mid.work new.work (go_on had gave) more (w had was) step))

  -- the latest was given nothing more
  pub given_still : (old mid new : DeskState W M) (gave : List (List (Given M))) → new.past ≡ mid.past → IsGivenNone given mid.work new.work → WereGiven given old mid gave → WereGiven given old new gave
  given_still old mid new gave past step w had was =
      subst (λ works. AllZip given (works ++ new.work ∷ []) (go_on had gave)) (sym past) (zip_swap given mid.past mid.work new.work (go_on had gave) (w had was) step)

  -- another work came
  pub given_again : (old mid new : DeskState W M) (gave : List (List (Given M))) → HasFirst gave → AllZip (IsGivenNone given) (mid.past ++ mid.work ∷ []) new.past → given new.work [] → WereGiven given old mid gave → WereGiven given old new (gave ++ [] ∷ [])
  given_again old mid new gave some past nothing w had was =
      let still = zip_then (λ (now before : W). IsGivenNone given before now) given given (λ now before items k g. k items g) new.past (mid.past ++ mid.work ∷ []) (go_on had gave) (zip_flip (IsGivenNone given) (mid.past ++ mid.work ∷ []) new.past past) (w had was) in
      subst (AllZip given (new.past ++ new.work ∷ [])) (sym (go_again had gave [] some)) (zip_push given new.past (go_on had gave) new.work [] still nothing)
