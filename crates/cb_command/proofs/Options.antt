-- What the options of `node` ask for.
use Rattle.std.proofs.Common.{◌≡◌, ℕ, ◌^◌, List, codes, Option, Some, None, Result, Ok, Err, option_map, refl, sym, ap, subst, ◌∙◌, inl, inr}
use Rattle.std.specs.Prelude.{◌↔◌, IfSome, IsSome}
use Rattle.std.specs.Borrow.{Bor}
use Rattle.std.specs.Result.{result_ok}
use Rattle.std.specs.Str.{bytes_eq}
use Rattle.std.specs.Str.Parse.{ParsesUnsigned, without_leading_plus}
use Rattle.std.proofs.lemmas.Bool.{cases_Bool, false≢true}
use Rattle.std.proofs.lemmas.Slice.Eq.{bytes_eq-Decides}
use Rattle.clap.specs.Words.{Row, Text, first_of, first_value, found_of, rows_of, subcommand_name_of, subcommand_rows_of}
use Rattle.clap.proofs.WalkLemmas.{first_value-rows}
use Rattle.clap.specs.declared.parser.matches.ArgMatches.{ArgMatches}
use Rattle.cb_control.specs.Words.{number_in}
use Rattle.cb_control.proofs.WordLemmas.{none_is_no_some, number_none, number_some, some_is}
use Rattle.cb_command.specs.NodeWords.{node_rows, rows_in}
use Rattle.cb_command.proofs.Entering.{name_of_rows}

-- what `parse` says of a number that a plus may stand before
pub plus_number_is : {E : Type 0} (text : List ℕ) (r : Result ℕ E) → ParsesUnsigned 64 10 text r → result_ok r ≡ number_in (2 ^ 64) (without_leading_plus text)
plus_number_is text (Ok n) h = rw (h.1) (sym (number_some (2 ^ 64) (without_leading_plus text) h.0.0 h.0.1))
plus_number_is text (Err e) h = sym (number_none (2 ^ 64) (without_leading_plus text) h)

-- the value of an option, by the rows
pub given_text : (m : ArgMatches) (id : List ℕ) (r : Option (Bor (List ℕ))) → option_map (λ s. s.now) r ≡ first_value (found_of m) id → option_map (λ s. s.now) r ≡ first_of id (rows_of (found_of m))
given_text m id r is = is ∙ first_value-rows (found_of m) id

-- the rows of `node`, if that is the command that was entered
entered_rows : (rows : Option (Text × List Row)) (r : Option (Bor ArgMatches)) → (IsSome r ↔ (option_map (λ f. f.0) rows ≡ Some (codes "node"))) → IfSome r (λ n. option_map (λ f. f.1) rows ≡ Some (rows_of (found_of n.now))) → rows_in (option_map (λ n. n.now) r) ≡ node_rows rows
entered_rows None None found is = refl
entered_rows (Some f) None found is =
    elim (cases_Bool (bytes_eq f.0 (codes "node"))) [
      | inl same ↦ absurd (false≢true (found.1 (ap (λ t. Some t) ((bytes_eq-Decides f.0 (codes "node")).0 same))))
      | inr differs ↦ rw (differs) refl
    ]
entered_rows None (Some n) found is = none_is_no_some (rows_of (found_of n.now)) is
entered_rows (Some f) (Some n) found is =
    rw ((bytes_eq-Decides f.0 (codes "node")).1 (some_is f.0 (codes "node") (found.0 refl))) (sym (some_is f.1 (rows_of (found_of n.now)) is))

pub node_rows_are : (m : ArgMatches) (r : Option (Bor ArgMatches)) → (IsSome r ↔ (subcommand_name_of m ≡ Some (codes "node"))) → IfSome r (λ n. option_map (λ f. f.1) (subcommand_rows_of m) ≡ Some (rows_of (found_of n.now))) → rows_in (option_map (λ n. n.now) r) ≡ node_rows (subcommand_rows_of m)
node_rows_are m r found is =
    entered_rows (subcommand_rows_of m) r (subst (λ (name : Option (List ℕ)). IsSome r ↔ (name ≡ Some (codes "node"))) (name_of_rows m) found) is
