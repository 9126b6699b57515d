-- What the words of `net` ask for.
use Rattle.std.specs.Prelude.{ℕ, ◌^◌, nat_lt, ◌==◌, ◌&&◌, Bool, true, false, if◌then◌else◌, List, [], ◌∷◌, codes, Option, Some, None, Result, Ok, Err, option_map, unwrap_or}
use Rattle.std.specs.Option.{ok_or, option_zip}
use Rattle.std.specs.Str.{all_ascii_digits, bytes_eq}
use Rattle.std.specs.Str.Parse.{digits_value, without_leading_plus}
use Rattle.clap.specs.Words.{Row, Text, first_of, found_of, rows_of}
use Rattle.clap.specs.declared.parser.matches.ArgMatches.{ArgMatches}
use Rattle.cb_net_plan.specs.Settings.{fault_words, first_fault, judged, usual_settings}
use Rattle.cb_net_plan.specs.declared.settings.NetSettings.{NetSettings}
use Rattle.cb_net_plan.specs.declared.settings.Partition.{Partition}
use Rattle.cb_net_plan.specs.declared.settings.Restart.{Restart}
use Rattle.cb_net_plan.specs.declared.settings.SettingsFault.{SettingsFault}
use Rattle.cb_net_plan.specs.declared.bad_net.BadNet.{BadNet}
use Rattle.cb_net_plan.specs.declared.bad_net.BadNet.TheVariants as bad

-- what an operator is told
abbrev pub bad_net_text : BadNet → List ℕ
bad_net_text bad.Latency = codes "--latency takes A..B in milliseconds, as 20..200"
bad_net_text bad.Part = codes "--part takes N@A..B, as 500@3..5"
bad_net_text bad.Restart = codes "--restart takes N@B, as 17@4"
bad_net_text bad.Audit = codes "--audit takes all or none"
bad_net_text (bad.Fault fault) = fault_words fault

-- ---- numbers

abbrev pub is_numeral : List ℕ → Bool
is_numeral [] = false
is_numeral (c ∷ cs) = all_ascii_digits (c ∷ cs)

-- the number that digits write, if they are digits and it is below the limit
abbrev pub numeral_in : ℕ → List ℕ → Option ℕ
numeral_in limit digits =
    if is_numeral digits && nat_lt (digits_value 10 digits) limit
    then Some (digits_value 10 digits)
    else None

-- the number of so many bits that a text writes: a plus before the digits may stand
abbrev pub number_in : ℕ → List ℕ → Option ℕ
number_in bits text = numeral_in (2 ^ bits) (without_leading_plus text)

-- the number that the value of an option writes, or the usual one if none was told
abbrev pub number_or : ℕ → ℕ → Option (List ℕ) → ℕ
number_or bits usual None = usual
number_or bits usual (Some text) = unwrap_or (number_in bits text) usual

-- the text before the first of these characters, and the text behind it
abbrev pub cut_at : ℕ → List ℕ → Option (List ℕ × List ℕ)
cut_at sign [] = None
cut_at sign (c ∷ cs) =
    if c == sign then Some ([], cs)
    else option_map (λ parts. (c ∷ parts.0, parts.1)) (cut_at sign cs)

-- the text behind this character, if that stands first
abbrev pub behind : ℕ → List ℕ → Option (List ℕ)
behind sign [] = None
behind sign (c ∷ cs) = if c == sign then Some cs else None

-- two texts, if the second one is there
abbrev pub beside : List ℕ → Option (List ℕ) → Option (List ℕ × List ℕ)
beside low None = None
beside low (Some high) = Some (low, high)

-- the same texts, the second one without the dot with which it begins
abbrev pub without_dot : Option (List ℕ × List ℕ) → Option (List ℕ × List ℕ)
without_dot None = None
without_dot (Some (low, rest)) = beside low (behind 46 rest)

-- two numbers of 32 bits, by their texts
abbrev pub pair_in : Option (List ℕ × List ℕ) → Option (ℕ × ℕ)
pair_in None = None
pair_in (Some (one, other)) = option_zip (number_in 32 one) (number_in 32 other)

-- two numbers around two dots
abbrev pub range_in : List ℕ → Option (ℕ × ℕ)
range_in text = pair_in (without_dot (cut_at 46 text))

-- ---- what the values of single options ask for

abbrev pub latency_told : Option (List ℕ) → Result (ℕ × ℕ) BadNet
latency_told None = Ok (20, 200)
latency_told (Some text) = ok_or (range_in text) bad.Latency

-- nodes and blocks
abbrev pub part_of : Option (ℕ × (ℕ × ℕ)) → Option Partition
part_of numbers =
    option_map (λ it. record { below = it.0; from = it.1.0; to = it.1.1 }) numbers

-- by the texts before and behind the sign
abbrev pub part_in : Option (List ℕ × List ℕ) → Option Partition
part_in None = None
part_in (Some (below, blocks)) = part_of (option_zip (number_in 32 below) (range_in blocks))

abbrev pub part_told : Option (List ℕ) → Result (Option Partition) BadNet
part_told None = Ok None
part_told (Some text) = ok_or (option_map (λ part. Some part) (part_in (cut_at 64 text))) bad.Part

-- a node and a block
abbrev pub restart_in : Option (List ℕ × List ℕ) → Option Restart
restart_in parts = option_map (λ it. record { node = it.0; block = it.1 }) (pair_in parts)

abbrev pub restart_told : Option (List ℕ) → Result (Option Restart) BadNet
restart_told None = Ok None
restart_told (Some text) =
    ok_or (option_map (λ it. Some it) (restart_in (cut_at 64 text))) bad.Restart

abbrev pub audit_told : Option (List ℕ) → Result Bool BadNet
audit_told None = Ok true
audit_told (Some text) =
    if bytes_eq text (codes "all") then Ok true
    else if bytes_eq text (codes "none") then Ok false else Err bad.Audit

-- whether a flag with this value was told
abbrev pub is_flagged : Option (List ℕ) → Bool
is_flagged None = false
is_flagged (Some text) = bytes_eq text (codes "true")

-- ---- what all of them ask for

-- the usual settings, with the numbers that were told, and whether rows are printed
abbrev pub numbers_in : List Row → NetSettings
numbers_in rows = record (usual_settings (number_or 32 0 (first_of (codes "nodes") rows))) {
  links = number_or 32 8 (first_of (codes "links") rows);
  seed = number_or 64 1 (first_of (codes "seed") rows);
  rate = number_or 64 1250000 (first_of (codes "rate") rows);
  blocks = number_or 32 3 (first_of (codes "blocks") rows);
  transactions = number_or 32 100 (first_of (codes "transactions") rows);
  missing = number_or 32 0 (first_of (codes "missing") rows);
  lacking = number_or 32 0 (first_of (codes "lacking") rows);
  stall = number_or 32 0 (first_of (codes "stall") rows);
  lie = number_or 32 0 (first_of (codes "lie") rows);
  csv = is_flagged (first_of (codes "csv") rows);
}

-- the settings, if a network can be so
abbrev pub unless_faulty : NetSettings → Result (Unit {0}) SettingsFault → Result NetSettings BadNet
unless_faulty settings (Ok done) = Ok settings
unless_faulty settings (Err fault) = Err (bad.Fault fault)

abbrev pub judged_settings : NetSettings → Result NetSettings BadNet
judged_settings settings = unless_faulty settings (judged (first_fault settings))

-- The settings with these values too. The first that can't be read is told.
abbrev pub settings_with : NetSettings → Result (ℕ × ℕ) BadNet → Result (Option Partition) BadNet
    → Result (Option Restart) BadNet → Result Bool BadNet → Result NetSettings BadNet
settings_with settings (Err fault) part restart audit = Err fault
settings_with settings (Ok latency) (Err fault) restart audit = Err fault
settings_with settings (Ok latency) (Ok part) (Err fault) audit = Err fault
settings_with settings (Ok latency) (Ok part) (Ok restart) (Err fault) = Err fault
settings_with settings (Ok latency) (Ok part) (Ok restart) (Ok audit) =
    judged_settings (record settings {
      latency_low = latency.0;
      latency_high = latency.1;
      part = part;
      restart = restart;
      audit = audit;
    })

-- What these values of the options ask for.
abbrev pub asked_settings : List Row → Result NetSettings BadNet
asked_settings rows =
    settings_with (numbers_in rows) (latency_told (first_of (codes "latency") rows))
    (part_told (first_of (codes "part") rows)) (restart_told (first_of (codes "restart") rows))
    (audit_told (first_of (codes "audit") rows))

-- the values of the options of a command, if it was entered
abbrev pub rows_in : Option ArgMatches → List Row
rows_in None = []
rows_in (Some matches) = rows_of (found_of matches)

-- the values of the options of `net`, by the command that was entered
abbrev pub net_rows : Option (Text × List Row) → List Row
net_rows None = []
net_rows (Some found) = if bytes_eq found.0 (codes "net") then found.1 else []
