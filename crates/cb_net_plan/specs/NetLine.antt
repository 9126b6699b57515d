-- The command `net` of a command line: its options.
use Rattle.std.specs.Prelude.{ℕ, true, List, codes, Some}
use Rattle.clap.specs.Words.{App, Rule, new_app, new_rule, with_rule}
use Rattle.clap.specs.declared.builder.action.ArgAction.TheVariants.{SetTrue}
use Rattle.clap.specs.declared.builder.value_parser.ValueParser.TheVariants as parsers

-- an option of this name with a value
abbrev pub valued : List ℕ → Rule
valued name = record (new_rule name) { long = Some name; value_names = 1 }

-- the same with a number from 0 to the most
abbrev pub numbered : ℕ → List ℕ → Rule
numbered most name = record (valued name) { parser = Some (parsers.Unsigned 0 most) }

-- a number of 32 bits, and of 64
abbrev pub short : List ℕ → Rule
short name = numbered 4294967295 name

abbrev pub wide : List ℕ → Rule
wide name = numbered 18446744073709551615 name

-- a number of 32 bits that must be there
abbrev pub needed : List ℕ → Rule
needed name = record (short name) { required = true }

-- a flag of this name
abbrev pub flag : List ℕ → Rule
flag name = record (new_rule name) { long = Some name; action = Some SetTrue }

-- the options about nodes and links, behind those that a command has
abbrev pub with_links : App → App
with_links a =
    with_rule
    (with_rule
    (with_rule
    (with_rule (with_rule a (needed (codes "nodes"))) (short (codes "links")))
    (wide (codes "seed")))
    (valued (codes "latency")))
    (wide (codes "rate"))

-- those about blocks
abbrev pub with_blocks : App → App
with_blocks a =
    with_rule
    (with_rule
    (with_rule (with_rule a (short (codes "blocks"))) (short (codes "transactions")))
    (short (codes "missing")))
    (short (codes "lacking"))

-- those about what goes wrong
abbrev pub with_faults : App → App
with_faults a =
    with_rule
    (with_rule
    (with_rule (with_rule a (valued (codes "part"))) (valued (codes "restart")))
    (short (codes "stall")))
    (short (codes "lie"))

-- those about what is printed
abbrev pub with_prints : App → App
with_prints a = with_rule (with_rule a (valued (codes "audit"))) (flag (codes "csv"))

-- the command
abbrev pub net_line : App
net_line = with_prints (with_faults (with_blocks (with_links (new_app (codes "net")))))
