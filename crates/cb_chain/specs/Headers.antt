-- What a list of headers does to the tree (Bitcoin's protocol, `headers`).
use Rattle.std.specs.Prelude.{◌≡◌, ◌⊎◌, ℕ, ◌+◌, ◌-◌, ◌%◌, ◌≤◌, Bool, true, false, List, [], ◌∷◌, length, map, take, drop, Option, None, Some}
use Rattle.cb_base.specs.declared.fault.Fault.{Fault}
use Rattle.cb_base.specs.declared.fault.Fault.TheVariants.{Known}
use Rattle.cb_base.specs.declared.hash.Hash256.{Hash256}
use Rattle.cb_block.specs.declared.header.Header.{Header}
use Rattle.cb_chain.specs.Calls.{AcceptsHeader}
use Rattle.cb_chain.specs.Entries.{Tree, block_hash}

-- after this answer to a header, the next header is looked at: the header was added or is known
abbrev pub goes_on : Option Fault → Bool
goes_on None = true
goes_on (Some Known) = true
goes_on other = false

-- a header is added, or known already
abbrev pub Meets : Tree → Header → Tree → Type 0
Meets old header new =
    (answer : Option Fault) × (goes_on answer ≡ true) × AcceptsHeader old header answer new

-- The headers are looked at in order. `met` has the hashes of those that are added or known. The
-- first header that is refused for another reason ends it: `against` is that reason, and no header
-- after it is looked at.
abbrev pub TakesHeaders : Tree → List Header → Option Fault → List Hash256 → Tree → Type 0
TakesHeaders old [] against met new = (against ≡ None) × (met ≡ []) × (new ≡ old)
TakesHeaders old (header ∷ headers) against met new =
    ((next : Tree) × (others : List Hash256) × Meets old header next
    × (met ≡ block_hash header ∷ others) × TakesHeaders next headers against others new)
    ⊎ ((goes_on against ≡ false) × AcceptsHeader old header against new × (met ≡ []))

-- The headers are parted into fours from the first one on. `hashes` are those of the four that
-- header i is one of, where there are four.
abbrev pub HasFour : List Header → ℕ → List Hash256 → Type 0
HasFour headers i hashes =
    i - i % 4 + 4 ≤ length headers → hashes ≡ map block_hash (take 4 (drop (i - i % 4) headers))
