-- Who is among announcers, and the last three of them.
use Rattle.std.proofs.Common.{◌≡◌, ◌-◌, ◌≤◌, ◌||◌, List, [], ◌∷◌, length, drop, refl, sym, ap, arith}
use Rattle.std.specs.Prelude.{remove}
use Rattle.std.specs.List.{list_any}
use Rattle.cb_state.specs.declared.connection.Connection.{Connection}
use Rattle.cb_state.specs.Announcers.{is_among, last_three, same_connection}

pub among : (connections : List Connection) (connection : Connection) → list_any (λ other. same_connection other connection) connections ≡ is_among connections connection
among [] connection = refl
among (other ∷ others) connection = ap (λ b. same_connection other connection || b) (among others connection)

pub first_leaves : (connections : List Connection) → length connections ≡ 4 → remove connections 0 ≡ last_three connections
first_leaves connections four =
    let one : length connections - 3 ≡ 1 = omega arith in ap (λ n. drop n connections) (sym one)

pub all_stay : (connections : List Connection) → length connections ≤ 3 → connections ≡ last_three connections
all_stay connections few =
    let none : length connections - 3 ≡ 0 = omega arith in ap (λ n. drop n connections) (sym none)
