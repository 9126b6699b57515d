-- Of which connections a tick is due behind a new tip.
use Rattle.std.specs.Prelude.{ℕ, ◌+◌, ◌==◌, Bool, true, false, not, ◌&&◌, if◌then◌else◌, List, [], ◌∷◌, ◌++◌}
use Rattle.cb_peer_state.specs.declared.session_state.SessionState.{SessionState}
use Rattle.cb_work.specs.declared.due.ToldTip.{ToldTip}
use Rattle.cb_work.specs.Seen.{told_word}

-- What the peer of a session was told, and whether it wants compact blocks unasked.
abbrev pub told_by : SessionState → ToldTip
told_by session = record { tip = told_word session.marks.tip; high = session.peer.wants_high }

-- The peer was told some tip, so its handshake is done, and that isn't this one.
abbrev pub is_due : ℕ → ToldTip → Bool
is_due tip told = not (told.tip == 0) && not (told.tip == tip)

-- It is due, and its peer wants compact blocks unasked, or doesn't.
abbrev pub is_due_as : ℕ → Bool → ToldTip → Bool
is_due_as tip high told = is_due tip told && (if high then told.high else not told.high)

-- The places of those that pass a test, where the first stands at this place.
abbrev pub places_where : (ToldTip → Bool) → ℕ → List ToldTip → List ℕ
places_where test place [] = []
places_where test place (told ∷ others) =
    if test told
    then place ∷ places_where test (place + 1) others
    else places_where test (place + 1) others

-- The places of those that are due: first of those whose peers want compact blocks unasked, and
-- then of the others, both in order.
abbrev pub due_places : ℕ → List ToldTip → List ℕ
due_places tip all =
    places_where (is_due_as tip true) 0 all ++ places_where (is_due_as tip false) 0 all
