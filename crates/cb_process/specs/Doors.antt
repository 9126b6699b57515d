-- Who is let in.
use Rattle.std.specs.Prelude.{◌≡◌, ℕ, ◌+◌, ◌<◌, ◌≤◌, ⊤, Bool, false, List, ◌∷◌, [], Option, Some, None, ◌&&◌, count_by, filter, nat_eq, nat_lt}
use Rattle.std.specs.Cmp.Lexicographic.{pointwise}
use Rattle.std.specs.declared.net.ip_addr.IpAddr.{IpAddr}
use Rattle.std.specs.declared.net.ip_addr.IpAddr.TheVariants.{V4, V6}
use Rattle.cb_pipes.specs.LastSecond.{lately}
use Rattle.cb_process.specs.declared.doors.Admission.{Admission}

-- the same address of a host
abbrev pub same_host : IpAddr → IpAddr → Bool
same_host (V4 a) (V4 b) = pointwise nat_eq a.octets b.octets
same_host (V6 a) (V6 b) = pointwise nat_eq a.segments b.segments
same_host (V4 a) (V6 b) = false
same_host (V6 a) (V4 b) = false

abbrev pub is_of : IpAddr → Admission → Bool
is_of host entry = same_host entry.host host

-- those that were let in within the last second
abbrev pub recent : ℕ → List Admission → List Admission
recent now entries = lately (λ entry. entry.at) now entries

-- how many of a host were
abbrev pub recent_of : IpAddr → ℕ → List Admission → ℕ
recent_of host now entries = count_by (is_of host) (recent now entries)

-- A host may enter: fewer of its connections last than may, and fewer than 10 were let in within
-- the last second. With no limit each may.
abbrev pub MayEnter : List Admission → Option ℕ → IpAddr → ℕ → ℕ → Type 0
MayEnter entries None host lasting now = ⊤
MayEnter entries (Some most) host lasting now =
    (lasting < most) × (recent_of host now entries < 10)

-- ---- what that comes to

-- connections that were let in, the latest first: each while fewer than 10 of its host had been
-- within the second before
abbrev pub AreLetIn : List Admission → Type 0
AreLetIn [] = ⊤
AreLetIn (entry ∷ before) = (recent_of entry.host entry.at before < 10) × AreLetIn before

-- from some time on, what is kept counts for each host as all that were let in do
abbrev pub Recall : List Admission → List Admission → ℕ → Type 0
Recall kept all last =
    (host : IpAddr) (now : ℕ) → last ≤ now → recent_of host now kept ≡ recent_of host now all

-- it was let in within the 1,000 milliseconds that begin at a time
abbrev pub is_within : ℕ → Admission → Bool
is_within start entry = nat_lt start (entry.at + 1) && nat_lt entry.at (start + 1000)

-- whichever they are, of one host they are at most 10
abbrev pub AtMostTen : List Admission → Type 0
AtMostTen all =
    (host : IpAddr) (start : ℕ) → count_by (is_of host) (filter (is_within start) all) ≤ 10
