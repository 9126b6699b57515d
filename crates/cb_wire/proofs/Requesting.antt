-- sendcmpct and getheaders: what is read is spelled so, what was written is read again, and how many bytes it has.
use Rattle.std.proofs.Common.{◌≡◌, ◌≢◌, ℕ, zero, suc, ◌*◌, ◌^◌, ◌<◌, ◌≤◌, Bool, true, false, cond, ltb, eqb, List, [], ◌∷◌, ◌++◌, length, take, drop, Result, Ok, Err, refl, ap, subst, ◌∙◌, append_assoc, arith}
use Rattle.std.specs.Prelude.{IsOk}
use Rattle.std.specs.Int.{w8, w32, w64, to_le_bytes, from_le_bytes}
use Rattle.std.proofs.lemmas.Bool.{eqb-true, le-ltb}
use Rattle.std.proofs.lemmas.List.{length-append}
use Rattle.cb_base.specs.declared.fault.Fault.{Fault}
use Rattle.cb_base.specs.declared.fault.Fault.TheVariants.{Memory, Truncated, TooMany, BadBool}
use Rattle.cb_base.specs.declared.hash.Hash256.{Hash256}
use Rattle.cb_base.specs.CompactSize.{compact_at}
use Rattle.cb_base.specs.Reading.{Read, ◌>>=◌, number_at}
use Rattle.cb_base.proofs.Fields.{AreBytes, bind_ok, guard_ok, ok_is, Takes, Takes-then, wide32, wide64, number_takes, number_again}
use Rattle.cb_base.proofs.Unpaid.{IsUnpaid, unpaid_then, unpaid_cond, unpaid_compact, unpaid_number, never_memory}
use Rattle.cb_block.specs.TxText.{list_text}
use Rattle.cb_block.specs.TxReading.{hash_at}
use Rattle.cb_block.proofs.Parts.{hash_takes, hash_again}
use Rattle.cb_block.proofs.TakingTxs.{unpaid_hash}
use Rattle.cb_wire.specs.declared.requests.CompactRelay.{CompactRelay}
use Rattle.cb_wire.specs.declared.requests.HeadersRequest.{HeadersRequest}
use Rattle.cb_wire.specs.Lists.{CountsSome, IsHash, hash_text, limited_at, listed_at}
use Rattle.cb_wire.specs.Requests.{IsRequest, TakesMemory, compact_relay_at, compact_relay_text, flag_at, request_at, request_count_at, request_text}
use Rattle.cb_wire.proofs.Counting.{hash_kind, listed_takes, listed_again, hashes_most}

-- ---- sendcmpct

bytes_after : (first : ℕ) (bytes : List ℕ) → AreBytes (first ∷ bytes) → AreBytes bytes
bytes_after first bytes are i = are (suc i)

abbrev flagged : Bool → List ℕ → Read Bool
flagged flag rest = Ok (flag, rest)

abbrev given : List ℕ → ℕ → Read ℕ
given rest n = Ok (n, rest)

abbrev flag_by : ℕ × List ℕ → Read Bool
flag_by n = cond (eqb n.0 0) (flagged false n.1) (cond (eqb n.0 1) (flagged true n.1) (Err BadBool))

-- a byte that is read stands first
first_is : (bytes : List ℕ) (byte : ℕ) (rest : List ℕ) → number_at w8 bytes ≡ Ok (byte, rest) → bytes ≡ byte ∷ rest
first_is [] byte rest e = absurd cc
first_is (first ∷ bytes) byte rest e =
    let g = guard_ok (ltb (length (first ∷ bytes)) 1) Truncated (from_le_bytes w8 (take 1 (first ∷ bytes)), drop 1 (first ∷ bytes)) (byte, rest) e in
    ap (λ (p : ℕ × List ℕ). p.0 ∷ p.1) g.1

first_again : (n : ℕ) (rest : List ℕ) → number_at w8 (n ∷ rest) ≡ given rest n
first_again n rest =
    let long : ltb (length (n ∷ rest)) 1 ≡ false = le-ltb _ _ (omega arith) in
    ap (λ (b : Bool). cond b (Err Truncated) (given rest n)) long

-- a byte that is a flag is that flag's
flag_is : (n : ℕ) (bytes : List ℕ) (none one : Bool) (flag : Bool) (rest : List ℕ) → eqb n 0 ≡ none → eqb n 1 ≡ one
    → cond none (flagged false bytes) (cond one (flagged true bytes) (Err BadBool)) ≡ flagged flag rest → (n ≡ cond flag 1 0) × (bytes ≡ rest)
flag_is n bytes true one flag rest z o e =
    let made : Bool × List ℕ = (false, bytes) in
    let same = ok_is made (flag, rest) e in
    (eqb-true n 0 z ∙ ap (λ (p : Bool × List ℕ). cond p.0 1 0) same, ap (λ (p : Bool × List ℕ). p.1) same)
flag_is n bytes false true flag rest z o e =
    let made : Bool × List ℕ = (true, bytes) in
    let same = ok_is made (flag, rest) e in
    (eqb-true n 1 o ∙ ap (λ (p : Bool × List ℕ). cond p.0 1 0) same, ap (λ (p : Bool × List ℕ). p.1) same)
flag_is n bytes false false flag rest z o e = absurd cc

flag_takes : (bytes : List ℕ) (flag : Bool) (rest : List ℕ) → AreBytes bytes → flag_at bytes ≡ Ok (flag, rest) → Takes bytes (cond flag 1 0 ∷ []) rest
unfolding flag_at
flag_takes bytes flag rest are e =
    let b = bind_ok (number_at w8 bytes) flag_by (flag, rest) e in
    let f = flag_is b.0.0 b.0.1 (eqb b.0.0 0) (eqb b.0.0 1) flag rest refl refl b.2 in
    let parts = first_is bytes b.0.0 b.0.1 b.1 in
    record {
      parts = parts ∙ ap (λ (n : ℕ). n ∷ b.0.1) f.0 ∙ ap (λ (r : List ℕ). cond flag 1 0 ∷ r) f.1;
      rest_bytes = subst AreBytes f.1 (bytes_after b.0.0 b.0.1 (subst AreBytes parts are));
    }

flag_again : (flag : Bool) (rest : List ℕ) → flag_at (cond flag 1 0 ∷ rest) ≡ Ok (flag, rest)
unfolding flag_at
flag_again true rest = ap (λ (r : Read ℕ). r >>= flag_by) (first_again 1 rest)
flag_again false rest = ap (λ (r : Read ℕ). r >>= flag_by) (first_again 0 rest)

pub compact_relay_takes : (bytes : List ℕ) (x : CompactRelay) (rest : List ℕ) → AreBytes bytes → compact_relay_at bytes ≡ Ok (x, rest) → Takes bytes (compact_relay_text x) rest × (x.version < 2 ^ 64)
unfolding compact_relay_at compact_relay_text
compact_relay_takes bytes x rest are e =
    let a = bind_ok (flag_at bytes) (λ flag. number_at w64 flag.1 >>= λ version. Ok (record { high_bandwidth = flag.0; version = version.0 }, version.1)) (x, rest) e in
    let b = bind_ok (number_at w64 a.0.1) (λ version. Ok (record { high_bandwidth = a.0.0; version = version.0 }, version.1)) (x, rest) a.2 in
    let t = flag_takes bytes a.0.0 a.0.1 are a.1 in
    let u = number_takes w64 (2 ^ 64) wide64 a.0.1 b.0.0 b.0.1 t.rest_bytes b.1 in
    let both = Takes-then bytes (cond a.0.0 1 0 ∷ []) a.0.1 (to_le_bytes w64 b.0.0) b.0.1 t u.0 in
    let made : CompactRelay × List ℕ = (record { high_bandwidth = a.0.0; version = b.0.0 }, b.0.1) in
    subst (λ (y : CompactRelay × List ℕ). Takes bytes (compact_relay_text y.0) y.1 × (y.0.version < 2 ^ 64)) (ok_is made (x, rest) b.2) (both, u.1)

pub compact_relay_again : (x : CompactRelay) (rest : List ℕ) → x.version < 2 ^ 64 → compact_relay_at (compact_relay_text x ++ rest) ≡ Ok (x, rest)
unfolding compact_relay_at compact_relay_text
compact_relay_again x rest lt =
    ap (λ (r : Read Bool). r >>= λ flag. number_at w64 flag.1 >>= λ version. Ok (record { high_bandwidth = flag.0; version = version.0 }, version.1)) (flag_again x.high_bandwidth (to_le_bytes w64 x.version ++ rest))
    ∙ ap (λ (r : Read ℕ). r >>= λ version. Ok (record { high_bandwidth = x.high_bandwidth; version = version.0 }, version.1)) (number_again w64 (2 ^ 64) wide64 x.version rest lt)

pub compact_relay_long : (x : CompactRelay) → length (compact_relay_text x) ≡ 9
unfolding compact_relay_text
compact_relay_long x = refl

-- ---- getheaders

pub request_takes : (bytes : List ℕ) (x : HeadersRequest) (rest : List ℕ) → AreBytes bytes → request_at bytes ≡ Ok (x, rest) → Takes bytes (request_text x) rest × IsRequest x
unfolding request_at request_text
request_takes bytes x rest are e =
    let a = bind_ok (number_at w32 bytes) (λ version. listed_at 101 32 hash_at version.1 >>= λ locator. hash_at locator.1 >>= λ stop. Ok (record { version = version.0; locator = locator.0; stop = stop.0 }, stop.1)) (x, rest) e in
    let b = bind_ok (listed_at 101 32 hash_at a.0.1) (λ locator. hash_at locator.1 >>= λ stop. Ok (record { version = a.0.0; locator = locator.0; stop = stop.0 }, stop.1)) (x, rest) a.2 in
    let c = bind_ok (hash_at b.0.1) (λ stop. Ok (record { version = a.0.0; locator = b.0.0; stop = stop.0 }, stop.1)) (x, rest) b.2 in
    let t = number_takes w32 (2 ^ 32) wide32 bytes a.0.0 a.0.1 are a.1 in
    let u = listed_takes Hash256 hash_text hash_at IsHash 101 32 hash_kind a.0.1 b.0.0 b.0.1 t.0.rest_bytes b.1 in
    let w = hash_takes b.0.1 c.0.0 c.0.1 u.0.rest_bytes c.1 in
    let uw = Takes-then a.0.1 (list_text hash_text b.0.0) b.0.1 c.0.0.0 c.0.1 u.0 w.0 in
    let tw = Takes-then bytes (to_le_bytes w32 a.0.0) a.0.1 (list_text hash_text b.0.0 ++ c.0.0.0) c.0.1 t.0 uw in
    let made : HeadersRequest × List ℕ = (record { version = a.0.0; locator = b.0.0; stop = c.0.0 }, c.0.1) in
    let is : IsRequest made.0 = record { version = t.1; few = u.1.0; locator = u.1.1; stop = w.1 } in
    subst (λ (y : HeadersRequest × List ℕ). Takes bytes (request_text y.0) y.1 × IsRequest y.0) (ok_is made (x, rest) c.2) (tw, is)

pub request_again : (x : HeadersRequest) (rest : List ℕ) → IsRequest x → request_at (request_text x ++ rest) ≡ Ok (x, rest)
unfolding request_at request_text
request_again x rest is =
    let regrouped : request_text x ++ rest ≡ to_le_bytes w32 x.version ++ (list_text hash_text x.locator ++ (x.stop.0 ++ rest)) =
    append_assoc (to_le_bytes w32 x.version) (list_text hash_text x.locator ++ x.stop.0) rest ∙ ap (λ (y : List ℕ). to_le_bytes w32 x.version ++ y) (append_assoc (list_text hash_text x.locator) x.stop.0 rest) in
    ap request_at regrouped
    ∙ rw (number_again w32 (2 ^ 32) wide32 x.version (list_text hash_text x.locator ++ (x.stop.0 ++ rest)) is.version, listed_again Hash256 hash_text hash_at IsHash 101 32 hash_kind (omega arith) x.locator (x.stop.0 ++ rest) (is.few, is.locator), hash_again x.stop rest is.stop) refl

pub request_most : (x : HeadersRequest) → IsRequest x → length (request_text x) ≤ 3277
unfolding request_text
request_most x is = omega (arith, is.stop, hashes_most x.locator is.few is.locator, length-append (list_text hash_text x.locator) x.stop.0)

-- ---- reading takes memory where a count isn't 0

bad : BadBool ≢ Memory
bad e = absurd cc

many : TooMany ≢ Memory
many e = absurd cc

short : Truncated ≢ Memory
short e = absurd cc

unpaid_limited : (most size : ℕ) (bytes : List ℕ) → IsUnpaid (limited_at most size bytes)
unfolding limited_at
unpaid_limited most size bytes =
    unpaid_then (compact_at bytes) _ (unpaid_compact bytes) (λ n. unpaid_cond (ltb most n.0) _ _ many (unpaid_cond (ltb (length n.1) (n.0 * size)) _ _ short tt))

pub limited_paid : (most size : ℕ) (bytes : List ℕ) (fault : Fault) → limited_at most size bytes ≡ Err fault → fault ≡ Memory → ⊥
limited_paid most size bytes fault e memory = never_memory (limited_at most size bytes) (unpaid_limited most size bytes) (e ∙ ap Err memory)

count_some : {A : Type 0} (count : ℕ) (r : Result A Fault) (fault : Fault) → r ≡ Err fault → (count ≡ 0 → IsOk r) → 0 < count
count_some zero r fault e paid = absurd (let z : false ≡ true = subst IsOk e (paid refl) in cc)
count_some (suc n) r fault e paid = omega arith

-- where items couldn't be read for want of memory, their count isn't 0
pub some_count : {A : Type 0} (most width size : ℕ) (bytes : List ℕ) (count : ℕ) (after : List ℕ) (r : Result A Fault) (fault : Fault) → size ≡ width → limited_at most size bytes ≡ Ok (count, after)
    → r ≡ Err fault → (count ≡ 0 → IsOk r) → CountsSome most width bytes
some_count most width size bytes count after r fault same e fails paid =
    ((count, after), subst (λ (n : ℕ). limited_at most n bytes ≡ Ok (count, after)) same e, count_some count r fault fails paid)

-- a count that isn't 0 stands behind the version
pub request_takes_memory : (bytes : List ℕ) (version : ℕ) (after : List ℕ) → number_at w32 bytes ≡ Ok (version, after) → CountsSome 101 32 after → TakesMemory bytes
unfolding request_count_at
request_takes_memory bytes version after e h = (h.0, ap (λ (r : Read ℕ). r >>= λ v. limited_at 101 32 v.1) e ∙ h.1, h.2)

pub hash_is_unpaid : (bytes : List ℕ) (fault : Fault) → hash_at bytes ≡ Err fault → fault ≡ Memory → ⊥
hash_is_unpaid bytes fault e memory = never_memory (hash_at bytes) (unpaid_hash bytes) (e ∙ ap Err memory)

unpaid_relay : (bytes : List ℕ) → IsUnpaid (compact_relay_at bytes)
unfolding compact_relay_at flag_at
unpaid_relay bytes =
    unpaid_then (flag_at bytes) _ (unpaid_then (number_at w8 bytes) _ (unpaid_number w8 bytes) (λ n. unpaid_cond (eqb n.0 0) _ _ tt (unpaid_cond (eqb n.0 1) _ _ tt bad))) (λ flag.
    unpaid_then (number_at w64 flag.1) _ (unpaid_number w64 flag.1) (λ version. tt))

pub relay_is_unpaid : (bytes : List ℕ) (fault : Fault) → compact_relay_at bytes ≡ Err fault → fault ≡ Memory → ⊥
relay_is_unpaid bytes fault e memory = never_memory (compact_relay_at bytes) (unpaid_relay bytes) (e ∙ ap Err memory)
