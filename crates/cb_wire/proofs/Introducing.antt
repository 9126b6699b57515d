-- A version: what is read is spelled so, what is spelled so is read, and how many bytes its text has.
use Rattle.std.proofs.Common.{◌≡◌, ℕ, ◌+◌, ◌^◌, ◌<◌, ◌≤◌, Bool, true, false, cond, ltb, eqb, not, ◌≢◌, List, [], ◌∷◌, ◌++◌, length, take, drop, Result, Ok, Err, refl, sym, ap, subst, ◌∙◌, append_assoc, arith}
use Rattle.std.specs.Int.{w8, w16, w32, w64, to_le_bytes, to_be_bytes, from_le_bytes, from_be_bytes, cast_unsigned}
use Rattle.std.proofs.lemmas.Bool.{ltb-false, le-ltb}
use Rattle.std.proofs.lemmas.List.{length-append, length-take, take-append-drop}
use Rattle.std.proofs.lemmas.Nat.{be_bytes_2, from_be_bytes-to_be_bytes_2}
use Rattle.cb_base.specs.declared.fault.Fault.{Fault}
use Rattle.cb_base.specs.declared.fault.Fault.TheVariants.{Memory, Truncated, TooMany}
use Rattle.cb_base.specs.CompactSize.{compact_at, compact_text}
use Rattle.cb_base.specs.Reading.{Read, ◌>>=◌, bytes_at, number_at, port_at, signed_at}
use Rattle.cb_base.proofs.Fields.{AreBytes, AreBytes-drop, AreBytes-take, bind_ok, guard_ok, ok_is, Takes, Takes-then, wide64, number_takes, number_again, bytes_take, bytes_again}
use Rattle.cb_base.proofs.Compact.{compact_again}
use Rattle.cb_base.proofs.Unpaid.{IsUnpaid, unpaid_then, unpaid_cond, unpaid_bytes, unpaid_number, unpaid_signed, unpaid_compact, never_memory}
use Rattle.cb_block.specs.TxText.{script_text}
use Rattle.cb_block.specs.TxReading.{script_at}
use Rattle.cb_block.proofs.Loop.{bytes_long}
use Rattle.cb_block.proofs.Parts.{signed32, signed64, signed_takes, signed_again, script_takes}
use Rattle.cb_wire.specs.declared.version.NetAddress.{NetAddress}
use Rattle.cb_wire.specs.declared.version.Version.{Version}
use Rattle.cb_wire.specs.Version.{IsAddress, IsVersion, IsVersionPayload, address_at, address_text, agent_at, agent_text, relay_of, version_at, version_fields, version_text}
use Rattle.cb_wire.proofs.Counting.{compact_most, refused_not}

-- ---- addresses

port_below : (bytes : List ℕ) → AreBytes bytes → from_be_bytes w16 bytes < 2 ^ 16
port_below bytes fits = omega (arith, fits 0, fits 1)

port_takes : (bytes : List ℕ) (n : ℕ) (rest : List ℕ) → AreBytes bytes → port_at bytes ≡ Ok (n, rest) → Takes bytes (to_be_bytes w16 n) rest × (n < 2 ^ 16)
port_takes bytes n rest fits e =
    let g = guard_ok (ltb (length bytes) 2) Truncated (from_be_bytes w16 (take 2 bytes), drop 2 bytes) (n, rest) e in
    let long : 2 ≤ length bytes = ltb-false _ _ g.0 in
    let n-is : from_be_bytes w16 (take 2 bytes) ≡ n = ap (λ (p : ℕ × List ℕ). p.0) g.1 in
    let rest-is : drop 2 bytes ≡ rest = ap (λ (p : ℕ × List ℕ). p.1) g.1 in
    let small = AreBytes-take 2 bytes fits in
    let front : to_be_bytes w16 n ≡ take 2 bytes = be_bytes_2 (take 2 bytes) n (omega (arith, length-take 2 bytes)) small (sym n-is) in
    let parts : bytes ≡ to_be_bytes w16 n ++ rest =
    sym (take-append-drop 2 bytes) ∙ ap (λ (x : List ℕ). x ++ drop 2 bytes) (sym front) ∙ ap (λ (x : List ℕ). to_be_bytes w16 n ++ x) rest-is in
    (record { parts = parts; rest_bytes = subst AreBytes rest-is (AreBytes-drop 2 bytes fits) }, subst (λ (m : ℕ). m < 2 ^ 16) n-is (port_below (take 2 bytes) small))

abbrev given : List ℕ → ℕ → Read ℕ
given rest n = Ok (n, rest)

port_again : (n : ℕ) (rest : List ℕ) → n < 2 ^ 16 → port_at (to_be_bytes w16 n ++ rest) ≡ Ok (n, rest)
port_again n rest lt =
    let long : ltb (length (to_be_bytes w16 n ++ rest)) 2 ≡ false = le-ltb _ _ (omega (arith, length-append (to_be_bytes w16 n) rest)) in
    ap (λ (b : Bool). cond b (Err Truncated) (given rest (from_be_bytes w16 (to_be_bytes w16 n)))) long ∙ ap (given rest) (from_be_bytes-to_be_bytes_2 n lt)

address_takes : (bytes : List ℕ) (x : NetAddress) (rest : List ℕ) → AreBytes bytes → address_at bytes ≡ Ok (x, rest) → Takes bytes (address_text x) rest × IsAddress x
unfolding address_at address_text
address_takes bytes x rest are e =
    let a = bind_ok (number_at w64 bytes) (λ services. bytes_at 16 services.1 >>= λ ip. port_at ip.1 >>= λ port. Ok (record { services = services.0; ip = ip.0; port = port.0 }, port.1)) (x, rest) e in
    let b = bind_ok (bytes_at 16 a.0.1) (λ ip. port_at ip.1 >>= λ port. Ok (record { services = a.0.0; ip = ip.0; port = port.0 }, port.1)) (x, rest) a.2 in
    let c = bind_ok (port_at b.0.1) (λ port. Ok (record { services = a.0.0; ip = b.0.0; port = port.0 }, port.1)) (x, rest) b.2 in
    let t = number_takes w64 (2 ^ 64) wide64 bytes a.0.0 a.0.1 are a.1 in
    let u = bytes_take 16 a.0.1 b.0.0 b.0.1 t.0.rest_bytes b.1 in
    let w = port_takes b.0.1 c.0.0 c.0.1 u.0.rest_bytes c.1 in
    let uw = Takes-then a.0.1 b.0.0 b.0.1 (to_be_bytes w16 c.0.0) c.0.1 u.0 w.0 in
    let tw = Takes-then bytes (to_le_bytes w64 a.0.0) a.0.1 (b.0.0 ++ to_be_bytes w16 c.0.0) c.0.1 t.0 uw in
    let made : NetAddress × List ℕ = (record { services = a.0.0; ip = b.0.0; port = c.0.0 }, c.0.1) in
    let is : IsAddress made.0 = record { services = t.1; ip = u.1; port = w.1 } in
    subst (λ (y : NetAddress × List ℕ). Takes bytes (address_text y.0) y.1 × IsAddress y.0) (ok_is made (x, rest) c.2) (tw, is)

address_again : (x : NetAddress) (rest : List ℕ) → IsAddress x → address_at (address_text x ++ rest) ≡ Ok (x, rest)
unfolding address_at address_text
address_again x rest is =
    let regrouped : address_text x ++ rest ≡ to_le_bytes w64 x.services ++ (x.ip ++ (to_be_bytes w16 x.port ++ rest)) =
    append_assoc (to_le_bytes w64 x.services) (x.ip ++ to_be_bytes w16 x.port) rest ∙ ap (λ (y : List ℕ). to_le_bytes w64 x.services ++ y) (append_assoc x.ip (to_be_bytes w16 x.port) rest) in
    ap address_at regrouped
    ∙ rw (number_again w64 (2 ^ 64) wide64 x.services (x.ip ++ (to_be_bytes w16 x.port ++ rest)) is.services, bytes_again 16 x.ip (to_be_bytes w16 x.port ++ rest) is.ip, port_again x.port rest is.port) refl

address_long : (x : NetAddress) → IsAddress x → length (address_text x) ≡ 26
unfolding address_text
address_long x is = omega (arith, is.ip, length-append x.ip (to_be_bytes w16 x.port))

-- ---- agents

agent_is : (bytes agent rest : List ℕ) → agent_at bytes ≡ Ok (agent, rest) → (script_at bytes ≡ Ok (agent, rest)) × (length agent ≤ 256)
unfolding agent_at script_at
agent_is bytes agent rest e =
    let b = bind_ok (compact_at bytes) (λ n. cond (ltb 256 n.0) (Err TooMany) (bytes_at n.0 n.1)) (agent, rest) e in
    let g = refused_not (ltb 256 b.0.0) TooMany (bytes_at b.0.0 b.0.1) (agent, rest) b.2 in
    let few : b.0.0 ≤ 256 = ltb-false _ _ g.0 in
    (ap (λ (r : Read ℕ). r >>= λ n. bytes_at n.0 n.1) b.1 ∙ g.1, omega (arith, few, bytes_long b.0.0 b.0.1 agent rest g.1))

agent_takes : (bytes agent rest : List ℕ) → AreBytes bytes → agent_at bytes ≡ Ok (agent, rest) → Takes bytes (agent_text agent) rest × (length agent ≤ 256)
unfolding agent_text script_text
agent_takes bytes agent rest are e =
    let i = agent_is bytes agent rest e in
    ((script_takes bytes agent rest are i.0).0, i.1)

agent_again : (agent rest : List ℕ) → length agent ≤ 256 → agent_at (agent_text agent ++ rest) ≡ Ok (agent, rest)
unfolding agent_at agent_text
agent_again agent rest le =
    let fits : ltb 256 (length agent) ≡ false = le-ltb _ _ le in
    ap agent_at (append_assoc (compact_text (length agent)) agent rest)
    ∙ ap (λ (r : Read ℕ). r >>= λ n. cond (ltb 256 n.0) (Err TooMany) (bytes_at n.0 n.1)) (compact_again (length agent) (agent ++ rest) (omega (arith, le)))
    ∙ ap (λ (b : Bool). cond b (Err TooMany) (bytes_at (length agent) (agent ++ rest))) fits
    ∙ bytes_again (length agent) agent rest refl

agent_most : (agent : List ℕ) → length (agent_text agent) ≤ 9 + length agent
unfolding agent_text
agent_most agent = omega (arith, compact_most (length agent), length-append (compact_text (length agent)) agent)

-- ---- the whole

abbrev done : Version → Result Version Fault
done v = Ok v

version_made : (bytes : List ℕ) (made v : Version) (tail : List ℕ) → done made ≡ done v → bytes ≡ version_fields made ++ tail → relay_of tail ≡ made.relay → IsVersion made
    → IsVersionPayload bytes v × IsVersion v
version_made bytes made v tail e fields relay is =
    let payload : IsVersionPayload bytes made = record { tail = tail; fields = fields; relay = relay } in
    subst (λ (x : Version). IsVersionPayload bytes x × IsVersion x) (ok_is made v e) (payload, is)

-- the value and the rest of a read that met no fault, and what was read behind it
read_then : {A B : Type 0} (P : Type 0) (r : Read A) (f : A × List ℕ → Result B Fault) (y : B) → (r >>= f) ≡ Ok y → ((x : A) (rest : List ℕ) → r ≡ Ok (x, rest) → f (x, rest) ≡ Ok y → P) → P
read_then P (Ok x) f y e more = more x.0 x.1 refl e
read_then P (Err fault) f y e more = absurd cc

-- what is read is spelled so
pub version_spells : (bytes : List ℕ) (v : Version) → AreBytes bytes → version_at bytes ≡ Ok v → IsVersionPayload bytes v × IsVersion v
unfolding version_at version_fields
version_spells bytes v are e0 =
    read_then (IsVersionPayload bytes v × IsVersion v) (signed_at w32 bytes) _ v e0 (λ version b1 r1 e1.
    read_then (IsVersionPayload bytes v × IsVersion v) (number_at w64 b1) _ v e1 (λ services b2 r2 e2.
    read_then (IsVersionPayload bytes v × IsVersion v) (signed_at w64 b2) _ v e2 (λ time b3 r3 e3.
    read_then (IsVersionPayload bytes v × IsVersion v) (address_at b3) _ v e3 (λ receiver b4 r4 e4.
    read_then (IsVersionPayload bytes v × IsVersion v) (address_at b4) _ v e4 (λ sender b5 r5 e5.
    read_then (IsVersionPayload bytes v × IsVersion v) (number_at w64 b5) _ v e5 (λ nonce b6 r6 e6.
    read_then (IsVersionPayload bytes v × IsVersion v) (agent_at b6) _ v e6 (λ agent b7 r7 e7.
    read_then (IsVersionPayload bytes v × IsVersion v) (signed_at w32 b7) _ v e7 (λ height b8 r8 e8.
    let t1 = signed_takes w32 (2 ^ 32) signed32 bytes version b1 are r1 in
    let t2 = number_takes w64 (2 ^ 64) wide64 b1 services b2 t1.0.rest_bytes r2 in
    let t3 = signed_takes w64 (2 ^ 64) signed64 b2 time b3 t2.0.rest_bytes r3 in
    let t4 = address_takes b3 receiver b4 t3.0.rest_bytes r4 in
    let t5 = address_takes b4 sender b5 t4.0.rest_bytes r5 in
    let t6 = number_takes w64 (2 ^ 64) wide64 b5 nonce b6 t5.0.rest_bytes r6 in
    let t7 = agent_takes b6 agent b7 t6.0.rest_bytes r7 in
    let t8 = signed_takes w32 (2 ^ 32) signed32 b7 height b8 t7.0.rest_bytes r8 in
    let j7 = Takes-then b6 (agent_text agent) b7 (to_le_bytes w32 (cast_unsigned w32 height)) b8 t7.0 t8.0 in
    let j6 = Takes-then b5 (to_le_bytes w64 nonce) b6 (agent_text agent ++ to_le_bytes w32 (cast_unsigned w32 height)) b8 t6.0 j7 in
    let j5 = Takes-then b4 (address_text sender) b5 (to_le_bytes w64 nonce ++ (agent_text agent ++ to_le_bytes w32 (cast_unsigned w32 height))) b8 t5.0 j6 in
    let j4 = Takes-then b3 (address_text receiver) b4 (address_text sender ++ (to_le_bytes w64 nonce ++ (agent_text agent ++ to_le_bytes w32 (cast_unsigned w32 height)))) b8 t4.0 j5 in
    let j3 = Takes-then b2 (to_le_bytes w64 (cast_unsigned w64 time)) b3 (address_text receiver ++ (address_text sender ++ (to_le_bytes w64 nonce ++ (agent_text agent ++ to_le_bytes w32 (cast_unsigned w32 height))))) b8 t3.0 j4 in
    let j2 = Takes-then b1 (to_le_bytes w64 services) b2 (to_le_bytes w64 (cast_unsigned w64 time) ++ (address_text receiver ++ (address_text sender ++ (to_le_bytes w64 nonce ++ (agent_text agent ++ to_le_bytes w32 (cast_unsigned w32 height)))))) b8 t2.0 j3 in
    let j1 = Takes-then bytes (to_le_bytes w32 (cast_unsigned w32 version)) b1 (to_le_bytes w64 services ++ (to_le_bytes w64 (cast_unsigned w64 time) ++ (address_text receiver ++ (address_text sender ++ (to_le_bytes w64 nonce ++ (agent_text agent ++ to_le_bytes w32 (cast_unsigned w32 height))))))) b8 t1.0 j2 in
    version_made bytes (record { version = version; services = services; time = time; receiver = receiver; sender = sender; nonce = nonce; agent = agent; height = height; relay = relay_of b8 }) v b8 e8 j1.parts refl
    (record { version = t1.1; services = t2.1; time = t3.1; receiver = t4.1; sender = t5.1; nonce = t6.1; agent = t7.1; height = t8.1 })))))))))

version_again : (v : Version) (tail : List ℕ) → IsVersion v → version_at (version_fields v ++ tail) ≡ Ok (record { version = v.version; services = v.services; time = v.time; receiver = v.receiver; sender = v.sender; nonce = v.nonce; agent = v.agent; height = v.height; relay = relay_of tail })
unfolding version_at version_fields
version_again v tail is =
    let x7 = to_le_bytes w32 (cast_unsigned w32 v.height) ++ tail in
    let x6 = agent_text v.agent ++ x7 in
    let x5 = to_le_bytes w64 v.nonce ++ x6 in
    let x4 = address_text v.sender ++ x5 in
    let x3 = address_text v.receiver ++ x4 in
    let x2 = to_le_bytes w64 (cast_unsigned w64 v.time) ++ x3 in
    let x1 = to_le_bytes w64 v.services ++ x2 in
    let regrouped : version_fields v ++ tail ≡ to_le_bytes w32 (cast_unsigned w32 v.version) ++ x1 =
    append_assoc (to_le_bytes w32 (cast_unsigned w32 v.version)) (to_le_bytes w64 v.services ++ (to_le_bytes w64 (cast_unsigned w64 v.time) ++ (address_text v.receiver ++ (address_text v.sender ++ (to_le_bytes w64 v.nonce ++ (agent_text v.agent ++ to_le_bytes w32 (cast_unsigned w32 v.height))))))) tail ∙ ap (λ (y : List ℕ). to_le_bytes w32 (cast_unsigned w32 v.version) ++ y) (append_assoc (to_le_bytes w64 v.services) (to_le_bytes w64 (cast_unsigned w64 v.time) ++ (address_text v.receiver ++ (address_text v.sender ++ (to_le_bytes w64 v.nonce ++ (agent_text v.agent ++ to_le_bytes w32 (cast_unsigned w32 v.height)))))) tail ∙ ap (λ (y : List ℕ). to_le_bytes w64 v.services ++ y) (append_assoc (to_le_bytes w64 (cast_unsigned w64 v.time)) (address_text v.receiver ++ (address_text v.sender ++ (to_le_bytes w64 v.nonce ++ (agent_text v.agent ++ to_le_bytes w32 (cast_unsigned w32 v.height))))) tail ∙ ap (λ (y : List ℕ). to_le_bytes w64 (cast_unsigned w64 v.time) ++ y) (append_assoc (address_text v.receiver) (address_text v.sender ++ (to_le_bytes w64 v.nonce ++ (agent_text v.agent ++ to_le_bytes w32 (cast_unsigned w32 v.height)))) tail ∙ ap (λ (y : List ℕ). address_text v.receiver ++ y) (append_assoc (address_text v.sender) (to_le_bytes w64 v.nonce ++ (agent_text v.agent ++ to_le_bytes w32 (cast_unsigned w32 v.height))) tail ∙ ap (λ (y : List ℕ). address_text v.sender ++ y) (append_assoc (to_le_bytes w64 v.nonce) (agent_text v.agent ++ to_le_bytes w32 (cast_unsigned w32 v.height)) tail ∙ ap (λ (y : List ℕ). to_le_bytes w64 v.nonce ++ y) (append_assoc (agent_text v.agent) (to_le_bytes w32 (cast_unsigned w32 v.height)) tail)))))) in
    ap version_at regrouped
    ∙ rw (signed_again w32 (2 ^ 32) signed32 v.version x1 is.version, number_again w64 (2 ^ 64) wide64 v.services x2 is.services, signed_again w64 (2 ^ 64) signed64 v.time x3 is.time, address_again v.receiver x4 is.receiver, address_again v.sender x5 is.sender, number_again w64 (2 ^ 64) wide64 v.nonce x6 is.nonce, agent_again v.agent x7 is.agent, signed_again w32 (2 ^ 32) signed32 v.height tail is.height) refl

-- what is spelled so is read
pub version_read : (bytes : List ℕ) (v : Version) → IsVersion v → IsVersionPayload bytes v → version_at bytes ≡ Ok v
version_read bytes v is p =
    ap version_at p.fields
    ∙ version_again v p.tail is
    ∙ ap (λ (relay : Bool). Ok (record { version = v.version; services = v.services; time = v.time; receiver = v.receiver; sender = v.sender; nonce = v.nonce; agent = v.agent; height = v.height; relay = relay })) p.relay

regrouped : (o a b c r s f g h t : List ℕ) → ((((o ++ (a ++ (b ++ c))) ++ r) ++ s) ++ (f ++ (g ++ h))) ++ t ≡ o ++ ((a ++ (b ++ (c ++ (r ++ (s ++ (f ++ (g ++ h))))))) ++ t)
regrouped o a b c r s f g h t = simp append_assoc

pub three_written : (o a b c p q r x y z : List ℕ) → a ≡ o ++ p → b ≡ a ++ q → c ≡ b ++ r → p ≡ x → q ≡ y → r ≡ z → c ≡ o ++ (x ++ (y ++ z))
three_written o a b c p q r x y z ea eb ec ep eq er =
    let parts : c ≡ ((o ++ p) ++ q) ++ r = ec ∙ ap (λ (l : List ℕ). l ++ r) (eb ∙ ap (λ (l : List ℕ). l ++ q) ea) in
    let grouped : ((o ++ p) ++ q) ++ r ≡ o ++ (p ++ (q ++ r)) = simp append_assoc in
    parts ∙ grouped ∙ ap (λ (l : List ℕ). o ++ (l ++ (q ++ r))) ep ∙ ap (λ (l : List ℕ). o ++ (x ++ (l ++ r))) eq ∙ ap (λ (l : List ℕ). o ++ (x ++ (y ++ l))) er

-- the parts of a version that were put behind one another are its text
pub version_written : (v : Version) (o a b d e f : List ℕ) (byte : ℕ)
    → a ≡ o ++ (to_le_bytes w32 (cast_unsigned w32 v.version) ++ (to_le_bytes w64 v.services ++ to_le_bytes w64 (cast_unsigned w64 v.time)))
    → b ≡ a ++ address_text v.receiver → d ≡ b ++ address_text v.sender
    → e ≡ d ++ (to_le_bytes w64 v.nonce ++ (agent_text v.agent ++ to_le_bytes w32 (cast_unsigned w32 v.height)))
    → f ≡ e ++ byte ∷ [] → byte ≡ cond v.relay 1 0 → f ≡ o ++ version_text v
unfolding version_text version_fields
version_written v o a b d e f byte ea eb ed ee ef is =
    let tail = to_le_bytes w64 v.nonce ++ (agent_text v.agent ++ to_le_bytes w32 (cast_unsigned w32 v.height)) in
    ef ∙ ap (λ (l : List ℕ). l ++ byte ∷ []) (ee ∙ ap (λ (l : List ℕ). l ++ tail) (ed ∙ ap (λ (l : List ℕ). l ++ address_text v.sender) (eb ∙ ap (λ (l : List ℕ). l ++ address_text v.receiver) ea)))
    ∙ regrouped o (to_le_bytes w32 (cast_unsigned w32 v.version)) (to_le_bytes w64 v.services) (to_le_bytes w64 (cast_unsigned w64 v.time)) (address_text v.receiver) (address_text v.sender) (to_le_bytes w64 v.nonce) (agent_text v.agent) (to_le_bytes w32 (cast_unsigned w32 v.height)) (byte ∷ [])
    ∙ ap (λ (n : ℕ). o ++ (version_fields v ++ n ∷ [])) is

relay_is : (relay : Bool) → relay_of (cond relay 1 0 ∷ []) ≡ relay
relay_is true = refl
relay_is false = refl

-- the text is a payload
pub version_text_spells : (v : Version) → IsVersionPayload (version_text v) v
unfolding version_text
version_text_spells v = record { tail = cond v.relay 1 0 ∷ []; fields = refl; relay = relay_is v.relay }

fields_most : (v : Version) → IsVersion v → length (version_fields v) ≤ 349
unfolding version_fields
fields_most v is =
    let height = to_le_bytes w32 (cast_unsigned w32 v.height) in
    let nonce = to_le_bytes w64 v.nonce ++ (agent_text v.agent ++ height) in
    omega (arith, is.agent, address_long v.receiver is.receiver, address_long v.sender is.sender, agent_most v.agent, length-append (address_text v.receiver) (address_text v.sender ++ nonce), length-append (address_text v.sender) nonce, length-append (agent_text v.agent) height)

pub version_most : (v : Version) → IsVersion v → length (version_text v) ≤ 350
unfolding version_text
version_most v is = omega (arith, fields_most v is, length-append (version_fields v) (cond v.relay 1 0 ∷ []))

-- ---- the relay byte

pub relay_there : (bytes : List ℕ) (byte : ℕ) (rest : List ℕ) → number_at w8 bytes ≡ Ok (byte, rest) → relay_of bytes ≡ not (eqb byte 0)
relay_there [] byte rest e = absurd cc
relay_there (first ∷ bytes) byte rest e =
    let g = guard_ok (ltb (length (first ∷ bytes)) 1) Truncated (from_le_bytes w8 (take 1 (first ∷ bytes)), drop 1 (first ∷ bytes)) (byte, rest) e in
    ap (λ (p : ℕ × List ℕ). not (eqb p.0 0)) g.1

pub relay_absent : (bytes : List ℕ) (fault : Fault) → number_at w8 bytes ≡ Err fault → relay_of bytes ≡ true
relay_absent [] fault e = refl
relay_absent (first ∷ bytes) fault e =
    let long : ltb (length (first ∷ bytes)) 1 ≡ false = le-ltb _ _ (omega arith) in
    let there : given bytes first ≡ Err fault = ap (λ (b : Bool). cond b (Err Truncated) (given bytes first)) (sym long) ∙ e in
    absurd cc

-- ---- reading takes memory for the agent alone

many : TooMany ≢ Memory
many e = absurd cc

short : Truncated ≢ Memory
short e = absurd cc

unpaid_address : (bytes : List ℕ) → IsUnpaid (address_at bytes)
unfolding address_at
unpaid_address bytes =
    unpaid_then (number_at w64 bytes) _ (unpaid_number w64 bytes) (λ services.
    unpaid_then (bytes_at 16 services.1) _ (unpaid_bytes 16 services.1) (λ ip.
    unpaid_then (port_at ip.1) _ (unpaid_cond (ltb (length ip.1) 2) _ _ short tt) (λ port. tt)))

unpaid_agent : (bytes : List ℕ) → IsUnpaid (agent_at bytes)
unfolding agent_at
unpaid_agent bytes = unpaid_then (compact_at bytes) _ (unpaid_compact bytes) (λ n. unpaid_cond (ltb 256 n.0) _ _ many (unpaid_bytes n.0 n.1))

unpaid_version : (bytes : List ℕ) → IsUnpaid (version_at bytes)
unfolding version_at
unpaid_version bytes =
    unpaid_then (signed_at w32 bytes) _ (unpaid_signed w32 bytes) (λ version.
    unpaid_then (number_at w64 version.1) _ (unpaid_number w64 version.1) (λ services.
    unpaid_then (signed_at w64 services.1) _ (unpaid_signed w64 services.1) (λ time.
    unpaid_then (address_at time.1) _ (unpaid_address time.1) (λ receiver.
    unpaid_then (address_at receiver.1) _ (unpaid_address receiver.1) (λ sender.
    unpaid_then (number_at w64 sender.1) _ (unpaid_number w64 sender.1) (λ nonce.
    unpaid_then (agent_at nonce.1) _ (unpaid_agent nonce.1) (λ agent.
    unpaid_then (signed_at w32 agent.1) _ (unpaid_signed w32 agent.1) (λ height. tt))))))))

pub version_is_unpaid : (bytes : List ℕ) (fault : Fault) → version_at bytes ≡ Err fault → fault ≡ Memory → ⊥
version_is_unpaid bytes fault e memory = never_memory (version_at bytes) (unpaid_version bytes) (e ∙ ap Err memory)
