-- The announcers: at most three, and all different.
use Rattle.std.proofs.Common.{◌≡◌, ◌∙◌, ◌≤◌, ℕ, zero, suc, ◌+◌, ◌-◌, Bool, true, false, ◌||◌, not, List, [], ◌∷◌, ◌++◌, length, drop, Option, None, Some, refl, sym, ap, subst, inl, inr, arith, nat_eq}
use Rattle.std.specs.Prelude.{filter}
use Rattle.std.proofs.lemmas.Bool.{cases_Bool, false≢true}
use Rattle.std.proofs.lemmas.List.{length-drop}
use Rattle.cb_base.specs.declared.fault.Fault.{Fault}
use Rattle.cb_block.specs.declared.tx.Tx.{Tx}
use Rattle.cb_block.specs.declared.block.Block.{Block}
use Rattle.cb_state.specs.declared.connection.Connection.{Connection}
use Rattle.cb_state.specs.declared.accepting.Taken.{Taken}
use Rattle.cb_state.specs.Accepting.{TakesBlock, TakesTx, announcers_after, became_tip}
use Rattle.cb_state.specs.Announcers.{is_among, last_three, same_connection, with_announcer, without, without_peer}
use Rattle.cb_state.specs.State.{RelayState}
use Rattle.cb_hall.specs.declared.answer.Answer.{Answer}
use Rattle.cb_hall.specs.declared.entry.Entry.{Entry}
use Rattle.cb_hall.specs.declared.entry.Entry.TheVariants.{Asked, Kick, Opened, Submitted}
use Rattle.cb_hall.specs.declared.entry.Local.TheVariants as local
use Rattle.cb_hall.specs.declared.question.Question.{Question}
use Rattle.cb_hall.specs.declared.question.Question.TheVariants as ask
use Rattle.cb_hall.specs.Connections.{Slots, is_kicked}
use Rattle.cb_hall.specs.Journal.{JournalState}
use Rattle.cb_hall.specs.Replica.{Leads, ReplicaState, Tells, opening}
use Rattle.cb_hall.specs.Replies.{Answers, Replies, giver}
use Rattle.cb_hall.specs.Hall.{HasHistory}
use Rattle.cb_hall.specs.Laws.{AreApart}
use Rattle.cb_hall.proofs.Growing.{history_leads}
use Rattle.cb_hall.proofs.Lookups.{is_same}

record AreAnnouncers (announcers : List Connection) : Type 0 where
  pub few : length announcers ≤ 3
  pub apart : AreApart announcers

-- ---- lists of connections

neither : (a b : Bool) → (a || b) ≡ false → (a ≡ false) × (b ≡ false)
neither true b e = absurd (false≢true (sym e))
neither false b e = (refl, e)

none_of : (a b : Bool) → a ≡ false → b ≡ false → (a || b) ≡ false
none_of true b e f = absurd (false≢true (sym e))
none_of false b e f = f

differ_both : (a b : Connection) → same_connection a b ≡ false → same_connection b a ≡ false
differ_both a b differ =
    elim (cases_Bool (same_connection b a)) [
      | inl same ↦
          let one : b ≡ a = is_same b a same in
          let turned : same_connection a b ≡ same_connection b a = ap (λ (c : Connection). same_connection a c) one ∙ sym (ap (λ (c : Connection). same_connection c a) one) in
          absurd (false≢true (sym differ ∙ turned ∙ same))
      | inr other ↦ other
    ]

lacks_filtered : (keeps : Connection → Bool) (xs : List Connection) (c : Connection) → is_among xs c ≡ false → is_among (filter keeps xs) c ≡ false
lacks_filtered keeps [] c lacks = lacks
lacks_filtered keeps (x ∷ xs) c lacks =
    let parts = neither (same_connection x c) (is_among xs c) lacks in
    elim (cases_Bool (keeps x)) [
      | inl is ↦ rw is (none_of (same_connection x c) (is_among (filter keeps xs) c) parts.0 (lacks_filtered keeps xs c parts.1))
      | inr isnt ↦ rw isnt (lacks_filtered keeps xs c parts.1)
    ]

apart_filtered : (keeps : Connection → Bool) (xs : List Connection) → AreApart xs → AreApart (filter keeps xs)
apart_filtered keeps [] are = are
apart_filtered keeps (x ∷ xs) are =
    elim (cases_Bool (keeps x)) [
      | inl is ↦ rw is (lacks_filtered keeps xs x are.0, apart_filtered keeps xs are.1)
      | inr isnt ↦ rw isnt (apart_filtered keeps xs are.1)
    ]

few_filtered : (keeps : Connection → Bool) (xs : List Connection) → length (filter keeps xs) ≤ length xs
few_filtered keeps [] = omega arith
few_filtered keeps (x ∷ xs) =
    let few = few_filtered keeps xs in
    elim (cases_Bool (keeps x)) [
      | inl is ↦ rw is (omega (arith, few))
      | inr isnt ↦ rw isnt (omega (arith, few))
    ]

lacks_last : (xs : List Connection) (c other : Connection) → is_among xs other ≡ false → same_connection c other ≡ false → is_among (xs ++ c ∷ []) other ≡ false
lacks_last [] c other lacks differs = none_of (same_connection c other) false differs refl
lacks_last (x ∷ xs) c other lacks differs =
    let parts = neither (same_connection x other) (is_among xs other) lacks in
    none_of (same_connection x other) (is_among (xs ++ c ∷ []) other) parts.0 (lacks_last xs c other parts.1 differs)

apart_last : (xs : List Connection) (c : Connection) → AreApart xs → is_among xs c ≡ false → AreApart (xs ++ c ∷ [])
apart_last [] c are lacks = (refl, tt)
apart_last (x ∷ xs) c are lacks =
    let parts = neither (same_connection x c) (is_among xs c) lacks in
    (lacks_last xs c x are.0 (differ_both x c parts.0), apart_last xs c are.1 parts.1)

apart_dropped : (n : ℕ) (xs : List Connection) → AreApart xs → AreApart (drop n xs)
apart_dropped zero xs are = are
apart_dropped (suc n) [] are = are
apart_dropped (suc n) (x ∷ xs) are = apart_dropped n xs are.1

lacks_itself : (xs : List Connection) (c : Connection) → is_among (without xs c) c ≡ false
lacks_itself [] c = refl
lacks_itself (x ∷ xs) c =
    elim (cases_Bool (same_connection x c)) [
      | inl is ↦ rw is (lacks_itself xs c)
      | inr isnt ↦ rw isnt (none_of (same_connection x c) (is_among (without xs c) c) isnt (lacks_itself xs c))
    ]

last_few : (xs : List Connection) → length (last_three xs) ≤ 3
last_few xs =
    let short : length (drop (length xs - 3) xs) ≡ length xs - (length xs - 3) = length-drop (length xs - 3) xs in
    omega (arith, short)

-- ---- one entry

with_last : (xs : List Connection) (c : Connection) → AreAnnouncers xs → AreAnnouncers (with_announcer xs c)
with_last xs c are =
    record {
      few = last_few (without xs c ++ c ∷ []);
      apart =
          apart_dropped (length (without xs c ++ c ∷ []) - 3) (without xs c ++ c ∷ [])
          (apart_last (without xs c) c (apart_filtered (λ other. not (same_connection other c)) xs are.apart) (lacks_itself xs c));
    }

rewarded : (xs : List Connection) (became : Bool) (from : Option Connection) → AreAnnouncers xs → AreAnnouncers (announcers_after xs became from)
rewarded xs true (Some c) are = with_last xs c are
rewarded xs true None are = are
rewarded xs false from are = are

left : (xs : List Connection) (peer : ℕ) → AreAnnouncers xs → AreAnnouncers (without_peer xs peer)
left xs peer are =
    let keeps = λ (other : Connection). not (nat_eq other.peer peer) in
    record { few = omega (arith, few_filtered keeps xs, are.few); apart = apart_filtered keeps xs are.apart }

unchanged : (old new : RelayState) → new.announcers ≡ old.announcers → AreAnnouncers old.announcers → AreAnnouncers new.announcers
unchanged old new same are = subst AreAnnouncers (sym same) are

alike : (old new : RelayState) → new ≡ old → AreAnnouncers old.announcers → AreAnnouncers new.announcers
alike old new same are = unchanged old new (ap (λ (s : RelayState). s.announcers) same) are

by_block : (old new : RelayState) (block : Block) (from : Option Connection) (taken : Taken) → TakesBlock old block from taken new → AreAnnouncers old.announcers → AreAnnouncers new.announcers
by_block old new block from taken takes are = subst AreAnnouncers (sym takes.announcers) (rewarded old.announcers (became_tip takes.answer) from are)

by_tx : (old new : RelayState) (tx : Tx) (refused : Option Fault) → TakesTx old tx refused new → AreAnnouncers old.announcers → AreAnnouncers new.announcers
by_tx old new tx None takes are = unchanged old new (ap (λ (s : RelayState). s.announcers) takes.2.1) are
by_tx old new tx (Some fault) takes are = alike old new takes.2.1 are

by_answer : (old new : RelayState) (c : Connection) (question : Question) (answer : Answer) → Answers old c question answer new → AreAnnouncers old.announcers → AreAnnouncers new.announcers
by_answer old new c ask.Admit answer h are = alike old new h.1 are
by_answer old new c (ask.Headers headers) answer h are = unchanged old new h.2.announcers are
by_answer old new c ask.Locator answer h are = alike old new h.1 are
by_answer old new c (ask.Want entries) answer h are = alike old new h.3 are
by_answer old new c (ask.GiveTx tx) answer h are = by_tx old new tx h.0 h.2 are
by_answer old new c (ask.GiveBlock given) answer h are = by_block old new given.block (giver c given) h.0 h.2 are
by_answer old new c (ask.Serve request) answer h are = alike old new h.1 are
by_answer old new c (ask.News since) answer h are = alike old new h.3 are
by_answer old new c (ask.Match sought) answer h are = alike old new h.1 are

by_reply : (b : Bool) (old new : RelayState) (c : Connection) (question : Question) (answer : Answer) → Replies b old c question answer new → AreAnnouncers old.announcers → AreAnnouncers new.announcers
by_reply true old new c question answer h are = alike old new h.1 are
by_reply false old new c question answer h are = by_answer old new c question answer h are

by_entry : (old new : RelayState) (slots : Slots) (entry : Entry) (told : Option Answer) → Tells old slots entry told new → AreAnnouncers old.announcers → AreAnnouncers new.announcers
by_entry old new slots (Asked c question) told h are = by_reply (is_kicked slots c) old new c question h.0 h.2 are
by_entry old new slots (Kick c) told h are = alike old new h.1 are
by_entry old new slots (Opened c) told h are =
    unchanged (record old { announcers = without_peer old.announcers c.peer }) new (ap (λ (s : RelayState). s.announcers) h.2) (left old.announcers c.peer are)
by_entry old new slots (Submitted (local.Tx tx)) told h are = by_tx old new tx h.2.0 h.2.2 are
by_entry old new slots (Submitted (local.Block block)) told h are = by_block old new block None h.2.0 h.2.2 are
by_entry old new slots (Submitted (local.Header header)) told h are = unchanged old new h.2.2.announcers are

by_calls : (old new : ReplicaState) (calls : List Entry) (answers : List Answer) → Leads old calls answers new → AreAnnouncers old.relay.announcers → AreAnnouncers new.relay.announcers
by_calls old new [] answers h are = alike old.relay new.relay (ap (λ (s : ReplicaState). s.relay) h.1) are
by_calls old new (entry ∷ calls) answers h are = by_calls h.1 new calls h.2 h.5 (by_entry old.relay h.1.relay old.connections entry h.0 h.3.does.0 are)

announcing : (hall : JournalState) (past : List Entry) (answers : List Answer) → HasHistory hall past answers → AreAnnouncers hall.latest.relay.announcers
announcing hall past answers history = by_calls opening hall.latest past answers (history_leads hall past answers history) (record { few = omega arith; apart = tt })

pub are_few : (hall : JournalState) (past : List Entry) (answers : List Answer) → HasHistory hall past answers → length hall.latest.relay.announcers ≤ 3
are_few hall past answers history = (announcing hall past answers history).few

pub are_apart : (hall : JournalState) (past : List Entry) (answers : List Answer) → HasHistory hall past answers → AreApart hall.latest.relay.announcers
are_apart hall past answers history = (announcing hall past answers history).apart
