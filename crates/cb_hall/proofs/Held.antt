-- What a hall and its badges count.
use Rattle.std.proofs.Common.{◌≡◌, ◌∙◌, ◌<◌, ℕ, zero, suc, ◌+◌, Bool, true, false, List, [], ◌∷◌, ◌++◌, length, get_or, Option, None, Some, refl, sym, ap, subst, inl, inr, arith}
use Rattle.std.specs.Prelude.{◌⊎◌, ◌≢◌, slice_get}
use Rattle.std.specs.Option.{option_map_or}
use Rattle.std.proofs.lemmas.List.{get_or-replicate}
use Rattle.std.proofs.lemmas.Option.{slice_get-get_or}
use Rattle.cb_hall.specs.declared.answer.Answer.{Answer}
use Rattle.cb_hall.specs.declared.connections.Connected.{Connected}
use Rattle.cb_hall.specs.declared.entry.Entry.{Entry}
use Rattle.cb_hall.specs.declared.entry.Entry.TheVariants.{Asked, Kick, Opened, Submitted}
use Rattle.cb_hall.specs.declared.question.Question.{Question}
use Rattle.cb_hall.specs.Connections.{Slots, changed_at, connected_at, connected_of, counted, first_slots, fresh, in_slot, kicked, latest_of, most_peers, opened}
use Rattle.cb_hall.specs.Journal.{JournalState, Notes, new_journal}
use Rattle.cb_hall.specs.Replica.{Leads, ReplicaState, opening, slots_after}
use Rattle.cb_hall.proofs.Slots.{length_first}
use Rattle.cb_hall.specs.Badge.{BadgeState, first_of, fresh_badge}
use Rattle.cb_hall.specs.Hall.{Grants, HasHistory, next_connection}
use Rattle.cb_hall.specs.Laws.{CountsAlike, IsHeld, is_checked, is_first, is_granted, is_opened, is_passed, is_question_of, is_refused}
use Rattle.cb_hall.proofs.Growing.{history_leads}
use Rattle.cb_hall.proofs.Kicks.{after_entry, count_after, does_known, one_if, same_self}
use Rattle.cb_hall.proofs.Lookups.{at_either, found_by}

-- ---- there are as many peers as at first

changed_long : {A : Type 0} (f : A → A) (i : ℕ) (xs : List A) → length (changed_at f i xs) ≡ length xs
unfolding changed_at
changed_long f i [] = refl
changed_long f zero (x ∷ xs) = refl
changed_long f (suc i) (x ∷ xs) = (let rest = changed_long f i xs in omega (arith, rest))

after_long : (slots : Slots) (entry : Entry) → length (slots_after slots entry) ≡ length slots
after_long slots (Asked c question) = changed_long (in_slot counted c.generation) c.peer slots
after_long slots (Kick c) = changed_long (in_slot kicked c.generation) c.peer slots
after_long slots (Opened c) = changed_long opened c.peer slots
after_long slots (Submitted local) = refl

leads_long : (old new : ReplicaState) (calls : List Entry) (answers : List Answer) → Leads old calls answers new → length new.connections ≡ length old.connections
leads_long old new [] answers h = ap (λ (s : ReplicaState). length s.connections) h.1
leads_long old new (entry ∷ calls) answers h =
    leads_long h.1 new calls h.2 h.5 ∙ ap (λ (s : Slots). length s) h.3.does.1 ∙ after_long old.connections entry

-- ---- a connection that was opened

at_end : (slot : List Connected) → connected_at (opened slot) (length slot + 1) ≡ Some fresh
at_end slot =
    let next : length slot + 1 ≡ suc (length slot) = omega arith in
    ap (connected_at (opened slot)) next ∙ last slot
  where
    last : (slot : List Connected) → slice_get (slot ++ fresh ∷ []) (length slot) ≡ Some fresh
    last [] = refl
    last (x ∷ slot) = last slot

opened_at : (slots : Slots) (peer : ℕ) (slot : List Connected)
    → ((peer ≢ peer) × (slice_get (changed_at opened peer slots) peer ≡ Some slot)) ⊎ ((peer ≡ peer) × (slice_get (changed_at opened peer slots) peer ≡ Some (opened slot)))
    → connected_of (changed_at opened peer slots) (record { peer = peer; generation = length slot + 1 }) ≡ Some fresh
opened_at slots peer slot (inl (differ, at)) = absurd (differ refl)
opened_at slots peer slot (inr (same, at)) =
    found_by (changed_at opened peer slots) (record { peer = peer; generation = length slot + 1 }) (opened slot) (Some fresh) at (at_end slot)

opened_there : (slots : Slots) (peer : ℕ) → peer < length slots → connected_of (changed_at opened peer slots) (record { peer = peer; generation = latest_of slots peer + 1 }) ≡ Some fresh
opened_there slots peer low =
    let slot : List Connected = get_or slots peer [] in
    let at : slice_get slots peer ≡ Some slot = slice_get-get_or slots peer [] low in
    let latest : latest_of slots peer ≡ length slot = ap (λ (o : Option (List Connected)). option_map_or length o 0) at in
    ap (λ (g : ℕ). connected_of (changed_at opened peer slots) (record { peer = peer; generation = g + 1 })) latest
    ∙ opened_at slots peer slot (at_either opened slots peer peer slot at)

-- ---- calls

first_counts : (peer : ℕ) → peer < most_peers → CountsAlike new_journal (fresh_badge (first_of peer))
unfolding first_slots
first_counts peer low =
    let at : slice_get first_slots peer ≡ Some (fresh ∷ []) =
    slice_get-get_or first_slots peer [] (omega (arith, low, length_first)) ∙ ap (λ (slot : List Connected). Some slot) (get_or-replicate most_peers peer (fresh ∷ []) [] low) in
    (fresh, found_by first_slots (first_of peer) (fresh ∷ []) (Some fresh) at refl, refl)

opened_counts : (old new : JournalState) (peer : ℕ) (past : List Entry) (answers : List Answer) → HasHistory old past answers → Notes old (Opened (next_connection old peer)) None new
    → CountsAlike new (fresh_badge (next_connection old peer))
opened_counts old new peer past answers history notes =
    let does = notes.steps.does in
    let long : length old.latest.connections ≡ most_peers = leads_long opening old.latest past answers (history_leads old past answers history) ∙ length_first in
    let low : peer < most_peers = does.0.1.0 in
    let is : connected_of (slots_after old.latest.connections (Opened (next_connection old peer))) (next_connection old peer) ≡ Some fresh =
    opened_there old.latest.connections peer (omega (arith, long, low)) in
    (fresh, ap (λ (s : Slots). connected_of s (next_connection old peer)) does.1 ∙ is, refl)

-- one entry more, a question of the badge's connection or not
noted_counts : (old new : JournalState) (badge : BadgeState) (entry : Entry) (told : Option Answer) (b : Bool) → CountsAlike old badge → Notes old entry told new
    → is_question_of badge.connection entry ≡ b
    → (connected : Connected) × (connected_of new.latest.connections badge.connection ≡ Some connected) × (connected.count ≡ badge.count + one_if b)
noted_counts old new badge entry told b (had, is, alike) notes asked =
    let c = badge.connection in
    let known = does_known old.latest.relay new.latest.relay old.latest.connections new.latest.connections entry told c had notes.steps.does is in
    (after_entry c entry had, known, count_after c entry had ∙ ap (λ (n : ℕ). n + one_if (is_question_of c entry)) alike ∙ ap (λ (d : Bool). badge.count + one_if d) asked)

passed_counts : (old new : JournalState) (badge : BadgeState) (entry : Entry) (told : Option Answer) → CountsAlike old badge → is_question_of badge.connection entry ≡ false
    → Notes old entry told new → CountsAlike new badge
passed_counts old new badge entry told alike other notes =
    let more = noted_counts old new badge entry told false alike notes other in
    let count : more.0.count ≡ badge.count + 0 = more.2 in
    (more.0, more.1, omega (arith, count))

granted_counts : (old new : JournalState) (had has : BadgeState) (question : Question) (answer : Answer) → CountsAlike old had → Grants old new had has question answer → CountsAlike new has
granted_counts old new had has question answer alike one =
    let more = noted_counts old new had (Asked had.connection question) (Some answer) true alike one.grows.notes (same_self had.connection) in
    subst (λ (badge : BadgeState). CountsAlike new badge) (sym one.badge) (more.0, more.1, more.2)

pub counts_alike : (hall : JournalState) (badge : BadgeState) → IsHeld hall badge → CountsAlike hall badge
counts_alike hall badge (is_first peer low) = first_counts peer low
counts_alike hall badge (is_opened old new peer past answers history notes) = opened_counts old new peer past answers history notes
counts_alike hall badge (is_granted old new had has question answer held granted) = granted_counts old new had has question answer (counts_alike old had held) granted
counts_alike hall badge (is_refused same other held) = counts_alike same other held
counts_alike hall badge (is_passed old new same entry told held other notes) = passed_counts old new same entry told (counts_alike old same held) other notes
counts_alike hall badge (is_checked same other held) = counts_alike same other held
