-- Entries that can come in turn, and what they make of what is known of connections.
use Rattle.std.proofs.Common.{◌≡◌, ◌∙◌, ℕ, ◌+◌, ◌<◌, List, [], ◌∷◌, ◌++◌, length, drop, get_or, Option, ap, subst, sym}
use Rattle.std.specs.List.{fold}
use Rattle.std.proofs.lemmas.List.{drop_more}
use Rattle.cb_hall.specs.declared.answer.Answer.{Answer}
use Rattle.cb_hall.specs.declared.entry.Entry.{Entry}
use Rattle.cb_hall.specs.Connections.{Slots}
use Rattle.cb_hall.specs.Journal.{IsPast}
use Rattle.cb_hall.specs.Replica.{AreFit, IsFit, Leads, ReplicaState, Steps, slots_after}
use Rattle.cb_hall.proofs.Leading.{step_fit, step_slots}

-- ---- one list behind another

pub fit_then : (connections : Slots) (first next : List Entry) → AreFit connections first → AreFit (fold slots_after connections first) next → AreFit connections (first ++ next)
fit_then connections [] next are rest = rest
fit_then connections (entry ∷ first) next (is, are) rest = (is, fit_then (slots_after connections entry) first next are rest)

pub fit_parts : (connections : Slots) (first next : List Entry) → AreFit connections (first ++ next) → AreFit connections first × AreFit (fold slots_after connections first) next
fit_parts connections [] next are = (tt, are)
fit_parts connections (entry ∷ first) next (is, are) = let parts = fit_parts (slots_after connections entry) first next are in ((is, parts.0), parts.1)

pub fit_more : (connections : Slots) (entries : List Entry) (entry : Entry) → AreFit connections entries → IsFit (fold slots_after connections entries) entry
    → AreFit connections (entries ++ entry ∷ [])
fit_more connections entries entry are is = fit_then connections entries (entry ∷ []) are (is, tt)

-- ---- what leads on

-- where one more was noted, the others can come
pub fit_rest : (old new : ReplicaState) (entry : Entry) (entries : List Entry) (told : Option Answer) → AreFit old.connections (entry ∷ entries) → Steps old entry told new
    → AreFit new.connections entries
fit_rest old new entry entries told are step = subst (λ (s : Slots). AreFit s entries) (sym (step_slots old new entry told step)) are.1

-- what led on could come, and each entry made its own of what was known
pub leads_slots : (old new : ReplicaState) (entries : List Entry) (told : List Answer) → Leads old entries told new → new.connections ≡ fold slots_after old.connections entries
leads_slots old new [] told h = ap (λ (s : ReplicaState). s.connections) h.1
leads_slots old new (entry ∷ entries) told (said, next, others, step, all, rest) =
    leads_slots next new entries others rest ∙ ap (λ (s : Slots). fold slots_after s entries) (step_slots old next entry said step)

pub leads_fit : (old new : ReplicaState) (entries : List Entry) (told : List Answer) → Leads old entries told new → AreFit old.connections entries
leads_fit old new [] told h = tt
leads_fit old new (entry ∷ entries) told (said, next, others, step, all, rest) =
    (step_fit old next entry said step, subst (λ (s : Slots). AreFit s entries) (step_slots old next entry said step) (leads_fit next new entries others rest))

pub past_slots : (base latest : ReplicaState) (entries : List Entry) → IsPast base entries latest → latest.connections ≡ fold slots_after base.connections entries
past_slots base latest entries past = leads_slots base latest entries past.answers past.since

pub past_fit : (base latest : ReplicaState) (entries : List Entry) → IsPast base entries latest → AreFit base.connections entries
past_fit base latest entries past = leads_fit base latest entries past.answers past.since

-- ---- by the place in a list

at_place : (connections : Slots) (items : List Entry) (k : ℕ) (none : Entry) → AreFit connections (drop k items) → k < length items
    → AreFit connections (get_or items k none ∷ drop (k + 1) items)
at_place connections items k none are low = subst (λ (left : List Entry). AreFit connections left) (drop_more items k none low) are

pub fit_at : (connections : Slots) (items : List Entry) (k : ℕ) (none item : Entry) → AreFit connections (drop k items) → k < length items → item ≡ get_or items k none → IsFit connections item
fit_at connections items k none item are low is = subst (λ (e : Entry). IsFit connections e) (sym is) (let split = at_place connections items k none are low in split.0)

pub fit_behind : (old new : ReplicaState) (items : List Entry) (k : ℕ) (none item : Entry) (told : Option Answer) → AreFit old.connections (drop k items) → k < length items
    → item ≡ get_or items k none → Steps old item told new → AreFit new.connections (drop (k + 1) items)
fit_behind old new items k none item told are low is step =
    fit_rest old new (get_or items k none) (drop (k + 1) items) told (at_place old.connections items k none are low) (subst (λ (e : Entry). Steps old e told new) is step)
