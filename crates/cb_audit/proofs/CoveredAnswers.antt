-- How many answers were compared, and how many were dropped before.
use Rattle.std.proofs.Common.{◌≡◌, ◌∙◌, ℕ, suc, ◌+◌, ◌-◌, ◌<◌, ◌≤◌, max, Bool, List, [], ◌∷◌, ◌++◌, length, drop, Option, None, Some, Result, Ok, Err, IfOk, ◌⊎◌, inl, inr, take, get_or, refl, sym, ap, subst, arith}
use Rattle.std.specs.Prelude.{filter, slice_get}
use Rattle.std.specs.List.{sum_by}
use Rattle.std.specs.Option.{option_map_or}
use Rattle.std.proofs.lemmas.List.{length-append, length-drop}
use Rattle.std.proofs.lemmas.List.Elements.{filter-append}
use Rattle.std.proofs.lemmas.List.Sums.{sum_by-cons, sum_by_push}
use Rattle.std.proofs.lemmas.Option.{slice_get_past, slice_get_read}
use Rattle.cb_state.specs.declared.connection.Connection.{Connection}
use Rattle.cb_hall.specs.declared.answer.Answer.{Answer}
use Rattle.cb_hall.specs.declared.connections.Connected.{Connected}
use Rattle.cb_hall.specs.declared.entry.Entry.{Entry}
use Rattle.cb_hall.specs.Connections.{Slots, connected_of}
use Rattle.cb_hall.specs.Journal.{JournalState}
use Rattle.cb_hall.specs.Replica.{Leads, ReplicaState}
use Rattle.cb_peer_state.specs.declared.event.Event.{Event}
use Rattle.cb_peer_state.specs.declared.event.Event.TheVariants as events
use Rattle.cb_peer_state.specs.Event.{is_told, kind_of}
use Rattle.cb_trace.specs.declared.trace.Counts.{Counts}
use Rattle.cb_trace.specs.declared.trace.TraceEntry.{TraceEntry}
use Rattle.cb_trace.specs.Fold.{number_of}
use Rattle.cb_trace.specs.Trace.{StandsFor, TraceView, asked_from, base_account}
use Rattle.cb_hall.proofs.Kicks.{counts}
use Rattle.cb_audit.specs.declared.auditing.Split.{Split}
use Rattle.cb_audit.specs.declared.covering.Compared.{Compared}
use Rattle.cb_audit.specs.declared.heard.Difference.{Difference}
use Rattle.cb_audit.specs.Audit.{Answered, Audits}
use Rattle.cb_audit.specs.Comparing.{Agrees, Seen, first_place, journal_turns, told_before}
use Rattle.cb_audit.specs.Counting.{AreEven, granted, told_by}
use Rattle.cb_audit.specs.Covering.{dropped_of, left_in}
use Rattle.cb_audit.specs.Heard.{IsSplit, seen_of, start_of}
use Rattle.cb_audit.specs.Order.{AreInOrder, AuditedTrace, trace_of}
use Rattle.cb_audit.specs.Turns.{answer_in, answers_in, turns_by, turns_in}
use Rattle.cb_audit.proofs.Listing.{one_more}
use Rattle.cb_audit.proofs.Orders.{less, trace_at}
use Rattle.cb_audit.proofs.Pairing.{as_many, paired_length}

-- ---- the answers of a trace

told_in_one : (event : Event) (starved : Bool) → length (answer_in event) ≡ number_of is_told (record { event = event; starved = starved } ∷ [])
told_in_one (events.Said item) starved = refl
told_in_one (events.Broken fault) starved = refl
told_in_one events.Tick starved = refl
told_in_one events.Probe starved = refl
told_in_one (events.Told answer) starved = refl
told_in_one events.ReaderEnd starved = refl
told_in_one events.NoMemory starved = refl
told_in_one events.HallFull starved = refl
told_in_one events.WriteFault starved = refl

number_parts : (xs ys : List TraceEntry) → number_of is_told (xs ++ ys) ≡ number_of is_told xs + number_of is_told ys
number_parts xs ys =
    ap length (filter-append (λ entry. is_told (kind_of entry.event)) xs ys) ∙ length-append (filter (λ entry. is_told (kind_of entry.event)) xs) (filter (λ entry. is_told (kind_of entry.event)) ys)

answers_told : (entries : List TraceEntry) → length (answers_in entries) ≡ number_of is_told entries
answers_told [] = refl
answers_told (entry ∷ entries) =
    let one = told_in_one entry.event entry.starved in
    let others = answers_told entries in
    length-append (answer_in entry.event) (answers_in entries) ∙ ap (λ (n : ℕ). n + length (answers_in entries)) one ∙ ap (λ (n : ℕ). number_of is_told (entry ∷ []) + n) others ∙ sym (number_parts (entry ∷ []) entries)

-- the answers that a trace has, and those that it dropped, are all
turns_told : (trace : TraceView) (history : List TraceEntry) → StandsFor trace history → trace.before.told + length (turns_in trace) ≡ trace.total.told
turns_told trace history h =
    let long = paired_length (asked_from (base_account trace) trace.entries) (answers_in trace.entries) (as_many (base_account trace) trace.entries) ∙ answers_told trace.entries in
    let before = ap (λ (c : Counts). c.told) h.before in
    let total = ap (λ (c : Counts). c.told) h.total ∙ ap (λ (l : List TraceEntry). number_of is_told l) h.parts ∙ number_parts h.dropped trace.entries in
    omega (arith, long, before, total)

pub turns_told_by : (one : AuditedTrace) (trace : TraceView) (history : List TraceEntry) → trace ≡ one.trace → StandsFor trace history → one.trace.before.told + length (turns_in one.trace) ≡ one.trace.total.told
turns_told_by one trace history is h = subst (λ (t : TraceView). t.before.told + length (turns_in t) ≡ t.total.told) is (turns_told trace history h)

-- those from the first place on that both have
pub left_is : (kept : Slots) (one : AuditedTrace) (told dropped : ℕ) → one.trace.before.told + length (turns_in one.trace) ≡ one.trace.total.told → told ≡ one.trace.total.told → dropped ≡ dropped_of kept one
    → told - dropped ≡ left_in kept one
left_is kept one told dropped all is own =
    let long = length-drop (start_of kept one) (turns_in one.trace) in
    let low : one.trace.before.told ≤ max (granted kept one.connection) one.trace.before.told = omega arith in
    omega (arith, all, is, own, long, low)

-- ---- sums over all connections

pub sum_same : {A : Type 0} (f g : A → ℕ) (xs : List A) → ((i : ℕ) (x : A) → slice_get xs i ≡ Some x → f x ≡ g x) → sum_by f xs ≡ sum_by g xs
sum_same f g [] each = refl
sum_same f g (x ∷ xs) each =
    let rest = sum_same f g xs (λ i y at. each (suc i) y at) in
    let here = each 0 x refl in
    sum_by-cons f x xs ∙ ap (λ (n : ℕ). n + sum_by f xs) here ∙ ap (λ (n : ℕ). g x + n) rest ∙ sym (sum_by-cons g x xs)

pub sum_both : {A : Type 0} (f g h : A → ℕ) (xs : List A) → ((i : ℕ) (x : A) → slice_get xs i ≡ Some x → f x + g x ≡ h x) → sum_by f xs + sum_by g xs ≡ sum_by h xs
sum_both f g h [] each = refl
sum_both f g h (x ∷ xs) each =
    let rest = sum_both f g h xs (λ i y at. each (suc i) y at) in
    let here = each 0 x refl in
    let a = sum_by-cons f x xs in
    let b = sum_by-cons g x xs in
    let c = sum_by-cons h x xs in
    omega (arith, rest, here, a, b, c)

-- ---- what the hall granted

grows : (old new : ReplicaState) (entries : List Entry) (answers : List Answer) (c : Connection) (o : Option Connected) → Leads old entries answers new → connected_of old.connections c ≡ o → granted old.connections c ≤ granted new.connections c
grows old new entries answers c None leads is = let none = ap (λ (x : Option Connected). option_map_or (λ connected. connected.count) x 0) is in omega (arith, none)
grows old new entries answers c (Some had) leads is =
    let more = counts old new entries answers c leads had is in
    let before = ap (λ (x : Option Connected). option_map_or (λ connected. connected.count) x 0) is in
    let after = ap (λ (x : Option Connected). option_map_or (λ connected. connected.count) x 0) more.1 in
    let count = more.2 in
    omega (arith, before, after, count)

-- ---- one connection

-- the turns that were compared are as many by the journal as by the trace
seen_is : (kept : Slots) (audited : List AuditedTrace) (seen : Seen) (one : AuditedTrace) → trace_of audited one.connection ≡ Some one.trace → Agrees kept audited seen one.connection
    → left_in kept one ≡ length (journal_turns kept audited seen one.connection)
seen_is kept audited seen one has same =
    sym
    (ap length
    (same ∙ ap (λ (t : Option TraceView). drop (first_place kept one.connection t - told_before t) (turns_by t)) has))

-- with those that were dropped they are all
all_is : (kept latest : Slots) (audited : List AuditedTrace) (one : AuditedTrace) → one.trace.before.told + length (turns_in one.trace) ≡ one.trace.total.told → trace_of audited one.connection ≡ Some one.trace
    → granted latest one.connection ≡ told_by (trace_of audited one.connection) → granted kept one.connection ≤ granted latest one.connection → left_in kept one + dropped_of kept one ≡ one.trace.total.told
all_is kept latest audited one all has even more =
    let told = even ∙ ap told_by has in
    let long = length-drop (start_of kept one) (turns_in one.trace) in
    let low : one.trace.before.told ≤ max (granted kept one.connection) one.trace.before.told = omega arith in
    let most : max (granted kept one.connection) one.trace.before.told ≤ one.trace.total.told = omega (arith, told, more, all) in
    omega (arith, long, all, low, most)

-- ---- all of them

pub covers : (hall : JournalState) (audited : List AuditedTrace) (compared : Compared) → AreInOrder audited → AreEven hall.latest.connections audited
    → Answered hall (λ seen. (c : Connection) → Agrees hall.base.connections audited seen c)
    → ((i : ℕ) (one : AuditedTrace) → slice_get audited i ≡ Some one → one.trace.before.told + length (turns_in one.trace) ≡ one.trace.total.told)
    → compared.answers ≡ sum_by (left_in hall.base.connections) audited → compared.dropped ≡ sum_by (dropped_of hall.base.connections) audited → Audits hall audited (Ok compared)
covers hall audited compared order even answered all left dropped =
    let kept = hall.base.connections in
    let seen : Seen = seen_of hall.entries answered.0 in (
      even,
      (
        answered.0,
        answered.1,
        (
          answered.2,
          record {
            answers = left ∙ sum_same (left_in kept) (λ one. length (journal_turns kept audited seen one.connection)) audited (λ i one at. seen_is kept audited seen one (trace_at audited one.connection i one order at refl) (answered.2 one.connection));
            dropped = dropped;
            all =
                ap (λ (n : ℕ). n + compared.dropped) left ∙ ap (λ (n : ℕ). sum_by (left_in kept) audited + n) dropped
                ∙ sum_both (left_in kept) (dropped_of kept) (λ one. one.trace.total.told) audited
                (λ i one at. all_is kept hall.latest.connections audited one (all i one at) (trace_at audited one.connection i one order at refl) (even one.connection)
                (grows hall.base hall.latest hall.entries answered.0 one.connection (connected_of kept one.connection) answered.1 refl));
          },
        ),
      ),
    )

-- ---- one connection more

pub sum_next : {A : Type 0} (f : A → ℕ) (xs : List A) (n : ℕ) (here : A) (so_far number : ℕ) → so_far ≡ sum_by f (take n xs) → n < length xs → here ≡ get_or xs n here → number ≡ f here
    → so_far + number ≡ sum_by f (take (n + 1) xs)
sum_next f xs n here so_far number is low own said =
    ap (λ (k : ℕ). k + number) is ∙ ap (λ (k : ℕ). sum_by f (take n xs) + k) said ∙ sym (ap (sum_by f) (one_more xs n here low own) ∙ sum_by_push f (take n xs) here)

all_at_last : {A : Type 0} (P : A → Type 0) (xs : List A) (n i : ℕ) (here one : A) → n < length xs → here ≡ get_or xs n here → P here → i ≡ n → slice_get xs i ≡ Some one → P one
all_at_last P xs n i here one low own holds last at =
    let read : slice_get xs n ≡ Some here = slice_get_read xs (length xs) n here refl low own in
    let some_same : Some here ≡ Some one = sym read ∙ ap (slice_get xs) (sym last) ∙ at in
    subst P (let same : here ≡ one = cc in same) holds

next_pick : {A : Type 0} (P : A → Type 0) (xs : List A) (n i : ℕ) (here one : A) → ((j : ℕ) (other : A) → j < n → slice_get xs j ≡ Some other → P other) → n < length xs → here ≡ get_or xs n here → P here
    → i < n + 1 → slice_get xs i ≡ Some one → (i < n) ⊎ (n ≤ i) → P one
next_pick P xs n i here one so_far low own holds within at (inl before) = so_far i one before at
next_pick P xs n i here one so_far low own holds within at (inr past) = all_at_last P xs n i here one low own holds (omega (arith, within, past)) at

pub all_next : {A : Type 0} (P : A → Type 0) (xs : List A) (n : ℕ) (here : A) → ((i : ℕ) (one : A) → i < n → slice_get xs i ≡ Some one → P one) → n < length xs → here ≡ get_or xs n here → P here
    → (i : ℕ) (one : A) → i < n + 1 → slice_get xs i ≡ Some one → P one
all_next P xs n here so_far low own holds i one within at = next_pick P xs n i here one so_far low own holds within at (less i n)

end_pick : {A : Type 0} (P : A → Type 0) (xs : List A) (n i : ℕ) (one : A) → ((j : ℕ) (other : A) → j < n → slice_get xs j ≡ Some other → P other) → length xs ≤ n → slice_get xs i ≡ Some one → (i < n) ⊎ (n ≤ i) → P one
end_pick P xs n i one so_far past at (inl before) = so_far i one before at
end_pick P xs n i one so_far past at (inr behind) = absurd (let none = slice_get_past xs i (omega (arith, past, behind)) in let never : None ≡ Some one = sym none ∙ at in cc)

pub all_end : {A : Type 0} (P : A → Type 0) (xs : List A) (n : ℕ) → ((i : ℕ) (one : A) → i < n → slice_get xs i ≡ Some one → P one) → length xs ≤ n → (i : ℕ) (one : A) → slice_get xs i ≡ Some one → P one
all_end P xs n so_far past i one at = end_pick P xs n i one so_far past at (less i n)

-- ---- what the audit's calls know

pub covers_all : (hall journal : JournalState) (kept : Slots) (audited : List AuditedTrace) (found : Option Difference) (compared : Compared) → journal ≡ hall → kept ≡ journal.base.connections → AreInOrder audited → AreEven journal.latest.connections audited
    → Answered journal (λ seen. IsSplit journal.base.connections audited seen found) → found ≡ None
    → ((i : ℕ) (one : AuditedTrace) → slice_get audited i ≡ Some one → one.trace.before.told + length (turns_in one.trace) ≡ one.trace.total.told)
    → compared.answers ≡ sum_by (left_in kept) audited → compared.dropped ≡ sum_by (dropped_of kept) audited → Audits hall audited (Ok compared)
covers_all hall journal kept audited found compared same is order even answered none all left dropped =
    subst (λ (h : JournalState). Audits h audited (Ok compared)) same
    (covers journal audited compared order even (subst (λ (f : Option Difference). Answered journal (λ seen. IsSplit journal.base.connections audited seen f)) none answered) all
    (left ∙ ap (λ (k : Slots). sum_by (left_in k) audited) is) (dropped ∙ ap (λ (k : Slots). sum_by (dropped_of k) audited) is))

pub counts_badges : (hall : JournalState) (audited : List AuditedTrace) (all : ℕ) (result : Result Compared Split) → Audits hall audited result → sum_by (λ (one : AuditedTrace). one.trace.total.told) audited ≡ all
    → IfOk result (λ compared. compared.answers + compared.dropped ≡ all)
counts_badges hall audited all (Ok compared) audits is = audits.1.2.1.all ∙ is
counts_badges hall audited all (Err split) audits is = tt
