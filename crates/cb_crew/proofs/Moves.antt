-- Each move of a seat keeps the rule of its inbox.
use Rattle.std.proofs.Common.{◌≡◌, ◌≢◌, ℕ, zero, suc, ◌+◌, ◌<◌, ◌≤◌, ◌⊎◌, inl, inr, ⊎_elim, Bool, true, false, if◌then◌else◌, nat_lt, List, [], ◌∷◌, ◌++◌, length, set, take, drop, refl, sym, ap, subst, ◌∙◌, arith}
use Rattle.std.proofs.lemmas.Bool.{false≢true}
use Rattle.std.proofs.lemmas.List.{append-nil, append_assoc, length-append}
use Rattle.std.proofs.lemmas.List.Elements.{All-nil, All-head, All-tail, All-push}
use mathlib.Core.Option.{some, some-ne-none, some-injective}
use lib.ListN.{get_elem?}
use Rattle.crossbeam_queue.specs.Fifo.{Pushes, Pops, Forks, Merges, Learns}
use Rattle.crossbeam_queue.proofs.Lists.{at_set}
use Rattle.cb_crew.specs.Line.{Line, LineReached, MayFollow, connections, empty_line, line_put, line_taken}
use Rattle.cb_crew.specs.Line as line
use Rattle.cb_crew.specs.Laws.{IsBeginning, ends_last}
use Rattle.cb_crew.proofs.LineLaws.{queued_parts, ended_is}
use Rattle.cb_crew.specs.declared.queued.Queued.{Queued}
use Rattle.cb_crew.specs.declared.rule.SeatView.{SeatView}
use Rattle.cb_crew.specs.Queued.{is_end, is_open, IsFresh}
use Rattle.cb_crew.specs.Rule.{Knows, IsOfALine, IsInbox, first_view, spent_view, without_taking, without_reading, queued_view, taken_view, longer, learned, informed}
use Rattle.cb_crew.specs.Seat.{MayQueue}

-- ---- beginnings of a list

beginning_self : {Q : Type 0} (xs : List Q) → IsBeginning xs xs
beginning_self xs = ([], sym (append-nil xs))

beginning_more : {Q : Type 0} (xs ys zs : List Q) → IsBeginning xs ys → IsBeginning xs (ys ++ zs)
beginning_more xs ys zs b = (b.0 ++ zs, ap (λ l. l ++ zs) b.1 ∙ append_assoc xs b.0 zs)

longer_begins : {Q : Type 0} (known told whole : List Q) → IsBeginning known whole → IsBeginning told whole → (b : Bool) → IsBeginning (if b then known else told) whole
longer_begins known told whole k t true = k
longer_begins known told whole k t false = t

learned_begins : {Q : Type 0} (known told whole : List Q) → IsBeginning known whole → IsBeginning told whole → (b : Bool) → IsBeginning (learned b known told) whole
learned_begins known told whole k t true = k
learned_begins known told whole k t false = longer_begins known told whole k t (nat_lt (length told) (length known))

pub learned_whole : {Q : Type 0} (known told : List Q) (b : Bool) → b ≡ true → learned b known told ≡ known
learned_whole known told true is = refl
learned_whole known told false is = absurd (false≢true is)

pub learned_part : {Q : Type 0} (known told : List Q) (b : Bool) → b ≡ false → learned b known told ≡ longer known told
learned_part known told true is = absurd (false≢true (sym is))
learned_part known told false is = refl

-- ---- what a seat knows of a line, after a step of the line

pub owner_put : {M O : Type 0} (l : Line (Queued M O)) (m : Queued M O) (reads takes : Bool) (queued taken : List (Queued M O)) → Knows l reads takes queued taken → reads ≡ true → Knows (line_put is_end l m) reads takes (queued ++ m ∷ []) taken
owner_put l m reads takes queued taken k is = record {
  queued_begins = ([], ap (λ ms. ms ++ m ∷ []) (sym (k.all_queued is)) ∙ sym (append-nil (queued ++ m ∷ [])));
  taken_begins = k.taken_begins;
  all_queued = λ _. ap (λ ms. ms ++ m ∷ []) (k.all_queued is);
  all_taken = k.all_taken;
}

other_put : {M O : Type 0} (l : Line (Queued M O)) (m : Queued M O) (reads takes : Bool) (queued taken : List (Queued M O)) → Knows l reads takes queued taken → (reads ≡ true → ⊥) → Knows (line_put is_end l m) reads takes queued taken
other_put l m reads takes queued taken k none = record {
  queued_begins = beginning_more queued l.queued (m ∷ []) k.queued_begins;
  taken_begins = k.taken_begins;
  all_queued = λ is. absurd (none is);
  all_taken = k.all_taken;
}

owner_taken : {M O : Type 0} (l : Line (Queued M O)) (m : Queued M O) (rest : List (Queued M O)) (reads takes : Bool) (queued taken : List (Queued M O)) → l.inbox ≡ m ∷ rest → Knows l reads takes queued taken → takes ≡ true → Knows (line_taken l) reads takes queued (taken ++ m ∷ [])
owner_taken l m rest reads takes queued taken front k is =
    let took : taken ++ m ∷ [] ≡ l.taken ++ take 1 l.inbox = ap (λ ms. ms ++ m ∷ []) (k.all_taken is) ∙ ap (λ ms. l.taken ++ take 1 ms) (sym front) in
    record {
      queued_begins = k.queued_begins;
      taken_begins = ([], sym took ∙ sym (append-nil (taken ++ m ∷ [])));
      all_queued = k.all_queued;
      all_taken = λ _. took;
    }

other_taken : {M O : Type 0} (l : Line (Queued M O)) (reads takes : Bool) (queued taken : List (Queued M O)) → Knows l reads takes queued taken → (takes ≡ true → ⊥) → Knows (line_taken l) reads takes queued taken
other_taken l reads takes queued taken k none = record {
  queued_begins = k.queued_begins;
  taken_begins = beginning_more taken l.taken (take 1 l.inbox) k.taken_begins;
  all_queued = k.all_queued;
  all_taken = λ is. absurd (none is);
}

pub not_taking : {M O : Type 0} (l : Line (Queued M O)) (reads takes : Bool) (queued taken : List (Queued M O)) → Knows l reads takes queued taken → Knows l reads false queued taken
not_taking l reads takes queued taken k = record { queued_begins = k.queued_begins; taken_begins = k.taken_begins; all_queued = k.all_queued; all_taken = λ is. absurd (false≢true is) }

pub not_reading : {M O : Type 0} (l : Line (Queued M O)) (reads takes : Bool) (queued taken : List (Queued M O)) → Knows l reads takes queued taken → Knows l false takes queued taken
not_reading l reads takes queued taken k = record { queued_begins = k.queued_begins; taken_begins = k.taken_begins; all_queued = λ is. absurd (false≢true is); all_taken = k.all_taken }

knows_nothing : {M O : Type 0} (l : Line (Queued M O)) → Knows l false false [] []
knows_nothing l = record { queued_begins = (l.queued, refl); taken_begins = (l.taken, refl); all_queued = λ is. absurd (false≢true is); all_taken = λ is. absurd (false≢true is) }

both_know : {M O : Type 0} (l : Line (Queued M O)) (v w : SeatView M O) → Knows l v.reads v.takes v.queued v.taken → Knows l w.reads w.takes w.queued w.taken → Knows l v.reads v.takes (learned v.reads v.queued w.queued) (learned v.takes v.taken w.taken)
both_know l v w k o = record {
  queued_begins = learned_begins v.queued w.queued l.queued k.queued_begins o.queued_begins v.reads;
  taken_begins = learned_begins v.taken w.taken l.taken k.taken_begins o.taken_begins v.takes;
  all_queued = λ is. learned_whole v.queued w.queued v.reads is ∙ k.all_queued is;
  all_taken = λ is. learned_whole v.taken w.taken v.takes is ∙ k.all_taken is;
}

-- what may be queued behind a reader's list may come next on its line
pub follows_line : {M O : Type 0} (l : Line (Queued M O)) (queued : List (Queued M O)) (m : Queued M O) → LineReached is_end is_open l → queued ≡ l.queued → MayQueue queued m → MayFollow is_open l m
follows_line l queued m reached same may = record {
  in_turn = ended_is reached ∙ (ap (ends_last is_end false) (sym same) ∙ may.in_turn);
  few = λ is. subst (λ ms. connections is_open ms < 256) same (may.few is);
}

-- ---- a fact of each seat

abbrev EachSeat : {M O : Type 0} → (ℕ → SeatView M O → Type 0) → List (SeatView M O) → Type 0
EachSeat {M} {O} F views = (seat : ℕ) (v : SeatView M O) → get_elem? views seat ≡ some v → F seat v

-- one seat's view was changed
each_set : {M O : Type 0} (F : ℕ → SeatView M O → Type 0) (views : List (SeatView M O)) (seat : ℕ) (w : SeatView M O) → F seat w → ((j : ℕ) (u : SeatView M O) → j ≢ seat → get_elem? views j ≡ some u → F j u) → EachSeat F (set views seat w)
each_set {M} {O} F views seat w mine others j u e =
    ⊎_elim (λ (x : (j ≡ seat) × (w ≡ u)). subst (λ (y : ℕ × SeatView M O). F y.0 y.1) (λ i. (sym x.0 i, x.1 i)) mine)
    (λ (x : (j ≢ seat) × (get_elem? views j ≡ some u)). others j u x.0 x.1) (at_set views seat j w u e)

-- what stands at a place of a list with one more element: it stood there, or it is the new one
at_new : {A : Type 0} (l : List A) (a b : A) (j : ℕ) → get_elem? (l ++ a ∷ []) j ≡ some b → (get_elem? l j ≡ some b) ⊎ ((j ≡ length l) × (a ≡ b))
at_new [] a b zero e = inr (refl, some-injective a b e)
at_new [] a b (suc j) e = absurd (some-ne-none b (sym e))
at_new (x ∷ l) a b zero e = inl e
at_new (x ∷ l) a b (suc j) e = ⊎_elim inl (λ (p : (j ≡ length l) × (a ≡ b)). inr (ap suc p.0, p.1)) (at_new l a b j e)

-- a seat came
each_new : {M O : Type 0} (F : ℕ → SeatView M O → Type 0) (views : List (SeatView M O)) (r : SeatView M O) → EachSeat F views → F (length views) r → EachSeat F (views ++ r ∷ [])
each_new {M = M} {O = O} F views r old new j u e =
    ⊎_elim (λ (x : get_elem? views j ≡ some u). old j u x)
    (λ (x : (j ≡ length views) × (r ≡ u)). subst (λ (y : ℕ × SeatView M O). F y.0 y.1) (λ i. (sym x.0 i, x.1 i)) new) (at_new views r u j e)

-- ---- the moves

-- an inbox in which nothing was queued, with one seat
pub begins : {M O : Type 0} (fresh : O → Type 0) → IsInbox {M = M} fresh [] (first_view ∷ [])
begins {M} {O} fresh = record {
  line = empty_line;
  reached = line.opening;
  content = refl;
  openings = All-nil (IsFresh fresh);
  reader = 0;
  taker = 0;
  knows = each_new {M = M} {O = O} (λ j u. Knows empty_line u.reads u.takes u.queued u.taken) [] first_view (λ j u e. absurd (some-ne-none u (sym e)))
      (record { queued_begins = ([], refl); taken_begins = ([], refl); all_queued = λ _. refl; all_taken = λ _. refl });
  reads = each_new {M = M} {O = O} (λ j u. u.reads ≡ true → j ≡ 0) [] first_view (λ j u e. absurd (some-ne-none u (sym e))) (λ _. refl);
  takes = each_new {M = M} {O = O} (λ j u. u.takes ≡ true → j ≡ 0) [] first_view (λ j u e. absurd (some-ne-none u (sym e))) (λ _. refl);
}

-- the reader queues
pub pushes : {M O : Type 0} (fresh : O → Type 0) (n seat : ℕ) (v : SeatView M O) (m : Queued M O) → v.reads ≡ true → MayQueue v.queued m → IsFresh fresh m → Pushes (IsInbox fresh) n seat v m (λ w. w ≡ queued_view v m)
pushes fresh n seat v m reads may is_fresh items views room h at =
    let mine = h.knows seat v at in
    let w = queued_view v m in (
      w,
      record {
        line = line_put is_end h.line m;
        reached = line.put h.line m h.reached (follows_line h.line v.queued m h.reached (mine.all_queued reads) may);
        content = ap (λ ms. ms ++ m ∷ []) h.content;
        openings = All-push (IsFresh fresh) items m h.openings is_fresh;
        reader = h.reader;
        taker = h.taker;
        knows = each_set (λ j u. Knows (line_put is_end h.line m) u.reads u.takes u.queued u.taken) views seat w (owner_put h.line m v.reads v.takes v.queued v.taken mine reads)
            (λ j u other e. other_put h.line m u.reads u.takes u.queued u.taken (h.knows j u e) (λ is. other (h.reads j u e is ∙ sym (h.reads seat v at reads))));
        reads = each_set (λ j u. u.reads ≡ true → j ≡ h.reader) views seat w (h.reads seat v at) (λ j u other e. h.reads j u e);
        takes = each_set (λ j u. u.takes ≡ true → j ≡ h.taker) views seat w (h.takes seat v at) (λ j u other e. h.takes j u e);
      },
      refl,
    )

-- the taker takes
pub pops : {M O : Type 0} (fresh : O → Type 0) (seat : ℕ) (v : SeatView M O) → v.takes ≡ true → Pops (IsInbox fresh) seat v (λ m w. (w ≡ taken_view v m) × IsFresh fresh m × IsOfALine w.reads w.takes w.queued w.taken)
pops fresh seat v takes m items views h at =
    let mine = owner_taken h.line m items v.reads v.takes v.queued v.taken h.content (h.knows seat v at) takes in
    let reached = line.take_front h.line m items h.reached h.content in
    let w = taken_view v m in (
      w,
      record {
        line = line_taken h.line;
        reached = reached;
        content = ap (drop 1) h.content;
        openings = All-tail (IsFresh fresh) m items h.openings;
        reader = h.reader;
        taker = h.taker;
        knows = each_set (λ j u. Knows (line_taken h.line) u.reads u.takes u.queued u.taken) views seat w mine
            (λ j u other e. other_taken h.line u.reads u.takes u.queued u.taken (h.knows j u e) (λ is. other (h.takes j u e is ∙ sym (h.takes seat v at takes))));
        reads = each_set (λ j u. u.reads ≡ true → j ≡ h.reader) views seat w (h.reads seat v at) (λ j u other e. h.reads j u e);
        takes = each_set (λ j u. u.takes ≡ true → j ≡ h.taker) views seat w (h.takes seat v at) (λ j u other e. h.takes j u e);
      },
      (refl, All-head (IsFresh fresh) m items h.openings, record { line = line_taken h.line; reached = reached; knows = mine }),
    )

-- the right to take goes to the new seat, if this one has it
taker_moves : {M O : Type 0} (views : List (SeatView M O)) (seat : ℕ) (v : SeatView M O) (taker : ℕ) → EachSeat (λ j u. u.takes ≡ true → j ≡ taker) views → get_elem? views seat ≡ some v → (b : Bool) → v.takes ≡ b → (next : ℕ) × EachSeat (λ j u. u.takes ≡ true → j ≡ next) (set views seat (without_taking v) ++ without_reading v ∷ [])
taker_moves views seat v taker old at true has =
    let vs = set views seat (without_taking v) in
    let F : ℕ → SeatView _ _ → Type 0 = λ j u. u.takes ≡ true → j ≡ length vs in
    (length vs, each_new F vs (without_reading v) (each_set F views seat (without_taking v) (λ is. absurd (false≢true is)) (λ j u other e is. absurd (other (old j u e is ∙ sym (old seat v at has))))) (λ _. refl))
taker_moves views seat v taker old at false has =
    let vs = set views seat (without_taking v) in
    let F : ℕ → SeatView _ _ → Type 0 = λ j u. u.takes ≡ true → j ≡ taker in
    (taker, each_new F vs (without_reading v) (each_set F views seat (without_taking v) (λ is. absurd (false≢true is)) (λ j u other e. old j u e)) (λ is. absurd (false≢true (sym has ∙ is))))

-- a seat is cut in two
pub forks : {M O : Type 0} (fresh : O → Type 0) (seat : ℕ) (v : SeatView M O) → Forks (IsInbox fresh) seat v (without_taking v) (without_reading v)
forks fresh seat v items views h at =
    let left = without_taking v in
    let right = without_reading v in
    let vs = set views seat left in
    let mine = h.knows seat v at in
    let takes = taker_moves views seat v h.taker h.takes at v.takes refl in
    record {
      line = h.line;
      reached = h.reached;
      content = h.content;
      openings = h.openings;
      reader = h.reader;
      taker = takes.0;
      knows = each_new (λ j u. Knows h.line u.reads u.takes u.queued u.taken) vs right
          (each_set (λ j u. Knows h.line u.reads u.takes u.queued u.taken) views seat left (not_taking h.line v.reads v.takes v.queued v.taken mine) (λ j u other e. h.knows j u e)) (not_reading h.line v.reads v.takes v.queued v.taken mine);
      reads = each_new (λ j u. u.reads ≡ true → j ≡ h.reader) vs right (each_set (λ j u. u.reads ≡ true → j ≡ h.reader) views seat left (h.reads seat v at) (λ j u other e. h.reads j u e)) (λ is. absurd (false≢true is));
      takes = takes.1;
    }

-- a seat learns what another one knows
pub merges : {M O : Type 0} (fresh : O → Type 0) (seat : ℕ) (v : SeatView M O) (other : ℕ) (w : SeatView M O) → Merges (IsInbox fresh) seat v other w (informed v w) spent_view
merges fresh seat v other w items views h at apart at_other =
    let both = informed v w in
    let vs = set views seat both in
    let was : get_elem? views other ≡ some w = ⊎_elim (λ x. absurd (apart x.0)) (λ x. x.1) (at_set views seat other both w at_other) in
    let know = each_set (λ j u. Knows h.line u.reads u.takes u.queued u.taken) views seat both (both_know h.line v w (h.knows seat v at) (h.knows other w was)) (λ j u o e. h.knows j u e) in
    let read = each_set (λ j u. u.reads ≡ true → j ≡ h.reader) views seat both (h.reads seat v at) (λ j u o e. h.reads j u e) in
    let take_ = each_set (λ j u. u.takes ≡ true → j ≡ h.taker) views seat both (h.takes seat v at) (λ j u o e. h.takes j u e) in
    record {
      line = h.line;
      reached = h.reached;
      content = h.content;
      openings = h.openings;
      reader = h.reader;
      taker = h.taker;
      knows = each_set (λ j u. Knows h.line u.reads u.takes u.queued u.taken) vs other spent_view (knows_nothing h.line) (λ j u o e. know j u e);
      reads = each_set (λ j u. u.reads ≡ true → j ≡ h.reader) vs other spent_view (λ is. absurd (false≢true is)) (λ j u o e. read j u e);
      takes = each_set (λ j u. u.takes ≡ true → j ≡ h.taker) vs other spent_view (λ is. absurd (false≢true is)) (λ j u o e. take_ j u e);
    }

-- ---- what a seat learns

-- of a full inbox: what lies there was queued, and isn't among what was taken
pub untaken : {M O : Type 0} (fresh : O → Type 0) (seat : ℕ) (v : SeatView M O) → v.reads ≡ true → Learns (IsInbox fresh) seat v (λ items. length v.taken + length items ≤ length v.queued)
untaken fresh seat v reads items views h at =
    let k = h.knows seat v at in
    let took = k.taken_begins in
    omega (arith, ap length (k.all_queued reads), ap length (queued_parts h.reached), length-append h.line.taken h.line.inbox, ap length took.1, length-append v.taken took.0, ap length h.content)

-- what was told is a beginning of what was taken and what lies there
pub told : {M O : Type 0} (fresh : O → Type 0) (seat : ℕ) (v : SeatView M O) → v.takes ≡ true → Learns (IsInbox fresh) seat v (λ items. IsBeginning v.queued (v.taken ++ items))
told fresh seat v takes items views h at =
    let k = h.knows seat v at in
    (k.queued_begins.0, ap (λ ms. ms ++ items) (k.all_taken takes) ∙ (ap (λ ms. h.line.taken ++ ms) (sym h.content) ∙ (sym (queued_parts h.reached) ∙ k.queued_begins.1)))

-- its lists are of a line that acts lead to
pub sights : {M O : Type 0} (fresh : O → Type 0) (seat : ℕ) (v : SeatView M O) → Learns (IsInbox fresh) seat v (λ items. IsOfALine v.reads v.takes v.queued v.taken)
sights fresh seat v items views h at = record { line = h.line; reached = h.reached; knows = h.knows seat v at }
