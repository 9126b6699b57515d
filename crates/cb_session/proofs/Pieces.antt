-- What a reader's thread puts, piece by piece, against what the bytes spell.
use Rattle.std.proofs.Common.{◌≡◌, ◌≢◌, ℕ, ◌≤◌, Bool, false, List, [], ◌∷◌, ◌++◌, length, Option, Some, None, Result, Ok, Err, refl, sym, ap, subst, ◌∙◌, append_assoc, arith, inl, inr, ◌⊎◌}
use Rattle.std.specs.Prelude.{IfErr, OnOk}
use Rattle.std.proofs.lemmas.List.{append-nil, map-append}
use Rattle.std.specs.Io.KnownBytes.{Consumes}
use Rattle.cb_base.specs.declared.fault.Fault.{Fault}
use Rattle.cb_wire.specs.declared.item.Item.{Item}
use Rattle.cb_wire.specs.Stream.{Assembled, Ends, Stream}
use Rattle.cb_wire.proofs.Streams.{front_at-nil}
use Rattle.cb_base.proofs.Known.{Consumes-nothing, Keeps-same}
use Rattle.cb_base.specs.declared.read_end.ReadEnd.{ReadEnd}
use Rattle.cb_base.specs.declared.read_end.ReadEnd.TheVariants as ends
use Rattle.cb_session.specs.declared.input.Input.{Input}
use Rattle.cb_session.specs.declared.input.Input.TheVariants as inputs
use Rattle.cb_session.specs.Input.{maybe, said}
use Rattle.cb_session.specs.Putting.{Closes, HaltsSo, PutAll, PutAndEnded, PutSome, SeatNow}
use Rattle.cb_session.specs.Reading.{EndedBehind, EndsSo, Finished, HasPut, IsDone, IsToPut, Reads, SourceEndsSo}

-- ---- putting in turn

pub all_none : (now : SeatNow) → now.ended ≡ false → PutAll now now []
all_none now live = record { grown = sym (append-nil now.queued); live = live; going = λ g. g }

pub all_then_all : (a b c : SeatNow) (xs ys : List Input) → PutAll a b xs → PutAll b c ys → PutAll a c (xs ++ ys)
all_then_all a b c xs ys p q = record {
  grown = q.grown ∙ ap (λ (zs : List Input). zs ++ ys) p.grown ∙ append_assoc a.queued xs ys;
  live = q.live;
  going = λ g. q.going (p.going g);
}

pub all_then_some : (a b c : SeatNow) (xs ys : List Input) (end : ReadEnd) → PutAll a b xs → PutSome b c ys end → PutSome a c (xs ++ ys) end
all_then_some a b c xs ys end p q = record {
  put = xs ++ q.put;
  later = q.later;
  parts = append_assoc xs q.put q.later ∙ ap (λ (zs : List Input). xs ++ zs) q.parts;
  grown = q.grown ∙ ap (λ (zs : List Input). zs ++ q.put) p.grown ∙ append_assoc a.queued xs q.put;
  live = q.live;
  cause = q.cause;
}

pub all_then_ended : (a b c : SeatNow) (xs ys : List Input) → PutAll a b xs → PutAndEnded b c ys → PutAndEnded a c (xs ++ ys)
all_then_ended a b c xs ys p q = record {
  grown = q.grown ∙ ap (λ (zs : List Input). zs ++ ys) p.grown ∙ append_assoc a.queued xs ys;
  ended = q.ended;
  going = q.going;
}

-- no more could be put, and more would come
pub some_more : (a b : SeatNow) (xs ys : List Input) (end : ReadEnd) → PutSome a b xs end → PutSome a b (xs ++ ys) end
some_more a b xs ys end p = record {
  put = p.put;
  later = p.later ++ ys;
  parts = sym (append_assoc p.put p.later ys) ∙ ap (λ (zs : List Input). zs ++ ys) p.parts;
  grown = p.grown;
  live = p.live;
  cause = p.cause;
}

pub said_more : (xs ys : List Item) → said (xs ++ ys) ≡ said xs ++ said ys
said_more xs ys = map-append (λ item. inputs.Said item) xs ys

-- more items
all_more : (a b c : SeatNow) (taken more : List Item) → PutAll a b (said taken) → PutAll b c (said more) → PutAll a c (said (taken ++ more))
all_more a b c taken more p q = subst (λ (xs : List Input). PutAll a c xs) (sym (said_more taken more)) (all_then_all a b c (said taken) (said more) p q)

-- one item more
pub one_more : (a b c : SeatNow) (taken : List Item) (item : Item) → PutAll a b (said taken) → PutAll b c (inputs.Said item ∷ []) → PutAll a c (said (taken ++ item ∷ []))
one_more a b c taken item p q = all_more a b c taken (item ∷ []) p q

-- the next item could not be put
pub not_one_more : (a b c : SeatNow) (items taken rest : List Item) (item : Item) (end : ReadEnd) → items ≡ taken ++ item ∷ rest → PutAll a b (said taken) → PutSome b c (inputs.Said item ∷ []) end → PutSome a c (said items) end
not_one_more a b c items taken rest item end parts p q =
    subst (λ (xs : List Input). PutSome a c xs end) (sym (ap said parts ∙ said_more taken (item ∷ rest)))
    (all_then_some a b c (said taken) (inputs.Said item ∷ said rest) end p (some_more b c (inputs.Said item ∷ []) (said rest) end q))

-- ---- a piece

nothing_spelled : Stream [] [] [] None
nothing_spelled = subst (λ front. Ends front [] [] None) (sym front_at-nil) (refl, refl)

-- the last input of a stream of which no piece was refused
abbrev pub broken : Option Fault → Option Input
broken None = None
broken (Some why) = Some (inputs.Broken why)

heard_all : (bytes : List ℕ) (items : List Item) (rest : List ℕ) (fault : Option Fault) → Stream bytes items rest fault → IsToPut bytes items (broken fault)
heard_all bytes items rest None s = record { heard = bytes; refused = []; parts = sym (append-nil bytes); rest = rest; fault = None; stream = s; last_so = (refl, refl) }
heard_all bytes items rest (Some why) s = record { heard = bytes; refused = []; parts = sym (append-nil bytes); rest = rest; fault = Some why; stream = s; last_so = (refl, refl) }

-- the last input was put, and the connection was ended
finished : (old mid new : SeatNow) (xs : List Input) (last : Input) (end : ReadEnd) → PutAll old mid xs → Closes mid new (last ∷ []) ends.Fault end → Finished old new (xs ++ maybe (Some last)) (Some last) end ⊎ PutSome old new (xs ++ maybe (Some last)) end
finished old mid new xs last end put closes = elim closes [
  | inl x ↦ inl (record { put = all_then_ended old mid new xs (last ∷ []) put x.1; some_last = λ e. cc; why = x.0 })
  | inr x ↦ inr (all_then_some old mid new xs (last ∷ []) end put x)
]

filled : (piece : List ℕ) → 1 ≤ length piece → piece ≢ []
filled [] one e = absurd (omega (arith, one))
filled (byte ∷ piece) one e = cc

-- nothing was read yet
pub put_none : (now : SeatNow) (assembled : Assembled) → assembled ≡ record { rest = []; fault = None } → now.ended ≡ false → HasPut [] now now assembled
put_none now assembled is live = record {
  items = [];
  stream = subst (λ (a : Assembled). Stream [] [] a.rest a.fault) (sym is) nothing_spelled;
  put = all_none now live;
}

-- the reader looked at its stop, and goes on
all_asked : (old now asked : SeatNow) (xs : List Input) → PutAll old now xs → asked.queued ≡ now.queued → asked.ended ≡ now.ended → asked.stopped ≡ false → PutAll old asked xs
all_asked old now asked xs p queued ended going = record { grown = queued ∙ p.grown; live = ended ∙ p.live; going = λ _. going }

-- the items of one piece more were put
pub put_more : (bytes piece : List ℕ) (more : List Item) (old mid new asked : SeatNow) (assembled assembled' : Assembled) → (h : HasPut bytes old mid assembled) → Stream (bytes ++ piece) (h.items ++ more) assembled'.rest assembled'.fault → PutAll mid new (said more)
    → asked.queued ≡ new.queued → asked.ended ≡ new.ended → asked.stopped ≡ false → HasPut (bytes ++ piece) old asked assembled'
put_more bytes piece more old mid new asked assembled assembled' h stream put queued ended going = record {
  items = h.items ++ more;
  stream = stream;
  put = all_asked old new asked (said (h.items ++ more)) (all_more old mid new h.items more h.put put) queued ended going;
}

-- memory ran out for a piece
pub ended_refused : (bytes piece : List ℕ) (old mid new : SeatNow) (assembled : Assembled) (end : ReadEnd) → HasPut bytes old mid assembled → assembled.fault ≡ None → 1 ≤ length piece → length piece ≤ 65536 → Closes mid new (inputs.NoMemory ∷ []) ends.Fault end → EndedBehind (bytes ++ piece) old new end
ended_refused bytes piece old mid new assembled end h none one limit closes = record {
  items = h.items;
  last = Some inputs.NoMemory;
  to_put = record { heard = bytes; refused = piece; parts = refl; rest = assembled.rest; fault = assembled.fault; stream = h.stream; last_so = (record { one_piece = limit; first = λ empty. absurd (filled piece one empty) }, none) };
  ended = finished old mid new (said h.items) inputs.NoMemory end h.put closes;
}

-- the items of a piece could not all be put
pub ended_halted : (bytes piece : List ℕ) (more : List Item) (old mid new : SeatNow) (assembled assembled' : Assembled) (end : ReadEnd) → (h : HasPut bytes old mid assembled) → Stream (bytes ++ piece) (h.items ++ more) assembled'.rest assembled'.fault → PutSome mid new (said more) end
    → EndedBehind (bytes ++ piece) old new end
ended_halted bytes piece more old mid new assembled assembled' end h stream some =
    let last = maybe (broken assembled'.fault) in
    record {
      items = h.items ++ more;
      last = broken assembled'.fault;
      to_put = heard_all (bytes ++ piece) (h.items ++ more) assembled'.rest assembled'.fault stream;
      ended = inr (some_more old new (said (h.items ++ more)) last end (subst (λ (xs : List Input). PutSome old new xs end) (sym (said_more h.items more)) (all_then_some old mid new (said h.items) (said more) end h.put some)));
    }

-- they were all put, and nothing more can be
pub ended_full : (bytes piece : List ℕ) (more : List Item) (old mid new asked : SeatNow) (assembled assembled' : Assembled) (end : ReadEnd) → (h : HasPut bytes old mid assembled) → Stream (bytes ++ piece) (h.items ++ more) assembled'.rest assembled'.fault → PutAll mid new (said more)
    → asked.queued ≡ new.queued → asked.ended ≡ new.ended → HaltsSo end asked → EndedBehind (bytes ++ piece) old asked end
ended_full bytes piece more old mid new asked assembled assembled' end h stream put queued ended halt =
    ended_halted bytes piece more old mid asked assembled assembled' end h stream
    (record { put = said more; later = []; parts = append-nil (said more); grown = queued ∙ put.grown; live = ended ∙ put.live; cause = halt })

-- behind its items the stream has a fault
pub ended_broken : (bytes piece : List ℕ) (more : List Item) (why : Fault) (old mid put_so new : SeatNow) (assembled assembled' : Assembled) (end : ReadEnd) → (h : HasPut bytes old mid assembled) → Stream (bytes ++ piece) (h.items ++ more) assembled'.rest assembled'.fault → assembled'.fault ≡ Some why
    → PutAll mid put_so (said more) → Closes put_so new (inputs.Broken why ∷ []) ends.Fault end → EndedBehind (bytes ++ piece) old new end
ended_broken bytes piece more why old mid put_so new assembled assembled' end h stream is put closes = record {
  items = h.items ++ more;
  last = Some (inputs.Broken why);
  to_put = heard_all (bytes ++ piece) (h.items ++ more) assembled'.rest (Some why) (subst (λ (f : Option Fault). Stream (bytes ++ piece) (h.items ++ more) assembled'.rest f) is stream);
  ended = finished old put_so new (said (h.items ++ more)) (inputs.Broken why) end (all_more old mid put_so h.items more h.put put) closes;
}

-- ---- results

pub ok_then : {T E A B : Type 0} (r : Result T E) → OnOk r A → (A → B) → OnOk r B
ok_then (Ok x) a f = f a
ok_then (Err e) a f = tt

pub err_then : {T E : Type 0} {A B : E → Type 0} (r : Result T E) → IfErr r A → ((e : E) → A e → B e) → IfErr r B
err_then (Ok x) a f = tt
err_then (Err e) a f = f e a

-- ---- why reading ended

halted_so : (end : ReadEnd) (remaining : Option (List ℕ)) (failed_before failed : Bool) (now : SeatNow) (read : List ℕ) (last : Option Input) (later : List Input) → now.ended ≡ false → HaltsSo end now → EndsSo end remaining failed_before failed now read last later
halted_so ends.Stopped remaining failed_before failed now read last later live h = record { live = live; stopped_is = h }
halted_so ends.Turns remaining failed_before failed now read last later live h = (inr h.1, record { live = live; stopped_is = h.0 })
halted_so ends.Eof remaining failed_before failed now read last later live h = absurd h
halted_so ends.Fault remaining failed_before failed now read last later live h = absurd h

-- not all could be put
reads_some : (input remaining : Option (List ℕ)) (failed_before failed : Bool) (old new : SeatNow) (end : ReadEnd) (read : List ℕ) (items : List Item) (last : Option Input) → Consumes input remaining read → IsToPut read items last → PutSome old new (said items ++ maybe last) end
    → Reads input remaining failed_before failed old new read end
reads_some input remaining failed_before failed old new end read items last c to_put p = record {
  consumed = c;
  items = items;
  last = last;
  to_put = to_put;
  put = p.put;
  later = p.later;
  in_order = p.parts;
  grown = p.grown;
  cause = halted_so end remaining failed_before failed new read last p.later p.live p.cause;
}

-- all was put
reads_all : (input remaining : Option (List ℕ)) (failed_before failed : Bool) (old new : SeatNow) (end : ReadEnd) (read : List ℕ) (items : List Item) (last : Option Input) → Consumes input remaining read → IsToPut read items last → new.queued ≡ old.queued ++ (said items ++ maybe last)
    → EndsSo end remaining failed_before failed new read last [] → Reads input remaining failed_before failed old new read end
reads_all input remaining failed_before failed old new end read items last c to_put grown so = record {
  consumed = c;
  items = items;
  last = last;
  to_put = to_put;
  put = said items ++ maybe last;
  later = [];
  in_order = append-nil (said items ++ maybe last);
  grown = grown;
  cause = so;
}

is_done : (old new : SeatNow) (xs : List Input) → PutAndEnded old new xs → IsDone new []
is_done old new xs p = record { all = refl; ended = p.ended; going = p.going }

none_to_put : (read : List ℕ) (old now : SeatNow) (assembled : Assembled) (h : HasPut read old now assembled) → assembled.fault ≡ None → IsToPut read h.items None
none_to_put read old now assembled h unbroken =
    heard_all read h.items assembled.rest None (subst (λ (f : Option Fault). Stream read h.items assembled.rest f) unbroken h.stream)

-- nothing could be put, and nothing was read
pub reads_halted : (input : Option (List ℕ)) (failed : Bool) (old new : SeatNow) (end : ReadEnd) (read : List ℕ) → read ≡ [] → new.queued ≡ old.queued → new.ended ≡ false → HaltsSo end new → Reads input input failed failed old new read end
reads_halted input failed old new end read nothing queued live halt =
    subst (λ (bytes : List ℕ). Reads input input failed failed old new bytes end) (sym nothing)
    (reads_some input input failed failed old new end [] [] None (Consumes-nothing input input (Keeps-same input)) (heard_all [] [] [] None nothing_spelled)
    (record { put = []; later = []; parts = refl; grown = queued ∙ sym (append-nil old.queued); live = live; cause = halt }))

-- there was no memory for the buffer
pub reads_nothing : (input : Option (List ℕ)) (read : List ℕ) (failed : Bool) (old new : SeatNow) (end : ReadEnd) → read ≡ [] → Closes old new (inputs.NoMemory ∷ []) ends.Fault end → Reads input input failed failed old new read end
reads_nothing input read failed old new end nothing closes =
    let c = Consumes-nothing input input (Keeps-same input) in
    let to_put : IsToPut [] [] (Some inputs.NoMemory) = record {
      heard = [];
      refused = [];
      parts = refl;
      rest = [];
      fault = None;
      stream = nothing_spelled;
      last_so = (record { one_piece = omega arith; first = λ _. refl }, refl);
    } in
    subst (λ (bytes : List ℕ). Reads input input failed failed old new bytes end) (sym nothing) (elim closes [
      | inl x ↦
          subst (λ (e : ReadEnd). Reads input input failed failed old new [] e) (sym x.0)
          (reads_all input input failed failed old new ends.Fault [] [] (Some inputs.NoMemory) c to_put x.1.grown (inr (refl, λ e. cc), is_done old new (inputs.NoMemory ∷ []) x.1))
      | inr x ↦ reads_some input input failed failed old new end [] [] (Some inputs.NoMemory) c to_put x
    ])

-- reading ended in a piece
pub reads_ended : (input remaining : Option (List ℕ)) (failed_before failed : Bool) (old asked new : SeatNow) (end : ReadEnd) (read : List ℕ) → asked.queued ≡ old.queued → Consumes input remaining read → failed ≡ failed_before → EndedBehind read asked new end → Reads input remaining failed_before failed old new read end
reads_ended input remaining failed_before failed old asked new end read same c unfailed e = elim e.ended [
  | inl x ↦
      subst (λ (w : ReadEnd). Reads input remaining failed_before failed old new read w) (sym x.why)
      (reads_all input remaining failed_before failed old new ends.Fault read e.items e.last c e.to_put (x.put.grown ∙ ap (λ (q : List Input). q ++ (said e.items ++ maybe e.last)) same) (inr (unfailed, x.some_last), is_done asked new _ x.put))
  | inr x ↦
      reads_some input remaining failed_before failed old new end read e.items e.last c e.to_put
      (record { put = x.put; later = x.later; parts = x.parts; grown = x.grown ∙ ap (λ (q : List Input). q ++ x.put) same; live = x.live; cause = x.cause })
]

told_so : (told why : ReadEnd) (remaining : Option (List ℕ)) (failed_before failed : Bool) (read : List ℕ) → told ≡ why → SourceEndsSo told remaining failed_before failed read → SourceEndsSo why remaining failed_before failed read
told_so told why remaining failed_before failed read is h = subst (λ (w : ReadEnd). SourceEndsSo w remaining failed_before failed read) is h

-- the source was read no further
reads_closed : (input remaining : Option (List ℕ)) (failed_before failed : Bool) (old asked mid new : SeatNow) (assembled : Assembled) (why end : ReadEnd) (read : List ℕ) → asked.queued ≡ old.queued → Consumes input remaining read → HasPut read asked mid assembled → assembled.fault ≡ None
    → (IsDone new [] → EndsSo why remaining failed_before failed new read None []) → Closes mid new [] why end → Reads input remaining failed_before failed old new read end
reads_closed input remaining failed_before failed old asked mid new assembled why end read same c h unbroken so closes =
    let to_put = none_to_put read asked mid assembled h unbroken in
    let before : (xs : List Input) → asked.queued ++ xs ≡ old.queued ++ xs = λ xs. ap (λ (q : List Input). q ++ xs) same in
    elim closes [
      | inl x ↦
          let p = all_then_ended asked mid new (said h.items) [] h.put x.1 in
          subst (λ (e : ReadEnd). Reads input remaining failed_before failed old new read e) (sym x.0)
          (reads_all input remaining failed_before failed old new why read h.items None c to_put (p.grown ∙ before _) (so (is_done asked new _ p)))
      | inr x ↦
          let p = all_then_some asked mid new (said h.items) [] end h.put x in
          reads_some input remaining failed_before failed old new end read h.items None c to_put
          (record { put = p.put; later = p.later; parts = p.parts; grown = p.grown ∙ before p.put; live = p.live; cause = p.cause })
    ]

-- 2^40 reads were made
pub reads_long : (input remaining : Option (List ℕ)) (failed_before failed : Bool) (old asked new : SeatNow) (assembled : Assembled) (told : ReadEnd) (read : List ℕ) → asked.queued ≡ old.queued → Consumes input remaining read → HasPut read asked new assembled → assembled.fault ≡ None
    → new.stopped ≡ false → told ≡ ends.Turns → SourceEndsSo told remaining failed_before failed read → Reads input remaining failed_before failed old new read ends.Turns
reads_long input remaining failed_before failed old asked new assembled told read same c h unbroken going is source =
    let so = told_so told ends.Turns remaining failed_before failed read is source in
    reads_all input remaining failed_before failed old new ends.Turns read h.items None c (none_to_put read asked new assembled h unbroken)
    (h.put.grown ∙ ap (λ (q : List Input). q ++ said h.items) same ∙ ap (λ (xs : List Input). old.queued ++ xs) (sym (append-nil (said h.items))))
    (inl (record { enough = so.0; unfailed = so.1; none_last = refl; all = refl }), record { live = h.put.live; stopped_is = going })

-- the source ended
pub reads_eof : (input remaining : Option (List ℕ)) (failed_before failed : Bool) (old asked mid new : SeatNow) (assembled : Assembled) (told end : ReadEnd) (read : List ℕ) → asked.queued ≡ old.queued → Consumes input remaining read → HasPut read asked mid assembled → assembled.fault ≡ None
    → told ≡ ends.Eof → SourceEndsSo told remaining failed_before failed read → Closes mid new [] ends.Eof end → Reads input remaining failed_before failed old new read end
reads_eof input remaining failed_before failed old asked mid new assembled told end read same c h unbroken is source closes =
    let so = told_so told ends.Eof remaining failed_before failed read is source in
    reads_closed input remaining failed_before failed old asked mid new assembled ends.Eof end read same c h unbroken (λ done. (record { at_end = so.0; unfailed = so.1; none_last = refl }, done)) closes

-- a read failed
pub reads_fault : (input remaining : Option (List ℕ)) (failed_before failed : Bool) (old asked mid new : SeatNow) (assembled : Assembled) (told end : ReadEnd) (read : List ℕ) → asked.queued ≡ old.queued → Consumes input remaining read → HasPut read asked mid assembled → assembled.fault ≡ None
    → told ≡ ends.Fault → SourceEndsSo told remaining failed_before failed read → Closes mid new [] ends.Fault end → Reads input remaining failed_before failed old new read end
reads_fault input remaining failed_before failed old asked mid new assembled told end read same c h unbroken is source closes =
    reads_closed input remaining failed_before failed old asked mid new assembled ends.Fault end read same c h unbroken (λ done. (inl (told_so told ends.Fault remaining failed_before failed read is source, refl), done)) closes

pub never_stopped : (told : ReadEnd) (remaining : Option (List ℕ)) (failed_before failed : Bool) (read : List ℕ) → told ≡ ends.Stopped → SourceEndsSo told remaining failed_before failed read → ⊥
never_stopped told remaining failed_before failed read is source = told_so told ends.Stopped remaining failed_before failed read is source
