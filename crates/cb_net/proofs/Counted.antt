-- What is counted of a message.
use Rattle.std.proofs.Common.{◌≡◌, ◌∙◌, ℕ, ◌+◌, ◌<◌, ◌≤◌, ◌↔◌, List, true, false, IfSome, IsSome, Option, Some, None, length, get_or, slice_get, option_and_then, refl, sym, ap, subst, inl, inr, is_some}
use Rattle.std.specs.Borrow.{Bor}
use Rattle.std.specs.List.{slice_index_or}
use Rattle.std.specs.Option.{option_copied}
use Rattle.std.proofs.lemmas.Option.{slice_get_cases, slice_get_past, slice_get_read}
use Rattle.cb_wire.specs.declared.message.Message.{Message}
use Rattle.cb_net_node.specs.declared.side.Side.{Side}
use Rattle.cb_net_node.specs.Commands.{payload_text, row_of}
use Rattle.cb_net_node.specs.Joined.{on_its_way}
use Rattle.cb_net_node.specs.Links.{present}
use Rattle.cb_net_node.specs.Nodes.{is_honest}
use Rattle.cb_net_node.specs.Traffics.{Counts}
use Rattle.cb_net_node.specs.declared.joined.Joined.{Joined}
use Rattle.cb_net_node.specs.declared.link.SimulatedLink.{SimulatedLink}
use Rattle.cb_net_node.specs.declared.node.SimulatedNode.{SimulatedNode}
use Rattle.cb_net_node.specs.declared.traffic.Traffic.{Traffic}
use Rattle.cb_net.specs.Counting.{Counted, by_an_honest_node, by_another_node, message_on, nobody_sent, nothing_sent, sender_of, sender_on}

-- by its parts
counts_as : (link : Option SimulatedLink) (nodes : List SimulatedNode) (to : Side) (turn : ℕ) (old new : Traffic) (sender : Option SimulatedNode) (message : Option Message) → sender_on link to nodes ≡ sender → message_on link to turn ≡ message → Counted sender message old new
    → Counted (sender_on link to nodes) (message_on link to turn) old new
counts_as link nodes to turn old new sender message by is counted =
    let P : Option SimulatedNode → Type 0 = λ one. Counted one (message_on link to turn) old new in
    let Q : Option Message → Type 0 = λ one. Counted sender one old new in
    subst P (sym by) (subst Q (sym is) counted)

-- nothing is on its way there
pub none_counted : (links : List SimulatedLink) (nodes : List SimulatedNode) (place : ℕ) (to : Side) (turn : ℕ) (traffic : Traffic) (of : List SimulatedLink) → of ≡ links → None ≡ message_on (slice_get of place) to turn
    → Counted (sender_on (slice_get links place) to nodes) (message_on (slice_get links place) to turn) traffic traffic
none_counted links nodes place to turn traffic of same is =
    counts_as (slice_get links place) nodes to turn traffic traffic _ None refl (sym (is ∙ ap (λ (list : List SimulatedLink). message_on (slice_get list place) to turn) same)) (nothing_sent _ traffic)

-- nobody sent it
pub no_sender : (links : List SimulatedLink) (nodes : List SimulatedNode) (place : ℕ) (to : Side) (turn : ℕ) (traffic : Traffic) (of : List SimulatedLink) → of ≡ links → None ≡ sender_of (slice_get of place) to
    → Counted (sender_on (slice_get links place) to nodes) (message_on (slice_get links place) to turn) traffic traffic
no_sender links nodes place to turn traffic of same none =
    counts_as (slice_get links place) nodes to turn traffic traffic None _
    (ap (option_and_then (λ (number : ℕ). slice_get nodes number)) (sym (none ∙ ap (λ (list : List SimulatedLink). sender_of (slice_get list place) to) same))) refl (nobody_sent _ traffic)

pub no_such_sender : (links : List SimulatedLink) (nodes : List SimulatedNode) (place : ℕ) (to : Side) (turn : ℕ) (traffic : Traffic) (of : List SimulatedLink) (number : ℕ) → of ≡ links → Some number ≡ sender_of (slice_get of place) to → length nodes ≤ number
    → Counted (sender_on (slice_get links place) to nodes) (message_on (slice_get links place) to turn) traffic traffic
no_such_sender links nodes place to turn traffic of number same is past =
    counts_as (slice_get links place) nodes to turn traffic traffic None _
    (ap (option_and_then (λ (one : ℕ). slice_get nodes one)) (sym (is ∙ ap (λ (list : List SimulatedLink). sender_of (slice_get list place) to) same)) ∙ slice_get_past nodes number past) refl (nobody_sent _ traffic)

-- it is there, and so is its sender
pub counted_here : (links : List SimulatedLink) (nodes : List SimulatedNode) (place : ℕ) (to : Side) (turn : ℕ) (old new : Traffic) (of by : List SimulatedLink) (number : ℕ) (node : SimulatedNode) (message : Message) → of ≡ links → by ≡ links
    → Some message ≡ message_on (slice_get of place) to turn → Some number ≡ sender_of (slice_get by place) to → number < length nodes → node ≡ get_or nodes number node → Counted (Some node) (Some message) old new
    → Counted (sender_on (slice_get links place) to nodes) (message_on (slice_get links place) to turn) old new
counted_here links nodes place to turn old new of by number node message same same' is sends low own counted =
    counts_as (slice_get links place) nodes to turn old new (Some node) (Some message)
    (ap (option_and_then (λ (one : ℕ). slice_get nodes one)) (sym (sends ∙ ap (λ (list : List SimulatedLink). sender_of (slice_get list place) to) same')) ∙ slice_get_read nodes (length nodes) number node refl low own)
    (sym (is ∙ ap (λ (list : List SimulatedLink). message_on (slice_get list place) to turn) same)) counted

-- one message, of a node
pub by_honest : (node : SimulatedNode) (message : Message) (old new : Traffic) → is_honest node ≡ true → Counts (row_of message) (length (payload_text message) + 24) old new → Counted (Some node) (Some message) old new
by_honest node message old new honest counts = by_an_honest_node node message old new honest counts

pub by_other : (node : SimulatedNode) (message : Message) (old : Traffic) → is_honest node ≡ false → Counted (Some node) (Some message) old old
by_other node message old honest = by_another_node node message old honest

-- what `message` returns
found_at : {A : Type 0} (r : Option (Bor A)) (xs : List A) (place : ℕ) → (IsSome r ↔ (place < length xs)) → IfSome r (λ one. one.now ≡ slice_index_or xs place one.now) → option_copied r ≡ slice_get xs place
found_at {A} None xs place within is =
    elim (slice_get_cases xs place).1 [ inl here ↦ (let no : is_some {T = Bor A} None ≡ true = within.1 here.1 in cc) | inr past ↦ sym past.1 ]
found_at (Some one) xs place within is = sym (slice_get_read xs (length xs) place one.now refl (within.0 refl) is)

pub found_on : (r : Option (Bor Message)) (link : SimulatedLink) (joined : Joined) (to : Side) (turn : ℕ) → Some joined ≡ present link → (IsSome r ↔ (turn < length (on_its_way joined to)))
    → IfSome r (λ one. one.now ≡ slice_index_or (on_its_way joined to) turn one.now) → option_copied r ≡ message_on (Some link) to turn
found_on r link joined to turn by within is =
    found_at r (on_its_way joined to) turn within is ∙ ap (option_and_then (λ (one : Joined). slice_get (on_its_way one to) turn)) by

pub found_nothing : (link : SimulatedLink) (to : Side) (turn : ℕ) → None ≡ present link → None ≡ message_on (Some link) to turn
found_nothing link to turn none = ap (option_and_then (λ (one : Joined). slice_get (on_its_way one to) turn)) none
