-- Lists of links, works and connections in one order.
use Rattle.std.proofs.Common.{◌≡◌, ℕ, suc, ◌+◌, ◌*◌, List, [], ◌∷◌, ◌++◌, length, map, slice_index_or, drop, Option, Some, None, sym, ap, subst, ◌∙◌, append_assoc}
use Rattle.std.specs.Prelude.{option_map, ◌%◌, ◌^◌}
use Rattle.std.specs.List.{range_with_len}
use Rattle.std.proofs.lemmas.List.{map-append}
use Rattle.cb_state.specs.declared.connection.Connection.{Connection}
use Rattle.cb_work.specs.PeerWork.{label_of}
use Rattle.cb_peers.specs.declared.link.Link.{Link}
use Rattle.cb_node.specs.Linking.{IsLinkOf, link_label}
use Rattle.cb_node.specs.Slot.{IsLinkIn}

abbrev pub peer_of : Link → ℕ
peer_of link = link.peer

-- the label of a connection's work is that of its link
pub label_is : (connection : Connection) (link : Link) → IsLinkOf connection link → label_of connection ≡ link_label link
label_is connection link is =
    ap (λ (p : ℕ). (connection.generation * 65536 + p) % 2 ^ 64) (sym is.0) ∙ ap (λ (g : ℕ). (g * 65536 + link.peer) % 2 ^ 64) (sym is.1)

-- one more moves from what is left to what is done
pub moved : {S T N : Type 0} (f : S → N) (g : T → N) (done new : List S) (s : S) (t : T) (rest left : List T) (all : List N)
    → map f done ++ map g rest ≡ all → rest ≡ t ∷ left → new ≡ done ++ s ∷ [] → f s ≡ g t → map f new ++ map g left ≡ all
moved f g done new s t rest left all was steps pushed same =
    ap (λ xs. map f xs ++ map g left) pushed
    ∙ ap (λ xs. xs ++ map g left) (map-append f done (s ∷ [])) ∙ append_assoc (map f done) (f s ∷ []) (map g left)
    ∙ ap (λ n. map f done ++ n ∷ map g left) same ∙ ap (λ r. map f done ++ map g r) (sym steps) ∙ was

-- in a list whose numbers rise from k, the first has the number k, and those behind it rise on
pub first_number : {L : Type 0} (f : L → ℕ) (k n : ℕ) (links left : List L) (link : L) → map f links ≡ range_with_len k n → links ≡ link ∷ left → (n ≡ suc (length left)) → f link ≡ k
first_number f k n links left link are steps count =
    ap (λ ns. slice_index_or ns 0 (f link)) (sym (ap (map f) steps) ∙ are ∙ ap (range_with_len k) count)

pub later_numbers : {L : Type 0} (f : L → ℕ) (k n : ℕ) (links left : List L) (link : L) → map f links ≡ range_with_len k n → links ≡ link ∷ left → (n ≡ suc (length left)) → map f left ≡ range_with_len (k + 1) (length left)
later_numbers f k n links left link are steps count =
    ap (drop 1) (sym (ap (map f) steps) ∙ are ∙ ap (range_with_len k) count)

-- ---- the connection that stands ready in a slot

pub in_slot : {N : Type 0} (link_of : N → Link) (slot : ℕ) (next : Option N) (one : N) → IsLinkIn slot (option_map link_of next) → next ≡ Some one → (link_of one).peer ≡ slot
in_slot link_of slot next one is same = subst (λ ready. IsLinkIn slot (option_map link_of ready)) same is

pub none_in_slot : {N : Type 0} (link_of : N → Link) (slot : ℕ) (next : Option N) → next ≡ None → IsLinkIn slot (option_map link_of next)
none_in_slot link_of slot next none = subst (λ ready. IsLinkIn slot (option_map link_of ready)) (sym none) tt
