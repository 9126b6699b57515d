-- The order that is read of a line is the one that the line gives.
use Rattle.std.proofs.Common.{◌≡◌, ℕ, ◌^◌, Bool, true, false, List, ◌∷◌, ◌++◌, Option, Some, None, Result, Ok, Err, IfOk, option_map, refl, sym, ap, subst, ◌∙◌, inl, inr}
use Rattle.std.specs.Prelude.{IfSome, codes}
use Rattle.std.specs.Str.{bytes_eq, IsUtf8}
use Rattle.std.proofs.lemmas.Bool.{false≢true}
use Rattle.std.specs.Net.Grammar.{IsSocketText}
use Rattle.std.specs.declared.net.socket_addr.SocketAddr.{SocketAddr}
use Rattle.std.proofs.lemmas.Slice.Eq.{bytes_eq-Decides}
use Rattle.cb_base.specs.declared.fault.Fault.{Fault}
use Rattle.cb_control.specs.Words.{cut_of, number_in}
use Rattle.cb_control.proofs.WordLemmas.{cut_parts, none_is_no_some}
use Rattle.cb_control.specs.declared.order.Deed.TheVariants as deeds
use Rattle.cb_control.specs.declared.order.Order.{Order}
use Rattle.cb_control.specs.declared.order.Order.TheVariants as orders
use Rattle.cb_control.specs.OrderLine.{GivesOrder, ReadsOrder, on_off}
use Rattle.cb_control.specs.OrderReading.{IsAddress, IsCut, IsLine, IsNamed, order_with, plain_order, switch_in}
use Rattle.cb_control.specs.Written.{block_in, hash_in, tx_in}
use Rattle.cb_control.proofs.Found.{by_map, by_word}

-- ---- what is read is given

-- the order of one word
plain_gives : (line : List ℕ) → IfSome (plain_order line) (λ order. GivesOrder line order)
plain_gives line =
    by_word (λ order. GivesOrder line order) line (codes "tip") (Some orders.Tip) _ (λ e. e)
    (by_word (λ order. GivesOrder line order) line (codes "mine") (Some (orders.Do (deeds.Mine 1))) _ (λ e. inl (e, refl))
    (by_word (λ order. GivesOrder line order) line (codes "pool") (Some orders.Pool) _ (λ e. e)
    (by_word (λ order. GivesOrder line order) line (codes "peers") (Some orders.Peers) _ (λ e. e)
    (by_word (λ order. GivesOrder line order) line (codes "checkpoint") (Some (orders.Do deeds.Checkpoint)) _ (λ e. e)
    (by_word (λ order. GivesOrder line order) line (codes "stats") (Some orders.Stats) _ (λ e. e)
    (by_word (λ order. GivesOrder line order) line (codes "restart") (Some orders.Restart) _ (λ e. e)
    (by_word (λ order. GivesOrder line order) line (codes "quit") (Some orders.Quit) _ (λ e. e) tt)))))))

at_some : {A : Type 0} (P : A → Type 0) (o : Option A) (a : A) → Some a ≡ o → IfSome o P → P a
at_some P o a e h = subst (λ x. IfSome x P) (sym e) h

-- `on` and `off`
switch_gives : (rest : List ℕ) → IfSome (switch_in rest) (λ on. rest ≡ on_off on)
switch_gives rest =
    by_word (λ on. rest ≡ on_off on) rest (codes "on") (Some true) _ (λ e. e)
    (by_word (λ on. rest ≡ on_off on) rest (codes "off") (Some false) _ (λ e. e) tt)

network_gives : (word rest : List ℕ) (on : Bool) → word ≡ codes "network" → switch_in rest ≡ Some on → GivesOrder (word ++ 32 ∷ rest) (orders.Network on)
network_gives word rest on same is =
    ap (λ w. w ++ 32 ∷ rest) same ∙ ap (λ r. codes "network " ++ r) (at_some (λ o. rest ≡ on_off o) (switch_in rest) on (sym is) (switch_gives rest))

-- the order of a word and what stands behind it
with_gives : (word rest : List ℕ) → IfSome (order_with word rest) (λ order. GivesOrder (word ++ 32 ∷ rest) order)
with_gives word rest =
    let P : Order → Type 0 = λ order. GivesOrder (word ++ 32 ∷ rest) order in
    by_word P word (codes "block") (option_map (λ hash. orders.Block hash) (hash_in rest)) _ (λ e. by_map P (hash_in rest) (λ hash. orders.Block hash) (λ hash is. (rest, ap (λ w. w ++ 32 ∷ rest) e, is)))
    (by_word P word (codes "tx") (option_map (λ tx. orders.Do (deeds.Tx tx)) (tx_in rest)) _ (λ e. by_map P (tx_in rest) (λ tx. orders.Do (deeds.Tx tx)) (λ tx is. (rest, ap (λ w. w ++ 32 ∷ rest) e, is)))
    (by_word P word (codes "submit-block") (option_map (λ block. orders.Do (deeds.Submit block)) (block_in rest)) _ (λ e. by_map P (block_in rest) (λ block. orders.Do (deeds.Submit block)) (λ block is. (rest, ap (λ w. w ++ 32 ∷ rest) e, is)))
    (by_word P word (codes "mine") (option_map (λ count. orders.Do (deeds.Mine count)) (number_in 1001 rest)) _ (λ e. by_map P (number_in 1001 rest) (λ count. orders.Do (deeds.Mine count)) (λ count is. inr (rest, ap (λ w. w ++ 32 ∷ rest) e, is)))
    (by_word P word (codes "kick") (option_map (λ slot. orders.Do (deeds.Kick slot)) (number_in (2 ^ 16) rest)) _ (λ e. by_map P (number_in (2 ^ 16) rest) (λ slot. orders.Do (deeds.Kick slot)) (λ slot is. (rest, ap (λ w. w ++ 32 ∷ rest) e, is)))
    (by_word P word (codes "network") (option_map (λ on. orders.Network on) (switch_in rest)) _ (λ e. by_map P (switch_in rest) (λ on. orders.Network on) (λ on is. network_gives word rest on e is)) tt)))))

-- a word with an address behind it
addressed_gives : (P : Order → Type 0) (make : SocketAddr → Order) (rest : List ℕ) (found : Option SocketAddr) (order : Order) → ((address : SocketAddr) → IsSocketText rest address → P (make address)) → IsAddress rest found → Some order ≡ option_map make found → P order
addressed_gives P make rest None order f isnt is = absurd (none_is_no_some order (sym is))
addressed_gives P make rest (Some address) order f spelled is = at_some P (Some (make address)) order is (f address spelled)

named_gives : (word rest : List ℕ) (order : Order) → IsNamed word rest (Some order) → GivesOrder (word ++ 32 ∷ rest) order
named_gives word rest order (inl (same, (found, spelled, is))) =
    addressed_gives (λ o. GivesOrder (word ++ 32 ∷ rest) o) (λ a. orders.Connect a) rest found order (λ address spells. (rest, ap (λ w. w ++ 32 ∷ rest) ((bytes_eq-Decides word (codes "connect")).0 same), spells)) spelled is
named_gives word rest order (inr (inl (same, (found, spelled, is)))) =
    addressed_gives (λ o. GivesOrder (word ++ 32 ∷ rest) o) (λ a. orders.Disconnect a) rest found order (λ address spells. (rest, ap (λ w. w ++ 32 ∷ rest) ((bytes_eq-Decides word (codes "disconnect")).0 same), spells)) spelled is
named_gives word rest order (inr (inr (other, more, is))) = at_some (λ o. GivesOrder (word ++ 32 ∷ rest) o) (order_with word rest) order is (with_gives word rest)

cut_gives : (line : List ℕ) (order : Order) (cut : Option (List ℕ × List ℕ)) → cut_of line ≡ cut → IsCut line cut (Some order) → GivesOrder line order
cut_gives line order None none is = at_some (λ o. GivesOrder line o) (plain_order line) order is (plain_gives line)
cut_gives line order (Some parts) cut is = subst (λ l. GivesOrder l order) (sym (cut_parts line parts cut)) (named_gives parts.0 parts.1 order is)

-- ---- what is given is read

named_read : (word text : List ℕ) (order : Order) → bytes_eq word (codes "connect") ≡ false → bytes_eq word (codes "disconnect") ≡ false → order_with word text ≡ Some order → IsNamed word text None → ⊥
named_read word text order other more is (inl (same, none)) = absurd (false≢true (sym other ∙ same))
named_read word text order other more is (inr (inl (same, none))) = absurd (false≢true (sym more ∙ same))
named_read word text order other more is (inr (inr (different, differs, none))) = none_is_no_some order (none ∙ is)

addressed_read : (make : SocketAddr → Order) (text : List ℕ) (found : Option SocketAddr) (address : SocketAddr) → IsSocketText text address → IsAddress text found → None ≡ option_map make found → ⊥
addressed_read make text None address spelled isnt none = isnt address spelled
addressed_read make text (Some found) address spelled is none = none_is_no_some (make found) none

connect_read : (text : List ℕ) (address : SocketAddr) → IsSocketText text address → IsNamed (codes "connect") text None → ⊥
connect_read text address spelled (inl (same, (found, is, none))) = addressed_read (λ a. orders.Connect a) text found address spelled is none
connect_read text address spelled (inr (inl (same, none))) = absurd (false≢true same)
connect_read text address spelled (inr (inr (different, differs, none))) = absurd (false≢true (sym different))

disconnect_read : (text : List ℕ) (address : SocketAddr) → IsSocketText text address → IsNamed (codes "disconnect") text None → ⊥
disconnect_read text address spelled (inl (same, none)) = absurd (false≢true same)
disconnect_read text address spelled (inr (inl (same, (found, is, none)))) = addressed_read (λ a. orders.Disconnect a) text found address spelled is none
disconnect_read text address spelled (inr (inr (different, differs, none))) = absurd (false≢true (sym differs))

network_read : (on : Bool) → IsLine (codes "network " ++ on_off on) None → ⊥
network_read true = named_read (codes "network") (codes "on") (orders.Network true) refl refl refl
network_read false = named_read (codes "network") (codes "off") (orders.Network false) refl refl refl

none_given : (line : List ℕ) → IsLine line None → (order : Order) → GivesOrder line order → ⊥
none_given line read orders.Tip e = none_is_no_some orders.Tip (subst (λ l. IsLine l None) e read)
none_given line read (orders.Block hash) (text, e, is) = named_read (codes "block") text (orders.Block hash) refl refl (ap (option_map (λ h. orders.Block h)) is) (subst (λ l. IsLine l None) e read)
none_given line read (orders.Do (deeds.Tx tx)) (text, e, is) = named_read (codes "tx") text (orders.Do (deeds.Tx tx)) refl refl (ap (option_map (λ t. orders.Do (deeds.Tx t))) is) (subst (λ l. IsLine l None) e read)
none_given line read (orders.Do (deeds.Submit block)) (text, e, is) = named_read (codes "submit-block") text (orders.Do (deeds.Submit block)) refl refl (ap (option_map (λ b. orders.Do (deeds.Submit b))) is) (subst (λ l. IsLine l None) e read)
none_given line read (orders.Do (deeds.Mine count)) (inl (e, one)) = none_is_no_some (orders.Do (deeds.Mine 1)) (subst (λ l. IsLine l None) e read)
none_given line read (orders.Do (deeds.Mine count)) (inr (text, e, is)) = named_read (codes "mine") text (orders.Do (deeds.Mine count)) refl refl (ap (option_map (λ c. orders.Do (deeds.Mine c))) is) (subst (λ l. IsLine l None) e read)
none_given line read orders.Pool e = none_is_no_some orders.Pool (subst (λ l. IsLine l None) e read)
none_given line read orders.Peers e = none_is_no_some orders.Peers (subst (λ l. IsLine l None) e read)
none_given line read (orders.Do (deeds.Kick slot)) (text, e, is) = named_read (codes "kick") text (orders.Do (deeds.Kick slot)) refl refl (ap (option_map (λ s. orders.Do (deeds.Kick s))) is) (subst (λ l. IsLine l None) e read)
none_given line read (orders.Connect address) (text, e, spelled) = connect_read text address spelled (subst (λ l. IsLine l None) e read)
none_given line read (orders.Disconnect address) (text, e, spelled) = disconnect_read text address spelled (subst (λ l. IsLine l None) e read)
none_given line read (orders.Network on) e = network_read on (subst (λ l. IsLine l None) e read)
none_given line read (orders.Do deeds.Checkpoint) e = none_is_no_some (orders.Do deeds.Checkpoint) (subst (λ l. IsLine l None) e read)
none_given line read orders.Stats e = none_is_no_some orders.Stats (subst (λ l. IsLine l None) e read)
none_given line read orders.Restart e = none_is_no_some orders.Restart (subst (λ l. IsLine l None) e read)
none_given line read orders.Quit e = none_is_no_some orders.Quit (subst (λ l. IsLine l None) e read)

-- ---- a line

line_reads : (line : List ℕ) (read : Option Order) → IsUtf8 line → IsLine line read → ReadsOrder line read
line_reads line None utf8 is = λ order utf8. none_given line is order
line_reads line (Some order) utf8 is = (utf8, cut_gives line order (cut_of line) refl is)

-- the same of what a reading comes to
pub order_is_read : (line text : List ℕ) (r : Result (Option Order) Fault) → text ≡ line → IsUtf8 line → IfOk r (λ read. IsLine text read) → IfOk r (λ read. ReadsOrder line read)
order_is_read line text (Ok read) same utf8 is = line_reads line read utf8 (subst (λ t. IsLine t read) same is)
order_is_read line text (Err fault) same utf8 is = tt
