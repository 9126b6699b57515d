-- Lines of several parts, as they are written: what is appended leans to the right, and a definition to the left.
use Rattle.std.proofs.Common.{◌≡◌, ℕ, List, ◌++◌, append_assoc, length, sym, ap, ◌∙◌}
use Rattle.std.specs.Prelude.{codes}
use Rattle.std.specs.Fmt.{decimal}
use Rattle.cb_base.specs.DoubleHash.{double_hash}
use Rattle.cb_base.specs.declared.hash.Hash256.{Hash256}
use Rattle.cb_block.specs.BlockText.{header_text}
use Rattle.cb_wire.specs.declared.block_transactions.BlockTransactionsRequest.{BlockTransactionsRequest}
use Rattle.cb_wire.specs.declared.compact_block.HeaderAndShortIds.{HeaderAndShortIds}
use Rattle.cb_commands.specs.Printed.{compact_block_line, counted_line, hash_shown, txs_request_line}

four : (old new a b c d : List ℕ) → new ≡ old ++ (a ++ (b ++ (c ++ d))) → new ≡ old ++ (a ++ b ++ c ++ d)
four old new a b c d e = e ∙ ap (λ (l : List ℕ). old ++ l) (sym (append_assoc (a ++ b) c d ∙ append_assoc a b (c ++ d)))

five : (old new a b c d f : List ℕ) → new ≡ old ++ (a ++ (b ++ (c ++ (d ++ f)))) → new ≡ old ++ (a ++ b ++ c ++ d ++ f)
five old new a b c d f e =
    e ∙ ap (λ (l : List ℕ). old ++ l) (sym (append_assoc ((a ++ b) ++ c) d f ∙ append_assoc (a ++ b) c (d ++ f) ∙ append_assoc a b (c ++ (d ++ f))))

-- a request for headers
pub counted : (old new : List ℕ) (count : ℕ) (stop : Hash256) (shown : List ℕ) → shown ≡ hash_shown stop → new ≡ old ++ (codes "getheaders " ++ (decimal count ++ (codes " " ++ (shown ++ codes "\n"))))
    → new ≡ old ++ counted_line count stop
counted old new count stop shown is e =
    five old new (codes "getheaders ") (decimal count) (codes " ") (hash_shown stop) (codes "\n")
    (e ∙ ap (λ (l : List ℕ). old ++ (codes "getheaders " ++ (decimal count ++ (codes " " ++ (l ++ codes "\n"))))) is)

-- a request for a block's transactions
pub requested : (old new : List ℕ) (count : ℕ) (request : BlockTransactionsRequest) (shown : List ℕ) → shown ≡ hash_shown request.block → count ≡ length request.differences
    → new ≡ old ++ (codes "getblocktxn " ++ (shown ++ (codes " " ++ (decimal count ++ codes "\n")))) → new ≡ old ++ txs_request_line request
requested old new count request shown is n e =
    let name = codes "getblocktxn " in
    let hash = hash_shown request.block in
    five old new name hash (codes " ") (decimal (length request.differences)) (codes "\n")
    (e ∙ ap (λ (l : List ℕ). old ++ (name ++ (l ++ (codes " " ++ (decimal count ++ codes "\n"))))) is
    ∙ ap (λ (c : ℕ). old ++ (name ++ (hash ++ (codes " " ++ (decimal c ++ codes "\n"))))) n)

-- a compact block, in two parts
pub compacted : (old mid new : List ℕ) (block : HeaderAndShortIds) (ids prefilled : ℕ) (shown : List ℕ) → shown ≡ hash_shown (double_hash (header_text block.header))
    → ids ≡ length block.txs.ids → prefilled ≡ length block.txs.prefilled
    → mid ≡ old ++ (codes "cmpctblock " ++ (shown ++ (codes " ids " ++ decimal ids))) → new ≡ mid ++ (codes " prefilled " ++ (decimal prefilled ++ codes "\n"))
    → new ≡ old ++ compact_block_line block
compacted old mid new block ids prefilled shown s i p m n =
    let name = codes "cmpctblock " in
    let hash = hash_shown (double_hash (header_text block.header)) in
    let told = decimal (length block.txs.ids) in
    let whole = decimal (length block.txs.prefilled) in
    let front = name ++ hash ++ codes " ids " ++ told in
    let behind = codes " prefilled " ++ (whole ++ codes "\n") in
    let first : mid ≡ old ++ front =
    four old mid name hash (codes " ids ") told
    (m ∙ ap (λ (l : List ℕ). old ++ (name ++ (l ++ (codes " ids " ++ decimal ids)))) s ∙ ap (λ (c : ℕ). old ++ (name ++ (hash ++ (codes " ids " ++ decimal c)))) i) in
    n ∙ ap (λ (c : ℕ). mid ++ (codes " prefilled " ++ (decimal c ++ codes "\n"))) p ∙ ap (λ (l : List ℕ). l ++ behind) first ∙ append_assoc old front behind
    ∙ ap (λ (l : List ℕ). old ++ l) (sym (append_assoc (front ++ codes " prefilled ") whole (codes "\n") ∙ append_assoc front (codes " prefilled ") (whole ++ codes "\n")))
