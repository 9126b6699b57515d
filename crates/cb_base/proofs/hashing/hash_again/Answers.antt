use Rattle.std.proofs.Common.{◌≡◌, ℕ, List, ◌++◌, length, sym, ap, subst, ◌∙◌, arith}
use Rattle.sha2.specs.Sha256.{compress, digest_bytes, final_hash, initial_hash_256, padding, sha256}
use Rattle.cb_base.specs.Lanes.{lane}
use Rattle.cb_base.proofs.Padded.{FitsWords, again_window, final_fits, hash_of_hash, sha_of_hash}
use Rattle.cb_base.proofs.hashing.hash_again.Goals as goal

pub returns : goal.returns
returns c k lt m held =
    let h : List ℕ = lane k c.args.state in
    let long : length c.args.state ≡ 8 = omega arith in
    let fits : FitsWords h = subst FitsWords (sym held) (final_fits m) in
    let hashed : sha256 m ≡ digest_bytes h 8 = sha_of_hash m ∙ ap (λ (x : List ℕ). digest_bytes x 8) (sym held) in
    c.compress.ensures k lt (digest_bytes h 8 ++ padding 32) (again_window k lt c.args.state long fits)
    ∙ ap (λ (x : List ℕ). compress x (digest_bytes h 8 ++ padding 32)) (c.initial_state.ensures k lt)
    ∙ sym (hash_of_hash h) ∙ ap (final_hash initial_hash_256) (sym hashed)
