-- What is told of a block.
use Rattle.std.proofs.Common.{◌≡◌, ℕ, ◌≤◌, true, Result, Ok, Err, IfOk, refl, subst, sym, arith}
use Rattle.cb_base.specs.declared.fault.Fault.{Fault}
use Rattle.cb_block.specs.declared.block.Block.{Block}
use Rattle.cb_net_node.specs.declared.results.BlockResult.{BlockResult}
use Rattle.cb_net.specs.Counting.{is_honest_at}
use Rattle.cb_net.specs.Moments.{roles_in}
use Rattle.cb_net.specs.Results.{IsResult, IsTold, hash_of}
use Rattle.cb_net.specs.declared.world.World.{World}

-- an honest node mined it meanwhile
told_of : (old new : World) (number miner mined : ℕ) (block : Block) (told : BlockResult) → is_honest_at (roles_in new.nodes.items) miner ≡ true → new.block ≡ hash_of block → old.queue.time ≤ mined
    → mined ≤ new.queue.time → IsTold new number miner mined block told → IsResult old new told
told_of old new number miner mined block told honest relayed later before tells =
    let P : ℕ → Type 0 = λ one. is_honest_at (roles_in new.nodes.items) one ≡ true in
    record {
      honest = subst P (sym tells.miner_is) honest;
      block = block;
      relayed = relayed;
      mined = mined;
      later = later;
      before = before;
      tells = record {
        number_is = refl;
        miner_is = refl;
        transactions = tells.transactions;
        arrivals = tells.arrivals;
        are = tells.are;
        half = tells.half;
        most = tells.most;
        all = tells.all;
        reached = tells.reached;
        once = tells.once;
        asked = tells.asked;
        whole = tells.whole;
        traffic = tells.traffic;
      };
    }

pub told_is_result : (r : Result BlockResult Fault) (old new : World) (number miner mined : ℕ) (block : Block) → is_honest_at (roles_in new.nodes.items) miner ≡ true → new.block ≡ hash_of block → old.queue.time ≤ mined
    → mined ≤ new.queue.time → IfOk r (λ told. IsTold new number miner mined block told) → IfOk r (IsResult old new)
told_is_result (Ok told) old new number miner mined block honest relayed later before tells = told_of old new number miner mined block told honest relayed later before tells
told_is_result (Err fault) old new number miner mined block honest relayed later before tells = tt

-- whose number it has
pub numbered : (r : Result BlockResult Fault) (new : World) (number miner mined : ℕ) (block : Block) → IfOk r (λ told. IsTold new number miner mined block told) → IfOk r (λ told. told.number ≡ number)
numbered (Ok told) new number miner mined block tells = tells.number_is
numbered (Err fault) new number miner mined block tells = tt

-- and what went before it
result_since : (before old new : World) (told : BlockResult) → before.queue.time ≤ old.queue.time → IsResult old new told → IsResult before new told
result_since before old new told earlier result =
    record {
      honest = result.honest;
      block = result.block;
      relayed = result.relayed;
      mined = result.mined;
      later = omega (arith, earlier, result.later);
      before = result.before;
      tells = result.tells;
    }

pub results_since : (r : Result BlockResult Fault) (before old new : World) → before.queue.time ≤ old.queue.time → IfOk r (IsResult old new) → IfOk r (IsResult before new)
results_since (Ok told) before old new earlier result = result_since before old new told earlier result
results_since (Err fault) before old new earlier result = tt
