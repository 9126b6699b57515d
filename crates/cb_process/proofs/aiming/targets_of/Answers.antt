use Rattle.std.proofs.Common.{rules, ◌≡◌, ◌+◌, ◌<◌, ◌≤◌, List, arith, length, subst, sym, take, vec_capacity, vec_len}
use Rattle.std.proofs.lemmas.List.{take_more}
use Rattle.std.specs.declared.net.socket_addr.SocketAddr.{SocketAddr}
use Rattle.cb_process.specs.Dialling.{AreDialled, addresses_of}
use Rattle.cb_process.proofs.aiming.targets_of.Goals as goal

pub loop-address-preserved : goal.loop-address-preserved
loop-address-preserved c =
    let within : c.loop-address.address-index < length c.args.addresses.now = search rules in
    let before : vec_len c.loop-address.targets ≤ c.loop-address.address-index = c.loop-address.invariant.0 in
    let one : vec_len c.aim.new.targets ≤ vec_len c.loop-address.targets + 1 = c.aim.ensures.count in
    let room : length c.args.addresses.now ≤ vec_capacity c.loop-address.targets = c.loop-address.invariant.1 in
    let same : vec_capacity c.aim.new.targets ≡ vec_capacity c.loop-address.targets = c.aim.ensures.capacity in (
      omega arith,
      omega arith,
      subst (λ (asked : List SocketAddr). AreDialled c.args.own asked (addresses_of c.aim.new.targets.items)) (sym (take_more c.args.addresses.now c.loop-address.address-index _ within)) (c.aim.ensures.dialled (take c.loop-address.address-index c.args.addresses.now) c.loop-address.invariant.2),
    )
