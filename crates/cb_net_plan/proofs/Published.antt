-- The numbers of the seed 1234567 are those that are published for SplitMix64.
use Rattle.std.proofs.Common.{◌≡◌, refl}
use Rattle.cb_net_plan.specs.declared.draws.Draws.{Draws}
use Rattle.cb_net_plan.specs.Draws.{after, first_number, mixed}

seed : Draws
seed = record { state = 1234567 }

first : first_number seed ≡ 6457827717110365317
unfolding seed first_number after mixed
first = refl

second : first_number (after seed) ≡ 3203168211198807973
unfolding seed first_number after mixed
second = refl

third : first_number (after (after seed)) ≡ 9817491932198370423
unfolding seed first_number after mixed
third = refl

fourth : first_number (after (after (after seed))) ≡ 4593380528125082431
unfolding seed first_number after mixed
fourth = refl

fifth : first_number (after (after (after (after seed)))) ≡ 16408922859458223821
unfolding seed first_number after mixed
fifth = refl
