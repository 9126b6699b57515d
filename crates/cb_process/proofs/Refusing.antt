-- These refusals tell that the line could be read.
use Rattle.std.proofs.Common.{◌≢◌}
use Rattle.cb_control.specs.declared.refusal.Refusal.TheVariants as refusals

pub memory_is_known : refusals.Memory ≢ refusals.Unreadable
memory_is_known e = absurd cc

pub no_slot_is_known : refusals.NoSlot ≢ refusals.Unreadable
no_slot_is_known e = absurd cc

pub already_is_known : refusals.Already ≢ refusals.Unreadable
already_is_known e = absurd cc

pub own_is_known : refusals.Own ≢ refusals.Unreadable
own_is_known e = absurd cc

pub not_dialled_is_known : refusals.NotDialled ≢ refusals.Unreadable
not_dialled_is_known e = absurd cc

pub off_is_known : refusals.Off ≢ refusals.Unreadable
off_is_known e = absurd cc
