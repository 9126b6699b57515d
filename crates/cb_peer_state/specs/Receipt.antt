-- That a message was taken.
use Rattle.std.specs.Prelude.{ℕ}
use Rattle.cb_wire.specs.declared.message.Message.{Message}

-- This message was taken, and so many bytes of it were written, as far as the sink can tell.
pub record ReceiptState : Type 0 where
  pub message : Message
  pub written : ℕ
