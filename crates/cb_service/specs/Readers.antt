-- The threads of readers.
use Rattle.std.specs.declared.thread.PromisedHandle.{PromisedHandle}
use Rattle.cb_crew.specs.declared.queued.Queued.{Queued}
use Rattle.cb_crew.specs.Seat.{InboxState, SeatState}
use Rattle.cb_service.specs.declared.promises.OfReader.{OfReader}
use Rattle.cb_service.specs.declared.promises.ReaderEnd.{ReaderEnd}

-- whose thread it is: the inbox of its reader
abbrev pub inbox_for : {W M K : Type 0} → PromisedHandle (ReaderEnd M W K) (OfReader W K M)
    → InboxState
inbox_for thread = thread.promise.inbox.value

-- and the seat with which it was started
abbrev pub seat_for : {W M K : Type 0} → PromisedHandle (ReaderEnd M W K) (OfReader W K M)
    → SeatState (Queued M W)
seat_for thread = thread.promise.seat.value
