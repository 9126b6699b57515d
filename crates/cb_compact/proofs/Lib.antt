mod Asked
mod Counted
pub mod Honest
pub mod Indexes
mod Leading
pub mod Matching
pub mod OnlyTold
pub mod OwnPairs
pub mod Seen
mod Sending
mod Settling
pub mod Slotting
pub mod Tabling
