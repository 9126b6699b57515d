pub mod Finished
pub mod Linking
mod Lowest
mod Placing
mod Seatings
mod Slots
pub mod Times
