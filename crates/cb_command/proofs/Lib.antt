pub mod Entering
pub mod Options
pub mod Peers
pub mod Running
pub mod Telling
