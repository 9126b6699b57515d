pub mod Bringing
pub mod Due
pub mod Flags
pub mod PeerWork
pub mod Seen
pub mod SharedHall
