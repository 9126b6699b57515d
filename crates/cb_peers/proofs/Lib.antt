pub mod Leaving
pub mod Seats
pub mod Served
pub mod Spelled
mod Walks
pub mod Writing
