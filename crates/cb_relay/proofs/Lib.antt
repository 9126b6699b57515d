mod Asking
mod Judging
mod Knowing
pub mod Lying
mod Pairing
mod Placing
mod Sounding
mod Writing
