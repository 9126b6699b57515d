pub mod Completing
mod Ending
pub mod Lights
