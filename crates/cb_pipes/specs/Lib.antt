pub mod LastSecond
pub mod Logging
pub mod Pacing
