pub mod Keeping
pub mod Places
pub mod Renewing
pub mod Serving
pub mod Starting
pub mod Ticking
