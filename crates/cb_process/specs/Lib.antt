pub mod Dialling
pub mod Doors
pub mod Limits
pub mod OwnAddress
pub mod Places
pub mod Process
pub mod Starting
pub mod Watching
