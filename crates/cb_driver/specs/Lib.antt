pub mod Auditing
pub mod Deeds
pub mod Playing
pub mod Summary
