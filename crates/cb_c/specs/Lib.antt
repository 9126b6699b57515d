pub mod Answers
pub mod CompactFields
pub mod Giving
pub mod Naming
pub mod Status
