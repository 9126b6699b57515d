pub mod Answered
pub mod Counting
pub mod Members
