pub mod Counts
pub mod Going
pub mod Keeping
pub mod Obeying
pub mod Reporting
pub mod Summing
pub mod Walks
