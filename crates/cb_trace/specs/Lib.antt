pub mod Blocks
pub mod Fold
pub mod Granting
pub mod Kept
pub mod Laws
pub mod Prompt
pub mod Trace
pub mod Whole
