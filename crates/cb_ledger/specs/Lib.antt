pub mod Spend
pub mod Touched
pub mod Undo
pub mod Unspent
