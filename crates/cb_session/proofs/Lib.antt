pub mod Accounts
pub mod Ending
pub mod Inputs
pub mod Pieces
pub mod Standing
mod Walks
