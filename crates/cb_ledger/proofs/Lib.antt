pub mod Changes
pub mod FirstTouch
pub mod Lengths
pub mod Outpoints
pub mod Spending
pub mod Sums
pub mod Touching
pub mod Txs
