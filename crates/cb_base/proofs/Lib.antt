pub mod Compact
pub mod CutTexts
pub mod Fields
pub mod Hashes
pub mod Known
pub mod LaneLemmas
pub mod Padded
mod PaddingRounds
mod Rotations
pub mod SipWords
pub mod Unpaid
pub mod Writes
