pub mod Folding
pub mod Leaving
pub mod Listing
pub mod Rules
pub mod Staying
pub mod Touching
pub mod Values
