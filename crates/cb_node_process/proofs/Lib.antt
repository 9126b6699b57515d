pub mod Endings
pub mod Printing
pub mod Runs
