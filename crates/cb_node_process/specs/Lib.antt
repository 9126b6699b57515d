pub mod Suiting
pub mod Telling
