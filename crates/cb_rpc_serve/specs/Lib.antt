pub mod Service
pub mod Serving
pub mod Starting
pub mod Words
