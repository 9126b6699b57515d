pub mod Headline
pub mod Reading
pub mod Seat
