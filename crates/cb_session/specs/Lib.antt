pub mod Conversation
pub mod Input
pub mod Putting
pub mod Reading
pub mod Serving
