pub mod Choices
pub mod Choosing
pub mod Refusing
pub mod Windows
