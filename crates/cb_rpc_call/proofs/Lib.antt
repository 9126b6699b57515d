pub mod Adding
pub mod Amounts
pub mod Lists
pub mod Names
