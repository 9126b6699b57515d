pub mod Bytes
pub mod CompactSize
pub mod DoubleHash
pub mod Fault
pub mod Lanes
pub mod Reading
pub mod Seeding
pub mod SipHash
