pub mod Tests
pub mod Members
pub mod Ascending
pub mod Zips
