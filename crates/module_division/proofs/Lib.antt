pub mod Prefixes
pub mod SVectors
pub mod Remainders
