pub mod CapsWithin
pub mod EntryOfSector
pub mod InPlace
pub mod Places
pub mod SameFamily
