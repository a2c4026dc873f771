pub mod Fronts
pub mod Entries
pub mod Lines
pub mod Sections
