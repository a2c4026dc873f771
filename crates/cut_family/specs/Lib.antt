pub use Rattle.family.specs.FamilyView
pub mod Places
pub mod Cutting
pub mod Lifting
