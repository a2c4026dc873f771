pub use Rattle.family.specs.FamilyView
pub mod Reductions
