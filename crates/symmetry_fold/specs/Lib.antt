pub use Rattle.family.specs.FamilyData
pub use Rattle.family.specs.FamilyView
pub use Rattle.family.specs.Permutation
pub use Rattle.ibp_algebra.specs.Laurent
pub use Rattle.sector_lattice.specs.Sectors
pub mod Images
pub mod Symmetries
pub mod Folding
