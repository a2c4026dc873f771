pub use Rattle.ibp_algebra.specs.FormalSum
pub use Rattle.ibp_algebra.specs.Spans
pub use Rattle.sector_lattice.specs.Orders
pub use Rattle.sector_lattice.specs.Sectors
pub mod Rows
pub mod Equality
