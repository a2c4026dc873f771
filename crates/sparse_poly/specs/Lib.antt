pub use Rattle.ibp_algebra.specs.ExponentOrder
pub use Rattle.ibp_algebra.specs.Exponents
pub use Rattle.ibp_algebra.specs.FormalSum
pub use Rattle.ibp_algebra.specs.Polynomial
pub mod Equality
