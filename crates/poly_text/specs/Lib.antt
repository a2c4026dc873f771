pub use Rattle.ibp_algebra.specs.ExponentOrder
pub use Rattle.ibp_algebra.specs.Exponents
pub use Rattle.ibp_algebra.specs.FormalSum
pub use Rattle.ibp_algebra.specs.Polynomial
pub mod Token
pub mod Tree
pub mod Spelling
pub mod Faults
pub mod Value
pub mod PolyText
pub mod Answer
-- the reader's own, for what stands below `parse_poly`
pub mod Scanning
pub mod Grammar
pub mod Symbols
pub mod Reading
pub mod Told
pub mod Sum
