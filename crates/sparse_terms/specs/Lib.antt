pub use Rattle.ibp_algebra.specs.FormalSum
