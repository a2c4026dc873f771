pub use Rattle.ibp_algebra.specs.Exponents
pub mod Monomial
pub mod PartialSums
pub mod Term
pub mod MonomialOrder
pub mod TermOrder
pub mod MonomialLaws
pub mod BlockOrders
