pub mod PlaceLaws
pub mod Ranges
mod MoreTerms
pub mod Limits
pub mod Distinct
pub mod CutLimits
pub mod OneCut
