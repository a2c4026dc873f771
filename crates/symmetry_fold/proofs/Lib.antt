pub mod ImageRanges
pub mod Lowest
pub mod ImageSectors
pub mod SymmetryTests
pub mod FirstBroken
pub mod ImageLaws
pub mod OneFold
