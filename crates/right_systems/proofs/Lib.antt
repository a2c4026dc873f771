pub mod Corners
pub mod RunDegrees
pub mod SectorDegrees
pub mod RowIntegrals
pub mod WorkRows
pub mod ReductionValues
pub mod SystemValue
pub mod SystemRight
