pub mod PickedPlaces
pub mod Reducing
pub mod TargetRows
