pub mod Jobs
pub mod Portions
pub mod Seats
pub mod Shelf
