pub mod Striking
pub mod RowSums
