pub mod Arithmetic
