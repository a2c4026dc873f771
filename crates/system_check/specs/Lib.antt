pub mod Answers
pub mod Rightness
pub mod Checking
