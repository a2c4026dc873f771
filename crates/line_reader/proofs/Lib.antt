pub mod SectionLaws
pub mod Many
pub mod Digits
pub mod Words
pub mod Cutting
pub mod Loops
pub mod Signs
pub mod Separated
