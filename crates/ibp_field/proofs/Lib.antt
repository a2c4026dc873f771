pub mod Congruence
pub mod Prime
pub mod Inverse
pub mod InverseOf
