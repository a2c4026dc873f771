pub use Rattle.module_vec.specs.ModuleVector
pub mod GroebnerBasis
pub mod PlainRun
pub mod Reducing
