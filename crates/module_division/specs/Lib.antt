pub use Rattle.module_vec.specs.Division
pub use Rattle.module_vec.specs.ModuleVector
pub use Rattle.mono_order.specs.Term
