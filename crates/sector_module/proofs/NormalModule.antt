-- The canonical forms of some vectors generate the same module as the vectors.
use Rattle.std.proofs.Common.{◌≡◌, ℕ, ◌↔◌, List, map, sym, refl}
use Rattle.std.specs.List.{Contains}
use Rattle.std.specs.declared.cmp.Ordering.{Ordering}
use Rattle.std.specs.Prelude.{Bool}
use Rattle.ibp_base.proofs.Members.{from_map, in_map}
use Rattle.ibp_algebra.specs.FormalSum.{AllKeys, normal_form}
use Rattle.ibp_algebra.proofs.NormalForm.{AllKeys-normal_form}
use Rattle.ibp_algebra.proofs.SumLaws.{SameCoefficients-sym}
use Rattle.mono_order.specs.Term.{Term, IsTerm}
use Rattle.mono_order.specs.TermOrder.{IsTermOrder}
use Rattle.module_vec.specs.ModuleVector.{ModuleVector, IsMember}
use Rattle.module_vec.proofs.NormalForms.{SameVector-normal}
use Rattle.module_vec.proofs.Submodules.{IsMember-same, IsMember-generator, IsMember-least, IsSubmodule-IsMember}

module _ {variables : ℕ} {order : Term → Term → Ordering} {high : ℕ → Bool} {height : Term → ℕ} {bound : ℕ}
    (laws : IsTermOrder variables order high height bound) (raw : List ModuleVector) (valid : (r : ModuleVector) → Contains raw r → AllKeys (IsTerm variables) r) where
  pub normal_module : (v : ModuleVector) → IsMember variables (map (normal_form order) raw) v ↔ IsMember variables raw v
  normal_module v =
      let normal = normal_form order in
      let gs = map normal raw in (
        IsMember-least variables gs (IsMember variables raw) (IsSubmodule-IsMember variables raw) (λ g h.
            let image = from_map normal raw g h in
            let r = image.0 in
            let same = SameVector-normal laws g r (sym image.1.1) in
            IsMember-same variables raw r g (SameCoefficients-sym same) (IsMember-generator variables raw r image.1.0 (valid r image.1.0))) v,
        IsMember-least variables raw (IsMember variables gs) (IsSubmodule-IsMember variables gs) (λ r h.
            let terms = AllKeys-normal_form order laws.total laws.unique (IsTerm variables) r (valid r h) in
            IsMember-same variables gs (normal r) r (SameVector-normal laws (normal r) r refl)
            (IsMember-generator variables gs (normal r) (in_map normal raw r h) terms)) v,
      )
