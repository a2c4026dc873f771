-- The laws of the method, for vectors in the variables of the family.
use Rattle.std.proofs.Common.{◌≡◌, ℕ, ◌<◌, ◌≤◌, ◌^◌, ◌↔◌, List, refl}
use Rattle.ibp_algebra.specs.FormalSum.{AllKeys, IsCanonical, normal_form}
use Rattle.ibp_algebra.specs.Polynomial.{Polynomial}
use Rattle.ibp_algebra.proofs.Combinations.{AllKeys-weaker}
use Rattle.ibp_algebra.proofs.NormalForm.{IsCanonical-normal_form, AllKeys-normal_form}
use Rattle.ibp_algebra.proofs.SumLaws.{SameCoefficients-sym, SameCoefficients-trans}
use Rattle.mono_order.specs.declared.limits.TheConstants.{VARIABLES}
use Rattle.mono_order.specs.Term.{Term}
use Rattle.mono_order.specs.TermOrder.{over_position, block_high}
use Rattle.mono_order.specs.BlockOrders.{over_position_laws}
use Rattle.module_vec.specs.ModuleVector.{ModuleVector, SameVector, IsMember}
use Rattle.module_vec.proofs.NormalForms.{SameVector-normal}
use Rattle.module_basis.specs.GroebnerBasis.{IsLowMember}
use Rattle.family.specs.declared.parts.StrippedField.{StrippedField}
use Rattle.family.specs.Shapes.{HasVariables}
use Rattle.sector_module.specs.Factors.{sector_factors}
use Rattle.sector_module.specs.SectorBasis.{IsSectorBasis, IsSectorMember}
use Rattle.sector_module.proofs.Splitting.{NoneFrom}
use Rattle.sector_module.proofs.Parts.{IsInFirst}
use Rattle.sector_module.proofs.SectorBasis.{IsSubmodule-IsSyzygy}
use Rattle.sector_module.proofs.SectorReduced.{in_range as syzygy_range, sector_member, syzygy_from_member}
use Rattle.sector_module.proofs.SectorRun.{polynomials, few_factors}
use Rattle.sector_module.proofs.Syzygies.{IsSyzygy}
use Rattle.sector_module.proofs.Variables.{IsInFirst-from_HasVariables}
use Rattle.meet_module.specs.MeetRuns.{meet_generators, stripped_generators, IsUnstripped, IsUnstrippedBasis}
use Rattle.meet_module.proofs.DividedSyzygies.{IsDividedSyzygy, IsSubmodule-IsDividedSyzygy, in_range, unstripped_from_syzygy, syzygy_from_unstripped, divided_reduced}
use Rattle.meet_module.proofs.Meets.{meet_low_members, stripped_generate}

module _ (p : Polynomial) (n sector : ℕ) (few : n ≤ VARIABLES) (shape : AllKeys (HasVariables n) p) (small : sector < 2 ^ n) where
  canonical : ModuleVector → ModuleVector
  canonical v = normal_form over_position v

  canonical_is : (v : ModuleVector) → IsCanonical over_position (canonical v)
  unfolding canonical
  canonical_is v = IsCanonical-normal_form over_position (over_position_laws VARIABLES).total (over_position_laws VARIABLES).unique v

  canonical_same : (v : ModuleVector) → SameVector (canonical v) v
  unfolding canonical
  canonical_same v = SameVector-normal (over_position_laws VARIABLES) (normal_form over_position v) v refl

  canonical_none : (v : ModuleVector) → AllKeys (λ t. HasVariables n t.1) v → AllKeys (λ t. NoneFrom n t.1) (canonical v)
  unfolding canonical
  canonical_none v h =
      AllKeys-normal_form over_position (over_position_laws VARIABLES).total (over_position_laws VARIABLES).unique (λ t. NoneFrom n t.1) v
      (AllKeys-weaker (λ (t : Term). HasVariables n t.1) (λ (t : Term). NoneFrom n t.1) (λ t k. (IsInFirst-from_HasVariables n t.1 k).none) v h)

  pub meet_members : (tangent : List StrippedField) → IsSectorBasis p n 0 tangent → (v : ModuleVector) → AllKeys (λ t. HasVariables n t.1) v
      → IsLowMember block_high (IsMember VARIABLES (meet_generators n sector tangent)) v ↔ IsUnstripped p n sector v
  meet_members tangent basis v h = (
    λ m.
        let u = canonical v in
        let own = (IsSubmodule-IsDividedSyzygy p n sector few shape small).same v u (SameCoefficients-sym (canonical_same v)) ((meet_low_members p n sector few shape small tangent basis v).0 m) in
        let field = unstripped_from_syzygy p n sector few shape small u (in_range p n sector few shape small u (canonical_is v) own) (canonical_none v h) own in
        record {
          field = field.field;
          count = field.count;
          polynomials = field.polynomials;
          factor = field.factor;
          meets = field.meets;
          same = SameCoefficients-trans (SameCoefficients-sym (canonical_same v)) field.same;
        },
    λ field. (meet_low_members p n sector few shape small tangent basis v).1 (syzygy_from_unstripped p n sector few shape small v field),
  )

  pub stripped_members : (list : List ModuleVector) → IsUnstrippedBasis p n sector list → (v : ModuleVector) → AllKeys (λ t. HasVariables n t.1) v
      → IsMember VARIABLES (stripped_generators sector list) v ↔ IsSectorMember p n sector v
  stripped_members list basis v h =
      let reduced = divided_reduced p n sector few shape small list basis in (
        λ m.
            let u = canonical v in
            let fs = sector_factors p n sector in
            let own = (IsSubmodule-IsSyzygy VARIABLES fs (polynomials p n sector few shape) (few_factors p n sector few shape)).same v u (SameCoefficients-sym (canonical_same v))
            ((stripped_generate p n sector few shape small list reduced v).0 m)
            in
            let member = sector_member p n sector few shape u (syzygy_range p n sector few shape u (canonical_is v) own) (canonical_none v h) own in
            record { field = member.field; shape = member.shape; member = member.member; same = SameCoefficients-trans (SameCoefficients-sym (canonical_same v)) member.same },
        λ member. (stripped_generate p n sector few shape small list reduced v).1 (syzygy_from_member p n sector few shape v member),
      )
