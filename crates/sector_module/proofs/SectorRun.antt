-- The reduced low part of a done run of a sector is the reduced basis of the syzygies of the factors.
use Rattle.std.proofs.Common.{◌≡◌, ℕ, suc, ◌+◌, ◌<◌, ◌≤◌, ◌↔◌, length, get_or, List, [], ◌∷◌, map, sym, refl, ◌∙◌, lit<, arith}
use Rattle.std.specs.List.{AllByRecursion, Contains}
use Rattle.std.proofs.lemmas.List.{get_or-map, length-map}
use Rattle.std.proofs.lemmas.List.Elements.{Contains-get_or, All-contains, All-from_recursion}
use Rattle.ibp_algebra.specs.FormalSum.{AllKeys, normal_form}
use Rattle.ibp_algebra.specs.Polynomial.{Polynomial}
use Rattle.ibp_algebra.proofs.Combinations.{AllKeys-weaker}
use Rattle.ibp_algebra.proofs.NormalForm.{AllKeys-normal_form}
use Rattle.ibp_algebra.proofs.SumLaws.{SameCoefficients-sym}
use Rattle.ibp_algebra.proofs.ZeroDivisors.{AllKeys-append}
use Rattle.mono_order.specs.declared.limits.TheConstants.{VARIABLES}
use Rattle.mono_order.specs.Term.{IsTerm}
use Rattle.mono_order.specs.TermOrder.{over_position, zero_dominates, zero_high}
use Rattle.mono_order.specs.BlockOrders.{zero_dominates_laws}
use Rattle.mono_order.proofs.Terms.{length-ones}
use Rattle.module_vec.specs.ModuleVector.{ModuleVector, IsMember}
use Rattle.module_vec.proofs.Multiples.{AllKeys-map_keys}
use Rattle.module_vec.proofs.NormalForms.{SameVector-normal}
use Rattle.module_vec.proofs.Submodules.{IsMember-same, IsMember-generator, IsMember-least, IsSubmodule-IsMember}
use Rattle.module_basis.specs.GroebnerBasis.{IsGroebnerBasis, IsReducedBasis, IsReducedLowBasis, IsLowMember}
use Rattle.module_basis.proofs.OrderChange.{IsReducedBasis-members}
use Rattle.family.specs.Shapes.{HasVariables}
use Rattle.sector_module.specs.Factors.{at_component, unit_vector, factor_generators, sector_factors, sector_generators}
use Rattle.sector_module.proofs.Syzygies.{IsPolynomialIn, IsSyzygy}
use Rattle.sector_module.proofs.NormalModule.{normal_module}
use Rattle.sector_module.proofs.Parts.{IsInFirst}
use Rattle.sector_module.proofs.SectorBasis.{syzygy_basis}
use Rattle.sector_module.proofs.SectorReduced.{factors_first, long_factors}

pub generators_valid : (first : ℕ) (fs : List Polynomial) → AllByRecursion (IsPolynomialIn VARIABLES) fs → first + length fs ≤ 256 → AllByRecursion (AllKeys (IsTerm VARIABLES)) (factor_generators VARIABLES first fs)
generators_valid first [] h le = tt
generators_valid first (f ∷ fs) h le = (
  AllKeys-append (IsTerm VARIABLES) (at_component 0 f) (unit_vector VARIABLES first)
      (AllKeys-map_keys (λ m. length m ≡ VARIABLES) (IsTerm VARIABLES) (λ m. (0, m)) (λ m long. record { component = lit< tt; exponents = long }) f h.0)
      (record { component = omega (arith, le); exponents = length-ones VARIABLES }, tt),
  generators_valid (suc first) fs h.1 (omega (arith, le)),
)

module _ (p : Polynomial) (n sector : ℕ) (few : n ≤ VARIABLES) (shape : AllKeys (HasVariables n) p) where
  pub polynomials : AllByRecursion (IsPolynomialIn VARIABLES) (sector_factors p n sector)
  polynomials = weaker (sector_factors p n sector) (factors_first p n sector few shape)
    where
      weaker : (fs : List Polynomial) → AllByRecursion (AllKeys (IsInFirst VARIABLES n)) fs → AllByRecursion (IsPolynomialIn VARIABLES) fs
      weaker [] h = tt
      weaker (f ∷ fs) h = (AllKeys-weaker (IsInFirst VARIABLES n) (λ m. length m ≡ VARIABLES) (λ m h. h.exponents) f h.0, weaker fs h.1)

  pub few_factors : length (sector_factors p n sector) < 255
  few_factors = omega (arith, long_factors p n sector few shape)

  raw_generators : List ModuleVector
  raw_generators = factor_generators VARIABLES 1 (sector_factors p n sector)

  raw_valid : (r : ModuleVector) → Contains raw_generators r → AllKeys (IsTerm VARIABLES) r
  unfolding raw_generators
  raw_valid r h =
      All-contains (AllKeys (IsTerm VARIABLES)) raw_generators r
      (All-from_recursion (AllKeys (IsTerm VARIABLES)) raw_generators (generators_valid 1 (sector_factors p n sector) polynomials (omega (arith, long_factors p n sector few shape)))) h

  -- the canonical generators generate the same module
  same_module : (v : ModuleVector) → IsMember VARIABLES (sector_generators p n sector) v ↔ IsMember VARIABLES raw_generators v
  unfolding raw_generators
  same_module v = normal_module (zero_dominates_laws VARIABLES) raw_generators raw_valid v

  pub run_reduced : (elements list : List ModuleVector) → IsGroebnerBasis zero_dominates (IsMember VARIABLES (sector_generators p n sector)) elements
      → IsReducedLowBasis zero_dominates VARIABLES zero_high elements list → IsReducedBasis over_position VARIABLES (IsSyzygy VARIABLES (sector_factors p n sector)) list
  unfolding raw_generators
  run_reduced elements list groebner reduced =
      syzygy_basis VARIABLES (sector_factors p n sector) polynomials few_factors list
      (IsReducedBasis-members zero_dominates VARIABLES (IsLowMember zero_high (IsMember VARIABLES (sector_generators p n sector))) (IsLowMember zero_high (IsMember VARIABLES raw_generators))
      (λ v. (λ h. ((same_module v).0 h.0, h.1), λ h. ((same_module v).1 h.0, h.1))) list (reduced (sector_generators p n sector) groebner))
