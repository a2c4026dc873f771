-- A Gröbner basis of a module under the order of low terms generates it.
use Rattle.std.proofs.Common.{◌≡◌, ◌≢◌, ℕ, ◌≤◌, true, false, sum, List, [], ◌∷◌, ◌++◌, None, sym, refl, ◌∙◌}
use Rattle.std.specs.List.{All, Contains}
use Rattle.std.proofs.lemmas.List.Elements.{All-contains}
use Rattle.ibp_algebra.specs.FormalSum.{AllKeys, IsCanonical, normal_form}
use Rattle.ibp_algebra.proofs.Combinations.{AllKeys-weaker}
use Rattle.ibp_algebra.proofs.NormalForm.{IsCanonical-normal_form, AllKeys-normal_form}
use Rattle.ibp_algebra.proofs.SumLaws.{SameCoefficients-sym, SameCoefficients-trans}
use Rattle.mono_order.specs.declared.limits.TheConstants.{VARIABLES}
use Rattle.mono_order.specs.Term.{Term, divides, IsTerm}
use Rattle.mono_order.specs.TermOrder.{over_position, nothing_high}
use Rattle.mono_order.specs.BlockOrders.{over_position_laws}
use Rattle.module_vec.specs.ModuleVector.{ModuleVector, SameVector, IsMonicVector, IsMember, IsSubmodule}
use Rattle.module_vec.specs.Division.{ReducesTo}
use Rattle.module_vec.proofs.DivisionLaws.{divide_reduces, first_divisor-none}
use Rattle.module_vec.proofs.Members.{Member-remainder}
use Rattle.module_vec.proofs.NormalForms.{SameVector-normal}
use Rattle.module_vec.proofs.Submodules.{IsMember-same}
use Rattle.module_basis.specs.GroebnerBasis.{IsGroebnerBasis}
use Rattle.module_basis.proofs.ReducedBases.{low_division}
use Rattle.sector_module.proofs.SomeBasis.{degree_bound}

module _ (Member : ModuleVector → Type 0) (submodule : IsSubmodule VARIABLES Member) (list : List ModuleVector)
    (monic : All (IsMonicVector over_position VARIABLES) list) (basis : IsGroebnerBasis over_position Member list) where
  -- a remainder that is a member is zero
  from_remainder : (v r : ModuleVector) → Member r → ReducesTo over_position VARIABLES list (λ t. Unit {0}) v r → IsMember VARIABLES list v
  from_remainder v [] m h = record { summands = h.summands; multiples = h.multiples; sum = h.sum }
  from_remainder v (t ∷ r) m h =
      let divisor = basis.divisible (t ∷ r) h.canonical (λ e. cc) m in
      let none = first_divisor-none list t.0 h.reduced.0 divisor.0 divisor.1 in
      absurd (let clash : true ≡ false = sym divisor.2 ∙ none in let no : ⊥ = cc in no)

  everywhere : (v : ModuleVector) → AllKeys (λ (t : Term). Unit {0}) v
  everywhere [] = tt
  everywhere (t ∷ v) = (tt, everywhere v)

  canonical_generated : (v : ModuleVector) → IsCanonical over_position v → AllKeys (IsTerm VARIABLES) v → Member v → IsMember VARIABLES list v
  canonical_generated v canonical valid m =
      let order = over_position_laws VARIABLES in
      let monic_in = λ (g : ModuleVector) (c : Contains list g). All-contains (IsMonicVector over_position VARIABLES) list g monic c in
      let bound = degree_bound v in
      let low = AllKeys-weaker (λ (t : Term). sum t.1 ≤ bound.0) (λ (t : Term). (nothing_high t.0 ≡ false) × (sum t.1 ≤ bound.0)) (λ t le. (refl, le)) v bound.1 in
      let division = low_division order list monic bound.0 v canonical valid low in
      let reduces = divide_reduces order list monic_in bound.0 division.1.steps (λ t. Unit {0}) (λ t u h above. tt) v division.0 canonical valid (everywhere v) division.1.ends in
      let rest = Member-remainder VARIABLES Member submodule over_position list (λ t. Unit {0}) v division.0 (λ g c. All-contains Member list g basis.members c) reduces m in
      from_remainder v division.0 rest reduces

  pub generated : (v terms : ModuleVector) → SameVector v terms → AllKeys (IsTerm VARIABLES) terms → Member v → IsMember VARIABLES list v
  generated v terms same valid m =
      let order = over_position_laws VARIABLES in
      let u = normal_form over_position terms in
      let is : SameVector u v = SameCoefficients-trans (SameVector-normal order u terms refl) (SameCoefficients-sym same) in
      IsMember-same VARIABLES list u v is
      (canonical_generated u (IsCanonical-normal_form over_position order.total order.unique terms) (AllKeys-normal_form over_position order.total order.unique (IsTerm VARIABLES) terms valid)
      (submodule.same v u (SameCoefficients-sym is) m))
