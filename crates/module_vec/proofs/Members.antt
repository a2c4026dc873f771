-- Remainders, monic multiples and S-vectors stay in a submodule.
use Rattle.std.proofs.Common.{◌≡◌, ◌≢◌, ℕ, Bool, length, List, [], ◌++◌, arith}
use Rattle.std.specs.List.{Contains}
use Rattle.std.specs.declared.cmp.Ordering.{Ordering}
use Rattle.ibp_field.specs.Arithmetic.{neg_mod, inverse_mod}
use Rattle.ibp_algebra.specs.FormalSum.{IsCanonical, scale}
use Rattle.ibp_algebra.specs.Combination.{combination}
use Rattle.ibp_algebra.proofs.Weights.{weighted_sum-append, weighted_sum-scale, weighted_sum-SameCoefficients, SameCoefficients-from_weights}
use Rattle.ibp_algebra.proofs.SumLaws.{SameCoefficients-refl, SameCoefficients-sym}
use Rattle.ibp_algebra.proofs.NormalForm.{SameCoefficients-normal_form}
use Rattle.mono_order.specs.Term.{Term, same_term}
use Rattle.mono_order.specs.TermOrder.{IsTermOrder}
use Rattle.mono_order.proofs.Terms.{terms_decide}
use Rattle.module_vec.specs.ModuleVector.{ModuleVector, multiply_vector, lead_coefficient, multiple_value, IsSubmodule}
use Rattle.module_vec.specs.Division.{subtract_multiple, monic_of, ReducesTo}
use Rattle.module_vec.proofs.Submodules.{IsMember-least}
use Rattle.module_vec.proofs.Monic.{SameVector-monic_of, SameVector-scale_monic}

module _ (variables : ℕ) (Member : ModuleVector → Type 0) (submodule : IsSubmodule variables Member) where
  -- a sum of members of the module that members generate
  pub Member-combination : (order : Term → Term → Ordering) (list : List ModuleVector) (P : Term → Type 0) (v r : ModuleVector)
      → ((g : ModuleVector) → Contains list g → Member g) → (h : ReducesTo order variables list P v r) → Member (combination multiple_value h.summands)
  Member-combination order list P v r holds h =
      IsMember-least variables list Member submodule holds (combination multiple_value h.summands)
      (record { summands = h.summands; multiples = h.multiples; sum = SameCoefficients-refl same_term (combination multiple_value h.summands) })

  -- The remainder of a member is a member.
  pub Member-remainder : (order : Term → Term → Ordering) (list : List ModuleVector) (P : Term → Type 0) (v r : ModuleVector)
      → ((g : ModuleVector) → Contains list g → Member g) → ReducesTo order variables list P v r → Member v → Member r
  Member-remainder order list P v r holds h member =
      let taken = combination multiple_value h.summands in
      submodule.same (v ++ scale 2147483646 taken) r
      (SameCoefficients-from_weights same_term terms_decide _ _ (λ w.
      let whole = (weighted_sum-SameCoefficients same_term terms_decide w _ _ h.sum).same_residue in
      record { same_residue = omega (arith, whole, weighted_sum-append w r taken, weighted_sum-append w v (scale 2147483646 taken), weighted_sum-scale w 2147483646 taken) }))
      (submodule.sum v _ member (submodule.scaled 2147483646 taken (Member-combination order list P v r holds h)))

  module _ {order : Term → Term → Ordering} {high : ℕ → Bool} {height : Term → ℕ} {bound : ℕ} (laws : IsTermOrder variables order high height bound) where
    pub Member-subtract : (v : ModuleVector) (c : ℕ) (m : List ℕ) (g : ModuleVector) → length m ≡ variables → Member v → Member g → Member (subtract_multiple order v c m g)
    Member-subtract v c m g p h k =
        let sum = v ++ scale (neg_mod c) (multiply_vector m g) in
        submodule.same sum (subtract_multiple order v c m g) (SameCoefficients-sym (SameCoefficients-normal_form order laws.total laws.unique same_term terms_decide sum))
        (submodule.sum v _ h (submodule.scaled (neg_mod c) _ (submodule.multiplied m g p k)))

    pub Member-monic_of : (v : ModuleVector) → Member v → Member (monic_of order v)
    Member-monic_of v h =
        submodule.same (scale (inverse_mod (lead_coefficient v)) v) (monic_of order v) (SameCoefficients-sym (SameVector-monic_of laws v)) (submodule.scaled (inverse_mod (lead_coefficient v)) v h)

    pub Member-from_monic_of : (v : ModuleVector) → IsCanonical order v → v ≢ [] → Member (monic_of order v) → Member v
    Member-from_monic_of v canonical not_zero h =
        submodule.same (scale (lead_coefficient v) (monic_of order v)) v (SameCoefficients-sym (SameVector-scale_monic laws v canonical not_zero)) (submodule.scaled (lead_coefficient v) _ h)
