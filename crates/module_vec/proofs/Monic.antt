-- The monic multiple of a vector, and the lead of a canonical vector by its coefficients.
use Rattle.std.proofs.Common.{◌≡◌, ◌≢◌, ℕ, ◌*◌, ◌%◌, Bool, [], ◌∷◌, sym, refl, ap, ◌∙◌, arith}
use Rattle.std.specs.declared.cmp.Ordering.{Ordering}
use Rattle.std.specs.declared.cmp.Ordering.TheVariants.{Less, Equal, Greater}
use Rattle.ibp_field.specs.Arithmetic.{IsCongruent, mul_mod, inverse_mod}
use Rattle.ibp_algebra.specs.FormalSum.{weighted_sum, coefficient, AllKeys, IsCanonical, scale}
use Rattle.ibp_field.proofs.Congruence.{IsCongruent-refl, IsCongruent-trans, IsCongruent-mod, IsCongruent-mul, IsCongruent-from_eq}
use Rattle.ibp_field.proofs.InverseOf.{inverse_mod-inverts}
use Rattle.ibp_algebra.proofs.Weights.{unit_weight, weighted_sum-scale, SameCoefficients-from_weights}
use Rattle.ibp_algebra.proofs.SumLaws.{SameCoefficients-sym, SameCoefficients-trans, SameCoefficients-scale}
use Rattle.ibp_algebra.proofs.Canonical.{Greater-reverse}
use Rattle.ibp_algebra.proofs.NormalForm.{IsCanonical-normal_form, AllKeys-normal_form, SameCoefficients-normal_form}
use Rattle.ibp_algebra.proofs.ZeroDivisors.{AllKeys-scale}
use Rattle.mono_order.specs.Term.{Term, same_term, IsTerm}
use Rattle.mono_order.specs.TermOrder.{IsTermOrder}
use Rattle.mono_order.proofs.Terms.{terms_decide}
use Rattle.module_vec.specs.ModuleVector.{ModuleVector, SameVector, lead, lead_coefficient, IsMonicVector, IsConstantMultiple}
use Rattle.module_vec.specs.Division.{monic_of}
use Rattle.module_vec.proofs.Multiples.{coefficient_at_lead, coefficient_above_lead, lead_coefficient-not_zero}
use Rattle.module_vec.proofs.NormalForms.{is_monic_of, is_normal_form}

-- a number with an inverse has no multiple that is zero
no_factor : (a x y : ℕ) → (a * x) % 2147483647 ≡ 1 → (a * y) % 2147483647 ≡ 0 → y % 2147483647 ≡ 0
no_factor a x y one none =
    let first : IsCongruent (a * x * y) (1 * y) = IsCongruent-mul (record { same_residue = one }) (IsCongruent-refl y) in
    let second : IsCongruent (a * y * x) (0 * x) = IsCongruent-mul (record { same_residue = none }) (IsCongruent-refl x) in
    let same : a * x * y ≡ a * y * x = omega arith in
    omega (arith, first.same_residue, second.same_residue, ap (λ n. n % 2147483647) same)

zero_factor : (a y : ℕ) → y % 2147483647 ≡ 0 → (a * y) % 2147483647 ≡ 0
zero_factor a y none =
    let product : IsCongruent (a * y) (a * 0) = IsCongruent-mul (IsCongruent-refl a) (record { same_residue = none }) in
    omega (arith, product.same_residue)

reduced_factor : (y a : ℕ) → mul_mod (y % 2147483647) a ≡ (a * y) % 2147483647
reduced_factor y a =
    let product : IsCongruent (y % 2147483647 * a) (y * a) = IsCongruent-mul (IsCongruent-mod y) (IsCongruent-refl a) in
    product.same_residue ∙ ap (λ n. n % 2147483647) (let same : y * a ≡ a * y = omega arith in same)

module _ {variables : ℕ} {order : Term → Term → Ordering} {high : ℕ → Bool} {height : Term → ℕ} {bound : ℕ}
    (laws : IsTermOrder variables order high height bound) where
  -- the greatest key with a coefficient is the lead
  pub lead-from_coefficients : (v : ModuleVector) → IsCanonical order v → (t : Term) → coefficient same_term v t ≢ 0
      → ((k : Term) → order k t ≡ Greater → coefficient same_term v k ≡ 0) → lead v ≡ t
  lead-from_coefficients [] c t present above = absurd (present refl)
  lead-from_coefficients (u ∷ v) c t present above =
      elim (order u.0 t) as (λ r. order u.0 t ≡ r → u.0 ≡ t) [
        | Less ↦ λ e. absurd (present (coefficient_above_lead laws (u ∷ v) c t (Greater-reverse order laws.total u.0 t e)))
        | Equal ↦ λ e. laws.unique u.0 t e
        | Greater ↦ λ e. absurd (omega (arith, above u.0 e, coefficient_at_lead laws (u ∷ v) c, c.0))
      ] refl

  inverse_scaled : (v : ModuleVector) → IsCanonical order v → v ≢ [] → IsCongruent (inverse_mod (lead_coefficient v) * lead_coefficient v) 1
  inverse_scaled [] c not_zero = absurd (not_zero refl)
  inverse_scaled (t ∷ v) c not_zero = inverse_mod-inverts t.1 c.0 c.1

  pub SameVector-monic_of : (v : ModuleVector) → SameVector (monic_of order v) (scale (inverse_mod (lead_coefficient v)) v)
  SameVector-monic_of v = SameCoefficients-normal_form order laws.total laws.unique same_term terms_decide (scale (inverse_mod (lead_coefficient v)) v)

  -- the vector is a multiple of its monic multiple
  pub SameVector-scale_monic : (v : ModuleVector) → IsCanonical order v → v ≢ [] → SameVector v (scale (lead_coefficient v) (monic_of order v))
  SameVector-scale_monic v c not_zero =
      SameCoefficients-sym (SameCoefficients-trans (SameCoefficients-scale same_term terms_decide (lead_coefficient v) (SameVector-monic_of v))
      (SameCoefficients-from_weights same_term terms_decide _ _ (λ w.
      let one = IsCongruent-mul (inverse_scaled v c not_zero) (IsCongruent-refl (weighted_sum w v)) in
      let inverse = inverse_mod (lead_coefficient v) in
      let product : lead_coefficient v * (inverse * weighted_sum w v) ≡ inverse * lead_coefficient v * weighted_sum w v = omega arith in
      IsCongruent-trans (IsCongruent-from_eq (weighted_sum-scale w (lead_coefficient v) (scale inverse v) ∙ ap (λ n. lead_coefficient v * n) (weighted_sum-scale w inverse v) ∙ product))
      (IsCongruent-trans one (IsCongruent-from_eq {a = 1 * weighted_sum w v} {b = weighted_sum w v} (omega arith))))))

  monic_of_coefficient : (v : ModuleVector) → (k : Term) → coefficient same_term (monic_of order v) k ≡ (inverse_mod (lead_coefficient v) * weighted_sum (unit_weight same_term k) v) % 2147483647
  monic_of_coefficient v k = (SameVector-monic_of v).same_at k ∙ ap (λ n. n % 2147483647) (weighted_sum-scale (unit_weight same_term k) (inverse_mod (lead_coefficient v)) v)

  coefficient_one : (v : ModuleVector) → IsCanonical order v → v ≢ [] → coefficient same_term (monic_of order v) (lead v) ≡ 1
  coefficient_one v c not_zero =
      let at : IsCongruent (weighted_sum (unit_weight same_term (lead v)) v) (lead_coefficient v) =
      record { same_residue = coefficient_at_lead laws v c ∙ sym (reduced v c) }
      in
      monic_of_coefficient v (lead v)
      ∙ (IsCongruent-trans (IsCongruent-mul (IsCongruent-refl (inverse_mod (lead_coefficient v))) at) (inverse_scaled v c not_zero)).same_residue
    where
      reduced : (v : ModuleVector) → IsCanonical order v → lead_coefficient v % 2147483647 ≡ lead_coefficient v
      reduced [] c = refl
      reduced (t ∷ v) c = omega (arith, c.1)

  pub lead-monic_of : (v : ModuleVector) → IsCanonical order v → v ≢ [] → lead (monic_of order v) ≡ lead v
  lead-monic_of v c not_zero =
      lead-from_coefficients (monic_of order v) (IsCanonical-normal_form order laws.total laws.unique (scale (inverse_mod (lead_coefficient v)) v)) (lead v)
      (λ zero. omega (arith, zero, coefficient_one v c not_zero))
      (λ k above.
      let none : IsCongruent (weighted_sum (unit_weight same_term k) v) 0 = record { same_residue = coefficient_above_lead laws v c k above } in
      monic_of_coefficient v k
      ∙ (IsCongruent-trans (IsCongruent-mul (IsCongruent-refl (inverse_mod (lead_coefficient v))) none)
      (IsCongruent-from_eq {a = inverse_mod (lead_coefficient v) * 0} {b = 0} (omega arith))).same_residue)

  pub IsMonicVector-monic_of : (v : ModuleVector) → IsCanonical order v → v ≢ [] → AllKeys (IsTerm variables) v → IsMonicVector order variables (monic_of order v)
  IsMonicVector-monic_of v c not_zero valid =
      let canonical = IsCanonical-normal_form order laws.total laws.unique (scale (inverse_mod (lead_coefficient v)) v) in
      record {
        canonical = canonical;
        terms = AllKeys-normal_form order laws.total laws.unique (IsTerm variables) (scale (inverse_mod (lead_coefficient v)) v) (AllKeys-scale (IsTerm variables) (inverse_mod (lead_coefficient v)) v valid);
        monic = sym (coefficient_at_lead laws (monic_of order v) canonical) ∙ ap (coefficient same_term (monic_of order v)) (lead-monic_of v c not_zero) ∙ coefficient_one v c not_zero;
      }

  -- a monic multiple by a constant is the one
  pub is_monic_multiple : (v w : ModuleVector) → IsCanonical order v → v ≢ [] → IsMonicVector order variables w → IsConstantMultiple v w → w ≡ monic_of order v
  is_monic_multiple v w c not_zero monic h =
      let factor = h.factor in
      let at = λ (k : Term). weighted_sum (unit_weight same_term k) v in
      let coefficient_is : (k : Term) → coefficient same_term w k ≡ (factor * at k) % 2147483647 =
      λ k. h.multiple.same_at k ∙ ap (λ n. n % 2147483647) (weighted_sum-scale (unit_weight same_term k) factor v)
      in
      let one : (factor * at (lead w)) % 2147483647 ≡ 1 = sym (coefficient_is (lead w)) ∙ coefficient_at_lead laws w monic.canonical ∙ monic.monic in
      let own : at (lead v) % 2147483647 ≡ lead_coefficient v = coefficient_at_lead laws v c in
      let lead_is : lead w ≡ lead v =
      lead-from_coefficients w monic.canonical (lead v)
      (λ none.
      lead_coefficient-not_zero order v c not_zero (sym own ∙ no_factor factor (at (lead w)) (at (lead v)) one (sym (coefficient_is (lead v)) ∙ none)))
      (λ k above. coefficient_is k ∙ zero_factor factor (at k) (coefficient_above_lead laws v c k above))
      in
      let unit : mul_mod (lead_coefficient v) factor ≡ 1 =
      ap (λ n. mul_mod n factor) (sym own) ∙ reduced_factor (at (lead v)) factor ∙ ap (λ (t : Term). (factor * at t) % 2147483647) (sym lead_is) ∙ one
      in
      is_monic_of laws v w factor c not_zero unit (is_normal_form laws w (scale factor v) monic.canonical h.multiple)
