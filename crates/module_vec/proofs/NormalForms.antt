-- What the code makes in canonical form is the normal form, and the normal form of bounded terms is bounded.
use Rattle.std.proofs.Common.{◌≡◌, ◌≢◌, ℕ, ◌*◌, Bool, [], ◌∷◌, ◌++◌, sym, refl, subst, ◌∙◌, arith}
use Rattle.std.specs.Ordering.{eq_by_cmp}
use Rattle.std.specs.declared.cmp.Ordering.{Ordering}
use Rattle.ibp_field.specs.Arithmetic.{IsCongruent, mul_mod, inverse_mod}
use Rattle.ibp_field.proofs.Congruence.{IsCongruent-refl, IsCongruent-trans, IsCongruent-mul, IsCongruent-from_eq}
use Rattle.ibp_field.proofs.InverseOf.{inverse_mod-inverts}
use Rattle.ibp_algebra.specs.FormalSum.{SameCoefficients, weighted_sum, AllKeys, IsCanonical, scale, normal_form}
use Rattle.ibp_algebra.proofs.Weights.{weighted_sum-scale, SameCoefficients-from_weights}
use Rattle.ibp_algebra.proofs.SumLaws.{SameCoefficients-sym, SameCoefficients-trans}
use Rattle.ibp_algebra.proofs.Canonical.{same_canonical}
use Rattle.ibp_algebra.proofs.NormalForm.{IsCanonical-normal_form, AllKeys-normal_form, SameCoefficients-normal_form}
use Rattle.ibp_algebra.proofs.ZeroDivisors.{AllKeys-append, AllKeys-scale}
use Rattle.ibp_algebra.proofs.Members.{order_decides}
use Rattle.mono_order.specs.Term.{Term, same_term, IsTerm}
use Rattle.mono_order.specs.TermOrder.{IsTermOrder}
use Rattle.mono_order.proofs.Terms.{terms_decide}
use Rattle.module_vec.specs.ModuleVector.{ModuleVector, SameVector, lead_coefficient, IsVector}
use Rattle.module_vec.specs.Division.{monic_of}

module _ {variables : ℕ} {order : Term → Term → Ordering} {high : ℕ → Bool} {height : Term → ℕ} {bound : ℕ}
    (laws : IsTermOrder variables order high height bound) where
  -- a canonical sum with these coefficients is the normal form
  pub is_normal : (v f : ModuleVector) → IsCanonical order v → SameCoefficients (eq_by_cmp order) v f → v ≡ normal_form order f
  is_normal v f canonical same =
      let decides = order_decides order laws.total laws.unique in
      same_canonical order laws.total (eq_by_cmp order) decides laws.unique v (normal_form order f) canonical (IsCanonical-normal_form order laws.total laws.unique f)
      (SameCoefficients-trans same (SameCoefficients-sym (SameCoefficients-normal_form order laws.total laws.unique (eq_by_cmp order) decides f)))

  pub is_normal_form : (v f : ModuleVector) → IsCanonical order v → SameVector v f → v ≡ normal_form order f
  is_normal_form v f canonical same =
      same_canonical order laws.total same_term terms_decide laws.unique v (normal_form order f) canonical (IsCanonical-normal_form order laws.total laws.unique f)
      (SameCoefficients-trans same (SameCoefficients-sym (SameCoefficients-normal_form order laws.total laws.unique same_term terms_decide f)))

  pub SameVector-normal : (v f : ModuleVector) → v ≡ normal_form order f → SameVector v f
  SameVector-normal v f is = subst (λ (w : ModuleVector). SameVector w f) (sym is) (SameCoefficients-normal_form order laws.total laws.unique same_term terms_decide f)

  pub IsVector-normal : (v f : ModuleVector) → v ≡ normal_form order f → AllKeys (IsTerm variables) f → IsVector order variables v
  IsVector-normal v f is valid =
      subst (IsVector order variables) (sym is)
      (record { canonical = IsCanonical-normal_form order laws.total laws.unique f; terms = AllKeys-normal_form order laws.total laws.unique (IsTerm variables) f valid })

  pub AllKeys-normal : (P : Term → Type 0) (v f : ModuleVector) → v ≡ normal_form order f → AllKeys P f → AllKeys P v
  AllKeys-normal P v f is h = subst (AllKeys P) (sym is) (AllKeys-normal_form order laws.total laws.unique P f h)

  -- the sum of a vector and a multiple of another one
  pub AllKeys-sum : (P : Term → Type 0) (v w : ModuleVector) (c : ℕ) → AllKeys P v → AllKeys P w → AllKeys P (v ++ scale c w)
  AllKeys-sum P v w c h k = AllKeys-append P v (scale c w) h (AllKeys-scale P c w k)

  pub joined : (v w a b items : ModuleVector) (c : ℕ) → a ≡ v → b ≡ w → items ≡ normal_form order (a ++ scale c b) → items ≡ normal_form order (v ++ scale c w)
  joined v w a b items c p q is = is ∙ (λ i. normal_form order (p i ++ scale c (q i)))

  pub IsVector-sum : (v w items : ModuleVector) (c : ℕ) → items ≡ normal_form order (v ++ scale c w) → AllKeys (IsTerm variables) v → AllKeys (IsTerm variables) w
      → IsVector order variables items
  IsVector-sum v w items c is h k = IsVector-normal items (v ++ scale c w) is (AllKeys-sum (IsTerm variables) v w c h k)

  pub AllKeys-of_sum : (P : Term → Type 0) (v w items : ModuleVector) (c : ℕ) → items ≡ normal_form order (v ++ scale c w) → AllKeys P v → AllKeys P w → AllKeys P items
  AllKeys-of_sum P v w items c is h k = AllKeys-normal P items (v ++ scale c w) is (AllKeys-sum P v w c h k)

  -- the multiple by an inverse of the lead's coefficient
  pub is_monic_of : (v items : ModuleVector) (inverse : ℕ) → IsCanonical order v → v ≢ [] → mul_mod (lead_coefficient v) inverse ≡ 1
      → items ≡ normal_form order (scale inverse v) → items ≡ monic_of order v
  is_monic_of [] items inverse canonical not_zero unit is = absurd (not_zero refl)
  is_monic_of (t ∷ v) items inverse canonical not_zero unit is =
      let at : IsCongruent (t.1 * inverse) 1 = record { same_residue = unit } in
      let other = inverse_mod-inverts t.1 canonical.0 canonical.1 in
      let first : IsCongruent (inverse_mod t.1 * (t.1 * inverse)) (inverse_mod t.1) =
      IsCongruent-trans (IsCongruent-mul (IsCongruent-refl (inverse_mod t.1)) at) (IsCongruent-from_eq (omega arith))
      in
      let second : IsCongruent (inverse_mod t.1 * t.1 * inverse) inverse =
      IsCongruent-trans (IsCongruent-mul other (IsCongruent-refl inverse)) (IsCongruent-from_eq (omega arith))
      in
      let same : IsCongruent inverse (inverse_mod t.1) = record { same_residue = omega (arith, first.same_residue, second.same_residue) } in
      is_normal_form items (scale (inverse_mod t.1) (t ∷ v))
      (subst (IsCanonical order) (sym is) (IsCanonical-normal_form order laws.total laws.unique (scale inverse (t ∷ v))))
      (SameCoefficients-trans (SameVector-normal items (scale inverse (t ∷ v)) is)
      (SameCoefficients-from_weights same_term terms_decide _ _ (λ w.
      IsCongruent-trans (IsCongruent-from_eq (weighted_sum-scale w inverse (t ∷ v)))
      (IsCongruent-trans (IsCongruent-mul same (IsCongruent-refl (weighted_sum w (t ∷ v)))) (IsCongruent-from_eq (sym (weighted_sum-scale w (inverse_mod t.1) (t ∷ v))))))))
