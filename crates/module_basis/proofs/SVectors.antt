-- What the division of an S-vector gives: a standard representation of its pair, by the list itself where
-- the remainder is zero, and else by the list with the monic multiple of the remainder.
use Rattle.std.proofs.Common.{◌≡◌, ◌≢◌, ℕ, ◌*◌, Bool, replicate, length, List, [], ◌∷◌, ◌++◌, sym, refl, ap, subst, ◌∙◌, lit<, arith}
use Rattle.std.proofs.lemmas.List.Elements.{Contains-append_left, Contains-push}
use Rattle.std.specs.declared.cmp.Ordering.{Ordering}
use Rattle.std.specs.declared.cmp.Ordering.TheVariants.{Greater}
use Rattle.ibp_algebra.specs.FormalSum.{FormalSum, weighted_sum, AllKeys, AllBelow, IsCanonical, scale}
use Rattle.ibp_algebra.specs.Combination.{combination}
use Rattle.ibp_algebra.proofs.Weights.{weighted_sum-append, weighted_sum-scale, weighted_sum-SameCoefficients}
use Rattle.ibp_algebra.proofs.SumLaws.{SameCoefficients-refl, SameCoefficients-trans, SameCoefficients-from_sums}
use Rattle.ibp_algebra.proofs.ZeroDivisors.{AllKeys-append}
use Rattle.ibp_algebra.proofs.Combinations.{AllKeys-weaker, weighted_sum-combination, IsEqualBelow-from_weights}
use Rattle.mono_order.specs.Term.{Term, same_term, lcm_term, IsTerm}
use Rattle.mono_order.specs.TermOrder.{IsTermOrder}
use Rattle.mono_order.proofs.Terms.{terms_decide, add_exponents-one, length-ones, IsTerm-lcm, divides-lcm_left, divides-lcm_right, length-quotient, quotient-times}
use Rattle.module_vec.specs.ModuleVector.{ModuleVector, SameVector, multiply_vector, lead, lead_coefficient, IsMonicVector, Multiple, multiple_value, multiple_lead, IsMultipleOf}
use Rattle.module_vec.specs.Division.{subtract_multiple, multiple_with_lead, s_vector, ReducesTo, monic_of}
use Rattle.module_vec.proofs.Multiples.{IsTerm-lead, IsMonicVector-multiply, lead-multiply}
use Rattle.module_vec.proofs.Submodules.{multiply_vector-one}
use Rattle.module_vec.proofs.Monic.{IsMonicVector-monic_of, lead-monic_of, SameVector-scale_monic}
use Rattle.module_vec.proofs.DivisionLaws.{weighted_sum-subtract, IsCanonical-subtract, AllBelow-subtract, AllKeys-subtract}
use Rattle.module_basis.specs.GroebnerBasis.{HasStandardRepresentation}

module _ {variables : ℕ} {order : Term → Term → Ordering} {high : ℕ → Bool} {height : Term → ℕ} {bound : ℕ}
    (laws : IsTermOrder variables order high height bound) where
  below_one_lead : (v : ModuleVector) (top : Term) (m : List ℕ) (h : ModuleVector) → IsMonicVector order variables v → lead v ≡ top
      → IsMonicVector order variables (multiply_vector m h) → lead (multiply_vector m h) ≡ top → AllBelow order top (subtract_multiple order v 1 m h)
  below_one_lead [] top m h first at second there = absurd (let zero = first.monic in omega arith)
  below_one_lead (t ∷ v) top m h first at second there =
      subst (λ k. AllBelow order k (subtract_multiple order (t ∷ v) 1 m h)) at
      (subst (λ c. AllBelow order t.0 (subtract_multiple order (t ∷ v) c m h)) first.monic (AllBelow-subtract laws t v m h first.canonical second (there ∙ sym at)))

  -- the multiples of two monic vectors that meet at the least common multiple
  pub record Meets (g h : ModuleVector) : Type 0 where
    pub lcm_valid : IsTerm variables (lcm_term (lead g) (lead h))
    pub left : IsMonicVector order variables (multiple_value (multiple_with_lead (lcm_term (lead g) (lead h)) g))
    pub right : IsMonicVector order variables (multiple_value (multiple_with_lead (lcm_term (lead g) (lead h)) h))
    pub left_lead : lead (multiple_value (multiple_with_lead (lcm_term (lead g) (lead h)) g)) ≡ lcm_term (lead g) (lead h)
    pub right_lead : lead (multiple_value (multiple_with_lead (lcm_term (lead g) (lead h)) h)) ≡ lcm_term (lead g) (lead h)

  pub meets : (g h : ModuleVector) → IsMonicVector order variables g → IsMonicVector order variables h → (lead g).0 ≡ (lead h).0 → Meets g h
  meets g h first second component =
      let s = IsTerm-lead laws g first.monic first.terms in
      let t = IsTerm-lead laws h second.monic second.terms in
      let lcm = lcm_term (lead g) (lead h) in
      let valid = IsTerm-lcm variables (lead g) (lead h) s t in
      let same : length (lead g).1 ≡ length (lead h).1 = s.exponents ∙ sym t.exponents in
      let p = length-quotient variables (lead g).1 lcm.1 s.exponents valid.exponents in
      let q = length-quotient variables (lead h).1 lcm.1 t.exponents valid.exponents in
      let left_exponents = quotient-times variables (lead g).1 lcm.1 s.exponents valid.exponents (divides-lcm_left (lead g).1 (lead h).1 same) in
      let right_exponents = quotient-times variables (lead h).1 lcm.1 t.exponents valid.exponents (divides-lcm_right (lead g).1 (lead h).1 same) in
      record {
        lcm_valid = valid;
        left = IsMonicVector-multiply laws (multiple_with_lead lcm g).0 g p first;
        right = IsMonicVector-multiply laws (multiple_with_lead lcm h).0 h q second;
        left_lead = lead-multiply laws (multiple_with_lead lcm g).0 g first.monic ∙ (λ i. ((lead g).0, left_exponents i));
        right_lead = lead-multiply laws (multiple_with_lead lcm h).0 h second.monic ∙ (λ i. (sym component i, right_exponents i));
      }

  -- the terms of an S-vector are below the least common multiple
  pub AllBelow-s_vector : (g h : ModuleVector) → Meets g h → AllBelow order (lcm_term (lead g) (lead h)) (s_vector order g h)
  AllBelow-s_vector g h m =
      below_one_lead (multiple_value (multiple_with_lead (lcm_term (lead g) (lead h)) g)) (lcm_term (lead g) (lead h)) (multiple_with_lead (lcm_term (lead g) (lead h)) h).0 h
      m.left m.left_lead m.right m.right_lead

  pub IsCanonical-s_vector : (g h : ModuleVector) → IsCanonical order (s_vector order g h)
  IsCanonical-s_vector g h = IsCanonical-subtract laws (multiple_value (multiple_with_lead (lcm_term (lead g) (lead h)) g)) 1 (multiple_with_lead (lcm_term (lead g) (lead h)) h).0 h

  pub AllKeys-s_vector : (g h : ModuleVector) → Meets g h → AllKeys (IsTerm variables) (s_vector order g h)
  AllKeys-s_vector g h m =
      AllKeys-subtract laws (IsTerm variables) (multiple_value (multiple_with_lead (lcm_term (lead g) (lead h)) g)) 1 (multiple_with_lead (lcm_term (lead g) (lead h)) h).0 h
      m.left.terms m.right.terms

  -- where the remainder is a combination of multiples of a greater list, below the least common multiple
  standard_from_remainder : (list more : List ModuleVector) → ((k : Multiple) → IsMultipleOf variables list k → IsMultipleOf variables more k)
      → (g h r : ModuleVector) → ReducesTo order variables list (λ t. order (lcm_term (lead g) (lead h)) t ≡ Greater) (s_vector order g h) r
      → (f : FormalSum Multiple) → AllKeys (IsMultipleOf variables more) f → AllKeys (λ k. order (lcm_term (lead g) (lead h)) (multiple_lead k) ≡ Greater) f
      → SameVector r (combination multiple_value f) → HasStandardRepresentation order variables more g h
  standard_from_remainder list more within g h r reduces f multiples leads same =
      let lcm = lcm_term (lead g) (lead h) in
      let a = multiple_with_lead lcm g in
      let b = multiple_with_lead lcm h in
      IsEqualBelow-from_weights order same_term terms_decide multiple_value multiple_lead (IsMultipleOf variables more) lcm a b (reduces.summands ++ f)
      (AllKeys-append (IsMultipleOf variables more) reduces.summands f (AllKeys-weaker _ _ within reduces.summands reduces.multiples) multiples)
      (AllKeys-append (λ k. order lcm (multiple_lead k) ≡ Greater) reduces.summands f reduces.leads leads)
      (λ w.
      let first = (weighted_sum-subtract order laws.total laws.unique (multiple_value a) 1 b.0 h (lit< tt) w).same_residue in
      let second = (weighted_sum-SameCoefficients same_term terms_decide w _ _ reduces.sum).same_residue in
      let third = (weighted_sum-SameCoefficients same_term terms_decide w _ _ same).same_residue in
      record {
        same_residue = omega (
          arith,
          first,
          second,
          third,
          weighted_sum-append w r (combination multiple_value reduces.summands),
          weighted_sum-combination multiple_value w reduces.summands,
          weighted_sum-combination multiple_value w f,
          weighted_sum-append (λ k. weighted_sum w (multiple_value k)) reduces.summands f,
        );
      })

  pub standard_from_zero : (list : List ModuleVector) (g h : ModuleVector)
      → ReducesTo order variables list (λ t. order (lcm_term (lead g) (lead h)) t ≡ Greater) (s_vector order g h) [] → HasStandardRepresentation order variables list g h
  standard_from_zero list g h reduces = standard_from_remainder list list (λ k m. m) g h [] reduces [] tt tt (SameCoefficients-refl same_term [])

  -- the lead of a vector that is not zero is of the kind of its terms
  kind_of_lead : (P : Term → Type 0) (v : ModuleVector) → v ≢ [] → AllKeys P v → P (lead v)
  kind_of_lead P [] not_zero h = absurd (not_zero refl)
  kind_of_lead P (t ∷ v) not_zero h = h.0

  pub standard_from_new : (list : List ModuleVector) (g h r : ModuleVector) → r ≢ []
      → ReducesTo order variables list (λ t. order (lcm_term (lead g) (lead h)) t ≡ Greater) (s_vector order g h) r
      → HasStandardRepresentation order variables (list ++ monic_of order r ∷ []) g h
  standard_from_new list g h r not_zero reduces =
      let lcm = lcm_term (lead g) (lead h) in
      let new = monic_of order r in
      let more = list ++ new ∷ [] in
      let is_monic = IsMonicVector-monic_of laws r reduces.canonical not_zero reduces.terms in
      let lead_valid = IsTerm-lead laws new is_monic.monic is_monic.terms in
      let unit : Multiple = (replicate variables 0, new) in
      let lead_is : multiple_lead unit ≡ lead r =
      (λ i. ((lead new).0, add_exponents-one variables (lead new).1 lead_valid.exponents i)) ∙ lead-monic_of laws r reduces.canonical not_zero
      in
      let below : order lcm (multiple_lead unit) ≡ Greater = ap (order lcm) lead_is ∙ kind_of_lead (λ t. order lcm t ≡ Greater) r not_zero reduces.kind in
      standard_from_remainder list more (λ k m. record { exponents = m.exponents; generator = Contains-append_left list (new ∷ []) k.1 m.generator }) g h r reduces
      ((unit, lead_coefficient r) ∷ [])
      (record { exponents = length-ones variables; generator = Contains-push list new }, tt) (below, tt)
      (SameCoefficients-trans (SameVector-scale_monic laws r reduces.canonical not_zero)
      (SameCoefficients-from_sums same_term terms_decide _ _ (λ w.
      let same = ap (weighted_sum w) (multiply_vector-one variables new is_monic.terms) in
      weighted_sum-scale w (lead_coefficient r) new ∙ ap (λ n. lead_coefficient r * n) (sym same) ∙ sym (weighted_sum-scale w (lead_coefficient r) (multiple_value unit))
      ∙ omega (arith, weighted_sum-append w (scale (lead_coefficient r) (multiple_value unit)) []))))
