-- Buchberger's theorem for modules: where all pairs of a list have standard representations, the lead of each
-- vector of the submodule that it generates, of whatever degree, is divisible by a lead of the list.
use Rattle.std.proofs.Common.{◌≡◌, ◌≢◌, ℕ, Bool, true, length, List, [], sym, refl, ap, ◌∙◌}
use Rattle.std.specs.List.{All, Contains}
use Rattle.std.proofs.lemmas.List.Elements.{All-contains, All-contains_itself, All-weaker}
use Rattle.std.specs.declared.cmp.Ordering.{Ordering}
use Rattle.std.specs.declared.cmp.Ordering.TheVariants.{Greater}
use Rattle.ibp_algebra.specs.FormalSum.{coefficient, IsCanonical}
use Rattle.ibp_algebra.specs.Combination.{IsEqualBelow}
use Rattle.ibp_algebra.proofs.StandardRepresentations.{lead_of_combination}
use Rattle.ibp_algebra.specs.Exponents.{add_exponents}
use Rattle.mono_order.specs.Term.{Term, same_term, multiply_term, quotient_exponents, lcm_term, divides, divides_exponents, IsTerm}
use Rattle.mono_order.specs.TermOrder.{IsTermOrder}
use Rattle.mono_order.proofs.Terms.{terms_decide, IsTerm-multiply, divides-multiple, divides-times, lcm-divides, divides-lcm_left, divides-lcm_right, length-quotient, quotient-times, quotient_through, IsTerm-lcm}
use Rattle.mono_order.proofs.TermInduction.{term_induction}
use Rattle.module_vec.specs.ModuleVector.{ModuleVector, lead, IsMonicVector, Multiple, multiple_value, multiple_lead, IsMultipleOf, IsMember, HasDivisor}
use Rattle.module_vec.specs.Division.{multiple_with_lead}
use Rattle.module_vec.proofs.Submodules.{IsMember-generator}
use Rattle.module_vec.proofs.Multiples.{lead_coefficient-not_zero, coefficient_at_lead, coefficient_above_lead, lead-multiply, IsTerm-lead, IsMonicVector-multiply, IsEqualBelow-multiply}
use Rattle.module_basis.specs.GroebnerBasis.{HasStandardRepresentation, AllPairsReduce, IsGroebnerBasis}

module _ {variables : ℕ} {order : Term → Term → Ordering} {high : ℕ → Bool} {height : Term → ℕ} {bound : ℕ}
    (laws : IsTermOrder variables order high height bound)
    (list : List ModuleVector) (monic : All (IsMonicVector order variables) list) where
  monic_in : (g : ModuleVector) → Contains list g → IsMonicVector order variables g
  monic_in g h = All-contains (IsMonicVector order variables) list g monic h

  value_monic : (k : Multiple) → IsMultipleOf variables list k → IsMonicVector order variables (multiple_value k)
  value_monic k h = IsMonicVector-multiply laws k.0 k.1 h.exponents (monic_in k.1 h.generator)

  lead_of_value : (k : Multiple) → IsMultipleOf variables list k → lead (multiple_value k) ≡ multiple_lead k
  lead_of_value k h = lead-multiply laws k.0 k.1 (monic_in k.1 h.generator).monic

  coefficient_one : (k : Multiple) → IsMultipleOf variables list k → coefficient same_term (multiple_value k) (multiple_lead k) ≡ 1
  coefficient_one k h =
      ap (coefficient same_term (multiple_value k)) (sym (lead_of_value k h))
      ∙ coefficient_at_lead laws (multiple_value k) (value_monic k h).canonical ∙ (value_monic k h).monic

  none_above : (k : Multiple) → IsMultipleOf variables list k → (t : Term) → order t (multiple_lead k) ≡ Greater → coefficient same_term (multiple_value k) t ≡ 0
  none_above k h t above =
      coefficient_above_lead laws (multiple_value k) (value_monic k h).canonical t (ap (order t) (lead_of_value k h) ∙ above)

  lead_term : (k : Multiple) → IsMultipleOf variables list k → IsTerm variables (multiple_lead k)
  lead_term k h =
      let g = monic_in k.1 h.generator in
      IsTerm-multiply variables k.0 (lead k.1) h.exponents (IsTerm-lead laws k.1 g.monic g.terms)

  -- Where a pair has a standard representation, any two multiples of its vectors with one lead differ by lesser
  -- multiples: they are a common multiple of the two that meet at the least common multiple.
  pub standard_at : (a b : Multiple) → IsMultipleOf variables list a → IsMultipleOf variables list b → multiple_lead a ≡ multiple_lead b
      → HasStandardRepresentation order variables list a.1 b.1
      → IsEqualBelow order same_term multiple_value multiple_lead (IsMultipleOf variables list) (multiple_lead a) a b
  standard_at a b h k e standard =
      let g = monic_in a.1 h.generator in
      let f = monic_in b.1 k.generator in
      let s : IsTerm variables (lead a.1) = IsTerm-lead laws a.1 g.monic g.terms in
      let t : IsTerm variables (lead b.1) = IsTerm-lead laws b.1 f.monic f.terms in
      let top = multiple_lead a in
      let lcm = lcm_term (lead a.1) (lead b.1) in
      let lcm_is : IsTerm variables lcm = IsTerm-lcm variables (lead a.1) (lead b.1) s t in
      let same_length : length (lead a.1).1 ≡ length (lead b.1).1 = s.exponents ∙ sym t.exponents in
      let exponents_same : add_exponents b.0 (lead b.1).1 ≡ top.1 = ap (λ (u : Term). u.1) (sym e) in
      let first : divides_exponents (lead a.1).1 top.1 ≡ true = divides-times a.0 (lead a.1).1 (h.exponents ∙ sym s.exponents) in
      let second : divides_exponents (lead b.1).1 top.1 ≡ true =
      ap (divides_exponents (lead b.1).1) (sym exponents_same) ∙ divides-times b.0 (lead b.1).1 (k.exponents ∙ sym t.exponents)
      in
      let long : length top.1 ≡ variables = (lead_term a h).exponents in
      let within : divides_exponents lcm.1 top.1 ≡ true = lcm-divides (lead a.1).1 (lead b.1).1 top.1 same_length (t.exponents ∙ sym long) first second in
      let u = quotient_exponents top.1 lcm.1 in
      let shifted =
      IsEqualBelow-multiply laws list monic_in u lcm (multiple_with_lead lcm a.1) (multiple_with_lead lcm b.1)
      (length-quotient variables lcm.1 top.1 lcm_is.exponents long) lcm_is
      standard
      in
      let is_top : multiply_term u lcm ≡ top = ap (λ (x : List ℕ). ((lead a.1).0, x)) (quotient-times variables lcm.1 top.1 lcm_is.exponents long within) in
      let is_a : add_exponents u (multiple_with_lead lcm a.1).0 ≡ a.0 =
      quotient_through variables a.0 (lead a.1).1 lcm.1 top.1 h.exponents s.exponents lcm_is.exponents
      (divides-lcm_left (lead a.1).1 (lead b.1).1 same_length) within refl
      in
      let is_b : add_exponents u (multiple_with_lead lcm b.1).0 ≡ b.0 =
      quotient_through variables b.0 (lead b.1).1 lcm.1 top.1 k.exponents t.exponents lcm_is.exponents
      (divides-lcm_right (lead a.1).1 (lead b.1).1 same_length) within exponents_same
      in
      rw (is_top, is_a, is_b) at shifted

  replaced : AllPairsReduce order variables list → (a b : Multiple) → IsMultipleOf variables list a → IsMultipleOf variables list b → multiple_lead a ≡ multiple_lead b
      → IsEqualBelow order same_term multiple_value multiple_lead (IsMultipleOf variables list) (multiple_lead a) a b
  replaced pairs a b h k e = standard_at a b h k e (pairs.reduces a.1 b.1 h.generator k.generator (ap (λ (u : Term). u.0) e))

  buchberger_divisible : AllPairsReduce order variables list → (v : ModuleVector) → IsCanonical order v → v ≢ [] → IsMember variables list v → HasDivisor list (lead v)
  buchberger_divisible pairs v canonical not_zero member =
      let found =
      lead_of_combination order laws.total laws.unique same_term terms_decide multiple_value multiple_lead (IsMultipleOf variables list)
      coefficient_one none_above (replaced pairs) (IsTerm variables) lead_term (term_induction laws)
      member.summands member.multiples (lead v)
      (λ zero. lead_coefficient-not_zero order v canonical not_zero (sym (coefficient_at_lead laws v canonical) ∙ member.sum.same_at (lead v) ∙ zero))
      (λ k above. sym (member.sum.same_at k) ∙ coefficient_above_lead laws v canonical k above)
      in
      let generator = monic_in found.0.1 found.1.generator in
      let long : length (lead found.0.1).1 ≡ variables = (IsTerm-lead laws found.0.1 generator.monic generator.terms).exponents in (
        found.0.1,
        found.1.generator,
        ap (divides (lead found.0.1)) (sym found.2) ∙ divides-multiple found.0.0 (lead found.0.1) (found.1.exponents ∙ sym long),
      )

  -- Buchberger's theorem
  pub buchberger : AllPairsReduce order variables list → IsGroebnerBasis order (IsMember variables list) list
  buchberger pairs =
      record {
        members = All-weaker (Contains list) (IsMember variables list) (λ g h. IsMember-generator variables list g h (monic_in g h).terms) list (All-contains_itself list);
        divisible = buchberger_divisible pairs;
      }
