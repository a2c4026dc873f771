-- What occurs in a reduced form occurs in the sum or in one of the rows of the span.
use Rattle.std.proofs.Common.{◌≡◌, ◌*◌, ◌%◌, refl, sym, ◌∙◌, ap, arith}
use Rattle.std.specs.Ordering.{eq_by_cmp}
use Rattle.std.specs.declared.cmp.Ordering.{Ordering}
use Rattle.ibp_algebra.specs.FormalSum.{FormalSum}
use Rattle.ibp_algebra.specs.Combination.{combination}
use Rattle.ibp_algebra.specs.Spans.{coefficient_by, InSpan, IsReducedForm}
use Rattle.ibp_algebra.proofs.Weights.{unit_weight, weighted_sum-append}
use Rattle.ibp_algebra.proofs.SumLaws.{coefficient-append, coefficient-scale}
use Rattle.ibp_algebra.proofs.Members.{IsSubspace, combination_in}
use Rattle.ibp_algebra.proofs.ReducedForms.{sum-from_difference}

module _ {K : Type 0} (order : K → K → Ordering) (key : K) where
  -- the sums in which a key does not occur
  abbrev IsFree : FormalSum K → Type 0
  IsFree f = coefficient_by order f key ≡ 0

  free_subspace : IsSubspace order IsFree
  free_subspace = record {
    none = refl;
    append = λ f g h k. let e = coefficient-append (eq_by_cmp order) f g key in omega (arith, e, h, k);
    multiple = λ a f h. coefficient-scale (eq_by_cmp order) a f key ∙ ap (λ n. (a * n) % 2147483647) h ∙ omega arith;
    alike = λ f g e h. sym (e.same_at key) ∙ h;
  }

  -- a key that is neither in the sum nor in a row of the span is not in the reduced form
  pub free_form : {I : Type 0} (row : I → FormalSum K) (Among : I → Type 0) (f form : FormalSum K) → IsReducedForm order (InSpan order row Among) f form
      → coefficient_by order f key ≡ 0 → ((i : I) → Among i → coefficient_by order (row i) key ≡ 0) → coefficient_by order form key ≡ 0
  free_form row Among f form h none each =
      let member = h.within in
      let sum = combination row member.weights in
      let whole = sum-from_difference order f form sum member.equal in
      let rest : coefficient_by order sum key ≡ 0 = combination_in order IsFree free_subspace row Among each member.weights member.among in
      omega (arith, whole.same_at key, weighted_sum-append (unit_weight (eq_by_cmp order) key) form sum, none, rest)
