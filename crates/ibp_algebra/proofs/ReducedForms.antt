-- A formal sum has at most one reduced form by a span.
use Rattle.std.proofs.Common.{◌≡◌, ◌+◌, ◌*◌, Bool, [], ◌++◌, ap, ◌∙◌, ⊎_elim, arith}
use Rattle.std.specs.Ordering.{eq_by_cmp}
use Rattle.std.specs.declared.cmp.Ordering.{Ordering}
use Rattle.std.specs.Cmp.{IsTotalOrder}
use Rattle.std.specs.FinMap.{IsAntisymmetric}
use Rattle.ibp_algebra.specs.FormalSum.{FormalSum, weighted_sum, scale}
use Rattle.ibp_algebra.proofs.Weights.{unit_weight, weighted_sum-append, weighted_sum-scale}
use Rattle.ibp_algebra.specs.Spans.{difference, SameSum, InSpan, IsLead, IsReducedForm, coefficient_by}
use Rattle.ibp_algebra.proofs.Members.{InSpan-same, InSpan-append, InSpan-scale}
use Rattle.ibp_algebra.proofs.Leads.{zero_or_lead, lead_of_member}

module _ {K : Type 0} (order : K → K → Ordering) where
  abbrev same : K → K → Bool
  same = eq_by_cmp order

  -- the coefficients of a difference
  difference_sum : (f g : FormalSum K) (key : K)
      → weighted_sum (unit_weight same key) (difference f g) ≡ weighted_sum (unit_weight same key) f + 2147483646 * weighted_sum (unit_weight same key) g
  difference_sum f g key =
      weighted_sum-append (unit_weight same key) f (scale 2147483646 g)
      ∙ ap (λ n. weighted_sum (unit_weight same key) f + n) (weighted_sum-scale (unit_weight same key) 2147483646 g)

  -- where a difference is zero the two are the same
  pub difference_zero : (f g : FormalSum K) → SameSum order (difference f g) [] → SameSum order f g
  difference_zero f g h = record { same_at = λ key. omega (arith, h.same_at key, difference_sum f g key) }

  -- f is g plus what it differs by
  pub difference-from_sum : (f g h : FormalSum K) → SameSum order f (g ++ h) → SameSum order (difference f g) h
  difference-from_sum f g h e =
      record { same_at = λ key. omega (arith, e.same_at key, difference_sum f g key, weighted_sum-append (unit_weight same key) g h) }

  pub sum-from_difference : (f g h : FormalSum K) → SameSum order (difference f g) h → SameSum order f (g ++ h)
  sum-from_difference f g h e =
      record { same_at = λ key. omega (arith, e.same_at key, difference_sum f g key, weighted_sum-append (unit_weight same key) g h) }

  -- two that differ from one sum
  difference_of_two : (f v w : FormalSum K) → SameSum order (difference f w ++ scale 2147483646 (difference f v)) (difference v w)
  difference_of_two f v w =
      record {
        same_at = λ key.
            omega (
              arith,
              difference_sum f v key,
              difference_sum f w key,
              difference_sum v w key,
              weighted_sum-append (unit_weight same key) (difference f w) (scale 2147483646 (difference f v)),
              weighted_sum-scale (unit_weight same key) 2147483646 (difference f v),
            );
      }

  -- no coefficient is left where neither sum has one
  no_lead : (v w : FormalSum K) (key : K) → coefficient_by order v key ≡ 0 → coefficient_by order w key ≡ 0 → coefficient_by order (difference v w) key ≡ 0
  no_lead v w key p q = omega (arith, difference_sum v w key, p, q)

  module _ (total : IsTotalOrder order) (unique : IsAntisymmetric order) {I : Type 0} (row : I → FormalSum K) (Among : I → Type 0) where
    -- at most one reduced form
    pub IsReducedForm-unique : (f v w : FormalSum K) → IsReducedForm order (InSpan order row Among) f v → IsReducedForm order (InSpan order row Among) f w → SameSum order v w
    IsReducedForm-unique f v w p q =
        let member : InSpan order row Among (difference v w) =
        InSpan-same order total unique row Among (difference_of_two f v w)
        (InSpan-append order total unique row Among q.within (InSpan-scale order total unique row Among 2147483646 p.within))
        in
        ⊎_elim
        (λ (zero : SameSum order (difference v w) []). difference_zero v w zero)
        (λ (lead : (key : K) × IsLead order (difference v w) key).
        absurd (lead.1.occurs (no_lead v w lead.0 (p.reduced (difference v w) lead.0 member lead.1) (q.reduced (difference v w) lead.0 member lead.1))))
        (zero_or_lead order total unique (difference v w))

  -- by rows with distinct leads, a form is reduced where it is zero at each lead
  pub IsReducedForm-from_pivots : (total : IsTotalOrder order) (unique : IsAntisymmetric order) (pivot : K → FormalSum K) (Pivots : K → Type 0)
      → ((k : K) → Pivots k → IsLead order (pivot k) k) → (f w : FormalSum K) → InSpan order pivot Pivots (difference f w)
      → ((k : K) → Pivots k → coefficient_by order w k ≡ 0) → IsReducedForm order (InSpan order pivot Pivots) f w
  IsReducedForm-from_pivots total unique pivot Pivots leads f w member zero =
      record { within = member; reduced = λ v key inside lead. zero key (lead_of_member order total unique pivot Pivots leads v key inside lead) }

  -- a set with the same members gives the same reduced forms
  pub IsReducedForm-along : (V W : FormalSum K → Type 0) → ((v : FormalSum K) → V v → W v) → ((v : FormalSum K) → W v → V v) → (f w : FormalSum K)
      → IsReducedForm order V f w → IsReducedForm order W f w
  IsReducedForm-along V W into back f w h = record { within = into _ h.within; reduced = λ v key inside lead. h.reduced v key (back v inside) lead }
