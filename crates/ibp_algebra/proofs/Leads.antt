-- Leads: a formal sum is zero or has one lead, and where the rows of a combination have distinct leads, its
-- own lead is one of these.
use Rattle.std.proofs.Common.{◌≡◌, ◌⊎◌, inl, inr, ℕ, ◌+◌, ◌*◌, ◌%◌, Bool, Option, [], ◌∷◌, sym, refl, ap, subst, ◌∙◌, arith}
use Rattle.std.specs.List.{slice_get}
use Rattle.std.specs.Option.{IfSome}
use Rattle.std.specs.Ordering.{eq_by_cmp}
use Rattle.std.specs.declared.cmp.Ordering.{Ordering}
use Rattle.std.specs.declared.cmp.Ordering.TheVariants.{Less, Equal, Greater}
use Rattle.std.specs.Cmp.{IsTotalOrder}
use Rattle.std.specs.FinMap.{IsAntisymmetric}
use Rattle.std.specs.Bool.{Decides}
use Rattle.ibp_field.specs.Arithmetic.{IsCongruent}
use Rattle.ibp_algebra.specs.FormalSum.{FormalSum, weighted_sum, AllKeys, AllBelow, IsCanonical, normal_form}
use Rattle.ibp_field.proofs.Congruence.{IsCongruent-refl, IsCongruent-trans, IsCongruent-mul, IsCongruent-add, IsCongruent-from_eq}
use Rattle.ibp_field.proofs.Inverse.{factor_is_zero}
use Rattle.ibp_algebra.proofs.Weights.{unit_weight}
use Rattle.ibp_algebra.proofs.SumLaws.{SameCoefficients-sym, SameCoefficients-trans}
use Rattle.ibp_algebra.proofs.Canonical.{AllBelow-trans, Greater-reverse, coefficient-above, coefficient-lead}
use Rattle.ibp_algebra.proofs.NormalForm.{IsCanonical-normal_form, AllKeys-normal_form, SameCoefficients-normal_form}
use Rattle.ibp_algebra.specs.Combination.{combination}
use Rattle.ibp_algebra.specs.Spans.{SameSum, InSpan, IsLead}
use Rattle.ibp_algebra.proofs.Combinations.{weighted_sum-combination}
use Rattle.ibp_algebra.proofs.CombinationLaws.{combination-weights}
use Rattle.ibp_algebra.proofs.Members.{order_decides}

module _ {K : Type 0} (order : K → K → Ordering) (total : IsTotalOrder order) (unique : IsAntisymmetric order) where
  abbrev same : K → K → Bool
  same = eq_by_cmp order

  decides : (a b : K) → Decides (same a b) (a ≡ b)
  decides = order_decides order total unique

  pub IsLead-same : {f g : FormalSum K} {key : K} → SameSum order f g → IsLead order f key → IsLead order g key
  IsLead-same {key = key} e h =
      record { occurs = λ zero. h.occurs (e.same_at key ∙ zero); highest = λ k above. sym (e.same_at k) ∙ h.highest k above }

  -- there is at most one lead
  pub IsLead-unique : (f : FormalSum K) (a b : K) → IsLead order f a → IsLead order f b → a ≡ b
  IsLead-unique f a b h k =
      elim (order a b) as (λ r. order a b ≡ r → a ≡ b) [
        | Less ↦ λ e. absurd (k.occurs (h.highest b (Greater-reverse order total a b e)))
        | Equal ↦ λ e. unique a b e
        | Greater ↦ λ e. absurd (h.occurs (k.highest a e))
      ] refl

  -- the lead of a canonical sum is the key of its first term
  pub IsLead-canonical : (t : K × ℕ) (f : FormalSum K) → IsCanonical order (t ∷ f) → IsLead order (t ∷ f) t.0
  IsLead-canonical t f h =
      record {
        occurs = λ zero. omega (arith, zero, coefficient-lead order total same decides t f h.2, h.0, h.1);
        highest = λ k above. ap (λ n. n % 2147483647) (coefficient-above order total same decides k (t ∷ f) (above, AllBelow-trans order total k t.0 f above h.2));
      }

  first_is_own_lead : (f : FormalSum K) → IsCanonical order f → IfSome (slice_get f 0) (λ t. IsLead order f t.0)
  first_is_own_lead [] h = tt
  first_is_own_lead (t ∷ f) h = IsLead-canonical t f h

  pub IsLead-first_term : (f : FormalSum K) (first : Option (K × ℕ)) → IsCanonical order f → first ≡ slice_get f 0 → IfSome first (λ t. IsLead order f t.0)
  IsLead-first_term f first h e = subst (λ (o : Option (K × ℕ)). IfSome o (λ t. IsLead order f t.0)) (sym e) (first_is_own_lead f h)

  zero_or_first : (f g : FormalSum K) → SameSum order g f → IsCanonical order g → SameSum order f [] ⊎ ((key : K) × IsLead order f key)
  zero_or_first f [] e h = inl (SameCoefficients-sym e)
  zero_or_first f (t ∷ g) e h = inr (t.0, IsLead-same e (IsLead-canonical t g h))

  -- a formal sum is zero or has a lead
  pub zero_or_lead : (f : FormalSum K) → SameSum order f [] ⊎ ((key : K) × IsLead order f key)
  zero_or_lead f =
      zero_or_first f (normal_form order f) (SameCoefficients-normal_form order total unique same decides f) (IsCanonical-normal_form order total unique f)

  module _ (pivot : K → FormalSum K) (Pivots : K → Type 0) (leads : (k : K) → Pivots k → IsLead order (pivot k) k) where
    -- no row with a lower lead has a term at the key
    pub below_key : (key : K) (c : FormalSum K) → AllBelow order key c → AllKeys Pivots c → IsCongruent (weighted_sum (unit_weight same key) (combination pivot c)) 0
    below_key key [] below p = IsCongruent-refl 0
    below_key key (t ∷ c) below p =
        let row : IsCongruent (weighted_sum (unit_weight same key) (pivot t.0)) 0 = record { same_residue = (leads t.0 p.0).highest key below.0 } in
        let others : IsCongruent (weighted_sum (λ k. weighted_sum (unit_weight same key) (pivot k)) c) 0 =
        rw (← weighted_sum-combination pivot (unit_weight same key) c) (below_key key c below.1 p.1)
        in
        rw (weighted_sum-combination pivot (unit_weight same key) (t ∷ c))
        (IsCongruent-trans (IsCongruent-add (IsCongruent-mul (IsCongruent-refl t.1) row) others)
        (IsCongruent-from_eq {a = t.1 * 0 + 0} {b = 0} (omega arith)))

    -- a combination by canonical weights has the lead of the first weight
    IsLead-first : (t : K × ℕ) (c : FormalSum K) → IsCanonical order (t ∷ c) → AllKeys Pivots (t ∷ c) → IsLead order (combination pivot (t ∷ c)) t.0
    IsLead-first t c h p =
        let row = weighted_sum (unit_weight same t.0) (pivot t.0) in
        let others : IsCongruent (weighted_sum (λ k. weighted_sum (unit_weight same t.0) (pivot k)) c) 0 =
        rw (← weighted_sum-combination pivot (unit_weight same t.0) c) (below_key t.0 c h.2 p.1)
        in
        let whole = weighted_sum-combination pivot (unit_weight same t.0) (t ∷ c) in
        record {
          occurs = λ zero.
              let product : IsCongruent (t.1 * row) 0 = record { same_residue = omega (arith, zero, whole, others.same_residue) } in
              let not_zero : ¬ (IsCongruent t.1 0) = λ e. omega (arith, e.same_residue, h.0, h.1) in
              (leads t.0 p.0).occurs ((factor_is_zero t.1 row not_zero product).same_residue);
          highest = λ k above. (below_key k (t ∷ c) (above, AllBelow-trans order total k t.0 c above h.2) p).same_residue;
        }

    first_is_lead : (v : FormalSum K) (key : K) (c : FormalSum K) → SameSum order v (combination pivot c) → IsCanonical order c → AllKeys Pivots c → IsLead order v key → Pivots key
    first_is_lead v key [] e h p lead = absurd (lead.occurs (e.same_at key))
    first_is_lead v key (t ∷ c) e h p lead =
        subst Pivots (IsLead-unique v t.0 key (IsLead-same (SameCoefficients-sym e) (IsLead-first t c h p)) lead) p.0

    -- the lead of a member of the span is the lead of a row
    pub lead_of_member : (v : FormalSum K) (key : K) → InSpan order pivot Pivots v → IsLead order v key → Pivots key
    lead_of_member v key member lead =
        let c = normal_form order member.weights in
        let c_is = SameCoefficients-normal_form order total unique same decides member.weights in
        first_is_lead v key c
        (SameCoefficients-trans member.equal (combination-weights same decides same decides pivot member.weights c (SameCoefficients-sym c_is)))
        (IsCanonical-normal_form order total unique member.weights)
        (AllKeys-normal_form order total unique Pivots member.weights member.among) lead
