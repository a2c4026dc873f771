-- Each formal sum has a reduced form by the span of a list of rows: the list has a basis with distinct
-- leads, and the leads are eliminated from the highest down.
use Rattle.std.proofs.Common.{◌≡◌, ◌≢◌, ◌⊎◌, inl, inr, ℕ, zero, suc, ◌*◌, ◌%◌, ◌<◌, ◌≤◌, Bool, true, false, if◌then◌else◌, List, [], ◌∷◌, ◌++◌, length, sym, refl, subst, ⊎_elim, lit<, arith}
use Rattle.std.specs.Ordering.{eq_by_cmp}
use Rattle.std.specs.declared.cmp.Ordering.{Ordering}
use Rattle.std.specs.declared.cmp.Ordering.TheVariants.{Less, Equal, Greater}
use Rattle.std.specs.Cmp.{IsTotalOrder}
use Rattle.std.specs.FinMap.{IsAntisymmetric}
use Rattle.std.specs.Bool.{Decides}
use Rattle.std.proofs.Math.Nat.{mod-lt}
use Rattle.std.proofs.lemmas.Bool.{cases_lt}
use Rattle.ibp_field.specs.Arithmetic.{IsCongruent}
use Rattle.ibp_algebra.specs.FormalSum.{FormalSum, weighted_sum, AllKeys, AllBelow, IsCanonical, scale}
use Rattle.ibp_field.proofs.Congruence.{IsCongruent-refl, IsCongruent-trans, IsCongruent-mul, IsCongruent-mod, IsCongruent-from_eq}
use Rattle.ibp_field.proofs.Inverse.{inverse_exists}
use Rattle.ibp_algebra.proofs.Weights.{unit_weight, weighted_sum-append, weighted_sum-scale, SameCoefficients-from_weights, weighted_sum-SameCoefficients}
use Rattle.ibp_algebra.proofs.SumLaws.{SameCoefficients-refl, SameCoefficients-sym, SameCoefficients-trans, SameCoefficients-append, append_comm}
use Rattle.ibp_algebra.proofs.Canonical.{AllBelow-trans, Greater-reverse}
use Rattle.ibp_algebra.specs.Spans.{row_at, difference, SameSum, coefficient_by, InSpan, IsLead, IsReducedForm}
use Rattle.ibp_algebra.specs.Combination.{combination}
use Rattle.ibp_algebra.proofs.Members.{order_decides, InSpan-IsSubspace, InSpan-row, InSpan-trans, combination_in}
use Rattle.ibp_algebra.proofs.Combinations.{AllKeys-weaker}
use Rattle.ibp_algebra.proofs.Leads.{zero_or_lead, below_key}
use Rattle.ibp_algebra.proofs.ReducedForms.{difference-from_sum, IsReducedForm-from_pivots, IsReducedForm-along}

module _ {K : Type 0} (order : K → K → Ordering) (total : IsTotalOrder order) (unique : IsAntisymmetric order) where
  abbrev same : K → K → Bool
  same = eq_by_cmp order

  decides : (a b : K) → Decides (same a b) (a ≡ b)
  decides = order_decides order total unique

  -- the key is the key of a term
  abbrev IsKey : FormalSum K → K → Type 0
  IsKey [] key = ⊥
  IsKey (term ∷ terms) key = (term.0 ≡ key) ⊎ IsKey terms key

  all_at : (P : K → Type 0) (f : FormalSum K) → AllKeys P f → (key : K) → IsKey f key → P key
  all_at P [] h key is = absurd is
  all_at P (t ∷ f) h key (inl here) = subst P here h.0
  all_at P (t ∷ f) h key (inr later) = all_at P f h.1 key later

  own_keys : (f : FormalSum K) → AllKeys (IsKey f) f
  own_keys [] = tt
  own_keys (t ∷ f) = (inl refl, AllKeys-weaker (IsKey f) (IsKey (t ∷ f)) (λ k later. inr later) f (own_keys f))

  -- what is left of f, and the multiples of pivots that were taken off
  record Left (pivot : K → FormalSum K) (leads f : FormalSum K) : Type 0 where
    rest : FormalSum K
    taken : FormalSum K
    keys : AllKeys (IsKey leads) taken
    sum : SameSum order f (rest ++ combination pivot taken)
    zero_there : AllKeys (λ k. coefficient_by order rest k ≡ 0) leads

  -- the multiple of a row that cancels a coefficient
  cancelling : (row : FormalSum K) (key : K) (value : ℕ) → IsLead order row key → (a : ℕ) × IsCongruent (a * weighted_sum (unit_weight same key) row) value
  cancelling row key value h =
      let top = weighted_sum (unit_weight same key) row in
      let positive : 0 < top % 2147483647 = ⊎_elim (λ (some : 0 < top % 2147483647). some) (λ (none : top % 2147483647 ≤ 0). absurd (h.occurs (omega arith))) (cases_lt 0 (top % 2147483647)) in
      let inverse = inverse_exists (top % 2147483647) positive (mod-lt top (lit< tt)) in
      let one : IsCongruent (inverse.0 * top) 1 = IsCongruent-trans (IsCongruent-mul (IsCongruent-refl inverse.0) (record { same_residue = sym (IsCongruent-mod top).same_residue })) inverse.1 in (
        value * inverse.0,
        IsCongruent-trans (IsCongruent-from_eq {a = value * inverse.0 * top} {b = value * (inverse.0 * top)} (omega arith))
            (IsCongruent-trans (IsCongruent-mul (IsCongruent-refl value) one) (IsCongruent-from_eq {a = value * 1} {b = value} (omega arith))),
      )

  module _ (pivot : K → FormalSum K) where
    -- the leads from the highest down
    eliminated : (leads : FormalSum K) → IsCanonical order leads → AllKeys (λ k. IsLead order (pivot k) k) leads → (f : FormalSum K) → Left pivot leads f
    eliminated [] canonical are f =
        record { rest = f; taken = []; keys = tt; sum = SameCoefficients-from_weights same decides _ _ (λ w. IsCongruent-from_eq (omega (arith, weighted_sum-append w f []))); zero_there = tt }
    eliminated (t ∷ leads) canonical are f =
        let unit = unit_weight same t.0 in
        let found = cancelling (pivot t.0) t.0 (weighted_sum unit f) are.0 in
        let a = found.0 in
        let next = f ++ scale (2147483646 * a) (pivot t.0) in
        let later = eliminated leads canonical.3 are.1 next in
        let below : AllBelow order t.0 later.taken = AllKeys-weaker (IsKey leads) (λ k. order t.0 k ≡ Greater) (λ k is. all_at (λ j. order t.0 j ≡ Greater) leads canonical.2 k is) later.taken later.keys in
        let others = below_key order total unique pivot (IsKey leads) (λ k is. all_at (λ j. IsLead order (pivot j) j) leads are.1 k is) t.0 later.taken below later.keys in
        let whole = later.sum.same_at t.0 in
        record {
          rest = later.rest;
          taken = (t.0, a) ∷ later.taken;
          keys = (inl refl, AllKeys-weaker (IsKey leads) (IsKey (t ∷ leads)) (λ k is. inr is) later.taken later.keys);
          sum = SameCoefficients-from_weights same decides _ _ (λ w.
              let sums = weighted_sum-SameCoefficients same decides w next (later.rest ++ combination pivot later.taken) later.sum in
              record {
                same_residue = omega (
                  arith,
                  sums.same_residue,
                  weighted_sum-append w f (scale (2147483646 * a) (pivot t.0)),
                  weighted_sum-scale w (2147483646 * a) (pivot t.0),
                  weighted_sum-append w later.rest (combination pivot later.taken),
                  weighted_sum-append w later.rest (scale a (pivot t.0) ++ combination pivot later.taken),
                  weighted_sum-append w (scale a (pivot t.0)) (combination pivot later.taken),
                  weighted_sum-scale w a (pivot t.0),
                );
              });
          zero_there = (
            omega (
              arith,
              whole,
              others.same_residue,
              found.1.same_residue,
              weighted_sum-append unit f (scale (2147483646 * a) (pivot t.0)),
              weighted_sum-scale unit (2147483646 * a) (pivot t.0),
              weighted_sum-append unit later.rest (combination pivot later.taken),
            ),
            later.zero_there,
          );
        }

  -- ---- leads in order

  placed_lead : Ordering → K → K × ℕ → FormalSum K → FormalSum K → FormalSum K
  placed_lead Less key first others after = first ∷ after
  placed_lead Equal key first others after = first ∷ others
  placed_lead Greater key first others after = (key, 1) ∷ first ∷ others

  with_lead : K → FormalSum K → FormalSum K
  with_lead key [] = (key, 1) ∷ []
  with_lead key (first ∷ others) = placed_lead (order key first.0) key first others (with_lead key others)

  AllKeys-placed : (P : K → Type 0) (key : K) (first : K × ℕ) (others after : FormalSum K) (r : Ordering) → P key → AllKeys P (first ∷ others) → AllKeys P after → AllKeys P (placed_lead r key first others after)
  unfolding placed_lead
  AllKeys-placed P key first others after Less p h k = (h.0, k)
  AllKeys-placed P key first others after Equal p h k = h
  AllKeys-placed P key first others after Greater p h k = (p, h)

  AllKeys-with_lead : (P : K → Type 0) (key : K) (f : FormalSum K) → P key → AllKeys P f → AllKeys P (with_lead key f)
  unfolding with_lead
  AllKeys-with_lead P key [] p h = (p, tt)
  AllKeys-with_lead P key (t ∷ f) p h = AllKeys-placed P key t f (with_lead key f) (order key t.0) p h (AllKeys-with_lead P key f p h.1)

  canonical_placed : (key : K) (first : K × ℕ) (others after : FormalSum K) (r : Ordering) → order key first.0 ≡ r → IsCanonical order (first ∷ others) → IsCanonical order after
      → (order first.0 key ≡ Greater → AllBelow order first.0 after) → IsCanonical order (placed_lead r key first others after)
  unfolding placed_lead
  canonical_placed key first others after Less e h k below = (h.0, h.1, below (Greater-reverse order total key first.0 e), k)
  canonical_placed key first others after Equal e h k below = h
  canonical_placed key first others after Greater e h k below = (omega arith, lit< tt, (e, AllBelow-trans order total key first.0 others e h.2), h)

  canonical_with_lead : (key : K) (f : FormalSum K) → IsCanonical order f → IsCanonical order (with_lead key f)
  unfolding with_lead
  canonical_with_lead key [] h = (omega arith, lit< tt, tt, tt)
  canonical_with_lead key (t ∷ f) h =
      canonical_placed key t f (with_lead key f) (order key t.0) refl h (canonical_with_lead key f h.3) (λ above. AllKeys-with_lead (λ k. order t.0 k ≡ Greater) key f above h.2)

  new_placed : (key : K) (first : K × ℕ) (others after : FormalSum K) (r : Ordering) → order key first.0 ≡ r → IsKey after key → IsKey (placed_lead r key first others after) key
  unfolding placed_lead
  new_placed key first others after Less e h = inr h
  new_placed key first others after Equal e h = inl (sym (unique key first.0 e))
  new_placed key first others after Greater e h = inl refl

  new_lead : (key : K) (f : FormalSum K) → IsKey (with_lead key f) key
  unfolding with_lead
  new_lead key [] = inl refl
  new_lead key (t ∷ f) = new_placed key t f (with_lead key f) (order key t.0) refl (new_lead key f)

  old_placed : (key k : K) (first : K × ℕ) (others after : FormalSum K) (r : Ordering) → (IsKey others k → IsKey after k) → IsKey (first ∷ others) k → IsKey (placed_lead r key first others after) k
  unfolding placed_lead
  old_placed key k first others after Less later (inl here) = inl here
  old_placed key k first others after Less later (inr there) = inr (later there)
  old_placed key k first others after Equal later is = is
  old_placed key k first others after Greater later is = inr is

  old_lead : (key k : K) (f : FormalSum K) → IsKey f k → IsKey (with_lead key f) k
  unfolding with_lead
  old_lead key k [] is = absurd is
  old_lead key k (t ∷ f) is = old_placed key k t f (with_lead key f) (order key t.0) (old_lead key k f) is

  -- ---- a basis with distinct leads

  record Basis (rows : List (FormalSum K)) : Type 0 where
    leads : FormalSum K
    pivot : K → FormalSum K
    canonical : IsCanonical order leads
    are : AllKeys (λ k. IsLead order (pivot k) k) leads
    within : AllKeys (λ k. InSpan order (row_at rows) (λ i. i < length rows) (pivot k)) leads
    spans : (i : ℕ) → i < length rows → InSpan order pivot (IsKey leads) (row_at rows i)

  one_more_row : (r : FormalSum K) (rows : List (FormalSum K)) (f : FormalSum K) → InSpan order (row_at rows) (λ i. i < length rows) f → InSpan order (row_at (r ∷ rows)) (λ i. i < length (r ∷ rows)) f
  one_more_row r rows f h =
      InSpan-trans order total unique (row_at (r ∷ rows)) (λ i. i < length (r ∷ rows)) (row_at rows) (λ i. i < length rows)
      (λ i within. InSpan-row order total unique (row_at (r ∷ rows)) (λ j. j < length (r ∷ rows)) (suc i) (omega arith)) h

  with_pivot : (K → FormalSum K) → K → FormalSum K → K → FormalSum K
  with_pivot pivot key row k = if same k key then row else pivot k

  pivot_new : (pivot : K → FormalSum K) (key : K) (row : FormalSum K) → with_pivot pivot key row key ≡ row
  unfolding with_pivot
  pivot_new pivot key row = let one : same key key ≡ true = (decides key key).1 refl in rw one refl

  old_step : (pivot : K → FormalSum K) (key k : K) (row : FormalSum K) (b : Bool) → same k key ≡ b → k ≢ key → (if b then row else pivot k) ≡ pivot k
  old_step pivot key k row true e other = absurd (other ((decides k key).0 e))
  old_step pivot key k row false e other = refl

  pivot_old : (pivot : K → FormalSum K) (key k : K) (row : FormalSum K) → k ≢ key → with_pivot pivot key row k ≡ pivot k
  unfolding with_pivot
  pivot_old pivot key k row other = old_step pivot key k row (same k key) refl other

  dependent_row : (r : FormalSum K) (rows : List (FormalSum K)) (b : Basis rows) (left : Left b.pivot b.leads r) → SameSum order left.rest [] → Basis (r ∷ rows)
  dependent_row r rows b left none = record {
    leads = b.leads;
    pivot = b.pivot;
    canonical = b.canonical;
    are = b.are;
    within = AllKeys-weaker (λ k. InSpan order (row_at rows) (λ i. i < length rows) (b.pivot k)) (λ k. InSpan order (row_at (r ∷ rows)) (λ i. i < length (r ∷ rows)) (b.pivot k))
        (λ k h. one_more_row r rows (b.pivot k) h) b.leads b.within;
    spans = spans;
  }
    where
      spans : (i : ℕ) → i < length (r ∷ rows) → InSpan order b.pivot (IsKey b.leads) (row_at (r ∷ rows) i)
      spans zero within = record {
        weights = left.taken;
        among = left.keys;
        equal = SameCoefficients-trans left.sum (SameCoefficients-append same decides none (SameCoefficients-refl same (combination b.pivot left.taken)));
      }
      spans (suc i) within = b.spans i (omega arith)

  new_row : (r : FormalSum K) (rows : List (FormalSum K)) (b : Basis rows) (left : Left b.pivot b.leads r) (key : K) → IsLead order left.rest key → Basis (r ∷ rows)
  new_row r rows b left key lead =
      let pivot' = with_pivot b.pivot key left.rest in
      let leads' = with_lead key b.leads in
      let V = InSpan order (row_at (r ∷ rows)) (λ i. i < length (r ∷ rows)) in
      let space = InSpan-IsSubspace order total unique (row_at (r ∷ rows)) (λ i. i < length (r ∷ rows)) in
      let other : (k : K) → IsKey b.leads k → k ≢ key = λ k is here. lead.occurs (subst (λ j. coefficient_by order left.rest j ≡ 0) here (all_at (λ j. coefficient_by order left.rest j ≡ 0) b.leads left.zero_there k is)) in
      let old_in : (k : K) → IsKey b.leads k → V (b.pivot k) = λ k is. one_more_row r rows (b.pivot k) (all_at (λ j. InSpan order (row_at rows) (λ i. i < length rows) (b.pivot j)) b.leads b.within k is) in
      let taken_in : V (combination b.pivot left.taken) = combination_in order V space b.pivot (IsKey b.leads) old_in left.taken left.keys in
      let rest_in : V left.rest =
      space.alike (difference r (combination b.pivot left.taken)) left.rest
      (difference-from_sum order r (combination b.pivot left.taken) left.rest (SameCoefficients-trans left.sum (append_comm same decides left.rest (combination b.pivot left.taken))))
      (space.append r (scale 2147483646 (combination b.pivot left.taken)) (InSpan-row order total unique (row_at (r ∷ rows)) (λ i. i < length (r ∷ rows)) 0 (omega arith))
      (space.multiple 2147483646 (combination b.pivot left.taken) taken_in))
      in
      record {
        leads = leads';
        pivot = pivot';
        canonical = canonical_with_lead key b.leads b.canonical;
        are = AllKeys-with_lead (λ k. IsLead order (pivot' k) k) key b.leads
            (subst (λ f. IsLead order f key) (sym (pivot_new b.pivot key left.rest)) lead)
            (AllKeys-weaker (IsKey b.leads) (λ k. IsLead order (pivot' k) k)
            (λ k is. subst (λ f. IsLead order f k) (sym (pivot_old b.pivot key k left.rest (other k is))) (all_at (λ j. IsLead order (b.pivot j) j) b.leads b.are k is)) b.leads (own_keys b.leads));
        within = AllKeys-with_lead (λ k. V (pivot' k)) key b.leads (subst V (sym (pivot_new b.pivot key left.rest)) rest_in)
            (AllKeys-weaker (IsKey b.leads) (λ k. V (pivot' k)) (λ k is. subst V (sym (pivot_old b.pivot key k left.rest (other k is))) (old_in k is)) b.leads (own_keys b.leads));
        spans = all_spanned r rows b left key other;
      }
    where
      all_spanned : (r : FormalSum K) (rows : List (FormalSum K)) (b : Basis rows) (left : Left b.pivot b.leads r) (key : K) → ((k : K) → IsKey b.leads k → k ≢ key)
          → (i : ℕ) → i < length (r ∷ rows) → InSpan order (with_pivot b.pivot key left.rest) (IsKey (with_lead key b.leads)) (row_at (r ∷ rows) i)
      all_spanned r rows b left key other i within =
          let W = InSpan order (with_pivot b.pivot key left.rest) (IsKey (with_lead key b.leads)) in
          let space = InSpan-IsSubspace order total unique (with_pivot b.pivot key left.rest) (IsKey (with_lead key b.leads)) in
          let old : (k : K) → IsKey b.leads k → W (b.pivot k) =
          λ k is.
          subst W (pivot_old b.pivot key k left.rest (other k is))
          (InSpan-row order total unique (with_pivot b.pivot key left.rest) (IsKey (with_lead key b.leads)) k (old_lead key k b.leads is))
          in
          let rest : W left.rest =
          subst W (pivot_new b.pivot key left.rest) (InSpan-row order total unique (with_pivot b.pivot key left.rest) (IsKey (with_lead key b.leads)) key (new_lead key b.leads))
          in
          let first : W r =
          space.alike (left.rest ++ combination b.pivot left.taken) r (SameCoefficients-sym left.sum)
          (space.append left.rest (combination b.pivot left.taken) rest (combination_in order W space b.pivot (IsKey b.leads) old left.taken left.keys))
          in
          by_place i within first old
        where
          by_place : (i : ℕ) → i < length (r ∷ rows) → InSpan order (with_pivot b.pivot key left.rest) (IsKey (with_lead key b.leads)) r
              → ((k : K) → IsKey b.leads k → InSpan order (with_pivot b.pivot key left.rest) (IsKey (with_lead key b.leads)) (b.pivot k))
              → InSpan order (with_pivot b.pivot key left.rest) (IsKey (with_lead key b.leads)) (row_at (r ∷ rows) i)
          by_place zero within first old = first
          by_place (suc i) within first old =
              InSpan-trans order total unique (with_pivot b.pivot key left.rest) (IsKey (with_lead key b.leads)) b.pivot (IsKey b.leads) old (b.spans i (omega arith))

  basis_of : (rows : List (FormalSum K)) → Basis rows
  basis_of [] = record { leads = []; pivot = λ k. []; canonical = tt; are = tt; within = tt; spans = λ i within. absurd (omega arith) }
  basis_of (r ∷ rows) =
      let b = basis_of rows in
      let left = eliminated b.pivot b.leads b.canonical b.are r in
      ⊎_elim
      (λ (none : SameSum order left.rest []). dependent_row r rows b left none)
      (λ (lead : (key : K) × IsLead order left.rest key). new_row r rows b left lead.0 lead.1)
      (zero_or_lead order total unique left.rest)

  -- each formal sum has a reduced form by the span of a list of rows
  pub reduced_form_exists : (rows : List (FormalSum K)) (f : FormalSum K) → (w : FormalSum K) × IsReducedForm order (InSpan order (row_at rows) (λ i. i < length rows)) f w
  reduced_form_exists rows f =
      let b = basis_of rows in
      let left = eliminated b.pivot b.leads b.canonical b.are f in
      let V = InSpan order (row_at rows) (λ i. i < length rows) in
      let reduced =
      IsReducedForm-from_pivots order total unique b.pivot (IsKey b.leads) (λ k is. all_at (λ j. IsLead order (b.pivot j) j) b.leads b.are k is) f left.rest
      (record { weights = left.taken; among = left.keys; equal = difference-from_sum order f left.rest (combination b.pivot left.taken) left.sum })
      (λ k is. all_at (λ j. coefficient_by order left.rest j ≡ 0) b.leads left.zero_there k is)
      in (
        left.rest,
        IsReducedForm-along order (InSpan order b.pivot (IsKey b.leads)) V
            (λ v member. InSpan-trans order total unique (row_at rows) (λ i. i < length rows) b.pivot (IsKey b.leads) (λ k is. all_at (λ j. V (b.pivot j)) b.leads b.within k is) member)
            (λ v member. InSpan-trans order total unique b.pivot (IsKey b.leads) (row_at rows) (λ i. i < length rows) b.spans member) f left.rest reduced,
      )
