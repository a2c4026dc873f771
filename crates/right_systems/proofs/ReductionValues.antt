-- The reductions of a system are values of texts: their forms have small integrals, and their weights ascend.
use Rattle.std.proofs.Common.{◌≡◌, ◌≢◌, ℕ, ◌+◌, ◌*◌, ◌-◌, ◌%◌, ◌^◌, ◌<◌, ◌≤◌, true, false, if◌then◌else◌, inl, inr, ⊎_elim, List, [], ◌∷◌, length, get_or, map, refl, subst, arith}
use Rattle.std.specs.Prelude.{ℤ, pos, ◌≤ℤ◌, Contains}
use Rattle.std.specs.List.{AllByRecursion}
use Rattle.std.specs.List.Sorted.{IsStrictlyIncreasing}
use Rattle.std.specs.Ordering.{eq_by_cmp}
use Rattle.std.specs.declared.cmp.Ordering.TheVariants.{Greater}
use Rattle.std.proofs.lemmas.Bool.{cases_eq, cases_lt}
use Rattle.std.proofs.lemmas.Int.{by_lt_z, ints}
use Rattle.std.proofs.lemmas.List.{get_or_default}
use Rattle.ibp_algebra.specs.FormalSum.{FormalSum, AllKeys, IsCanonical, map_keys}
use Rattle.ibp_algebra.specs.Spans.{row_at, IsReducedForm}
use Rattle.ibp_algebra.proofs.Combinations.{AllKeys-weaker, AllKeys-both}
use Rattle.ibp_algebra.proofs.FormKeys.{free_form}
use Rattle.ibp_algebra.proofs.Members.{AllKeys-counting}
use Rattle.ibp_algebra.proofs.Numbers.{greater_is}
use Rattle.ibp_algebra.proofs.Terms.{AllKeys-canonical}
use Rattle.sector_lattice.specs.Orders.{integral_cmp_total, same_integrals, integrals_decide}
use Rattle.sector_lattice.specs.Sectors.{integral_cmp}
use Rattle.sparse_rows.specs.Rows.{IntegralSum, coefficient_of, is_zero_integral}
use Rattle.family.specs.FamilyData.{FamilyData}
use Rattle.family.specs.Shapes.{ArePowers}
use Rattle.row_echelon.specs.Echelons.{number_cmp}
use Rattle.row_echelon.specs.RowSpans.{WholeSpan}
use Rattle.relation_pick.specs.Marks.{AnyNamed}
use Rattle.relation_pick.specs.Picking.{AllAnswers}
use Rattle.relation_pick.proofs.ByRows.{weights_written}
use Rattle.relation_pick.proofs.Places.{rises, place_of, at_place_of}
use Rattle.system_text.specs.SystemValues.{IsIntegral, IsRow, IsWeight, Ascend, AreWeights, IsReduction}
use Rattle.target_rows.specs.Reductions.{declared_row, number_of, reductions_of}

-- ---- integrals

at_most : (x y : ℤ) → ((x ≤ℤ y → ⊥) → ⊥) → x ≤ℤ y
at_most x y h = by_lt_z y x (λ less. absurd (h (λ no. omega (arith, ints)))) (λ le. le)

-- what cannot fail to be an integral is one
is_integral : (n : ℕ) (integral : List ℤ) → ((IsIntegral n integral → ⊥) → ⊥) → IsIntegral n integral
is_integral n integral h = record {
  count = ⊎_elim (λ (same : length integral ≡ n). same) (λ (other : length integral ≢ n). absurd (h (λ is. other is.count))) (cases_eq (length integral) n);
  small = λ i d within. (at_most _ _ (λ no. h (λ is. no (is.small i d within).0)), at_most _ _ (λ no. h (λ is. no (is.small i d within).1)));
}

-- a coefficient is zero where it cannot be another
no_coefficient : (k : ℕ) → (k ≢ 0 → ⊥) → k ≡ 0
no_coefficient k h = ⊎_elim (λ (zero : k ≡ 0). zero) (λ (other : k ≢ 0). absurd (h other)) (cases_eq k 0)

one_term_free : (target integral : List ℤ) → target ≢ integral → coefficient_of ((target, 1) ∷ []) integral ≡ 0
one_term_free target integral apart =
    elim (eq_by_cmp integral_cmp target integral) as (λ b. eq_by_cmp integral_cmp target integral ≡ b → (1 * (if b then 1 else 0) + 0) % 2147483647 ≡ 0) [
      | true ↦ λ e. absurd (apart ((integrals_decide target integral).0 e))
      | false ↦ λ e. refl
    ] refl

declared_free : (family : FamilyData) (target integral : List ℤ) → target ≢ integral → coefficient_of (declared_row family target) integral ≡ 0
declared_free family target integral apart =
    elim (is_zero_integral family.zero target) as (λ b. coefficient_of (if b then [] else ((target, 1) ∷ [])) integral ≡ 0) [
      | true ↦ refl
      | false ↦ one_term_free target integral apart
    ]

integral_of : (n : ℕ) (target : List ℤ) → ArePowers n target → IsIntegral n target
integral_of n target powers = record {
  count = powers.count;
  small = λ k d within.
      let low = powers.low k in
      let high = powers.high k in
      rw (get_or_default target k d (pos 0) within) (omega (arith, ints), omega (arith, ints));
}

-- ---- forms

module _ (family : FamilyData) (candidates : List IntegralSum) (rows : (k : ℕ) → k < length candidates → IsRow family.n (row_at candidates k)) where
  form_integral : (target : List ℤ) (form : IntegralSum) → ArePowers family.n target → IsReducedForm integral_cmp (WholeSpan integral_cmp candidates) (declared_row family target) form
      → (integral : List ℤ) → coefficient_of form integral ≢ 0 → IsIntegral family.n integral
  form_integral target form powers reduced integral occurs =
      is_integral family.n integral (λ no.
      occurs (free_form integral_cmp integral (row_at candidates) (λ k. k < length candidates) (declared_row family target) form reduced
      (declared_free family target integral (λ same. no (subst (IsIntegral family.n) same (integral_of family.n target powers))))
      (λ k below. no_coefficient (coefficient_of (row_at candidates k) integral) (λ counts.
      no (AllKeys-counting integral_cmp integral_cmp_total same_integrals (IsIntegral family.n) (row_at candidates k) (rows k below).integrals integral counts)))))

  form_row : (target : List ℤ) (form : IntegralSum) → ArePowers family.n target → IsReducedForm integral_cmp (WholeSpan integral_cmp candidates) (declared_row family target) form
      → IsCanonical integral_cmp form → IsRow family.n form
  form_row target form powers reduced canonical = record {
    canonical = canonical;
    integrals = AllKeys-canonical (eq_by_cmp integral_cmp) integrals_decide integral_cmp integral_cmp_total (IsIntegral family.n) form canonical (form_integral target form powers reduced);
  }

  -- ---- weights

  module _ (written : List ℕ) (up : IsStrictlyIncreasing written) (few : length written < 2 ^ 31) where
    number_few : (k : ℕ) → Contains written k → number_of written k ≤ length written
    number_few k inside = let place = (at_place_of written k up inside).0 in omega (arith, place)

    number_rises : (a b : ℕ) → Contains written a → Contains written b → a < b → number_of written a < number_of written b
    number_rises a b in_a in_b below =
        let first = at_place_of written a up in_a in
        let second = at_place_of written b up in_b in
        let i = place_of written a in
        let j = place_of written b in
        ⊎_elim
        (λ (less : i < j). omega (arith, less))
        (λ (back : j ≤ i).
        let far : j + (i - j) ≡ i = omega arith in
        let rise : get_or written j 0 + (i - j) ≤ get_or written i 0 = subst (λ k. get_or written j 0 + (i - j) ≤ get_or written k 0) far (rises written up j (i - j) (omega (arith, far, first.0))) in
        absurd (omega (arith, rise, first.1, second.1, below)))
        (cases_lt i j)

    each_weight : (weights : FormalSum ℕ) → IsCanonical number_cmp weights → AllKeys (Contains written) weights → AllByRecursion IsWeight (map_keys (number_of written) weights)
    each_weight [] canonical inside = tt
    each_weight (weight ∷ weights) canonical inside = (
      record {
        some = omega arith;
        few = omega (arith, number_few weight.0 inside.0, few);
        not_zero = canonical.0;
        residue = canonical.1;
      },
      each_weight weights canonical.3 inside.1,
    )

    ascend_from : (low : ℕ) (weights : FormalSum ℕ) → IsCanonical number_cmp weights → AllKeys (Contains written) weights → AllKeys (λ k. low < number_of written k) weights
        → Ascend low (map_keys (number_of written) weights)
    ascend_from low [] canonical inside above = tt
    ascend_from low (weight ∷ weights) canonical inside above = (
      above.0,
      ascend_from (number_of written weight.0) weights canonical.3 inside.1
          (AllKeys-weaker (λ k. (number_cmp weight.0 k ≡ Greater) × Contains written k) (λ k. number_of written weight.0 < number_of written k)
          (λ k both. number_rises weight.0 k inside.0 both.1 (greater_is k weight.0 both.0)) weights
          (AllKeys-both (λ k. number_cmp weight.0 k ≡ Greater) (Contains written) weights canonical.2 inside.1)),
    )

    are_weights : (weights : FormalSum ℕ) → IsCanonical number_cmp weights → AllKeys (Contains written) weights → AreWeights (map_keys (number_of written) weights)
    are_weights weights canonical inside = record {
      each = each_weight weights canonical inside;
      ascending = ascend_from 0 weights canonical inside (AllKeys-weaker (Contains written) (λ k. 0 < number_of written k) (λ k h. omega arith) weights inside);
    }

    -- ---- reductions

    pub are_reductions : (targets : List (List ℤ)) (forms : List IntegralSum) (all : List (FormalSum ℕ)) → AllAnswers integral_cmp candidates (map (declared_row family) targets) forms all
        → AllByRecursion (ArePowers family.n) targets → ((k : ℕ) → AnyNamed all k → Contains written k) → AllByRecursion (IsReduction family.n) (reductions_of written targets forms all)
    are_reductions [] [] [] h powers named = tt
    are_reductions [] [] (w ∷ all) h powers named = absurd h
    are_reductions [] (form ∷ forms) all h powers named = absurd h
    are_reductions (target ∷ targets) [] all h powers named = absurd h
    are_reductions (target ∷ targets) (form ∷ forms) [] h powers named = absurd h
    are_reductions (target ∷ targets) (form ∷ forms) (w ∷ all) h powers named = (
      record {
        target = powers.0;
        reduced = form_row target form powers.0 h.0.reduced h.0.canonical;
        weights = are_weights w h.0.ascending (weights_written written w (λ k inside. named k (inl inside)));
      },
      are_reductions targets forms all h.1 powers.1 (λ k inside. named k (inr inside)),
    )
