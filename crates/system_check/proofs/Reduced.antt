-- Sums of the rows of relations, and the reductions that they give.
use Rattle.std.proofs.Common.{◌≡◌, ◌≢◌, ℕ, ◌+◌, ◌-◌, ◌<◌, ◌≤◌, Bool, true, false, true≢false, not, List, [], ◌∷◌, ◌++◌, length, get_or, take, drop, refl, sym, ap, ap₂, ◌∙◌, subst, append-nil, arith}
use Rattle.std.specs.Prelude.{IsTrue, ◌↔◌, ℤ}
use Rattle.std.specs.List.{All, AllByRecursion}
use Rattle.std.specs.Ordering.{eq_by_cmp}
use Rattle.std.proofs.lemmas.List.{get_or-map, take-append-drop, take_all, take_more, map_more, length-map}
use Rattle.std.proofs.lemmas.List.Elements.{All-from_recursion, All-weaker, All-take, All-drop}
use Rattle.ibp_algebra.specs.Combination.{combination}
use Rattle.ibp_algebra.specs.FormalSum.{IsCanonical, scale}
use Rattle.ibp_algebra.specs.Spans.{difference}
use Rattle.ibp_algebra.proofs.CombinationLaws.{combination-append}
use Rattle.ibp_algebra.proofs.SumLaws.{SameCoefficients-refl, SameCoefficients-from_eq, SameCoefficients-sym, SameCoefficients-trans, SameCoefficients-append}
use Rattle.sector_lattice.specs.Orders.{integrals_decide}
use Rattle.sector_lattice.specs.Sectors.{integral_cmp}
use Rattle.sparse_poly.proofs.Loops.{scale-one}
use Rattle.sparse_rows.specs.Equality.{same_terms_decide}
use Rattle.sparse_rows.specs.Rows.{IntegralSum, SameRow, same_terms}
use Rattle.family.specs.FamilyData.{FamilyData}
use Rattle.target_rows.specs.Reductions.{declared_row}
use Rattle.target_rows.proofs.TargetRows.{same_rows}
use Rattle.system_text.specs.SystemValues.{IsWeight}
use Rattle.system_text.specs.declared.value.Reduction.{Reduction}
use Rattle.system_text.specs.declared.value.Written.{Written}
use Rattle.system_check.specs.Rightness.{IsRightReduction, numbered_row, targets_of}

abbrev weighed : List Written → List (ℕ × ℕ) → IntegralSum
weighed relations weights = combination (numbered_row relations) weights

same_sums : {f g h k : IntegralSum} → SameRow f g → SameRow h k → SameRow (f ++ h) (g ++ k)
same_sums p q = SameCoefficients-append (eq_by_cmp integral_cmp) integrals_decide p q

row_numbered : (relations : List Written) (k : ℕ) (r : Written) → 1 ≤ k → k ≤ length relations → r ≡ get_or relations (k - 1) r → r.row ≡ numbered_row relations k
row_numbered relations k r some within is =
    ap (λ (s : Written). s.row) is ∙ sym (get_or-map (λ (s : Written). s.row) relations (k - 1) r [] (omega arith))

pub one_weighed : (relations : List Written) (k w : ℕ) (r : Written) (none row : IntegralSum) → 1 ≤ k → k ≤ length relations → r ≡ get_or relations (k - 1) r
    → SameRow none [] → SameRow row (none ++ scale w r.row) → SameRow row (weighed relations ((k, w) ∷ []))
one_weighed relations k w r none row some within is empty same =
    SameCoefficients-trans same
    (SameCoefficients-trans (same_sums empty (SameCoefficients-refl (eq_by_cmp integral_cmp) (scale w r.row)))
    (SameCoefficients-from_eq (ap (scale w) (row_numbered relations k r some within is) ∙ sym (append-nil (scale w (numbered_row relations k))))))

pub halves : (relations : List Written) (weights left right : List (ℕ × ℕ)) (i c : ℕ) (first second sum : IntegralSum) → left ≡ take i weights → right ≡ drop i weights → c ≡ 1
    → SameRow first (weighed relations left) → SameRow second (weighed relations right) → SameRow sum (first ++ scale c second) → SameRow sum (weighed relations weights)
halves relations weights left right i c first second sum front back one p q same =
    SameCoefficients-trans same
    (SameCoefficients-trans (SameCoefficients-from_eq (ap (λ (t : IntegralSum). first ++ t) (ap (λ (k : ℕ). scale k second) one ∙ scale-one second)))
    (SameCoefficients-trans (same_sums p q)
    (SameCoefficients-trans (SameCoefficients-sym (combination-append (eq_by_cmp integral_cmp) integrals_decide (numbered_row relations) left right))
    (SameCoefficients-from_eq (ap (weighed relations) (ap₂ (λ (x y : List (ℕ × ℕ)). x ++ y) front back ∙ take-append-drop i weights))))))

pub all_front : (P : ℕ × ℕ → Type 0) (weights part : List (ℕ × ℕ)) (i : ℕ) → part ≡ take i weights → All P weights → All P part
all_front P weights part i is all = subst (All P) (sym is) (All-take P i weights all)

pub all_back : (P : ℕ × ℕ → Type 0) (weights part : List (ℕ × ℕ)) (i : ℕ) → part ≡ drop i weights → All P weights → All P part
all_back P weights part i is all = subst (All P) (sym is) (All-drop P i weights all)

pub some_numbers : (weights : List (ℕ × ℕ)) → AllByRecursion IsWeight weights → All (λ w. 1 ≤ w.0) weights
some_numbers weights are = All-weaker IsWeight (λ w. 1 ≤ w.0) (λ w is. is.some) weights (All-from_recursion IsWeight weights are)

-- the row less its reduced form is the sum
pub right_where_same : (family : FamilyData) (relations : List Written) (r : Reduction) (target less sum : IntegralSum) (c : ℕ) (same : Bool)
    → All (λ weight. weight.0 ≤ length relations) r.weights → target ≡ declared_row family r.target → c ≡ 2147483646
    → IsCanonical integral_cmp less → IsCanonical integral_cmp sum → SameRow less (target ++ scale c r.reduced) → SameRow sum (weighed relations r.weights)
    → same ≡ same_terms less sum → IsTrue same ↔ IsRightReduction family relations r
right_where_same family relations r target less sum c same numbers declared minus canonical other left right tested = (forth, back)
  where
    its : SameRow less (difference (declared_row family r.target) r.reduced)
    its = SameCoefficients-trans left (SameCoefficients-from_eq (ap₂ (λ (t : IntegralSum) (k : ℕ). t ++ scale k r.reduced) declared minus))

    forth : IsTrue same → IsRightReduction family relations r
    forth holds =
        record {
          numbers = numbers;
          weighed = SameCoefficients-trans (SameCoefficients-sym its)
              (SameCoefficients-trans (SameCoefficients-from_eq ((same_terms_decide less sum).0 (sym tested ∙ holds))) right);
        }

    back : IsRightReduction family relations r → IsTrue same
    back is =
        tested ∙ (same_terms_decide less sum).1
        (same_rows less sum canonical other (SameCoefficients-trans its (SameCoefficients-trans is.weighed (SameCoefficients-sym right))))

-- targets that are alike so far
pub target_more : (reductions : List Reduction) (targets : List (List ℤ)) (i : ℕ) (r : Reduction) (target : List ℤ) → i < length reductions → i < length targets
    → r ≡ get_or reductions i r → target ≡ get_or targets i target → r.target ≡ target
    → targets_of (take i reductions) ≡ take i targets → targets_of (take (i + 1) reductions) ≡ take (i + 1) targets
target_more reductions targets i r target within inside r_is target_is same so_far =
    map_more (λ (s : Reduction). s.target) reductions i r within
    ∙ ap₂ (λ (ts : List (List ℤ)) (t : List ℤ). ts ++ t ∷ []) so_far (ap (λ (s : Reduction). s.target) (sym r_is) ∙ same ∙ target_is)
    ∙ sym (take_more targets i target inside)

pub target_other : (reductions : List Reduction) (targets : List (List ℤ)) (i : ℕ) (r : Reduction) (target : List ℤ) → i < length reductions
    → r ≡ get_or reductions i r → target ≡ get_or targets i target → r.target ≢ target → targets_of reductions ≢ targets
target_other reductions targets i r target within r_is target_is differ same =
    differ (ap (λ (s : Reduction). s.target) r_is ∙ sym (get_or-map (λ (s : Reduction). s.target) reductions i r target within)
    ∙ ap (λ (ts : List (List ℤ)). get_or ts i target) same ∙ sym target_is)

pub target_count : (reductions : List Reduction) (targets : List (List ℤ)) → length reductions ≢ length targets → targets_of reductions ≢ targets
target_count reductions targets differ same = differ (sym (length-map reductions (λ (s : Reduction). s.target)) ∙ ap length same)

pub all_targets : (reductions : List Reduction) (targets : List (List ℤ)) (i : ℕ) → length reductions ≡ length targets → length targets ≤ i
    → targets_of (take i reductions) ≡ take i targets → targets_of reductions ≡ targets
all_targets reductions targets i count most so_far =
    ap targets_of (sym (take_all i reductions (omega arith))) ∙ so_far ∙ take_all i targets most

-- what a test of two integrals says
by_test : (a b : List ℤ) (differ : Bool) → differ ≡ not (eq_by_cmp integral_cmp a b) → (same : Bool) → eq_by_cmp integral_cmp a b ≡ same → differ ≡ not same
by_test a b differ tested same is = tested ∙ ap not is

pub integral_same : (a b : List ℤ) (differ : Bool) → differ ≡ not (eq_by_cmp integral_cmp a b) → differ ≡ false → a ≡ b
integral_same a b differ tested fails = by (eq_by_cmp integral_cmp a b) refl
  where
    by : (same : Bool) → eq_by_cmp integral_cmp a b ≡ same → a ≡ b
    by true is = (integrals_decide a b).0 is
    by false is = absurd (true≢false (sym (by_test a b differ tested false is) ∙ fails))

pub integral_differs : (a b : List ℤ) (differ : Bool) → differ ≡ not (eq_by_cmp integral_cmp a b) → differ ≡ true → a ≢ b
integral_differs a b differ tested differs same = true≢false (sym differs ∙ by_test a b differ tested true ((integrals_decide a b).1 same))
