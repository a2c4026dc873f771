-- Each list of candidates has a pick for each list of targets.
use Rattle.std.proofs.Common.{◌≡◌, ◌⊎◌, inl, inr, ⊎_elim, ℕ, zero, suc, ◌<◌, ◌≤◌, List, [], ◌∷◌, ◌++◌, length, take, refl, sym, subst, ◌∙◌, arith, append-nil}
use Rattle.std.specs.Prelude.{Contains}
use Rattle.std.specs.List.Sorted.{IsStrictlyIncreasing}
use Rattle.std.specs.Ordering.{eq_by_cmp}
use Rattle.std.specs.declared.cmp.Ordering.{Ordering}
use Rattle.std.specs.Cmp.{IsTotalOrder}
use Rattle.std.specs.FinMap.{IsAntisymmetric}
use Rattle.std.proofs.lemmas.Bool.{cases_lt}
use Rattle.std.proofs.lemmas.List.{get_or-take, length-take-le}
use Rattle.std.proofs.lemmas.List.Elements.{Contains-append_left, Contains-push, Contains-push_cases}
use Rattle.ibp_algebra.specs.FormalSum.{FormalSum, normal_form}
use Rattle.ibp_algebra.specs.Combination.{combination}
use Rattle.ibp_algebra.specs.Spans.{row_at, difference, SameSum, InSpan, IsLead, IsReducedForm}
use Rattle.ibp_algebra.proofs.Combinations.{AllKeys-weaker}
use Rattle.ibp_algebra.proofs.CombinationLaws.{combination-weights}
use Rattle.ibp_algebra.proofs.Existence.{reduced_form_exists}
use Rattle.ibp_algebra.proofs.Leads.{zero_or_lead}
use Rattle.ibp_algebra.proofs.Members.{order_decides, InSpan-row, InSpan-trans}
use Rattle.ibp_algebra.proofs.NormalForm.{IsCanonical-normal_form, AllKeys-normal_form, SameCoefficients-normal_form}
use Rattle.ibp_algebra.proofs.ReducedForms.{difference-from_sum, sum-from_difference, IsReducedForm-unique}
use Rattle.ibp_algebra.proofs.SumLaws.{SameCoefficients-refl, SameCoefficients-sym, SameCoefficients-trans, SameCoefficients-append}
use Rattle.row_echelon.specs.Echelons.{number_cmp}
use Rattle.row_echelon.specs.RowSpans.{WholeSpan}
use Rattle.relation_pick.specs.Picking.{IsInBasis, IsAnswer, AllAnswers, IsPick}
use Rattle.relation_pick.specs.Marks.{IsNamed, AnyNamed, ListsNamed}
use Rattle.relation_pick.proofs.Answering.{number_total, number_unique}
use Rattle.relation_pick.proofs.Basis.{basis_spans}
use Rattle.relation_pick.proofs.Finishing.{names_listed, IsPick-whole}
use Rattle.relation_pick.proofs.Marking.{increasing_push}

-- ---- names in order

named_or_not : (weights : FormalSum ℕ) (k : ℕ) → IsNamed weights k ⊎ (¬ IsNamed weights k)
named_or_not [] k = inr (λ h. h)
named_or_not (t ∷ weights) k =
    elim (same_or_other t.0 k) [
      | inl same ↦ inl (inl same)
      | inr other ↦ elim (named_or_not weights k) [ inl later ↦ inl (inr later) | inr none ↦ inr (λ h. elim h [ inl same ↦ other same | inr later ↦ none later ]) ]
    ]
  where
    same_or_other : (a b : ℕ) → (a ≡ b) ⊎ (¬ (a ≡ b))
    same_or_other a b = grind arith

any_named_or_not : (all : List (FormalSum ℕ)) (k : ℕ) → AnyNamed all k ⊎ (¬ AnyNamed all k)
any_named_or_not [] k = inr (λ h. h)
any_named_or_not (weights ∷ all) k =
    elim (named_or_not weights k) [
      | inl here ↦ inl (inl here)
      | inr not_here ↦ elim (any_named_or_not all k) [ inl later ↦ inl (inr later) | inr none ↦ inr (λ h. elim h [ inl here ↦ not_here here | inr later ↦ none later ]) ]
    ]

-- the names below a number, lowest first
record NamedBelow (all : List (FormalSum ℕ)) (n : ℕ) : Type 0 where
  places : List ℕ
  ascends : IsStrictlyIncreasing places
  lists : (k : ℕ) → Contains places k → (k < n) × AnyNamed all k
  all_named : (k : ℕ) → k < n → AnyNamed all k → Contains places k

named_below : (all : List (FormalSum ℕ)) (n : ℕ) → NamedBelow all n
named_below all zero = record { places = []; ascends = λ k within. absurd (omega arith); lists = λ k inside. absurd (omega (arith, inside.1)); all_named = λ k low. absurd (omega arith) }
named_below all (suc n) =
    let before = named_below all n in
    elim (any_named_or_not all n) [
      | inl named ↦ record {
        places = before.places ++ n ∷ [];
        ascends = increasing_push before.places n before.ascends (λ k inside. (before.lists k inside).0);
        lists = λ k inside.
            ⊎_elim
            (λ (old : Contains before.places k). let h = before.lists k old in (omega (arith, h.0), h.1))
            (λ (here : n ≡ k). (omega (arith, here), subst (AnyNamed all) here named))
            (Contains-push_cases before.places n k inside);
        all_named = λ k low named_k.
            ⊎_elim
            (λ (less : k < n). Contains-append_left before.places (n ∷ []) k (before.all_named k less named_k))
            (λ (late : n ≤ k). let here : n ≡ k = omega arith in subst (Contains (before.places ++ n ∷ [])) here (Contains-push before.places n))
            (cases_lt k n);
      }
      | inr none ↦ record {
        places = before.places;
        ascends = before.ascends;
        lists = λ k inside. (let h = before.lists k inside in (omega (arith, h.0), h.1));
        all_named = λ k low named_k.
            ⊎_elim
            (λ (less : k < n). before.all_named k less named_k)
            (λ (late : n ≤ k). let here : k ≡ n = omega arith in absurd (none (subst (AnyNamed all) here named_k)))
            (cases_lt k n);
      }
    ]

lists_named : (all : List (FormalSum ℕ)) (n : ℕ) → ((k : ℕ) → AnyNamed all k → k < n) → (places : List ℕ) × ListsNamed all places
lists_named all n low =
    let found = named_below all n in
    (found.places, record { ascends = found.ascends; lists = λ k inside. (found.lists k inside).1; all_named = λ k named. found.all_named k (low k named) named })

module _ {K : Type 0} (order : K → K → Ordering) (total : IsTotalOrder order) (unique : IsAntisymmetric order) where
  -- ---- whether a row is in a span

  no_reduced : (V : FormalSum K → Type 0) (f : FormalSum K) → V f → IsReducedForm order V f []
  no_reduced V f member = record { within = subst V (sym (append-nil f)) member; reduced = λ v key inside lead. refl }

  spanned_or_not : (rows : List (FormalSum K)) (f : FormalSum K)
      → InSpan order (row_at rows) (λ i. i < length rows) f ⊎ (¬ InSpan order (row_at rows) (λ i. i < length rows) f)
  spanned_or_not rows f =
      let found = reduced_form_exists order total unique rows f in
      let V = InSpan order (row_at rows) (λ i. i < length rows) in
      ⊎_elim
      (λ (none : SameSum order found.0 []).
      let within : V (difference f found.0) = found.1.within in
      let sum : SameSum order f (found.0 ++ combination (row_at rows) within.weights) = sum-from_difference order f found.0 (combination (row_at rows) within.weights) within.equal in
      let alone : SameSum order f (combination (row_at rows) within.weights) =
      SameCoefficients-trans sum (SameCoefficients-append (eq_by_cmp order) (order_decides order total unique) none (SameCoefficients-refl (eq_by_cmp order) (combination (row_at rows) within.weights)))
      in
      inl (record { weights = within.weights; among = within.among; equal = alone }))
      (λ (lead : (key : K) × IsLead order found.0 key).
      inr (λ member.
      let same = IsReducedForm-unique order total unique (row_at rows) (λ i. i < length rows) f found.0 [] found.1 (no_reduced V f member) in
      lead.1.occurs (same.same_at lead.0)))
      (zero_or_lead order total unique found.0)

  module _ (candidates : List (FormalSum K)) where
    row : ℕ → FormalSum K
    row = row_at candidates

    taken_row : (k j : ℕ) → j < k → row_at (take k candidates) j ≡ row_at candidates j
    taken_row k j low = get_or-take k candidates j [] low

    -- the span of the first k candidates, as a list of their own
    front : (k : ℕ) → k ≤ length candidates → (f : FormalSum K) → InSpan order (row_at candidates) (λ j. j < k) f
        → InSpan order (row_at (take k candidates)) (λ i. i < length (take k candidates)) f
    front k few f member =
        let long : length (take k candidates) ≡ k = length-take-le k candidates few in
        InSpan-trans order total unique (row_at (take k candidates)) (λ i. i < length (take k candidates)) (row_at candidates) (λ j. j < k)
        (λ j low.
        subst (InSpan order (row_at (take k candidates)) (λ i. i < length (take k candidates))) (taken_row k j low)
        (InSpan-row order total unique (row_at (take k candidates)) (λ i. i < length (take k candidates)) j (omega (arith, long, low)))) member

    back : (k : ℕ) → k ≤ length candidates → (f : FormalSum K) → InSpan order (row_at (take k candidates)) (λ i. i < length (take k candidates)) f
        → InSpan order (row_at candidates) (λ j. j < k) f
    back k few f member =
        let long : length (take k candidates) ≡ k = length-take-le k candidates few in
        InSpan-trans order total unique (row_at candidates) (λ j. j < k) (row_at (take k candidates)) (λ i. i < length (take k candidates))
        (λ j within.
        let low : j < k = omega (arith, long, within) in
        subst (InSpan order (row_at candidates) (λ j. j < k)) (sym (taken_row k j low)) (InSpan-row order total unique (row_at candidates) (λ j. j < k) j low)) member

    new_or_old : (k : ℕ) → k < length candidates → (¬ (InSpan order (row_at candidates) (λ j. j < k) (row_at candidates k))) ⊎ (InSpan order (row_at candidates) (λ j. j < k) (row_at candidates k))
    new_or_old k within =
        let few : k ≤ length candidates = omega arith in
        elim (spanned_or_not (take k candidates) (row_at candidates k)) [
          | inl member ↦ inr (back k few (row_at candidates k) member)
          | inr none ↦ inl (λ member. none (front k few (row_at candidates k) member))
        ]

    -- ---- the answer for one target

    some_answer : (target : FormalSum K) → (form : FormalSum K) × (weights : FormalSum ℕ) × IsAnswer order candidates target form weights
    some_answer target =
        let same = eq_by_cmp order in
        let decides = order_decides order total unique in
        let found = reduced_form_exists order total unique candidates target in
        let form = normal_form order found.0 in
        let form_is : SameSum order form found.0 = SameCoefficients-normal_form order total unique same decides found.0 in
        let all = found.1.within in
        let sum : SameSum order target (found.0 ++ combination (row_at candidates) all.weights) = sum-from_difference order target found.0 (combination (row_at candidates) all.weights) all.equal in
        let own : SameSum order target (form ++ combination (row_at candidates) all.weights) =
        SameCoefficients-trans sum (SameCoefficients-append same decides (SameCoefficients-sym form_is) (SameCoefficients-refl same (combination (row_at candidates) all.weights)))
        in
        let apart : SameSum order (difference target form) (combination (row_at candidates) all.weights) = difference-from_sum order target form (combination (row_at candidates) all.weights) own in
        let member : WholeSpan order candidates (difference target form) = record { weights = all.weights; among = all.among; equal = apart } in
        let based = basis_spans order total unique (row_at candidates) (length candidates) new_or_old (difference target form) member in
        let weights = normal_form number_cmp based.weights in
        let weights_are : SameSum number_cmp weights based.weights =
        SameCoefficients-normal_form number_cmp number_total number_unique (eq_by_cmp number_cmp) (order_decides number_cmp number_total number_unique) based.weights
        in
        let combined : SameSum order (combination (row_at candidates) weights) (combination (row_at candidates) based.weights) =
        combination-weights same decides (eq_by_cmp number_cmp) (order_decides number_cmp number_total number_unique) (row_at candidates) weights based.weights weights_are
        in (
          form,
          weights,
          record {
            reduced = record { within = member; reduced = λ v key inside lead. form_is.same_at key ∙ found.1.reduced v key inside lead };
            canonical = IsCanonical-normal_form order total unique found.0;
            expressed = record {
              basis = AllKeys-normal_form number_cmp number_total number_unique (IsInBasis order candidates) based.weights
                  (AllKeys-weaker (λ k. (k < length candidates) × (¬ (InSpan order (row_at candidates) (λ j. j < k) (row_at candidates k)))) (IsInBasis order candidates)
                  (λ k h. record { listed = h.0; new = h.1 }) based.weights based.among);
              equal = sum-from_difference order target form (combination (row_at candidates) weights)
                  (SameCoefficients-trans based.equal (SameCoefficients-sym combined));
            };
            ascending = IsCanonical-normal_form number_cmp number_total number_unique based.weights;
          },
        )

    pub some_answers : (targets : List (FormalSum K)) → (forms : List (FormalSum K)) × (all : List (FormalSum ℕ)) × AllAnswers order candidates targets forms all
    some_answers [] = ([], [], tt)
    some_answers (target ∷ targets) =
        let first = some_answer target in
        let rest = some_answers targets in
        (first.0 ∷ rest.0, first.1 ∷ rest.1, (first.2, rest.2))

    pub some_pick : (targets : List (FormalSum K)) → (written : List ℕ) × (forms : List (FormalSum K)) × (weights : List (FormalSum ℕ)) × IsPick order candidates targets written forms weights
    some_pick targets =
        let answers = some_answers targets in
        let places = lists_named answers.1 (length candidates) (names_listed order candidates total unique targets answers.0 answers.1 answers.2) in
        (places.0, answers.0, answers.1, IsPick-whole order candidates total unique targets answers.0 answers.1 places.0 answers.2 places.1)
