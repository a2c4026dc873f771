-- Candidates and targets have at most one pick.
use Rattle.std.proofs.Common.{◌≡◌, ℕ, zero, suc, ◌+◌, ◌<◌, List, [], ◌∷◌, length, get_or, slice_index, sym, refl, subst, ◌∙◌, arith}
use Rattle.std.specs.Prelude.{Contains}
use Rattle.std.specs.List.Sorted.{IsStrictlyIncreasing}
use Rattle.std.specs.Ordering.{eq_by_cmp}
use Rattle.std.specs.declared.cmp.Ordering.{Ordering}
use Rattle.std.specs.Cmp.{IsTotalOrder}
use Rattle.std.specs.FinMap.{IsAntisymmetric}
use Rattle.std.proofs.lemmas.List.Kept.{AllPairs-from_increasing}
use Rattle.ibp_algebra.specs.FormalSum.{FormalSum}
use Rattle.ibp_algebra.specs.Spans.{row_at}
use Rattle.ibp_algebra.proofs.Canonical.{same_canonical}
use Rattle.ibp_algebra.proofs.Members.{order_decides}
use Rattle.ibp_algebra.proofs.ReducedForms.{IsReducedForm-unique}
use Rattle.row_echelon.specs.Echelons.{number_cmp}
use Rattle.relation_pick.specs.Picking.{IsAnswer, AllAnswers, IsPick}
use Rattle.relation_pick.proofs.Answering.{number_total, number_unique, same_coefficient, weights_alike}

-- ---- lists that strictly ascend

below_later : (x : ℕ) (xs : List ℕ) (y i : ℕ) → IsStrictlyIncreasing (x ∷ xs) → i < length xs → get_or xs i y ≡ y → x < y
below_later x xs y i up within is =
    let below : x < get_or xs i y = AllPairs-from_increasing (x ∷ xs) up 0 (suc i) y (omega arith) (omega (arith, within)) in
    omega (arith, below, is)

ascends_after : (x : ℕ) (xs : List ℕ) → IsStrictlyIncreasing (x ∷ xs) → IsStrictlyIncreasing xs
ascends_after x xs up =
    λ k within.
    let next : suc k + 1 ≡ suc (k + 1) = omega arith in
    subst (λ n. slice_index (x ∷ xs) (suc k) < slice_index (x ∷ xs) n) next (up (suc k) (omega (arith, within)))

same_first : (x y : ℕ) (xs ys : List ℕ) (i j : ℕ) → IsStrictlyIncreasing (x ∷ xs) → IsStrictlyIncreasing (y ∷ ys)
    → i < length (y ∷ ys) → get_or (y ∷ ys) i x ≡ x → j < length (x ∷ xs) → get_or (x ∷ xs) j y ≡ y → x ≡ y
same_first x y xs ys zero j up vp within is inside same = sym is
same_first x y xs ys (suc i) zero up vp within is inside same = same
same_first x y xs ys (suc i) (suc j) up vp within is inside same =
    absurd (omega (arith, below_later x xs y j up (omega (arith, inside)) same, below_later y ys x i vp (omega (arith, within)) is))

in_rest : (x y : ℕ) (xs ys : List ℕ) (z i : ℕ) → x ≡ y → IsStrictlyIncreasing (x ∷ xs) → Contains xs z → i < length (y ∷ ys) → get_or (y ∷ ys) i z ≡ z → Contains ys z
in_rest x y xs ys z zero same up inside within is = absurd (omega (arith, below_later x xs z inside.0 up inside.1 inside.2, same, is))
in_rest x y xs ys z (suc i) same up inside within is = (i, omega (arith, within), is)

-- two that contain the same numbers are one
same_ascending : (xs ys : List ℕ) → IsStrictlyIncreasing xs → IsStrictlyIncreasing ys → ((z : ℕ) → Contains xs z → Contains ys z) → ((z : ℕ) → Contains ys z → Contains xs z) → xs ≡ ys
same_ascending [] [] up vp h k = refl
same_ascending [] (y ∷ ys) up vp h k = absurd (omega (arith, (k y (0, omega arith, refl)).1))
same_ascending (x ∷ xs) [] up vp h k = absurd (omega (arith, (h x (0, omega arith, refl)).1))
same_ascending (x ∷ xs) (y ∷ ys) up vp h k =
    let here = h x (0, omega arith, refl) in
    let there = k y (0, omega arith, refl) in
    let first : x ≡ y = same_first x y xs ys here.0 there.0 up vp here.1 here.2 there.1 there.2 in
    let into : (z : ℕ) → Contains xs z → Contains ys z =
    λ z inside. (let found = h z (suc inside.0, omega (arith, inside.1), inside.2) in in_rest x y xs ys z found.0 first up inside found.1 found.2)
    in
    let back : (z : ℕ) → Contains ys z → Contains xs z =
    λ z inside. (let found = k z (suc inside.0, omega (arith, inside.1), inside.2) in in_rest y x ys xs z found.0 (sym first) vp inside found.1 found.2)
    in
    let rest : xs ≡ ys = same_ascending xs ys (ascends_after x xs up) (ascends_after y ys vp) into back in
    λ i. first i ∷ rest i

-- ---- the answers

module _ {K : Type 0} (order : K → K → Ordering) (total : IsTotalOrder order) (unique : IsAntisymmetric order) (candidates : List (FormalSum K)) where
  same_form : (target form form' : FormalSum K) (weights weights' : FormalSum ℕ) → IsAnswer order candidates target form weights → IsAnswer order candidates target form' weights' → form ≡ form'
  same_form target form form' weights weights' h k =
      same_canonical order total (eq_by_cmp order) (order_decides order total unique) unique form form' h.canonical k.canonical
      (IsReducedForm-unique order total unique (row_at candidates) (λ j. j < length candidates) target form form' h.reduced k.reduced)

  same_weights : (target form form' : FormalSum K) (weights weights' : FormalSum ℕ) → IsAnswer order candidates target form weights → IsAnswer order candidates target form' weights'
      → weights ≡ weights'
  same_weights target form form' weights weights' h k =
      let alike = weights_alike order candidates total unique target form form' weights weights' h.reduced h.expressed k.reduced k.expressed in
      same_canonical number_cmp number_total (eq_by_cmp number_cmp) (order_decides number_cmp number_total number_unique) number_unique weights weights' h.ascending k.ascending
      (record { same_at = λ j. same_coefficient weights j ∙ alike.same_at j ∙ sym (same_coefficient weights' j) })

  same_answers : (targets forms forms' : List (FormalSum K)) (weights weights' : List (FormalSum ℕ)) → AllAnswers order candidates targets forms weights
      → AllAnswers order candidates targets forms' weights' → (forms ≡ forms') × (weights ≡ weights')
  same_answers [] [] [] [] [] h k = (refl, refl)
  same_answers [] [] [] [] (v ∷ weights') h k = absurd k
  same_answers [] [] [] (w ∷ weights) weights' h k = absurd h
  same_answers [] [] (g ∷ forms') [] weights' h k = absurd k
  same_answers [] [] (g ∷ forms') (w ∷ weights) weights' h k = absurd h
  same_answers [] (f ∷ forms) forms' weights weights' h k = absurd h
  same_answers (t ∷ targets) [] forms' weights weights' h k = absurd h
  same_answers (t ∷ targets) (f ∷ forms) forms' [] weights' h k = absurd h
  same_answers (t ∷ targets) (f ∷ forms) [] (w ∷ weights) weights' h k = absurd k
  same_answers (t ∷ targets) (f ∷ forms) (g ∷ forms') (w ∷ weights) [] h k = absurd k
  same_answers (t ∷ targets) (f ∷ forms) (g ∷ forms') (w ∷ weights) (v ∷ weights') h k =
      let rest = same_answers targets forms forms' weights weights' h.1 k.1 in
      let form : f ≡ g = same_form t f g w v h.0 k.0 in
      let weight : w ≡ v = same_weights t f g w v h.0 k.0 in
      (λ i. form i ∷ rest.0 i, λ i. weight i ∷ rest.1 i)

  pub IsPick-unique : (targets : List (FormalSum K)) (written written' : List ℕ) (forms forms' : List (FormalSum K)) (weights weights' : List (FormalSum ℕ))
      → IsPick order candidates targets written forms weights → IsPick order candidates targets written' forms' weights'
      → (written ≡ written') × (forms ≡ forms') × (weights ≡ weights')
  IsPick-unique targets written written' forms forms' weights weights' h k =
      let answers = same_answers targets forms forms' weights weights' h.answers k.answers in (
        same_ascending written written' h.ascends k.ascends (λ z there. (k.lists z).1 ((h.lists z).0 there)) (λ z there. (h.lists z).1 ((k.lists z).0 there)),
        answers.0,
        answers.1,
      )
