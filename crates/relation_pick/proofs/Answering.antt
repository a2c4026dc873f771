-- The answers for the targets in turn, and the places that their weights name.
use Rattle.std.proofs.Common.{◌≡◌, ◌≢◌, inl, inr, ℕ, zero, suc, ◌%◌, ◌<◌, List, [], ◌∷◌, ◌++◌, if◌then◌else◌, length, get_or, sym, refl, ap, subst, ◌∙◌, arith}
use Rattle.std.specs.Bool.{one_answer}
use Rattle.std.specs.Ordering.{eq_by_cmp, nat_cmp}
use Rattle.std.specs.declared.cmp.Ordering.{Ordering}
use Rattle.std.specs.Cmp.{IsTotalOrder, nat_cmp_total, back_total}
use Rattle.std.specs.FinMap.{IsAntisymmetric, nat_cmp-IsAntisymmetric}
use Rattle.ibp_algebra.specs.FormalSum.{FormalSum, AllKeys, IsCanonical}
use Rattle.ibp_algebra.proofs.Numbers.{nat_decides}
use Rattle.ibp_algebra.proofs.Weights.{weighted_sum-ext, unit_weight}
use Rattle.ibp_algebra.proofs.SumLaws.{SameCoefficients-refl, SameCoefficients-trans, SameCoefficients-append}
use Rattle.ibp_algebra.specs.Combination.{combination}
use Rattle.ibp_algebra.specs.Spans.{row_at, SameSum, coefficient_by, IsReducedForm}
use Rattle.ibp_algebra.proofs.Lookups.{coefficient-at_place}
use Rattle.ibp_algebra.proofs.Members.{order_decides, AllKeys-counting}
use Rattle.ibp_algebra.proofs.Combinations.{AllKeys-weaker}
use Rattle.ibp_algebra.proofs.ReducedForms.{IsReducedForm-unique}
use Rattle.ibp_algebra.proofs.Independence.{weights_unique}
use Rattle.row_echelon.specs.Echelons.{number_cmp}
use Rattle.row_echelon.specs.RowSpans.{WholeSpan}
use Rattle.relation_pick.specs.Picking.{IsInBasis, IsExpression, IsNeededFor, IsWritten, IsAnswer, AllAnswers}
use Rattle.relation_pick.specs.Marks.{IsNamed, AnyNamed}
use Rattle.relation_pick.proofs.PickLaws.{IsIndependent-basis}

-- ---- the names of canonical weights

pub number_total : IsTotalOrder number_cmp
number_total = back_total nat_cmp_total

pub number_unique : IsAntisymmetric number_cmp
number_unique a b e = sym (nat_cmp-IsAntisymmetric b a e)

-- both orders tie at equal numbers alone
pub same_coefficient : (f : FormalSum ℕ) (k : ℕ) → coefficient_by number_cmp f k ≡ coefficient_by nat_cmp f k
same_coefficient f k =
    ap (λ n. n % 2147483647)
    (weighted_sum-ext (unit_weight (eq_by_cmp number_cmp) k) (unit_weight (eq_by_cmp nat_cmp) k)
    (λ j. ap (λ b. if b then 1 else 0) (one_answer (eq_by_cmp number_cmp j k) (eq_by_cmp nat_cmp j k) (order_decides number_cmp number_total number_unique j k) (nat_decides j k))) f)

named_place : (f : FormalSum ℕ) (k : ℕ) → IsNamed f k → (i : ℕ) × (i < length f) × ((t : ℕ × ℕ) → (get_or f i t).0 ≡ k)
named_place [] k h = absurd h
named_place (t ∷ f) k (inl here) = (0, omega arith, λ d. here)
named_place (t ∷ f) k (inr later) = let rest = named_place f k later in (suc rest.0, omega (arith, rest.1), rest.2)

values_positive : (f : FormalSum ℕ) (i : ℕ) (d : ℕ × ℕ) → IsCanonical number_cmp f → i < length f → 0 < (get_or f i d).1
values_positive [] i d h within = absurd (omega arith)
values_positive (t ∷ f) zero d h within = h.0
values_positive (t ∷ f) (suc i) d h within = values_positive f i d h.3 (omega arith)

-- a name counts
pub named_counts : (f : FormalSum ℕ) (k : ℕ) → IsCanonical number_cmp f → IsNamed f k → coefficient_by nat_cmp f k ≢ 0
named_counts f k h named none =
    let place = named_place f k named in
    let t : ℕ × ℕ = (0, 0) in
    let value : coefficient_by number_cmp f (get_or f place.0 t).0 ≡ (get_or f place.0 t).1 = coefficient-at_place number_cmp number_total number_unique f place.0 t h place.1 in
    let zero_there : coefficient_by number_cmp f (get_or f place.0 t).0 ≡ 0 = ap (coefficient_by number_cmp f) (place.2 t) ∙ same_coefficient f k ∙ none in
    omega (arith, value, zero_there, values_positive f place.0 t h place.1)

pub own_names : (f : FormalSum ℕ) → AllKeys (IsNamed f) f
own_names [] = tt
own_names (t ∷ f) = (inl refl, AllKeys-weaker (IsNamed f) (IsNamed (t ∷ f)) (λ k later. inr later) f (own_names f))

-- and what counts is a name
pub counting_named : (f : FormalSum ℕ) (k : ℕ) → coefficient_by nat_cmp f k ≢ 0 → IsNamed f k
counting_named f k counts = AllKeys-counting nat_cmp nat_cmp_total nat_cmp-IsAntisymmetric (IsNamed f) f (own_names f) k counts

-- ---- the answers in turn

module _ {K : Type 0} (order : K → K → Ordering) (candidates : List (FormalSum K)) where
  pub AllAnswers-push : (targets forms : List (FormalSum K)) (all : List (FormalSum ℕ)) (target form : FormalSum K) (weights : FormalSum ℕ)
      → AllAnswers order candidates targets forms all → IsAnswer order candidates target form weights
      → AllAnswers order candidates (targets ++ target ∷ []) (forms ++ form ∷ []) (all ++ weights ∷ [])
  AllAnswers-push [] [] [] target form weights h k = (k, tt)
  AllAnswers-push [] [] (w ∷ all) target form weights h k = absurd h
  AllAnswers-push [] (f ∷ forms) all target form weights h k = absurd h
  AllAnswers-push (t ∷ targets) [] all target form weights h k = absurd h
  AllAnswers-push (t ∷ targets) (f ∷ forms) [] target form weights h k = absurd h
  AllAnswers-push (t ∷ targets) (f ∷ forms) (w ∷ all) target form weights h k = (h.0, AllAnswers-push targets forms all target form weights h.1 k)

  -- the answers for some targets, and then those for more
  pub AllAnswers-append : (targets more forms rest : List (FormalSum K)) (all others : List (FormalSum ℕ))
      → AllAnswers order candidates targets forms all → AllAnswers order candidates more rest others
      → AllAnswers order candidates (targets ++ more) (forms ++ rest) (all ++ others)
  AllAnswers-append [] more [] rest [] others h k = k
  AllAnswers-append [] more [] rest (w ∷ all) others h k = absurd h
  AllAnswers-append [] more (f ∷ forms) rest all others h k = absurd h
  AllAnswers-append (t ∷ targets) more [] rest all others h k = absurd h
  AllAnswers-append (t ∷ targets) more (f ∷ forms) rest [] others h k = absurd h
  AllAnswers-append (t ∷ targets) more (f ∷ forms) rest (w ∷ all) others h k = (h.0, AllAnswers-append targets more forms rest all others h.1 k)

  later_written : (t : FormalSum K) (targets : List (FormalSum K)) (k : ℕ) → IsWritten order candidates targets k → IsWritten order candidates (t ∷ targets) k
  later_written t targets k h = (suc h.0, h.1, omega (arith, h.2), h.3, h.4)

  -- a name is written
  pub written_from_name : (targets forms : List (FormalSum K)) (all : List (FormalSum ℕ)) (k : ℕ) → AllAnswers order candidates targets forms all → AnyNamed all k
      → IsWritten order candidates targets k
  written_from_name [] [] [] k h named = absurd named
  written_from_name [] [] (w ∷ all) k h named = absurd h
  written_from_name [] (f ∷ forms) all k h named = absurd h
  written_from_name (t ∷ targets) [] all k h named = absurd h
  written_from_name (t ∷ targets) (f ∷ forms) [] k h named = absurd h
  written_from_name (t ∷ targets) (f ∷ forms) (w ∷ all) k h (inl here) =
      (0, t, omega arith, refl, record { form = f; weights = w; reduced = h.0.reduced; expressed = h.0.expressed; counts = named_counts w k h.0.ascending here })
  written_from_name (t ∷ targets) (f ∷ forms) (w ∷ all) k h (inr later) = later_written t targets k (written_from_name targets forms all k h.1 later)

  module _ (total : IsTotalOrder order) (unique : IsAntisymmetric order) where
    -- the weights for a target are unique
    pub weights_alike : (target form other : FormalSum K) (weights more : FormalSum ℕ)
        → IsReducedForm order (WholeSpan order candidates) target form → IsExpression order candidates target form weights
        → IsReducedForm order (WholeSpan order candidates) target other → IsExpression order candidates target other more → SameSum nat_cmp weights more
    weights_alike target form other weights more reduced expressed reduced' expressed' =
        let forms_alike : SameSum order other form =
        IsReducedForm-unique order total unique (row_at candidates) (λ j. j < length candidates) target other form reduced' reduced
        in
        let along : SameSum order target (form ++ combination (row_at candidates) more) =
        SameCoefficients-trans expressed'.equal
        (SameCoefficients-append (eq_by_cmp order) (order_decides order total unique) forms_alike (SameCoefficients-refl (eq_by_cmp order) (combination (row_at candidates) more)))
        in
        weights_unique order total unique nat_cmp (row_at candidates) (IsInBasis order candidates) (IsIndependent-basis order total unique candidates) target form
        weights more expressed.basis expressed'.basis expressed.equal along

    needed_named : (target form : FormalSum K) (weights : FormalSum ℕ) (k : ℕ) → IsAnswer order candidates target form weights → IsNeededFor order candidates target k → IsNamed weights k
    needed_named target form weights k h needed =
        let alike : SameSum nat_cmp weights needed.weights = weights_alike target form needed.form weights needed.weights h.reduced h.expressed needed.reduced needed.expressed in
        counting_named weights k (λ none. needed.counts (sym (alike.same_at k) ∙ none))

    -- what is written is a name
    name_from_written : (targets forms : List (FormalSum K)) (all : List (FormalSum ℕ)) (k i : ℕ) (target : FormalSum K) → AllAnswers order candidates targets forms all
        → i < length targets → get_or targets i target ≡ target → IsNeededFor order candidates target k → AnyNamed all k
    name_from_written [] [] [] k i target h within is needed = absurd (omega arith)
    name_from_written [] [] (w ∷ all) k i target h within is needed = absurd h
    name_from_written [] (f ∷ forms) all k i target h within is needed = absurd h
    name_from_written (t ∷ targets) [] all k i target h within is needed = absurd h
    name_from_written (t ∷ targets) (f ∷ forms) [] k i target h within is needed = absurd h
    name_from_written (t ∷ targets) (f ∷ forms) (w ∷ all) k zero target h within is needed =
        inl (needed_named target f w k (subst (λ u. IsAnswer order candidates u f w) is h.0) needed)
    name_from_written (t ∷ targets) (f ∷ forms) (w ∷ all) k (suc i) target h within is needed = inr (name_from_written targets forms all k i target h.1 (omega arith) is needed)

    pub named_from_written : (targets forms : List (FormalSum K)) (all : List (FormalSum ℕ)) (k : ℕ) → AllAnswers order candidates targets forms all → IsWritten order candidates targets k → AnyNamed all k
    named_from_written targets forms all k h w = name_from_written targets forms all k w.0 w.1 h w.2 w.3 w.4
