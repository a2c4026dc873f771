-- A sort by descending keys, and the sum of the sorted terms in turn.
use Rattle.std.proofs.Common.{◌≡◌, ◌≢◌, ℕ, zero, suc, ◌+◌, ◌<◌, ◌≤◌, Bool, false, length, get_or, take, [], ◌∷◌, ◌++◌, sym, ap, subst, ◌∙◌, arith}
use Rattle.std.specs.declared.cmp.Ordering.{Ordering}
use Rattle.std.specs.declared.cmp.Ordering.TheVariants.{Less}
use Rattle.std.specs.Ordering.{is_lt, eq_by_cmp}
use Rattle.std.specs.List.Sorted.{IsSortedBy, IsPermutation}
use Rattle.std.specs.Cmp.{IsTotalOrder, IsStrictWeakOrder, back_total}
use Rattle.std.specs.FinMap.{IsAntisymmetric}
use Rattle.std.proofs.lemmas.List.Sorted.{ranks_by, sorted_far}
use Rattle.std.proofs.lemmas.List.{take_all, take_more}
use Rattle.ibp_algebra.specs.FormalSum.{FormalSum, SameCoefficients, AllKeys, Descends, IsCanonical, normal_form}
use Rattle.ibp_algebra.proofs.Weights.{weighted_sum-IsPermutation}
use Rattle.ibp_algebra.proofs.SumLaws.{SameCoefficients-refl, SameCoefficients-sym, SameCoefficients-trans, SameCoefficients-append, SameCoefficients-from_sums}
use Rattle.ibp_algebra.proofs.Canonical.{same_canonical}
use Rattle.ibp_algebra.proofs.Lookups.{AllKeys-place, AllKeys-from_all}
use Rattle.ibp_algebra.proofs.Members.{order_decides}
use Rattle.ibp_algebra.proofs.NormalForm.{IsCanonical-normal_form, AllKeys-normal_form, SameCoefficients-normal_form}

not_less : (r : Ordering) → is_lt r ≡ false → r ≢ Less
not_less r e h = let f : is_lt r ≡ is_lt Less = ap is_lt h in cc

-- no key in front is below one at a later place
pub Descends-at : {K : Type 0} (order : K → K → Ordering) (f : FormalSum K) (i : ℕ) (d : K × ℕ) → Descends order f → i < length f → AllKeys (λ k. order k (get_or f i d).0 ≢ Less) (take i f)
Descends-at order [] i d h below = absurd (omega arith)
Descends-at order (t ∷ f) zero d h below = tt
Descends-at order (t ∷ f) (suc i) d h below = (AllKeys-place (λ k. order t.0 k ≢ Less) f i d h.0 (omega arith), Descends-at order f i d h.1 (omega arith))

module _ {K : Type 0} (order : K → K → Ordering) (total : IsTotalOrder order) where
  -- the test of the sort: the greater key comes first
  abbrev pub comes_before : K × ℕ → K × ℕ → Bool
  comes_before x y = is_lt (order y.0 x.0)

  pub comes_before_order : IsStrictWeakOrder comes_before
  comes_before_order = ranks_by (back_total total) (λ (x : K × ℕ). x.0)

  descends_by_places : (f : FormalSum K) → ((i j : ℕ) (d : K × ℕ) → i ≤ j → j < length f → comes_before (get_or f j d) (get_or f i d) ≡ false) → Descends order f
  descends_by_places [] h = tt
  descends_by_places (t ∷ f) h = (
    AllKeys-from_all _ f (λ j d below. not_less _ (h 0 (suc j) d (omega arith) (omega arith))),
    descends_by_places f (λ i j d le below. h (suc i) (suc j) d (omega arith) (omega arith)),
  )

  pub Descends-from_sort : (f : FormalSum K) → IsSortedBy comes_before f → Descends order f
  Descends-from_sort f sorted = descends_by_places f (sorted_far comes_before comes_before_order f sorted)

  normal_form-front : IsAntisymmetric order → (f g : FormalSum K) → normal_form order (normal_form order f ++ g) ≡ normal_form order (f ++ g)
  normal_form-front unique f g =
      let same = eq_by_cmp order in
      let decides = order_decides order total unique in
      same_canonical order total same decides unique _ _ (IsCanonical-normal_form order total unique (normal_form order f ++ g)) (IsCanonical-normal_form order total unique (f ++ g))
      (SameCoefficients-trans (SameCoefficients-normal_form order total unique same decides (normal_form order f ++ g))
      (SameCoefficients-trans (SameCoefficients-append same decides (SameCoefficients-normal_form order total unique same decides f) (SameCoefficients-refl same g))
      (SameCoefficients-sym (SameCoefficients-normal_form order total unique same decides (f ++ g)))))

  -- one more of the sorted terms
  module _ (unique : IsAntisymmetric order) (sorted items : FormalSum K) (i : ℕ) (t : K × ℕ) (below : i < length sorted) (is : t ≡ get_or sorted i t)
      (h : items ≡ normal_form order (take i sorted)) where
    pub summed_canonical : IsCanonical order items
    summed_canonical = subst (IsCanonical order) (sym h) (IsCanonical-normal_form order total unique (take i sorted))

    pub summed_last : (others : FormalSum K) → sorted ≡ others → Descends order others → AllKeys (λ k. order k t.0 ≢ Less) items
    summed_last others same descends =
        let down : Descends order sorted = subst (Descends order) (sym same) descends in
        subst (AllKeys (λ k. order k t.0 ≢ Less)) (sym h)
        (AllKeys-normal_form order total unique (λ k. order k t.0 ≢ Less) (take i sorted)
        (subst (λ (u : K × ℕ). AllKeys (λ k. order k u.0 ≢ Less) (take i sorted)) (sym is) (Descends-at order sorted i t down below)))

    pub summed_more : (new : FormalSum K) → new ≡ normal_form order (items ++ t ∷ []) → new ≡ normal_form order (take (i + 1) sorted)
    summed_more new e =
        let front : take (i + 1) sorted ≡ take i sorted ++ t ∷ [] = take_more sorted i t below ∙ ap (λ (u : K × ℕ). take i sorted ++ u ∷ []) (sym is) in
        e ∙ ap (λ (f : FormalSum K). normal_form order (f ++ t ∷ [])) h
        ∙ normal_form-front unique (take i sorted) (t ∷ [])
        ∙ ap (normal_form order) (sym front)

  pub IsCanonical-sorted : IsAntisymmetric order → (items sorted : FormalSum K) (n : ℕ) → items ≡ normal_form order (take n sorted) → length sorted ≤ n → IsCanonical order items
  IsCanonical-sorted unique items sorted n e long = subst (IsCanonical order) (sym e) (IsCanonical-normal_form order total unique (take n sorted))

  pub SameCoefficients-sorted : IsAntisymmetric order → (items terms sorted others : FormalSum K) (n : ℕ) → items ≡ normal_form order (take n sorted) → length sorted ≤ n → sorted ≡ others
      → IsPermutation terms others → SameCoefficients (eq_by_cmp order) items terms
  SameCoefficients-sorted unique items terms sorted others n e long is moved =
      let decides = order_decides order total unique in
      let whole : items ≡ normal_form order others = e ∙ ap (normal_form order) (take_all n sorted long ∙ is) in
      subst (λ (f : FormalSum K). SameCoefficients (eq_by_cmp order) f terms) (sym whole)
      (SameCoefficients-trans (SameCoefficients-normal_form order total unique (eq_by_cmp order) decides others)
      (SameCoefficients-from_sums (eq_by_cmp order) decides others terms (λ w. weighted_sum-IsPermutation w terms others moved)))
