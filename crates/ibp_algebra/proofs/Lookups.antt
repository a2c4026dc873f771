-- The coefficients of a canonical sum by the places of its terms.
use Rattle.std.proofs.Common.{◌≡◌, ◌≢◌, ℕ, zero, suc, ◌*◌, ◌<◌, ◌≤◌, Bool, false, if◌then◌else◌, [], ◌∷◌, length, get_or, sym, refl, ap, ◌∙◌, ⊎_elim, arith}
use Rattle.std.proofs.lemmas.Bool.{cases_lt}
use Rattle.std.specs.List.{HoldsAt}
use Rattle.std.specs.List.Sorted.{IsNonDecreasingBy, IsPartitionPoint}
use Rattle.std.specs.Ordering.{eq_by_cmp, is_eq, ordering_index}
use Rattle.std.specs.declared.cmp.Ordering.{Ordering}
use Rattle.std.specs.declared.cmp.Ordering.TheVariants.{Less, Equal, Greater}
use Rattle.std.specs.Cmp.{IsTotalOrder}
use Rattle.std.specs.FinMap.{IsAntisymmetric}
use Rattle.std.specs.Bool.{Decides}
use Rattle.ibp_algebra.specs.FormalSum.{FormalSum, weighted_sum, AllKeys, IsCanonical}
use Rattle.ibp_algebra.proofs.Weights.{unit_weight}
use Rattle.ibp_algebra.proofs.Canonical.{coefficient-lead, Greater-reverse, Less-reverse, Greater-trans}
use Rattle.ibp_algebra.specs.Spans.{coefficient_by}
use Rattle.ibp_algebra.proofs.Members.{order_decides}

pub AllKeys-place : {K : Type 0} (P : K → Type 0) (f : FormalSum K) (i : ℕ) (d : K × ℕ) → AllKeys P f → i < length f → P (get_or f i d).0
AllKeys-place P [] i d h within = absurd (omega arith)
AllKeys-place P (t ∷ f) zero d h within = h.0
AllKeys-place P (t ∷ f) (suc i) d h within = AllKeys-place P f i d h.1 (omega arith)

pub AllKeys-from_all : {K : Type 0} (P : K → Type 0) (f : FormalSum K) → ((i : ℕ) (d : K × ℕ) → i < length f → P (get_or f i d).0) → AllKeys P f
AllKeys-from_all P [] h = tt
AllKeys-from_all P (t ∷ f) h = (h 0 t (omega arith), AllKeys-from_all P f (λ i d within. h (suc i) d (omega arith)))

module _ {K : Type 0} (order : K → K → Ordering) (total : IsTotalOrder order) (unique : IsAntisymmetric order) where
  abbrev same : K → K → Bool
  same = eq_by_cmp order

  decides : (a b : K) → Decides (same a b) (a ≡ b)
  decides = order_decides order total unique

  at_other : (t : K × ℕ) (key : K) → same t.0 key ≡ false → t.1 * (if same t.0 key then 1 else 0) ≡ 0
  at_other t key e = rw e (omega arith)

  sum_at_place : (f : FormalSum K) (i : ℕ) (d : K × ℕ) → IsCanonical order f → i < length f → weighted_sum (unit_weight same (get_or f i d).0) f ≡ (get_or f i d).1
  sum_at_place [] i d h within = absurd (omega arith)
  sum_at_place (t ∷ f) zero d h within = coefficient-lead order total same decides t f h.2
  sum_at_place (t ∷ f) (suc i) d h within =
      let below : order t.0 (get_or f i d).0 ≡ Greater = AllKeys-place (λ k. order t.0 k ≡ Greater) f i d h.2 (omega arith) in
      omega (arith, at_other t (get_or f i d).0 (ap is_eq below), sum_at_place f i d h.3 (omega arith))

  value_below : (f : FormalSum K) (i : ℕ) (d : K × ℕ) → IsCanonical order f → i < length f → (get_or f i d).1 < 2147483647
  value_below [] i d h within = absurd (omega arith)
  value_below (t ∷ f) zero d h within = h.1
  value_below (t ∷ f) (suc i) d h within = value_below f i d h.3 (omega arith)

  -- the coefficient at the key of a term
  pub coefficient-at_place : (f : FormalSum K) (i : ℕ) (d : K × ℕ) → IsCanonical order f → i < length f → coefficient_by order f (get_or f i d).0 ≡ (get_or f i d).1
  coefficient-at_place f i d h within = omega (arith, sum_at_place f i d h within, value_below f i d h within)

  sum_at_none : (f : FormalSum K) (key : K) → AllKeys (λ k. same k key ≡ false) f → weighted_sum (unit_weight same key) f ≡ 0
  sum_at_none [] key h = refl
  sum_at_none (t ∷ f) key h = omega (arith, at_other t key h.0, sum_at_none f key h.1)

  -- the order of the terms: the keys fall
  pub key_falls : (f : FormalSum K) (i j : ℕ) (d : K × ℕ) → IsCanonical order f → i < j → j < length f → order (get_or f i d).0 (get_or f j d).0 ≡ Greater
  key_falls [] i j d h less within = absurd (omega arith)
  key_falls (t ∷ f) i zero d h less within = absurd (omega arith)
  key_falls (t ∷ f) zero (suc j) d h less within = AllKeys-place (λ k. order t.0 k ≡ Greater) f j d h.2 (omega arith)
  key_falls (t ∷ f) (suc i) (suc j) d h less within = key_falls f i j d h.3 (omega arith) (omega arith)

  rises : (key a b : K) (r s : Ordering) → order key a ≡ r → order key b ≡ s → order a b ≡ Greater → ordering_index r ≤ ordering_index s
  rises key a b Less s e d above = omega arith
  rises key a b Equal s e d above =
      let is : key ≡ a = unique key a e in
      let f : s ≡ Greater = sym d ∙ ap (λ k. order k b) is ∙ above in
      rw f (omega arith)
  rises key a b Greater s e d above =
      let f : s ≡ Greater = sym d ∙ Greater-trans order total key a b e above in
      rw f (omega arith)

  rises_far : (f : FormalSum K) (key : K) (i j : ℕ) (d : K × ℕ) → IsCanonical order f → i ≤ j → j < length f
      → ordering_index (order key (get_or f i d).0) ≤ ordering_index (order key (get_or f j d).0)
  rises_far f key i j d h le within =
      ⊎_elim
      (λ (less : i < j). rises key (get_or f i d).0 (get_or f j d).0 _ _ refl refl (key_falls f i j d h less within))
      (λ (far : j ≤ i). let is : i ≡ j = omega arith in rw is (omega arith))
      (cases_lt i j)

  -- what a binary search asks of the terms
  pub IsNonDecreasing-canonical : (f : FormalSum K) (key : K) → IsCanonical order f → IsNonDecreasingBy (λ (t : K × ℕ). ordering_index (order key t.0)) f
  IsNonDecreasing-canonical f key h = λ i j d le within. rises_far f key i j d h le within

  pub coefficient-found : (f : FormalSum K) (key : K) (i : ℕ) (t : K × ℕ) → IsCanonical order f → i < length f → t ≡ get_or f i t → HoldsAt (λ (u : K × ℕ). order key u.0 ≡ Equal) f i
      → t.1 ≡ coefficient_by order f key
  coefficient-found f key i t h within t_is tie =
      ap (λ u. u.1) t_is ∙ sym (coefficient-at_place f i t h within) ∙ ap (coefficient_by order f) (sym (unique key (get_or f i t).0 (tie t)))

  apart : (key k : K) (r : Ordering) → order key k ≡ r → r ≢ Equal → same k key ≡ false
  apart key k Less e h = ap is_eq (Greater-reverse order total key k e)
  apart key k Equal e h = absurd (h refl)
  apart key k Greater e h = ap is_eq (Less-reverse order total key k e)

  pub coefficient-missing : (f : FormalSum K) (key : K) (i : ℕ)
      → IsPartitionPoint (λ (u : K × ℕ). order key u.0 ≡ Less) (λ (u : K × ℕ). order key u.0 ≡ Greater) f i → 0 ≡ coefficient_by order f key
  coefficient-missing f key i h =
      let none : weighted_sum (unit_weight same key) f ≡ 0 =
      sum_at_none f key (AllKeys-from_all (λ k. same k key ≡ false) f (λ j d within.
      ⊎_elim
      (λ (before : j < i). apart key (get_or f j d).0 Less (h.0 j d (omega arith) before) (λ e. cc))
      (λ (after : i ≤ j). apart key (get_or f j d).0 Greater (h.1 j d after within) (λ e. cc))
      (cases_lt j i)))
      in
      omega (arith, none)
