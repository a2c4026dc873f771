-- The lead of a combination is the lead of one of the values, where two values with one lead always differ
-- by a combination of values with lesser leads. The proof goes by induction on the greatest lead that occurs
-- in the combination: the summands that have it either add up to a term, or are replaced by lesser ones.
use Rattle.std.proofs.Common.{◌≡◌, ◌≢◌, ℕ, ◌+◌, ◌*◌, ◌%◌, Bool, true, false, ◌==◌, [], ◌∷◌, ◌++◌, ◌⊎◌, inl, inr, sym, refl, ap, subst, ◌∙◌, arith}
use Rattle.std.proofs.lemmas.Bool.Decides.{Decides-eqb, not_from_Decides}
use Rattle.std.specs.declared.cmp.Ordering.{Ordering}
use Rattle.std.specs.declared.cmp.Ordering.TheVariants.{Less, Equal, Greater}
use Rattle.std.specs.Cmp.{IsTotalOrder}
use Rattle.std.specs.FinMap.{IsAntisymmetric}
use Rattle.std.specs.Bool.{Decides}
use Rattle.ibp_field.specs.Arithmetic.{IsCongruent}
use Rattle.ibp_algebra.specs.FormalSum.{FormalSum, weighted_sum, coefficient, SameCoefficients, AllKeys, scale}
use Rattle.ibp_algebra.specs.Combination.{combination, IsEqualBelow}
use Rattle.ibp_field.proofs.Congruence.{IsCongruent-refl, IsCongruent-trans, IsCongruent-mul, IsCongruent-add, IsCongruent-from_eq}
use Rattle.ibp_algebra.proofs.Weights.{unit_weight, weighted_sum-append, weighted_sum-scale, SameCoefficients-from_weights}
use Rattle.ibp_algebra.proofs.Canonical.{order_refl, Greater-reverse, Greater-trans}
use Rattle.ibp_algebra.proofs.ZeroDivisors.{AllKeys-append, AllKeys-scale}
use Rattle.ibp_algebra.proofs.Combinations.{AllKeys-weaker, AllKeys-both, weighted_sum-combination, weighted_sum-IsEqualBelow}

-- ---- orders

not_less_greater : (r : Ordering) → r ≡ Greater → r ≢ Less
not_less_greater r e l = cc

not_less_equal : (r : Ordering) → r ≡ Equal → r ≢ Less
not_less_equal r e l = cc

module _ {K : Type 0} (order : K → K → Ordering) (total : IsTotalOrder order) (unique : IsAntisymmetric order) where
  -- a is above b, and b is not below c
  pub Greater-not_less : (a b c : K) → order a b ≡ Greater → order b c ≢ Less → order a c ≡ Greater
  Greater-not_less a b c h k =
      elim (order b c) as (λ r. order b c ≡ r → order a c ≡ Greater) [
        | Less ↦ λ e. absurd (k e)
        | Equal ↦ λ e. ap (order a) (sym (unique b c e)) ∙ h
        | Greater ↦ λ e. Greater-trans order total a b c h e
      ] refl

  -- a is not below b, and b is above c
  pub not_less-Greater : (a b c : K) → order a b ≢ Less → order b c ≡ Greater → order a c ≡ Greater
  not_less-Greater a b c h k =
      elim (order a b) as (λ r. order a b ≡ r → order a c ≡ Greater) [
        | Less ↦ λ e. absurd (h e)
        | Equal ↦ λ e. ap (λ x. order x c) (unique a b e) ∙ k
        | Greater ↦ λ e. Greater-trans order total a b c e k
      ] refl

  pub not_less-trans : (a b c : K) → order a b ≢ Less → order b c ≢ Less → order a c ≢ Less
  not_less-trans a b c h k =
      elim (order a b) as (λ r. order a b ≡ r → order a c ≢ Less) [
        | Less ↦ λ e. absurd (h e)
        | Equal ↦ λ e less. k (ap (λ x. order x c) (sym (unique a b e)) ∙ less)
        | Greater ↦ λ e. not_less_greater _ (Greater-not_less a b c e k)
      ] refl

  -- a greatest one among the keys of some indices
  pub greatest : {I : Type 0} (lead : I → K) (Q : I → Type 0) (t : I × ℕ) (f : FormalSum I) → AllKeys Q (t ∷ f)
      → (i : I) × Q i × AllKeys (λ j. order (lead i) (lead j) ≢ Less) (t ∷ f)
  greatest lead Q t [] h = (t.0, h.0, (not_less_equal _ (order_refl order total (lead t.0)), tt))
  greatest {I} lead Q t (u ∷ f) h =
      let found = greatest lead Q u f h.1 in
      elim (order (lead t.0) (lead found.0)) as (λ r. order (lead t.0) (lead found.0) ≡ r → (i : I) × Q i × AllKeys (λ j. order (lead i) (lead j) ≢ Less) (t ∷ u ∷ f)) [
        | Less ↦ λ e. (found.0, found.1, (not_less_greater _ (Greater-reverse order total (lead t.0) (lead found.0) e), found.2))
        | Equal ↦ λ e. (found.0, found.1, (not_less_equal _ (ap (order (lead found.0)) (unique (lead t.0) (lead found.0) e) ∙ order_refl order total (lead found.0)), found.2))
        | Greater ↦ λ e. (
          t.0,
          h.0,
          (
            not_less_equal _ (order_refl order total (lead t.0)),
            AllKeys-weaker _ _ (λ j k. not_less-trans (lead t.0) (lead found.0) (lead j) (not_less_greater _ e) k) (u ∷ f) found.2,
          ),
        )
      ] refl

-- ---- the theorem

module _ {I K : Type 0} (order : K → K → Ordering) (total : IsTotalOrder order) (unique : IsAntisymmetric order)
    (same : K → K → Bool) (decides : (a b : K) → Decides (same a b) (a ≡ b))
    (value : I → FormalSum K) (lead : I → K) (Allowed : I → Type 0)
    (monic : (i : I) → Allowed i → coefficient same (value i) (lead i) ≡ 1)
    (greatest_key : (i : I) → Allowed i → (k : K) → order k (lead i) ≡ Greater → coefficient same (value i) k ≡ 0)
    (replaced : (i j : I) → Allowed i → Allowed j → lead i ≡ lead j → IsEqualBelow order same value lead Allowed (lead i) i j)
    (Valid : K → Type 0) (valid : (i : I) → Allowed i → Valid (lead i))
    (induction : (P : K → Type 0) → ((t : K) → Valid t → ((u : K) → Valid u → order t u ≡ Greater → P u) → P t) → (t : K) → Valid t → P t) where
  -- the coefficient at a key above all leads
  coefficient_above : (key : K) (f : FormalSum I) → AllKeys Allowed f → AllKeys (λ i. order key (lead i) ≡ Greater) f
      → IsCongruent (weighted_sum (unit_weight same key) (combination value f)) 0
  coefficient_above key [] a h = IsCongruent-refl 0
  coefficient_above key (t ∷ f) a h =
      let first = greatest_key t.0 a.0 key h.0 in
      let rest = (coefficient_above key f a.1 h.1).same_residue in
      let product : IsCongruent (t.1 * weighted_sum (unit_weight same key) (value t.0)) (t.1 * 0) =
      IsCongruent-mul (IsCongruent-refl t.1) (record { same_residue = first })
      in
      IsCongruent-trans (IsCongruent-from_eq (weighted_sum-append (unit_weight same key) (scale t.1 (value t.0)) (combination value f)
      ∙ ap (λ n. n + weighted_sum (unit_weight same key) (combination value f)) (weighted_sum-scale (unit_weight same key) t.1 (value t.0))))
      (IsCongruent-trans (IsCongruent-add product (coefficient_above key f a.1 h.1)) (IsCongruent-from_eq {a = t.1 * 0 + 0} {b = 0} (omega arith)))

  -- either each lead is below the top, or one of them is the top
  AtTop : K → Type 0
  AtTop top = (i : I) × Allowed i × (lead i ≡ top)

  below_or_at : (top : K) (f : FormalSum I) → AllKeys Allowed f → AllKeys (λ i. order top (lead i) ≢ Less) f
      → AllKeys (λ i. order top (lead i) ≡ Greater) f ⊎ AtTop top
  unfolding AtTop
  below_or_at top [] a h = inl tt
  below_or_at top (t ∷ f) a h =
      elim (order top (lead t.0)) as (λ r. order top (lead t.0) ≡ r → AllKeys (λ i. order top (lead i) ≡ Greater) (t ∷ f) ⊎ AtTop top) [
        | Less ↦ λ e. absurd (h.0 e)
        | Equal ↦ λ e. inr (t.0, a.0, sym (unique top (lead t.0) e))
        | Greater ↦ λ e.
            elim (below_or_at top f a.1 h.1) as (λ x. AllKeys (λ i. order top (lead i) ≡ Greater) (t ∷ f) ⊎ AtTop top) [
              | inl k ↦ inl (e, k)
              | inr k ↦ inr k
            ]
      ] refl

  -- the summands at the top, gathered on one of them
  record IsGathered (top : K) (pivot : I) (f : FormalSum I) : Type 0 where
    count : ℕ
    rest : FormalSum I
    allowed : AllKeys Allowed rest
    below : AllKeys (λ i. order top (lead i) ≡ Greater) rest
    sums : (w : K → ℕ) → IsCongruent (weighted_sum (λ i. weighted_sum w (value i)) f)
        (count * weighted_sum w (value pivot) + weighted_sum (λ i. weighted_sum w (value i)) rest)

  gathered_none : (top : K) (pivot : I) → IsGathered top pivot []
  gathered_none top pivot = record { count = 0; rest = []; allowed = tt; below = tt; sums = λ w. IsCongruent-from_eq (omega arith) }

  gathered_below : (top : K) (pivot : I) (t : I × ℕ) (f : FormalSum I) → Allowed t.0 → order top (lead t.0) ≡ Greater → IsGathered top pivot f → IsGathered top pivot (t ∷ f)
  gathered_below top pivot t f a e g =
      record {
        count = g.count;
        rest = t ∷ g.rest;
        allowed = (a, g.allowed);
        below = (e, g.below);
        sums = λ w. let k = (g.sums w).same_residue in record { same_residue = omega arith };
      }

  gathered_top : (top : K) (pivot : I) (t : I × ℕ) (f : FormalSum I) → IsEqualBelow order same value lead Allowed top t.0 pivot
      → IsGathered top pivot f → IsGathered top pivot (t ∷ f)
  gathered_top top pivot t f e g =
      record {
        count = t.1 + g.count;
        rest = scale t.1 e.summands ++ g.rest;
        allowed = AllKeys-append Allowed (scale t.1 e.summands) g.rest (AllKeys-scale Allowed t.1 e.summands e.allowed) g.allowed;
        below = AllKeys-append (λ i. order top (lead i) ≡ Greater) (scale t.1 e.summands) g.rest
            (AllKeys-scale (λ i. order top (lead i) ≡ Greater) t.1 e.summands e.below) g.below;
        sums = λ w.
            let first = weighted_sum-IsEqualBelow order same decides value lead Allowed top t.0 pivot e w in
            let weight = λ (i : I). weighted_sum w (value i) in
            IsCongruent-trans (IsCongruent-add (IsCongruent-mul (IsCongruent-refl t.1) first) (g.sums w))
            (IsCongruent-from_eq (omega (arith, weighted_sum-append weight (scale t.1 e.summands) g.rest, weighted_sum-scale weight t.1 e.summands)));
      }

  gathered : (top : K) (pivot : I) → Allowed pivot → lead pivot ≡ top → (f : FormalSum I) → AllKeys Allowed f → AllKeys (λ i. order top (lead i) ≢ Less) f
      → IsGathered top pivot f
  gathered top pivot p at [] a h = gathered_none top pivot
  gathered top pivot p at (t ∷ f) a h =
      let g = gathered top pivot p at f a.1 h.1 in
      elim (order top (lead t.0)) as (λ r. order top (lead t.0) ≡ r → IsGathered top pivot (t ∷ f)) [
        | Less ↦ λ e. absurd (h.0 e)
        | Equal ↦ λ e.
            let here : lead t.0 ≡ top = sym (unique top (lead t.0) e) in
            gathered_top top pivot t f
            (subst (λ k. IsEqualBelow order same value lead Allowed k t.0 pivot) here (replaced t.0 pivot a.0 p (here ∙ sym at))) g
        | Greater ↦ λ e. gathered_below top pivot t f a.0 e g
      ] refl

  -- what holds of a sum whose greatest key is `key`
  record HasLead (key : K) (f : FormalSum K) : Type 0 where
    present : coefficient same f key ≢ 0
    none_above : (k : K) → order k key ≡ Greater → coefficient same f k ≡ 0

  HasLead-same : (key : K) (f g : FormalSum K) → SameCoefficients same f g → HasLead key f → HasLead key g
  HasLead-same key f g s h =
      record { present = λ zero. h.present (s.same_at key ∙ zero); none_above = λ k above. sym (s.same_at k) ∙ h.none_above k above }

  Found : K → Type 0
  Found key = (i : I) × Allowed i × (lead i ≡ key)

  -- the claim for combinations whose leads are at most the top
  UpTo : K → K → Type 0
  UpTo key top = (f : FormalSum I) → AllKeys Allowed f → AllKeys (λ i. order top (lead i) ≢ Less) f → HasLead key (combination value f) → Found key

  -- where the leads are below the top, the greatest of them is
  from_lesser : (key : K) (Q : I → Type 0) → ((i : I) → Allowed i → Q i → UpTo key (lead i)) → (f : FormalSum I) → AllKeys Allowed f → AllKeys Q f
      → HasLead key (combination value f) → Found key
  unfolding UpTo
  from_lesser key Q lesser [] a q h = absurd (h.present refl)
  from_lesser key Q lesser (t ∷ f) a q h =
      let top = greatest order total unique lead (λ i. Allowed i × Q i) t f (AllKeys-both Allowed Q (t ∷ f) a q) in
      lesser top.0 top.1.0 top.1.1 (t ∷ f) a top.2 h

  -- the summands at the top cancel
  without_top : (top : K) (pivot : I) (f : FormalSum I) (g : IsGathered top pivot f) → g.count % 2147483647 ≡ 0
      → SameCoefficients same (combination value f) (combination value g.rest)
  without_top top pivot f g zero =
      SameCoefficients-from_weights same decides _ _ (λ w.
      let sums = rw (← weighted_sum-combination value w f, ← weighted_sum-combination value w g.rest) at (g.sums w) in
      let none : IsCongruent (g.count * weighted_sum w (value pivot)) (0 * weighted_sum w (value pivot)) =
      IsCongruent-mul (record { same_residue = zero }) (IsCongruent-refl (weighted_sum w (value pivot)))
      in
      IsCongruent-trans sums (IsCongruent-trans (IsCongruent-add none (IsCongruent-refl (weighted_sum w (combination value g.rest))))
      (IsCongruent-from_eq {a = 0 * weighted_sum w (value pivot) + weighted_sum w (combination value g.rest)} (omega arith))))

  -- or they add up to a term
  coefficient_top : (top : K) (pivot : I) (f : FormalSum I) (g : IsGathered top pivot f) → Allowed pivot → lead pivot ≡ top
      → coefficient same (combination value f) top ≡ g.count % 2147483647
  coefficient_top top pivot f g p at =
      let weight = unit_weight same top in
      let sums = rw (← weighted_sum-combination value weight f, ← weighted_sum-combination value weight g.rest) at (g.sums weight) in
      let one : IsCongruent (weighted_sum weight (value pivot)) 1 =
      record { same_residue = subst (λ k. coefficient same (value pivot) k ≡ 1) at (monic pivot p) }
      in
      let total_is : IsCongruent (weighted_sum weight (combination value f)) (g.count * 1 + 0) =
      IsCongruent-trans sums (IsCongruent-add (IsCongruent-mul (IsCongruent-refl g.count) one) (coefficient_above top g.rest g.allowed g.below))
      in
      (IsCongruent-trans total_is (IsCongruent-from_eq {a = g.count * 1 + 0} {b = g.count} (omega arith))).same_residue

  -- where the coefficient at the top is not zero, the top is the lead
  top_is_lead : (key top : K) (f : FormalSum I) → AllKeys Allowed f → AllKeys (λ i. order top (lead i) ≢ Less) f → HasLead key (combination value f)
      → coefficient same (combination value f) top ≢ 0 → top ≡ key
  top_is_lead key top f a h has there =
      elim (order top key) as (λ r. order top key ≡ r → top ≡ key) [
        | Less ↦ λ e.
            let above = Greater-reverse order total top key e in
            absurd (has.present (coefficient_above key f a (AllKeys-weaker _ _ (λ i k. Greater-not_less order total unique key top (lead i) above k) f h)).same_residue)
        | Equal ↦ λ e. unique top key e
        | Greater ↦ λ e. absurd (there (has.none_above top e))
      ] refl

  step : (key top : K) → Valid top → ((u : K) → Valid u → order top u ≡ Greater → UpTo key u) → UpTo key top
  unfolding UpTo AtTop Found
  step key top v lesser f a h has =
      let below = λ (g : FormalSum I) (b : AllKeys Allowed g) (q : AllKeys (λ i. order top (lead i) ≡ Greater) g) (k : HasLead key (combination value g)).
      from_lesser key (λ i. order top (lead i) ≡ Greater) (λ i c e. lesser (lead i) (valid i c) e) g b q k
      in
      elim (below_or_at top f a h) as (λ x. Found key) [
        | inl q ↦ below f a q has
        | inr at ↦
            let g = gathered top at.0 at.1 at.2 f a h in
            elim (g.count % 2147483647 == 0) as (λ b. (g.count % 2147483647 == 0) ≡ b → Found key) [
              | true ↦ λ e.
                  let zero : g.count % 2147483647 ≡ 0 = (Decides-eqb (g.count % 2147483647) 0).0 e in
                  below g.rest g.allowed g.below (HasLead-same key _ _ (without_top top at.0 f g zero) has)
              | false ↦ λ e.
                  let not_zero = not_from_Decides _ (Decides-eqb (g.count % 2147483647) 0) e in
                  let is = top_is_lead key top f a h has (λ zero. not_zero (sym (coefficient_top top at.0 f g at.1 at.2) ∙ zero)) in
                  (at.0, at.1, at.2 ∙ is)
            ] refl
      ]

  -- The greatest key of a combination of allowed indices is the lead of an allowed index.
  pub lead_of_combination : (f : FormalSum I) → AllKeys Allowed f → (key : K) → coefficient same (combination value f) key ≢ 0
      → ((k : K) → order k key ≡ Greater → coefficient same (combination value f) k ≡ 0) → (i : I) × Allowed i × (lead i ≡ key)
  unfolding UpTo Found
  lead_of_combination f a key present none_above =
      from_lesser key Allowed (λ i b c. induction (UpTo key) (step key) (lead i) (valid i b)) f a a (record { present = present; none_above = none_above })
