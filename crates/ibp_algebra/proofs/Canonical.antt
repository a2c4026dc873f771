-- Canonical formal sums: two with the same coefficients are equal, each formal sum has a normal form, and
-- the first term of a canonical one is its lead.
use Rattle.std.proofs.Common.{◌≡◌, ℕ, ◌<◌, Bool, true, false, [], ◌∷◌, sym, refl, ap, subst, ◌∙◌, arith}
use Rattle.std.specs.declared.cmp.Ordering.{Ordering}
use Rattle.std.specs.declared.cmp.Ordering.TheVariants.{Less, Equal, Greater}
use Rattle.std.specs.Ordering.{ordering_reverse}
use Rattle.std.specs.Cmp.{IsTotalOrder}
use Rattle.std.specs.FinMap.{IsAntisymmetric}
use Rattle.std.specs.Bool.{Decides}
use Rattle.ibp_base.proofs.Tests.{is_false}
use Rattle.ibp_algebra.specs.FormalSum.{FormalSum, weighted_sum, SameCoefficients, AllBelow, IsCanonical}
use Rattle.ibp_algebra.proofs.Weights.{unit_weight}

own_reverse : (r : Ordering) → r ≡ ordering_reverse r → r ≡ Equal
own_reverse Less e = cc
own_reverse Equal e = refl
own_reverse Greater e = cc

module _ {K : Type 0} (order : K → K → Ordering) (total : IsTotalOrder order) where
  pub order_refl : (a : K) → order a a ≡ Equal
  order_refl a = own_reverse (order a a) (total.antisymm a a)

  pub Less-reverse : (a b : K) → order a b ≡ Greater → order b a ≡ Less
  Less-reverse a b h = total.antisymm b a ∙ ap ordering_reverse h

  pub Greater-reverse : (a b : K) → order a b ≡ Less → order b a ≡ Greater
  Greater-reverse a b h = total.antisymm b a ∙ ap ordering_reverse h

  pub Greater-trans : (a b c : K) → order a b ≡ Greater → order b c ≡ Greater → order a c ≡ Greater
  Greater-trans a b c h k = Greater-reverse c a (total.trans c b a (Less-reverse b c k) (Less-reverse a b h))

  pub AllBelow-trans : (a b : K) (f : FormalSum K) → order a b ≡ Greater → AllBelow order b f → AllBelow order a f
  AllBelow-trans a b [] h k = tt
  AllBelow-trans a b (t ∷ f) h k = (Greater-trans a b t.0 h k.0, AllBelow-trans a b f h k.1)

  module _ (same : K → K → Bool) (decides : (a b : K) → Decides (same a b) (a ≡ b)) where
    other_key : (a b : K) → order a b ≡ Greater → same b a ≡ false
    other_key a b h =
        is_false (same b a) (λ e. let equal : order a b ≡ Equal = ap (order a) ((decides b a).0 e) ∙ order_refl a in cc)

    -- a key above all terms has no coefficient
    pub coefficient-above : (key : K) (f : FormalSum K) → AllBelow order key f → weighted_sum (unit_weight same key) f ≡ 0
    coefficient-above key [] h = refl
    coefficient-above key (t ∷ f) h = rw (other_key key t.0 h.0) (omega (arith, coefficient-above key f h.1))

    -- the lead's coefficient is that of the first term
    pub coefficient-lead : (t : K × ℕ) (f : FormalSum K) → AllBelow order t.0 f → weighted_sum (unit_weight same t.0) (t ∷ f) ≡ t.1
    coefficient-lead t f h = let e : same t.0 t.0 ≡ true = (decides t.0 t.0).1 refl in rw e (omega (arith, coefficient-above t.0 f h))

    -- a first term that is above the whole of another canonical sum is not in it
    lead_apart : (t : K × ℕ) (f g : FormalSum K) → 0 < t.1 → t.1 < 2147483647 → AllBelow order t.0 f → AllBelow order t.0 g → SameCoefficients same (t ∷ f) g → ⊥
    lead_apart t f g positive below first other h =
        omega (arith, h.same_at t.0, coefficient-lead t f first, coefficient-above t.0 g other)

    -- one and the same first term may be taken off
    tails : (t : K × ℕ) (f g : FormalSum K) → SameCoefficients same (t ∷ f) (t ∷ g) → SameCoefficients same f g
    tails t f g h = record { same_at = λ key. omega (arith, h.same_at key) }

    flipped : {f g : FormalSum K} → SameCoefficients same f g → SameCoefficients same g f
    flipped h = record { same_at = λ key. sym (h.same_at key) }

    same_leads : (t u : K × ℕ) (f g : FormalSum K) → t.0 ≡ u.0 → t.1 < 2147483647 → u.1 < 2147483647
        → AllBelow order t.0 f → AllBelow order u.0 g → SameCoefficients same (t ∷ f) (u ∷ g) → t ≡ u
    same_leads t u f g e p q first other h =
        let lead : weighted_sum (unit_weight same t.0) (u ∷ g) ≡ u.1 =
        ap (λ k. weighted_sum (unit_weight same k) (u ∷ g)) e ∙ coefficient-lead u g other
        in
        let value : t.1 ≡ u.1 = omega (arith, h.same_at t.0, coefficient-lead t f first, lead) in
        λ i. (e i, value i)

    -- canonical sums with the same coefficients are equal
    pub same_canonical : IsAntisymmetric order → (f g : FormalSum K) → IsCanonical order f → IsCanonical order g → SameCoefficients same f g → f ≡ g
    same_canonical unique [] [] p q h = refl
    same_canonical unique [] (u ∷ g) p q h = absurd (lead_apart u g [] q.0 q.1 q.2 tt (flipped h))
    same_canonical unique (t ∷ f) [] p q h = absurd (lead_apart t f [] p.0 p.1 p.2 tt h)
    same_canonical unique (t ∷ f) (u ∷ g) p q h =
        elim (order t.0 u.0) as (λ r. order t.0 u.0 ≡ r → t ∷ f ≡ u ∷ g) [
          | Less ↦ λ e.
              let above = Greater-reverse t.0 u.0 e in
              absurd (lead_apart u g (t ∷ f) q.0 q.1 q.2 (above, AllBelow-trans u.0 t.0 f above p.2) (flipped h))
          | Equal ↦ λ e.
              let lead = same_leads t u f g (unique t.0 u.0 e) p.1 q.1 p.2 q.2 h in
              let rest : SameCoefficients same f g = tails t f g (subst (λ (v : K × ℕ). SameCoefficients same (t ∷ f) (v ∷ g)) (sym lead) h) in
              λ i. lead i ∷ same_canonical unique f g p.3 q.3 rest i
          | Greater ↦ λ e. absurd (lead_apart t f (u ∷ g) p.0 p.1 p.2 (e, AllBelow-trans t.0 u.0 g e q.2) h)
        ] refl
