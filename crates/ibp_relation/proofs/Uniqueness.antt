-- There is at most one identity of a field at a seed: Laurent polynomials in n variables have no zero
-- divisors, by the lexicographic order of their powers, so P may be cancelled.
use Rattle.std.proofs.Common.{◌≡◌, ℕ, List, [], ◌∷◌, length, sym, refl, ap, ◌∙◌, arith}
use Rattle.std.specs.Prelude.{ℤ, ◌+ℤ◌, ◌<ℤ◌}
use Rattle.std.specs.declared.cmp.Ordering.{Ordering}
use Rattle.std.specs.declared.cmp.Ordering.TheVariants.{Less, Equal, Greater}
use Rattle.std.specs.Ordering.{int_cmp, ordering_then, MatchOrdering}
use Rattle.std.specs.Cmp.{IsTotalOrder, int_cmp_total, int_cmp_is, int_ranks}
use Rattle.std.specs.Cmp.Lexicographic.{slice_cmp, lists_total}
use Rattle.std.specs.FinMap.{IsAntisymmetric, int_cmp-IsAntisymmetric, slice_cmp-IsAntisymmetric}
use Rattle.std.proofs.lemmas.Int.{ints}
use Rattle.ibp_algebra.specs.FormalSum.{AllKeys}
use Rattle.ibp_algebra.proofs.ZeroDivisors.{product_cancel}
use Rattle.ibp_algebra.proofs.SumLaws.{SameCoefficients-sym, SameCoefficients-trans}
use Rattle.ibp_algebra.specs.Polynomial.{Polynomial}
use Rattle.ibp_algebra.specs.Laurent.{Laurent, same_powers, SameLaurent, add_powers, laurent}
use Rattle.ibp_algebra.specs.Identity.{HasPowers, IsIdentity}
use Rattle.ibp_relation.proofs.Embedding.{laurent_powers}
use Rattle.ibp_relation.proofs.LaurentLaws.{powers_decide, add_powers_comm}

power_order : List ℤ → List ℤ → Ordering
power_order = slice_cmp int_cmp

added : (x y z : ℤ) (r : Ordering) → MatchOrdering r (x <ℤ y) (x ≡ y) (y <ℤ x)
    → MatchOrdering r ((x +ℤ z) <ℤ (y +ℤ z)) (x +ℤ z ≡ y +ℤ z) ((y +ℤ z) <ℤ (x +ℤ z))
added x y z Less h = omega (arith, ints)
added x y z Equal h = ap (λ k. k +ℤ z) h
added x y z Greater h = omega (arith, ints)

-- a summand on both sides leaves the order of two integers
int_cmp-add : (x y z : ℤ) → int_cmp (x +ℤ z) (y +ℤ z) ≡ int_cmp x y
int_cmp-add x y z = sym (int_cmp_is (x +ℤ z) (y +ℤ z) (int_cmp x y) (added x y z (int_cmp x y) (int_ranks x y)))

-- and of two lists of powers that are as long
power_order-add : (a b c : List ℤ) → length a ≡ length b → length a ≡ length c → power_order (add_powers a c) (add_powers b c) ≡ power_order a b
unfolding power_order
power_order-add [] [] [] p q = refl
power_order-add [] [] (z ∷ c) p q = absurd (omega arith)
power_order-add [] (y ∷ b) c p q = absurd (omega arith)
power_order-add (x ∷ a) [] c p q = absurd (omega arith)
power_order-add (x ∷ a) (y ∷ b) [] p q = absurd (omega arith)
power_order-add (x ∷ a) (y ∷ b) (z ∷ c) p q = λ i. ordering_then (int_cmp-add x y z i) (power_order-add a b c (omega arith) (omega arith) i)

module _ (n : ℕ) where
  left : (a b c : List ℤ) → HasPowers n a → HasPowers n b → HasPowers n c → power_order a b ≡ Greater → power_order (add_powers a c) (add_powers b c) ≡ Greater
  left a b c p q r h = power_order-add a b c (omega arith) (omega arith) ∙ h

  right : (a b c : List ℤ) → HasPowers n a → HasPowers n b → HasPowers n c → power_order b c ≡ Greater → power_order (add_powers a b) (add_powers a c) ≡ Greater
  right a b c p q r h = rw (add_powers_comm a b, add_powers_comm a c) (left b c a q r p h)

power_order_total : IsTotalOrder power_order
unfolding power_order
power_order_total = lists_total int_cmp_total

power_order_unique : IsAntisymmetric power_order
unfolding power_order
power_order_unique = slice_cmp-IsAntisymmetric int_cmp-IsAntisymmetric

-- at most one Laurent polynomial in n variables is the identity of a field at a seed
pub IsIdentity-unique : (n γ : ℕ) (p : Polynomial) (a : List Polynomial) (α : List ℤ) (r s : Laurent)
    → AllKeys (HasPowers n) r → AllKeys (HasPowers n) s → ¬ (SameLaurent (laurent n p) [])
    → IsIdentity n γ p a α r → IsIdentity n γ p a α s → SameLaurent r s
IsIdentity-unique n γ p a α r s u v not_zero first second =
    product_cancel power_order power_order_total power_order_unique same_powers powers_decide add_powers (HasPowers n) (left n) (right n)
    r s (laurent n p) u v (laurent_powers n p) not_zero (SameCoefficients-trans first.identity (SameCoefficients-sym second.identity))
