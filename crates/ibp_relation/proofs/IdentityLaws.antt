-- The identity of a tangent field without a shift of D: where the sum over i of a_i d_i P is b P, the
-- identity is the sum over i of d_i(a_i z^(-α)), plus γ b z^(-α).
use Rattle.std.proofs.Common.{◌≡◌, ℕ, suc, ◌+◌, ◌*◌, ◌≤◌, List, [], ◌∷◌, ◌++◌, map, length, ap, ◌∙◌, arith}
use Rattle.std.specs.Prelude.{ℤ}
use Rattle.ibp_algebra.specs.FormalSum.{weighted_sum, scale}
use Rattle.ibp_algebra.proofs.Weights.{weighted_sum-append, weighted_sum-scale, weighted_sum-product}
use Rattle.ibp_algebra.proofs.SumLaws.{SameCoefficients-sym, SameCoefficients-trans, SameCoefficients-from_sums}
use Rattle.ibp_algebra.specs.Polynomial.{Polynomial, SamePolynomial, multiply, derivative, derivative_along, derivative_along_from}
use Rattle.ibp_algebra.specs.Laurent.{Laurent, same_powers, SameLaurent, add_powers, multiply_laurent, power_product, laurent_derivative, laurent}
use Rattle.ibp_algebra.specs.Identity.{negated, at_seed, divergence_term, divergence_from, divergence, IsIdentity}
use Rattle.ibp_relation.proofs.LaurentLaws.{powers_decide, SameLaurent-refl, SameLaurent-append, SameLaurent-scale, SameLaurent-multiply, multiply_laurent-append, multiply_laurent-scale, multiply_laurent_swap, SameLaurent-laurent, laurent-multiply, laurent-append, laurent-derivative}

-- the sum over i, from `i` on, of a_i d_i P
along_from : ℕ → List Laurent → Laurent → Laurent
along_from i [] p = []
along_from i (a ∷ others) p = multiply_laurent a (laurent_derivative i p) ++ along_from (suc i) others p

-- of d_i(a_i z^(-α))
abbrev pub own_divergence_from : ℕ → List Laurent → List ℤ → Laurent
own_divergence_from i [] α = []
own_divergence_from i (a ∷ others) α = laurent_derivative i (at_seed a α) ++ own_divergence_from (suc i) others α

-- of a_i z^(-α) d_i P
carried_from : ℕ → List Laurent → List ℤ → Laurent → Laurent
carried_from i [] α p = []
carried_from i (a ∷ others) α p = multiply_laurent (at_seed a α) (laurent_derivative i p) ++ carried_from (suc i) others α p

-- the identity of a tangent field
abbrev pub tangent_identity : ℕ → List Laurent → Laurent → List ℤ → Laurent
tangent_identity γ a b α = own_divergence_from 0 a α ++ scale γ (at_seed b α)

sum_of_product : (w : List ℤ → ℕ) (f g h : Laurent)
    → weighted_sum w (multiply_laurent (f ++ g) h) ≡ weighted_sum w (multiply_laurent f h) + weighted_sum w (multiply_laurent g h)
sum_of_product w f g h =
    weighted_sum-product add_powers w (f ++ g) h ∙ weighted_sum-append _ f g
    ∙ omega (arith, weighted_sum-product add_powers w f h, weighted_sum-product add_powers w g h)

divergence_sum : (w : List ℤ → ℕ) (γ i : ℕ) (a : List Laurent) (α : List ℤ) (p : Laurent)
    → weighted_sum w (multiply_laurent (own_divergence_from i a α) p) + γ * weighted_sum w (carried_from i a α p) ≡ weighted_sum w (divergence_from i γ a α p)
unfolding carried_from
divergence_sum w γ i [] α p = omega arith
divergence_sum w γ i (a ∷ others) α p =
    let first = multiply_laurent (laurent_derivative i (at_seed a α)) p in
    let second = multiply_laurent (at_seed a α) (laurent_derivative i p) in
    omega (
      arith,
      sum_of_product w (laurent_derivative i (at_seed a α)) (own_divergence_from (suc i) others α) p,
      ap (λ n. γ * n) (weighted_sum-append w second (carried_from (suc i) others α p)),
      weighted_sum-append w (divergence_term i γ a α p) (divergence_from (suc i) γ others α p),
      weighted_sum-append w first (scale γ second),
      weighted_sum-scale w γ second,
      divergence_sum w γ (suc i) others α p,
    )

divergence_parts : (γ : ℕ) (a : List Laurent) (α : List ℤ) (p : Laurent)
    → SameLaurent (multiply_laurent (own_divergence_from 0 a α) p ++ scale γ (carried_from 0 a α p)) (divergence γ a α p)
divergence_parts γ a α p =
    SameCoefficients-from_sums same_powers powers_decide _ _ (λ w.
    weighted_sum-append w (multiply_laurent (own_divergence_from 0 a α) p) (scale γ (carried_from 0 a α p))
    ∙ omega (arith, weighted_sum-scale w γ (carried_from 0 a α p), divergence_sum w γ 0 a α p))

carried_is : (i : ℕ) (a : List Laurent) (α : List ℤ) (p : Laurent)
    → SameLaurent (carried_from i a α p) (multiply_laurent (along_from i a p) (power_product (negated α)))
unfolding carried_from along_from
carried_is i [] α p = SameLaurent-refl []
carried_is i (a ∷ others) α p =
    SameCoefficients-trans
    (SameLaurent-append (multiply_laurent_swap a (power_product (negated α)) (laurent_derivative i p)) (carried_is (suc i) others α p))
    (SameCoefficients-sym
    (multiply_laurent-append (multiply_laurent a (laurent_derivative i p)) (along_from (suc i) others p) (power_product (negated α))))

-- the central equation, for Laurent polynomials
identity_equation : (γ : ℕ) (a : List Laurent) (b p : Laurent) (α : List ℤ) → SameLaurent (along_from 0 a p) (multiply_laurent b p)
    → SameLaurent (multiply_laurent (tangent_identity γ a b α) p) (divergence γ a α p)
identity_equation γ a b p α tangent =
    let own = own_divergence_from 0 a α in
    let moved : SameLaurent (multiply_laurent (at_seed b α) p) (carried_from 0 a α p) =
    SameCoefficients-trans (multiply_laurent_swap b (power_product (negated α)) p)
    (SameCoefficients-trans (SameLaurent-multiply (SameCoefficients-sym tangent) (SameLaurent-refl (power_product (negated α))))
    (SameCoefficients-sym (carried_is 0 a α p)))
    in
    SameCoefficients-trans (multiply_laurent-append own (scale γ (at_seed b α)) p)
    (SameCoefficients-trans
    (SameLaurent-append (SameLaurent-refl (multiply_laurent own p))
    (SameCoefficients-trans (multiply_laurent-scale γ (at_seed b α) p) (SameLaurent-scale γ moved)))
    (divergence_parts γ a α p))

along_is : (n i : ℕ) (a : List Polynomial) (p : Polynomial) → i + length a ≤ n
    → SameLaurent (laurent n (derivative_along_from i a p)) (along_from i (map (laurent n) a) (laurent n p))
unfolding along_from
along_is n i [] p h = SameLaurent-refl []
along_is n i (a ∷ others) p h =
    rw (laurent-append n (multiply a (derivative i p)) (derivative_along_from (suc i) others p))
    (SameLaurent-append
    (SameCoefficients-trans (laurent-multiply n a (derivative i p))
    (SameLaurent-multiply (SameLaurent-refl (laurent n a)) (laurent-derivative i n p (omega arith))))
    (along_is n (suc i) others p (omega arith)))

-- a tangent field has its identity without the derivatives of P
pub IsIdentity-tangent : (n γ : ℕ) (p : Polynomial) (a : List Polynomial) (b : Polynomial) (α : List ℤ) → length a ≤ n → SamePolynomial (derivative_along a p) (multiply b p)
    → IsIdentity n γ p a α (tangent_identity γ (map (laurent n) a) (laurent n b) α)
IsIdentity-tangent n γ p a b α fits h =
    record {
      identity =
          identity_equation γ (map (laurent n) a) (laurent n b) (laurent n p) α
          (SameCoefficients-trans (SameCoefficients-sym (along_is n 0 a p (omega arith)))
          (SameCoefficients-trans (SameLaurent-laurent n h) (laurent-multiply n b p)));
    }
