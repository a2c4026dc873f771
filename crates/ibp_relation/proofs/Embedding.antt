-- A polynomial that is not zero and has no variable beyond the first n is not zero as a Laurent polynomial
-- in n variables.
use Rattle.std.proofs.Common.{◌≡◌, ℕ, zero, suc, ◌-◌, ◌≤◌, List, [], ◌∷◌, ◌++◌, map, length, get_or, take, replicate, sym, refl, ap, ◌∙◌, arith}
use Rattle.std.specs.Prelude.{ℤ, pos, negsuc}
use Rattle.std.proofs.lemmas.List.{length-map}
use Rattle.ibp_algebra.specs.FormalSum.{AllKeys, map_keys}
use Rattle.ibp_algebra.proofs.SumLaws.{SameCoefficients-trans, SameCoefficients-from_eq, SameCoefficients-map_keys}
use Rattle.ibp_algebra.specs.Exponents.{same_exponents, first_exponents}
use Rattle.ibp_algebra.specs.Polynomial.{Polynomial, SamePolynomial}
use Rattle.ibp_algebra.proofs.ExponentLaws.{length-first_exponents, first_exponents-take}
use Rattle.ibp_algebra.specs.ExponentOrder.{exponents_decide}
use Rattle.ibp_algebra.specs.Laurent.{same_powers, SameLaurent, laurent}
use Rattle.ibp_algebra.specs.Identity.{HasPowers}
use Rattle.mono_order.specs.declared.limits.TheConstants.{VARIABLES}
use Rattle.family.specs.Shapes.{HasVariables}
use Rattle.ibp_relation.proofs.LaurentLaws.{powers_decide}

natural : ℤ → ℕ
natural (pos x) = x
natural (negsuc x) = 0

-- the exponents of a power product without negative powers, continued by zeros
back : ℕ → List ℤ → List ℕ
back n k = map natural k ++ replicate (VARIABLES - n) 0

naturals : (m : List ℕ) → map natural (map pos m) ≡ m
unfolding natural
naturals [] = refl
naturals (x ∷ m) = ap (λ l. x ∷ l) (naturals m)

zeros : (m : List ℕ) → ((j : ℕ) → get_or m j 0 ≡ 0) → replicate (length m) 0 ≡ m
zeros [] h = refl
zeros (x ∷ m) h = λ i. sym (h 0) i ∷ zeros m (λ j. h (suc j)) i

continued : (n : ℕ) (m : List ℕ) → n ≤ length m → ((j : ℕ) → n ≤ j → get_or m j 0 ≡ 0) → take n m ++ replicate (length m - n) 0 ≡ m
continued zero m h none =
    let whole : length m - 0 ≡ length m = omega arith in
    ap (λ k. replicate k 0) whole ∙ zeros m (λ j. none j (omega arith))
continued (suc n) [] h none = absurd (omega arith)
continued (suc n) (x ∷ m) h none =
    let less : suc (length m) - suc n ≡ length m - n = omega arith in
    ap (λ k. x ∷ (take n m ++ replicate k 0)) less ∙ ap (λ l. x ∷ l) (continued n m (omega arith) (λ j le. none (suc j) (omega arith)))

back-taken : (n : ℕ) (m : List ℕ) → n ≤ VARIABLES → HasVariables n m → back n (map pos (first_exponents n m)) ≡ m
unfolding back
back-taken n m fits h =
    let long_is : VARIABLES ≡ length m = sym h.each_variable in
    (λ i. naturals (first_exponents n m) i ++ replicate (long_is i - n) 0)
    ∙ (λ i. first_exponents-take n m (omega (arith, long_is)) i ++ replicate (length m - n) 0) ∙ continued n m (omega (arith, long_is)) h.none_beyond

back-laurent : (n : ℕ) (p : Polynomial) → n ≤ VARIABLES → AllKeys (HasVariables n) p → map_keys (back n) (laurent n p) ≡ p
back-laurent n [] fits h = refl
back-laurent n (t ∷ p) fits h = λ i. (back-taken n t.0 fits h.0 i, t.1) ∷ back-laurent n p fits h.1 i

pub laurent_not_zero : (n : ℕ) (p : Polynomial) → n ≤ VARIABLES → AllKeys (HasVariables n) p → ¬ (SamePolynomial p []) → ¬ (SameLaurent (laurent n p) [])
laurent_not_zero n p fits h not_zero all_zero =
    not_zero
    (SameCoefficients-trans (SameCoefficients-from_eq (sym (back-laurent n p fits h)))
    (SameCoefficients-map_keys same_powers powers_decide same_exponents exponents_decide (back n) all_zero))

-- a polynomial as a Laurent polynomial has n powers in each key
pub laurent_powers : (n : ℕ) (p : Polynomial) → AllKeys (HasPowers n) (laurent n p)
laurent_powers n [] = tt
laurent_powers n (t ∷ p) = (length-map (first_exponents n t.0) pos ∙ length-first_exponents n t.0, laurent_powers n p)
