-- Exponents of the first variables, continued by zeros.
use Rattle.std.proofs.Common.{◌≡◌, ℕ, zero, suc, ◌-◌, List, [], ◌∷◌, ◌++◌, length, sum, drop, replicate, refl, ap, ◌∙◌, arith}
use Rattle.std.proofs.lemmas.List.{drop-replicate}
use Rattle.std.proofs.lemmas.List.Sums.{sum_by-cons}
use Rattle.mono_order.specs.declared.limits.TheConstants.{VARIABLES}

sum_zeros : (k : ℕ) → sum (replicate k 0) ≡ 0
sum_zeros zero = refl
sum_zeros (suc k) = omega (arith, sum_by-cons (λ y. y) 0 (replicate k 0), sum_zeros k)

pub padded_sum : (k : ℕ) (exponents : List ℕ) → sum (exponents ++ replicate k 0) ≡ sum exponents
padded_sum k [] = sum_zeros k
padded_sum k (x ∷ exponents) = omega (arith, sum_by-cons (λ y. y) x (exponents ++ replicate k 0), sum_by-cons (λ y. y) x exponents, padded_sum k exponents)

pub filled : (exponents copy : List ℕ) → copy ≡ exponents → copy ++ drop (length exponents) (replicate VARIABLES 0) ≡ exponents ++ replicate (VARIABLES - length exponents) 0
filled exponents copy same =
    ap (λ front. front ++ drop (length exponents) (replicate VARIABLES 0)) same ∙ ap (λ rest. exponents ++ rest) (drop-replicate (length exponents) VARIABLES 0)
