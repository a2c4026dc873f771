-- The degree of a polynomial bounds the degrees of its terms, and the first term of a canonical one has it.
use Rattle.std.proofs.Common.{◌≡◌, ◌≢◌, ℕ, ◌+◌, ◌<◌, ◌≤◌, List, [], ◌∷◌, sum, ◌∙◌, arith}
use Rattle.std.specs.Prelude.{max}
use Rattle.std.specs.declared.cmp.Ordering.{Ordering}
use Rattle.std.specs.declared.cmp.Ordering.TheVariants.{Less, Equal, Greater}
use Rattle.std.specs.Ordering.{nat_cmp, ordering_then, MatchOrdering}
use Rattle.std.specs.Cmp.{ranks}
use Rattle.ibp_algebra.specs.FormalSum.{AllKeys, IsCanonical}
use Rattle.ibp_algebra.specs.Exponents.{deg_rev_lex, same_exponents}
use Rattle.ibp_algebra.specs.ExponentOrder.{exponents_decide, deg_rev_lex_total}
use Rattle.ibp_algebra.specs.Polynomial.{Polynomial, SamePolynomial, coefficient_at, degree_of}
use Rattle.ibp_algebra.proofs.Canonical.{coefficient-lead}
use Rattle.ibp_algebra.proofs.Terms.{coefficient-CountingKeys, AllKeys-canonical}
use Rattle.ibp_algebra.proofs.Divisibility.{CountingKeys-from_all}

not_greater : (a b : ℕ) (r s : Ordering) → MatchOrdering r (a < b) (a ≡ b) (b < a) → ordering_then r s ≡ Greater → b ≤ a
not_greater a b Less s h e = absurd (let clash : ◌≡◌ {A = Ordering} Less Greater = e in cc)
not_greater a b Equal s h e = omega arith
not_greater a b Greater s h e = omega arith

-- a greater monomial has no smaller degree
degree_le : (a b : List ℕ) → deg_rev_lex a b ≡ Greater → sum b ≤ sum a
degree_le a b h = not_greater (sum a) (sum b) (nat_cmp (sum a) (sum b)) _ (ranks (sum a) (sum b)) h

degrees_le : (m : List ℕ) (f : Polynomial) → AllKeys (λ k. deg_rev_lex m k ≡ Greater) f → AllKeys (λ k. sum k ≤ sum m) f
degrees_le m [] h = tt
degrees_le m (t ∷ f) h = (degree_le m t.0 h.0, degrees_le m f h.1)

keys_along : (d e : ℕ) (f : Polynomial) → d ≤ e → AllKeys (λ k. sum k ≤ d) f → AllKeys (λ k. sum k ≤ e) f
keys_along d e [] le h = tt
keys_along d e (t ∷ f) le h = (omega (arith, h.0), keys_along d e f le h.1)

-- no term has a greater degree
pub AllKeys-degree_of : (f : Polynomial) → AllKeys (λ k. sum k ≤ degree_of f) f
AllKeys-degree_of [] = tt
AllKeys-degree_of (t ∷ f) = (omega arith, keys_along (degree_of f) (max (sum t.0) (degree_of f)) f (omega arith) (AllKeys-degree_of f))

degree_of-le : (d : ℕ) (f : Polynomial) → AllKeys (λ k. sum k ≤ d) f → degree_of f ≤ d
degree_of-le d [] h = omega arith
degree_of-le d (t ∷ f) h = omega (arith, h.0, degree_of-le d f h.1)

-- the first term of a canonical polynomial has the degree of the polynomial
pub degree_of-first : (t : List ℕ × ℕ) (f : Polynomial) → IsCanonical deg_rev_lex (t ∷ f) → degree_of (t ∷ f) ≡ sum t.0
degree_of-first t f h = omega (arith, degree_of-le (sum t.0) f (degrees_le t.0 f h.2))

-- So the definition is the textbook's, which no proof needs: each monomial with a coefficient that is not zero has at
-- most this degree,
pub degree_of-bounds : (f : Polynomial) (m : List ℕ) → coefficient_at f m ≢ 0 → sum m ≤ degree_of f
degree_of-bounds f m not_zero =
    coefficient-CountingKeys same_exponents exponents_decide (λ k. sum k ≤ degree_of f) f (CountingKeys-from_all (λ k. sum k ≤ degree_of f) f (AllKeys-degree_of f)) m not_zero

-- and in a canonical polynomial that is not zero one has it
pub degree_of-attained : (t : List ℕ × ℕ) (f : Polynomial) → IsCanonical deg_rev_lex (t ∷ f) → (coefficient_at (t ∷ f) t.0 ≢ 0) × (degree_of (t ∷ f) ≡ sum t.0)
degree_of-attained t f h = (
  λ none. absurd (omega (arith, none, coefficient-lead deg_rev_lex deg_rev_lex_total same_exponents exponents_decide t f h.2, h.0, h.1)),
  degree_of-first t f h,
)

sums_fit : (limit d : ℕ) (m : List ℕ) (f : Polynomial) → sum m + d ≤ limit → AllKeys (λ k. sum k ≤ d) f → AllKeys (λ k. sum m + sum k ≤ limit) f
sums_fit limit d m [] h k = tt
sums_fit limit d m (t ∷ f) h k = (omega (arith, k.0), sums_fit limit d m f h k.1)

products_fit_from : (limit d : ℕ) (f g : Polynomial) → d + degree_of g ≤ limit → AllKeys (λ m. sum m ≤ d) f → AllKeys (λ m. AllKeys (λ k. sum m + sum k ≤ limit) g) f
products_fit_from limit d [] g h k = tt
products_fit_from limit d (t ∷ f) g h k = (sums_fit limit (degree_of g) t.0 g (omega (arith, k.0)) (AllKeys-degree_of g), products_fit_from limit d f g h k.1)

-- the products of the terms have at most the sum of the degrees
pub products_fit : (limit : ℕ) (f g : Polynomial) → degree_of f + degree_of g ≤ limit → AllKeys (λ m. AllKeys (λ k. sum m + sum k ≤ limit) g) f
products_fit limit f g h = products_fit_from limit (degree_of f) f g h (AllKeys-degree_of f)

-- what holds of each term of a polynomial holds of each term of a canonical one with the same coefficients
pub AllKeys-same : (P : List ℕ → Type 0) (f g : Polynomial) → IsCanonical deg_rev_lex f → SamePolynomial f g → AllKeys P g → AllKeys P f
AllKeys-same P f g canonical same h =
    AllKeys-canonical same_exponents exponents_decide deg_rev_lex deg_rev_lex_total P f canonical
    (λ key counts. coefficient-CountingKeys same_exponents exponents_decide P g (CountingKeys-from_all P g h) key
    (λ zero. counts (same.same_at key ∙ zero)))

pub degree_within : (degree : ℕ) (f : Polynomial) → AllKeys (λ m. sum m ≤ degree) f → degree_of f ≤ degree
degree_within degree [] h = omega arith
degree_within degree (t ∷ f) h = omega (arith, h.0, degree_within degree f h.1)
