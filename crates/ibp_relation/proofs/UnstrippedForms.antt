-- The unstripped form of a stripped field, made polynomial by polynomial.
use Rattle.std.proofs.Common.{◌≡◌, ◌≢◌, ℕ, zero, suc, ◌+◌, ◌*◌, ◌<◌, ◌≤◌, Bool, true, false, if◌then◌else◌, List, [], ◌∷◌, ◌++◌, length, get_or, take, set, sum, replicate, append-nil, sym, refl, ap, subst, ◌∙◌, lit<, arith}
use Rattle.std.specs.Prelude.{ℤ}
use Rattle.std.specs.List.{All}
use Rattle.std.proofs.lemmas.List.{take_more, length-take-le, length-set}
use Rattle.ibp_algebra.specs.FormalSum.{AllKeys, IsCanonical, map_keys, times_term}
use Rattle.ibp_algebra.specs.Exponents.{add_exponents, deg_rev_lex, same_exponents}
use Rattle.ibp_algebra.specs.Polynomial.{Polynomial, SamePolynomial, multiply, degree_of}
use Rattle.ibp_algebra.specs.Field.{variable, unit_exponents, unstripped_from, unstripped, IsInModule}
use Rattle.ibp_algebra.specs.Identity.{in_sector_of}
use Rattle.ibp_algebra.proofs.PolynomialLaws.{same_polynomials, SamePolynomial-multiply}
use Rattle.ibp_algebra.proofs.SumLaws.{SameCoefficients-refl, SameCoefficients-trans, SameCoefficients-from_eq}
use Rattle.ibp_algebra.proofs.SumOfExponents.{sum-add_exponents, sum-set}
use Rattle.ibp_algebra.proofs.Combinations.{AllKeys-weaker}
use Rattle.mono_order.specs.Monomial.{IsMonomial}
use Rattle.mono_order.specs.declared.limits.TheConstants.{MONO_DEGREE, RUN_DEGREE, VARIABLES}
use Rattle.sparse_poly.proofs.Loops.{AreMonomials, IsCanonical-shift}
use Rattle.family.specs.Shapes.{HasVariables, IsPolynomial, IsField, ArePowers}
use Rattle.ibp_relation.specs.Conditions.{NoneRises, NoneRisesInModule}
use Rattle.ibp_relation.specs.Shifts.{HasDegree}
use Rattle.ibp_relation.proofs.Degrees.{HasDegree-more}
use Rattle.ibp_relation.proofs.Rows.{IsIdentity-DoesNotRise}
use Rattle.ibp_relation.proofs.Outcomes.{not_zero}
use Rattle.ibp_relation.proofs.SeedSectors.{module_at}

-- ---- one variable

add_zeros : (k : List ℕ) → add_exponents (replicate (length k) 0) k ≡ k
add_zeros [] = refl
add_zeros (x ∷ k) =
    let none : 0 + x ≡ x = omega arith in
    λ j. none j ∷ add_zeros k j

-- the exponents of the variable may have zeros at the end
longer_unit : (i : ℕ) (k : List ℕ) → i < length k → add_exponents (set (replicate (length k) 0) i 1) k ≡ add_exponents (unit_exponents i) k
longer_unit i [] h = absurd (omega arith)
longer_unit zero (x ∷ k) h = λ j. (1 + x) ∷ add_zeros k j
longer_unit (suc i) (x ∷ k) h = λ j. (0 + x) ∷ longer_unit i k (omega arith) j

abbrev unit : ℕ → List ℕ
unit i = set (replicate VARIABLES 0) i 1

unit_sum : (i : ℕ) (k : List ℕ) → i < VARIABLES → length k ≡ VARIABLES → add_exponents (unit i) k ≡ add_exponents (unit_exponents i) k
unit_sum i k h each_variable =
    subst (λ n. add_exponents (set (replicate n 0) i 1) k ≡ add_exponents (unit_exponents i) k) each_variable (longer_unit i k (omega arith))

times_units : (i : ℕ) (f : Polynomial) → i < VARIABLES → AllKeys (λ m. length m ≡ VARIABLES) f
    → times_term add_exponents (unit i, 1) f ≡ times_term add_exponents (unit_exponents i, 1) f
times_units i [] h each_variable = refl
times_units i (t ∷ f) h each_variable = λ j. (unit_sum i t.0 h each_variable.0 j, 1 * t.1) ∷ times_units i f h each_variable.1 j

times_one : (m : List ℕ) (f : Polynomial) → times_term add_exponents (m, 1) f ≡ map_keys (add_exponents m) f
times_one m [] = refl
times_one m (t ∷ f) =
    let one : 1 * t.1 ≡ t.1 = omega arith in
    λ j. (add_exponents m t.0, one j) ∷ times_one m f j

unit_degree : (i : ℕ) → i < VARIABLES → sum (unit i) ≤ 1
unit_degree i h =
    let none : sum (replicate VARIABLES 0) ≡ 0 = refl in
    omega (arith, sum-set (replicate VARIABLES 0) i 1 h, none)

IsMonomial-unit : (i : ℕ) → i < VARIABLES → IsMonomial (unit i)
IsMonomial-unit i h =
    let within : sum (unit i) ≤ MONO_DEGREE = omega (arith, unit_degree i h) in
    record { each_variable = length-set (replicate VARIABLES 0) i 1; bounded = within }

are_monomials : (i : ℕ) (f : Polynomial) → i < VARIABLES → AllKeys (λ m. length m ≡ VARIABLES) f → HasDegree RUN_DEGREE f → AllKeys (AreMonomials (unit i)) f
are_monomials i [] h each_variable degree = tt
are_monomials i (t ∷ f) h each_variable degree =
    let within : sum t.0 ≤ MONO_DEGREE = omega (arith, degree.0) in
    ((IsMonomial-unit i h, record { each_variable = each_variable.0; bounded = within }), are_monomials i f h each_variable.1 degree.1)

multiply_unit : (i : ℕ) (f : Polynomial) → i < VARIABLES → AllKeys (λ m. length m ≡ VARIABLES) f → multiply ((unit i, 1) ∷ []) f ≡ multiply (variable i) f
multiply_unit i f h each_variable = ap (λ (l : Polynomial). l ++ []) (times_units i f h each_variable)

moved : (i : ℕ) (f : Polynomial) → i < VARIABLES → AllKeys (λ m. length m ≡ VARIABLES) f → multiply (variable i) f ≡ map_keys (add_exponents (unit i)) f
moved i f h each_variable = sym (multiply_unit i f h each_variable) ∙ append-nil (times_term add_exponents (unit i, 1) f) ∙ times_one (unit i) f

IsCanonical-times_variable : (i : ℕ) (f : Polynomial) → i < VARIABLES → AllKeys (λ m. length m ≡ VARIABLES) f → HasDegree RUN_DEGREE f → IsCanonical deg_rev_lex f
    → IsCanonical deg_rev_lex (multiply (variable i) f)
IsCanonical-times_variable i f h each_variable degree canonical =
    IsCanonical-shift (unit i) f (multiply (variable i) f) (moved i f h each_variable) (are_monomials i f h each_variable degree) canonical

-- the product by a polynomial that is the variable
pub product_by_variable : (i : ℕ) (v p f : Polynomial) → i < VARIABLES → SamePolynomial v ((set (replicate VARIABLES 0) i 1, 1) ∷ []) → AllKeys (λ m. length m ≡ VARIABLES) f → HasDegree RUN_DEGREE f
    → IsCanonical deg_rev_lex f → IsCanonical deg_rev_lex p → SamePolynomial p (multiply v f) → p ≡ multiply (variable i) f
product_by_variable i v p f h is each_variable degree canonical p_canonical product =
    same_polynomials p (multiply (variable i) f) p_canonical (IsCanonical-times_variable i f h each_variable degree canonical)
    (SameCoefficients-trans product
    (SameCoefficients-trans (SamePolynomial-multiply is (SameCoefficients-refl same_exponents f)) (SameCoefficients-from_eq (multiply_unit i f h each_variable))))

-- the variable has the degree 1
pub variable_degree : (i : ℕ) (v : Polynomial) → i < VARIABLES → IsCanonical deg_rev_lex v → SamePolynomial v ((set (replicate VARIABLES 0) i 1, 1) ∷ []) → degree_of v ≤ 1
variable_degree i v h canonical is =
    let e : v ≡ (unit i, 1) ∷ [] = same_polynomials v ((unit i, 1) ∷ []) canonical (lit< tt, lit< tt, tt, tt) is in
    rw e (omega (arith, unit_degree i h))

HasDegree-moved : (m : List ℕ) (f : Polynomial) → sum m ≤ 1 → HasDegree RUN_DEGREE f → HasDegree MONO_DEGREE (map_keys (add_exponents m) f)
HasDegree-moved m [] h degree = tt
HasDegree-moved m (t ∷ f) h degree = (omega (arith, sum-add_exponents m t.0, degree.0), HasDegree-moved m f h degree.1)

pub HasDegree-times_variable : (i : ℕ) (f : Polynomial) → i < VARIABLES → AllKeys (λ m. length m ≡ VARIABLES) f → HasDegree RUN_DEGREE f → HasDegree MONO_DEGREE (multiply (variable i) f)
HasDegree-times_variable i f h each_variable degree =
    subst (HasDegree MONO_DEGREE) (sym (moved i f h each_variable)) (HasDegree-moved (unit i) f (unit_degree i h) degree)

-- ---- all of them

abbrev with_factor : (ℕ → Bool) → ℕ → Polynomial → Polynomial
with_factor in_sector i c = if in_sector i then multiply (variable i) c else c

unstripped_append : (i : ℕ) (in_sector : ℕ → Bool) (c : List Polynomial) (f : Polynomial)
    → unstripped_from i in_sector (c ++ f ∷ []) ≡ unstripped_from i in_sector c ++ with_factor in_sector (i + length c) f ∷ []
unstripped_append i in_sector [] f = ap (λ k. with_factor in_sector k f ∷ []) (omega arith)
unstripped_append i in_sector (g ∷ c) f =
    let place : suc i + length c ≡ i + suc (length c) = omega arith in
    ap (λ (l : List Polynomial). with_factor in_sector i g ∷ l)
    (unstripped_append (suc i) in_sector c f ∙ ap (λ k. unstripped_from (suc i) in_sector c ++ with_factor in_sector k f ∷ []) place)

pub unstripped_step : (in_sector : ℕ → Bool) (c items new : List Polynomial) (a f : Polynomial) (i place : ℕ) → i < length c → f ≡ get_or c i f → place ≡ i
    → a ≡ (if in_sector place then multiply (variable place) f else f) → new ≡ items ++ a ∷ []
    → items ≡ unstripped in_sector (take i c) → new ≡ unstripped in_sector (take (i + 1) c)
unstripped_step in_sector c items new a f i place h is here made pushed e =
    let long : 0 + length (take i c) ≡ i = omega (arith, length-take-le i c (omega arith)) in
    let value : a ≡ with_factor in_sector (0 + length (take i c)) f = made ∙ ap (λ k. with_factor in_sector k f) (here ∙ sym long) in
    pushed ∙ (λ j. e j ++ value j ∷ []) ∙ sym (unstripped_append 0 in_sector (take i c) f)
    ∙ ap (λ (g : Polynomial). unstripped in_sector (take i c ++ g ∷ [])) is ∙ ap (unstripped in_sector) (sym (take_more c i f h))

pub length-unstripped : (i : ℕ) (in_sector : ℕ → Bool) (c : List Polynomial) → length (unstripped_from i in_sector c) ≡ length c
length-unstripped i in_sector [] = refl
length-unstripped i in_sector (f ∷ c) = ap suc (length-unstripped (suc i) in_sector c)

pub full_exponents : (n degree : ℕ) (f : Polynomial) → IsPolynomial n degree f → AllKeys (λ m. length m ≡ VARIABLES) f
full_exponents n degree f h = AllKeys-weaker (HasVariables n) (λ m. length m ≡ VARIABLES) (λ m v. v.each_variable) f h.variables

with_factor_degree : (in_sector : ℕ → Bool) (n i : ℕ) (f : Polynomial) → i < VARIABLES → IsPolynomial n RUN_DEGREE f → HasDegree MONO_DEGREE (with_factor in_sector i f)
with_factor_degree in_sector n i f h shape =
    elim (in_sector i) as (λ v. HasDegree MONO_DEGREE (if v then multiply (variable i) f else f)) [
      | true ↦ HasDegree-times_variable i f h (full_exponents n RUN_DEGREE f shape) shape.degree_within
      | false ↦ HasDegree-more RUN_DEGREE MONO_DEGREE f (omega arith) shape.degree_within
    ]

with_factor_canonical : (in_sector : ℕ → Bool) (n i : ℕ) (f : Polynomial) → i < VARIABLES → IsPolynomial n RUN_DEGREE f → IsCanonical deg_rev_lex (with_factor in_sector i f)
with_factor_canonical in_sector n i f h shape =
    elim (in_sector i) as (λ v. IsCanonical deg_rev_lex (if v then multiply (variable i) f else f)) [
      | true ↦ IsCanonical-times_variable i f h (full_exponents n RUN_DEGREE f shape) shape.degree_within shape.canonical
      | false ↦ shape.canonical
    ]

-- what holds of each polynomial with its factor holds of the unstripped form
all_unstripped : (P : Polynomial → Type 0) (in_sector : ℕ → Bool) (n i : ℕ) (c : List Polynomial) → i + length c ≤ VARIABLES
    → ((k : ℕ) (f : Polynomial) → k < VARIABLES → IsPolynomial n RUN_DEGREE f → P (with_factor in_sector k f)) → All (IsPolynomial n RUN_DEGREE) c
    → (k : ℕ) (d : Polynomial) → k < length (unstripped_from i in_sector c) → P (get_or (unstripped_from i in_sector c) k d)
all_unstripped P in_sector n i [] few each h k d below = absurd (omega arith)
all_unstripped P in_sector n i (f ∷ c) few each h zero d below = each i f (omega arith) (h 0 f (omega arith))
all_unstripped P in_sector n i (f ∷ c) few each h (suc k) d below =
    all_unstripped P in_sector n (suc i) c (omega arith) each (λ j e within. h (suc j) e (omega arith)) k d (omega arith)

pub unstripped_degrees : (in_sector : ℕ → Bool) (n : ℕ) (c : List Polynomial) → length c ≤ VARIABLES → All (IsPolynomial n RUN_DEGREE) c → All (HasDegree MONO_DEGREE) (unstripped in_sector c)
unstripped_degrees in_sector n c few h = all_unstripped (HasDegree MONO_DEGREE) in_sector n 0 c (omega arith) (with_factor_degree in_sector n) h

pub unstripped_canonical : (in_sector : ℕ → Bool) (n : ℕ) (c : List Polynomial) → length c ≤ VARIABLES → All (IsPolynomial n RUN_DEGREE) c → All (IsCanonical deg_rev_lex) (unstripped in_sector c)
unstripped_canonical in_sector n c few h = all_unstripped (IsCanonical deg_rev_lex) in_sector n 0 c (omega arith) (with_factor_canonical in_sector n) h

-- ---- no power rises

candidate_none_rises : (n degree γ : ℕ) (p : Polynomial) (c : List Polynomial) (b : Polynomial) (α : List ℤ) → n ≤ VARIABLES → IsPolynomial n degree p → p ≢ []
    → IsField n RUN_DEGREE c b → ArePowers n α → IsInModule p (in_sector_of α) c b → NoneRises n γ p (unstripped (in_sector_of α) c) α
candidate_none_rises n degree γ p c b α few shape some field powers meets r r_powers is β counts =
    let in_sector = in_sector_of α in
    let small : length c ≤ VARIABLES = omega (arith, field.count) in
    IsIdentity-DoesNotRise n γ p (unstripped in_sector c) b α r powers.count (omega (arith, length-unstripped 0 in_sector c, field.count))
    (λ j below. unstripped_canonical in_sector n c small field.polynomials j [] below) (not_zero n degree p few shape some) meets r_powers is β counts

pub none_rises_in_module : (n degree γ : ℕ) (p : Polynomial) (α : List ℤ) → n ≤ VARIABLES → IsPolynomial n degree p → p ≢ [] → ArePowers n α → NoneRisesInModule n γ p α
none_rises_in_module n degree γ p α few shape some powers field fits member =
    candidate_none_rises n degree γ p field.c field.b α few shape some fits powers (module_at p α field member)
