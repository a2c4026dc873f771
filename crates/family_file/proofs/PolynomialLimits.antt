-- Polynomials that are read are within their limits.
use Rattle.std.proofs.Common.{◌≡◌, ℕ, zero, suc, ◌+◌, ◌*◌, ◌≤◌, true, false, cond, not, ◌&&◌, List, [], ◌∷◌, ◌++◌, length, sum, replicate, Result, Ok, Err, Option, Some, None, refl, ◌∙◌, subst, arith, ◌%◌}
use Rattle.std.specs.Prelude.{nat_lt, ◌==◌, slice_index_or}
use Rattle.std.proofs.lemmas.List.{length-map}
use Rattle.std.specs.declared.cmp.Ordering.{Ordering}
use Rattle.std.specs.declared.cmp.Ordering.TheVariants.{Less, Equal, Greater}
use Rattle.ibp_field.specs.Arithmetic.{inverse_mod}
use Rattle.ibp_algebra.proofs.ExponentLaws.{length-padded_sum, get_or-padded_sum}
use Rattle.ibp_algebra.proofs.SumOfExponents.{sum-add_exponents}
use Rattle.std.proofs.lemmas.Bool.Decides.{nat_tests}
use Rattle.ibp_algebra.specs.Exponents.{add_exponents, same_exponents, deg_rev_lex}
use Rattle.ibp_algebra.specs.ExponentOrder.{exponents_decide, deg_rev_lex_total, deg_rev_lex_unique}
use Rattle.ibp_algebra.specs.FormalSum.{FormalSum, AllKeys, IsCanonical, scale, times_term, with_term, insert_term, placed, normal_form}
use Rattle.ibp_algebra.specs.Polynomial.{Polynomial, SamePolynomial, multiply, degree_of}
use Rattle.ibp_algebra.proofs.Degrees.{AllKeys-degree_of}
use Rattle.ibp_algebra.proofs.NormalForm.{SameCoefficients-normal_form, IsCanonical-normal_form, AllKeys-normal_form, AllKeys-with_term, IsCanonical-with_term}
use Rattle.ibp_algebra.proofs.Canonical.{same_canonical}
use Rattle.ibp_algebra.proofs.SumLaws.{SameCoefficients-sym, SameCoefficients-trans}
use Rattle.ibp_algebra.proofs.ZeroDivisors.{AllKeys-append, AllKeys-scale}
use Rattle.mono_order.specs.declared.limits.TheConstants.{VARIABLES}
use Rattle.poly_text.specs.declared.fault.TextFault.{TextFault}
use Rattle.poly_text.specs.Tree.{Tree}
use Rattle.poly_text.specs.Value.{constant, constant_term, is_zero, within_terms, sum_of, difference_of, product_of, quotient_of, negative_of, then_value, both_values, power_of, known_value, value}
use Rattle.sparse_poly.specs.declared.limits.TheConstants.{DEGREE_LIMIT, TERM_LIMIT}
use Rattle.family.specs.Shapes.{HasVariables, IsPolynomial}
use Rattle.family_file.proofs.Binds.{unless_ok}
use Rattle.ibp_base.proofs.Tests.{same_ok}

-- a polynomial of a file
pub record IsRead (n : ℕ) (p : Polynomial) : Type 0 where
  pub polynomial : IsPolynomial n DEGREE_LIMIT p
  pub few : length p ≤ TERM_LIMIT

-- ---- lengths

with_term_length : {K : Type 0} (term : K × ℕ) (f : FormalSum K) → length (with_term term f) ≤ length f + 1
with_term_length {K} term f =
    elim (term.1 % 2147483647 == 0) as (λ b. length (cond b f ((term.0, term.1 % 2147483647) ∷ f)) ≤ length f + 1) [
      | true ↦ omega arith
      | false ↦ omega arith
    ]

placed_length : (r : Ordering) (term first : List ℕ × ℕ) (others after : Polynomial) → length after ≤ length others + 1 → length (placed r term first others after) ≤ length others + 2
placed_length Less term first others after h = omega arith
placed_length Equal term first others after h = omega (arith, with_term_length (first.0, term.1 + first.1) others)
placed_length Greater term first others after h = omega (arith, with_term_length term (first ∷ others))

insert_length : (term : List ℕ × ℕ) (f : Polynomial) → length (insert_term deg_rev_lex term f) ≤ length f + 1
insert_length term [] = with_term_length term []
insert_length term (first ∷ others) =
    omega (arith, placed_length (deg_rev_lex term.0 first.0) term first others (insert_term deg_rev_lex term others) (insert_length term others))

pub normal_form_length : (f : Polynomial) → length (normal_form deg_rev_lex f) ≤ length f
normal_form_length [] = omega arith
normal_form_length (term ∷ terms) = omega (arith, insert_length term (normal_form deg_rev_lex terms), normal_form_length terms)

scale_length : (c : ℕ) (f : Polynomial) → length (scale c f) ≡ length f
scale_length c f = length-map f (λ term. (term.0, c * term.1))

-- ---- keys

abbrev pub Small : List ℕ → Type 0
Small m = sum m ≤ DEGREE_LIMIT

times_keys : (P Q R : List ℕ → Type 0) → ((a b : List ℕ) → P a → Q b → R (add_exponents a b)) → (k : List ℕ) (c : ℕ) (g : Polynomial) → P k → AllKeys Q g → AllKeys R (times_term add_exponents (k, c) g)
times_keys P Q R both k c [] p h = tt
times_keys P Q R both k c (t ∷ g) p h = (both k t.0 p h.0, times_keys P Q R both k c g p h.1)

product_keys : (P Q R : List ℕ → Type 0) → ((a b : List ℕ) → P a → Q b → R (add_exponents a b)) → (f g : Polynomial) → AllKeys P f → AllKeys Q g → AllKeys R (multiply f g)
product_keys P Q R both [] g h k = tt
product_keys P Q R both (t ∷ f) g h k =
    AllKeys-append R (times_term add_exponents t g) (multiply f g) (times_keys P Q R both t.0 t.1 g h.0 k) (product_keys P Q R both f g h.1 k)

pub joined_variables : (n : ℕ) (a b : List ℕ) → HasVariables n a → HasVariables n b → HasVariables n (add_exponents a b)
joined_variables n a b h k = record {
  each_variable = length-padded_sum ◌+◌ VARIABLES a b h.each_variable k.each_variable;
  none_beyond = λ i le.
      get_or-padded_sum ◌+◌ 0 (λ x. omega arith) (λ x. omega arith) a b i
      ∙ (λ j. h.none_beyond i le j + k.none_beyond i le j);
}

nothing_left : (f : Polynomial) → AllKeys Small (multiply f [])
nothing_left [] = tt
nothing_left (t ∷ f) = nothing_left f

joined_degrees : (d e : ℕ) → d + e ≤ DEGREE_LIMIT → (a b : List ℕ) → sum a ≤ d → sum b ≤ e → Small (add_exponents a b)
joined_degrees d e fits a b h k = omega (arith, sum-add_exponents a b)

product_small : (f g : Polynomial) → (not (is_zero f) && not (is_zero g) && nat_lt DEGREE_LIMIT (degree_of f + degree_of g)) ≡ false → AllKeys Small (multiply f g)
product_small [] g h = tt
product_small (t ∷ f) [] h = nothing_left (t ∷ f)
product_small (t ∷ f) (u ∷ g) h =
    let fits : degree_of (t ∷ f) + degree_of (u ∷ g) ≤ DEGREE_LIMIT = grind (arith, nat_tests, h) in
    product_keys (λ m. sum m ≤ degree_of (t ∷ f)) (λ m. sum m ≤ degree_of (u ∷ g)) Small (joined_degrees (degree_of (t ∷ f)) (degree_of (u ∷ g)) fits) (t ∷ f) (u ∷ g) (AllKeys-degree_of (t ∷ f)) (AllKeys-degree_of (u ∷ g))

-- ---- values

pub read_normal : (n : ℕ) (f : Polynomial) → AllKeys (HasVariables n) f → AllKeys Small f → length (normal_form deg_rev_lex f) ≤ TERM_LIMIT → IsRead n (normal_form deg_rev_lex f)
read_normal n f variables small few = record {
  polynomial = record {
    canonical = IsCanonical-normal_form deg_rev_lex deg_rev_lex_total deg_rev_lex_unique f;
    variables = AllKeys-normal_form deg_rev_lex deg_rev_lex_total deg_rev_lex_unique (HasVariables n) f variables;
    degree_within = AllKeys-normal_form deg_rev_lex deg_rev_lex_total deg_rev_lex_unique Small f small;
  };
  few = few;
}

read_scaled : (n c : ℕ) (f : Polynomial) → IsRead n f → IsRead n (normal_form deg_rev_lex (scale c f))
read_scaled n c f h =
    let fewer = normal_form_length (scale c f) in
    let same = scale_length c f in
    read_normal n (scale c f) (AllKeys-scale (HasVariables n) c f h.polynomial.variables) (AllKeys-scale Small c f h.polynomial.degree_within) (omega (arith, fewer, same, h.few))

within : (n at : ℕ) (f p : Polynomial) → AllKeys (HasVariables n) f → AllKeys Small f → within_terms at (normal_form deg_rev_lex f) ≡ Ok p → IsRead n p
within n at f p variables small h =
    let found = unless_ok (nat_lt TERM_LIMIT (length (normal_form deg_rev_lex f))) (Ok (normal_form deg_rev_lex f)) (TextFault.TermsOver at) p h in
    let few : length (normal_form deg_rev_lex f) ≤ TERM_LIMIT = grind (arith, nat_tests, found.0) in
    subst (IsRead n) (same_ok _ p found.1) (read_normal n f variables small few)

read_sum : (n at : ℕ) (f g p : Polynomial) → IsRead n f → IsRead n g → sum_of at f g ≡ Ok p → IsRead n p
read_sum n at f g p h k e =
    within n at (f ++ g) p (AllKeys-append (HasVariables n) f g h.polynomial.variables k.polynomial.variables) (AllKeys-append Small f g h.polynomial.degree_within k.polynomial.degree_within) e

read_difference : (n at : ℕ) (f g p : Polynomial) → IsRead n f → IsRead n g → difference_of at f g ≡ Ok p → IsRead n p
read_difference n at f g p h k e =
    within n at (f ++ scale 2147483646 g) p
    (AllKeys-append (HasVariables n) f (scale 2147483646 g) h.polynomial.variables (AllKeys-scale (HasVariables n) 2147483646 g k.polynomial.variables))
    (AllKeys-append Small f (scale 2147483646 g) h.polynomial.degree_within (AllKeys-scale Small 2147483646 g k.polynomial.degree_within)) e

read_product : (n at : ℕ) (f g p : Polynomial) → IsRead n f → IsRead n g → product_of at f g ≡ Ok p → IsRead n p
read_product n at f g p h k e =
    let found = unless_ok (not (is_zero f) && not (is_zero g) && nat_lt DEGREE_LIMIT (degree_of f + degree_of g)) (within_terms at (normal_form deg_rev_lex (multiply f g))) (TextFault.DegreeOver at) p e in
    within n at (multiply f g) p
    (product_keys (HasVariables n) (HasVariables n) (HasVariables n) (joined_variables n) f g h.polynomial.variables k.polynomial.variables)
    (product_small f g found.0) found.1

read_quotient : (n at : ℕ) (f g p : Polynomial) → IsRead n f → quotient_of at f g ≡ Ok p → IsRead n p
read_quotient n at f g p h e =
    let constant_divisor = unless_ok (nat_lt 0 (degree_of g)) (cond (is_zero g) (Err (TextFault.ZeroDivisor at)) (Ok (normal_form deg_rev_lex (scale (inverse_mod (constant_term g)) f)))) (TextFault.NotConstant at) p e in
    let not_zero = unless_ok (is_zero g) (Ok (normal_form deg_rev_lex (scale (inverse_mod (constant_term g)) f))) (TextFault.ZeroDivisor at) p constant_divisor.1 in
    subst (IsRead n) (same_ok _ p not_zero.1) (read_scaled n (inverse_mod (constant_term g)) f h)

pub zeros_at : (k i : ℕ) → ◌≡◌ {A = ℕ} (slice_index_or (replicate k 0) i 0) 0
zeros_at zero i = refl
zeros_at (suc k) zero = refl
zeros_at (suc k) (suc i) = zeros_at k i

pub no_exponents : (n : ℕ) → HasVariables n (replicate VARIABLES 0)
no_exponents n = record { each_variable = refl; none_beyond = λ i le. zeros_at VARIABLES i }

no_degree : sum (replicate VARIABLES 0) ≤ DEGREE_LIMIT
no_degree = let none : sum (replicate VARIABLES 0) ≡ 0 = refl in omega (arith, none)

pub read_constant : (n c : ℕ) → IsRead n (constant c)
read_constant n c = record {
  polynomial = record {
    canonical = IsCanonical-with_term deg_rev_lex (replicate {A = ℕ} VARIABLES 0, c) [] tt tt;
    variables = AllKeys-with_term (HasVariables n) (replicate {A = ℕ} VARIABLES 0, c) [] (no_exponents n) tt;
    degree_within = AllKeys-with_term Small (replicate {A = ℕ} VARIABLES 0, c) [] no_degree tt;
  };
  few = omega (arith, with_term_length (replicate {A = ℕ} VARIABLES 0, c) []);
}

after_one : (n : ℕ) (r : Result Polynomial TextFault) (go : Polynomial → Result Polynomial TextFault) (p : Polynomial) → ((f : Polynomial) → r ≡ Ok f → IsRead n f)
    → ((f : Polynomial) → IsRead n f → go f ≡ Ok p → IsRead n p) → then_value r go ≡ Ok p → IsRead n p
after_one n (Ok f) go p each last e = last f (each f refl) e
after_one n (Err fault) go p each last e = absurd (cc)

read_power : (n at : ℕ) (f : Polynomial) (k : ℕ) (p : Polynomial) → IsRead n f → power_of at f k ≡ Ok p → IsRead n p
read_power n at f zero p h e = subst (IsRead n) (same_ok _ p e) (read_constant n 1)
read_power n at f (suc k) p h e = after_one n (power_of at f k) (λ g. product_of at g f) p (λ g so_far. read_power n at f k g h so_far) (λ g read last. read_product n at g f p read h last) e

-- what each name stands for is a polynomial in the variables
abbrev pub NamesAre : ℕ → (List ℕ → Option Polynomial) → Type 0
NamesAre n names = (word : List ℕ) (p : Polynomial) → names word ≡ Some p → IsRead n p

known_read : (n at : ℕ) (o : Option Polynomial) (p : Polynomial) → ((f : Polynomial) → o ≡ Some f → IsRead n f) → known_value at o ≡ Ok p → IsRead n p
known_read n at (Some f) p each e = subst (IsRead n) (same_ok _ p e) (each f refl)
known_read n at None p each e = absurd (cc)

after_two : (n : ℕ) (operate : Polynomial → Polynomial → Result Polynomial TextFault) (r s : Result Polynomial TextFault) (p : Polynomial)
    → ((f : Polynomial) → r ≡ Ok f → IsRead n f) → ((g : Polynomial) → s ≡ Ok g → IsRead n g)
    → ((f g : Polynomial) → IsRead n f → IsRead n g → operate f g ≡ Ok p → IsRead n p) → both_values operate r s ≡ Ok p → IsRead n p
after_two n operate (Ok f) (Ok g) p left right last e = last f g (left f refl) (right g refl) e
after_two n operate (Ok f) (Err fault) p left right last e = absurd (cc)
after_two n operate (Err fault) s p left right last e = absurd (cc)

pub value_read : (n : ℕ) (names : List ℕ → Option Polynomial) → NamesAre n names → (t : Tree) (p : Polynomial) → value names t ≡ Ok p → IsRead n p
value_read n names each (Tree.whole k) p e = subst (IsRead n) (same_ok _ p e) (read_constant n k)
value_read n names each (Tree.name word at) p e = known_read n at (names word) p (each word) e
value_read n names each (Tree.negative t) p e =
    after_one n (value names t) (λ f. Ok (negative_of f)) p (value_read n names each t) (λ f h last. subst (IsRead n) (same_ok _ p last) (read_scaled n 2147483646 f h)) e
value_read n names each (Tree.plus t at u) p e = after_two n (sum_of at) (value names t) (value names u) p (value_read n names each t) (value_read n names each u) (λ f g h k last. read_sum n at f g p h k last) e
value_read n names each (Tree.minus t at u) p e = after_two n (difference_of at) (value names t) (value names u) p (value_read n names each t) (value_read n names each u) (λ f g h k last. read_difference n at f g p h k last) e
value_read n names each (Tree.times t at u) p e = after_two n (product_of at) (value names t) (value names u) p (value_read n names each t) (value_read n names each u) (λ f g h k last. read_product n at f g p h k last) e
value_read n names each (Tree.over t at u) p e = after_two n (quotient_of at) (value names t) (value names u) p (value_read n names each t) (value_read n names each u) (λ f g h k last. read_quotient n at f g p h last) e
value_read n names each (Tree.power t at k) p e = after_one n (value names t) (λ f. power_of at f k) p (value_read n names each t) (λ f h last. read_power n at f k p h last) e

-- the canonical list with the coefficients of the terms is their normal form
pub sum_is : (p terms : Polynomial) → IsCanonical deg_rev_lex p → SamePolynomial p terms → p ≡ normal_form deg_rev_lex terms
sum_is p terms canonical same =
    same_canonical deg_rev_lex deg_rev_lex_total same_exponents exponents_decide deg_rev_lex_unique p (normal_form deg_rev_lex terms) canonical (IsCanonical-normal_form deg_rev_lex deg_rev_lex_total deg_rev_lex_unique terms)
    (SameCoefficients-trans same (SameCoefficients-sym (SameCoefficients-normal_form deg_rev_lex deg_rev_lex_total deg_rev_lex_unique same_exponents exponents_decide terms)))
