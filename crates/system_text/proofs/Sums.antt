-- What sums of terms that were read are.
use Rattle.std.proofs.Common.{◌≡◌, ℕ, zero, suc, ◌≤◌, List, [], ◌∷◌, ◌++◌, sum, replicate, refl, sym, ap, subst, arith}
use Rattle.std.specs.Prelude.{codes, decimal, slice_index_or}
use Rattle.std.specs.Ordering.{eq_by_cmp}
use Rattle.std.specs.List.{AllByRecursion}
use Rattle.ibp_algebra.specs.Exponents.{same_exponents, deg_rev_lex}
use Rattle.ibp_algebra.specs.ExponentOrder.{exponents_decide, deg_rev_lex_total, deg_rev_lex_unique}
use Rattle.ibp_algebra.specs.FormalSum.{AllKeys, IsCanonical, normal_form}
use Rattle.ibp_algebra.specs.Polynomial.{Polynomial, SamePolynomial}
use Rattle.ibp_algebra.proofs.Canonical.{same_canonical}
use Rattle.ibp_algebra.proofs.NormalForm.{SameCoefficients-normal_form, IsCanonical-normal_form, AllKeys-normal_form}
use Rattle.ibp_algebra.proofs.SumLaws.{SameCoefficients-sym, SameCoefficients-trans}
use Rattle.mono_order.specs.declared.limits.TheConstants.{RUN_DEGREE, VARIABLES}
use Rattle.sector_lattice.specs.Sectors.{integral_cmp}
use Rattle.sector_lattice.specs.Orders.{integral_cmp_total, same_integrals, integrals_decide}
use Rattle.sparse_rows.specs.Rows.{IntegralSum, SameRow}
use Rattle.family.specs.Shapes.{HasVariables, IsPolynomial}
use Rattle.std.proofs.lemmas.Fmt.{decimal-digits_value}
use Rattle.line_reader.proofs.Digits.{own}
use Rattle.line_reader.specs.Entries.{separated}
use Rattle.system_text.specs.Texts.{poly_text, poly_term_text}
use Rattle.system_text.specs.Polynomials.{IsPolyTerm}
use Rattle.system_text.specs.Integrals.{IsRowTerm}
use Rattle.system_text.specs.SystemValues.{IsIntegral, IsRow}

poly_is : (p terms : Polynomial) → IsCanonical deg_rev_lex p → SamePolynomial p terms → p ≡ normal_form deg_rev_lex terms
poly_is p terms canonical same =
    same_canonical deg_rev_lex deg_rev_lex_total same_exponents exponents_decide deg_rev_lex_unique p (normal_form deg_rev_lex terms) canonical (IsCanonical-normal_form deg_rev_lex deg_rev_lex_total deg_rev_lex_unique terms)
    (SameCoefficients-trans same (SameCoefficients-sym (SameCoefficients-normal_form deg_rev_lex deg_rev_lex_total deg_rev_lex_unique same_exponents exponents_decide terms)))

row_is : (row terms : IntegralSum) → IsCanonical integral_cmp row → SameRow row terms → row ≡ normal_form integral_cmp terms
row_is row terms canonical same =
    same_canonical integral_cmp integral_cmp_total (eq_by_cmp integral_cmp) integrals_decide same_integrals row (normal_form integral_cmp terms) canonical (IsCanonical-normal_form integral_cmp integral_cmp_total same_integrals terms)
    (SameCoefficients-trans same (SameCoefficients-sym (SameCoefficients-normal_form integral_cmp integral_cmp_total same_integrals (eq_by_cmp integral_cmp) integrals_decide terms)))

terms_variables : (n : ℕ) (terms : Polynomial) → AllByRecursion (IsPolyTerm n) terms → AllKeys (HasVariables n) terms
terms_variables n [] are = tt
terms_variables n (t ∷ terms) are = (are.0.monomial.variables, terms_variables n terms are.1)

terms_degrees : (n : ℕ) (terms : Polynomial) → AllByRecursion (IsPolyTerm n) terms → AllKeys (λ m. sum m ≤ RUN_DEGREE) terms
terms_degrees n [] are = tt
terms_degrees n (t ∷ terms) are = (are.0.monomial.degree, terms_degrees n terms are.1)

-- the sum of terms within the limits is within them
pub poly_found : (n : ℕ) (p terms : Polynomial) → IsCanonical deg_rev_lex p → SamePolynomial p terms → AllByRecursion (IsPolyTerm n) terms → IsPolynomial n RUN_DEGREE p
poly_found n p terms canonical same are =
    let is = sym (poly_is p terms canonical same) in
    record {
      canonical = canonical;
      variables = subst (λ (q : Polynomial). AllKeys (HasVariables n) q) is (AllKeys-normal_form deg_rev_lex deg_rev_lex_total deg_rev_lex_unique (HasVariables n) terms (terms_variables n terms are));
      degree_within = subst (λ (q : Polynomial). AllKeys (λ m. sum m ≤ RUN_DEGREE) q) is
          (AllKeys-normal_form deg_rev_lex deg_rev_lex_total deg_rev_lex_unique (λ m. sum m ≤ RUN_DEGREE) terms (terms_degrees n terms are));
    }

pub each_term : (n : ℕ) (p : Polynomial) → IsCanonical deg_rev_lex p → AllKeys (HasVariables n) p → AllKeys (λ m. sum m ≤ RUN_DEGREE) p → AllByRecursion (IsPolyTerm n) p
each_term n [] canonical variables degrees = tt
each_term n (t ∷ p) canonical variables degrees = (
  record { monomial = record { variables = variables.0; degree = degrees.0 }; residue = omega (arith, canonical.1) },
  each_term n p canonical.3 variables.1 degrees.1,
)

-- the terms whose texts a polynomial's text is: those of the polynomial, or one zero
pub record AsTerms (n : ℕ) (p : Polynomial) : Type 0 where
  pub x : List ℕ × ℕ
  pub xs : Polynomial
  pub first : IsPolyTerm n x
  pub others : AllByRecursion (IsPolyTerm n) xs
  pub text : poly_text p ≡ separated poly_term_text (codes " + ") x xs
  pub sum_is : (q : Polynomial) → IsCanonical deg_rev_lex q → SamePolynomial q (x ∷ xs) → q ≡ p

zeros_at : (k i : ℕ) → ◌≡◌ {A = ℕ} (slice_index_or (replicate k 0) i 0) 0
zeros_at zero i = refl
zeros_at (suc k) zero = refl
zeros_at (suc k) (suc i) = zeros_at k i

zero_term : (n : ℕ) → IsPolyTerm n (replicate VARIABLES 0, 0)
zero_term n =
    record {
      monomial = record {
        variables = record { each_variable = refl; none_beyond = λ i le. zeros_at VARIABLES i };
        degree = let none : sum (replicate VARIABLES 0) ≡ 0 = refl in omega (arith, none);
      };
      residue = omega arith;
    }

decimal_zero : decimal 0 ≡ 48 ∷ []
decimal_zero = decimal-digits_value own (48 ∷ []) refl (omega arith) (λ _. refl) (omega arith)

pub as_terms : (n : ℕ) (p : Polynomial) → IsPolynomial n RUN_DEGREE p → AsTerms n p
as_terms n [] is =
    record {
      x = (replicate VARIABLES 0, 0);
      xs = [];
      first = zero_term n;
      others = tt;
      text = ap (λ (bytes : List ℕ). (bytes ++ []) ++ []) (sym decimal_zero);
      sum_is = λ q canonical same. poly_is q ((replicate VARIABLES 0, 0) ∷ []) canonical same;
    }
as_terms n (t ∷ p) is =
    let each = each_term n (t ∷ p) is.canonical is.variables is.degree_within in
    record {
      x = t;
      xs = p;
      first = each.0;
      others = each.1;
      text = refl;
      sum_is = λ q canonical same. same_canonical deg_rev_lex deg_rev_lex_total same_exponents exponents_decide deg_rev_lex_unique q (t ∷ p) canonical is.canonical same;
    }

row_keys : (n : ℕ) (terms : IntegralSum) → AllByRecursion (IsRowTerm n) terms → AllKeys (IsIntegral n) terms
row_keys n [] are = tt
row_keys n (t ∷ terms) are = (are.0.integral, row_keys n terms are.1)

pub row_found : (n : ℕ) (row terms : IntegralSum) → IsCanonical integral_cmp row → SameRow row terms → AllByRecursion (IsRowTerm n) terms → IsRow n row
row_found n row terms canonical same are =
    record {
      canonical = canonical;
      integrals = subst (λ (q : IntegralSum). AllKeys (IsIntegral n) q) (sym (row_is row terms canonical same))
          (AllKeys-normal_form integral_cmp integral_cmp_total same_integrals (IsIntegral n) terms (row_keys n terms are));
    }

pub each_row_term : (n : ℕ) (row : IntegralSum) → IsCanonical integral_cmp row → AllKeys (IsIntegral n) row → AllByRecursion (IsRowTerm n) row
each_row_term n [] canonical keys = tt
each_row_term n (t ∷ row) canonical keys = (record { integral = keys.0; residue = omega (arith, canonical.1) }, each_row_term n row canonical.3 keys.1)

pub same_rows : (row other terms : IntegralSum) → IsCanonical integral_cmp row → IsCanonical integral_cmp other → SameRow other terms → terms ≡ row → other ≡ row
same_rows row other terms first second same is =
    same_canonical integral_cmp integral_cmp_total (eq_by_cmp integral_cmp) integrals_decide same_integrals other row second first
    (subst (λ (t : IntegralSum). SameRow other t) is same)
