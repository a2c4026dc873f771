-- What the tests for a symmetry tell.
use Rattle.std.proofs.Common.{◌≡◌, ℕ, zero, suc, ◌<◌, ◌≤◌, Bool, true, false, true≢false, ◌&&◌, List, [], ◌∷◌, ◌++◌, length, get_or, drop, refl, sym, ap, ◌∙◌, subst, arith}
use Rattle.std.specs.Prelude.{◌==◌, nat_eq, nat_le}
use Rattle.std.specs.Bool.{Decides}
use Rattle.std.specs.List.{All, AllByRecursion, list_all}
use Rattle.std.proofs.lemmas.Bool.Decides.{nat_tests}
use Rattle.std.proofs.lemmas.List.{get_or_default}
use Rattle.std.proofs.lemmas.List.Sums.{AllPass-from_list_all, list_all-from_AllPass}
use Rattle.ibp_base.proofs.Members.{All-each}
use Rattle.ibp_base.proofs.Tests.{both_true}
use Rattle.ibp_algebra.specs.Exponents.{deg_rev_lex}
use Rattle.ibp_algebra.specs.FormalSum.{IsCanonical}
use Rattle.ibp_algebra.specs.Polynomial.{Polynomial, SamePolynomial, permute}
use Rattle.ibp_algebra.proofs.PolynomialLaws.{same_polynomials}
use Rattle.ibp_algebra.proofs.SumLaws.{SameCoefficients-sym, SameCoefficients-trans}
use Rattle.mono_order.specs.declared.limits.TheConstants.{VARIABLES}
use Rattle.sector_lattice.proofs.Listed.{listed_test}
use Rattle.sector_lattice.specs.Sectors.{IsSubsector}
use Rattle.sector_lattice.specs.declared.sector.Sector.{Sector}
use Rattle.sparse_poly.specs.Equality.{one_polynomial, one_polynomial-Decides}
use Rattle.family.specs.Conditions.{is_zero_sector}
use Rattle.family.specs.FamilyData.{FamilyData}
use Rattle.family.specs.Name.{is_between}
use Rattle.family.specs.Permutation.{are_distinct, identity, is_permutation}
use Rattle.symmetry_fold.specs.Images.{image_sector}
use Rattle.symmetry_fold.specs.Symmetries.{in_all_variables, IsSymmetry}
use Rattle.symmetry_fold.proofs.ImageSectors.{image_subsector}

-- ---- the numbers of a permutation

pub as_many : (n : ℕ) (numbers : List ℕ) → is_permutation n numbers ≡ true → length numbers ≡ n
as_many n numbers h =
    let sides = both_true (length numbers == n) (list_all (is_between 1 n) numbers && are_distinct nat_eq numbers) h in
    grind (arith, nat_tests, sides.0)

abbrev IsVariable : ℕ → Type 0
IsVariable number = (0 < number) × (number ≤ VARIABLES)

is_variable : (n number : ℕ) → n ≤ VARIABLES → is_between 1 n number ≡ true → IsVariable number
is_variable n number few h =
    let sides = both_true (nat_le 1 number) (nat_le number n) h in
    (grind (arith, nat_tests, sides.0), (let most : number ≤ n = grind (arith, nat_tests, sides.1) in omega (arith, most, few)))

each_variable : (n : ℕ) (numbers : List ℕ) → n ≤ VARIABLES → list_all (is_between 1 n) numbers ≡ true → AllByRecursion IsVariable numbers
each_variable n [] few h = tt
each_variable n (x ∷ xs) few h =
    let sides = both_true (is_between 1 n x) (list_all (is_between 1 n) xs) h in
    (is_variable n x few sides.0, each_variable n xs few sides.1)

joined : (xs ys : List ℕ) → AllByRecursion IsVariable xs → AllByRecursion IsVariable ys → AllByRecursion IsVariable (xs ++ ys)
joined [] ys one other = other
joined (x ∷ xs) ys one other = (one.0, joined xs ys one.1 other)

dropped : (k : ℕ) (xs : List ℕ) → AllByRecursion IsVariable xs → AllByRecursion IsVariable (drop k xs)
dropped zero xs h = h
dropped (suc k) [] h = tt
dropped (suc k) (x ∷ xs) h = dropped k xs h.1

pub are_variables : (n : ℕ) (numbers : List ℕ) → n ≤ VARIABLES → is_permutation n numbers ≡ true → All (λ number. (0 < number) × (number ≤ VARIABLES)) (in_all_variables numbers)
are_variables n numbers few h =
    let sides = both_true (length numbers == n) (list_all (is_between 1 n) numbers && are_distinct nat_eq numbers) h in
    let within = both_true (list_all (is_between 1 n) numbers) (are_distinct nat_eq numbers) sides.1 in
    All-each IsVariable (in_all_variables numbers) (joined numbers (drop (length numbers) (identity VARIABLES)) (each_variable n numbers few within.0)
    (dropped (length numbers) (identity VARIABLES) (each_variable VARIABLES (identity VARIABLES) (omega arith) refl)))

-- ---- zero sectors

through : (a b c : ℕ) → IsSubsector a b → IsSubsector b c → IsSubsector a c
through a b c one other = record { each = λ i member. other.each i (one.each i member) }

itself : (a : ℕ) → IsSubsector a a
itself a = record { each = λ i member. member }

-- the images of all zero sectors are zero where those of the listed ones are
pub zero_images : (listed : List Sector) (n : ℕ) (sigma : List ℕ)
    → Decides (list_all (λ sector. is_zero_sector listed (image_sector n sigma sector.0)) listed) ((sector : ℕ) → is_zero_sector listed sector ≡ true → is_zero_sector listed (image_sector n sigma sector) ≡ true)
zero_images listed n sigma =
    let test : Sector → Bool = λ sector. is_zero_sector listed (image_sector n sigma sector.0) in (
      (λ passed sector is_zero.
          let found = (listed_test sector listed).0 is_zero in
          let image_zero : test found.1 ≡ true = ap test (sym found.3) ∙ AllPass-from_list_all test listed passed found.0 found.1 found.2 in
          let above = (listed_test (image_sector n sigma found.1.0) listed).0 image_zero in
          (listed_test (image_sector n sigma sector) listed).1
          (above.0, above.1, above.2, above.3, through _ _ _ (image_subsector n sigma sector found.1.0 found.4) above.4)),
      (λ each. list_all-from_AllPass test listed (λ k d below.
          each (get_or listed k d).0 ((listed_test (get_or listed k d).0 listed).1 (k, get_or listed k d, below, refl_at k d below, itself _)))),
    )
  where
    refl_at : (k : ℕ) (d : Sector) → k < length listed → get_or listed k (get_or listed k d) ≡ get_or listed k d
    refl_at k d below = get_or_default listed k (get_or listed k d) d below

-- ---- the polynomial

-- a canonical polynomial with the coefficients of the permuted one is P where this one is the same as P
pub keeps : (moved p permuted : Polynomial) (kept : Bool) → IsCanonical deg_rev_lex moved → IsCanonical deg_rev_lex p → SamePolynomial moved permuted → kept ≡ one_polynomial moved p → Decides kept (SamePolynomial permuted p)
keeps moved p permuted kept one other same is = (
  (λ same_list. subst (λ (q : Polynomial). SamePolynomial permuted q) ((one_polynomial-Decides moved p).0 (sym is ∙ same_list)) (SameCoefficients-sym same)),
  (λ stays. is ∙ (one_polynomial-Decides moved p).1 (same_polynomials moved p one other (SameCoefficients-trans same stays))),
)

-- ---- both tests

pub broken_zeros : (family : FamilyData) (sigma : List ℕ) → list_all (λ sector. is_zero_sector family.zero (image_sector family.n sigma sector.0)) family.zero ≡ false → IsSymmetry family sigma → ⊥
broken_zeros family sigma fails is = true≢false (sym ((zero_images family.zero family.n sigma).1 is.zero_sectors) ∙ fails)

pub by_polynomial : (family : FamilyData) (sigma : List ℕ) (kept : Bool) → list_all (λ sector. is_zero_sector family.zero (image_sector family.n sigma sector.0)) family.zero ≡ true
    → Decides kept (SamePolynomial (permute (in_all_variables sigma) family.baikov) family.baikov) → Decides kept (IsSymmetry family sigma)
by_polynomial family sigma kept passed h = (
  (λ is. record { polynomial = h.0 is; zero_sectors = (zero_images family.zero family.n sigma).0 passed }),
  (λ symmetric. h.1 symmetric.polynomial),
)
