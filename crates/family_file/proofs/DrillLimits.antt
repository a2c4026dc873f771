-- The family of a drill is within the limits.
use Rattle.std.proofs.Common.{◌≡◌, ◌≢◌, ℕ, zero, suc, ◌+◌, ◌-◌, ◌*◌, ◌%◌, ◌<◌, ◌≤◌, ◌^◌, List, [], ◌∷◌, ◌++◌, map, length, sum, replicate, None, refl, sym, ◌∙◌, ap, subst, arith}
use Rattle.std.specs.Prelude.{ℤ, pos, neg_ℤ, slice_set}
use Rattle.std.specs.List.{All, AllByRecursion, IsDistinct}
use Rattle.std.specs.Int.Signed.{le_z_yes}
use Rattle.ibp_base.proofs.Members.{All-each}
use Rattle.ibp_field.specs.Arithmetic.{mul_mod, neg_mod}
use Rattle.ibp_algebra.specs.Exponents.{add_exponents, deg_rev_lex, same_exponents}
use Rattle.ibp_algebra.specs.ExponentOrder.{exponents_decide, deg_rev_lex_total, deg_rev_lex_unique}
use Rattle.ibp_algebra.specs.FormalSum.{AllKeys, normal_form, coefficient}
use Rattle.ibp_algebra.specs.Laurent.{same_powers}
use Rattle.ibp_algebra.specs.Polynomial.{Polynomial, coefficient_at}
use Rattle.ibp_algebra.proofs.NormalForm.{SameCoefficients-normal_form}
use Rattle.ibp_algebra.proofs.SumOfExponents.{sum-add_exponents}
use Rattle.ibp_algebra.proofs.ZeroDivisors.{AllKeys-append}
use Rattle.mono_order.specs.declared.limits.TheConstants.{VARIABLES}
use Rattle.sparse_poly.specs.declared.limits.TheConstants.{DEGREE_LIMIT, TERM_LIMIT}
use Rattle.family.specs.Caps.{have_one_sector}
use Rattle.family.specs.FamilyData.{FamilyData}
use Rattle.family.specs.Shapes.{ArePowers, HasVariables}
use Rattle.family.specs.Limits.{FamilyLimits}
use Rattle.family.specs.Within.{DataWithin}
use Rattle.family.specs.declared.parts.SectorCaps.{SectorCaps}
use Rattle.family.specs.declared.parts.Selection.TheVariants.{Order}
use Rattle.sector_lattice.specs.declared.sector.Sector.{Sector}
use Rattle.family_file.specs.declared.limits.TheConstants.{DRILL_LIMIT}
use Rattle.family_file.specs.Drill.{box_terms, constant, drill_data, drill_polynomial, drill_targets, drill_zero, first_form, powers, product_by, second_form, third_form, z}
use Rattle.family_file.proofs.PolynomialLimits.{IsRead, Small, joined_variables, no_exponents, normal_form_length, read_normal}
use Rattle.family_file.proofs.CapsLimits.{distinct_by}
use Rattle.family_file.proofs.TargetLimits.{IsPower, highs, lows}
use Rattle.family_file.proofs.TextLimits.{variable_exponents}

-- ---- the polynomial

-- a term of degree one at most, in four variables
pub record IsLinear (m : List ℕ) : Type 0 where
  pub variables : HasVariables 4 m
  pub low : sum m ≤ 1

pub record IsQuadratic (m : List ℕ) : Type 0 where
  pub variables : HasVariables 4 m
  pub low : sum m ≤ 2

times_one : (factor : ℕ) (l : List ℕ × ℕ) (g : Polynomial) → IsLinear l.0 → AllKeys IsLinear g → AllKeys IsQuadratic (map (λ r. (add_exponents l.0 r.0, mul_mod factor (mul_mod l.1 r.1))) g)
times_one factor l [] left right = tt
times_one factor l (r ∷ g) left right = (
  record { variables = joined_variables 4 l.0 r.0 left.variables right.0.variables; low = omega (arith, sum-add_exponents l.0 r.0, left.low, right.0.low) },
  times_one factor l g left right.1,
)

products : (factor : ℕ) (f g : Polynomial) → AllKeys IsLinear f → AllKeys IsLinear g → AllKeys IsQuadratic (product_by factor f g)
products factor [] g left right = tt
products factor (l ∷ f) g left right =
    AllKeys-append IsQuadratic (map (λ r. (add_exponents l.0 r.0, mul_mod factor (mul_mod l.1 r.1))) g) (product_by factor f g) (times_one factor l g left.0 right) (products factor f g left.1 right)

z_linear : (k : ℕ) → k < 4 → sum (slice_set (replicate VARIABLES 0) k 1) ≡ 1 → IsLinear (slice_set (replicate VARIABLES 0) k 1)
z_linear k below one = record { variables = variable_exponents 4 k below (omega arith); low = omega (arith, one) }

one_linear : IsLinear (replicate VARIABLES 0)
one_linear = record { variables = no_exponents 4; low = (let none : sum (replicate VARIABLES 0) ≡ 0 = refl in omega (arith, none)) }

first_linear : AllKeys IsLinear first_form
first_linear = (z_linear 1 (omega arith) refl, (z_linear 0 (omega arith) refl, tt))

second_linear : (s : ℕ) → AllKeys IsLinear (second_form s)
second_linear s = (z_linear 2 (omega arith) refl, (z_linear 1 (omega arith) refl, (one_linear, tt)))

third_linear : (s : ℕ) → AllKeys IsLinear (third_form s)
third_linear s = (z_linear 3 (omega arith) refl, (z_linear 2 (omega arith) refl, (one_linear, tt)))

box_quadratic : (s t u : ℕ) → AllKeys IsQuadratic (box_terms s t u)
box_quadratic s t u =
    let a = first_form in
    let b = second_form s in
    let c = third_form s in
    let aa = product_by (mul_mod t t) a a in
    let bb = product_by (mul_mod u u) b b in
    let cc' = product_by (mul_mod s s) c c in
    let ab = product_by (neg_mod (mul_mod 2 (mul_mod t u))) a b in
    let ac = product_by (neg_mod (mul_mod 2 (mul_mod s t))) a c in
    let bc = product_by (neg_mod (mul_mod 2 (mul_mod s u))) b c in
    let lone = z_linear 0 (omega arith) refl in (
      record { variables = lone.variables; low = omega (arith, lone.low) },
      AllKeys-append IsQuadratic aa (bb ++ cc' ++ ab ++ ac ++ bc) (products (mul_mod t t) a a first_linear first_linear)
          (AllKeys-append IsQuadratic bb (cc' ++ ab ++ ac ++ bc) (products (mul_mod u u) b b (second_linear s) (second_linear s))
          (AllKeys-append IsQuadratic cc' (ab ++ ac ++ bc) (products (mul_mod s s) c c (third_linear s) (third_linear s))
          (AllKeys-append IsQuadratic ab (ac ++ bc) (products (neg_mod (mul_mod 2 (mul_mod t u))) a b first_linear (second_linear s))
          (AllKeys-append IsQuadratic ac bc (products (neg_mod (mul_mod 2 (mul_mod s t))) a c first_linear (third_linear s)) (products (neg_mod (mul_mod 2 (mul_mod s u))) b c (second_linear s) (third_linear s)))))),
    )

all_variables : (f : Polynomial) → AllKeys IsQuadratic f → AllKeys (HasVariables 4) f
all_variables [] h = tt
all_variables (t ∷ f) h = (h.0.variables, all_variables f h.1)

all_small : (f : Polynomial) → AllKeys IsQuadratic f → AllKeys Small f
all_small [] h = tt
all_small (t ∷ f) h = (omega (arith, h.0.low), all_small f h.1)

box_read : (s t u : ℕ) → IsRead 4 (normal_form deg_rev_lex (box_terms s t u))
box_read s t u =
    let long : length (box_terms s t u) ≡ 44 = refl in
    read_normal 4 (box_terms s t u) (all_variables (box_terms s t u) (box_quadratic s t u)) (all_small (box_terms s t u) (box_quadratic s t u)) (omega (arith, normal_form_length (box_terms s t u), long))

-- the coefficient of z4^2 is s^2
abbrev square : List ℕ
square = slice_set (replicate VARIABLES 0) 3 2

square_is : (s t u : ℕ) → coefficient_at (box_terms s t u) square ≡ mul_mod s s % 2147483647
square_is s t u = grind arith

not_none : (s t u : ℕ) → mul_mod s s % 2147483647 ≢ 0 → normal_form deg_rev_lex (box_terms s t u) ≢ []
not_none s t u some none =
    let same = (SameCoefficients-normal_form deg_rev_lex deg_rev_lex_total deg_rev_lex_unique same_exponents exponents_decide (box_terms s t u)).same_at square in
    let nothing : coefficient_at (normal_form deg_rev_lex (box_terms s t u)) square ≡ 0 = ap (λ (f : Polynomial). coefficient_at f square) none in
    some (sym (square_is s t u) ∙ sym same ∙ nothing)

product_le : (a b c d : ℕ) → a ≤ c → b ≤ d → a * b ≤ c * d
product_le a b c d p q = grind arith

positive_product : (a b : ℕ) → 0 < a → 0 < b → 0 < a * b
positive_product a b p q = grind arith

square_some : (number : ℕ) → number ≤ DRILL_LIMIT → mul_mod (number + 1) (number + 1) % 2147483647 ≢ 0
square_some number small none =
    let below : (number + 1) * (number + 1) ≤ 10000 * 10000 = product_le (number + 1) (number + 1) 10000 10000 (omega (arith, small)) (omega (arith, small)) in
    let some : 0 < (number + 1) * (number + 1) = positive_product (number + 1) (number + 1) (omega arith) (omega arith) in
    omega (arith, below, some, none)

-- ---- the rest

four_powers : (a b c d : ℤ) → IsPower a → IsPower b → IsPower c → IsPower d → ArePowers 4 (powers a b c d)
four_powers a b c d p q r s =
    let each : AllByRecursion IsPower (powers a b c d) = (p, (q, (r, (s, tt)))) in
    record { count = refl; low = lows (powers a b c d) each; high = highs (powers a b c d) each }

targets_powers : AllByRecursion (ArePowers 4) drill_targets
targets_powers =
    let one : IsPower (pos 1) = record { low = le_z_yes tt; high = le_z_yes tt } in
    let two : IsPower (pos 2) = record { low = le_z_yes tt; high = le_z_yes tt } in
    let minus_one : IsPower (neg_ℤ (pos 1)) = record { low = le_z_yes tt; high = le_z_yes tt } in
    let minus_two : IsPower (neg_ℤ (pos 2)) = record { low = le_z_yes tt; high = le_z_yes tt } in (
      four_powers _ _ _ _ one one one one,
      (
        four_powers _ _ _ _ two one one one,
        (
          four_powers _ _ _ _ one two one one,
          (
            four_powers _ _ _ _ one one two one,
            (
              four_powers _ _ _ _ one one one two,
              (
                four_powers _ _ _ _ one one one minus_one,
                (
                  four_powers _ _ _ _ one one one minus_two,
                  (
                    four_powers _ _ _ _ one one minus_one one,
                    (
                      four_powers _ _ _ _ one minus_one one one,
                      (
                        four_powers _ _ _ _ minus_one one one one,
                        (
                          four_powers _ _ _ _ one minus_one one minus_one,
                          (
                            four_powers _ _ _ _ minus_one one minus_one one,
                            tt,
                          ),
                        ),
                      ),
                    ),
                  ),
                ),
              ),
            ),
          ),
        ),
      ),
    )

pub drill_within : (number : ℕ) → number ≤ DRILL_LIMIT → DataWithin (drill_data number)
drill_within number small =
    let read = box_read (number + 1) (number + 3) (neg_mod (2 * number + 4)) in
    record {
      some_variables = omega arith;
      few_variables = omega arith;
      polynomial = read.polynomial;
      few_terms = read.few;
      not_zero = not_none (number + 1) (number + 3) (neg_mod (2 * number + 4)) (square_some number small);
      few_targets = omega arith;
      target_powers = All-each (ArePowers 4) drill_targets targets_powers;
      distinct = distinct_by same_powers drill_targets refl;
      few_zero = omega arith;
      zero_below = All-each (λ sector. sector.0 < 2 ^ 4) drill_zero (omega arith, (omega arith, (omega arith, (omega arith, tt))));
      bounds_within = record { dots_cap = omega arith; rank_cap = omega arith; extra_dots = omega arith; extra_rank = omega arith };
      few_caps = omega arith;
      caps_within = λ k d below. absurd (omega arith);
      distinct_caps = distinct_by have_one_sector [] refl;
      few_symmetries = omega arith;
      permutations = λ k d below. absurd (omega (arith, below));
      closed = refl;
      budget_within = record { pairs = omega arith; candidates = omega arith };
      probe_fits = λ probe none. absurd (cc);
    }

-- and so is what is equal to its parts
pub made_within : (number : ℕ) → number ≤ DRILL_LIMIT → (p : Polynomial) (targets : List (List ℤ)) (zeros : List Sector) (caps : List SectorCaps) (symmetries : List (List ℕ))
    → p ≡ drill_polynomial number → targets ≡ drill_targets → zeros ≡ drill_zero → caps ≡ [] → symmetries ≡ []
    → FamilyLimits 4 p targets zeros (record { dots_cap = 1; rank_cap = 2; extra_dots = 0; extra_rank = 0 }) caps symmetries (record { pairs = 1000000; candidates = 20000; selection = Order }) None
made_within number small p targets zeros caps symmetries a b c d e =
    let Limits : Polynomial → List (List ℤ) → List Sector → List SectorCaps → List (List ℕ) → Type 0 =
    λ p ts zs cs ps. FamilyLimits 4 p ts zs (record { dots_cap = 1; rank_cap = 2; extra_dots = 0; extra_rank = 0 }) cs ps (record { pairs = 1000000; candidates = 20000; selection = Order }) None in
    subst (λ (q : Polynomial). Limits q targets zeros caps symmetries) (sym a)
    (subst (λ (ts : List (List ℤ)). Limits (drill_polynomial number) ts zeros caps symmetries) (sym b)
    (subst (λ (zs : List Sector). Limits (drill_polynomial number) drill_targets zs caps symmetries) (sym c)
    (subst (λ (cs : List SectorCaps). Limits (drill_polynomial number) drill_targets drill_zero cs symmetries) (sym d)
    (subst (λ (ps : List (List ℕ)). Limits (drill_polynomial number) drill_targets drill_zero [] ps) (sym e) (drill_within number small)))))
