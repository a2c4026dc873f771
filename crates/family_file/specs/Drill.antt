-- The family of a drill: a box with four variables whose parameters grow with the number of the drill.
--     box_terms s t u        the terms of its polynomial, with a = z2 - z1, b = z3 - z2 - s and c = z4 - z3 + s:
--                            4stu z1 + t^2 a^2 + u^2 b^2 + s^2 c^2 - 2tu ab - 2st ac - 2su bc
--     drill_targets          what is asked of it
--     drill_data number      the family: s is the number plus 1, t the number plus 3, and u minus their sum
-- Source: a sample of our own, in the form of a Baikov polynomial of one loop.
use Rattle.std.specs.Prelude.{ℕ, ◌+◌, ◌-◌, ◌*◌, ℤ, pos, neg_ℤ, List, [], ◌∷◌, ◌++◌, map, None, codes, replicate, slice_set}
use Rattle.std.specs.List.{flat_map}
use Rattle.ibp_field.specs.Arithmetic.{mul_mod, neg_mod}
use Rattle.ibp_algebra.specs.Exponents.{add_exponents, deg_rev_lex}
use Rattle.ibp_algebra.specs.FormalSum.{normal_form}
use Rattle.ibp_algebra.specs.Polynomial.{Polynomial}
use Rattle.mono_order.specs.declared.limits.TheConstants.{VARIABLES}
use Rattle.sector_lattice.specs.declared.sector.Sector.{Sector}
use Rattle.family.specs.declared.parts.Bounds.{Bounds}
use Rattle.family.specs.declared.parts.Budget.{Budget}
use Rattle.family.specs.declared.parts.Selection.TheVariants.{Order}
use Rattle.family.specs.FamilyData.{FamilyData}

-- a term of degree one, and a constant
abbrev pub z : ℕ → ℕ → List ℕ × ℕ
z i coefficient = (slice_set (replicate VARIABLES 0) (i - 1) 1, coefficient)

abbrev pub constant : ℕ → List ℕ × ℕ
constant coefficient = (replicate VARIABLES 0, coefficient)

-- the three linear forms
abbrev pub first_form : Polynomial
first_form = z 2 1 ∷ z 1 (neg_mod 1) ∷ []

abbrev pub second_form : ℕ → Polynomial
second_form s = z 3 1 ∷ z 2 (neg_mod 1) ∷ constant (neg_mod s) ∷ []

abbrev pub third_form : ℕ → Polynomial
third_form s = z 4 1 ∷ z 3 (neg_mod 1) ∷ constant s ∷ []

-- the product times a factor, term by term
abbrev pub product_by : ℕ → Polynomial → Polynomial → Polynomial
product_by factor f g = flat_map (λ l. map (λ r. (add_exponents l.0 r.0, mul_mod factor (mul_mod l.1 r.1))) g) f

abbrev pub box_terms : ℕ → ℕ → ℕ → Polynomial
box_terms s t u =
    let a = first_form in
    let b = second_form s in
    let c = third_form s in
    z 1 (mul_mod 4 (mul_mod s (mul_mod t u)))
    ∷ product_by (mul_mod t t) a a
    ++ product_by (mul_mod u u) b b
    ++ product_by (mul_mod s s) c c
    ++ product_by (neg_mod (mul_mod 2 (mul_mod t u))) a b
    ++ product_by (neg_mod (mul_mod 2 (mul_mod s t))) a c
    ++ product_by (neg_mod (mul_mod 2 (mul_mod s u))) b c

-- four powers
abbrev pub powers : ℤ → ℤ → ℤ → ℤ → List ℤ
powers a b c d = a ∷ b ∷ c ∷ d ∷ []

abbrev pub drill_targets : List (List ℤ)
drill_targets =
    let one = pos 1 in
    let two = pos 2 in
    let minus_one = neg_ℤ (pos 1) in
    let minus_two = neg_ℤ (pos 2) in
    powers one one one one
    ∷ powers two one one one
    ∷ powers one two one one
    ∷ powers one one two one
    ∷ powers one one one two
    ∷ powers one one one minus_one
    ∷ powers one one one minus_two
    ∷ powers one one minus_one one
    ∷ powers one minus_one one one
    ∷ powers minus_one one one one
    ∷ powers one minus_one one minus_one
    ∷ powers minus_one one minus_one one
    ∷ []

-- each two neighbours of the four are a zero sector
abbrev pub drill_zero : List Sector
drill_zero = record { 0 = 3 } ∷ record { 0 = 6 } ∷ record { 0 = 12 } ∷ record { 0 = 9 } ∷ []

abbrev pub drill_polynomial : ℕ → Polynomial
drill_polynomial number = normal_form deg_rev_lex (box_terms (number + 1) (number + 3) (neg_mod (2 * number + 4)))

-- the dimension is 1234567 + 2 number, with one loop and three legs, so that gamma is (1234567 + 2 number - 5)/2
abbrev pub drill_data : ℕ → FamilyData
drill_data number = record {
  name = codes "drill";
  n = 4;
  gamma = 617281 + number;
  baikov = drill_polynomial number;
  targets = drill_targets;
  zero = drill_zero;
  bounds = record { dots_cap = 1; rank_cap = 2; extra_dots = 0; extra_rank = 0 };
  caps = [];
  symmetries = [];
  budget = record { pairs = 1000000; candidates = 20000; selection = Order };
  probe = None;
}
