-- The places of a sector's number are those of the positive powers.
use Rattle.std.proofs.Common.{◌≡◌, ℕ, zero, suc, ◌+◌, ◌*◌, ◌/◌, ◌%◌, Bool, true, false, cond, List, [], ◌∷◌, refl, sym, ap, ◌∙◌, arith, ◌==◌}
use Rattle.std.specs.Prelude.{ℤ, pos, negsuc}
use Rattle.std.specs.Int.{bit_at}
use Rattle.std.specs.Ordering.{int_cmp, is_lt}
use Rattle.std.specs.declared.cmp.Ordering.TheVariants.{Less, Equal, Greater}
use Rattle.std.proofs.lemmas.Nat.Bits.{bit_at-zero, bit_at_lowest, bit_at-suc}
use Rattle.sector_lattice.specs.Sectors.{sector_of, is_positive}
use Rattle.ibp_algebra.specs.Identity.{in_sector_of}
use Rattle.family.specs.Conditions.{in_sector}

tests_below : (b c : Bool) → is_lt (cond b Less (cond c Greater Equal)) ≡ b
tests_below true c = refl
tests_below false true = refl
tests_below false false = refl

positive_is : (p : ℤ) → is_lt (int_cmp (pos 0) p) ≡ is_positive p
positive_is (pos n) = tests_below _ _
positive_is (negsuc n) = refl

first_digit : (b : Bool) (m : ℕ) → (cond b 1 0 + 2 * m) % 2 ≡ cond b 1 0
first_digit true m = omega arith
first_digit false m = omega arith

digit_is : (b : Bool) → (cond b 1 0 == 1) ≡ b
digit_is true = refl
digit_is false = refl

other_digits : (b : Bool) (m : ℕ) → (cond b 1 0 + 2 * m) / 2 ≡ m
other_digits true m = omega arith
other_digits false m = omega arith

first_place : (b : Bool) (m : ℕ) → in_sector (cond b 1 0 + 2 * m) 0 ≡ b
first_place b m = ap (λ x. x == 1) (bit_at_lowest (cond b 1 0 + 2 * m) ∙ first_digit b m) ∙ digit_is b

later_place : (b : Bool) (m i : ℕ) → in_sector (cond b 1 0 + 2 * m) (suc i) ≡ in_sector m i
later_place b m i = ap (λ x. x == 1) (bit_at-suc (cond b 1 0 + 2 * m) i ∙ ap (λ x. bit_at x i) (other_digits b m))

pub in_sector-sector_of : (powers : List ℤ) (i : ℕ) → in_sector (sector_of powers) i ≡ in_sector_of powers i
unfolding sector_of
in_sector-sector_of [] i = ap (λ x. x == 1) (bit_at-zero i)
in_sector-sector_of (p ∷ ps) zero = first_place (is_positive p) (sector_of ps) ∙ sym (positive_is p)
in_sector-sector_of (p ∷ ps) (suc i) = later_place (is_positive p) (sector_of ps) i ∙ in_sector-sector_of ps i
