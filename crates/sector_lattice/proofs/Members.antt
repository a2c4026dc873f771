-- The digits of an integral's sector tell its positive powers.
use Rattle.std.proofs.Common.{◌≡◌, ℕ, zero, suc, ◌+◌, ◌-◌, ◌*◌, ◌%◌, ◌≤◌, Bool, true, false, cond, List, [], ◌∷◌, get_or, refl, ◌∙◌, ap, arith}
use Rattle.std.specs.Prelude.{ℤ, pos, ◌↔◌, IsTrue}
use Rattle.std.specs.Int.{bit_at}
use Rattle.std.proofs.lemmas.Nat.Bits.{bit_at-zero, bit_at_lowest, bit_at-suc}
use Rattle.sector_lattice.specs.Sectors.{IsMember, is_positive, sector_of}
use Rattle.sector_lattice.proofs.Digits.{halves}

lowest : (b : Bool) (n m : ℕ) → n ≡ cond b 1 0 + 2 * m → n % 2 ≡ cond b 1 0
lowest true n m h = omega arith
lowest false n m h = omega arith

digit_at : (powers : List ℤ) (j : ℕ) → bit_at (sector_of powers) j ≡ cond (is_positive (get_or powers j (pos 0))) 1 0
unfolding sector_of
digit_at [] j = bit_at-zero j
digit_at (p ∷ ps) zero = bit_at_lowest (cond (is_positive p) 1 0 + 2 * sector_of ps) ∙ lowest (is_positive p) (cond (is_positive p) 1 0 + 2 * sector_of ps) (sector_of ps) refl
digit_at (p ∷ ps) (suc j) =
    bit_at-suc (cond (is_positive p) 1 0 + 2 * sector_of ps) j
    ∙ ap (λ m. bit_at m j) (halves (is_positive p) (cond (is_positive p) 1 0 + 2 * sector_of ps) (sector_of ps) refl).1
    ∙ digit_at ps j

one_is_true : (b : Bool) (d : ℕ) → d ≡ cond b 1 0 → (d ≡ 1) ↔ IsTrue b
one_is_true true d h = (λ _. refl, λ _. h)
one_is_true false d h = (λ one. absurd (omega arith), λ f. absurd (cc))

pub members_positive : (powers : List ℤ) (i : ℕ) → IsMember (sector_of powers) i ↔ ((1 ≤ i) × IsTrue (is_positive (get_or powers (i - 1) (pos 0))))
members_positive powers i =
    let both = one_is_true (is_positive (get_or powers (i - 1) (pos 0))) (bit_at (sector_of powers) (i - 1)) (digit_at powers (i - 1)) in
    (λ h. (h.0, both.0 h.1), λ h. (h.0, both.1 h.1))
