-- Powers in front of bytes.
use Rattle.std.proofs.Common.{◌≡◌, ◌≢◌, ℕ, suc, ℤ, ◌^◌, ◌<◌, List, [], ◌∷◌, ◌++◌, length, Bool, true, false, refl, sym, ap, ◌∙◌, subst, arith, inl, inr}
use Rattle.std.specs.Prelude.{◌⊎◌, Option, pos, negsuc, neg_ℤ, ◌≤ℤ◌, IsTrue, IsFalse, decimal}
use Rattle.std.proofs.lemmas.Int.{ints}
use Rattle.std.specs.Char.{is_ascii_digit}
use Rattle.std.specs.Fmt.{signed_decimal}
use Rattle.std.specs.List.{list_all}
use Rattle.std.proofs.lemmas.Fmt.{digits_decimal, decimal_nonempty}
use Rattle.sector_lattice.specs.declared.integral.TheConstants.{POWER}
use Rattle.line_reader.specs.Fronts.{IsSomeWith}
use Rattle.line_reader.proofs.Digits.{own, first_passes}

not_minus : (ds rest r : List ℕ) → list_all is_ascii_digit ds ≡ true → 0 < length ds → ds ++ rest ≢ 45 ∷ r
not_minus [] rest r all some e = omega arith
not_minus (d ∷ ds) rest r all some e =
    let is : d ≡ 45 = cc in
    let digit : is_ascii_digit d ≡ true = first_passes (is_ascii_digit d) (list_all is_ascii_digit ds) all in
    let wrong : is_ascii_digit 45 ≡ true = subst (λ b. is_ascii_digit b ≡ true) is digit in
    let no : false ≡ true = wrong in
    cc

small_pos : (n : ℕ) → pos n ≤ℤ POWER → n < 2 ^ 32
small_pos n h = omega (arith, ints)

small_negsuc : (n : ℕ) → neg_ℤ POWER ≤ℤ negsuc n → (suc n < 2 ^ 32) × (pos (suc n) ≤ℤ POWER)
small_negsuc n h = (omega (arith, ints), omega (arith, ints))

abbrev pub IsSigned : Bool → ℤ → ℕ → Type 0
IsSigned negative z m = (IsFalse negative × (z ≡ pos m)) ⊎ (IsTrue negative × (z ≡ neg_ℤ (pos m)))

pub sign_cases : (z : ℤ) (rest bytes others : List ℕ) (negative : Bool) → neg_ℤ POWER ≤ℤ z → z ≤ℤ POWER → bytes ≡ signed_decimal z ++ rest
    → ((r : List ℕ) → bytes ≡ 45 ∷ r → (negative ≡ true) × (others ≡ r)) → (((r : List ℕ) → bytes ≢ 45 ∷ r) → (negative ≡ false) × (others ≡ bytes))
    → (m : ℕ) × (m < 2 ^ 32) × (pos m ≤ℤ POWER) × (others ≡ decimal m ++ rest) × IsSigned negative z m
sign_cases (pos n) rest bytes others negative low high e minus plain =
    let small = small_pos n high in
    let found = plain (λ r h. not_minus (decimal n) rest r (digits_decimal own n (omega arith)) (decimal_nonempty n (omega arith)) (sym e ∙ h)) in
    (n, small, high, found.1 ∙ e, inl (found.0, refl))
sign_cases (negsuc n) rest bytes others negative low high e minus plain =
    let small = small_negsuc n low in
    let found = minus (decimal (suc n) ++ rest) e in
    (suc n, small.0, small.1, found.1, inr (found.0, refl))

pub signed_gives : (negative : Bool) (z : ℤ) (m number : ℕ) (r : Option ℤ) → IsSigned negative z m → number ≡ m → pos m ≤ℤ POWER
    → (IsFalse negative → pos number ≤ℤ POWER → IsSomeWith r (λ w. w ≡ pos number)) → (IsTrue negative → pos number ≤ℤ POWER → IsSomeWith r (λ w. w ≡ neg_ℤ (pos number)))
    → IsSomeWith r (λ w. w ≡ z)
signed_gives negative z m number r (inl (is_plain, is)) same high plain minus =
    subst (λ (y : ℤ). IsSomeWith r (λ w. w ≡ y)) (ap pos same ∙ sym is) (plain is_plain (subst (λ k. pos k ≤ℤ POWER) (sym same) high))
signed_gives negative z m number r (inr (is_minus, is)) same high plain minus =
    subst (λ (y : ℤ). IsSomeWith r (λ w. w ≡ y)) (ap (λ k. neg_ℤ (pos k)) same ∙ sym is) (minus is_minus (subst (λ k. pos k ≤ℤ POWER) (sym same) high))
