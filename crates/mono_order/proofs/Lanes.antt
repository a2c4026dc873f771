-- Divisibility of four exponents at once: with the highest bit of each digit set, a difference of two words keeps that
-- bit exactly where no digit is greater.
use Rattle.std.proofs.Common.{◌≡◌, ℕ, ◌+◌, ◌-◌, ◌*◌, ◌/◌, ◌%◌, ◌^◌, ◌<◌, ◌≤◌, Bool, true, false, List, [], ◌∷◌, ◌++◌, sum, length, get_or, sym, refl, ap, ◌∙◌, arith, bit_and}
use Rattle.std.specs.Prelude.{nat_le, nat_eq, ◌&&◌}
use Rattle.std.proofs.Math.Bool.{and_assoc}
use Rattle.std.specs.Int.Bits.{and_zero_r}
use Rattle.std.specs.Cmp.{unsigned_Decides}
use Rattle.std.proofs.lemmas.Bool.{leb-true, le-leb}
use Rattle.std.proofs.lemmas.Nat.{and_shr, and_mod, and_mask}
use Rattle.ibp_base.proofs.Tests.{both_true, and_true}
use Rattle.ibp_algebra.proofs.SumOfExponents.{get_or-le-sum}
use Rattle.mono_order.specs.declared.limits.TheConstants.{MONO_DEGREE}
use Rattle.mono_order.specs.Monomial.{IsMonomial}
use Rattle.mono_order.specs.declared.words.TheConstants.{BASE, TOP, TOPS}
use Rattle.mono_order.specs.PartialSums.{word, digits, exponent_word, AreFree}
use Rattle.mono_order.specs.Term.{divides_exponents}
use Rattle.mono_order.proofs.Packing.{low_digit, above_digit, word-digits, digits-exponents, exponents-digits}

top_bit : (x : ℕ) → x < BASE → bit_and x TOP ≡ TOP * (x / TOP)
top_bit x e =
    let low : bit_and x TOP % 2 ^ 15 ≡ 0 = and_mod x TOP 15 ∙ and_zero_r (x % 32768) in
    let high : bit_and x TOP / 2 ^ 15 ≡ bit_and (x / 2 ^ 15) 1 = and_shr x TOP 15 in
    let mask : bit_and (x / 2 ^ 15) 1 ≡ (x / 2 ^ 15) % 2 = and_mask (x / 2 ^ 15) 1 in
    omega (arith, low, high, mask)

and-digit : (x y h k : ℕ) → x < BASE → y < BASE → bit_and (x + BASE * h) (y + BASE * k) ≡ bit_and x y + BASE * bit_and h k
and-digit x y h k p q =
    let low : bit_and (x + BASE * h) (y + BASE * k) % 65536 ≡ bit_and x y = and_mod (x + BASE * h) (y + BASE * k) 16 ∙ (λ i. bit_and (low_digit x h p i) (low_digit y k q i)) in
    let high : bit_and (x + BASE * h) (y + BASE * k) / 65536 ≡ bit_and h k = and_shr (x + BASE * h) (y + BASE * k) 16 ∙ (λ i. bit_and (above_digit x h p i) (above_digit y k q i)) in
    omega (arith, low, high)

-- each digit alone
and-word : (a b c d : ℕ) → a < BASE → b < BASE → c < BASE → d < BASE → bit_and (word a b c d) TOPS ≡ word (TOP * (a / TOP)) (TOP * (b / TOP)) (TOP * (c / TOP)) (TOP * (d / TOP))
and-word a b c d p q r s =
    let first = and-digit a TOP (b + BASE * (c + BASE * d)) (TOP + BASE * (TOP + BASE * TOP)) p (omega arith) in
    let second = and-digit b TOP (c + BASE * d) (TOP + BASE * TOP) q (omega arith) in
    let third = and-digit c TOP d TOP r (omega arith) in
    first
    ∙ (λ i. top_bit a p i + BASE * (second ∙ (λ j. top_bit b q j + BASE * (third ∙ (λ k. top_bit c r k + BASE * top_bit d s k)) j)) i)

pub same_answer : (b c : Bool) → (b ≡ true → c ≡ true) → (c ≡ true → b ≡ true) → b ≡ c
same_answer true c p q = sym (p refl)
same_answer false true p q = q refl
same_answer false false p q = refl

lanes : (a b c d p q r s : ℕ) → a < TOP → b < TOP → c < TOP → d < TOP → p < TOP → q < TOP → r < TOP → s < TOP
    → nat_eq (bit_and (word p q r s + TOPS - word a b c d) TOPS) TOPS ≡ divides_exponents (a ∷ b ∷ c ∷ d ∷ []) (p ∷ q ∷ r ∷ s ∷ [])
lanes a b c d p q r s la lb lc ld lp lq lr ls =
    let difference : word p q r s + TOPS - word a b c d ≡ word (p + TOP - a) (q + TOP - b) (r + TOP - c) (s + TOP - d) = omega arith in
    let bits : bit_and (word p q r s + TOPS - word a b c d) TOPS ≡ word (TOP * ((p + TOP - a) / TOP)) (TOP * ((q + TOP - b) / TOP)) (TOP * ((r + TOP - c) / TOP)) (TOP * ((s + TOP - d) / TOP)) =
    ap (λ x. bit_and x TOPS) difference ∙ and-word (p + TOP - a) (q + TOP - b) (r + TOP - c) (s + TOP - d) (omega arith) (omega arith) (omega arith) (omega arith)
    in
    let test = unsigned_Decides (bit_and (word p q r s + TOPS - word a b c d) TOPS) TOPS in
    same_answer _ _
    (λ e.
    let whole : word (TOP * ((p + TOP - a) / TOP)) (TOP * ((q + TOP - b) / TOP)) (TOP * ((r + TOP - c) / TOP)) (TOP * ((s + TOP - d) / TOP)) ≡ TOPS = sym bits ∙ test.0 e in
    and_true _ _ (le-leb a p (omega arith)) (and_true _ _ (le-leb b q (omega arith)) (and_true _ _ (le-leb c r (omega arith)) (and_true _ _ (le-leb d s (omega arith)) refl))))
    (λ e.
    let first = both_true _ _ e in
    let second = both_true _ _ first.1 in
    let third = both_true _ _ second.1 in
    let fourth = both_true _ _ third.1 in
    let one = leb-true a p first.0 in
    let two = leb-true b q second.0 in
    let three = leb-true c r third.0 in
    let four = leb-true d s fourth.0 in
    test.1 (bits ∙ omega arith))

pub no_digit_greater : (mine others : ℕ) → AreFree mine → AreFree others → nat_eq (bit_and (others + TOPS - mine) TOPS) TOPS ≡ divides_exponents (digits mine) (digits others)
no_digit_greater mine others p q =
    (λ i. nat_eq (bit_and (sym (word-digits others) i + TOPS - sym (word-digits mine) i) TOPS) TOPS)
    ∙ lanes (mine % BASE) (mine / BASE % BASE) (mine / BASE / BASE % BASE) (mine / BASE / BASE / BASE) (others % BASE) (others / BASE % BASE) (others / BASE / BASE % BASE)
    (others / BASE / BASE / BASE) p.0 p.1 p.2 p.3 q.0 q.1 q.2 q.3

-- exponents are
pub exponents-free : (k : ℕ) (m : List ℕ) → sum m ≤ MONO_DEGREE → AreFree (exponent_word k m)
exponents-free k m few =
    let digits = digits-exponents k m few in
    let first : exponent_word k m % BASE ≡ get_or m k 0 = ap (λ l. get_or l 0 0) digits in
    let second : exponent_word k m / BASE % BASE ≡ get_or m (k + 1) 0 = ap (λ l. get_or l 1 0) digits in
    let third : exponent_word k m / BASE / BASE % BASE ≡ get_or m (k + 2) 0 = ap (λ l. get_or l 2 0) digits in
    let fourth : exponent_word k m / BASE / BASE / BASE ≡ get_or m (k + 3) 0 = ap (λ l. get_or l 3 0) digits in
    let a = get_or-le-sum m k in
    let b = get_or-le-sum m (k + 1) in
    let c = get_or-le-sum m (k + 2) in
    let d = get_or-le-sum m (k + 3) in
    (omega arith, omega arith, omega arith, omega arith)

divides-append : (xs ys others more : List ℕ) → length xs ≡ length ys → divides_exponents (xs ++ others) (ys ++ more) ≡ (divides_exponents xs ys && divides_exponents others more)
divides-append [] [] others more e = refl
divides-append [] (y ∷ ys) others more e = absurd (omega arith)
divides-append (x ∷ xs) [] others more e = absurd (omega arith)
divides-append (x ∷ xs) (y ∷ ys) others more e =
    ap (λ rest. nat_le x y && rest) (divides-append xs ys others more (omega arith)) ∙ sym (and_assoc (nat_le x y) (divides_exponents xs ys) (divides_exponents others more))

-- by the words of the exponents
pub divides-words : (a b : List ℕ) → IsMonomial a → IsMonomial b
    → ((divides_exponents (digits (exponent_word 0 a)) (digits (exponent_word 0 b)) && divides_exponents (digits (exponent_word 4 a)) (digits (exponent_word 4 b)))
    && divides_exponents (digits (exponent_word 8 a)) (digits (exponent_word 8 b)))
    ≡ divides_exponents a b
divides-words a b p q =
    let low = digits (exponent_word 0 a) in
    let middle = digits (exponent_word 4 a) in
    let high = digits (exponent_word 8 a) in
    let others_low = digits (exponent_word 0 b) in
    let others_middle = digits (exponent_word 4 b) in
    let others_high = digits (exponent_word 8 b) in
    and_assoc (divides_exponents low others_low) (divides_exponents middle others_middle) (divides_exponents high others_high)
    ∙ ap (λ rest. divides_exponents low others_low && rest) (sym (divides-append middle others_middle high others_high refl))
    ∙ sym (divides-append low others_low (middle ++ high) (others_middle ++ others_high) refl)
    ∙ (λ i. divides_exponents (exponents-digits a p i) (exponents-digits b q i))
