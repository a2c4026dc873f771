-- The words of a monomial: the exponents that they keep, products and quotients.
use Rattle.std.proofs.Common.{◌≡◌, ℕ, zero, suc, true, ◌+◌, ◌-◌, ◌*◌, ◌/◌, ◌%◌, ◌^◌, ◌<◌, ◌≤◌, List, [], ◌∷◌, ◌++◌, sum, take, length, get_or, sym, refl, ap, ◌∙◌, subst, arith}
use Rattle.std.proofs.Math.Seq.{take-length}
use Rattle.std.proofs.lemmas.Grind.{same_number_lists}
use Rattle.std.proofs.lemmas.List.Sums.{sum_by-take-le}
use Rattle.ibp_algebra.specs.Exponents.{add_exponents}
use Rattle.ibp_algebra.proofs.ExponentLaws.{length-padded_sum}
use Rattle.ibp_algebra.proofs.SumOfExponents.{sum-cons, sum-add_exponents, get_or-le-sum}
use Rattle.mono_order.specs.declared.limits.TheConstants.{VARIABLES, MONO_DEGREE}
use Rattle.mono_order.specs.declared.words.TheConstants.{BASE, THREE_DIGITS}
use Rattle.mono_order.specs.Monomial.{IsMonomial}
use Rattle.mono_order.specs.PartialSums.{partial_sum, word, word_from, digits, exponent_word, running_sums, differences, exponents_of, ArePartialSums}
use Rattle.mono_order.specs.Term.{divides_exponents, quotient_exponents}
use Rattle.mono_order.proofs.Terms.{quotient-times, length-quotient}

-- ---- partial sums

pub partial_sum-le : (k : ℕ) (m : List ℕ) → partial_sum k m ≤ sum m
partial_sum-le k m = sum_by-take-le (λ x. x) m k

pub partial_sum-add : (k : ℕ) (a b : List ℕ) → length a ≡ length b → partial_sum k (add_exponents a b) ≡ partial_sum k a + partial_sum k b
partial_sum-add zero a b e = refl
partial_sum-add (suc k) [] [] e = refl
partial_sum-add (suc k) [] (y ∷ b) e = absurd (omega arith)
partial_sum-add (suc k) (x ∷ a) [] e = absurd (omega arith)
partial_sum-add (suc k) (x ∷ a) (y ∷ b) e =
    omega (arith, sum-cons (x + y) (take k (add_exponents a b)), sum-cons x (take k a), sum-cons y (take k b), partial_sum-add k a b (omega arith))

pub partial_sum-next : (k : ℕ) (m : List ℕ) → k < length m → partial_sum (k + 1) m ≡ partial_sum k m + get_or m k 0
partial_sum-next zero [] e = absurd (omega arith)
partial_sum-next zero (x ∷ m) e = refl
partial_sum-next (suc k) [] e = absurd (omega arith)
partial_sum-next (suc k) (x ∷ m) e =
    let shift : suc k + 1 ≡ suc (k + 1) = omega arith in
    ap (λ n. partial_sum n (x ∷ m)) shift ∙ omega (arith, sum-cons x (take (k + 1) m), sum-cons x (take k m), partial_sum-next k m (omega arith))

-- ---- words

pub word-add : (a b c d p q r s : ℕ) → word (a + p) (b + q) (c + r) (d + s) ≡ word a b c d + word p q r s
word-add a b c d p q r s = omega arith

pub word_from-add : (k : ℕ) (a b : List ℕ) → length a ≡ length b → word_from k (add_exponents a b) ≡ word_from k a + word_from k b
unfolding word_from
word_from-add k a b e =
    (λ i. word (partial_sum-add (k + 1) a b e i) (partial_sum-add (k + 2) a b e i) (partial_sum-add (k + 3) a b e i) (partial_sum-add (k + 4) a b e i))
    ∙ word-add (partial_sum (k + 1) a) (partial_sum (k + 2) a) (partial_sum (k + 3) a) (partial_sum (k + 4) a) (partial_sum (k + 1) b) (partial_sum (k + 2) b) (partial_sum (k + 3) b) (partial_sum (k + 4) b)

pub word_from-fits : (k : ℕ) (m : List ℕ) → sum m ≤ MONO_DEGREE → word_from k m < 2 ^ 64
unfolding word_from
word_from-fits k m e =
    let a = partial_sum-le (k + 1) m in
    let b = partial_sum-le (k + 2) m in
    let c = partial_sum-le (k + 3) m in
    let d = partial_sum-le (k + 4) m in
    omega arith

pub low_digit : (a h : ℕ) → a < BASE → (a + BASE * h) % BASE ≡ a
low_digit a h e = omega arith

pub above_digit : (a h : ℕ) → a < BASE → (a + BASE * h) / BASE ≡ h
above_digit a h e = omega arith

pub digits-word : (a b c d : ℕ) → a < BASE → b < BASE → c < BASE → digits (word a b c d) ≡ a ∷ b ∷ c ∷ d ∷ []
digits-word a b c d p q r =
    let one = above_digit a (b + BASE * (c + BASE * d)) p in
    let two = ap (λ w. w / BASE) one ∙ above_digit b (c + BASE * d) q in
    let three = ap (λ w. w / BASE) two ∙ above_digit c d r in
    λ i. low_digit a (b + BASE * (c + BASE * d)) p i
    ∷ (ap (λ w. w % BASE) one ∙ low_digit b (c + BASE * d) q) i
    ∷ (ap (λ w. w % BASE) two ∙ low_digit c d r) i
    ∷ three i
    ∷ []

-- a word is that of its digits
pub word-digits : (w : ℕ) → word (w % BASE) (w / BASE % BASE) (w / BASE / BASE % BASE) (w / BASE / BASE / BASE) ≡ w
word-digits w = omega arith

pub digits-word_from : (k : ℕ) (m : List ℕ) → sum m ≤ MONO_DEGREE
    → digits (word_from k m) ≡ partial_sum (k + 1) m ∷ partial_sum (k + 2) m ∷ partial_sum (k + 3) m ∷ partial_sum (k + 4) m ∷ []
unfolding word_from
digits-word_from k m e =
    let a = partial_sum-le (k + 1) m in
    let b = partial_sum-le (k + 2) m in
    let c = partial_sum-le (k + 3) m in
    digits-word (partial_sum (k + 1) m) (partial_sum (k + 2) m) (partial_sum (k + 3) m) (partial_sum (k + 4) m) (omega arith) (omega arith) (omega arith)

-- ---- the exponents that the words keep

differences-sums : (before : ℕ) (xs : List ℕ) → differences before (running_sums before xs) ≡ xs
differences-sums before [] = refl
differences-sums before (x ∷ xs) =
    let first : before + x - before ≡ x = omega arith in
    λ i. first i ∷ differences-sums (before + x) xs i

sums-are : (before : ℕ) (xs ys : List ℕ) → length xs ≡ length ys → ((k : ℕ) → k < length xs → get_or ys k 0 ≡ before + partial_sum (k + 1) xs) → ys ≡ running_sums before xs
sums-are before [] [] e at = refl
sums-are before [] (y ∷ ys) e at = absurd (omega arith)
sums-are before (x ∷ xs) [] e at = absurd (omega arith)
sums-are before (x ∷ xs) (y ∷ ys) e at =
    let only : partial_sum 1 (x ∷ xs) ≡ x = omega (arith, sum-cons x []) in
    let at_zero : y ≡ before + partial_sum (0 + 1) (x ∷ xs) = at 0 (omega arith) in
    let first : y ≡ before + x = at_zero ∙ ap (λ s. before + s) only in
    let rest = sums-are (before + x) xs ys (omega arith) (λ k below.
    let shift : suc k + 1 ≡ suc (k + 1) = omega arith in
    let there : get_or ys k 0 ≡ before + partial_sum (suc k + 1) (x ∷ xs) = at (suc k) (omega arith) in
    there ∙ ap (λ n. before + partial_sum n (x ∷ xs)) shift ∙ omega (arith, sum-cons x (take (k + 1) xs))) in
    λ i. first i ∷ rest i

running_sums-from : (before : ℕ) (m : List ℕ) (k : ℕ) → k < length m → get_or (running_sums before m) k 0 ≡ before + partial_sum (k + 1) m
running_sums-from before [] k e = absurd (omega arith)
running_sums-from before (x ∷ m) zero e = let only : partial_sum 1 (x ∷ m) ≡ x = omega (arith, sum-cons x []) in ap (λ s. before + s) (sym only)
running_sums-from before (x ∷ m) (suc k) e =
    let shift : suc k + 1 ≡ suc (k + 1) = omega arith in
    running_sums-from (before + x) m k (omega arith) ∙ omega (arith, sum-cons x (take (k + 1) m), ap (λ n. partial_sum n (x ∷ m)) shift)

pub running_sums-at : (m : List ℕ) (k : ℕ) → k < length m → get_or (running_sums 0 m) k 0 ≡ partial_sum (k + 1) m
running_sums-at m k e = running_sums-from 0 m k e ∙ omega arith

-- the first twelve values of a function
twelve : (ℕ → ℕ) → List ℕ
twelve f = f 0 ∷ f 1 ∷ f 2 ∷ f 3 ∷ f 4 ∷ f 5 ∷ f 6 ∷ f 7 ∷ f 8 ∷ f 9 ∷ f 10 ∷ f 11 ∷ []

twelve-at : (f : ℕ → ℕ) (k : ℕ) → k < VARIABLES → get_or (twelve f) k 0 ≡ f k
unfolding twelve
twelve-at f zero e = refl
twelve-at f (suc zero) e = refl
twelve-at f (suc (suc zero)) e = refl
twelve-at f (suc (suc (suc zero))) e = refl
twelve-at f (suc (suc (suc (suc zero)))) e = refl
twelve-at f (suc (suc (suc (suc (suc zero))))) e = refl
twelve-at f (suc (suc (suc (suc (suc (suc zero)))))) e = refl
twelve-at f (suc (suc (suc (suc (suc (suc (suc zero))))))) e = refl
twelve-at f (suc (suc (suc (suc (suc (suc (suc (suc zero)))))))) e = refl
twelve-at f (suc (suc (suc (suc (suc (suc (suc (suc (suc zero))))))))) e = refl
twelve-at f (suc (suc (suc (suc (suc (suc (suc (suc (suc (suc zero)))))))))) e = refl
twelve-at f (suc (suc (suc (suc (suc (suc (suc (suc (suc (suc (suc zero))))))))))) e = refl
twelve-at f (suc (suc (suc (suc (suc (suc (suc (suc (suc (suc (suc (suc k)))))))))))) e = absurd (omega arith)

-- the digits of the three words, one after the other
pub digits-sums : (m : List ℕ) → IsMonomial m → digits (word_from 0 m) ++ digits (word_from 4 m) ++ digits (word_from 8 m) ≡ running_sums 0 m
unfolding twelve
digits-sums m h =
    let low = digits-word_from 0 m h.bounded in
    let middle = digits-word_from 4 m h.bounded in
    let high = digits-word_from 8 m h.bounded in
    let next : ℕ → ℕ = λ k. partial_sum (k + 1) m in
    let sums : twelve next ≡ running_sums 0 m = sums-are 0 m (twelve next) h.each_variable (λ k below. twelve-at next k (omega (arith, below, h.each_variable)) ∙ omega arith)
    in
    (λ i. low i ++ middle i ++ high i) ∙ sums

pub exponents-back : (m : List ℕ) → IsMonomial m → exponents_of (word_from 0 m) (word_from 4 m) (word_from 8 m) ≡ m
unfolding exponents_of
exponents-back m h = ap (differences 0) (digits-sums m h) ∙ differences-sums 0 m

-- ---- words that are those of a monomial

pub packed_as : (m : List ℕ) (low middle high : ℕ) → IsMonomial m → low ≡ word_from 0 m → middle ≡ word_from 4 m → high ≡ word_from 8 m → exponents_of low middle high ≡ m
packed_as m low middle high h p q r = (λ i. exponents_of (p i) (q i) (r i)) ∙ exponents-back m h

pub partial_sums_as : (m : List ℕ) (low middle high : ℕ) → IsMonomial m → low ≡ word_from 0 m → middle ≡ word_from 4 m → high ≡ word_from 8 m → ArePartialSums low middle high
partial_sums_as m low middle high h p q r =
    let back = packed_as m low middle high h p q r in
    record {
      is_monomial = subst IsMonomial (sym back) h;
      low_is = ap (word_from 0) back ∙ sym p;
      middle_is = ap (word_from 4) back ∙ sym q;
      high_is = ap (word_from 8) back ∙ sym r;
    }

-- ---- products and quotients of words

pub record IsProduct (xs ys : List ℕ) (low middle high : ℕ) : Type 0 where
  pub kept : ArePartialSums low middle high
  pub value : exponents_of low middle high ≡ add_exponents xs ys
  pub low_fits : low < 2 ^ 64
  pub middle_fits : middle < 2 ^ 64
  pub high_fits : high < 2 ^ 64

pub product_words : (l m h p q r : ℕ) (first : ArePartialSums l m h) (second : ArePartialSums p q r) → sum (exponents_of l m h) + sum (exponents_of p q r) ≤ MONO_DEGREE
    → IsProduct (exponents_of l m h) (exponents_of p q r) (l + p) (m + q) (h + r)
product_words l m h p q r first second few =
    let xs = exponents_of l m h in
    let ys = exponents_of p q r in
    let zs = add_exponents xs ys in
    let same : length xs ≡ length ys = first.is_monomial.each_variable ∙ sym second.is_monomial.each_variable in
    let bounded : sum zs ≤ MONO_DEGREE = omega (arith, sum-add_exponents xs ys) in
    let is : IsMonomial zs =
    record { each_variable = length-padded_sum ◌+◌ VARIABLES xs ys first.is_monomial.each_variable second.is_monomial.each_variable; bounded = bounded }
    in
    let low : l + p ≡ word_from 0 zs = sym (word_from-add 0 xs ys same ∙ (λ i. first.low_is i + second.low_is i)) in
    let middle : m + q ≡ word_from 4 zs = sym (word_from-add 4 xs ys same ∙ (λ i. first.middle_is i + second.middle_is i)) in
    let high : h + r ≡ word_from 8 zs = sym (word_from-add 8 xs ys same ∙ (λ i. first.high_is i + second.high_is i)) in
    record {
      kept = partial_sums_as zs (l + p) (m + q) (h + r) is low middle high;
      value = packed_as zs (l + p) (m + q) (h + r) is low middle high;
      low_fits = omega (arith, low, word_from-fits 0 zs bounded);
      middle_fits = omega (arith, middle, word_from-fits 4 zs bounded);
      high_fits = omega (arith, high, word_from-fits 8 zs bounded);
    }

pub record IsQuotient (l m h p q r : ℕ) : Type 0 where
  pub kept : ArePartialSums (l - p) (m - q) (h - r)
  pub value : exponents_of (l - p) (m - q) (h - r) ≡ quotient_exponents (exponents_of l m h) (exponents_of p q r)
  pub low : p ≤ l
  pub middle : q ≤ m
  pub high : r ≤ h

pub quotient_words : (l m h p q r : ℕ) (first : ArePartialSums l m h) (second : ArePartialSums p q r) → divides_exponents (exponents_of p q r) (exponents_of l m h) ≡ true
    → IsQuotient l m h p q r
quotient_words l m h p q r first second divisor =
    let xs = exponents_of l m h in
    let ys = exponents_of p q r in
    let zs = quotient_exponents xs ys in
    let back : add_exponents zs ys ≡ xs = quotient-times VARIABLES ys xs second.is_monomial.each_variable first.is_monomial.each_variable divisor in
    let long : length zs ≡ VARIABLES = length-quotient VARIABLES ys xs second.is_monomial.each_variable first.is_monomial.each_variable in
    let same : length zs ≡ length ys = long ∙ sym second.is_monomial.each_variable in
    let bounded : sum zs ≤ MONO_DEGREE = omega (arith, sum-add_exponents zs ys, ap sum back, first.is_monomial.bounded) in
    let is : IsMonomial zs = record { each_variable = long; bounded = bounded } in
    let low : word_from 0 zs + p ≡ l = ap (λ w. word_from 0 zs + w) (sym second.low_is) ∙ sym (word_from-add 0 zs ys same) ∙ ap (word_from 0) back ∙ first.low_is in
    let middle : word_from 4 zs + q ≡ m = ap (λ w. word_from 4 zs + w) (sym second.middle_is) ∙ sym (word_from-add 4 zs ys same) ∙ ap (word_from 4) back ∙ first.middle_is in
    let high : word_from 8 zs + r ≡ h = ap (λ w. word_from 8 zs + w) (sym second.high_is) ∙ sym (word_from-add 8 zs ys same) ∙ ap (word_from 8) back ∙ first.high_is in
    let low_less : l - p ≡ word_from 0 zs = omega (arith, low) in
    let middle_less : m - q ≡ word_from 4 zs = omega (arith, middle) in
    let high_less : h - r ≡ word_from 8 zs = omega (arith, high) in
    record {
      kept = partial_sums_as zs (l - p) (m - q) (h - r) is low_less middle_less high_less;
      value = packed_as zs (l - p) (m - q) (h - r) is low_less middle_less high_less;
      low = omega (arith, low);
      middle = omega (arith, middle);
      high = omega (arith, high);
    }

-- ---- the exponents, four to a word

raised-word : (a b c d lowest : ℕ) → a < BASE → b < BASE → c < BASE → (word a b c d % THREE_DIGITS) * BASE + lowest ≡ word lowest a b c
raised-word a b c d lowest p q r =
    let rest : word a b c d % THREE_DIGITS ≡ a + BASE * (b + BASE * c) = omega arith in
    omega (arith, rest)

-- what is left of a word without the word of the sums before
pub record HasExponents (k : ℕ) (m : List ℕ) (w lowest : ℕ) : Type 0 where
  pub above : (w % THREE_DIGITS) * BASE + lowest ≤ w
  pub value : w - ((w % THREE_DIGITS) * BASE + lowest) ≡ exponent_word k m

pub exponents-word : (k : ℕ) (m : List ℕ) (w lowest : ℕ) → IsMonomial m → k + 4 ≤ VARIABLES → w ≡ word_from k m → lowest ≡ partial_sum k m → HasExponents k m w lowest
unfolding word_from exponent_word
exponents-word k m w lowest h few word_is lowest_is =
    let a = partial_sum-le (k + 1) m in
    let b = partial_sum-le (k + 2) m in
    let c = partial_sum-le (k + 3) m in
    let bound = h.bounded in
    let one = partial_sum-next k m (omega (arith, h.each_variable)) in
    let two = partial_sum-next (k + 1) m (omega (arith, h.each_variable)) in
    let three = partial_sum-next (k + 2) m (omega (arith, h.each_variable)) in
    let four = partial_sum-next (k + 3) m (omega (arith, h.each_variable)) in
    let second : partial_sum (k + 1 + 1) m ≡ partial_sum (k + 2) m = ap (λ n. partial_sum n m) (omega arith) in
    let third : partial_sum (k + 2 + 1) m ≡ partial_sum (k + 3) m = ap (λ n. partial_sum n m) (omega arith) in
    let fourth : partial_sum (k + 3 + 1) m ≡ partial_sum (k + 4) m = ap (λ n. partial_sum n m) (omega arith) in
    let raised : (w % THREE_DIGITS) * BASE + lowest ≡ word (partial_sum k m) (partial_sum (k + 1) m) (partial_sum (k + 2) m) (partial_sum (k + 3) m) =
    (λ i. (word_is i % THREE_DIGITS) * BASE + lowest_is i)
    ∙ raised-word (partial_sum (k + 1) m) (partial_sum (k + 2) m) (partial_sum (k + 3) m) (partial_sum (k + 4) m) (partial_sum k m) (omega arith) (omega arith) (omega arith)
    in
    record {
      above = omega (arith, raised, word_is);
      value = omega (arith, raised, word_is);
    }

-- the highest digit is the last of the four partial sums
pub highest-digit : (k : ℕ) (m : List ℕ) → sum m ≤ MONO_DEGREE → word_from k m / BASE / BASE / BASE ≡ partial_sum (k + 4) m
highest-digit k m few = ap (λ l. get_or l 3 0) (digits-word_from k m few)

pub highest-is-sum : (m : List ℕ) → IsMonomial m → word_from 8 m / BASE / BASE / BASE ≡ sum m
highest-is-sum m h = highest-digit 8 m h.bounded ∙ ap sum (ap (λ n. take n m) (sym h.each_variable) ∙ take-length m)

pub digits-exponents : (k : ℕ) (m : List ℕ) → sum m ≤ MONO_DEGREE → digits (exponent_word k m) ≡ get_or m k 0 ∷ get_or m (k + 1) 0 ∷ get_or m (k + 2) 0 ∷ get_or m (k + 3) 0 ∷ []
unfolding exponent_word
digits-exponents k m few =
    let a = get_or-le-sum m k in
    let b = get_or-le-sum m (k + 1) in
    let c = get_or-le-sum m (k + 2) in
    digits-word (get_or m k 0) (get_or m (k + 1) 0) (get_or m (k + 2) 0) (get_or m (k + 3) 0) (omega arith) (omega arith) (omega arith)

entries-are : (m : List ℕ) → length m ≡ VARIABLES → twelve (λ k. get_or m k 0) ≡ m
unfolding twelve
entries-are m long = same_number_lists (twelve (λ k. get_or m k 0)) m (sym long) (λ k within. twelve-at (λ j. get_or m j 0) k within)

-- the digits of the three words, one after the other
pub exponents-digits : (m : List ℕ) → IsMonomial m → digits (exponent_word 0 m) ++ digits (exponent_word 4 m) ++ digits (exponent_word 8 m) ≡ m
unfolding twelve
exponents-digits m h =
    (λ i. digits-exponents 0 m h.bounded i ++ digits-exponents 4 m h.bounded i ++ digits-exponents 8 m h.bounded i) ∙ entries-are m h.each_variable
