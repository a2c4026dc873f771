-- How a monomial keeps its exponents: by their partial sums e_1 + .. + e_k, four to a word as its digits, so that the
-- order of monomials is the order of the words, and a product is a sum.
--     partial_sum k m              e_1 + .. + e_k
--     word a b c d                 the word with these digits, the lowest first
--     word_from k m                the word of the four partial sums that follow e_1 + .. + e_k
--     digits w                     the digits of a word
--     exponent_word k m            the word of the four exponents e_(k+1), .., e_(k+4)
--     running_sums before xs       the sums of the first numbers, each on top of `before`
--     differences before xs        how far each number is above the one before it, and the first above `before`
--     exponents_of low middle high     the exponents that three words keep
-- Source: packed exponents as in Polynomial Division Using Dynamic Arrays, Heaps, and Packed Exponent Vectors of Monagan and Pearce.
use Rattle.std.specs.Prelude.{◌≡◌, ℕ, ◌+◌, ◌-◌, ◌*◌, ◌/◌, ◌%◌, ◌<◌, sum, take, slice_index_or, List, [], ◌∷◌, ◌++◌}
use Rattle.mono_order.specs.declared.words.TheConstants.{BASE, TOP}
use Rattle.mono_order.specs.Monomial.{IsMonomial}

abbrev pub partial_sum : ℕ → List ℕ → ℕ
partial_sum k m = sum (take k m)

abbrev pub word : ℕ → ℕ → ℕ → ℕ → ℕ
word a b c d = a + BASE * (b + BASE * (c + BASE * d))

unfoldable pub word_from : ℕ → List ℕ → ℕ
word_from k m = word (partial_sum (k + 1) m) (partial_sum (k + 2) m) (partial_sum (k + 3) m) (partial_sum (k + 4) m)

abbrev pub digits : ℕ → List ℕ
digits w = w % BASE ∷ w / BASE % BASE ∷ w / BASE / BASE % BASE ∷ w / BASE / BASE / BASE ∷ []

-- the digits are below the highest bit of a digit
abbrev pub AreFree : ℕ → Type 0
AreFree w = (w % BASE < TOP) × (w / BASE % BASE < TOP) × (w / BASE / BASE % BASE < TOP) × (w / BASE / BASE / BASE < TOP)

unfoldable pub exponent_word : ℕ → List ℕ → ℕ
exponent_word k m = word (slice_index_or m k 0) (slice_index_or m (k + 1) 0) (slice_index_or m (k + 2) 0) (slice_index_or m (k + 3) 0)

abbrev pub running_sums : ℕ → List ℕ → List ℕ
running_sums before [] = []
running_sums before (x ∷ xs) = (before + x) ∷ running_sums (before + x) xs

abbrev pub differences : ℕ → List ℕ → List ℕ
differences before [] = []
differences before (x ∷ xs) = (x - before) ∷ differences x xs

unfoldable pub exponents_of : ℕ → ℕ → ℕ → List ℕ
exponents_of low middle high = differences 0 (digits low ++ digits middle ++ digits high)

-- the words are those of the exponents that they keep
pub record ArePartialSums (low middle high : ℕ) : Type 0 where
  pub is_monomial : IsMonomial (exponents_of low middle high)
  pub low_is : word_from 0 (exponents_of low middle high) ≡ low
  pub middle_is : word_from 4 (exponents_of low middle high) ≡ middle
  pub high_is : word_from 8 (exponents_of low middle high) ≡ high
