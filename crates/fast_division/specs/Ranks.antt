-- The rank of a power product: how many power products of the first n variables are below it in the degree reverse
-- lexicographic order; and the places of terms in an array that goes by ranks.
--     below k s             how many power products of the first k variables have a degree below s
--     rank n m              how many power products of the first n variables are below m, where m is one of these
--     IsOfFirst n m         m is a power product of the first n variables
--     IsTable n rows        the rows of a table of these numbers, each at most PLACES
--     place_of_term n first count t     the place of t among the terms of `count` components from `first` on, by ranks, and
--                           at equal ranks the higher component first
-- Source: the combinatorial number system as in The Art of Computer Programming of Knuth, volume 4A, for the partial sums of exponents.
use Rattle.std.specs.Prelude.{◌≡◌, ℕ, zero, suc, ◌+◌, ◌-◌, ◌*◌, ◌<◌, ◌≤◌, Bool, sum, length, slice_index_or, List, []}
use Rattle.mono_order.specs.PartialSums.{partial_sum}
use Rattle.mono_order.specs.declared.limits.TheConstants.{VARIABLES, RUN_DEGREE}
use Rattle.mono_order.specs.Term.{Term, IsTerm}
use Rattle.fast_division.specs.declared.ranks.TheConstants.{PLACES}

unfoldable pub below : ℕ → ℕ → ℕ
below k zero = 0
below zero (suc s) = 1
below (suc k) (suc s) = below (suc k) s + below k (suc s)

-- a power product is below m where its sum of the first k exponents is less than that of m and all later sums are equal
unfoldable pub rank : ℕ → List ℕ → ℕ
rank zero m = 0
rank (suc k) m = rank k m + below (suc k) (partial_sum (suc k) m)

-- the first n exponents have the whole degree
abbrev pub IsOfFirst : ℕ → List ℕ → Type 0
IsOfFirst n m = partial_sum n m ≡ sum m

-- row s of the table: each column k has how many power products of the first k + 1 variables have a degree below s
pub record IsRow (n s : ℕ) (row : List ℕ) : Type 0 where
  pub entry : (k : ℕ) → k < n → slice_index_or row k 0 ≡ below (k + 1) s
  pub small : (k : ℕ) → k < n → slice_index_or row k 0 ≤ PLACES

pub record IsTable (n : ℕ) (rows : List (List ℕ)) : Type 0 where
  pub some : 0 < n
  pub few : n ≤ VARIABLES
  pub each : (s : ℕ) → s < length rows → IsRow n s (slice_index_or rows s [])

unfoldable pub place_of_term : ℕ → ℕ → ℕ → Term → ℕ
place_of_term n first count t = rank n t.1 * count + (first + count - 1 - t.0)

-- the components from `first` on, `count` of them, are all high, or all low
pub record IsOneKind (high : ℕ → Bool) (first count : ℕ) : Type 0 where
  pub same : (c d : ℕ) → first ≤ c → c < first + count → first ≤ d → d < first + count → high c ≡ high d

-- a term that has a place: what the type of vectors keeps of its terms, only the first n variables, and one of the components
pub record HasPlace (n first count : ℕ) (t : Term) : Type 0 where
  pub term : IsTerm VARIABLES t
  pub degree : sum t.1 ≤ RUN_DEGREE
  pub variables : IsOfFirst n t.1
  pub from : first ≤ t.0
  pub upto : t.0 < first + count
