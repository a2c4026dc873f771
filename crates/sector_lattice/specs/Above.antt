-- The proper supersectors one after the other: more lines first, and of as many lines the greater number first.
-- Source: supersectors as in Laporta's algorithm; subsets by their binary digits as in textbooks.
use Rattle.std.specs.Prelude.{ℕ, ◌+◌, ◌-◌, ◌^◌, Bool, not, ◌&&◌, if◌then◌else◌, ◌==◌, List, [], ◌∷◌, bit_and, count_ones}
use Rattle.sector_lattice.specs.Layers.{joined}

-- another sector with so many lines that has all digits of the sector
abbrev pub is_above : ℕ → ℕ → ℕ → Bool
is_above sector members outer = (count_ones outer == members) && (not (outer == sector) && (bit_and sector outer == sector))

abbrev pub one_above : ℕ → ℕ → ℕ → List ℕ
one_above sector members outer = if is_above sector members outer then outer ∷ [] else []

abbrev pub of_lines : ℕ → ℕ → ℕ → List ℕ
of_lines sector n members = joined (λ below. one_above sector members (2 ^ n - 1 - below)) (2 ^ n)

abbrev pub all_above : ℕ → ℕ → List ℕ
all_above sector n = joined (λ missing. of_lines sector n (n - missing)) (n + 1)
