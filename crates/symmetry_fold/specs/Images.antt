-- Images under a permutation of the variables, which is the list of its numbers: at place i stands the number that
-- i becomes.
--     place_of sigma j                 the place, from 0, at which the number j stands
--     image sigma powers               the powers of the image: the power at i stands at what i becomes
--     image_sector n sigma sector      the set of what the members become
--     images entries powers            the images under each of these permutations
--     lowest entries powers            the lowest of the integral and its images
-- Source: symmetries of Feynman integrals as relabellings of the propagators.
use Rattle.std.specs.Prelude.{ℕ, zero, suc, ◌+◌, ◌*◌, ◌^◌, ℤ, nat_eq, Bool, List, length, map}
use Rattle.std.specs.Int.{bit_at}
use Rattle.std.specs.List.{best_of, position_or_len}
use Rattle.std.specs.Ordering.{is_lt}
use Rattle.ibp_algebra.specs.Laurent.{power_at}
use Rattle.sector_lattice.specs.Sectors.{integral_cmp}
use Rattle.family.specs.Permutation.{identity}

abbrev pub place_of : List ℕ → ℕ → ℕ
place_of sigma j = position_or_len (nat_eq j) sigma

-- the power of what becomes j
abbrev pub power_before : List ℕ → List ℤ → ℕ → ℤ
power_before sigma powers j = power_at powers (place_of sigma j)

abbrev pub image : List ℕ → List ℤ → List ℤ
image sigma powers = map (power_before sigma powers) (identity (length powers))

-- the digit of j is that of what becomes j
abbrev pub image_sector : ℕ → List ℕ → ℕ → ℕ
image_sector zero sigma sector = 0
image_sector (suc n) sigma sector = bit_at sector (place_of sigma (suc n)) * 2 ^ n + image_sector n sigma sector

abbrev pub images : List (List ℕ) → List ℤ → List (List ℤ)
images entries powers = map (λ sigma. image sigma powers) entries

abbrev pub is_lower : List ℤ → List ℤ → Bool
is_lower left right = is_lt (integral_cmp left right)

abbrev pub lowest : List (List ℕ) → List ℤ → List ℤ
lowest entries powers = best_of is_lower powers (images entries powers)
