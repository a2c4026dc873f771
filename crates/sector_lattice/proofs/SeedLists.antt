-- The layers within the bounds are the seeds, lowest first, and their number is the product of two binomials.
use Rattle.std.proofs.Common.{◌≡◌, ℕ, suc, ◌+◌, ◌-◌, ◌*◌, ◌<◌, ◌≤◌, ◌^◌, List, length, refl, sym, ◌∙◌, ap, arith}
use Rattle.std.specs.Prelude.{ℤ, count_ones, Contains}
use Rattle.std.specs.Ordering.{nat_cmp, ordering_then}
use Rattle.std.specs.declared.cmp.Ordering.{Ordering}
use Rattle.std.specs.declared.cmp.Ordering.TheVariants.{Less, Equal}
use Rattle.ibp_base.proofs.Ascending.{sorted_refined}
use Rattle.sector_lattice.specs.Sectors.{sector_of, dots_of, rank_of, integral_cmp, Ascends}
use Rattle.sector_lattice.specs.Seeds.{binomial, seed_number, IsSeed, AreSeeds}
use Rattle.sector_lattice.specs.Layers.{joined, layer, layers}
use Rattle.sector_lattice.proofs.Counting.{sum_below, sum_below-same, sum_below-scale, spread, spread_sum}
use Rattle.sector_lattice.proofs.Layering.{IsInLayer, from_layer, in_layer, layer_sorted, layer_counted, size_cmp, nat_less, nat_equal}
use Rattle.sector_lattice.proofs.Joining.{from_joined, in_joined, joined_sorted, length-joined}

-- the layers of so many dots
abbrev pub of_dots : ℕ → ℕ → ℕ → ℕ → List (List ℤ)
of_dots n sector rank dots = joined (λ r. layer n sector dots r) (rank + 1)

record IsPlaced (n sector dots rank : ℕ) (x : List ℤ) : Type 0 where
  pub d : ℕ
  pub r : ℕ
  pub few : d < dots + 1
  pub low : r < rank + 1
  pub is_in : IsInLayer n sector d r x

placed : (n sector dots rank : ℕ) (x : List ℤ) → sector < 2 ^ n → Contains (layers n sector dots rank) x → IsPlaced n sector dots rank x
placed n sector dots rank x below h =
    let first : (d : ℕ) × ((d < dots + 1) × Contains (of_dots n sector rank d) x) = from_joined (of_dots n sector rank) (dots + 1) x h in
    let second : (r : ℕ) × ((r < rank + 1) × Contains (layer n sector first.0 r) x) = from_joined (λ r. layer n sector first.0 r) (rank + 1) x first.1.1 in
    record { d = first.0; r = second.0; few = first.1.0; low = second.1.0; is_in = from_layer n sector first.0 second.0 x below second.1.1 }

is_seed : (n sector dots rank : ℕ) (x : List ℤ) → IsPlaced n sector dots rank x → IsSeed sector n dots rank x
is_seed n sector dots rank x h =
    let few : h.d < dots + 1 = h.few in
    let low : h.r < rank + 1 = h.low in
    let dots_are : dots_of x ≡ h.d = h.is_in.of_dots in
    let rank_is : rank_of x ≡ h.r = h.is_in.of_rank in
    record { of_n = h.is_in.of_n; of_sector = h.is_in.of_sector; few_dots = omega arith; low_rank = omega arith }

listed : (n sector dots rank : ℕ) (x : List ℤ) → IsSeed sector n dots rank x → Contains (layers n sector dots rank) x
listed n sector dots rank x h =
    let few : dots_of x ≤ dots = h.few_dots in
    let low : rank_of x ≤ rank = h.low_rank in
    let here : Contains (layer n sector (dots_of x) (rank_of x)) x = in_layer n sector (dots_of x) (rank_of x) x (record { of_n = h.of_n; of_sector = h.of_sector; of_dots = refl; of_rank = refl }) in
    in_joined (of_dots n sector rank) (dots + 1) (dots_of x) x (omega arith) (in_joined (λ r. layer n sector (dots_of x) r) (rank + 1) (rank_of x) x (omega arith) here)

-- of two integrals of one sector the one with fewer dots is lower, then that with less rank, then by sizes
module _ (x y : List ℤ) (same : sector_of x ≡ sector_of y) where
  lines_tie : nat_cmp (count_ones (sector_of x)) (count_ones (sector_of y)) ≡ Equal
  lines_tie = ap (λ s. nat_cmp (count_ones (sector_of x)) (count_ones s)) (sym same) ∙ nat_equal (count_ones (sector_of x))

  sectors_tie : nat_cmp (sector_of x) (sector_of y) ≡ Equal
  sectors_tie = ap (nat_cmp (sector_of x)) (sym same) ∙ nat_equal (sector_of x)

  after_sectors : (o : Ordering) → ordering_then (nat_cmp (count_ones (sector_of x)) (count_ones (sector_of y))) (ordering_then (nat_cmp (sector_of x) (sector_of y)) o) ≡ o
  after_sectors o = ap (λ a. ordering_then a (ordering_then (nat_cmp (sector_of x) (sector_of y)) o)) lines_tie ∙ ap (λ a. ordering_then a o) sectors_tie

  fewer_dots : dots_of x < dots_of y → integral_cmp x y ≡ Less
  unfolding integral_cmp
  fewer_dots h = after_sectors _ ∙ ap (λ a. ordering_then a (ordering_then (nat_cmp (rank_of x) (rank_of y)) (size_cmp x y))) (nat_less (dots_of x) (dots_of y) h)

  less_rank : dots_of x ≡ dots_of y → rank_of x < rank_of y → integral_cmp x y ≡ Less
  unfolding integral_cmp
  less_rank e h =
      after_sectors _
      ∙ ap (λ a. ordering_then a (ordering_then (nat_cmp (rank_of x) (rank_of y)) (size_cmp x y))) (ap (nat_cmp (dots_of x)) (sym e) ∙ nat_equal (dots_of x))
      ∙ ap (λ a. ordering_then a (size_cmp x y)) (nat_less (rank_of x) (rank_of y) h)

  less_size : dots_of x ≡ dots_of y → rank_of x ≡ rank_of y → size_cmp x y ≡ Less → integral_cmp x y ≡ Less
  unfolding integral_cmp
  less_size e f h =
      after_sectors _
      ∙ ap (λ a. ordering_then a (ordering_then (nat_cmp (rank_of x) (rank_of y)) (size_cmp x y))) (ap (nat_cmp (dots_of x)) (sym e) ∙ nat_equal (dots_of x))
      ∙ ap (λ a. ordering_then a (size_cmp x y)) (ap (nat_cmp (rank_of x)) (sym f) ∙ nat_equal (rank_of x))
      ∙ h

of_dots_ascends : (n sector rank dots : ℕ) → sector < 2 ^ n → Ascends (of_dots n sector rank dots)
of_dots_ascends n sector rank dots below =
    joined_sorted integral_cmp (λ r. layer n sector dots r) (rank + 1)
    (λ r _. sorted_refined size_cmp integral_cmp (layer n sector dots r)
    (λ x y inside other less.
    let a : IsInLayer n sector dots r x = from_layer n sector dots r x below inside in
    let b : IsInLayer n sector dots r y = from_layer n sector dots r y below other in
    less_size x y (a.of_sector ∙ sym b.of_sector) (a.of_dots ∙ sym b.of_dots) (a.of_rank ∙ sym b.of_rank) less)
    (layer_sorted n sector dots r))
    (λ i j x y less _ inside other.
    let a : IsInLayer n sector dots i x = from_layer n sector dots i x below inside in
    let b : IsInLayer n sector dots j y = from_layer n sector dots j y below other in
    let low : rank_of x ≡ i = a.of_rank in
    let high : rank_of y ≡ j = b.of_rank in
    less_rank x y (a.of_sector ∙ sym b.of_sector) (a.of_dots ∙ sym b.of_dots) (omega arith))

in_dots : (n sector rank dots : ℕ) (x : List ℤ) → sector < 2 ^ n → Contains (of_dots n sector rank dots) x → (dots_of x ≡ dots) × (sector_of x ≡ sector)
in_dots n sector rank dots x below inside =
    let found : (r : ℕ) × ((r < rank + 1) × Contains (layer n sector dots r) x) = from_joined (λ r. layer n sector dots r) (rank + 1) x inside in
    let a : IsInLayer n sector dots found.0 x = from_layer n sector dots found.0 x below found.1.1 in
    (a.of_dots, a.of_sector)

ascend : (n sector dots rank : ℕ) → sector < 2 ^ n → Ascends (layers n sector dots rank)
ascend n sector dots rank below =
    joined_sorted integral_cmp (of_dots n sector rank) (dots + 1)
    (λ d _. of_dots_ascends n sector rank d below)
    (λ i j x y less _ inside other.
    let a = in_dots n sector rank i x below inside in
    let b = in_dots n sector rank j y below other in
    let low : dots_of x ≡ i = a.0 in
    let high : dots_of y ≡ j = b.0 in
    fewer_dots x y (a.1 ∙ sym b.1) (omega arith))

pub layers_are_seeds : (n sector dots rank : ℕ) → sector < 2 ^ n → AreSeeds sector n dots rank (layers n sector dots rank)
layers_are_seeds n sector dots rank below = record {
  members = λ x. (λ h. is_seed n sector dots rank x (placed n sector dots rank x below h), λ h. listed n sector dots rank x h);
  ascending = ascend n sector dots rank below;
}

pub layers_counted : (n sector dots rank : ℕ) → sector < 2 ^ n → length (layers n sector dots rank) ≡ seed_number sector n dots rank
layers_counted n sector dots rank below =
    let k : ℕ = count_ones sector in
    let m : ℕ = n - count_ones sector in
    let one : (d : ℕ) → length (of_dots n sector rank d) ≡ spread k d * binomial (m + rank) rank = λ d.
    length-joined (λ r. layer n sector d r) (rank + 1)
    ∙ sum_below-same (λ r. length (layer n sector d r)) (λ r. spread m r * spread k d) (rank + 1) (λ r _. layer_counted n sector d r below ∙ (let e : spread k d * spread m r ≡ spread m r * spread k d = omega arith in e))
    ∙ sum_below-scale (spread m) (spread k d) (rank + 1)
    ∙ ap (λ x. sum_below (spread m) x * spread k d) (let e : rank + 1 ≡ suc rank = omega arith in e)
    ∙ ap (λ x. x * spread k d) (spread_sum m rank)
    ∙ (let e : binomial (m + rank) rank * spread k d ≡ spread k d * binomial (m + rank) rank = omega arith in e) in
    length-joined (of_dots n sector rank) (dots + 1)
    ∙ sum_below-same (λ d. length (of_dots n sector rank d)) (λ d. spread k d * binomial (m + rank) rank) (dots + 1) (λ d _. one d)
    ∙ sum_below-scale (spread k) (binomial (m + rank) rank) (dots + 1)
    ∙ ap (λ x. sum_below (spread k) x * binomial (m + rank) rank) (let e : dots + 1 ≡ suc dots = omega arith in e)
    ∙ ap (λ x. x * binomial (m + rank) rank) (spread_sum k dots)
