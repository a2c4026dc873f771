-- The label at a place, by arithmetic: of f fields at some seeds, that of seed p / f and field p % f + 1 is at place p.
use Rattle.std.proofs.Common.{◌≡◌, ℕ, ◌+◌, ◌*◌, ◌<◌, ◌≤◌, List, [], length, get_or, take, sym, ◌∙◌, ap, inl, inr, arith}
use Rattle.std.specs.Prelude.{◌/◌, ◌%◌}
use Rattle.std.specs.List.{flat_map}
use Rattle.std.proofs.lemmas.Bool.{cases_lt}
use Rattle.std.proofs.lemmas.List.{get_or_default, length-take-le}
use Rattle.std.proofs.lemmas.List.Concat.{get_or-flat_map}
use Rattle.std.proofs.lemmas.List.FromFn.{get_or-map-range_with_len, length-map-range_with_len}
use Rattle.std.proofs.Math.Nat.{mod-lt, div-add-mod, div-lt_iff_lt-mul, mul-le-mul_left}
use Rattle.sector_job.specs.Candidates.{Integral, Label, labels, labels_at}
use Rattle.neat_system.specs.Gathering.{label_at}
use Rattle.neat_system.proofs.Lengths.{length-labels}

some_of : (a b p : ℕ) → p < a * b → 0 < a
some_of a b p h =
    elim (cases_lt 0 a) [
      | inl some ↦ some
      | inr none ↦ absurd (
          let empty : a ≡ 0 = omega (arith, none) in
          let product : a * b ≡ 0 = ap (λ n. n * b) empty ∙ (let e : 0 * b ≡ 0 = omega arith in e) in
          omega (arith, h, product))
    ]

-- a place of so many fields at each of so many seeds
pub record IsSplit (fields count place : ℕ) : Type 0 where
  pub some : 0 < fields
  pub seed : place / fields < count
  pub field : place % fields < fields
  pub few : fields ≤ fields * count

pub split_place : (fields count place : ℕ) → place < fields * count → IsSplit fields count place
split_place fields count place within =
    let turned : fields * count ≡ count * fields = omega arith in
    let some : 0 < fields = some_of fields count place within in
    let many : 0 < count = some_of count fields place (omega (arith, within, turned)) in
    let one : 1 ≤ count = omega (arith, many) in
    let few : fields * 1 ≤ fields * count = mul-le-mul_left fields one in
    record {
      some = some;
      seed = (div-lt_iff_lt-mul some).1 (omega (arith, within, turned));
      field = mod-lt place some;
      few = omega (arith, few);
    }

module _ (fields : ℕ) (seeds : List Integral) where
  at_numbers : (q r : ℕ) → q < length seeds → r < fields → label_at (labels fields seeds) (fields * q + r) ≡ record { seed = get_or seeds q []; field = r + 1 }
  at_numbers q r few below =
      let absent : Label = record { seed = []; field = 0 } in
      let label : ℕ → Label = λ number. record { seed = get_or seeds q []; field = number } in
      let before : length (flat_map (labels_at fields) (take q seeds)) ≡ fields * q =
      length-labels fields (take q seeds) ∙ ap (λ n. fields * n) (length-take-le q seeds (omega arith))
      in
      let wide : r < length (labels_at fields (get_or seeds q [])) = omega (arith, below, length-map-range_with_len label 1 fields) in
      ap (λ n. get_or (labels fields seeds) (n + r) absent) (sym before)
      ∙ get_or-flat_map (labels_at fields) seeds q r [] absent few wide
      ∙ get_or-map-range_with_len label 1 fields r (r + 1) absent below (omega arith)

  pub label_is : (place : ℕ) (seed : Integral) → place < fields * length seeds → seed ≡ get_or seeds (place / fields) seed → ◌≡◌ {A = Label} (record { seed = seed; field = place % fields + 1 }) (label_at (labels fields seeds) place)
  label_is place seed within is =
      let split = split_place fields (length seeds) place within in
      let whole : label_at (labels fields seeds) (fields * (place / fields) + place % fields) ≡ record { seed = get_or seeds (place / fields) []; field = place % fields + 1 } =
      at_numbers (place / fields) (place % fields) split.seed split.field
      in
      let read : seed ≡ get_or seeds (place / fields) [] = is ∙ get_or_default seeds (place / fields) seed [] split.seed in
      (λ i. record { seed = read i; field = place % fields + 1 }) ∙ sym whole ∙ ap (label_at (labels fields seeds)) (div-add-mod place fields)
