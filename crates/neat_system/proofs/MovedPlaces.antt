-- What is said of the rows at some places, said of all rows: the places are moved, and nothing else changes.
use Rattle.std.proofs.Common.{◌≡◌, ℕ, ◌+◌, ◌-◌, ◌<◌, ◌≤◌, cond, List, [], ◌∷◌, ◌++◌, length, map, get_or, inl, inr, refl, sym, ◌∙◌, ap, subst, arith}
use Rattle.std.specs.Prelude.{nat_lt, count_by}
use Rattle.std.specs.List.{All}
use Rattle.std.specs.List.Sorted.{IsStrictlyIncreasing}
use Rattle.std.proofs.lemmas.Bool.{cases_lt, lt-ltb, le-ltb}
use Rattle.std.proofs.lemmas.List.{get_or-map, get_or_append_left, get_or-append-add}
use Rattle.std.proofs.lemmas.List.Elements.{All-head, All-tail}
use Rattle.std.proofs.lemmas.List.Sums.{sum_by-cons}
use Rattle.ibp_algebra.specs.FormalSum.{FormalSum, map_keys}
use Rattle.ibp_algebra.specs.Spans.{row_at}
use Rattle.sector_lattice.specs.declared.integral.Integral.{Integral}
use Rattle.sparse_rows.specs.Rows.{IntegralSum}
use Rattle.relation_pick.specs.Bases.{place_at}
use Rattle.relation_pick.specs.Marks.{IsNamed, AnyNamed}
use Rattle.relation_pick.specs.Picking.{rows_at}
use Rattle.relation_pick.proofs.Places.{rises}
use Rattle.sector_job.specs.Candidates.{Label}
use Rattle.target_rows.specs.Reductions.{number_of, reductions_of}
use Rattle.neat_system.specs.Gathering.{label_at}
use Rattle.neat_system.specs.System.{relation_at}

-- ---- lists that are joined

moved_all : {X : Type 0} (none : X) (first second : List X) (count : ℕ) → length first ≡ count → (q : List ℕ)
    → map (λ k. get_or (first ++ second) k none) (map (λ k. count + k) q) ≡ map (λ k. get_or second k none) q
moved_all none first second count counted [] = refl
moved_all none first second count counted (k ∷ q) =
    let here : get_or (first ++ second) (count + k) none ≡ get_or second k none =
    ap (λ n. get_or (first ++ second) (n + k) none) (sym counted) ∙ get_or-append-add first second k none
    in
    λ i. here i ∷ moved_all none first second count counted q i

-- what stands at places of the one list, and then at places of the other, moved by as many as the one has
pub at_joined : {X : Type 0} (none : X) (first second : List X) (count : ℕ) → length first ≡ count → (p q : List ℕ) → All (λ k. k < count) p
    → map (λ k. get_or (first ++ second) k none) (p ++ map (λ k. count + k) q) ≡ map (λ k. get_or first k none) p ++ map (λ k. get_or second k none) q
at_joined none first second count counted [] q within = moved_all none first second count counted q
at_joined none first second count counted (k ∷ p) q within =
    let below : k < count = All-head (λ j. j < count) k p within in
    let here : get_or (first ++ second) k none ≡ get_or first k none = get_or_append_left first second none k (omega (arith, below, counted)) in
    λ i. here i ∷ at_joined none first second count counted p q (All-tail (λ j. j < count) k p within) i

-- ---- places of places

module _ (places : List ℕ) where
  module _ (labels : List Label) (candidates : List IntegralSum) where
    relation_moved : (i : ℕ) → i < length places → relation_at (map (label_at labels) places) (rows_at candidates places) i ≡ relation_at labels candidates (place_at places i)
    relation_moved i within =
        let absent : Label = record { seed = []; field = 0 } in
        let label : get_or (map (label_at labels) places) i absent ≡ label_at labels (place_at places i) = get_or-map (label_at labels) places i 0 absent within in
        let row : get_or (rows_at candidates places) i [] ≡ row_at candidates (place_at places i) = get_or-map (row_at candidates) places i 0 [] within in
        λ j. relation_at (label j ∷ []) (row j ∷ []) 0

    pub relations_moved : (written : List ℕ) → All (λ i. i < length places) written
        → map (relation_at (map (label_at labels) places) (rows_at candidates places)) written ≡ map (relation_at labels candidates) (map (place_at places) written)
    relations_moved [] within = refl
    relations_moved (i ∷ written) within =
        let here = relation_moved i (All-head (λ k. k < length places) i written within) in
        λ j. here j ∷ relations_moved written (All-tail (λ k. k < length places) i written within) j

  module _ (up : IsStrictlyIncreasing places) where
    -- the order of places is that of their numbers
    same_order : (i j : ℕ) → i < length places → j < length places → nat_lt (place_at places i) (place_at places j) ≡ nat_lt i j
    same_order i j within inside =
        elim (cases_lt i j) [
          | inl less ↦
              let far : i + (j - i) ≡ j = omega arith in
              let rise : get_or places i 0 + (j - i) ≤ get_or places j 0 = subst (λ k. get_or places i 0 + (j - i) ≤ get_or places k 0) far (rises places up i (j - i) (omega arith)) in
              lt-ltb (place_at places i) (place_at places j) (omega (arith, rise, less)) ∙ sym (lt-ltb i j less)
          | inr over ↦
              let far : j + (i - j) ≡ i = omega arith in
              let rise : get_or places j 0 + (i - j) ≤ get_or places i 0 = subst (λ k. get_or places j 0 + (i - j) ≤ get_or places k 0) far (rises places up j (i - j) (omega arith)) in
              le-ltb (place_at places i) (place_at places j) (omega (arith, rise)) ∙ sym (le-ltb i j (omega (arith, over)))
        ]

    as_many_below : (written : List ℕ) (k : ℕ) → All (λ i. i < length places) written → k < length places
        → count_by (λ other. nat_lt other (place_at places k)) (map (place_at places) written) ≡ count_by (λ other. nat_lt other k) written
    as_many_below [] k within inside = refl
    as_many_below (i ∷ written) k within inside =
        let here = same_order i k (All-head (λ j. j < length places) i written within) inside in
        let rest = as_many_below written k (All-tail (λ j. j < length places) i written within) inside in
        sum_by-cons (λ other. cond (nat_lt other (place_at places k)) 1 0) (place_at places i) (map (place_at places) written)
        ∙ (λ j. cond (here j) 1 0 + rest j)
        ∙ sym (sum_by-cons (λ other. cond (nat_lt other k) 1 0) i written)

    module _ (written : List ℕ) (within : All (λ i. i < length places) written) where
      numbers_moved : (weights : FormalSum ℕ) → ((k : ℕ) → IsNamed weights k → k < length places)
          → map_keys (number_of (map (place_at places) written)) (map_keys (place_at places) weights) ≡ map_keys (number_of written) weights
      numbers_moved [] named = refl
      numbers_moved (t ∷ weights) named =
          let here = as_many_below written t.0 within (named t.0 (inl refl)) in
          let rest = numbers_moved weights (λ k inside. named k (inr inside)) in
          λ j. (here j + 1, t.1) ∷ rest j

      pub reductions_moved : (targets : List Integral) (forms : List IntegralSum) (weights : List (FormalSum ℕ)) → ((k : ℕ) → AnyNamed weights k → k < length places)
          → reductions_of (map (place_at places) written) targets forms (map (map_keys (place_at places)) weights) ≡ reductions_of written targets forms weights
      reductions_moved [] forms weights named = refl
      reductions_moved (target ∷ targets) [] weights named = refl
      reductions_moved (target ∷ targets) (form ∷ forms) [] named = refl
      reductions_moved (target ∷ targets) (form ∷ forms) (w ∷ weights) named =
          let here = numbers_moved w (λ k inside. named k (inl inside)) in
          let rest = reductions_moved targets forms weights (λ k inside. named k (inr inside)) in
          λ j. record { target = target; reduced = form; weights = here j } ∷ rest j
