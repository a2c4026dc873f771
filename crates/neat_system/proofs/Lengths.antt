-- How many candidates there are.
use Rattle.std.proofs.Common.{◌≡◌, ℕ, suc, ◌+◌, ◌*◌, ◌^◌, ◌≤◌, List, [], ◌∷◌, ◌++◌, length, refl, sym, ◌∙◌, ap, subst, arith}
use Rattle.std.specs.List.{AllZip}
use Rattle.std.proofs.lemmas.List.{length-append}
use Rattle.std.proofs.lemmas.List.FromFn.{length-map-range_with_len}
use Rattle.std.proofs.Math.Pow.{pow_mono}
use Rattle.mono_order.specs.declared.limits.TheConstants.{VARIABLES}
use Rattle.family.specs.declared.limits.TheConstants.{CANDIDATE_LIMIT}
use Rattle.family.specs.Within.{DataWithin}
use Rattle.family.specs.FamilyData.{FamilyData}
use Rattle.family.specs.FamilyView.{family_view}
use Rattle.sector_job.specs.Candidates.{Integral, labels, labels_at}
use Rattle.sector_job.specs.Results.{ResultValue}
use Rattle.neat_system.specs.Gathering.{IsOwnWork}
use Rattle.neat_system.specs.System.{SectorWork, IsWorkFor, all_candidates, all_labels}

zip_length : {A B : Type 0} (R : A → B → Type 0) (xs : List A) (ys : List B) → AllZip R xs ys → length xs ≡ length ys
zip_length R [] [] all = refl
zip_length R [] (y ∷ ys) all = absurd all
zip_length R (x ∷ xs) [] all = absurd all
zip_length R (x ∷ xs) (y ∷ ys) all = ap suc (zip_length R xs ys all.1)

pub length-labels : (count : ℕ) (seeds : List Integral) → length (labels count seeds) ≡ count * length seeds
length-labels count [] = omega arith
length-labels count (seed ∷ seeds) =
    let here : length (labels_at count seed) ≡ count = length-map-range_with_len _ 1 count in
    let rest : length (labels count seeds) ≡ count * length seeds = length-labels count seeds in
    length-append (labels_at count seed) (labels count seeds) ∙ (let e : length (labels_at count seed) + length (labels count seeds) ≡ count * suc (length seeds) = grind arith in e)

module _ (family : FamilyData) where
  -- the fields at the seeds are within the budget
  pub within_budget : (targets : List Integral) (work : SectorWork) → IsWorkFor family targets work → length work.fields * length work.seeds ≤ family.budget.candidates
  within_budget targets work is = subst (λ (seeds : List Integral). length work.fields * length seeds ≤ family.budget.candidates) (sym is.with_seeds) is.worked.within

  as_many : (targets : List Integral) (work : SectorWork) → IsWorkFor family targets work → length (labels (length work.fields) work.seeds) ≡ length work.candidates
  as_many targets work is = ap (λ seeds. length (labels (length work.fields) seeds)) is.with_seeds ∙ zip_length _ _ _ is.worked.are_candidates

  pub few_of_work : (targets : List Integral) (work : SectorWork) → IsWorkFor family targets work → length work.candidates ≤ family.budget.candidates
  few_of_work targets work is =
      let many = as_many targets work is in
      let counted = length-labels (length work.fields) work.seeds in
      let few = within_budget targets work is in
      omega (arith, many, counted, few)

  -- a family has at most as many sectors as there are of all variables
  pub few_pieces : DataWithin family → (count : ℕ) → count ≤ 2 ^ family.n → count ≤ 2 ^ VARIABLES
  few_pieces within count few = let most : 2 ^ family.n ≤ 2 ^ VARIABLES = pow_mono within.few_variables in omega (arith, few, most)

-- each candidate has a label
pub labels_match : (pieces : List ResultValue) (works : List SectorWork) → AllZip IsOwnWork pieces works → length (all_labels works) ≡ length (all_candidates works)
labels_match [] [] all = refl
labels_match [] (work ∷ works) all = absurd all
labels_match (piece ∷ pieces) [] all = absurd all
labels_match (piece ∷ pieces) (work ∷ works) all =
    length-append (labels (length work.fields) work.seeds) (all_labels works)
    ∙ (λ i. as_many (family_view piece.plan) piece.targets work all.0.is_work i + labels_match pieces works all.1 i)
    ∙ sym (length-append work.candidates (all_candidates works))

pub few_candidates : (pieces : List ResultValue) (works : List SectorWork) → AllZip IsOwnWork pieces works → length (all_candidates works) ≤ CANDIDATE_LIMIT * length pieces
few_candidates [] [] all = omega arith
few_candidates [] (work ∷ works) all = absurd all
few_candidates (piece ∷ pieces) [] all = absurd all
few_candidates (piece ∷ pieces) (work ∷ works) all =
    let here : length work.candidates ≤ piece.plan.budget.candidates = few_of_work (family_view piece.plan) piece.targets work all.0.is_work in
    let budget : piece.plan.budget.candidates ≤ CANDIDATE_LIMIT = piece.plan.limits.budget_within.candidates in
    let rest : length (all_candidates works) ≤ CANDIDATE_LIMIT * length pieces = few_candidates pieces works all.1 in
    let both : length (work.candidates ++ all_candidates works) ≡ length work.candidates + length (all_candidates works) = length-append work.candidates (all_candidates works) in
    omega (arith, here, budget, rest, both)

-- what a piece comes to has few fields at few seeds
pub few_in_all : (piece : ResultValue) (work : SectorWork) → IsOwnWork piece work → length work.fields * length work.seeds ≤ CANDIDATE_LIMIT
few_in_all piece work is =
    let few : length work.fields * length work.seeds ≤ piece.plan.budget.candidates = within_budget (family_view piece.plan) piece.targets work is.is_work in
    let budget : piece.plan.budget.candidates ≤ CANDIDATE_LIMIT = piece.plan.limits.budget_within.candidates in
    omega (arith, few, budget)

-- and as many candidates
pub counted : (piece : ResultValue) (work : SectorWork) → IsOwnWork piece work → length work.candidates ≡ length work.fields * length work.seeds
counted piece work is = sym (as_many (family_view piece.plan) piece.targets work is.is_work) ∙ length-labels (length work.fields) work.seeds
