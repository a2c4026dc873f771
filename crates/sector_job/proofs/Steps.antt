-- The work on a sector, from what its steps give.
use Rattle.std.proofs.Common.{◌≡◌, ℕ, ◌*◌, ◌<◌, ◌≤◌, ◌^◌, Bool, true, false, List, [], ◌∷◌, length, refl, sym, ◌∙◌, ap, subst, arith}
use Rattle.std.specs.Prelude.{◌↔◌, IsTrue}
use Rattle.std.specs.List.{All}
use Rattle.std.proofs.lemmas.List.Elements.{Contains-get_or}
use Rattle.sector_lattice.specs.declared.seeding.TheConstants.{SEED_LIMIT}
use Rattle.sector_lattice.specs.Sectors.{sector_of}
use Rattle.sector_lattice.specs.Seeds.{AreSeeds, seed_number}
use Rattle.sector_lattice.specs.Orders.{sector_below}
use Rattle.sector_lattice.specs.Layers.{layers}
use Rattle.sector_lattice.proofs.SeedLists.{layers_are_seeds, layers_counted}
use Rattle.sparse_rows.specs.Rows.{IntegralSum}
use Rattle.family.specs.FamilyData.{FamilyData}
use Rattle.family.specs.Shapes.{ArePowers}
use Rattle.family.specs.declared.parts.StrippedField.{StrippedField}
use Rattle.ibp_base.proofs.Members.{in_head}
use Rattle.sector_job.specs.Candidates.{Integral, dots_bound, rank_bound, AreSeedsFor, AreCandidates, AreTails}
use Rattle.sector_job.specs.Outcomes.{FitsTargets, HasBasis, IsOver, IsWorked}
use Rattle.sector_job.proofs.SeedPowers.{seed_powers}
use Rattle.sector_job.proofs.Listing.{count_rows}

-- the sector of targets that fit it is below 2 ^ n
pub fits_below : (family : FamilyData) (sector : ℕ) (targets : List Integral) → FitsTargets family sector targets → sector < 2 ^ family.n
fits_below family sector [] fits = absurd (fits.some refl)
fits_below family sector (target ∷ targets) fits =
    let long : length target ≡ family.n = fits.powers 0 target (omega arith) in
    let same : sector_of target ≡ sector = fits.of_sector target (in_head target targets target refl) in
    subst (λ s. s < 2 ^ family.n) same (subst (λ n. sector_of target < 2 ^ n) long (sector_below target))

-- the bounds that the code computes are those of the definition
pub seeds_for : (family : FamilyData) (sector : ℕ) (targets : List Integral) (dots rank : ℕ) (seeds : List Integral) → dots ≡ dots_bound family sector targets → rank ≡ rank_bound family sector targets
    → AreSeeds sector family.n dots rank seeds → AreSeedsFor family sector targets seeds
seeds_for family sector targets dots rank seeds few low h =
    subst (λ d. AreSeeds sector family.n d (rank_bound family sector targets) seeds) few (subst (λ r. AreSeeds sector family.n dots r seeds) low h)

pub is_over : (family : FamilyData) (sector : ℕ) (targets : List Integral) (fields : List StrippedField) (dots rank : ℕ) → sector < 2 ^ family.n → HasBasis family sector fields
    → dots ≡ dots_bound family sector targets → rank ≡ rank_bound family sector targets → family.budget.candidates < length fields * seed_number sector family.n dots rank → IsOver family sector targets
is_over family sector targets fields dots rank below basis few low over =
    let seeds = layers family.n sector dots rank in
    record {
      fields = fields;
      basis = basis;
      seeds = seeds;
      are_seeds = seeds_for family sector targets dots rank seeds few low (layers_are_seeds family.n sector dots rank below);
      over = subst (λ count. family.budget.candidates < length fields * count) (sym (layers_counted family.n sector dots rank below)) over;
    }

pub all_powers : (sector n dots rank : ℕ) (seeds : List Integral) → dots ≤ SEED_LIMIT → rank ≤ SEED_LIMIT → AreSeeds sector n dots rank seeds → All (ArePowers n) seeds
all_powers sector n dots rank seeds few low h k d within =
    seed_powers sector n dots rank _ few low ((h.members _).0 (Contains-get_or seeds k d within))

pub all_of_sector : (sector n dots rank : ℕ) (seeds : List Integral) → AreSeeds sector n dots rank seeds → All (λ seed. sector_of seed ≡ sector) seeds
all_of_sector sector n dots rank seeds h k d within = ((h.members _).0 (Contains-get_or seeds k d within)).of_sector

-- as many candidates as the budget allows
pub few_rows : (family : FamilyData) (fields : List StrippedField) (seeds : List Integral) (rows : List IntegralSum) (count limit : ℕ) → AreCandidates family fields seeds rows
    → length seeds ≡ count → length fields * count ≤ limit → length rows ≤ limit
few_rows family fields seeds rows count limit are counted within =
    let number : length rows ≡ length fields * count = count_rows family fields seeds rows are ∙ ap (λ k. length fields * k) counted in
    omega (arith, number, within)

pub is_worked : (family : FamilyData) (sector : ℕ) (targets : List Integral) (fields : List StrippedField) (dots rank : ℕ) (seeds : List Integral) (rows : List IntegralSum) (tails : List Integral)
    → HasBasis family sector fields → dots ≡ dots_bound family sector targets → rank ≡ rank_bound family sector targets → AreSeeds sector family.n dots rank seeds
    → length seeds ≡ seed_number sector family.n dots rank → length fields * seed_number sector family.n dots rank ≤ family.budget.candidates
    → AreCandidates family fields seeds rows → AreTails sector targets rows tails → IsWorked family sector targets fields rows tails
is_worked family sector targets fields dots rank seeds rows tails basis few low are counted within candidates handed =
    record {
      basis = basis;
      seeds = seeds;
      are_seeds = seeds_for family sector targets dots rank seeds few low are;
      within = subst (λ count. length fields * count ≤ family.budget.candidates) (sym counted) within;
      are_candidates = candidates;
      are_tails = handed;
    }

-- a test that fails
pub within_budget : (r : Bool) (limit count : ℕ) → (IsTrue r ↔ (limit < count)) → r ≡ false → count ≤ limit
within_budget r limit count h e =
    let no : ¬ (limit < count) = λ less. let clash : true ≡ false = sym (h.1 less) ∙ e in cc in
    omega (arith, no)
