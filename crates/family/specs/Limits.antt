-- The limits that the parts of every family are within.
use Rattle.std.specs.Prelude.{◌≡◌, ◌≢◌, true, ℕ, ◌<◌, ◌≤◌, ◌^◌, ℤ, List, [], length, Option}
use Rattle.std.specs.List.{All, IsDistinct}
use Rattle.std.specs.Option.{ForSome}
use Rattle.ibp_algebra.specs.Laurent.{same_powers}
use Rattle.ibp_algebra.specs.Polynomial.{Polynomial}
use Rattle.mono_order.specs.declared.limits.TheConstants.{VARIABLES}
use Rattle.sector_lattice.specs.declared.sector.Sector.{Sector}
use Rattle.sparse_poly.specs.declared.limits.TheConstants.{DEGREE_LIMIT, TERM_LIMIT}
use Rattle.family.specs.declared.limits.TheConstants.{CAP_LIMIT, EXTRA_LIMIT, PAIR_LIMIT, CANDIDATE_LIMIT, TARGET_LIMIT, SECTOR_LIMIT, SECTOR_CAPS_LIMIT, SYMMETRY_LIMIT}
use Rattle.family.specs.declared.parts.Bounds.{Bounds}
use Rattle.family.specs.declared.parts.Budget.{Budget}
use Rattle.family.specs.declared.parts.Probe.{Probe}
use Rattle.family.specs.declared.parts.SectorCaps.{SectorCaps}
use Rattle.family.specs.Caps.{have_one_sector}
use Rattle.family.specs.Permutation.{is_permutation, are_closed}
use Rattle.family.specs.Shapes.{IsPolynomial, IsField, ArePowers}

pub record BoundsWithin (bounds : Bounds) : Type 0 where
  pub dots_cap : bounds.dots_cap ≤ CAP_LIMIT
  pub rank_cap : bounds.rank_cap ≤ CAP_LIMIT
  pub extra_dots : bounds.extra_dots ≤ EXTRA_LIMIT
  pub extra_rank : bounds.extra_rank ≤ EXTRA_LIMIT

pub record CapsWithin (n : ℕ) (caps : SectorCaps) : Type 0 where
  pub below : caps.sector.0 < 2 ^ n
  pub dots : caps.dots ≤ CAP_LIMIT
  pub rank : caps.rank ≤ CAP_LIMIT

pub record BudgetWithin (budget : Budget) : Type 0 where
  pub pairs : budget.pairs ≤ PAIR_LIMIT
  pub candidates : budget.candidates ≤ CANDIDATE_LIMIT

pub record IsProbe (n : ℕ) (probe : Probe) : Type 0 where
  pub field : IsField n DEGREE_LIMIT probe.field.a probe.field.b
  pub few_terms : All (λ polynomial. length polynomial ≤ TERM_LIMIT) probe.field.a
  pub few_factor_terms : length probe.field.b ≤ TERM_LIMIT
  pub seed : ArePowers n probe.seed

pub record FamilyLimits (n : ℕ) (baikov : Polynomial) (targets : List (List ℤ)) (zero : List Sector) (bounds : Bounds) (caps : List SectorCaps) (symmetries : List (List ℕ)) (budget : Budget) (probe : Option Probe) : Type 0 where
  pub some_variables : 1 ≤ n
  pub few_variables : n ≤ VARIABLES
  pub polynomial : IsPolynomial n DEGREE_LIMIT baikov
  pub few_terms : length baikov ≤ TERM_LIMIT
  pub not_zero : baikov ≢ []
  pub few_targets : length targets ≤ TARGET_LIMIT
  pub target_powers : All (ArePowers n) targets
  pub distinct : IsDistinct same_powers targets
  pub few_zero : length zero ≤ SECTOR_LIMIT
  pub zero_below : All (λ sector. sector.0 < 2 ^ n) zero
  pub bounds_within : BoundsWithin bounds
  pub few_caps : length caps ≤ SECTOR_CAPS_LIMIT
  pub caps_within : All (CapsWithin n) caps
  pub distinct_caps : IsDistinct have_one_sector caps
  pub few_symmetries : length symmetries ≤ SYMMETRY_LIMIT
  pub permutations : All (λ numbers. is_permutation n numbers ≡ true) symmetries
  pub closed : are_closed n symmetries ≡ true
  pub budget_within : BudgetWithin budget
  pub probe_fits : ForSome probe (IsProbe n)
