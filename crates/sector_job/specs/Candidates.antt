-- The candidates of a sector for some of its integrals, and what they hand down.
-- After NeatIBP (Wu, Boehm, Ma, Xu, Zhang); seeds by dots and rank, and the order of integrals, after Laporta.
--     dots_bound, rank_bound     the bounds of the seeds of a sector for some targets
--     AreSeedsFor                the seeds of a sector for some targets, lowest first
--     Label, labels              a seed with the number of a field; all of them for some seeds and so many fields: lowest
--                                seed first, then the number
--     IsCandidate                the row of the identity at a seed of the field that a stripped field stands for
--     AreCandidates              the rows of all labels in turn
--     target_row                 the row of one integral
--     OccursInForm               the integral occurs in the reduced form of a target by the candidates
--     AreTails                   those of the proper subsectors that do, in ascending order
use Rattle.std.specs.Prelude.{◌≢◌, ◌↔◌, ℕ, ◌+◌, ◌-◌, List, [], ◌∷◌, Contains, Any, length, map, max, min, slice_index_or}
use Rattle.std.specs.List.{AllZip, flat_map, range_with_len}
use Rattle.ibp_algebra.specs.FormalSum.{IsCanonical}
use Rattle.ibp_algebra.specs.Field.{unstripped}
use Rattle.ibp_algebra.specs.Identity.{in_sector_of, IsIdentityRow}
use Rattle.ibp_algebra.specs.Spans.{IsReducedForm}
pub use Rattle.sector_lattice.specs.declared.integral.Integral.{Integral}
use Rattle.sector_lattice.specs.Sectors.{sector_of, dots_of, rank_of, integral_cmp, Ascends, IsProperSubsector}
use Rattle.sector_lattice.specs.Seeds.{AreSeeds}
use Rattle.sparse_rows.specs.Rows.{IntegralSum, coefficient_of, is_zero_integral}
use Rattle.family.specs.Caps.{caps_of}
use Rattle.family.specs.FamilyData.{FamilyData}
use Rattle.family.specs.declared.parts.StrippedField.{StrippedField}
use Rattle.row_echelon.specs.RowSpans.{WholeSpan}

-- the greatest value at an integral of the list
abbrev pub greatest : (Integral → ℕ) → List Integral → ℕ
greatest f [] = 0
greatest f (integral ∷ integrals) = max (f integral) (greatest f integrals)

abbrev pub dots_bound : FamilyData → ℕ → List Integral → ℕ
dots_bound family sector targets = min (caps_of family.bounds family.caps sector).0 (greatest dots_of targets + family.bounds.extra_dots)

abbrev pub rank_bound : FamilyData → ℕ → List Integral → ℕ
rank_bound family sector targets = min (caps_of family.bounds family.caps sector).1 (greatest rank_of targets + family.bounds.extra_rank)

abbrev pub AreSeedsFor : FamilyData → ℕ → List Integral → List Integral → Type 0
AreSeedsFor family sector targets seeds = AreSeeds sector family.n (dots_bound family sector targets) (rank_bound family sector targets) seeds

-- fields are numbered from 1
pub record Label : Type 0 where
  pub seed : Integral
  pub field : ℕ

abbrev pub labels_at : ℕ → Integral → List Label
labels_at count seed = map (λ number. record { seed = seed; field = number }) (range_with_len 1 count)

abbrev pub labels : ℕ → List Integral → List Label
labels count seeds = flat_map (labels_at count) seeds

pub record IsCandidate (family : FamilyData) (seed : Integral) (field : StrippedField) (row : IntegralSum) : Type 0 where
  pub identity : IsIdentityRow family.n family.gamma family.baikov (unstripped (in_sector_of seed) field.c) seed (is_zero_integral family.zero) row
  pub canonical : IsCanonical integral_cmp row

-- the field of a number, from 1 on
abbrev pub field_numbered : List StrippedField → ℕ → StrippedField
field_numbered fields number = slice_index_or fields (number - 1) (record { c = []; b = [] })

abbrev pub AreCandidates : FamilyData → List StrippedField → List Integral → List IntegralSum → Type 0
AreCandidates family fields seeds rows =
    AllZip (λ label row. IsCandidate family label.seed (field_numbered fields label.field) row) (labels (length fields) seeds) rows

abbrev pub target_row : Integral → IntegralSum
target_row target = (target, 1) ∷ []

pub record OccursFor (candidates : List IntegralSum) (target integral : Integral) : Type 0 where
  pub form : IntegralSum
  pub reduced : IsReducedForm integral_cmp (WholeSpan integral_cmp candidates) (target_row target) form
  pub occurs : coefficient_of form integral ≢ 0

abbrev pub OccursInForm : List IntegralSum → List Integral → Integral → Type 0
OccursInForm candidates targets integral = Any (λ target. OccursFor candidates target integral) targets

pub record AreTails (sector : ℕ) (targets : List Integral) (candidates : List IntegralSum) (tails : List Integral) : Type 0 where
  pub ascend : Ascends tails
  pub members : (integral : Integral) → Contains tails integral ↔ (IsProperSubsector (sector_of integral) sector × OccursInForm candidates targets integral)
