-- The templates of the fields of a sector, and the candidates that are made of them.
-- After the divergence of a field times the integrand, in the Baikov representation. It is affine in the powers of the
-- seed.
--     AreTemplates       the templates of the fields in turn
--     HaveTemplates      fields of the module of a sector with these templates
--     AreCandidatesAt    the rows are the candidates at a seed of the fields that have these templates, whichever they are
--     AreCandidatesOf    the same at some seeds of one sector, lowest seed first
use Rattle.std.specs.Prelude.{◌≡◌, ℕ, List, length}
use Rattle.std.specs.List.{All, AllZip}
use Rattle.mono_order.specs.declared.limits.TheConstants.{RUN_DEGREE}
use Rattle.sector_lattice.specs.Sectors.{sector_of}
use Rattle.sparse_rows.specs.Rows.{IntegralSum}
use Rattle.family.specs.Conditions.{IsInSectorModule}
use Rattle.family.specs.FamilyData.{FamilyData}
use Rattle.family.specs.Shapes.{IsField}
use Rattle.family.specs.declared.parts.StrippedField.{StrippedField}
use Rattle.ibp_relation.specs.Templates.{IsSectorTemplate}
use Rattle.ibp_relation.specs.declared.affine.AffineTerm.{AffineTerm}
use Rattle.sector_job.specs.Candidates.{Integral, labels_at, field_numbered, IsCandidate, AreCandidates}

abbrev pub AreTemplates : FamilyData → ℕ → List StrippedField → List (List AffineTerm) → Type 0
AreTemplates family sector fields templates = AllZip (IsSectorTemplate family.n family.gamma sector) fields templates

pub record HaveTemplates (family : FamilyData) (sector : ℕ) (fields : List StrippedField) (templates : List (List AffineTerm)) : Type 0 where
  pub shape : All (λ field. IsField family.n RUN_DEGREE field.c field.b) fields
  pub members : All (IsInSectorModule family.baikov sector) fields
  pub made : AreTemplates family sector fields templates

pub record AreCandidatesAt (family : FamilyData) (templates : List (List AffineTerm)) (seed : Integral) (rows : List IntegralSum) : Type 0 where
  pub of_fields : (fields : List StrippedField) → HaveTemplates family (sector_of seed) fields templates
      → AllZip (λ label row. IsCandidate family label.seed (field_numbered fields label.field) row) (labels_at (length fields) seed) rows

pub record AreCandidatesOf (family : FamilyData) (templates : List (List AffineTerm)) (seeds : List Integral) (rows : List IntegralSum) : Type 0 where
  pub of_fields : (sector : ℕ) (fields : List StrippedField) → All (λ seed. sector_of seed ≡ sector) seeds → HaveTemplates family sector fields templates
      → AreCandidates family fields seeds rows
