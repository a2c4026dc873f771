-- Each candidate is that of some seed and field, and at most one list is the candidates of some fields at some seeds.
use Rattle.std.proofs.Common.{◌≡◌, ℕ, zero, suc, ◌<◌, List, [], ◌∷◌, length, refl, not-suc-le-zero, le_of_suc-le-suc}
use Rattle.std.specs.List.{AllZip}
use Rattle.ibp_algebra.specs.Identity.{in_sector_of}
use Rattle.ibp_algebra.specs.Field.{unstripped}
use Rattle.ibp_algebra.specs.Spans.{row_at}
use Rattle.ibp_relation.proofs.Outcomes.{one_row}
use Rattle.sparse_rows.specs.Rows.{IntegralSum, is_zero_integral}
use Rattle.family.specs.Within.{DataWithin}
use Rattle.family.specs.FamilyData.{FamilyData}
use Rattle.sparse_poly.specs.declared.limits.TheConstants.{DEGREE_LIMIT}
use Rattle.family.specs.declared.parts.StrippedField.{StrippedField}
use Rattle.sector_job.specs.Candidates.{Integral, labels, field_numbered, IsCandidate, AreCandidates}

zipped_at : {A : Type 0} (R : A → IntegralSum → Type 0) (xs : List A) (rows : List IntegralSum) → AllZip R xs rows → (k : ℕ) → k < length rows → (x : A) × R x (row_at rows k)
zipped_at R [] [] h k within = absurd (not-suc-le-zero within)
zipped_at R [] (row ∷ rows) h k within = absurd h
zipped_at R (x ∷ xs) [] h k within = absurd h
zipped_at R (x ∷ xs) (row ∷ rows) h zero within = (x, h.0)
zipped_at R (x ∷ xs) (row ∷ rows) h (suc k) within = zipped_at R xs rows h.1 k (le_of_suc-le-suc within)

-- the candidate at a place is that of some seed and field
pub candidate_at : (family : FamilyData) (fields : List StrippedField) (seeds : List Integral) (rows : List IntegralSum) → AreCandidates family fields seeds rows
    → (k : ℕ) → k < length rows → (seed : Integral) × (field : StrippedField) × IsCandidate family seed field (row_at rows k)
candidate_at family fields seeds rows h k within =
    let found = zipped_at (λ label row. IsCandidate family label.seed (field_numbered fields label.field) row) (labels (length fields) seeds) rows h k within in
    (found.0.seed, field_numbered fields found.0.field, found.1)

-- two lists of rows that go with one list, where at most one row goes with each of its elements
zipped_once : {A : Type 0} (R : A → IntegralSum → Type 0) → ((x : A) (row other : IntegralSum) → R x row → R x other → row ≡ other)
    → (xs : List A) (rows others : List IntegralSum) → AllZip R xs rows → AllZip R xs others → rows ≡ others
zipped_once R one [] [] [] h k = refl
zipped_once R one [] [] (other ∷ others) h k = absurd k
zipped_once R one [] (row ∷ rows) others h k = absurd h
zipped_once R one (x ∷ xs) [] others h k = absurd h
zipped_once R one (x ∷ xs) (row ∷ rows) [] h k = absurd k
zipped_once R one (x ∷ xs) (row ∷ rows) (other ∷ others) h k = λ i. one x row other h.0 k.0 i ∷ zipped_once R one xs rows others h.1 k.1 i

-- at most one list is the candidates of some fields at some seeds
pub one_list : (family : FamilyData) → DataWithin family → (fields : List StrippedField) (seeds : List Integral) (rows others : List IntegralSum)
    → AreCandidates family fields seeds rows → AreCandidates family fields seeds others → rows ≡ others
one_list family limits fields seeds rows others h k =
    zipped_once (λ label row. IsCandidate family label.seed (field_numbered fields label.field) row)
    (λ label row other p q.
    one_row family.n DEGREE_LIMIT family.gamma family.baikov (unstripped (in_sector_of label.seed) (field_numbered fields label.field).c) label.seed (is_zero_integral family.zero) row other
    limits.few_variables limits.polynomial limits.not_zero p.canonical q.canonical p.identity q.identity)
    (labels (length fields) seeds) rows others h k
