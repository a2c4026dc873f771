-- The candidates are listed seed by seed, and at each seed template by template.
use Rattle.std.proofs.Common.{◌≡◌, ℕ, zero, suc, ◌+◌, ◌<◌, ◌≤◌, List, [], ◌∷◌, ◌++◌, length, get_or, refl, sym, ap, subst, ◌∙◌, arith}
use Rattle.std.specs.List.{All, AllZip}
use Rattle.ibp_algebra.specs.FormalSum.{IsCanonical}
use Rattle.std.proofs.lemmas.List.{get_or_default}
use Rattle.ibp_base.proofs.Zips.{length-zip}
use Rattle.sector_lattice.specs.Sectors.{sector_of, integral_cmp}
use Rattle.sparse_rows.specs.Rows.{IntegralSum, is_zero_integral}
use Rattle.family.specs.FamilyData.{FamilyData}
use Rattle.family.specs.declared.parts.StrippedField.{StrippedField}
use Rattle.ibp_relation.specs.declared.affine.AffineTerm.{AffineTerm}
use Rattle.ibp_relation.specs.Templates.{FitsSeeds, IsSectorTemplate, IsTemplateRow}
use Rattle.ibp_relation.proofs.TermsAtSeed.{sector_row}
use Rattle.sector_job.specs.Candidates.{Integral}
use Rattle.sector_job.specs.FieldTemplates.{AreTemplates, HaveTemplates, AreCandidatesAt, AreCandidatesOf}
use Rattle.sector_job.proofs.Listing.{Front, front_none, front_more, Lists, lists_more, lists_whole}

zipped_at : {A B : Type 0} (R : A → B → Type 0) (xs : List A) (ys : List B) (i : ℕ) (d : A) (e : B) → AllZip R xs ys → i < length ys → R (get_or xs i d) (get_or ys i e)
zipped_at R [] [] i d e h below = absurd (omega arith)
zipped_at R [] (y ∷ ys) i d e h below = absurd h
zipped_at R (x ∷ xs) [] i d e h below = absurd h
zipped_at R (x ∷ xs) (y ∷ ys) zero d e h below = h.0
zipped_at R (x ∷ xs) (y ∷ ys) (suc i) d e h below = zipped_at R xs ys i d e h.1 (omega arith)

-- templates fit each seed
pub templates_fit : (family : FamilyData) (sector : ℕ) (fields : List StrippedField) (templates : List (List AffineTerm)) → AreTemplates family sector fields templates
    → All (All (FitsSeeds family.n)) templates
templates_fit family sector fields templates h k d below =
    (zipped_at (IsSectorTemplate family.n family.gamma sector) fields templates k (record { c = []; b = [] }) d h below).fits

module _ (family : FamilyData) (templates : List (List AffineTerm)) where
  -- the candidates at a seed of the fields of the templates before a place
  pub record FrontOf (seed : Integral) (i : ℕ) (rows : List IntegralSum) : Type 0 where
    pub of_fields : (fields : List StrippedField) → HaveTemplates family (sector_of seed) fields templates → Front family fields seed i rows

  pub front_of_none : (seed : Integral) → FrontOf seed 0 []
  front_of_none seed = record { of_fields = λ fields have. front_none family fields seed }

  pub front_of_more : (seed : Integral) (i : ℕ) (template : List AffineTerm) (row : IntegralSum) (rows new : List IntegralSum) → i < length templates → template ≡ get_or templates i template
      → IsTemplateRow family.n family.gamma family.baikov template seed (is_zero_integral family.zero) row → IsCanonical integral_cmp row → new ≡ rows ++ row ∷ []
      → FrontOf seed i rows → FrontOf seed (i + 1) new
  front_of_more seed i template row rows new below is made canonical pushed h =
      record {
        of_fields = λ fields have.
            let none : StrippedField = record { c = []; b = [] } in
            let field = get_or fields i none in
            let within : i < length fields = omega (arith, length-zip (IsSectorTemplate family.n family.gamma (sector_of seed)) fields templates have.made) in
            let its : IsSectorTemplate family.n family.gamma (sector_of seed) field template =
            subst (IsSectorTemplate family.n family.gamma (sector_of seed) field) (sym is) (zipped_at (IsSectorTemplate family.n family.gamma (sector_of seed)) fields templates i none template have.made below)
            in
            front_more family fields seed i field row rows new within (get_or_default fields i none field within)
            (record {
              identity = sector_row family.n family.gamma family.baikov (sector_of seed) field template seed (is_zero_integral family.zero) row refl
                  (have.shape i none within) (have.members i none within) its made;
              canonical = canonical;
            })
            pushed (h.of_fields fields have);
      }

  pub front_of_whole : (seed : Integral) (i : ℕ) (rows : List IntegralSum) → length templates ≤ i → i ≤ length templates → FrontOf seed i rows → AreCandidatesAt family templates seed rows
  front_of_whole seed i rows long short h =
      record {
        of_fields = λ fields have.
            let whole : i ≡ length fields = omega (arith, length-zip (IsSectorTemplate family.n family.gamma (sector_of seed)) fields templates have.made) in
            subst (λ n. Front family fields seed n rows) whole (h.of_fields fields have);
      }

  -- the candidates at the seeds before a place
  pub record ListsOf (seeds : List Integral) (i : ℕ) (rows : List IntegralSum) : Type 0 where
    pub of_fields : (sector : ℕ) (fields : List StrippedField) → All (λ seed. sector_of seed ≡ sector) seeds → HaveTemplates family sector fields templates → Lists family fields seeds i rows

  pub lists_of_none : (seeds : List Integral) → ListsOf seeds 0 []
  lists_of_none seeds = record { of_fields = λ sector fields own have. tt }

  pub lists_of_more : (seeds : List Integral) (i : ℕ) (seed : Integral) (rows more new : List IntegralSum) → i < length seeds → seed ≡ get_or seeds i seed
      → AreCandidatesAt family templates seed more → new ≡ rows ++ more → ListsOf seeds i rows → ListsOf seeds (i + 1) new
  lists_of_more seeds i seed rows more new below is at pushed h =
      record {
        of_fields = λ sector fields own have.
            let here : sector ≡ sector_of seed = sym (ap sector_of is ∙ own i seed below) in
            lists_more family fields seeds i seed rows more new below is (at.of_fields fields (subst (λ s. HaveTemplates family s fields templates) here have)) pushed (h.of_fields sector fields own have);
      }

  pub lists_of_whole : (seeds : List Integral) (i : ℕ) (rows : List IntegralSum) → length seeds ≤ i → ListsOf seeds i rows → AreCandidatesOf family templates seeds rows
  lists_of_whole seeds i rows long h = record { of_fields = λ sector fields own have. lists_whole family fields seeds i rows long (h.of_fields sector fields own have) }
