-- The fields that relations name, and their identities.
use Rattle.std.proofs.Common.{◌≡◌, ◌≢◌, ℕ, ◌-◌, ◌≤◌, Bool, true, false, true≢false, not, List, [], ◌∷◌, cond, refl, sym, ◌∙◌, subst}
use Rattle.std.specs.Prelude.{◌==◌, nat_eq, ℤ, IsTrue, ◌↔◌, Some, None, slice_get}
use Rattle.std.specs.List.{All, AllByRecursion, find}
use Rattle.std.proofs.lemmas.Bool.{eqb-true}
use Rattle.std.proofs.lemmas.List.Elements.{All-from_recursion, recursion_from_All, All-get_or}
use Rattle.std.proofs.lemmas.Option.{option_and_then_some, same_Some, none-some, slice_get_within, get_or_from_slice_get}
use Rattle.ibp_algebra.specs.Field.{unstripped}
use Rattle.ibp_algebra.specs.FormalSum.{IsCanonical}
use Rattle.ibp_algebra.specs.Identity.{in_sector_of, IsIdentityRow}
use Rattle.mono_order.specs.declared.limits.TheConstants.{VARIABLES}
use Rattle.sector_lattice.specs.Sectors.{integral_cmp, sector_of}
use Rattle.sector_lattice.specs.declared.sector.Sector.{Sector}
use Rattle.sparse_rows.specs.Equality.{same_terms_decide}
use Rattle.sparse_rows.specs.Rows.{IntegralSum, same_terms, is_zero_integral}
use Rattle.family.specs.Conditions.{IsInSectorModule}
use Rattle.family.specs.FamilyData.{FamilyData}
use Rattle.family.specs.Shapes.{IsPolynomial}
use Rattle.family.specs.declared.parts.StrippedField.{StrippedField}
use Rattle.ibp_relation.proofs.Outcomes.{one_row}
use Rattle.system_text.specs.SystemValues.{IsBlock, IsStripped}
use Rattle.system_text.specs.declared.value.SectorBlock.{SectorBlock}
use Rattle.system_text.specs.declared.value.Written.{Written}
use Rattle.system_check.specs.Rightness.{IsRightBlock, IsRightField, IsRightRelation, field_named, first_block}

found_is : {A : Type 0} (P : A → Type 0) (test : A → Bool) (xs : List A) (x : A) → AllByRecursion P xs → find test xs ≡ Some x → P x × (test x ≡ true)
found_is P test [] x all e = absurd (none-some x e)
found_is {A} P test (y ∷ xs) x all e = by (test y) refl e (λ later. found_is P test xs x all.1 later)
  where
    by : (b : Bool) → test y ≡ b → cond b (Some y) (find test xs) ≡ Some x → (find test xs ≡ Some x → P x × (test x ≡ true)) → P x × (test x ≡ true)
    by true is e others = let same : y ≡ x = same_Some y x e in (subst P same all.0, subst (λ (z : A). test z ≡ true) same is)
    by false is e others = others e

at_is : {A : Type 0} (P : A → Type 0) (xs : List A) (i : ℕ) (x : A) → All P xs → slice_get xs i ≡ Some x → P x
at_is P xs i x all e = subst P (get_or_from_slice_get xs i x x e) (All-get_or P xs i x (slice_get_within xs i x e) all)

abbrev pub IsNamed : ℕ → FamilyData → Sector → StrippedField → Type 0
IsNamed n family sector field = IsStripped n field × IsRightField family sector field

-- a field that a relation names is one of its sector
pub named_is : (n : ℕ) (family : FamilyData) (blocks : List SectorBlock) (sector : Sector) (k : ℕ) (field : StrippedField)
    → AllByRecursion (IsBlock n) blocks → All (IsRightBlock family) blocks → field_named blocks sector k ≡ Some field → IsNamed n family sector field
named_is n family blocks sector k field are right e =
    option_and_then_some (λ (block : SectorBlock). slice_get block.fields (k - 1)) (first_block blocks sector) field e
    (λ (block : SectorBlock) (first : first_block blocks sector ≡ Some block) (at : slice_get block.fields (k - 1) ≡ Some field).
    let test : SectorBlock → Bool = λ b. b.sector.0 == sector.0 in
    let shape = found_is (IsBlock n) test blocks block are first in
    let fields = found_is (IsRightBlock family) test blocks block (recursion_from_All (IsRightBlock family) blocks right) first in (
      at_is (IsStripped n) block.fields (k - 1) field (All-from_recursion (IsStripped n) block.fields shape.0.fields) at,
      subst (λ (s : ℕ). IsInSectorModule family.baikov s field) (eqb-true block.sector.0 sector.0 shape.1) (at_is (IsRightField family block.sector) block.fields (k - 1) field fields.0 at),
    ))

pub at_sector : (family : FamilyData) (sector : Sector) (seed : ℕ) (field : StrippedField) → seed ≡ sector.0 → IsRightField family sector field → IsInSectorModule family.baikov seed field
at_sector family sector seed field same is = subst (λ (s : ℕ). IsInSectorModule family.baikov s field) (sym same) is

abbrev IsIdentityOf : FamilyData → StrippedField → List ℤ → IntegralSum → Type 0
IsIdentityOf family field seed row = IsIdentityRow family.n family.gamma family.baikov (unstripped (in_sector_of seed) field.c) seed (is_zero_integral family.zero) row

-- the field that is named is the one, and its identity has one row
pub right_where_same : (family : FamilyData) (degree : ℕ) (blocks : List SectorBlock) (r : Written) (field : StrippedField) (row : IntegralSum) (same : Bool)
    → family.n ≤ VARIABLES → IsPolynomial family.n degree family.baikov → family.baikov ≢ []
    → field_named blocks r.sector r.field ≡ Some field → sector_of r.seed ≡ r.sector.0
    → IsCanonical integral_cmp row → IsCanonical integral_cmp r.row → IsIdentityOf family field r.seed row → same ≡ same_terms row r.row
    → IsTrue same ↔ IsRightRelation family blocks r
right_where_same family degree blocks r field row same few shape some named seed canonical other is tested = (forth, back)
  where
    forth : IsTrue same → IsRightRelation family blocks r
    forth holds =
        record {
          field = field;
          named = named;
          seed = seed;
          row = subst (IsIdentityOf family field r.seed) ((same_terms_decide row r.row).0 (sym tested ∙ holds)) is;
        }

    back : IsRightRelation family blocks r → IsTrue same
    back right =
        let one : right.field ≡ field = same_Some right.field field (sym right.named ∙ named) in
        let its : IsIdentityOf family field r.seed r.row = subst (λ (f : StrippedField). IsIdentityOf family f r.seed r.row) one right.row in
        tested ∙ (same_terms_decide row r.row).1
        (one_row family.n degree family.gamma family.baikov (unstripped (in_sector_of r.seed) field.c) r.seed (is_zero_integral family.zero) row r.row few shape some canonical other is its)

pub unnamed : (family : FamilyData) (blocks : List SectorBlock) (r : Written) → field_named blocks r.sector r.field ≡ None → ¬ IsRightRelation family blocks r
unnamed family blocks r none right = none-some right.field (sym none ∙ right.named)

-- two numbers that are not told apart
pub same_numbers : (a b : ℕ) (differ : Bool) → differ ≡ not (nat_eq a b) → differ ≡ false → a ≡ b
same_numbers a b differ tested fails = by (nat_eq a b) refl (sym tested ∙ fails)
  where
    by : (same : Bool) → nat_eq a b ≡ same → not same ≡ false → a ≡ b
    by true is e = eqb-true a b is
    by false is e = absurd (true≢false e)
