-- At most one fault is the first.
use Rattle.std.proofs.Common.{◌≡◌, ℕ, ◌≤◌, List, ◌++◌, take, drop, refl, sym, ap, ap₂, ◌∙◌, append_assoc, arith, ⊎_elim, ◌<◌}
use Rattle.std.proofs.lemmas.Bool.{cases_lt}
use Rattle.std.proofs.lemmas.List.{take-append-drop, take-take}
use Rattle.sector_lattice.specs.declared.sector.Sector.{Sector}
use Rattle.line_reader.specs.Lines.{lines}
use Rattle.line_reader.specs.Sections.{Line}
use Rattle.family.specs.FamilyData.{FamilyData}
use Rattle.system_text.specs.BadLines.{BeginsSystem, IsBadLine}
use Rattle.system_text.specs.declared.value.System.{System}
use Rattle.system_check.specs.declared.fault.CheckFault.{CheckFault}
use Rattle.system_check.specs.declared.fault.CheckFault.TheVariants.{TooLong, BadText, BadName, BadField, BadRelation, BadTargets, BadReduction}
use Rattle.system_check.specs.Rightness.{IsRightSystem, IsRightRelation, IsRightReduction}
use Rattle.system_check.specs.Checking.{IsCause, IsFirstAt, IsFirstField, HasName, HasFields, HasRelations, HasTargets}
use Rattle.system_check.proofs.Firsts.{no_first, one_first, no_field, one_field}

-- fewer lines begin a text too
begins_less : (n : ℕ) (bytes : List ℕ) (j k : ℕ) → j ≤ k → BeginsSystem n bytes k → BeginsSystem n bytes j
begins_less n bytes j k less b =
    record {
      there = omega (arith, b.there);
      system = b.system;
      value = b.value;
      more = drop j (take k (lines bytes)) ++ b.more;
      begins = b.begins
          ∙ ap (λ (t : List Line). t ++ b.more) (sym (take-append-drop j (take k (lines bytes))) ∙ ap (λ (t : List Line). t ++ drop j (take k (lines bytes))) (take-take j k (lines bytes) less))
          ∙ append_assoc (take j (lines bytes)) (drop j (take k (lines bytes))) b.more;
    }

not_before : (n : ℕ) (bytes : List ℕ) (j k : ℕ) → IsBadLine n bytes j → IsBadLine n bytes k → ¬ (j < k)
not_before n bytes j k a b less = a.bad (begins_less n bytes j b.j (omega (arith, b.next)) b.before)

pub one_bad_line : (n : ℕ) (bytes : List ℕ) (j k : ℕ) → IsBadLine n bytes j → IsBadLine n bytes k → j ≡ k
one_bad_line n bytes j k a b =
    ⊎_elim (λ (below : j < k). absurd (not_before n bytes j k a b below))
    (λ (le : k ≤ j). ⊎_elim (λ (above : k < j). absurd (not_before n bytes k j b a above)) (λ (ge : j ≤ k). omega arith) (cases_lt k j))
    (cases_lt j k)

module _ (family : FamilyData) (system : System) where
  by_name : (fault : CheckFault) → ¬ HasName family system → IsCause family system fault → BadName ≡ fault
  by_name TooLong not c = absurd c
  by_name (BadText k) not c = absurd c
  by_name BadName not c = refl
  by_name (BadField sector k) not c = absurd (not c.0)
  by_name (BadRelation k) not c = absurd (not c.0)
  by_name BadTargets not c = absurd (not c.0)
  by_name (BadReduction k) not c = absurd (not c.0)

  by_field : (sector : Sector) (j : ℕ) (fault : CheckFault) → HasName family system → IsFirstField family sector j system.sectors
      → IsCause family system fault → BadField sector j ≡ fault
  by_field sector j TooLong name first c = absurd c
  by_field sector j (BadText k) name first c = absurd c
  by_field sector j BadName name first c = absurd (c name)
  by_field sector j (BadField other k) name first c =
      let same = one_field family sector other j k system.sectors first c.1 in ap₂ (λ (s : Sector) (i : ℕ). BadField s i) same.0 same.1
  by_field sector j (BadRelation k) name first c = absurd (no_field family sector j system.sectors c.1 first)
  by_field sector j BadTargets name first c = absurd (no_field family sector j system.sectors c.1 first)
  by_field sector j (BadReduction k) name first c = absurd (no_field family sector j system.sectors c.1 first)

  by_relation : (j : ℕ) (fault : CheckFault) → HasName family system → HasFields family system
      → IsFirstAt (IsRightRelation family system.sectors) j system.relations → IsCause family system fault → BadRelation j ≡ fault
  by_relation j TooLong name fields first c = absurd c
  by_relation j (BadText k) name fields first c = absurd c
  by_relation j BadName name fields first c = absurd (c name)
  by_relation j (BadField sector k) name fields first c = absurd (no_field family sector k system.sectors fields c.1)
  by_relation j (BadRelation k) name fields first c = ap BadRelation (one_first (IsRightRelation family system.sectors) j k system.relations first c.2)
  by_relation j BadTargets name fields first c = absurd (no_first (IsRightRelation family system.sectors) j system.relations c.2 first)
  by_relation j (BadReduction k) name fields first c = absurd (no_first (IsRightRelation family system.sectors) j system.relations c.2 first)

  by_targets : (fault : CheckFault) → HasName family system → HasFields family system → HasRelations family system → ¬ HasTargets family system
      → IsCause family system fault → BadTargets ≡ fault
  by_targets TooLong name fields relations not c = absurd c
  by_targets (BadText k) name fields relations not c = absurd c
  by_targets BadName name fields relations not c = absurd (c name)
  by_targets (BadField sector k) name fields relations not c = absurd (no_field family sector k system.sectors fields c.1)
  by_targets (BadRelation k) name fields relations not c = absurd (no_first (IsRightRelation family system.sectors) k system.relations relations c.2)
  by_targets BadTargets name fields relations not c = refl
  by_targets (BadReduction k) name fields relations not c = absurd (not c.3)

  by_reduction : (j : ℕ) (fault : CheckFault) → HasName family system → HasFields family system → HasRelations family system → HasTargets family system
      → IsFirstAt (IsRightReduction family system.relations) j system.reductions → IsCause family system fault → BadReduction j ≡ fault
  by_reduction j TooLong name fields relations targets first c = absurd c
  by_reduction j (BadText k) name fields relations targets first c = absurd c
  by_reduction j BadName name fields relations targets first c = absurd (c name)
  by_reduction j (BadField sector k) name fields relations targets first c = absurd (no_field family sector k system.sectors fields c.1)
  by_reduction j (BadRelation k) name fields relations targets first c = absurd (no_first (IsRightRelation family system.sectors) k system.relations relations c.2)
  by_reduction j BadTargets name fields relations targets first c = absurd (c.3 targets)
  by_reduction j (BadReduction k) name fields relations targets first c = ap BadReduction (one_first (IsRightReduction family system.relations) j k system.reductions first c.4)

  pub one_cause : (first second : CheckFault) → IsCause family system first → IsCause family system second → first ≡ second
  one_cause TooLong second a b = absurd a
  one_cause (BadText k) second a b = absurd a
  one_cause BadName second a b = by_name second a b
  one_cause (BadField sector k) second a b = by_field sector k second a.0 a.1 b
  one_cause (BadRelation k) second a b = by_relation k second a.0 a.1 a.2 b
  one_cause BadTargets second a b = by_targets second a.0 a.1 a.2 a.3 b
  one_cause (BadReduction k) second a b = by_reduction k second a.0 a.1 a.2 a.3 a.4 b

  pub no_cause : (fault : CheckFault) → IsRightSystem family system → ¬ IsCause family system fault
  no_cause TooLong right c = c
  no_cause (BadText k) right c = c
  no_cause BadName right c = c right.name
  no_cause (BadField sector k) right c = no_field family sector k system.sectors right.fields c.1
  no_cause (BadRelation k) right c = no_first (IsRightRelation family system.sectors) k system.relations right.relations c.2
  no_cause BadTargets right c = c.3 right.targets
  no_cause (BadReduction k) right c = no_first (IsRightReduction family system.relations) k system.reductions right.reductions c.4
