-- The conditions for the sector of a seed are those for the places of its positive powers.
use Rattle.std.proofs.Common.{◌≡◌, ℕ, Bool, List, subst}
use Rattle.std.specs.Prelude.{ℤ}
use Rattle.ibp_algebra.specs.Field.{MeetsConditions, IsInModule}
use Rattle.ibp_algebra.specs.Identity.{in_sector_of}
use Rattle.ibp_algebra.specs.Polynomial.{Polynomial}
use Rattle.sector_lattice.specs.Sectors.{sector_of}
use Rattle.family.specs.Conditions.{in_sector, MeetsTwoConditions, IsInSectorModule}
use Rattle.family.specs.declared.parts.Field.{Field}
use Rattle.family.specs.declared.parts.StrippedField.{StrippedField}
use Rattle.family.proofs.Places.{in_sector-sector_of}

pub places_of : (α : List ℤ) → in_sector (sector_of α) ≡ in_sector_of α
places_of α = λ j i. in_sector-sector_of α i j

pub conditions_at : (p : Polynomial) (α : List ℤ) (field : Field) → MeetsTwoConditions p (sector_of α) field → MeetsConditions p (in_sector_of α) field.a field.b
conditions_at p α field meets = subst (λ (inside : ℕ → Bool). MeetsConditions p inside field.a field.b) (places_of α) meets

pub module_at : (p : Polynomial) (α : List ℤ) (field : StrippedField) → IsInSectorModule p (sector_of α) field → IsInModule p (in_sector_of α) field.c field.b
module_at p α field member = subst (λ (inside : ℕ → Bool). IsInModule p inside field.c field.b) (places_of α) member
