-- What is known of the family of an accepted file beside its limits.
use Rattle.std.specs.Prelude.{◌≡◌, ℕ, ◌<◌, ◌^◌, IsSome}
use Rattle.family_file.specs.declared.need.Need.{Need}
use Rattle.family_file.specs.declared.need.Need.TheVariants as needs
use Rattle.family.specs.FamilyData.{FamilyData}

-- what is needed is there
pub record MeetsNeed (need : Need) (family : FamilyData) : Type 0 where
  pub probe : need ≡ needs.Probe → IsSome family.probe
  pub sector : (number : ℕ) → need ≡ needs.Sector number → number < 2 ^ family.n
