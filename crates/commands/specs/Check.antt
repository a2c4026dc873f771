-- What `check` writes of a family and a written text, and why it says no.
--     IsCheckText family written text      the line `yes`, of a text that is right for the family
--     RefusesCheck family written status   the first fault of the text
use Rattle.std.specs.Prelude.{◌≡◌, ℕ, List, codes}
use Rattle.family.specs.FamilyData.{FamilyData}
use Rattle.system_check.specs.Checking.{IsFault}
use Rattle.system_check.specs.Rightness.{IsRight}
use Rattle.commands.specs.declared.status.Status.{Status}
use Rattle.commands.specs.declared.status.Status.TheVariants.{CheckedNo}

pub record IsCheckText (family : FamilyData) (written text : List ℕ) : Type 0 where
  pub right : IsRight family written
  pub is : text ≡ codes "yes\n"

abbrev pub RefusesCheck : FamilyData → List ℕ → Status → Type 0
RefusesCheck family written (CheckedNo fault) = IsFault family written fault
RefusesCheck family written status = ⊥
