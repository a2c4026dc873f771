-- What `drill` writes of a family and its number.
--     IsSummaryText family number text     the summary of the family's system
use Rattle.std.specs.Prelude.{◌≡◌, ℕ, List}
use Rattle.family.specs.FamilyData.{FamilyData}
use Rattle.system_text.specs.Summaries.{summary_text}
use Rattle.commands.specs.Plain.{HasSystem}

pub record IsSummaryText (family : FamilyData) (number : ℕ) (text : List ℕ) : Type 0 where
  pub of : HasSystem family
  pub is : text ≡ summary_text number of.system
