-- `check` says no to a text for one fault, and only to one that isn't right.
use Rattle.std.proofs.Common.{◌≡◌, ℕ, List, ap}
use Rattle.family.specs.FamilyData.{FamilyData}
use Rattle.family.specs.Within.{DataWithin}
use Rattle.system_check.specs.Checking.{IsFault}
use Rattle.system_check.specs.Rightness.{IsRight}
use Rattle.system_check.specs.declared.fault.CheckFault.{CheckFault}
use Rattle.system_check.proofs.OneFault.{one_fault, right_has_no_fault}
use Rattle.commands.specs.Check.{RefusesCheck}
use Rattle.commands.specs.declared.status.Status.{Status}
use Rattle.commands.specs.declared.status.Status.TheVariants.{CheckedNo}

pub check_not_refused : (family : FamilyData) (written : List ℕ) (status : Status) → DataWithin family → IsRight family written → RefusesCheck family written status → ⊥
check_not_refused family written (CheckedNo fault) within right refused = right_has_no_fault family written fault within.some_variables within.few_variables right refused
check_not_refused family written status within right refused = refused

once_no : (family : FamilyData) (written : List ℕ) (fault : CheckFault) (status : Status) → DataWithin family → IsFault family written fault → RefusesCheck family written status → CheckedNo fault ≡ status
once_no family written fault (CheckedNo other) within one refused = ap CheckedNo (one_fault family written fault other within.some_variables within.few_variables one refused)
once_no family written fault status within one refused = absurd refused

pub check_once : (family : FamilyData) (written : List ℕ) (first second : Status) → DataWithin family → RefusesCheck family written first → RefusesCheck family written second → first ≡ second
check_once family written (CheckedNo fault) second within refused also = once_no family written fault second within refused also
check_once family written first second within refused also = absurd refused
