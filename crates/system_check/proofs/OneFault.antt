-- Bytes have one fault at most, and none where they are right.
use Rattle.std.proofs.Common.{◌≡◌, ℕ, ◌≤◌, List, sym, ◌∙◌}
use Rattle.family.specs.FamilyData.{FamilyData}
use Rattle.system_text.specs.SystemValues.{IsSystemValue}
use Rattle.system_text.specs.Systems.{system_text}
use Rattle.system_text.specs.declared.value.System.{System}
use Rattle.system_check.specs.Checking.{HasCause, IsFault}
use Rattle.system_check.specs.Rightness.{IsRight}
use Rattle.system_check.specs.declared.fault.CheckFault.{CheckFault}
use Rattle.system_check.specs.declared.fault.CheckFault.TheVariants.{TooLong, BadText, BadName, BadField, BadRelation, BadTargets, BadReduction}
use Rattle.system_check.proofs.Causes.{one_cause, no_cause}
use Rattle.system_check.proofs.OneValue.{one_value}
use Rattle.system_check.proofs.Verdicts.{long_one, bad_one, cause_of}

module _ (family : FamilyData) (bytes : List ℕ) where
  the_one : 1 ≤ family.n → family.n ≤ 12 → (system : System) → IsSystemValue family.n system → bytes ≡ system_text system
      → (other : System) → IsSystemValue family.n other → bytes ≡ system_text other → other ≡ system
  the_one some few system value text other is e = one_value family.n other system some few is value (sym e ∙ text)

  of_cause : (fault second : CheckFault) → 1 ≤ family.n → family.n ≤ 12 → HasCause family bytes fault → IsFault family bytes second → fault ≡ second
  of_cause fault second some few has is =
      one_cause family has.system fault second has.cause
      (cause_of family bytes has.short has.system has.value has.text (the_one some few has.system has.value has.text) second is)

  pub one_fault : (first second : CheckFault) → 1 ≤ family.n → family.n ≤ 12 → IsFault family bytes first → IsFault family bytes second → first ≡ second
  one_fault TooLong second some few a b = long_one family bytes second a b
  one_fault (BadText k) second some few a b = bad_one family bytes k second a.0 a.1 b
  one_fault BadName second some few a b = of_cause BadName second some few a b
  one_fault (BadField sector k) second some few a b = of_cause (BadField sector k) second some few a b
  one_fault (BadRelation k) second some few a b = of_cause (BadRelation k) second some few a b
  one_fault BadTargets second some few a b = of_cause BadTargets second some few a b
  one_fault (BadReduction k) second some few a b = of_cause (BadReduction k) second some few a b

  pub right_has_no_fault : (fault : CheckFault) → 1 ≤ family.n → family.n ≤ 12 → IsRight family bytes → IsFault family bytes fault → ⊥
  right_has_no_fault fault some few right is =
      no_cause family right.system fault right.right
      (cause_of family bytes right.short right.system right.value right.text (the_one some few right.system right.value right.text) fault is)
