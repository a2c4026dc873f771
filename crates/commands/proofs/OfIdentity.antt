-- `identity` refuses a family in one way, and only one that it doesn't accept.
use Rattle.std.proofs.Common.{◌≡◌, ℕ, ◌-◌, List, refl, ap, subst, arith}
use Rattle.ibp_algebra.specs.Field.{IsDivided}
use Rattle.sector_lattice.specs.Sectors.{sector_of}
use Rattle.family.specs.Conditions.{in_sector}
use Rattle.family.specs.declared.parts.Probe.{Probe}
use Rattle.family.specs.FamilyData.{FamilyData}
use Rattle.ibp_relation.specs.Conditions.{IsFirstUndivided}
use Rattle.ibp_relation.proofs.Outcomes.{first_unique}
use Rattle.commands.specs.Identity.{MeetsProbe, IsIdentityText, IsNotDivisible, IsNotTangent, RefusesIdentity}
use Rattle.commands.specs.declared.status.Status.{Status}
use Rattle.commands.specs.declared.status.Status.TheVariants.{NotDivisible, NotTangent}
use Rattle.commands.proofs.Probes.{same_probe, divisible_again, tangent_again}

same_variable : (family : FamilyData) (i j : ℕ) → IsNotDivisible family i → IsNotDivisible family j → i ≡ j
same_variable family i j first other =
    let moved : IsFirstUndivided (in_sector (sector_of first.probe.seed)) first.probe.field.a j =
    subst (λ (p : Probe). IsFirstUndivided (in_sector (sector_of p.seed)) p.field.a j) (same_probe family other.probe first.probe other.given first.given) other.first in
    first_unique (in_sector (sector_of first.probe.seed)) first.probe.field.a i j first.first moved

divided_or_not : (family : FamilyData) (i : ℕ) → IsNotDivisible family i → IsNotTangent family → ⊥
divided_or_not family i first other =
    let divided : IsDivided (in_sector (sector_of first.probe.seed)) first.probe.field.a =
    subst (λ (p : Probe). IsDivided (in_sector (sector_of p.seed)) p.field.a) (same_probe family other.probe first.probe other.given first.given) other.divided in
    first.first.undivided (divided (i - 1) (omega (arith, first.first.some, first.first.within)) first.first.in_sector)

pub identity_meets : (family : FamilyData) (text : List ℕ) → IsIdentityText family text → MeetsProbe family
identity_meets family text is = record { probe = is.is_row.probe; given = is.is_row.given; conditions = is.is_row.conditions }

pub identity_not_refused : (family : FamilyData) (status : Status) → MeetsProbe family → RefusesIdentity family status → ⊥
identity_not_refused family (NotDivisible i) met refused = divisible_again family i met refused
identity_not_refused family NotTangent met refused = tangent_again family met refused
identity_not_refused family status met refused = refused

once_divisible : (family : FamilyData) (i : ℕ) (status : Status) → IsNotDivisible family i → RefusesIdentity family status → NotDivisible i ≡ status
once_divisible family i (NotDivisible j) first refused = ap NotDivisible (same_variable family i j first refused)
once_divisible family i NotTangent first refused = absurd (divided_or_not family i first refused)
once_divisible family i status first refused = absurd refused

once_tangent : (family : FamilyData) (status : Status) → IsNotTangent family → RefusesIdentity family status → NotTangent ≡ status
once_tangent family (NotDivisible j) first refused = absurd (divided_or_not family j refused first)
once_tangent family NotTangent first refused = refl
once_tangent family status first refused = absurd refused

-- a family and its probe are refused in one way
pub identity_once : (family : FamilyData) (first second : Status) → RefusesIdentity family first → RefusesIdentity family second → first ≡ second
identity_once family (NotDivisible i) second refused also = once_divisible family i second refused also
identity_once family NotTangent second refused also = once_tangent family second refused also
identity_once family first second refused also = absurd refused
