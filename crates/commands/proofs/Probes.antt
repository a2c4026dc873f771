-- What the family of a file says of its probe, and why it is refused.
use Rattle.std.proofs.Common.{◌≡◌, ◌≢◌, ◌<◌, ◌^◌, ℕ, ◌↔◌, List, Some, Result, Ok, Err, refl, sym, subst, ◌∙◌, arith}
use Rattle.std.specs.declared.alloc.Global.{Global}
use Rattle.std.specs.Prelude.{Vec, IsErrAnd, IsSome}
use Rattle.std.proofs.lemmas.Option.{same_Some}
use Rattle.ibp_algebra.specs.Field.{IsDivided, IsTangent}
use Rattle.sector_lattice.specs.Sectors.{sector_of}
use Rattle.family.specs.Conditions.{in_sector, MeetsTwoConditions}
use Rattle.family_file.specs.declared.need.Need.TheVariants as needs
use Rattle.family.specs.declared.parts.Probe.{Probe}
use Rattle.family_file.proofs.FamilyLimits.{accepted_needs}
use Rattle.family.specs.FamilyData.{FamilyData}
use Rattle.family_file.specs.Family.{family_of}
use Rattle.ibp_relation.specs.Conditions.{IsFirstUndivided}
use Rattle.ibp_relation.specs.declared.relation.IdentityFault.{IdentityFault}
use Rattle.ibp_relation.specs.declared.relation.IdentityFault.TheVariants.{NotDivisible, NotTangent, NoMemory}
use Rattle.commands.specs.Identity.{MeetsProbe, IsNotDivisible, IsNotTangent, IsIdentityText, RefusesIdentity}
use Rattle.commands.specs.Refusals.{of_identity_fault}
use Rattle.commands.specs.declared.refusal.Refusal.{Refusal}
use Rattle.commands.specs.Answers.{IsAnswer}
use Rattle.commands.specs.Causes.{need_of}
use Rattle.commands.specs.declared.words.Command.TheVariants as command

-- a family has one probe
pub same_probe : (family : FamilyData) (p q : Probe) → family.probe ≡ Some p → family.probe ≡ Some q → p ≡ q
same_probe family p q first second = same_Some p q (sym first ∙ second)

-- a field that meets the conditions is refused by neither
pub divisible_again : (family : FamilyData) (i : ℕ) → MeetsProbe family → IsNotDivisible family i → ⊥
divisible_again family i meets refused =
    let conditions : MeetsTwoConditions family.baikov (sector_of refused.probe.seed) refused.probe.field =
    subst (λ (p : Probe). MeetsTwoConditions family.baikov (sector_of p.seed) p.field) (same_probe family meets.probe refused.probe meets.given refused.given) meets.conditions in
    refused.first.undivided (conditions.divisible _ (omega (arith, refused.first.some, refused.first.within)) refused.first.in_sector)

pub tangent_again : (family : FamilyData) → MeetsProbe family → IsNotTangent family → ⊥
tangent_again family meets refused =
    let conditions : MeetsTwoConditions family.baikov (sector_of refused.probe.seed) refused.probe.field =
    subst (λ (p : Probe). MeetsTwoConditions family.baikov (sector_of p.seed) p.field) (same_probe family meets.probe refused.probe meets.given refused.given) meets.conditions in
    refused.not_tangent conditions.tangent

-- a fault of the identity refuses the family
pub refuses : {R : Type 0} (family : FamilyData) (probe : Probe) (result : Result R IdentityFault) (fault : IdentityFault) → family.probe ≡ Some probe → result ≡ Err fault
    → ((i : ℕ) → result ≢ Err NoMemory → (result ≡ Err (NotDivisible i)) ↔ IsFirstUndivided (in_sector (sector_of probe.seed)) probe.field.a i)
    → (result ≢ Err NoMemory → (result ≡ Err NotTangent) ↔ (IsDivided (in_sector (sector_of probe.seed)) probe.field.a × ¬ (IsTangent family.baikov probe.field.a probe.field.b)))
    → IsAnswer (IsIdentityText family) (RefusesIdentity family) (Err (of_identity_fault fault))
refuses family probe result (NotDivisible i) given is divisible tangent =
    let other : result ≢ Err NoMemory = λ e. absurd (cc) in
    record { probe = probe; given = given; first = (divisible i other).0 is }
refuses family probe result NotTangent given is divisible tangent =
    let other : result ≢ Err NoMemory = λ e. absurd (cc) in
    let both = (tangent other).0 is in
    record { probe = probe; given = given; divided = both.0; not_tangent = both.1 }
refuses family probe result NoMemory given is divisible tangent = tt

-- where a probe is needed, the family of a file has one
pub has_needed_probe : (bytes : List ℕ) (family : FamilyData) → family_of (need_of command.Identity) bytes ≡ Ok family → IsSome family.probe
has_needed_probe bytes family is = (accepted_needs needs.Probe bytes family is).probe refl

-- where a sector is needed, it is one of the family's
pub has_needed_sector : (number : ℕ) (bytes : List ℕ) (family : FamilyData) → family_of (need_of (command.Basis number)) bytes ≡ Ok family → number < 2 ^ family.n
has_needed_sector number bytes family is = (accepted_needs (needs.Sector number) bytes family is).sector number refl

pub has_meet_sector : (number : ℕ) (bytes : List ℕ) (family : FamilyData) → family_of (need_of (command.Meet number)) bytes ≡ Ok family → number < 2 ^ family.n
has_meet_sector number bytes family is = (accepted_needs (needs.Sector number) bytes family is).sector number refl

pub has_cut_sector : (number : ℕ) (bytes : List ℕ) (family : FamilyData) → family_of (need_of (command.Cut number)) bytes ≡ Ok family → number < 2 ^ family.n
has_cut_sector number bytes family is = (accepted_needs (needs.Sector number) bytes family is).sector number refl

pub answers_refusal : (family : FamilyData) (result : Result (Vec ℕ Global) Refusal) (r : Refusal) → IsErrAnd result (λ e. e ≡ r) → IsAnswer (IsIdentityText family) (RefusesIdentity family) (Err r) → IsAnswer (IsIdentityText family) (RefusesIdentity family) result
answers_refusal family (Ok text) r same holds = absurd same
answers_refusal family (Err e) r same holds = subst (λ (r : Refusal). IsAnswer (IsIdentityText family) (RefusesIdentity family) (Err r)) (sym same) holds
