-- What `identity` writes of a family with a probe, and why it refuses one.
--     MeetsProbe family              both conditions hold for the probe's field and the seed's sector
--     IsProbeRow family row          the canonical row of the identity of the probe's field at its seed,
--                                    with the integrals of zero sectors struck
--     IsIdentityText family text     the line of this row
--     IsNotDivisible family i        z_i is the first variable of the seed's sector that does not divide
--                                    its polynomial of the probe's field
--     IsNotTangent family            the first condition holds, and the second one does not
--     RefusesIdentity family status  the status by which a family is refused
use Rattle.std.specs.Prelude.{◌≡◌, ℕ, List, ◌++◌, codes, Some}
use Rattle.ibp_algebra.specs.FormalSum.{IsCanonical}
use Rattle.ibp_algebra.specs.Field.{IsDivided, IsTangent}
use Rattle.ibp_algebra.specs.Identity.{IsIdentityRow}
use Rattle.sector_lattice.specs.Sectors.{integral_cmp, sector_of}
use Rattle.sparse_rows.specs.Rows.{IntegralSum, is_zero_integral}
use Rattle.family.specs.Conditions.{in_sector, MeetsTwoConditions}
use Rattle.family.specs.FamilyData.{FamilyData}
use Rattle.family.specs.declared.parts.Probe.{Probe}
use Rattle.ibp_relation.specs.Conditions.{IsFirstUndivided, NoneRises}
use Rattle.system_text.specs.Texts.{row_text}
use Rattle.commands.specs.declared.status.Status.{Status}
use Rattle.commands.specs.declared.status.Status.TheVariants.{NotDivisible, NotTangent}

pub record MeetsProbe (family : FamilyData) : Type 0 where
  pub probe : Probe
  pub given : family.probe ≡ Some probe
  pub conditions : MeetsTwoConditions family.baikov (sector_of probe.seed) probe.field

pub record IsProbeRow (family : FamilyData) (row : IntegralSum) : Type 0 where
  pub probe : Probe
  pub given : family.probe ≡ Some probe
  pub conditions : MeetsTwoConditions family.baikov (sector_of probe.seed) probe.field
  pub identity : IsIdentityRow family.n family.gamma family.baikov probe.field.a probe.seed (is_zero_integral family.zero) row
  pub canonical : IsCanonical integral_cmp row
  pub none_rises : NoneRises family.n family.gamma family.baikov probe.field.a probe.seed

abbrev pub row_line : IntegralSum → List ℕ
row_line row = row_text row ++ codes "\n"

pub record IsIdentityText (family : FamilyData) (text : List ℕ) : Type 0 where
  pub row : IntegralSum
  pub is_row : IsProbeRow family row
  pub line : text ≡ row_line row

pub record IsNotDivisible (family : FamilyData) (i : ℕ) : Type 0 where
  pub probe : Probe
  pub given : family.probe ≡ Some probe
  pub first : IsFirstUndivided (in_sector (sector_of probe.seed)) probe.field.a i

pub record IsNotTangent (family : FamilyData) : Type 0 where
  pub probe : Probe
  pub given : family.probe ≡ Some probe
  pub divided : IsDivided (in_sector (sector_of probe.seed)) probe.field.a
  pub not_tangent : ¬ IsTangent family.baikov probe.field.a probe.field.b

abbrev pub RefusesIdentity : FamilyData → Status → Type 0
RefusesIdentity family (NotDivisible i) = IsNotDivisible family i
RefusesIdentity family NotTangent = IsNotTangent family
RefusesIdentity family status = ⊥
