-- The steps by which a family is read from the keys of its file, and what each gave.
use Rattle.std.proofs.Common.{◌≡◌, ℕ, List, length, nat_lt, Ok, Option}
use Rattle.family.specs.FamilyData.{FamilyData}
use Rattle.family.specs.declared.parts.Bounds.{Bounds}
use Rattle.family.specs.declared.parts.Budget.{Budget}
use Rattle.family.specs.declared.parts.Probe.{Probe}
use Rattle.family.specs.declared.parts.SectorCaps.{SectorCaps}
use Rattle.family_file.specs.Caps.{caps_of}
use Rattle.family_file.specs.Document.{DocumentKeys, document_keys}
use Rattle.family_file.specs.Family.{ShapeData, BodyData, table_of_bytes, name_in, shape_of, gamma_of, bounds_of, budget_of, needed_probe, sector_check, body_of, family_of_keys, family_of}
use Rattle.family_file.specs.Symmetries.{symmetries_of}
use Rattle.family_file.specs.Version.{version_of}
use Rattle.family_file.specs.declared.fault.FileFault.TheVariants as faults
use Rattle.family_file.specs.declared.limits.TheConstants.{MAX_FILE}
use Rattle.family_file.specs.declared.need.Need.{Need}
use Rattle.family_file.specs.declared.version.Version.{Version}
use Rattle.family_file.proofs.Binds.{bind_ok, unless_ok}
use Rattle.ibp_base.proofs.Tests.{same_ok}

pub record FamilySteps (need : Need) (keys : DocumentKeys) (family : FamilyData) : Type 0 where
  pub version : Version
  pub version_read : version_of keys.header.version ≡ Ok version
  pub name : List ℕ
  pub name_read : name_in keys.header.name ≡ Ok name
  pub shape : ShapeData
  pub shape_read : shape_of version keys.header ≡ Ok shape
  pub body : BodyData
  pub body_read : body_of shape.variables keys.body ≡ Ok body
  pub bounds : Bounds
  pub bounds_read : bounds_of keys.bounds ≡ Ok bounds
  pub caps : List SectorCaps
  pub caps_read : caps_of shape.variables keys.sectors ≡ Ok caps
  pub budget : Budget
  pub budget_read : budget_of keys.budget ≡ Ok budget
  pub probe : Option Probe
  pub probe_read : needed_probe need shape.variables body.numbers keys.probe ≡ Ok probe
  pub sector : Unit {0}
  pub sector_read : sector_check need shape.variables ≡ Ok sector
  pub symmetries : List (List ℕ)
  pub symmetries_read : symmetries_of shape.variables keys.symmetries ≡ Ok symmetries
  pub is : (let made : FamilyData = record { name = name; n = shape.variables; gamma = gamma_of body.dimension shape; baikov = body.baikov; targets = body.targets; zero = body.zero; bounds = bounds; caps = caps; symmetries = symmetries; budget = budget; probe = probe } in made ≡ family)

family_steps : (need : Need) (keys : DocumentKeys) (family : FamilyData) → family_of_keys need keys ≡ Ok family → FamilySteps need keys family
unfolding family_of_keys
family_steps need keys family e =
    let version = bind_ok (version_of keys.header.version) _ family e in
    let name = bind_ok (name_in keys.header.name) _ family version.1.1 in
    let shape = bind_ok (shape_of version.0 keys.header) _ family name.1.1 in
    let body = bind_ok (body_of shape.0.variables keys.body) _ family shape.1.1 in
    let bounds = bind_ok (bounds_of keys.bounds) _ family body.1.1 in
    let caps = bind_ok (caps_of shape.0.variables keys.sectors) _ family bounds.1.1 in
    let budget = bind_ok (budget_of keys.budget) _ family caps.1.1 in
    let probe = bind_ok (needed_probe need shape.0.variables body.0.numbers keys.probe) _ family budget.1.1 in
    let sector = bind_ok (sector_check need shape.0.variables) _ family probe.1.1 in
    let symmetries = bind_ok (symmetries_of shape.0.variables keys.symmetries) _ family sector.1.1 in
    record {
      version = version.0;
      version_read = version.1.0;
      name = name.0;
      name_read = name.1.0;
      shape = shape.0;
      shape_read = shape.1.0;
      body = body.0;
      body_read = body.1.0;
      bounds = bounds.0;
      bounds_read = bounds.1.0;
      caps = caps.0;
      caps_read = caps.1.0;
      budget = budget.0;
      budget_read = budget.1.0;
      probe = probe.0;
      probe_read = probe.1.0;
      sector = sector.0;
      sector_read = sector.1.0;
      symmetries = symmetries.0;
      symmetries_read = symmetries.1.0;
      is = same_ok _ family symmetries.1.1;
    }

-- the keys of an accepted file, with the steps
pub record AcceptedSteps (need : Need) (family : FamilyData) : Type 0 where
  pub keys : DocumentKeys
  pub steps : FamilySteps need keys family

pub accepted_steps : (need : Need) (bytes : List ℕ) (family : FamilyData) → family_of need bytes ≡ Ok family → AcceptedSteps need family
unfolding family_of
accepted_steps need bytes family e =
    let short = unless_ok (nat_lt MAX_FILE (length bytes)) _ faults.TooLong family e in
    let table = bind_ok (table_of_bytes bytes) _ family short.1 in
    let keys = bind_ok (document_keys table.0) _ family table.1.1 in
    record { keys = keys.0; steps = family_steps need keys.0 family keys.1.1 }
