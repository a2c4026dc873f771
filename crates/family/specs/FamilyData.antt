-- A family: what a file describes.
use Rattle.std.specs.Prelude.{ℕ, ℤ, List, Option}
use Rattle.ibp_algebra.specs.Polynomial.{Polynomial}
use Rattle.sector_lattice.specs.declared.sector.Sector.{Sector}
use Rattle.family.specs.declared.parts.Bounds.{Bounds}
use Rattle.family.specs.declared.parts.Budget.{Budget}
use Rattle.family.specs.declared.parts.Probe.{Probe}
use Rattle.family.specs.declared.parts.SectorCaps.{SectorCaps}

pub record FamilyData : Type 0 where
  pub name : List ℕ
  pub n : ℕ
  pub gamma : ℕ
  pub baikov : Polynomial
  pub targets : List (List ℤ)
  pub zero : List Sector
  pub bounds : Bounds
  pub caps : List SectorCaps
  pub symmetries : List (List ℕ)
  pub budget : Budget
  pub probe : Option Probe
