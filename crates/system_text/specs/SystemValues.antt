-- The system values for n: the values of which texts are read.
--     IsIntegral n powers       n powers, within the bounds of powers
--     IsRow n row               canonical, over such integrals
--     AreWeights weights        numbers that ascend from 1 on, each with a residue that is not zero
--     IsBlock, IsRelation, IsReduction n      the parts of a system
--     IsSystemValue n system    a system for n variables
-- Numbers and counts are below 2 ^ 32. Seeds and targets have powers from -30 to 30.
-- Source: formats of our own.
use Rattle.std.specs.Prelude.{◌≡◌, true, ℕ, ℤ, ◌<◌, ◌≤◌, ◌^◌, List, [], ◌∷◌, length}
use Rattle.std.specs.List.{AllByRecursion}
use Rattle.ibp_field.specs.declared.TheConstants.{PRIME}
use Rattle.ibp_algebra.specs.FormalSum.{AllKeys, IsCanonical}
use Rattle.mono_order.specs.declared.limits.TheConstants.{RUN_DEGREE}
use Rattle.sector_lattice.specs.Sectors.{integral_cmp}
use Rattle.sector_lattice.specs.Ranges.{AreSmall}
use Rattle.family.specs.Name.{is_name}
use Rattle.family.specs.Shapes.{IsField, ArePowers}
use Rattle.family.specs.declared.parts.StrippedField.{StrippedField}
use Rattle.system_text.specs.declared.value.SectorBlock.{SectorBlock}
use Rattle.system_text.specs.declared.value.Written.{Written}
use Rattle.system_text.specs.declared.value.Reduction.{Reduction}
use Rattle.system_text.specs.declared.value.System.{System}

pub record IsIntegral (n : ℕ) (powers : List ℤ) : Type 0 where
  pub count : length powers ≡ n
  pub small : AreSmall powers

pub record IsRow (n : ℕ) (row : List (List ℤ × ℕ)) : Type 0 where
  pub canonical : IsCanonical integral_cmp row
  pub integrals : AllKeys (IsIntegral n) row

-- the number of a relation, and a residue that is not zero
pub record IsWeight (weight : ℕ × ℕ) : Type 0 where
  pub some : 1 ≤ weight.0
  pub few : weight.0 < 2 ^ 32
  pub not_zero : 1 ≤ weight.1
  pub residue : weight.1 < PRIME

-- each number is above the one before it, and the first one is above this one
abbrev pub Ascend : ℕ → List (ℕ × ℕ) → Type 0
Ascend low [] = Unit {0}
Ascend low (weight ∷ weights) = (low < weight.0) × Ascend weight.0 weights

pub record AreWeights (weights : List (ℕ × ℕ)) : Type 0 where
  pub each : AllByRecursion IsWeight weights
  pub ascending : Ascend 0 weights

abbrev pub IsStripped : ℕ → StrippedField → Type 0
IsStripped n field = IsField n RUN_DEGREE field.c field.b

pub record IsBlock (n : ℕ) (block : SectorBlock) : Type 0 where
  pub sector : block.sector.0 < 2 ^ n
  pub few : length block.fields < 2 ^ 32
  pub fields : AllByRecursion (IsStripped n) block.fields

pub record IsRelation (n : ℕ) (r : Written) : Type 0 where
  pub sector : r.sector.0 < 2 ^ n
  pub seed : ArePowers n r.seed
  pub field : 1 ≤ r.field
  pub small : r.field < 2 ^ 32
  pub row : IsRow n r.row

pub record IsReduction (n : ℕ) (r : Reduction) : Type 0 where
  pub target : ArePowers n r.target
  pub reduced : IsRow n r.reduced
  pub weights : AreWeights r.weights

pub record IsSystemValue (n : ℕ) (system : System) : Type 0 where
  pub name : is_name system.name ≡ true
  pub variables : system.n ≡ n
  pub few_sectors : length system.sectors < 2 ^ 32
  pub sectors : AllByRecursion (IsBlock n) system.sectors
  pub few_relations : length system.relations < 2 ^ 32
  pub relations : AllByRecursion (IsRelation n) system.relations
  pub few_reductions : length system.reductions < 2 ^ 32
  pub reductions : AllByRecursion (IsReduction n) system.reductions
