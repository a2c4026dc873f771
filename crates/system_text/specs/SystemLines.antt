-- Texts by their lines, each with a word in front and a body.
use Rattle.std.specs.Prelude.{ℕ, ℤ, ◌<◌, ◌^◌, ◌≤◌, List, [], ◌∷◌, ◌++◌, length, codes, decimal}
use Rattle.std.specs.List.{AllByRecursion}
use Rattle.family.specs.Shapes.{ArePowers}
use Rattle.family.specs.declared.parts.StrippedField.{StrippedField}
use Rattle.sector_lattice.specs.declared.sector.Sector.{Sector}
use Rattle.line_reader.specs.Lines.{worded}
use Rattle.line_reader.specs.Sections.{Line, one_line, each_from}
use Rattle.system_text.specs.Texts.{joined, poly_text, integral_text, row_text}
use Rattle.system_text.specs.Systems.{weights_text}
use Rattle.system_text.specs.declared.value.SectorBlock.{SectorBlock}
use Rattle.system_text.specs.declared.value.Written.{Written}
use Rattle.system_text.specs.declared.value.Reduction.{Reduction}
use Rattle.system_text.specs.declared.value.System.{System}

abbrev pub IsCount : ℕ → ℕ → Type 0
IsCount n count = count < 2 ^ 32

-- elements behind the line with their number
abbrev pub counted_lines : {A : Type 0} → List ℕ → (ℕ → A → List Line) → List A → List Line
counted_lines word text xs = worded word (decimal (length xs)) ∷ each_from text 1 xs

pub record AreCounted {A : Type 0} (IsValue : A → Type 0) (xs : List A) : Type 0 where
  pub few : length xs < 2 ^ 32
  pub each : AllByRecursion IsValue xs

-- the sector of a block, and how many fields follow
abbrev pub heading_body : Sector × ℕ → List ℕ
heading_body heading = decimal heading.0.0 ++ codes " fields " ++ decimal heading.1

pub record IsHeading (n : ℕ) (heading : Sector × ℕ) : Type 0 where
  pub sector : heading.0.0 < 2 ^ n
  pub few : heading.1 < 2 ^ 32

abbrev pub field_body : ℕ → StrippedField → List ℕ
field_body k field = decimal k ++ codes ": " ++ joined poly_text (codes ", ") field.c ++ codes " ; " ++ poly_text field.b

abbrev pub field_lines : ℕ → StrippedField → List Line
field_lines k field = one_line (λ f. worded (codes "field ") (field_body k f)) field

abbrev pub block_lines : SectorBlock → List Line
block_lines block = worded (codes "sector ") (heading_body (block.sector, length block.fields)) ∷ each_from field_lines 1 block.fields

-- where a relation comes from: its sector, seed and field
abbrev pub Origin : Type 0
Origin = Sector × List ℤ × ℕ

abbrev pub origin_body : ℕ → Origin → List ℕ
origin_body k origin = decimal k ++ codes ": sector " ++ decimal origin.0.0 ++ codes " seed " ++ integral_text origin.1 ++ codes " field " ++ decimal origin.2

pub record IsOrigin (n : ℕ) (origin : Origin) : Type 0 where
  pub sector : origin.0.0 < 2 ^ n
  pub seed : ArePowers n origin.1
  pub field : 1 ≤ origin.2
  pub small : origin.2 < 2 ^ 32

abbrev pub relation_lines : ℕ → Written → List Line
relation_lines k r = worded (codes "relation ") (origin_body k (r.sector, r.seed, r.field)) ∷ worded (codes "row ") (row_text r.row) ∷ []

abbrev pub reduction_lines : Reduction → List Line
reduction_lines r =
    worded (codes "target ") (integral_text r.target) ∷ worded (codes "reduces ") (row_text r.reduced) ∷ worded (codes "weights ") (weights_text r.weights) ∷ []

abbrev pub blocks_lines : List SectorBlock → List Line
blocks_lines blocks = counted_lines (codes "sectors ") (λ _. block_lines) blocks

abbrev pub relations_lines : List Written → List Line
relations_lines relations = counted_lines (codes "relations ") relation_lines relations

abbrev pub reductions_lines : List Reduction → List Line
reductions_lines reductions = counted_lines (codes "targets ") (λ _. reduction_lines) reductions

abbrev pub name_line : List ℕ → List Line
name_line name = one_line (λ (bytes : List ℕ). worded (codes "family ") bytes) name

abbrev pub system_lines : System → List Line
system_lines system =
    codes "neatibp-system 1\n" ∷ worded (codes "family ") system.name
    ∷ (blocks_lines system.sectors ++ (relations_lines system.relations ++ (reductions_lines system.reductions ++ codes "end\n" ∷ [])))
