-- The texts of sector blocks and of systems, as lists of bytes. A line ends with the byte 10.
--     block_text block        sector 1 fields 1, and then for each field
--                             field 1: 1*z1 + 1 ; 1*z1
--     relation_text k r       relation 1: sector 1 seed [2] field 1
--                             row 2147483646*I[2] 5*I[1]
--     reduction_text r        target [3]
--                             reduces 10*I[1]
--                             weights 1:2147483645 2:1073741823
--     body_text system        the family's name, the blocks, the numbered relations and the reductions,
--                             with the number of each in front of them
--     system_text system      this behind the first line of a system
--     fold_text system        and behind that of a folded system
-- Source: formats of our own.
use Rattle.std.specs.Prelude.{ℕ, List, [], ◌∷◌, ◌++◌, length, codes, decimal}
use Rattle.std.specs.List.{flat_map, enumerate_from}
use Rattle.family.specs.declared.parts.StrippedField.{StrippedField}
use Rattle.system_text.specs.declared.value.SectorBlock.{SectorBlock}
use Rattle.system_text.specs.declared.value.Written.{Written}
use Rattle.system_text.specs.declared.value.Reduction.{Reduction}
use Rattle.system_text.specs.declared.value.System.{System}
use Rattle.system_text.specs.Texts.{joined, residue_text, poly_text, integral_text, row_text}

abbrev pub line : List ℕ → List ℕ
line text = text ++ codes "\n"

-- how many elements there are
abbrev pub count_line : {A : Type 0} → List ℕ → List A → List ℕ
count_line word elements = line (word ++ codes " " ++ decimal (length elements))

-- the texts of the elements, which are numbered from 1
abbrev pub numbered : {A : Type 0} → (ℕ → A → List ℕ) → List A → List ℕ
numbered text elements = flat_map (λ e. text e.0 e.1) (enumerate_from 1 elements)

abbrev pub field_text : ℕ → StrippedField → List ℕ
field_text k field = line (codes "field " ++ decimal k ++ codes ": " ++ joined poly_text (codes ", ") field.c ++ codes " ; " ++ poly_text field.b)

abbrev pub block_text : SectorBlock → List ℕ
block_text block = line (codes "sector " ++ decimal block.sector.0 ++ codes " fields " ++ decimal (length block.fields)) ++ numbered field_text block.fields

abbrev pub relation_text : ℕ → Written → List ℕ
relation_text k r =
    line (codes "relation " ++ decimal k ++ codes ": sector " ++ decimal r.sector.0 ++ codes " seed " ++ integral_text r.seed ++ codes " field " ++ decimal r.field)
    ++ line (codes "row " ++ row_text r.row)

-- a weight and the number of its relation
abbrev pub weight_text : ℕ × ℕ → List ℕ
weight_text weight = decimal weight.0 ++ codes ":" ++ residue_text weight.1

abbrev pub weights_text : List (ℕ × ℕ) → List ℕ
weights_text [] = codes "none"
weights_text (weight ∷ weights) = joined weight_text (codes " ") (weight ∷ weights)

abbrev pub reduction_text : Reduction → List ℕ
reduction_text r = line (codes "target " ++ integral_text r.target) ++ line (codes "reduces " ++ row_text r.reduced) ++ line (codes "weights " ++ weights_text r.weights)

abbrev pub body_text : System → List ℕ
body_text system =
    line (codes "family " ++ system.name)
    ++ count_line (codes "sectors") system.sectors
    ++ flat_map block_text system.sectors
    ++ count_line (codes "relations") system.relations
    ++ numbered relation_text system.relations
    ++ count_line (codes "targets") system.reductions
    ++ flat_map reduction_text system.reductions
    ++ line (codes "end")

abbrev pub system_text : System → List ℕ
system_text system = line (codes "neatibp-system 1") ++ body_text system

abbrev pub fold_text : System → List ℕ
fold_text system = line (codes "neatibp-fold 1") ++ body_text system
