-- The summary of a system that a drill writes, as a list of bytes: how many there are of each.
--     drill 7
--     sectors 7
--     fields 106
--     relations 35
--     terms 133
--     targets 12
--     end
-- Source: a format of our own.
use Rattle.std.specs.Prelude.{ℕ, List, ◌++◌, length, codes, decimal}
use Rattle.std.specs.List.{sum_by}
use Rattle.system_text.specs.declared.value.SectorBlock.{SectorBlock}
use Rattle.system_text.specs.declared.value.Written.{Written}
use Rattle.system_text.specs.declared.value.System.{System}
use Rattle.system_text.specs.Systems.{line, count_line}

-- a line with a word and a number
abbrev pub number_line : List ℕ → ℕ → List ℕ
number_line word number = line (word ++ codes " " ++ decimal number)

-- the fields of all sectors together
abbrev pub field_count : List SectorBlock → ℕ
field_count blocks = sum_by (λ block. length block.fields) blocks

-- the terms of all written rows together
abbrev pub term_count : List Written → ℕ
term_count relations = sum_by (λ relation. length relation.row) relations

abbrev pub summary_text : ℕ → System → List ℕ
summary_text number system =
    number_line (codes "drill") number
    ++ count_line (codes "sectors") system.sectors
    ++ number_line (codes "fields") (field_count system.sectors)
    ++ count_line (codes "relations") system.relations
    ++ number_line (codes "terms") (term_count system.relations)
    ++ count_line (codes "targets") system.reductions
    ++ line (codes "end")
