use Rattle.std.proofs.Common.{◌≡◌}
use Rattle.std.specs.FinMap as map
use Rattle.toml.specs.View.{members_view, table_view}
use Rattle.family_file.specs.Reading.{collect}
use Rattle.family_file.specs.Table.{entries_list}
use Rattle.family_file.specs.Polynomials.{named_number}
use Rattle.family_file.specs.Accumulated.{numbers_after}
use Rattle.family_file.proofs.named.collect_numbers.Given as goal

-- the numbers so far, and those of the entries that are left
abbrev pub invariant-loop-name : goal.invariant-loop-name
invariant-loop-name l = numbers_after l.numbers (collect named_number (entries_list (members_view l.name-iterator))) ≡ numbers_after map.empty (collect named_number (entries_list (table_view l.table)))
