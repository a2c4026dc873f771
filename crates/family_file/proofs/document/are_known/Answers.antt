use Rattle.std.proofs.Common.{ap, sym, ◌∙◌}
use Rattle.toml.specs.View.{table_view}
use Rattle.family_file.specs.Table.{has_only}
use Rattle.family_file.proofs.Known.{known_in_version_2, known_in_others}
use Rattle.family_file.proofs.document.are_known.Goals as goal

pub returns-then-is_version_2 : goal.returns-then-is_version_2
returns-then-is_version_2 c =
    c.has_only.ensures ∙ ap (λ names. has_only names (table_view c.args.table.now)) (sym (known_in_version_2 (table_view c.args.table.now) (sym c.is_version_2.ensures ∙ c.if-is_version_2.true)))

pub returns-else-is_version_2 : goal.returns-else-is_version_2
returns-else-is_version_2 c =
    c.has_only-else-is_version_2.ensures ∙ ap (λ names. has_only names (table_view c.args.table.now)) (sym (known_in_others (table_view c.args.table.now) (sym c.is_version_2.ensures ∙ c.if-is_version_2.false)))
