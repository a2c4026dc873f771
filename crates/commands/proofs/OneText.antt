-- A file determines the text that a command writes of it, and the number of a drill the text of the drill.
use Rattle.std.proofs.Common.{◌≡◌, List, sym, ap, subst, ◌∙◌}
use Rattle.ibp_algebra.specs.Identity.{IsIdentityRow}
use Rattle.sparse_rows.specs.Rows.{is_zero_integral}
use Rattle.family.specs.declared.parts.Probe.{Probe}
use Rattle.sparse_poly.specs.declared.limits.TheConstants.{DEGREE_LIMIT}
use Rattle.ibp_relation.proofs.Outcomes.{one_row}
use Rattle.commands.specs.Identity.{row_line}
use Rattle.commands.specs.OneText.{OneText}
use Rattle.commands.specs.declared.words.Command.TheVariants as command
use Rattle.family.specs.declared.parts.StrippedField.{StrippedField}
use Rattle.sector_module.proofs.OneBasis.{one_basis}
use Rattle.system_text.specs.declared.value.SectorBlock.{SectorBlock}
use Rattle.system_text.specs.Summaries.{summary_text}
use Rattle.system_text.specs.Systems.{block_text, fold_text, system_text}
use Rattle.neat_system.proofs.OneSystem.{one_system}
use Rattle.cut_family.specs.Lifting.{lifted_system}
use Rattle.system_text.specs.declared.value.System.{System}
use Rattle.symmetry_fold.specs.Folding.{IsFolded}
use Rattle.symmetry_fold.proofs.OneFold.{one_fold}
use Rattle.commands.proofs.OfMeet.{one_meet_text}
use Rattle.commands.proofs.OfCut.{one_cut_system}
use Rattle.commands.proofs.Probes.{same_probe}
use Rattle.commands.proofs.Told.{given_within}

pub one_text : OneText
one_text command.Identity input given text other small is first second =
    let limits = given_within command.Identity small input given is in
    let probe = first.is_row.probe in
    let moved : IsIdentityRow given.family.n given.family.gamma given.family.baikov probe.field.a probe.seed (is_zero_integral given.family.zero) second.row =
    subst (λ (p : Probe). IsIdentityRow given.family.n given.family.gamma given.family.baikov p.field.a p.seed (is_zero_integral given.family.zero) second.row) (same_probe given.family second.is_row.probe probe second.is_row.given first.is_row.given) second.is_row.identity in
    let rows : first.row ≡ second.row =
    one_row given.family.n DEGREE_LIMIT given.family.gamma given.family.baikov probe.field.a probe.seed (is_zero_integral given.family.zero) first.row second.row
    limits.few_variables limits.polynomial limits.not_zero first.is_row.canonical second.is_row.canonical first.is_row.identity moved in
    first.line ∙ ap row_line rows ∙ sym second.line
one_text (command.Basis number) input given text other small is first second =
    let limits = given_within (command.Basis number) small input given is in
    let same : first.fields ≡ second.fields = one_basis given.family.baikov given.family.n number limits.few_variables limits.polynomial.variables first.fields second.fields first.basis second.basis in
    let block : List StrippedField → SectorBlock = λ fields. record { sector = record { 0 = number }; fields = fields } in
    first.block ∙ ap (λ fields. block_text (block fields)) same ∙ sym second.block
one_text command.Plain input given text other small is first second =
    let limits = given_within command.Plain small input given is in
    first.is ∙ ap system_text (one_system given.family limits first.of.system second.of.system first.of.is_system second.of.is_system) ∙ sym second.is
one_text command.Check input given text other small is first second = first.is ∙ sym second.is
one_text (command.Meet number) input given text other small is first second = one_meet_text given.family number text other (given_within (command.Meet number) small input given is) first second
one_text (command.Cut number) input given text other small is first second =
    let limits = given_within (command.Cut number) small input given is in
    first.is ∙ ap (λ (s : System). system_text (lifted_system given.family.n number s)) (one_cut_system given.family number limits first.of second.of) ∙ sym second.is
one_text command.Fold input given text other small is first second =
    let limits = given_within command.Fold small input given is in
    let same : second.of.system ≡ first.of.system = one_system given.family limits second.of.system first.of.system second.of.is_system first.of.is_system in
    let moved : IsFolded given.family first.of.system second.folded = subst (λ (s : System). IsFolded given.family s second.folded) same second.is_folded in
    first.is ∙ ap fold_text (one_fold given.family first.of.system first.folded second.folded first.is_folded moved) ∙ sym second.is
one_text (command.Drill number) input given text other small is first second =
    let limits = given_within (command.Drill number) small input given is in
    first.is ∙ ap (summary_text number) (one_system given.family limits first.of.system second.of.system first.of.is_system second.of.is_system) ∙ sym second.is
