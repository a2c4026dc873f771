use Rattle.std.proofs.Common.{◌≡◌, Ok, List, ℕ, subst}
use Rattle.family.specs.FamilyData.{FamilyData}
use Rattle.family.specs.FamilyView.{family_view}
use Rattle.commands.specs.Causes.{family_for}
use Rattle.commands.specs.declared.words.Command.{Command}
use Rattle.commands.specs.declared.words.Command.TheVariants as command
use Rattle.commands.proofs.Probes.{has_cut_sector, has_meet_sector, has_needed_probe, has_needed_sector}
use Rattle.commands.proofs.answer.text_for.Goals as goal

as_named : (asked named : Command) (file : List ℕ) (family : FamilyData) → asked ≡ named → family_for asked file ≡ Ok family → family_for named file ≡ Ok family
as_named asked named file family is found = subst (λ (c : Command). family_for c file ≡ Ok family) is found

pub identity_text-requires : goal.identity_text-requires
identity_text-requires c =
    let family = family_view c.args.family.now in
    has_needed_probe c.requires.file family (as_named c.args.command command.Identity c.requires.file family c.in-Identity.is c.requires.is)

pub basis_text-requires : goal.basis_text-requires
basis_text-requires c =
    let family = family_view c.args.family.now in
    has_needed_sector c.in-Basis.number c.requires.file family (as_named c.args.command (command.Basis c.in-Basis.number) c.requires.file family c.in-Basis.is c.requires.is)

pub meet_text-requires : goal.meet_text-requires
meet_text-requires c =
    let family = family_view c.args.family.now in
    has_meet_sector c.in-Meet.number c.requires.file family (as_named c.args.command (command.Meet c.in-Meet.number) c.requires.file family c.in-Meet.is c.requires.is)

pub cut_text-requires : goal.cut_text-requires
cut_text-requires c =
    let family = family_view c.args.family.now in
    has_cut_sector c.in-Cut.number c.requires.file family (as_named c.args.command (command.Cut c.in-Cut.number) c.requires.file family c.in-Cut.is c.requires.is)
