use Rattle.std.proofs.Common.{◌≡◌, Result, Ok, sym, ap, subst, ◌∙◌}
use Rattle.family.specs.FamilyData.{FamilyData}
use Rattle.family.specs.FamilyView.{family_view}
use Rattle.family_file.specs.declared.fault.FileFault.{FileFault}
use Rattle.family_file.specs.declared.need.Need.{Need}
use Rattle.family_file.specs.Drill.{drill_data}
use Rattle.family_file.specs.Family.{family_of}
use Rattle.family_file.specs.Reading.{Gives}
use Rattle.commands.specs.Causes.{family_for, IsWithinDrills}
use Rattle.commands.proofs.Drills.{given_drill, read_file, reads_file}
use Rattle.commands.proofs.answer.family_for.Goals as goal

pub drill_family-requires : goal.drill_family-requires
drill_family-requires c = rw c.from.ensures (subst IsWithinDrills c.in-Drill.is c.requires)

-- a drill is given its own family
pub returns-in_ok-drill_family-in-Drill : goal.returns-in_ok-drill_family-in-Drill
returns-in_ok-drill_family-in-Drill c =
    given_drill c.args.command c.in-Drill.number c.args.file.now c.in-Drill.is ∙ ap Ok (sym (c.in_ok-drill_family-in-Drill.ensures ∙ ap drill_data c.from.ensures))

-- each other that of the file
pub returns-in_default : goal.returns-in_default
returns-in_default c =
    let file = c.args.file.now in
    let given : family_for c.args.command file ≡ family_of c.need_of.result file =
    read_file c.args.command file (reads_file c.args.command c.in_default.not-Drill) ∙ ap (λ (need : Need). family_of need file) (sym c.need_of.ensures) in
    subst (λ (found : Result FamilyData FileFault). Gives family_view c.read_family.result found) (sym given) c.read_family.ensures
