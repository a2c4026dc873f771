use Rattle.std.proofs.Common.{◌∙◌, ap}
use Rattle.family.specs.FamilyView.{family_view}
use Rattle.system_text.specs.Systems.{system_text}
use Rattle.commands.specs.Cut.{IsCutOf}
use Rattle.commands.proofs.OfCut.{refuses_cut}
use Rattle.commands.proofs.cut.cut_text.Goals as goal

-- the text is that of the lift of the system that the run gave
pub returns-in-Ok-run_plain : goal.returns-in-Ok-run_plain
returns-in-Ok-run_plain c =
    let is_cut : IsCutOf (family_view c.args.family.now) c.args.number (family_view c.in-Ok.smaller) = record { sector = c.requires; no_fault = c.in-Ok.ensures.none; is_cut = c.in-Ok.ensures.family } in
    record {
      of = record { cut = family_view c.in-Ok.smaller; is_cut = is_cut; system = c.in-Ok-run_plain.system; is_system = c.in-Ok-run_plain.ensures.system };
      is = c.into_vec.ensures ∙ c.in_ok-print_system-in-Ok-run_plain.ensures ∙ ap system_text c.in_ok-lifted-in-Ok-run_plain.ensures;
    }

pub returns : goal.returns
returns c =
    let is_cut : IsCutOf (family_view c.args.family.now) c.args.number (family_view c.in-Ok.smaller) = record { sector = c.requires; no_fault = c.in-Ok.ensures.none; is_cut = c.in-Ok.ensures.family } in
    rw c.of_lifted_fault.ensures
    (refuses_cut (family_view c.args.family.now) (family_view c.in-Ok.smaller) c.args.number c.run_plain.result c.in-Err-run_plain.fault is_cut c.run_plain.ensures c.in-Err-run_plain.is)
