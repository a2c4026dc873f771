use Rattle.std.proofs.Common.{◌∙◌, IsNone, refl, sym, subst, arith}
use Rattle.family.specs.FamilyView.{family_view}
use Rattle.neat_system.proofs.FewRelations.{few_relations}
use Rattle.symmetry_fold.specs.Symmetries.{AreSymmetries}
use Rattle.commands.proofs.OfFold.{refuses_run}
use Rattle.commands.proofs.fold.folded_text.Goals as goal

pub fold-requires : goal.fold-requires
fold-requires c = omega (arith, few_relations (family_view c.args.family.now) c.in-Ok.system c.args.family.now.limits c.in-Ok.ensures.system)

-- the text is that of the folded system of what the run gave
pub returns-in_ok-print_fold-in-Ok : goal.returns-in_ok-print_fold-in-Ok
returns-in_ok-print_fold-in-Ok c = record {
  of = record { symmetric = c.in_ok-folded-in-Ok.ensures.symmetric; system = c.in-Ok.system; is_system = c.in-Ok.ensures.system };
  folded = c.in_ok-folded-in-Ok.folded;
  is_folded = c.in_ok-folded-in-Ok.ensures.folded;
  is = c.into_vec.ensures ∙ c.in_ok-print_fold-in-Ok.ensures;
}

-- each permutation is a symmetry, and the run gave a fault
pub returns-in-Err : goal.returns-in-Err
returns-in-Err c =
    let symmetric : AreSymmetries (family_view c.args.family.now) = c.in_ok-number.ensures.none.0 (subst IsNone (sym c.in_default.is) refl) in
    rw c.from.ensures (refuses_run (family_view c.args.family.now) c.run_plain.result c.in-Err.fault symmetric c.run_plain.ensures c.in-Err.is)
