use Rattle.std.proofs.Common.{◌≡◌, length, List, sym, ap, subst, ◌∙◌, arith}
use Rattle.std.specs.List.{AllZip}
use Rattle.std.proofs.lemmas.List.Elements.{All-same}
use Rattle.mono_order.specs.declared.limits.TheConstants.{RUN_DEGREE, VARIABLES}
use Rattle.mono_order.specs.TermOrder.{over_position, zero_dominates}
use Rattle.module_vec.specs.ModuleVector.{ModuleVector, IsMember}
use Rattle.module_basis.specs.GroebnerBasis.{IsGroebnerBasis, IsReducedBasis}
use Rattle.module_basis.proofs.RunCounts.{run_counts}
use Rattle.family.specs.declared.parts.StrippedField.{StrippedField}
use Rattle.family.specs.Shapes.{IsField}
use Rattle.family.specs.Conditions.{IsInSectorModule}
use Rattle.sector_module.specs.Factors.{sector_factors, sector_generators}
use Rattle.sector_module.specs.FieldsOf.{IsFieldOf}
use Rattle.sector_module.specs.SectorBasis.{IsSectorBasis}
use Rattle.sector_module.proofs.Syzygies.{IsSyzygy}
use Rattle.ibp_base.proofs.Zips.{length-zip}
use Rattle.sector_module.proofs.SectorRun.{run_reduced}
use Rattle.sector_module.proofs.FieldVectors.{fields_fit, fields_members, fields_basis}
use Rattle.sector_module.proofs.Generating.{length-sector_generators}
use Rattle.sector_module.proofs.basis.sector_basis.Goals as goal

pub plain_run-requires-clause-few : goal.plain_run-requires-clause-few
plain_run-requires-clause-few c =
    let family = c.args.family.now in
    let is : c.deref.result.now ≡ sector_generators family.baikov family.n c.args.sector.0 = c.deref.ensures.value ∙ c.in_ok-generators.ensures.generators in
    omega (
      arith,
      ap (length {A = ModuleVector}) is,
      length-sector_generators family.baikov family.n c.args.sector.0,
      family.limits.few_variables,
      family.limits.budget_within.pairs,
    )

generators_are : (c : goal.After-drop-generators-2) → c.deref.result.now ≡ sector_generators c.args.family.now.baikov c.args.family.now.n c.args.sector.0
generators_are c = c.deref.ensures.value ∙ c.in_ok-generators.ensures.generators

reduced : (c : goal.After-drop-generators-2) → IsReducedBasis over_position VARIABLES (IsSyzygy VARIABLES (sector_factors c.args.family.now.baikov c.args.family.now.n c.args.sector.0)) c.in_ok-reduced.reduced
reduced c =
    let family = c.args.family.now in
    let groebner : IsGroebnerBasis zero_dominates (IsMember VARIABLES (sector_generators family.baikov family.n c.args.sector.0)) c.in_ok-run.run'.elements =
    subst (λ (gs : List ModuleVector). IsGroebnerBasis zero_dominates (IsMember VARIABLES gs) c.in_ok-run.run'.elements) (generators_are c) c.in_ok-run.ensures.basis
    in
    run_reduced family.baikov family.n c.args.sector.0 family.limits.few_variables family.limits.polynomial.variables c.in_ok-run.run'.elements c.in_ok-reduced.reduced groebner
    c.in_ok-reduced.ensures.reduced

zipped : (c : goal.After-drop-generators-2) → AllZip (IsFieldOf RUN_DEGREE c.args.family.now.n) c.in_ok-reduced.reduced c.in_ok-fields.fields
zipped c = subst (λ (l : List ModuleVector). AllZip (IsFieldOf RUN_DEGREE c.args.family.now.n) l c.in_ok-fields.fields) c.as_slice.ensures c.in_ok-fields.ensures

pub returns-clause-basis : goal.returns-clause-basis
returns-clause-basis c =
    let family = c.args.family.now in
    subst (IsSectorBasis family.baikov family.n c.args.sector.0) (sym c.new.ensures.fields)
    (fields_basis RUN_DEGREE family.baikov family.n c.args.sector.0 family.limits.few_variables family.limits.polynomial.variables c.in_ok-reduced.reduced (reduced c) c.in_ok-fields.fields (zipped c))

pub returns-clause-shape : goal.returns-clause-shape
returns-clause-shape c =
    let family = c.args.family.now in
    All-same (λ (f : StrippedField). IsField family.n RUN_DEGREE f.c f.b) c.new.result.fields c.in_ok-fields.fields c.new.ensures.fields
    (fields_fit RUN_DEGREE family.baikov family.n c.args.sector.0 family.limits.few_variables family.limits.polynomial.variables c.in_ok-reduced.reduced (reduced c) c.in_ok-fields.fields (zipped c))

pub returns-clause-members : goal.returns-clause-members
returns-clause-members c =
    let family = c.args.family.now in
    All-same (IsInSectorModule family.baikov c.args.sector.0) c.new.result.fields c.in_ok-fields.fields c.new.ensures.fields
    (fields_members RUN_DEGREE family.baikov family.n c.args.sector.0 family.limits.few_variables family.limits.polynomial.variables c.in_ok-reduced.reduced (reduced c) c.in_ok-fields.fields (zipped c))

pub returns-clause-few : goal.returns-clause-few
returns-clause-few c =
    let family = c.args.family.now in
    let counts = run_counts zero_dominates c.in_ok-by.by RUN_DEGREE family.budget.pairs c.deref.result.now c.in_ok-run.run'.elements c.in_ok-run.run'.taken c.in_ok-run.ensures.done in
    omega (
      arith,
      counts.0,
      counts.1,
      ap (length {A = ModuleVector}) (generators_are c),
      length-sector_generators family.baikov family.n c.args.sector.0,
      length-zip (IsFieldOf RUN_DEGREE family.n) c.in_ok-reduced.reduced c.in_ok-fields.fields (zipped c),
      ap (length {A = StrippedField}) c.new.ensures.fields,
      c.in_ok-reduced.ensures.short,
    )
