use Rattle.family.specs.FamilyView.{family_view}
use Rattle.commands.specs.Refusals.{of_identity_fault}
use Rattle.commands.proofs.Probes.{refuses, answers_refusal}
use Rattle.commands.proofs.identity.probe_line.Goals as goal

pub identity-requires-clause-field : goal.identity-requires-clause-field
identity-requires-clause-field c = (c.args.family.now.limits.probe_fits c.args.probe.now c.requires).field

pub returns-in_err-row : goal.returns-in_err-row
returns-in_err-row c =
    let family = family_view c.args.family.now in
    let fault = c.in_err-row.field-0.0 in
    answers_refusal family c.from_residual.result (of_identity_fault fault) c.from_residual.ensures.1
    (refuses family c.args.probe.now c.identity.result fault c.requires c.in_err-row.was c.identity.ensures.not_divisible c.identity.ensures.not_tangent)
