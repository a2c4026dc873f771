use Rattle.std.proofs.Common.{◌∙◌, ap, subst}
use Rattle.std.specs.List.{slice_get}
use Rattle.sector_lattice.specs.Sectors.{integral_cmp}
use Rattle.sector_lattice.specs.Orders.{integral_cmp_total, same_integrals}
use Rattle.ibp_algebra.specs.FormalSum.{IsCanonical}
use Rattle.ibp_algebra.proofs.Leads.{IsLead-first_term}
use Rattle.sparse_rows.proofs.row.Row.lead.Goals as goal

pub returns-clause-lead : goal.returns-clause-lead
returns-clause-lead c =
    IsLead-first_term integral_cmp integral_cmp_total same_integrals c.args.self.now c.copied.result (subst (IsCanonical integral_cmp) c.self.view_is c.self.invariant)
    (c.copied.ensures ∙ c.first.ensures.value ∙ ap (λ f. slice_get f 0) (c.deref.ensures.value ∙ c.self.view_is))
