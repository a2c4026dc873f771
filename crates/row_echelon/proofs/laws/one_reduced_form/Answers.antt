use Rattle.std.proofs.Common.{◌<◌, length}
use Rattle.sector_lattice.specs.Sectors.{integral_cmp}
use Rattle.sector_lattice.specs.Orders.{integral_cmp_total, same_integrals}
use Rattle.ibp_algebra.specs.Spans.{row_at}
use Rattle.ibp_algebra.proofs.Existence.{reduced_form_exists}
use Rattle.ibp_algebra.proofs.ReducedForms.{IsReducedForm-unique}
use Rattle.row_echelon.proofs.laws.one_reduced_form.Goals as goal

pub returns-clause-exists : goal.returns-clause-exists
returns-clause-exists c = reduced_form_exists integral_cmp integral_cmp_total same_integrals

pub returns-clause-unique : goal.returns-clause-unique
returns-clause-unique c = λ rows. IsReducedForm-unique integral_cmp integral_cmp_total same_integrals (row_at rows) (λ place. place < length rows)
