-- The canonical row with the coefficients of the terms is their normal form.
use Rattle.std.proofs.Common.{◌≡◌}
use Rattle.std.specs.Ordering.{eq_by_cmp}
use Rattle.ibp_algebra.specs.FormalSum.{IsCanonical, normal_form}
use Rattle.ibp_algebra.proofs.Canonical.{same_canonical}
use Rattle.ibp_algebra.proofs.NormalForm.{IsCanonical-normal_form, SameCoefficients-normal_form}
use Rattle.ibp_algebra.proofs.SumLaws.{SameCoefficients-sym, SameCoefficients-trans}
use Rattle.sector_lattice.specs.Sectors.{integral_cmp}
use Rattle.sector_lattice.specs.Orders.{integral_cmp_total, same_integrals, integrals_decide}
use Rattle.sparse_rows.specs.Rows.{IntegralSum, SameRow}

pub row_is : (row terms : IntegralSum) → IsCanonical integral_cmp row → SameRow row terms → row ≡ normal_form integral_cmp terms
row_is row terms canonical same =
    same_canonical integral_cmp integral_cmp_total (eq_by_cmp integral_cmp) integrals_decide same_integrals row (normal_form integral_cmp terms) canonical (IsCanonical-normal_form integral_cmp integral_cmp_total same_integrals terms)
    (SameCoefficients-trans same (SameCoefficients-sym (SameCoefficients-normal_form integral_cmp integral_cmp_total same_integrals (eq_by_cmp integral_cmp) integrals_decide terms)))
