-- Rows have the same terms exactly where they are equal.
-- Source: linear algebra.
use Rattle.std.specs.Prelude.{◌≡◌, ℕ, ℤ, List, ◌==◌, ◌&&◌}
use Rattle.std.specs.Ordering.{eq_by_cmp}
use Rattle.std.specs.Bool.{Decides}
use Rattle.std.specs.Cmp.{IsEquivalence, decided, unsigned_Decides}
use Rattle.std.specs.Cmp.Lexicographic.{pointwise_decides}
use Rattle.std.proofs.lemmas.Bool.Decides.{Decides-and, Decides-like}
use Rattle.sector_lattice.specs.Sectors.{integral_cmp}
use Rattle.sector_lattice.specs.Orders.{integrals_decide}
use Rattle.sparse_rows.specs.Rows.{IntegralSum, same_terms}

one_term : (s t : List ℤ × ℕ) → Decides (eq_by_cmp integral_cmp s.0 t.0 && (s.1 == t.1)) (s ≡ t)
one_term s t =
    Decides-like _ (λ e i. (e.0 i, e.1 i)) (λ e. ((λ i. (e i).0), (λ i. (e i).1))) (Decides-and _ _ (integrals_decide s.0 t.0) (unsigned_Decides s.1 t.1))

pub same_terms_decide : (f g : IntegralSum) → Decides (same_terms f g) (f ≡ g)
same_terms_decide = pointwise_decides one_term

pub same_terms_equiv : IsEquivalence same_terms
same_terms_equiv = decided same_terms same_terms_decide
