-- The orders of terms meet the laws, whichever components are high.
-- Source: orders of the monomials of a free module as in Using Algebraic Geometry of Cox, Little and O'Shea.
use Rattle.std.proofs.Common.{◌≡◌, ◌≢◌, ℕ, ◌<◌, Bool, false, length, sum, reverse, replicate, List, sym, refl, ap, subst, ◌∙◌}
use Rattle.std.specs.Ordering.{nat_cmp, bool_cmp, ordering_then}
use Rattle.std.specs.Cmp.{IsTotalOrder, nat_cmp_is, nat_cmp_total, bool_cmp_total, on_total, back_total, then_total}
use Rattle.std.specs.Cmp.Lexicographic.{slice_cmp}
use Rattle.std.specs.FinMap.{IsAntisymmetric, nat_cmp-IsAntisymmetric}
use Rattle.std.specs.declared.cmp.Ordering.TheVariants.{Less, Equal, Greater}
use Rattle.ibp_algebra.proofs.Canonical.{order_refl}
use Rattle.ibp_algebra.specs.Exponents.{deg_rev_lex}
use Rattle.ibp_algebra.specs.ExponentOrder.{deg_rev_lex_total, deg_rev_lex_unique, first_equal, second_equal}
use Rattle.ibp_algebra.proofs.ReverseLex.{then_Equal, deg_rev_lex-add, not_below_one}
use Rattle.ibp_algebra.proofs.Heights.{numbered_height-rise, numbered_height-bound}
use Rattle.mono_order.specs.declared.limits.TheConstants.{MONO_DEGREE}
use Rattle.mono_order.specs.Term.{Term, multiply_term}
use Rattle.mono_order.specs.TermOrder.{over_position, zero_dominates, high_block, block_order, nothing_high, zero_high, block_high, block_height, block_bound, IsTermOrder}

over_position_total : IsTotalOrder over_position
over_position_total = then_total (on_total (λ (t : Term). t.1) deg_rev_lex_total) (on_total (λ (t : Term). t.0) (back_total nat_cmp_total))

over_position_unique : IsAntisymmetric over_position
over_position_unique s t e =
    let exponents : s.1 ≡ t.1 = deg_rev_lex_unique s.1 t.1 (first_equal _ _ e) in
    let component : t.0 ≡ s.0 = nat_cmp-IsAntisymmetric t.0 s.0 (second_equal _ _ e) in
    λ i. (sym component i, exponents i)

same_kind : (b c : Bool) → b ≡ c → bool_cmp b c ≡ Equal
same_kind b c e = subst (λ x. bool_cmp b x ≡ Equal) e (order_refl bool_cmp bool_cmp_total b)

module _ (high : ℕ → Bool) where
  block_total : IsTotalOrder (block_order high)
  block_total = then_total (on_total (λ (t : Term). high t.0) bool_cmp_total) over_position_total

  block_unique : IsAntisymmetric (block_order high)
  block_unique s t e = over_position_unique s t (second_equal _ _ e)

  within_kind : (s t : Term) → high s.0 ≡ high t.0 → block_order high s t ≡ over_position s t
  within_kind s t e = ap (λ r. ordering_then r (over_position s t)) (same_kind (high s.0) (high t.0) e)

  block_kept : (n : ℕ) (m : List ℕ) (s t : Term) → length m ≡ n → length s.1 ≡ n → length t.1 ≡ n → block_order high (multiply_term m s) (multiply_term m t) ≡ block_order high s t
  block_kept n m s t p q r = λ i. ordering_then (bool_cmp (high s.0) (high t.0)) (ordering_then (deg_rev_lex-add n m s.1 t.1 p q r i) (nat_cmp t.0 s.0))

  -- in one component the exponents decide
  within_component : (c : ℕ) (a b : List ℕ) → block_order high (c, a) (c, b) ≡ deg_rev_lex a b
  within_component c a b =
      within_kind (c, a) (c, b) refl ∙ ap (ordering_then (deg_rev_lex a b)) (order_refl nat_cmp nat_cmp_total c) ∙ then_Equal (deg_rev_lex a b)

  block_one_least : (n c : ℕ) (m : List ℕ) → length m ≡ n → block_order high (c, m) (c, replicate n 0) ≢ Less
  block_one_least n c m p less = not_below_one n m p (sym (within_component c m (replicate n 0)) ∙ less)

  block_degree : (s t : Term) → high s.0 ≡ false → high t.0 ≡ false → sum t.1 < sum s.1 → block_order high s t ≡ Greater
  block_degree s t a b less =
      let more : Greater ≡ nat_cmp (sum s.1) (sum t.1) = nat_cmp_is (sum s.1) (sum t.1) Greater less in
      within_kind s t (a ∙ sym b)
      ∙ ap (λ o. ordering_then (ordering_then o (slice_cmp nat_cmp (reverse t.1) (reverse s.1))) (nat_cmp t.0 s.0)) (sym more)

  pub block_laws : (variables : ℕ) → IsTermOrder variables (block_order high) high block_height (block_bound variables)
  block_laws variables =
      record {
        total = block_total;
        unique = block_unique;
        kept = block_kept variables;
        one_least = λ c m p. block_one_least variables c m p;
        high_above = λ s t a b. λ i. ordering_then (bool_cmp (a i) (b i)) (over_position s t);
        within_kind = within_kind;
        degree_first = block_degree;
        height_falls = λ s t h k same e. numbered_height-rise s.0 t.0 s.1 t.1 (h.exponents ∙ sym k.exponents) k.component (sym (within_kind s t same) ∙ e);
        height_bounded = λ t h small. numbered_height-bound variables MONO_DEGREE t.0 t.1 h.exponents small;
      }

pub over_position_laws : (variables : ℕ) → IsTermOrder variables over_position nothing_high block_height (block_bound variables)
over_position_laws variables = block_laws nothing_high variables

pub zero_dominates_laws : (variables : ℕ) → IsTermOrder variables zero_dominates zero_high block_height (block_bound variables)
zero_dominates_laws variables = block_laws zero_high variables

pub high_block_laws : (variables : ℕ) → IsTermOrder variables high_block block_high block_height (block_bound variables)
high_block_laws variables = block_laws block_high variables
