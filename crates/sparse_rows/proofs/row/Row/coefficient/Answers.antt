use Rattle.std.proofs.Common.{◌≡◌, ◌<◌, ℕ, List, length, rules, refl, sym, subst, ◌∙◌}
use Rattle.std.specs.Prelude.{ℤ}
use Rattle.std.specs.List.{HoldsAt}
use Rattle.std.specs.declared.cmp.Ordering.TheVariants.{Equal}
use Rattle.std.proofs.lemmas.Fn.{answers_by}
use Rattle.ibp_algebra.specs.FormalSum.{IsCanonical}
use Rattle.sector_lattice.specs.Sectors.{integral_cmp}
use Rattle.sector_lattice.specs.Orders.{integral_cmp_total, same_integrals}
use Rattle.sparse_rows.specs.Rows.{IntegralSum, coefficient_of}
use Rattle.ibp_algebra.proofs.Lookups.{IsNonDecreasing-canonical, coefficient-found, coefficient-missing}
use Rattle.sparse_rows.proofs.row.Row.coefficient.Goals as goal

pub returns-in-Ok : goal.returns-in-Ok
returns-in-Ok c =
    let tie = c.in-Ok.ensures.position (λ (t : List ℤ × ℕ). integral_cmp c.args.of.now t.0)
    (answers_by _ _ (λ f. f.0.now ≡ c.args.of.now) (λ f a r f' h i. search rules) _ refl)
    in
    coefficient-found integral_cmp integral_cmp_total same_integrals c.self.inside.terms.items c.args.of.now _ _ c.self.invariant
    (subst (λ (f : IntegralSum). c.in-Ok.place < length f) c.deref.ensures.value c.in-Ok.ensures.bound) c.index.ensures
    (subst (λ (f : IntegralSum). HoldsAt (λ (t : List ℤ × ℕ). integral_cmp c.args.of.now t.0 ≡ Equal) f c.in-Ok.place) c.deref.ensures.value tie)
    ∙ (λ i. coefficient_of (c.self.view_is i) c.args.of.now)

pub returns-in-Err : goal.returns-in-Err
returns-in-Err c =
    let canonical = subst (IsCanonical integral_cmp) (sym c.deref.ensures.value) c.self.invariant in
    let split = c.in-Err.ensures.position (λ (t : List ℤ × ℕ). integral_cmp c.args.of.now t.0)
    (answers_by _ _ (λ f. f.0.now ≡ c.args.of.now) (λ f a r f' h i. search rules) _ refl)
    (IsNonDecreasing-canonical integral_cmp integral_cmp_total same_integrals c.deref.result.now c.args.of.now canonical)
    in
    c.zero.ensures ∙ coefficient-missing integral_cmp integral_cmp_total same_integrals c.deref.result.now c.args.of.now _ split
    ∙ (λ i. coefficient_of (c.deref.ensures.value i) c.args.of.now) ∙ (λ i. coefficient_of (c.self.view_is i) c.args.of.now)
