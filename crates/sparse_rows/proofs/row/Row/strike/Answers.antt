use Rattle.std.proofs.Common.{◌≡◌, sym, ap, ◌∙◌}
use Rattle.sector_lattice.specs.Sectors.{integral_cmp}
use Rattle.sector_lattice.specs.Subsectors.{is_subsector_of_any}
use Rattle.sparse_rows.specs.Rows.{is_zero_integral}
use Rattle.sparse_rows.proofs.Striking.{strike_stays, strike_goes, strike_whole, strike_whole_canonical}
use Rattle.sparse_rows.proofs.row.Row.strike.Goals as goal
use Rattle.sparse_rows.proofs.row.Row.strike.Goals.{then-not-is_subsector_of_any+in_ok-push, else-not-is_subsector_of_any}

pub loop-integral-preserved : goal.loop-integral-preserved
loop-integral-preserved c =
    let test = is_zero_integral c.args.zero.now in
    let listed : c.is_subsector_of_any.result ≡ test c.loop-integral-item.result.0 = c.is_subsector_of_any.ensures ∙ ap (λ sector. is_subsector_of_any sector c.args.zero.now) c.sector.ensures.value in
    elim c.if-not-is_subsector_of_any.branch [
      | then-not-is_subsector_of_any+in_ok-push w ↦
          strike_stays test _ _ _ _ _ c.loop-integral-test.true c.loop-integral-item.is (sym listed ∙ w.if-not-is_subsector_of_any.true)
          (ap (λ v. v.items) w.kept-is ∙ w.in_ok-push.ensures.items) c.loop-integral.invariant
      | else-not-is_subsector_of_any w ↦
          strike_goes test _ _ _ _ _ c.loop-integral-test.true c.loop-integral-item.is (sym listed ∙ w.if-not-is_subsector_of_any.false)
          (ap (λ v. v.items) w.kept-is) c.loop-integral.invariant
    ]

pub invariant_of-result : goal.invariant_of-result
invariant_of-result c =
    strike_whole_canonical (is_zero_integral c.args.zero.now) integral_cmp _ _ _ _ c.loop-integral.invariant c.loop-integral-test.false
    c.deref-integral-items.ensures.value c.self.invariant

pub returns-clause-struck : goal.returns-clause-struck
returns-clause-struck c =
    strike_whole (is_zero_integral c.args.zero.now) _ _ _ _ c.loop-integral.invariant c.loop-integral-test.false (c.deref-integral-items.ensures.value ∙ c.self.view_is)

pub returns-clause-canonical : goal.returns-clause-canonical
returns-clause-canonical c =
    strike_whole_canonical (is_zero_integral c.args.zero.now) integral_cmp _ _ _ _ c.loop-integral.invariant c.loop-integral-test.false
    c.deref-integral-items.ensures.value c.self.invariant
