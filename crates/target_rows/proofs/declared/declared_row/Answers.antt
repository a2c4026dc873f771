use Rattle.std.proofs.Common.{◌≡◌, arith, ap, ◌∷◌, [], ◌∙◌}
use Rattle.family.specs.FamilyView.{family_view}
use Rattle.target_rows.proofs.TargetRows.{one_term, no_term, is_zero_at, declared_zero, declared_other}
use Rattle.target_rows.proofs.declared.declared_row.Goals as goal

pub returns-then-is_zero : goal.returns-then-is_zero
returns-then-is_zero c =
    let zero = is_zero_at c.args.family.now.zero c.args.target.now c.sector.result.0 c.is_zero.result c.sector.ensures.value c.is_zero.ensures ∙ c.if-is_zero.true in
    no_term c.in_ok-row.row c.in_ok-row.ensures.canonical c.in_ok-row.ensures.sum ∙ declared_zero (family_view c.args.family.now) c.args.target.now zero

pub returns : goal.returns
returns c =
    let other = is_zero_at c.args.family.now.zero c.args.target.now c.sector.result.0 c.is_zero.result c.sector.ensures.value c.is_zero.ensures ∙ c.if-is_zero.false in
    let one : c.one.result ≡ 1 = c.one.ensures in
    one_term c.in_ok-row-2.row (c.args.target.now, c.one.result) (omega (arith, one)) (omega (arith, one)) c.in_ok-row-2.ensures.canonical c.in_ok-row-2.ensures.sum
    ∙ ap (λ r. (c.args.target.now, r) ∷ []) one ∙ declared_other (family_view c.args.family.now) c.args.target.now other
