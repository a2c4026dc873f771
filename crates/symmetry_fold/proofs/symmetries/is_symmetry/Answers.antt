use Rattle.std.proofs.Common.{sym, ◌∙◌}
use Rattle.std.proofs.lemmas.Result.{IfOk-weaker}
use Rattle.family.specs.FamilyView.{family_view}
use Rattle.symmetry_fold.proofs.SymmetryTests.{broken_zeros, by_polynomial}
use Rattle.symmetry_fold.proofs.symmetries.is_symmetry.Goals as goal

pub returns-then-not-keeps_zero_sectors : goal.returns-then-not-keeps_zero_sectors
returns-then-not-keeps_zero_sectors c =
    let fails = sym c.keeps_zero_sectors.ensures ∙ c.if-not-keeps_zero_sectors.true in
    (λ holds. absurd (cc), λ is. absurd (broken_zeros (family_view c.args.family.now) c.args.numbers.now fails is))

pub returns : goal.returns
returns c =
    let passed = sym c.keeps_zero_sectors.ensures ∙ c.if-not-keeps_zero_sectors.false in
    IfOk-weaker c.keeps_polynomial.result _ _ (λ kept h. by_polynomial (family_view c.args.family.now) c.args.numbers.now kept passed h) c.keeps_polynomial.ensures
