use Rattle.std.proofs.Common.{◌≡◌, sym, ◌∙◌}
use Rattle.std.specs.Cmp.{signed_Decides}
use Rattle.std.proofs.lemmas.Slice.Eq.{slice_eq-Decides}
use Rattle.sector_lattice.specs.Orders.{equal_integrals_tie}
use Rattle.sector_lattice.proofs.integral.Integral.compare.Goals as goal

pub returns-then-eq : goal.returns-then-eq
returns-then-eq c =
    let same : c.powers.result.now ≡ c.powers-2.result.now = (slice_eq-Decides signed_Decides _ _ _ c.eq.ensures).0 c.if-eq.true in
    equal_integrals_tie _ _ (sym c.powers.ensures.value ∙ same ∙ c.powers-2.ensures.value)
