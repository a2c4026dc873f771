use Rattle.std.proofs.Common.{◌≡◌, ◌+◌, ◌-◌, ◌*◌, ◌%◌, ◌^◌, ◌<◌, suc, subst, arith}
use Rattle.std.proofs.lemmas.Bool.Decides.{nat_tests}
use Rattle.family_file.proofs.SectorLimits.{grown, kept}
use Rattle.family_file.proofs.sectors.+sector_number.Goals as goal

pub returns-then-is_among-clause-bound : goal.returns-then-is_among-clause-bound
returns-then-is_among-clause-bound t c =
    let more : suc (c.args.n - 1) ≡ c.args.n = grind (arith, nat_tests, c.if-n-eq0.false) in
    subst (λ n. c.sector_number-others.result + 1 * 2 ^ (c.args.n - 1) % 65536 < 2 ^ n) more (grown (c.args.n - 1) c.sector_number-others.result c.sector_number-others.ensures.bound)

pub returns-else-is_among-clause-bound : goal.returns-else-is_among-clause-bound
returns-else-is_among-clause-bound t c =
    let more : suc (c.args.n - 1) ≡ c.args.n = grind (arith, nat_tests, c.if-n-eq0.false) in
    subst (λ n. c.sector_number-others.result < 2 ^ n) more (kept (c.args.n - 1) c.sector_number-others.result c.sector_number-others.ensures.bound)
