use Rattle.std.proofs.Common.{◌≡◌, suc, ◌-◌, [], map, arith}
use Rattle.cut_family.specs.Places.{is_cut}
use Rattle.cut_family.specs.Lifting.{lifted_polynomial}
use Rattle.cut_family.proofs.PlaceLaws.{filled_put, later_mapped}
use Rattle.cut_family.proofs.lifting.+put_lifted_polynomials.Goals as goal

pub returns-in_ok-put_lifted_polynomials : goal.returns-in_ok-put_lifted_polynomials
returns-in_ok-put_lifted_polynomials t c =
    let more : suc (c.args.n - 1) ≡ c.args.n = omega (arith, c.if-n-gt0.true) in
    filled_put [] _ c.args.n (c.args.n - 1) c.args.cut (map (lifted_polynomial c.args.whole) c.args.polynomials.now) (map (lifted_polynomial c.args.whole) c.later_entries.result.now) c.args.into.now.items _ _ more
    c.in_ok-first_polynomial.ensures (later_mapped (lifted_polynomial c.args.whole) (is_cut c.args.cut) c.args.polynomials.now c.later_entries.result.now c.later_entries.ensures) c.in_ok-push.ensures.items c.in_ok-put_lifted_polynomials.ensures
