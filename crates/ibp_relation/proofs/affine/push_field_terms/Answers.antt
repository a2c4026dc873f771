use Rattle.std.proofs.Common.{◌≡◌, ◌+◌, ◌-◌, length, ap, ◌∙◌, arith}
use Rattle.std.proofs.lemmas.Int.{ints}
use Rattle.ibp_algebra.specs.Laurent.{power_at}
use Rattle.ibp_relation.proofs.Powers.{opposite_long, opposite_at}
use Rattle.ibp_relation.proofs.affine.push_field_terms.Goals as goal

pub raised-requires-clause-place : goal.raised-requires-clause-place
raised-requires-clause-place c =
    let long = ap length c.opposite.ensures in
    (omega arith, omega (arith, long, opposite_long c.args.n c.loop-monomial-item.result.0, c.requires.place))

pub raised-requires-clause-room : goal.raised-requires-clause-room
raised-requires-clause-room c =
    let place = c.args.place in
    let same : place + 1 - 1 ≡ place = omega arith in
    let value = ap (λ k. power_at k (place + 1 - 1)) c.opposite.ensures ∙ opposite_at c.args.n c.loop-monomial-item.result.0 (place + 1 - 1) (omega (arith, c.requires.place)) in
    rw value (omega (arith, ints))
