use Rattle.std.proofs.Common.{◌≡◌, ◌<◌, length, map, get_or, sym, ap, ◌∙◌, arith}
use Rattle.std.specs.Prelude.{pos}
use Rattle.std.proofs.lemmas.Int.{ints}
use Rattle.std.proofs.lemmas.List.{get_or-map, length-map}
use Rattle.ibp_field.specs.Arithmetic.{int_mod}
use Rattle.ibp_algebra.specs.Laurent.{power_at}
use Rattle.ibp_relation.proofs.Powers.{written_step}
use Rattle.ibp_relation.proofs.moves.residues.Goals as goal

pub loop-place-preserved : goal.loop-place-preserved
loop-place-preserved c =
    let α = c.args.seed.now in
    let i = c.loop-place.place in
    let count : length c.powers-power-items.result.now ≡ length α = ap length c.powers-power-items.ensures.value in
    let below : i < length α = omega arith in
    let long = length-map α int_mod in
    let power : get_or c.powers-power-items.result.now i (pos 0) ≡ power_at α i = ap (λ k. get_or k i (pos 0)) c.powers-power-items.ensures.value in
    let widened = c.from.ensures in
    let value : c.from_i64.result ≡ get_or (map int_mod α) i 0 = c.from_i64.ensures ∙ ap int_mod (omega (arith, ints, widened, power)) ∙ sym (get_or-map int_mod α i (pos 0) 0 below) in
    written_step (map int_mod α) c.loop-place.residues i _ 0 (omega (arith, long, c.powers-power-items.ensures.within.few)) (omega (arith, long)) value c.loop-place.invariant
