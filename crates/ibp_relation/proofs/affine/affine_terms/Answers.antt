use Rattle.std.proofs.Common.{◌<◌, ◌++◌, List, map, length, get_or, ap, sym, ◌∙◌, arith}
use Rattle.ibp_relation.specs.Templates.{AffineTerm, field_term}
use Rattle.ibp_relation.proofs.AffineTerms.{fields_more}
use Rattle.ibp_relation.proofs.affine.affine_terms.Goals as goal

pub loop-place-preserved : goal.loop-place-preserved
loop-place-preserved c =
    let place = c.loop-place.place in
    let f = c.index-a-from.result in
    let below : place < length c.args.a.now = omega (arith, c.requires.fits) in
    c.in_ok-push_field_terms.ensures ∙ ap (λ (l : List AffineTerm). l ++ map (field_term c.args.n place) f) c.loop-place.invariant
    ∙ sym (fields_more c.args.n c.args.a.now place f below (c.index-a-from.is ∙ ap (λ k. get_or c.args.a.now k f) c.from.ensures))
