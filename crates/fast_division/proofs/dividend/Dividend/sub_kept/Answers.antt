use Rattle.std.proofs.Common.{◌≡◌, true, false, take, drop, length, sym, subst, ap, ◌∙◌, arith}
use Rattle.ibp_algebra.specs.FormalSum.{AllKeys}
use Rattle.module_vec.specs.ModuleVector.{ModuleVector, multiply_vector}
use Rattle.fast_division.specs.Kept.{ArePlaces}
use Rattle.fast_division.proofs.KeptPlaces.{kept_parts}
use Rattle.fast_division.proofs.dividend.Dividend.sub_kept.Goals as goal

pub add_parts-requires-clause-high : goal.add_parts-requires-clause-high
add_parts-requires-clause-high g c =
    let parts = kept_parts g.O.TermOrder.high c.args.row.now c.args.terms.now c.requires.row in
    let len : length c.args.row.now.high.places.items ≡ c.len.result = omega (arith, c.len.ensures, c.args.row.now.high.places.ok.0) in
    let is : c.requires.row.above ≡ c.split_at.result.0.now = parts.0 ∙ ap (λ k. take k c.args.terms.now) len ∙ sym c.split_at.ensures.front in
    subst (AllKeys (λ t. g.O.TermOrder.high t.0 ≡ true)) is c.requires.row.above_high

pub add_parts-requires-clause-low : goal.add_parts-requires-clause-low
add_parts-requires-clause-low g c =
    let parts = kept_parts g.O.TermOrder.high c.args.row.now c.args.terms.now c.requires.row in
    let len : length c.args.row.now.high.places.items ≡ c.len.result = omega (arith, c.len.ensures, c.args.row.now.high.places.ok.0) in
    let is : c.requires.row.below ≡ c.split_at.result.1.now = parts.1 ∙ ap (λ k. drop k c.args.terms.now) len ∙ sym c.split_at.ensures.back in
    subst (AllKeys (λ t. g.O.TermOrder.high t.0 ≡ false)) is c.requires.row.below_low

pub add_parts-requires-clause-high_places : goal.add_parts-requires-clause-high_places
add_parts-requires-clause-high_places g c =
    let parts = kept_parts g.O.TermOrder.high c.args.row.now c.args.terms.now c.requires.row in
    let len : length c.args.row.now.high.places.items ≡ c.len.result = omega (arith, c.len.ensures, c.args.row.now.high.places.ok.0) in
    let is : c.requires.row.above ≡ c.split_at.result.0.now = parts.0 ∙ ap (λ k. take k c.args.terms.now) len ∙ sym c.split_at.ensures.front in
    subst (λ (v : ModuleVector). ArePlaces c.args.row.now.high (multiply_vector c.args.row.now.by v)) is c.requires.row.high_places

pub add_parts-requires-clause-low_places : goal.add_parts-requires-clause-low_places
add_parts-requires-clause-low_places g c =
    let parts = kept_parts g.O.TermOrder.high c.args.row.now c.args.terms.now c.requires.row in
    let len : length c.args.row.now.high.places.items ≡ c.len.result = omega (arith, c.len.ensures, c.args.row.now.high.places.ok.0) in
    let is : c.requires.row.below ≡ c.split_at.result.1.now = parts.1 ∙ ap (λ k. drop k c.args.terms.now) len ∙ sym c.split_at.ensures.back in
    subst (λ (v : ModuleVector). ArePlaces c.args.row.now.low (multiply_vector c.args.row.now.by v)) is c.requires.row.low_places
