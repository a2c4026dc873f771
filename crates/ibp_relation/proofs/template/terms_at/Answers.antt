use Rattle.std.proofs.Common.{◌≡◌, ◌+◌, ◌++◌, [], length, get_or, sym, ap, subst, ◌∙◌}
use Rattle.std.specs.Prelude.{ℕ}
use Rattle.ibp_field.specs.Arithmetic.{int_mod, add_mod, mul_mod}
use Rattle.ibp_algebra.specs.FormalSum.{with_term}
use Rattle.ibp_algebra.specs.Laurent.{Laurent, add_powers, power_at}
use Rattle.ibp_relation.specs.Templates.{FitsSeeds}
use Rattle.ibp_relation.proofs.TermsAtSeed.{SummedBefore, residue_at, summed_on, summed_off}
use Rattle.ibp_relation.proofs.template.terms_at.Goals as goal
use Rattle.ibp_relation.proofs.template.terms_at.Goals.{then-is_last_of_offset+in_ok-push_sum, else-is_last_of_offset}

pub loop-i-preserved : goal.loop-i-preserved
loop-i-preserved c =
    let α = c.args.seed.now in
    let terms = c.args.terms.now in
    let i = c.loop-i.i in
    let term = c.index-terms-i.result in
    let below = c.loop-i-test.true in
    let is = c.index-terms-i.is in
    let fits = subst (FitsSeeds (length α)) (sym is) (c.requires.fits i term below) in
    let residue = get_or c.residues-powers.result c.from.result c.index-powers-from.result in
    let value : residue ≡ int_mod (power_at α term.place) =
    ap (λ k. get_or c.residues-powers.result k c.index-powers-from.result) c.from.ensures
    ∙ residue_at α c.residues-powers.result term.place c.index-powers-from.result c.residues-powers.ensures fits.place
    in
    let more : c.add-sum.result ≡ add_mod c.loop-i.sum (add_mod term.constant (mul_mod term.slope residue)) = c.add-sum.ensures ∙ ap (add_mod c.loop-i.sum) c.add_product.ensures in
    let Wanted : Laurent → ℕ → Type 0 = λ found sum. SummedBefore α terms (i + 1) found sum in
    elim c.if-is_last_of_offset.branch [
      | then-is_last_of_offset+in_ok-push_sum w ↦
          let pushed : c.if-is_last_of_offset.found.items ≡ c.loop-i.found.items ++ with_term (add_powers α term.offset, c.add-sum.result) [] = ap (λ v. v.items) w.found-is ∙ w.in_ok-push_sum.ensures in
          subst (Wanted c.if-is_last_of_offset.found.items) (sym (w.sum-is ∙ w.zero-sum-then-is_last_of_offset.ensures))
          (summed_off α terms i term below is c.loop-i.found.items c.if-is_last_of_offset.found.items c.loop-i.sum c.add-sum.result residue value more pushed c.loop-i.invariant)
      | else-is_last_of_offset w ↦
          let kept : c.loop-i.found.items ≡ c.if-is_last_of_offset.found.items = ap (λ v. v.items) (sym w.found-is) in
          subst (Wanted c.if-is_last_of_offset.found.items) (sym w.sum-is)
          (subst (λ (l : Laurent). SummedBefore α terms (i + 1) l c.add-sum.result) kept
          (summed_on α terms i term below is c.loop-i.found.items c.loop-i.sum c.add-sum.result residue value more (c.is_last_of_offset.ensures w.if-is_last_of_offset.false) c.loop-i.invariant))
    ]
