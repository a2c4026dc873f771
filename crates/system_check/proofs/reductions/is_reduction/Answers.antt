use Rattle.std.proofs.Common.{◌∙◌, ◌≤◌, ℕ, List, ap, subst, length}
use Rattle.std.specs.List.{All}
use Rattle.ibp_field.specs.Arithmetic.{neg_mod}
use Rattle.ibp_algebra.specs.Combination.{combination}
use Rattle.sparse_rows.specs.Rows.{SameRow}
use Rattle.family.specs.FamilyView.{family_view}
use Rattle.system_check.specs.Rightness.{numbered_row}
use Rattle.system_check.proofs.Reduced.{right_where_same}
use Rattle.system_check.proofs.reductions.is_reduction.Goals as goal

pub returns : goal.returns
returns c =
    let relations = c.args.relations.now in
    let numbers = subst (λ (ws : List (ℕ × ℕ)). All (λ weight. weight.0 ≤ length relations) ws) c.as_slice-weights.ensures (c.are_numbers.ensures.0 c.if-not-are_numbers.false) in
    let sum = subst (λ (ws : List (ℕ × ℕ)). SameRow c.in_ok-sum.sum (combination (numbered_row relations) ws)) c.as_slice-weights.ensures c.in_ok-sum.ensures.sum in
    right_where_same (family_view c.args.family.now) relations c.args.reduction.now c.in_ok-target.target c.in_ok-less.less c.in_ok-sum.sum c.neg.result c.eq.result numbers c.in_ok-target.ensures
    (c.neg.ensures ∙ ap neg_mod c.one.ensures) c.in_ok-less.ensures.canonical c.in_ok-sum.ensures.canonical c.in_ok-less.ensures.sum sum c.eq.ensures
