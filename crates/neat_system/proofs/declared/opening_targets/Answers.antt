use Rattle.std.proofs.Common.{ℤ, List, not, cond, [], ◌∷◌, ◌++◌, take, append-nil, sym, ◌∙◌, ap}
use Rattle.std.specs.Prelude.{filter}
use Rattle.sparse_rows.specs.Rows.{is_zero_integral}
use Rattle.target_rows.proofs.TargetRows.{is_zero_at, kept_more}
use Rattle.neat_system.proofs.declared.opening_targets.Goals as goal
use Rattle.neat_system.proofs.declared.opening_targets.Goals.{then-not-is_zero+in_ok-push, else-not-is_zero}

pub loop-target-preserved : goal.loop-target-preserved
loop-target-preserved c =
    let zero = is_zero_at c.args.family.now.zero c.target-item.result c.sector.result.0 c.is_zero.result c.sector.ensures.value c.is_zero.ensures in
    let more = kept_more c.args.family.now.zero c.as_slice-target-items.result.now c.loop-target.target-index c.target-item.result c.is_zero.result c.loop-target-test.true c.target-item.is zero in
    let before : List (List ℤ) = filter (λ t. not (is_zero_integral c.args.family.now.zero t)) (take c.loop-target.target-index c.as_slice-target-items.result.now) in
    elim c.if-not-is_zero.branch [
      | then-not-is_zero+in_ok-push w ↦
          ap (λ v. v.items) w.targets-is ∙ w.in_ok-push.ensures.items ∙ ap (λ ts. ts ++ c.target-item.result ∷ []) c.loop-target.invariant
          ∙ ap (λ b. before ++ cond (not b) (c.target-item.result ∷ []) []) (sym w.if-not-is_zero.true) ∙ sym more
      | else-not-is_zero w ↦
          ap (λ v. v.items) w.targets-is ∙ c.loop-target.invariant ∙ sym (append-nil before)
          ∙ ap (λ b. before ++ cond (not b) (c.target-item.result ∷ []) []) (sym w.if-not-is_zero.false) ∙ sym more
    ]
