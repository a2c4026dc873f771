use Rattle.std.proofs.Common.{◌<◌, ℕ, List, length, sym, subst, ◌∙◌}
use Rattle.ibp_algebra.specs.FormalSum.{AllKeys}
use Rattle.row_echelon.proofs.dense_row.DenseRow.add_multiple.Goals as goal

pub add_marked-requires-clause-within : goal.add_marked-requires-clause-within
add_marked-requires-clause-within c =
    subst (λ (values : List ℕ). AllKeys (λ column. column < length values) c.args.terms.now) (sym (c.deref_mut.ensures.value ∙ c.self.view_is)) c.requires
