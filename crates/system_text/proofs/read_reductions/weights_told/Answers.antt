use Rattle.std.proofs.Common.{◌≡◌, ℕ, List, sym, ◌∙◌, subst}
use Rattle.std.specs.Prelude.{codes}
use Rattle.line_reader.proofs.Words.{if_holds, same_bytes}
use Rattle.system_text.specs.SystemValues.{Ascend, AreWeights}
use Rattle.system_text.proofs.Cuts.{weights_none}
use Rattle.system_text.proofs.read_reductions.weights_told.Goals as goal

pub returns-then-eq-clause-told : goal.returns-then-eq-clause-told
returns-then-eq-clause-told c weights are e =
    let none : c.args.bytes.now ≡ codes "none\n" = same_bytes c.args.bytes.now c.as_slice.result.now (sym c.eq.ensures ∙ c.if-eq.true) ∙ c.as_slice.ensures in
    c.from_vec.ensures ∙ c.new.ensures.items ∙ sym (weights_none weights c.args.bytes.now are e none)

pub returns-then-ascend-clause-weights : goal.returns-then-ascend-clause-weights
returns-then-ascend-clause-weights c =
    subst (λ (ws : List (ℕ × ℕ)). AreWeights ws) (sym c.from_vec-then-ascend.ensures)
    (record {
      each = if_holds c.in_ok-weights.field-0 _ (c.in-Some.weights, c.in-Some.field-0-1) c.in_ok-weights.ensures.entries c.in-Some.is;
      ascending = subst (λ (ws : List (ℕ × ℕ)). Ascend 0 ws) c.deref.ensures.value (c.ascend.ensures.0 c.if-ascend.true);
    })
