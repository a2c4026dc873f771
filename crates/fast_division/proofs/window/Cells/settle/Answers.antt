use Rattle.std.proofs.Common.{◌∙◌, arith}
use Rattle.std.proofs.lemmas.Bool.{OnTrue_at}
use Rattle.fast_division.proofs.Windows.{zeros_more}
use Rattle.fast_division.proofs.window.Cells.settle.Goals as goal

pub zero_blocks-preserved : goal.zero_blocks-preserved
zero_blocks-preserved c =
    let h = c.zero_blocks.invariant in
    record {
      values = h.values;
      terms = h.terms;
      top = omega (arith, h.top);
      zeros = zeros_more c.deref.result.now c.args.self.now.values.items c.zero_blocks.self.top c.args.self.now.top 8 (c.deref.ensures.value ∙ h.values) c.zero_blocks-test.true
          (OnTrue_at c.if-are_zero.true c.are_zero.ensures) h.zeros;
    }
