use Rattle.std.proofs.Common.{◌<◌, length, sym, subst}
use Rattle.ibp_algebra.proofs.ZeroDivisors.{AllKeys-append}
use Rattle.row_echelon.specs.Columns.{HasColumns}
use Rattle.row_echelon.proofs.ColumnLists.{numbered_more}
use Rattle.row_echelon.proofs.columns.Columns.numbered.Goals as goal

pub loop-integral-preserved : goal.loop-integral-preserved
loop-integral-preserved c =
    record {
      within = subst (HasColumns c.args.self.now) (sym c.in_ok-push-in-Some.ensures.items)
          (AllKeys-append (λ number. number < length c.args.self.now) c.loop-integral.terms.items _ c.loop-integral.invariant.within (c.in-Some.ensures.within, tt));
      same = numbered_more c.args.self.now c.loop-integral.terms.items c.push.new.self.items c.terms-integral-items.result.now c.loop-integral.integral-index c.in-Some.number
          c.loop-integral-item.result c.loop-integral-test.true c.loop-integral-item.is c.in-Some.ensures.named c.in_ok-push-in-Some.ensures.items c.loop-integral.invariant.same;
    }
