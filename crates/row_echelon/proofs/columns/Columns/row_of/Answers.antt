use Rattle.std.proofs.Common.{sym, ap, subst, ◌∙◌, arith}
use Rattle.std.proofs.lemmas.List.{take_all}
use Rattle.ibp_algebra.specs.FormalSum.{IsCanonical}
use Rattle.sector_lattice.specs.Sectors.{integral_cmp}
use Rattle.row_echelon.specs.Columns.{named}
use Rattle.row_echelon.proofs.ByColumns.{named-canonical}
use Rattle.row_echelon.proofs.ColumnLists.{named_more}
use Rattle.row_echelon.proofs.Substituting.{AllKeys-item}
use Rattle.row_echelon.proofs.columns.Columns.row_of.Goals as goal

pub integral-requires : goal.integral-requires
integral-requires c = AllKeys-item _ c.args.terms.now c.loop-number.number-index c.loop-number-item.result c.requires.within c.loop-number-test.true c.loop-number-item.is

pub loop-number-preserved : goal.loop-number-preserved
loop-number-preserved c =
    named_more c.args.self.now c.loop-number.named.items c.push.new.self.items c.args.terms.now c.loop-number.number-index c.loop-number-item.result c.integral.result
    c.loop-number-test.true c.loop-number-item.is c.integral.ensures c.in_ok-push.ensures.items c.loop-number.invariant

pub from_sorted-requires : goal.from_sorted-requires
from_sorted-requires c =
    subst (IsCanonical integral_cmp) (sym (c.loop-number.invariant ∙ ap (named c.args.self.now) (take_all c.loop-number.number-index c.args.terms.now (omega (arith, c.loop-number-test.false)))))
    (named-canonical c.args.self.now c.count-falls.ensures.falls c.args.terms.now c.requires.ascending c.requires.within)
