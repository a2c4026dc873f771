use Rattle.fast_division.proofs.Dividends.{within-parts}
use Rattle.fast_division.proofs.dividend.Dividend.row.Goals as goal

pub placed-requires : goal.placed-requires
placed-requires g c = record { within = (within-parts c.args.by.now c.args.terms.now c.split_kinds.result.0.now c.split_kinds.result.1.now c.split_kinds.ensures.whole c.requires.within).0 }

pub placed-requires-2 : goal.placed-requires-2
placed-requires-2 g c = record { within = (within-parts c.args.by.now c.args.terms.now c.split_kinds.result.0.now c.split_kinds.result.1.now c.split_kinds.ensures.whole c.requires.within).1 }
