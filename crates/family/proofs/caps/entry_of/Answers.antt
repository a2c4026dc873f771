use Rattle.std.proofs.Common.{◌==◌, rules, tests}
use Rattle.std.proofs.lemmas.Iterator.{YieldsList-from_slice}
use Rattle.std.proofs.lemmas.Iterator.Search.{find_from_yields_List}
use Rattle.family.proofs.caps.entry_of.Goals as goal

pub returns : goal.returns
returns c = find_from_yields_List (λ entry. entry.sector.0 == c.args.sector.0) _ _ _ c.find.ensures.ran (YieldsList-from_slice c.args.caps.now cc) (λ x b q k. search (rules, tests))
