use Rattle.std.proofs.Common.{Some, ap, ◌∙◌}
use Rattle.family.specs.Caps.{entry_of}
use Rattle.family.proofs.CapsWithin.{entry_within}
use Rattle.family.proofs.family.Family.caps_of.Goals as goal

pub returns-in-Some-clause-dots : goal.returns-in-Some-clause-dots
returns-in-Some-clause-dots c =
    (entry_within c.args.self.now.n c.args.self.now.caps c.args.sector.0 (Some c.in-Some.entry.now) (c.in-Some.ensures ∙ ap (λ l. entry_of l c.args.sector.0) c.as_slice.ensures) c.args.self.now.limits.caps_within).dots

pub returns-in-Some-clause-rank : goal.returns-in-Some-clause-rank
returns-in-Some-clause-rank c =
    (entry_within c.args.self.now.n c.args.self.now.caps c.args.sector.0 (Some c.in-Some.entry.now) (c.in-Some.ensures ∙ ap (λ l. entry_of l c.args.sector.0) c.as_slice.ensures) c.args.self.now.limits.caps_within).rank
