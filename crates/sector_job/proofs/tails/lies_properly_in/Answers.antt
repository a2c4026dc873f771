use Rattle.std.proofs.Common.{◌≡◌, true, not, ◌&&◌, nat_eq, sym, ◌∙◌, ap}
use Rattle.sector_lattice.specs.Subsectors.{is_subsector}
use Rattle.sector_lattice.proofs.Listed.{same_test}
use Rattle.sector_job.proofs.tails.lies_properly_in.Goals as goal

pub returns-then-ne : goal.returns-then-ne
returns-then-ne c =
    let apart : not (nat_eq c.args.inner.0 c.args.outer.0) ≡ true = sym c.ne.ensures ∙ c.if-ne.true in
    same_test c.is_subsector.result c.args.inner.0 c.args.outer.0 c.is_subsector.ensures ∙ sym (ap (λ b. b && is_subsector c.args.inner.0 c.args.outer.0) apart)
