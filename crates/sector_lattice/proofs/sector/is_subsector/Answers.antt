use Rattle.std.proofs.Common.{eq-eqb}
use Rattle.std.specs.Prelude.{bit_and}
use Rattle.std.proofs.lemmas.Bool.{eqb-true}
use Rattle.sector_lattice.specs.Orders.{shared_digits, from_shared_digits}
use Rattle.sector_lattice.proofs.sector.is_subsector.Goals as goal

pub returns : goal.returns
returns c = (
  λ yes. from_shared_digits c.args.inner.0 c.args.outer.0 (eqb-true (bit_and c.args.inner.0 c.args.outer.0) c.args.inner.0 yes),
  λ within. eq-eqb (bit_and c.args.inner.0 c.args.outer.0) c.args.inner.0 (shared_digits c.args.inner.0 c.args.outer.0 within),
)
