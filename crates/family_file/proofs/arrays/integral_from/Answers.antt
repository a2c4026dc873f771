use Rattle.std.proofs.Common.{map, sym, subst}
use Rattle.std.proofs.lemmas.Bool.{false≢true}
use Rattle.toml.specs.View.{view}
use Rattle.sector_lattice.specs.Ranges.{InRange}
use Rattle.family_file.proofs.TargetLimits.{powers_in_range}
use Rattle.family_file.proofs.arrays.integral_from.Goals as goal

pub returns : goal.returns
returns c =
    absurd (false≢true (c.in-None.ensures.within.1
    (subst InRange (sym c.deref.ensures.value) (powers_in_range c.args.fault c.args.n (map view c.args.values.now) c.in_ok-powers.powers.items c.requires.some c.requires.few c.in_ok-powers.ensures))))
