use Rattle.std.proofs.Common.{◌≡◌, drop, map}
use Rattle.toml.specs.View.{view}
use Rattle.family_file.specs.declared.fault.FileFault.TheVariants.{ZeroSectors}
use Rattle.family_file.specs.Reading.{collect}
use Rattle.family_file.specs.Arrays.{sector_in}
use Rattle.family_file.proofs.Collect.{with_front}
use Rattle.family_file.proofs.sectors.collect_sectors.Given as goal

abbrev pub invariant-loop-value : goal.invariant-loop-value
invariant-loop-value l = with_front l.sectors.items (collect (sector_in ZeroSectors l.n) (map view (drop l.value-index l.values))) ≡ collect (sector_in ZeroSectors l.n) (map view l.values)
