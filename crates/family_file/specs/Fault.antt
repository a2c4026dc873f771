-- The number of each fault.
use Rattle.std.specs.Prelude.{ℕ}
use Rattle.family_file.specs.declared.fault.FileFault.{FileFault}
use Rattle.family_file.specs.declared.fault.FileFault.TheVariants.{TooLong, NotToml, Keys, Header, Shape, Number, Baikov, ZeroBaikov, ZeroSectors, Targets, Limits, Budget, Probe, NoSector, Symmetries}

abbrev pub fault_number : FileFault → ℕ
fault_number TooLong = 1
fault_number NotToml = 2
fault_number Keys = 3
fault_number Header = 4
fault_number Shape = 5
fault_number Number = 6
fault_number Baikov = 7
fault_number ZeroBaikov = 8
fault_number ZeroSectors = 9
fault_number Targets = 10
fault_number Limits = 11
fault_number Budget = 12
fault_number Probe = 13
fault_number NoSector = 14
fault_number Symmetries = 15
