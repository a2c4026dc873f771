-- The versions of a family file, and what each allows.
--     version_of number        the version of this number
--     leg_limit version        the greatest number of legs
--     variable_limit version   the greatest number of variables
use Rattle.std.specs.Prelude.{ℕ, ℤ, pos, Result, Ok, Err, if◌then◌else◌}
use Rattle.std.specs.Ordering.{int_eq}
use Rattle.mono_order.specs.declared.limits.TheConstants.{VARIABLES}
use Rattle.family_file.specs.declared.limits.TheConstants.{LEG_LIMIT, VERSION_1_LEG_LIMIT, VERSION_1_VARIABLE_LIMIT}
use Rattle.family_file.specs.declared.fault.FileFault.{FileFault}
use Rattle.family_file.specs.declared.fault.FileFault.TheVariants.{Header}
use Rattle.family_file.specs.declared.version.Version.{Version}
use Rattle.family_file.specs.declared.version.Version.TheVariants.{One, Two}

abbrev pub version_of : ℤ → Result Version FileFault
version_of number = if int_eq number (pos 1) then Ok One else if int_eq number (pos 2) then Ok Two else Err Header

abbrev pub leg_limit : Version → ℕ
leg_limit One = VERSION_1_LEG_LIMIT
leg_limit Two = LEG_LIMIT

abbrev pub variable_limit : Version → ℕ
variable_limit One = VERSION_1_VARIABLE_LIMIT
variable_limit Two = VARIABLES
