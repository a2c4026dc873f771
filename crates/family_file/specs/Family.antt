-- The family of a file, by the faults in their order.
--     family_of need bytes      the family that the bytes describe, or the first fault that they have
use Rattle.std.specs.Prelude.{ℕ, ◌+◌, ◌*◌, ◌/◌, ◌==◌, ◌^◌, nat_lt, ℤ, List, length, Option, Some, None, Result, Ok, Err, if◌then◌else◌}
use Rattle.std.specs.Option.{ok_or}
use Rattle.std.specs.Str.{is_utf8}
use Rattle.toml.specs.Data.{Members}
use Rattle.toml.specs.Parse.{parse_document}
use Rattle.ibp_field.specs.Arithmetic.{mul_mod, sub_mod}
use Rattle.ibp_algebra.specs.Polynomial.{Polynomial}
use Rattle.poly_text.specs.PolyText.{NumbersValue}
use Rattle.poly_text.specs.Value.{is_zero}
use Rattle.sector_lattice.specs.declared.sector.Sector.{Sector}
use Rattle.family_file.specs.declared.limits.TheConstants.{LOOP_LIMIT, MAX_FILE}
use Rattle.family.specs.declared.limits.TheConstants.{CAP_LIMIT, EXTRA_LIMIT, PAIR_LIMIT, CANDIDATE_LIMIT}
use Rattle.family_file.specs.declared.fault.FileFault.{FileFault}
use Rattle.family_file.specs.declared.fault.FileFault.TheVariants.{TooLong, NotToml, Header, Shape, Number, Baikov, ZeroBaikov, Limits, Budget, Probe, NoSector}
use Rattle.family_file.specs.declared.version.Version.{Version}
use Rattle.family_file.specs.declared.need.Need.{Need}
use Rattle.family_file.specs.declared.need.Need.TheVariants as needs
use Rattle.family.specs.declared.parts.Bounds.{Bounds}
use Rattle.family.specs.declared.parts.Budget.{Budget as BudgetParts}
use Rattle.family.specs.declared.parts.Probe.{Probe as ProbeParts}
use Rattle.family.specs.FamilyData.{FamilyData}
use Rattle.family_file.specs.Need.{needs_probe}
use Rattle.family_file.specs.Reading.{◌>>=◌}
use Rattle.family_file.specs.Numbers.{natural}
use Rattle.family_file.specs.Version.{version_of, leg_limit, variable_limit}
use Rattle.family.specs.Name.{name_of}
use Rattle.family_file.specs.Document.{HeaderKeys, BodyKeys, BoundsKeys, BudgetKeys, ProbeKeys, DocumentKeys, document_keys}
use Rattle.family_file.specs.Arrays.{powers_from, targets_of, zero_sectors_of}
use Rattle.family_file.specs.Caps.{caps_of}
use Rattle.family_file.specs.Selection.{selection_of}
use Rattle.family_file.specs.Symmetries.{symmetries_of}
use Rattle.family_file.specs.Polynomials.{polynomial_in, field_of, residue_in, numbers_of}

pub record ShapeData : Type 0 where
  pub loops : ℕ
  pub legs : ℕ
  pub variables : ℕ

pub record BodyData : Type 0 where
  pub dimension : ℕ
  pub numbers : NumbersValue
  pub baikov : Polynomial
  pub zero : List Sector
  pub targets : List (List ℤ)

-- the table of the document that the bytes are
unfoldable pub table_of_bytes : List ℕ → Result Members FileFault
table_of_bytes bytes = if is_utf8 bytes then ok_or (parse_document bytes) NotToml else Err NotToml

-- the name
abbrev pub name_in : List ℕ → Result (List ℕ) FileFault
name_in bytes = ok_or (name_of bytes) Header

-- L loops and E independent external momenta have L(L + 1)/2 + L E variables
unfoldable pub shape_of : Version → HeaderKeys → Result ShapeData FileFault
shape_of version header = do
  loops ← natural Shape 1 LOOP_LIMIT header.loops
  legs ← natural Shape 0 (leg_limit version) header.legs
  variables ← natural Shape 1 (variable_limit version) header.variables
  if variables == loops * (loops + 1) / 2 + loops * legs then Ok (record { loops = loops; legs = legs; variables = variables }) else Err Shape

-- (D - L - E - 1)/2 modulo the prime, of which half of one is 1073741824
abbrev pub gamma_of : ℕ → ShapeData → ℕ
gamma_of dimension shape = mul_mod (sub_mod dimension (shape.loops + shape.legs + 1)) 1073741824

-- the Baikov polynomial, which is not zero
abbrev pub unless_zero : Polynomial → Result Polynomial FileFault
unless_zero p = if is_zero p then Err ZeroBaikov else Ok p

unfoldable pub bounds_of : BoundsKeys → Result Bounds FileFault
bounds_of bounds = do
  dots_cap ← natural Limits 0 CAP_LIMIT bounds.dots_cap
  rank_cap ← natural Limits 0 CAP_LIMIT bounds.rank_cap
  extra_dots ← natural Limits 0 EXTRA_LIMIT bounds.extra_dots
  extra_rank ← natural Limits 0 EXTRA_LIMIT bounds.extra_rank
  Ok (record { dots_cap = dots_cap; rank_cap = rank_cap; extra_dots = extra_dots; extra_rank = extra_rank })

unfoldable pub budget_of : BudgetKeys → Result BudgetParts FileFault
budget_of budget = do
  pairs ← natural Budget 0 PAIR_LIMIT budget.pairs
  candidates ← natural Budget 0 CANDIDATE_LIMIT budget.candidates
  selection ← selection_of budget.selection
  Ok (record { pairs = pairs; candidates = candidates; selection = selection })

unfoldable pub probe_of : ℕ → NumbersValue → ProbeKeys → Result ProbeParts FileFault
probe_of n numbers probe = do
  a ← field_of Probe n numbers probe.field
  b ← polynomial_in Probe n numbers probe.factor
  seed ← powers_from Probe n probe.seed
  Ok (record { field = record { a = a; b = b }; seed = seed })

-- a probe that is there is read also where none is needed
unfoldable pub needed_probe : Need → ℕ → NumbersValue → Option ProbeKeys → Result (Option ProbeParts) FileFault
needed_probe need n numbers None = if needs_probe need then Err Probe else Ok None
needed_probe need n numbers (Some probe) = do
  read ← probe_of n numbers probe
  Ok (Some read)

-- a sector that is needed is one of n variables
abbrev pub sector_check : Need → ℕ → Result (Unit {0}) FileFault
sector_check (needs.Sector number) n = if nat_lt number (2 ^ n) then Ok tt else Err NoSector
sector_check needs.Family n = Ok tt
sector_check needs.Probe n = Ok tt

unfoldable pub baikov_of : ℕ → NumbersValue → BodyKeys → Result Polynomial FileFault
baikov_of n numbers body = do
  p ← polynomial_in Baikov n numbers body.baikov
  unless_zero p

-- what the file describes, in n variables
unfoldable pub body_of : ℕ → BodyKeys → Result BodyData FileFault
body_of n body = do
  dimension ← residue_in Number body.dimension
  numbers ← numbers_of body.numbers
  baikov ← baikov_of n numbers body
  zero ← zero_sectors_of n body.zero
  targets ← targets_of n body.targets
  Ok (record { dimension = dimension; numbers = numbers; baikov = baikov; zero = zero; targets = targets })

-- the family of what the keys hold
unfoldable pub family_of_keys : Need → DocumentKeys → Result FamilyData FileFault
family_of_keys need keys = do
  version ← version_of keys.header.version
  name ← name_in keys.header.name
  shape ← shape_of version keys.header
  body ← body_of shape.variables keys.body
  bounds ← bounds_of keys.bounds
  caps ← caps_of shape.variables keys.sectors
  budget ← budget_of keys.budget
  probe ← needed_probe need shape.variables body.numbers keys.probe
  sector ← sector_check need shape.variables
  symmetries ← symmetries_of shape.variables keys.symmetries
  Ok (record { name = name; n = shape.variables; gamma = gamma_of body.dimension shape; baikov = body.baikov; targets = body.targets; zero = body.zero; bounds = bounds; caps = caps; symmetries = symmetries; budget = budget; probe = probe })

-- the family that the bytes describe, or the first fault that they have
unfoldable pub family_of : Need → List ℕ → Result FamilyData FileFault
family_of need bytes = if nat_lt MAX_FILE (length bytes) then Err TooLong else do
  table ← table_of_bytes bytes
  keys ← document_keys table
  family_of_keys need keys
