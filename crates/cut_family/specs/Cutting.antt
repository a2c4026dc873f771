-- The cut family: the family in the variables outside a cut, where the members of the cut are zero.
--     cut_polynomial cut p       p with each member of the cut set to zero, in the new numbers
--     is_on_cut cut powers       whether the power is 1 at each member of the cut
--     rises_on_cut cut powers    whether a power is above 1 at a member of the cut
--     IsCutFamily cut f g        g is the cut family of f
--     fault_of cut f             why there is no cut family
-- Source: spanning cuts as in reductions by integration by parts; the numbering is our own.
use Rattle.std.specs.Prelude.{◌≡◌, ℕ, ◌+◌, ◌-◌, ℤ, pos, int_lt, nat_lt, Bool, if◌then◌else◌, ◌==◌, List, [], ◌∷◌, ◌++◌, length, map, replicate, Option, Some, None, option_map, count_ones}
use Rattle.std.specs.Ordering.{int_eq}
use Rattle.std.specs.List.{filter, list_all, list_any}
use Rattle.ibp_algebra.specs.Exponents.{deg_rev_lex}
use Rattle.ibp_algebra.specs.FormalSum.{map_keys, strike, normal_form}
use Rattle.ibp_algebra.specs.Polynomial.{Polynomial}
use Rattle.mono_order.specs.declared.limits.TheConstants.{VARIABLES}
use Rattle.sector_lattice.specs.Subsectors.{is_subsector}
use Rattle.sector_lattice.specs.declared.sector.Sector.{Sector}
use Rattle.family.specs.FamilyData.{FamilyData}
use Rattle.family.specs.declared.parts.SectorCaps.{SectorCaps}
use Rattle.cut_family.specs.declared.fault.CutFault.{CutFault}
use Rattle.cut_family.specs.declared.fault.CutFault.TheVariants.{All, Zero, Target}
use Rattle.cut_family.specs.Places.{outside, inside, without_cut}

-- the exponents of so few variables, with zeros for the others that a monomial has room for
abbrev pub padded : List ℕ → List ℕ
padded m = m ++ replicate (VARIABLES - length m) 0

-- whether a variable of the cut occurs
abbrev pub meets_cut : ℕ → List ℕ → Bool
meets_cut cut m = list_any (nat_lt 0) (inside cut m)

abbrev pub cut_exponents : ℕ → List ℕ → List ℕ
cut_exponents cut m = padded (outside cut m)

abbrev pub cut_polynomial : ℕ → Polynomial → Polynomial
cut_polynomial cut p = normal_form deg_rev_lex (map_keys (cut_exponents cut) (strike (meets_cut cut) p))

abbrev pub is_on_cut : ℕ → List ℤ → Bool
is_on_cut cut powers = list_all (λ power. int_eq power (pos 1)) (inside cut powers)

abbrev pub rises_on_cut : ℕ → List ℤ → Bool
rises_on_cut cut powers = list_any (λ power. int_lt (pos 1) power) (inside cut powers)

abbrev pub cut_targets : ℕ → List (List ℤ) → List (List ℤ)
cut_targets cut targets = map (outside cut) (filter (is_on_cut cut) targets)

-- the listed sectors that contain the cut, each without it
abbrev pub cut_sectors : ℕ → ℕ → List Sector → List Sector
cut_sectors n cut sectors = map (λ sector. record { 0 = without_cut n cut sector.0 }) (filter (λ sector. is_subsector cut sector.0) sectors)

-- the entries whose sector contains the cut, each with its sector without it
abbrev pub cut_caps : ℕ → ℕ → List SectorCaps → List SectorCaps
cut_caps n cut caps =
    map (λ entry. record { sector = record { 0 = without_cut n cut entry.sector.0 }; dots = entry.dots; rank = entry.rank })
    (filter (λ entry. is_subsector cut entry.sector.0) caps)

pub record IsCutFamily (cut : ℕ) (whole family : FamilyData) : Type 0 where
  pub name : family.name ≡ whole.name
  pub n : family.n ≡ whole.n - count_ones cut
  pub gamma : family.gamma ≡ whole.gamma
  pub baikov : family.baikov ≡ cut_polynomial cut whole.baikov
  pub targets : family.targets ≡ cut_targets cut whole.targets
  pub zero : family.zero ≡ cut_sectors whole.n cut whole.zero
  pub bounds : family.bounds ≡ whole.bounds
  pub caps : family.caps ≡ cut_caps whole.n cut whole.caps
  pub symmetries : family.symmetries ≡ []
  pub budget : family.budget ≡ whole.budget
  pub probe : family.probe ≡ None

-- the number, counted from this one, of the first target with a power above 1 at a member of the cut
abbrev pub first_rising : ℕ → ℕ → List (List ℤ) → Option ℕ
first_rising number cut [] = None
first_rising number cut (target ∷ targets) = if rises_on_cut cut target then Some number else first_rising (1 + number) cut targets

abbrev pub is_zero_polynomial : Polynomial → Bool
is_zero_polynomial p = length p == 0

abbrev pub fault_of : ℕ → FamilyData → Option CutFault
fault_of cut family =
    if count_ones cut == family.n then Some All
    else if is_zero_polynomial (cut_polynomial cut family.baikov) then Some Zero
    else option_map Target (first_rising 1 cut family.targets)
