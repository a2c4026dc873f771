-- Powers and terms in texts of integrals and rows.
use Rattle.std.specs.Prelude.{ℕ, ℤ, ◌<◌, ◌≤ℤ◌, neg_ℤ, List}
use Rattle.ibp_field.specs.declared.TheConstants.{PRIME}
use Rattle.sector_lattice.specs.declared.integral.TheConstants.{POWER}
use Rattle.system_text.specs.SystemValues.{IsIntegral}

pub record IsPower (n : ℕ) (power : ℤ) : Type 0 where
  pub low : neg_ℤ POWER ≤ℤ power
  pub high : power ≤ℤ POWER

pub record IsRowTerm (n : ℕ) (term : List ℤ × ℕ) : Type 0 where
  pub integral : IsIntegral n term.0
  pub residue : term.1 < PRIME

-- any bytes may follow
abbrev pub Anything : List ℕ → Type 0
Anything rest = Unit {0}
