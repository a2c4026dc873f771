-- Values of each kind.
use Rattle.std.proofs.Common.{◌≡◌, ℕ, zero, suc, ℤ, pos, List, [], true, refl, arith}
use Rattle.std.specs.Prelude.{codes, replicate}
use Rattle.std.proofs.lemmas.List.{length-replicate}
use Rattle.std.proofs.lemmas.List.Elements.{All-replicate}
use Rattle.std.proofs.lemmas.Int.{ints}
use Rattle.ibp_algebra.specs.Laurent.{power_at}
use Rattle.mono_order.specs.declared.limits.TheConstants.{RUN_DEGREE}
use Rattle.sector_lattice.specs.declared.sector.Sector.{Sector}
use Rattle.std.proofs.lemmas.Nat.{pow_pos}
use Rattle.family.specs.Name.{is_name}
use Rattle.family.specs.Shapes.{IsPolynomial, ArePowers}
use Rattle.family.specs.declared.parts.StrippedField.{StrippedField}
use Rattle.system_text.specs.declared.value.SectorBlock.{SectorBlock}
use Rattle.system_text.specs.declared.value.Written.{Written}
use Rattle.system_text.specs.declared.value.Reduction.{Reduction}
use Rattle.system_text.specs.SystemValues.{IsRow, AreWeights, IsStripped, IsBlock, IsRelation, IsReduction}
use Rattle.system_text.specs.SystemLines.{IsCount, IsHeading, Origin, IsOrigin}

pub some_count : (n : ℕ) → (x : ℕ) × IsCount n x
some_count n = (0, omega arith)

abbrev none : Sector
none = record { 0 = 0 }

pub some_heading : (n : ℕ) → (x : Sector × ℕ) × IsHeading n x
some_heading n = ((none, 0), record { sector = pow_pos n; few = omega arith })

no_terms : (n : ℕ) → IsPolynomial n RUN_DEGREE []
no_terms n = record { canonical = tt; variables = tt; degree_within = tt }

pub some_field : (n : ℕ) → (x : StrippedField) × IsStripped n x
some_field n = (
  record { c = replicate n []; b = [] },
  record { count = length-replicate n []; polynomials = All-replicate (IsPolynomial n RUN_DEGREE) n [] (no_terms n); factor = no_terms n },
)

zero_power : (n i : ℕ) → power_at (replicate n (pos 0)) i ≡ pos 0
zero_power zero i = refl
zero_power (suc n) zero = refl
zero_power (suc n) (suc i) = zero_power n i

pub some_powers : (n : ℕ) → (x : List ℤ) × ArePowers n x
some_powers n = (
  replicate n (pos 0),
  record {
    count = length-replicate n (pos 0);
    low = λ i. let h : power_at (replicate n (pos 0)) i ≡ pos 0 = zero_power n i in omega (arith, ints);
    high = λ i. let h : power_at (replicate n (pos 0)) i ≡ pos 0 = zero_power n i in omega (arith, ints);
  },
)

pub some_row : (n : ℕ) → (x : List (List ℤ × ℕ)) × IsRow n x
some_row n = ([], record { canonical = tt; integrals = tt })

pub some_weights : (x : List (ℕ × ℕ)) × AreWeights x
some_weights = ([], record { each = tt; ascending = tt })

pub some_name : (x : List ℕ) × (is_name x ≡ true)
some_name = (codes "a", refl)

pub some_origin : (n : ℕ) → (x : Origin) × IsOrigin n x
some_origin n =
    let powers = some_powers n in
    ((none, powers.0, 1), record { sector = pow_pos n; seed = powers.1; field = omega arith; small = omega arith })

pub some_block : (n : ℕ) → (x : SectorBlock) × IsBlock n x
some_block n = (record { sector = none; fields = [] }, record { sector = pow_pos n; few = omega arith; fields = tt })

pub some_relation : (n : ℕ) → (x : Written) × IsRelation n x
some_relation n =
    let powers = some_powers n in (
      record { sector = none; seed = powers.0; field = 1; row = [] },
      record { sector = pow_pos n; seed = powers.1; field = omega arith; small = omega arith; row = record { canonical = tt; integrals = tt } },
    )

pub some_reduction : (n : ℕ) → (x : Reduction) × IsReduction n x
some_reduction n =
    let powers = some_powers n in (
      record { target = powers.0; reduced = []; weights = [] },
      record { target = powers.1; reduced = record { canonical = tt; integrals = tt }; weights = record { each = tt; ascending = tt } },
    )
