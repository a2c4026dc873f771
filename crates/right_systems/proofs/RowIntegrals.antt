-- The integrals of the row of an identity are small, where the seed and the degrees of its field are.
use Rattle.std.proofs.Common.{◌≡◌, ◌≢◌, ℕ, suc, ◌+◌, ◌%◌, ◌<◌, ◌≤◌, Bool, true, false, if◌then◌else◌, List, [], ◌∷◌, length, map, refl, sym, ◌∙◌, ap, subst, sum, arith}
use Rattle.std.specs.Prelude.{ℤ, pos, ◌<ℤ◌}
use Rattle.std.specs.List.{AllByRecursion}
use Rattle.std.proofs.lemmas.Bool.Decides.{same_from_decides}
use Rattle.std.proofs.lemmas.Int.{ints}
use Rattle.std.proofs.lemmas.List.{get_or_default}
use Rattle.std.proofs.lemmas.List.Elements.{recursion_from_All}
use Rattle.ibp_algebra.specs.Exponents.{first_exponents}
use Rattle.ibp_algebra.specs.Field.{unstripped, IsInModule}
use Rattle.ibp_algebra.specs.FormalSum.{AllKeys}
use Rattle.ibp_algebra.specs.Identity.{negated, in_sector_of, IsIdentityRow}
use Rattle.ibp_algebra.specs.Laurent.{Laurent, SameLaurent, power_at, coefficient_at_power, laurent}
use Rattle.ibp_algebra.specs.Polynomial.{Polynomial}
use Rattle.ibp_algebra.proofs.Combinations.{AllKeys-weaker}
use Rattle.ibp_algebra.proofs.Members.{AllKeys-counting}
use Rattle.ibp_algebra.proofs.Terms.{AllKeys-canonical}
use Rattle.ibp_algebra.proofs.Weights.{weighted_sum-ext}
use Rattle.ibp_algebra.proofs.ZeroDivisors.{AllKeys-append}
use Rattle.mono_order.specs.declared.limits.TheConstants.{MONO_DEGREE, RUN_DEGREE, VARIABLES}
use Rattle.sector_lattice.specs.declared.integral.TheConstants.{POWER}
use Rattle.sector_lattice.specs.Orders.{integral_cmp_total, same_integrals, integrals_decide}
use Rattle.sector_lattice.specs.Ranges.{InRange}
use Rattle.sector_lattice.specs.Sectors.{integral_cmp, sector_of}
use Rattle.sparse_poly.specs.declared.limits.TheConstants.{DEGREE_LIMIT}
use Rattle.sparse_rows.specs.Rows.{IntegralSum, coefficient_of, is_zero_integral}
use Rattle.family.specs.declared.parts.StrippedField.{StrippedField}
use Rattle.family.specs.Conditions.{IsInSectorModule}
use Rattle.family.specs.FamilyData.{FamilyData}
use Rattle.family.specs.Shapes.{IsField, ArePowers}
use Rattle.family.specs.Within.{DataWithin}
use Rattle.ibp_relation.specs.Shifts.{field_shifts, factor_shifts, field_shifts_from, shifts, HasDegree}
use Rattle.ibp_relation.proofs.LaurentLaws.{powers_decide}
use Rattle.ibp_relation.proofs.NoRise.{shifted}
use Rattle.ibp_relation.proofs.Outcomes.{not_zero}
use Rattle.ibp_relation.proofs.Powers.{less, less_in_range, raised_in_range}
use Rattle.ibp_relation.proofs.RowKeys.{none_struck, has_powers}
use Rattle.ibp_relation.proofs.Rows.{shifted_long, IsIdentityRow-shifts}
use Rattle.ibp_relation.proofs.SeedSectors.{module_at}
use Rattle.ibp_relation.proofs.Uniqueness.{IsIdentity-unique}
use Rattle.ibp_relation.proofs.UnstrippedForms.{length-unstripped, unstripped_degrees}
use Rattle.sector_job.specs.Candidates.{IsCandidate}
use Rattle.system_text.specs.SystemValues.{IsIntegral, IsRow}

-- ---- the shifts

seed_in_range : (α : List ℤ) → 1 ≤ length α → length α ≤ VARIABLES → ArePowers (length α) α → InRange α
seed_in_range α some few small = record {
  some = some;
  few = few;
  small = λ k d within.
      let low = small.low k in
      let high = small.high k in
      rw (get_or_default α k d (pos 0) within) (omega (arith, ints), omega (arith, ints));
}

module _ (α : List ℤ) (range : InRange α) (small : ArePowers (length α) α) where
  factor_range : (γ : ℕ) (b : Polynomial) → HasDegree MONO_DEGREE b → AllKeys InRange (factor_shifts γ α (laurent (length α) b))
  factor_range γ [] h = tt
  factor_range γ (t ∷ b) h = (less_in_range α t.0 range small h.0, factor_range γ b h.1)

  room : (m : List ℕ) (i : ℕ) → power_at (less α m) i <ℤ POWER
  room m i =
      let high = small.high i in
      rw (shifted α (first_exponents (length α) m) i) (omega (arith, ints))

  field_range : (i : ℕ) (a : Polynomial) → i < length α → HasDegree MONO_DEGREE a → AllKeys InRange (field_shifts i α (laurent (length α) a))
  field_range i [] below h = tt
  field_range i (t ∷ a) below h = (
    raised_in_range (less α t.0) i (less_in_range α t.0 range small h.0) (omega (arith, below, shifted_long (length α) α t.0 refl)) (room t.0 i),
    field_range i a below h.1,
  )

  fields_range : (i : ℕ) (a : List Polynomial) → i + length a ≤ length α → AllByRecursion (HasDegree MONO_DEGREE) a → AllKeys InRange (field_shifts_from i α (map (laurent (length α)) a))
  fields_range i [] fits h = tt
  fields_range i (f ∷ a) fits h =
      AllKeys-append InRange (field_shifts i α (laurent (length α) f)) (field_shifts_from (suc i) α (map (laurent (length α)) a))
      (field_range i f (omega arith) h.0) (fields_range (suc i) a (omega arith) h.1)

  shifts_range : (γ : ℕ) (a : List Polynomial) (b : Polynomial) → length a ≤ length α → AllByRecursion (HasDegree MONO_DEGREE) a → HasDegree MONO_DEGREE b → AllKeys InRange (shifts (length α) γ a b α)
  shifts_range γ a b fits h k =
      AllKeys-append InRange (field_shifts_from 0 α (map (laurent (length α)) a)) (factor_shifts γ α (laurent (length α) b)) (fields_range 0 a (omega arith) h) (factor_range γ b k)

-- ---- the row

-- the two tests for equal powers agree
coefficient_same : (f : Laurent) (β : List ℤ) → coefficient_of f β ≡ coefficient_at_power f β
coefficient_same f β =
    ap (λ n. n % 2147483647)
    (weighted_sum-ext _ _ (λ k. ap (λ b. if b then 1 else 0) (same_from_decides _ _ (integrals_decide k β) (powers_decide k β))) f)

module _ (n γ : ℕ) (p : Polynomial) (c : List Polynomial) (b : Polynomial) (α : List ℤ) (struck : List ℤ → Bool) (row : Laurent) (long : length α ≡ n) (fits : length c ≡ n)
    (some : ¬ (SameLaurent (laurent n p) [])) (member : IsInModule p (in_sector_of α) c b) (h : IsIdentityRow n γ p (unstripped (in_sector_of α) c) α struck row) where
  abbrev a : List Polynomial
  a = unstripped (in_sector_of α) c

  few : length a ≤ n
  few = omega (arith, length-unstripped 0 (in_sector_of α) c)

  -- the row of the shifts, with nothing struck
  whole : IsIdentityRow n γ p a α (λ _. false) (shifts n γ a b α)
  whole = IsIdentityRow-shifts n γ p a b α (λ _. false) (shifts n γ a b α) long few member (λ β kept. refl) (λ β all. let no : ◌≡◌ {A = Bool} false true = all in absurd (cc))

  -- an integral of the row is one of the shifts
  in_shifts : (β : List ℤ) → coefficient_of row β ≢ 0 → coefficient_of (shifts n γ a b α) β ≢ 0
  in_shifts β occurs zero =
      let one : SameLaurent h.identity whole.identity = IsIdentity-unique n γ p a α h.identity whole.identity h.powers whole.powers some h.is_identity whole.is_identity in
      occurs (elim (struck β) as (λ v. struck β ≡ v → coefficient_of row β ≡ 0) [
        | true ↦ λ e. none_struck n γ p a α struck row h β e
        | false ↦ λ e. coefficient_same row β ∙ h.kept β e ∙ one.same_at (negated β) ∙ sym (whole.kept β refl) ∙ sym (coefficient_same (shifts n γ a b α) β) ∙ zero
      ] refl)

-- ---- candidates

module _ (family : FamilyData) (within : DataWithin family) (seed : List ℤ) (powers : ArePowers family.n seed) (field : StrippedField) (fits : IsField family.n RUN_DEGREE field.c field.b)
    (member : IsInSectorModule family.baikov (sector_of seed) field) (row : IntegralSum) (is : IsCandidate family seed field row) where
  abbrev polynomials : List Polynomial
  polynomials = unstripped (in_sector_of seed) field.c

  range_at : AllKeys InRange (shifts family.n family.gamma polynomials field.b seed)
  range_at =
      let count : length seed ≡ family.n = powers.count in
      let own : ArePowers (length seed) seed = record { count = refl; low = powers.low; high = powers.high } in
      let range = seed_in_range seed (omega (arith, count, within.some_variables)) (omega (arith, count, within.few_variables)) own in
      let degrees = unstripped_degrees (in_sector_of seed) family.n field.c (omega (arith, fits.count, within.few_variables)) fits.polynomials in
      let factor = AllKeys-weaker (λ m. sum m ≤ RUN_DEGREE) (λ m. sum m ≤ MONO_DEGREE) (λ m k. omega (arith, k)) field.b fits.factor.degree_within in
      subst (λ k. AllKeys InRange (shifts k family.gamma polynomials field.b seed)) count
      (shifts_range seed range own family.gamma polynomials field.b (omega (arith, count, fits.count, length-unstripped 0 (in_sector_of seed) field.c)) (recursion_from_All (HasDegree MONO_DEGREE) polynomials degrees) factor)

  integral_at : (β : List ℤ) → coefficient_of row β ≢ 0 → IsIntegral family.n β
  integral_at β occurs =
      let some = not_zero family.n DEGREE_LIMIT family.baikov within.few_variables within.polynomial within.not_zero in
      let inside = in_shifts family.n family.gamma family.baikov field.c field.b seed (is_zero_integral family.zero) row powers.count fits.count some (module_at family.baikov seed field member) is.identity β occurs in
      record {
        count = has_powers family.n family.gamma family.baikov polynomials seed (is_zero_integral family.zero) row is.identity β occurs;
        small = (AllKeys-counting integral_cmp integral_cmp_total same_integrals InRange (shifts family.n family.gamma polynomials field.b seed) range_at β inside).small;
      }

  pub candidate_row : IsRow family.n row
  candidate_row = record {
    canonical = is.canonical;
    integrals = AllKeys-canonical _ integrals_decide integral_cmp integral_cmp_total (IsIntegral family.n) row is.canonical integral_at;
  }
