-- The fields of the basis of a sector whose run is done have no degree above that of a run.
use Rattle.std.proofs.Common.{◌≡◌, ◌≢◌, ℕ, zero, suc, ◌+◌, ◌<◌, ◌≤◌, Bool, true, false, if◌then◌else◌, List, [], ◌∷◌, map, length, get_or, sum, ⊎_elim, refl, sym, subst, ◌∙◌, ap, arith}
use Rattle.std.specs.Prelude.{nat_eq}
use Rattle.std.specs.List.{All, AllByRecursion, AllZip, Contains}
use Rattle.std.specs.declared.cmp.Ordering.TheVariants.{Greater}
use Rattle.std.proofs.lemmas.Bool.{cases_eq}
use Rattle.std.proofs.lemmas.List.{get_or-map, length-map, get_or_default}
use Rattle.std.proofs.lemmas.List.Sums.{sum_by-cons}
use Rattle.std.proofs.lemmas.List.Elements.{All-contains, All-from_recursion, All-from_get_or, recursion_from_All, All-weaker}
use Rattle.ibp_base.proofs.Tests.{both_true}
use Rattle.ibp_algebra.specs.FormalSum.{AllKeys, IsCanonical, times_term, normal_form}
use Rattle.ibp_algebra.specs.Exponents.{add_exponents, deg_rev_lex, same_exponents}
use Rattle.ibp_algebra.specs.ExponentOrder.{exponents_decide, deg_rev_lex_total, deg_rev_lex_unique}
use Rattle.ibp_algebra.specs.Field.{variable, unit_exponents}
use Rattle.ibp_algebra.specs.Polynomial.{Polynomial, multiply, derivative}
use Rattle.ibp_algebra.proofs.Combinations.{AllKeys-weaker}
use Rattle.ibp_algebra.proofs.NormalForm.{IsCanonical-normal_form, AllKeys-normal_form, SameCoefficients-normal_form}
use Rattle.ibp_algebra.proofs.SumOfExponents.{sum-add_exponents, one_less}
use Rattle.ibp_algebra.proofs.ZeroDivisors.{AllKeys-append, AllKeys-scale}
use Rattle.mono_order.specs.declared.limits.TheConstants.{RUN_DEGREE, VARIABLES}
use Rattle.mono_order.specs.Term.{Term, divides, divides_exponents, IsTerm}
use Rattle.mono_order.specs.TermOrder.{over_position, zero_dominates, zero_high}
use Rattle.mono_order.specs.BlockOrders.{over_position_laws, zero_dominates_laws}
use Rattle.mono_order.proofs.Places.{sum-quotient}
use Rattle.mono_order.proofs.TermInduction.{low_degree_below}
use Rattle.mono_order.proofs.Terms.{divides-trans}
use Rattle.module_vec.specs.ModuleVector.{ModuleVector, lead, lead_coefficient, component_of, IsVector, IsMonicVector, IsMember}
use Rattle.module_vec.proofs.Components.{component_keys}
use Rattle.module_vec.proofs.Multiples.{IsTerm-lead}
use Rattle.module_basis.specs.GroebnerBasis.{IsGroebnerBasis, IsLowMember, IsReducedBasis, low_elements}
use Rattle.module_basis.specs.PlainRun.{Done}
use Rattle.module_basis.proofs.ReducedBases.{elimination, from_low_elements}
use Rattle.module_basis.proofs.RunLaws.{run_monic, run_groebner}
use Rattle.module_basis.proofs.SomeReduced.{some_reduced_low}
use Rattle.sparse_poly.specs.declared.limits.TheConstants.{DEGREE_LIMIT}
use Rattle.family.specs.declared.parts.Budget.{Budget}
use Rattle.family.specs.declared.parts.StrippedField.{StrippedField}
use Rattle.family.specs.Conditions.{in_sector}
use Rattle.family.specs.Shapes.{HasVariables, IsField}
use Rattle.sector_module.specs.Factors.{factors_from, factor_generator, factor_generators, sector_factors, sector_generators, sector_pair_order, SectorRunEnds}
use Rattle.sector_module.specs.FieldsOf.{IsComponentOf, IsFieldOf}
use Rattle.sector_module.specs.SectorBasis.{IsSectorBasis}
use Rattle.sector_module.proofs.Components.{components_from, length-components}
use Rattle.sector_module.proofs.FieldVectors.{fields_fit, fields_basis}
use Rattle.sector_module.proofs.Generating.{generator_some, generator_within}
use Rattle.sector_module.proofs.OneBasis.{one_basis}
use Rattle.sector_module.proofs.SectorReduced.{long_factors}
use Rattle.sector_module.proofs.SectorRun.{generators_valid, polynomials, run_reduced}
use Rattle.sector_module.proofs.SomeBasis.{component_at}
use Rattle.sector_module.proofs.Syzygies.{IsSyzygy}
use Rattle.right_systems.proofs.RunDegrees.{IsShort, run_within}

-- ---- the factors of a sector

abbrev IsOfDegree : ℕ → Polynomial → Type 0
IsOfDegree degree f = AllKeys (λ m. sum m ≤ degree) f

derived_degree : (degree i : ℕ) (f : Polynomial) → IsOfDegree degree f → IsOfDegree degree (derivative i f)
derived_degree degree i [] h = tt
derived_degree degree i (t ∷ f) h = (omega (arith, one_less i t.0, h.0), derived_degree degree i f h.1)

unit_degree : (i : ℕ) → sum (unit_exponents i) ≡ 1
unit_degree zero = refl
unit_degree (suc i) = omega (arith, sum_by-cons (λ (x : ℕ). x) 0 (unit_exponents i), unit_degree i)

raised_degree : (degree i : ℕ) (f : Polynomial) → IsOfDegree degree f → IsOfDegree (degree + 1) (times_term add_exponents (unit_exponents i, 1) f)
raised_degree degree i [] h = tt
raised_degree degree i (t ∷ f) h = (omega (arith, sum-add_exponents (unit_exponents i) t.0, unit_degree i, h.0), raised_degree degree i f h.1)

higher : (less more : ℕ) (f : Polynomial) → less ≤ more → IsOfDegree less f → IsOfDegree more f
higher less more f fits h = AllKeys-weaker (λ m. sum m ≤ less) (λ m. sum m ≤ more) (λ m k. omega (arith, k, fits)) f h

either_degree : (degree i : ℕ) (b : Bool) (f : Polynomial) → IsOfDegree degree f → IsOfDegree (degree + 1) (if b then multiply (variable i) f else f)
either_degree degree i true f h = AllKeys-append (λ m. sum m ≤ degree + 1) (times_term add_exponents (unit_exponents i, 1) f) [] (raised_degree degree i f h) tt
either_degree degree i false f h = higher degree (degree + 1) f (omega arith) h

factor_degrees : (degree : ℕ) (p : Polynomial) (inside : ℕ → Bool) (i n : ℕ) → IsOfDegree degree p → AllByRecursion (IsOfDegree (degree + 1)) (factors_from p inside i n)
factor_degrees degree p inside i zero h = (AllKeys-scale (λ m. sum m ≤ degree + 1) 2147483646 p (higher degree (degree + 1) p (omega arith) h), tt)
factor_degrees degree p inside i (suc n) h = (either_degree degree i (inside i) (derivative i p) (derived_degree degree i p h), factor_degrees degree p inside (suc i) n h)

-- ---- the generators

generators_short : (limit first : ℕ) (fs : List Polynomial) → AllByRecursion (IsOfDegree limit) fs → AllByRecursion (IsShort limit) (map (normal_form zero_dominates) (factor_generators VARIABLES first fs))
generators_short limit first [] h = tt
generators_short limit first (f ∷ fs) h = (
  AllKeys-normal_form zero_dominates (zero_dominates_laws VARIABLES).total (zero_dominates_laws VARIABLES).unique (λ t. sum t.1 ≤ limit) (factor_generator VARIABLES first f) (generator_within limit first f h.0),
  generators_short limit (suc first) fs h.1,
)

generators_are : (first : ℕ) (fs : List Polynomial) → 0 < first → AllByRecursion (AllKeys (IsTerm VARIABLES)) (factor_generators VARIABLES first fs)
    → AllByRecursion (λ g. IsVector zero_dominates VARIABLES g × (g ≢ [])) (map (normal_form zero_dominates) (factor_generators VARIABLES first fs))
generators_are first [] some valid = tt
generators_are first (f ∷ fs) some valid = (
  (
    record {
      canonical = IsCanonical-normal_form zero_dominates (zero_dominates_laws VARIABLES).total (zero_dominates_laws VARIABLES).unique (factor_generator VARIABLES first f);
      terms = AllKeys-normal_form zero_dominates (zero_dominates_laws VARIABLES).total (zero_dominates_laws VARIABLES).unique (IsTerm VARIABLES) (factor_generator VARIABLES first f) valid.0;
    },
    generator_some first f some,
  ),
  generators_are (suc first) fs (omega arith) valid.1,
)

-- ---- the leads of the reduced basis

some_terms : (v : ModuleVector) → lead_coefficient v ≡ 1 → v ≢ []
some_terms [] e z = absurd (omega arith)
some_terms (t ∷ v) e z = cc

at_lead : (P : Term → Type 0) (v : ModuleVector) → v ≢ [] → AllKeys P v → P (lead v)
at_lead P [] some h = absurd (some refl)
at_lead P (t ∷ v) some h = h.0

divisor_degree : (s t : Term) → IsTerm VARIABLES s → IsTerm VARIABLES t → divides s t ≡ true → sum s.1 ≤ sum t.1
divisor_degree s t first second e =
    let parts = both_true (nat_eq s.0 t.0) (divides_exponents s.1 t.1) e in
    omega (arith, sum-quotient VARIABLES s.1 t.1 first.exponents second.exponents parts.1)

-- in a reduced basis a lead that divides another one is the same
own_divisor : (Member : ModuleVector → Type 0) (list : List ModuleVector) → IsReducedBasis zero_dominates VARIABLES Member list → (j : ℕ) → j < length list
    → (g : ModuleVector) → Contains list g → divides (lead g) (lead (get_or list j [])) ≡ true → g ≡ get_or list j []
own_divisor Member list reduced j below g inside through =
    let i = inside.0 in
    let at : get_or list i [] ≡ g = get_or_default list i [] g inside.1 ∙ inside.2 in
    ⊎_elim
    (λ (same : i ≡ j). sym at ∙ ap (λ k. get_or list k []) same)
    (λ (apart : i ≢ j).
    let h = get_or list j [] in
    let none : divides (lead (get_or list i [])) (lead h) ≡ false =
    at_lead (λ t. divides (lead (get_or list i [])) t ≡ false) h (some_terms h (reduced.monic j [] below).monic) (reduced.reduced i j inside.1 below apart)
    in
    let clash : true ≡ false = sym through ∙ ap (λ (v : ModuleVector). divides (lead v) (lead h)) (sym at) ∙ none in
    absurd (let no : ⊥ = cc in no))
    (cases_eq i j)

module _ (limit : ℕ) (generators elements list : List ModuleVector) (monic : All (IsMonicVector zero_dominates VARIABLES) elements) (short : All (IsShort limit) elements)
    (groebner : IsGroebnerBasis zero_dominates (IsMember VARIABLES generators) elements)
    (reduced : IsReducedBasis zero_dominates VARIABLES (IsLowMember zero_high (IsMember VARIABLES generators)) list) where
  abbrev IsLowOne : ModuleVector → Type 0
  IsLowOne = IsLowMember zero_high (IsMember VARIABLES generators)

  -- the lead divides that of an element, whose degree the limit bounds
  lead_within : (j : ℕ) → j < length list → sum (lead (get_or list j [])).1 ≤ limit
  lead_within j below =
      let laws = zero_dominates_laws VARIABLES in
      let basis = elimination laws (IsMember VARIABLES generators) elements monic groebner in
      let g = get_or list j [] in
      let g_monic = reduced.monic j [] below in
      let found = basis.divisible g g_monic.canonical (some_terms g g_monic.monic) (reduced.basis.members j [] below) in
      let e = found.0 in
      let in_elements = (from_low_elements zero_high elements e found.1).0 in
      let e_monic = All-contains (IsMonicVector zero_dominates VARIABLES) elements e monic in_elements in
      let e_short = All-contains (IsShort limit) elements e short in_elements in
      let some = some_terms e e_monic.monic in
      let back = reduced.basis.divisible e e_monic.canonical some (All-contains IsLowOne (low_elements zero_high elements) e basis.members found.1) in
      let same : back.0 ≡ g = own_divisor IsLowOne list reduced j below back.0 back.1 (divides-trans (lead back.0) (lead e) (lead g) back.2 found.2) in
      let own : divides (lead g) (lead e) ≡ true = subst (λ (v : ModuleVector). divides (lead v) (lead e) ≡ true) {x = back.0} same back.2 in
      let degree : sum (lead g).1 ≤ sum (lead e).1 =
      divisor_degree (lead g) (lead e) (IsTerm-lead laws g g_monic.monic g_monic.terms) (IsTerm-lead laws e e_monic.monic e_monic.terms) own
      in
      let bound : sum (lead e).1 ≤ limit = at_lead (λ t. sum t.1 ≤ limit) e some e_short in
      omega (arith, degree, bound)

-- the monomial decides, so the lead has the highest degree
below_lead : (limit : ℕ) (v : ModuleVector) → IsCanonical over_position v → sum (lead v).1 ≤ limit → IsShort limit v
below_lead limit [] canonical h = tt
below_lead limit (t ∷ v) canonical h = (
  h,
  AllKeys-weaker (λ u. over_position t.0 u ≡ Greater) (λ u. sum u.1 ≤ limit) (λ u above. (low_degree_below (over_position_laws VARIABLES) limit t.0 u (refl, h) above).1) v canonical.2,
)

-- ---- the fields that the elements stand for

part_of : ℕ → ModuleVector → Polynomial
part_of i v = normal_form deg_rev_lex (component_of i v)

field_from : ℕ → ModuleVector → StrippedField
field_from n v = record { c = map (normal_form deg_rev_lex) (components_from 1 n v); b = part_of (1 + n) v }

part_is : (degree i : ℕ) (v : ModuleVector) → IsShort degree v → IsComponentOf degree i v (part_of i v)
unfolding part_of
part_is degree i v bound = record {
  same = SameCoefficients-normal_form deg_rev_lex deg_rev_lex_total deg_rev_lex_unique same_exponents exponents_decide (component_of i v);
  canonical = IsCanonical-normal_form deg_rev_lex deg_rev_lex_total deg_rev_lex_unique (component_of i v);
  within = AllKeys-normal_form deg_rev_lex deg_rev_lex_total deg_rev_lex_unique (λ m. sum m ≤ degree) (component_of i v) (component_keys (λ m. sum m ≤ degree) i v bound);
}

field_is : (degree n : ℕ) (v : ModuleVector) → IsShort degree v → IsFieldOf degree n v (field_from n v)
unfolding field_from part_of
field_is degree n v bound = record {
  count = length-map (components_from 1 n v) (normal_form deg_rev_lex) ∙ length-components 1 n v;
  polynomials = λ i below.
      let inside : i < length (components_from 1 n v) = omega (arith, below, length-components 1 n v) in
      let is : get_or (map (normal_form deg_rev_lex) (components_from 1 n v)) i [] ≡ part_of (1 + i) v =
      get_or-map (normal_form deg_rev_lex) (components_from 1 n v) i [] [] inside ∙ ap (normal_form deg_rev_lex) (component_at 1 n i v below)
      in
      subst (IsComponentOf degree (1 + i) v) (sym is) (part_is degree (1 + i) v bound);
  factor = part_is degree (1 + n) v bound;
}

fields_are : (degree n : ℕ) (list : List ModuleVector) → AllByRecursion (IsShort degree) list → AllZip (IsFieldOf degree n) list (map (field_from n) list)
fields_are degree n [] h = tt
fields_are degree n (v ∷ list) h = (field_is degree n v h.0, fields_are degree n list h.1)

module _ (p : Polynomial) (n sector : ℕ) (few : n ≤ VARIABLES) (shape : AllKeys (HasVariables n) p) (degree : IsOfDegree DEGREE_LIMIT p) (budget : Budget) where
  abbrev generators : List ModuleVector
  generators = sector_generators p n sector

  all_generators : All (λ g. IsVector zero_dominates VARIABLES g × (g ≢ [])) generators
  all_generators =
      All-from_recursion (λ g. IsVector zero_dominates VARIABLES g × (g ≢ [])) generators
      (generators_are 1 (sector_factors p n sector) (omega arith) (generators_valid 1 (sector_factors p n sector) (polynomials p n sector few shape) (omega (arith, long_factors p n sector few shape))))

  vectors : All (IsVector zero_dominates VARIABLES) generators
  vectors = All-weaker (λ g. IsVector zero_dominates VARIABLES g × (g ≢ [])) (IsVector zero_dominates VARIABLES) (λ g h. h.0) generators all_generators

  not_zero : All (λ g. g ≢ []) generators
  not_zero = All-weaker (λ g. IsVector zero_dominates VARIABLES g × (g ≢ [])) (λ g. g ≢ []) (λ g h. h.1) generators all_generators

  short_generators : AllByRecursion (IsShort RUN_DEGREE) generators
  short_generators = generators_short RUN_DEGREE 1 (sector_factors p n sector) (weaker (sector_factors p n sector) (factor_degrees DEGREE_LIMIT p (in_sector sector) 0 n degree))
    where
      weaker : (fs : List Polynomial) → AllByRecursion (IsOfDegree (DEGREE_LIMIT + 1)) fs → AllByRecursion (IsOfDegree RUN_DEGREE) fs
      weaker [] h = tt
      weaker (f ∷ fs) h = (higher (DEGREE_LIMIT + 1) RUN_DEGREE f (omega arith) h.0, weaker fs h.1)

  pub fields_within : (elements : List ModuleVector) (taken : ℕ) → SectorRunEnds p n sector budget (Done elements taken) → (fields : List StrippedField) → IsSectorBasis p n sector fields
      → All (λ f. IsField n RUN_DEGREE f.c f.b) fields
  fields_within elements taken run fields basis =
      let laws = zero_dominates_laws VARIABLES in
      let order = sector_pair_order p n sector budget in
      let monic = run_monic laws generators vectors not_zero order RUN_DEGREE budget.pairs elements taken run in
      let groebner = run_groebner laws generators vectors not_zero order RUN_DEGREE budget.pairs elements taken run in
      let short = run_within laws RUN_DEGREE order budget.pairs generators elements taken short_generators run in
      let low = some_reduced_low laws elements monic in
      let list = low.0 in
      let h : IsReducedBasis over_position VARIABLES (IsSyzygy VARIABLES (sector_factors p n sector)) list = run_reduced p n sector few shape elements list groebner low.1 in
      let each : All (IsShort RUN_DEGREE) list =
      All-from_get_or (IsShort RUN_DEGREE) list [] (λ j below.
      below_lead RUN_DEGREE (get_or list j []) (h.monic j [] below).canonical (lead_within RUN_DEGREE generators elements list monic short groebner (low.1 generators groebner) j below))
      in
      let zip = fields_are RUN_DEGREE n list (recursion_from_All (IsShort RUN_DEGREE) list each) in
      let own = map (field_from n) list in
      let same : own ≡ fields = one_basis p n sector few shape own fields (fields_basis RUN_DEGREE p n sector few shape list h own zip) basis in
      subst (λ (fs : List StrippedField). All (λ f. IsField n RUN_DEGREE f.c f.b) fs) same (fields_fit RUN_DEGREE p n sector few shape list h own zip)
