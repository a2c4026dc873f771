-- The run of a sector ends, and where it is done the module of the sector has a reduced basis.
use Rattle.std.proofs.Common.{◌≡◌, ◌≢◌, ℕ, zero, suc, ◌+◌, ◌<◌, ◌≤◌, List, [], ◌∷◌, map, length, get_or, sum, sym, subst, ◌∙◌, ap, arith}
use Rattle.std.specs.List.{All, AllByRecursion, AllZip}
use Rattle.std.proofs.lemmas.List.{get_or-map, length-map}
use Rattle.std.proofs.lemmas.List.Elements.{All-from_recursion, recursion_from_All, All-weaker}
use Rattle.ibp_algebra.specs.FormalSum.{AllKeys, normal_form}
use Rattle.ibp_algebra.specs.Exponents.{deg_rev_lex, same_exponents}
use Rattle.ibp_algebra.specs.ExponentOrder.{exponents_decide, deg_rev_lex_total, deg_rev_lex_unique}
use Rattle.ibp_algebra.specs.Polynomial.{Polynomial}
use Rattle.ibp_algebra.proofs.Combinations.{AllKeys-weaker}
use Rattle.ibp_algebra.proofs.NormalForm.{IsCanonical-normal_form, AllKeys-normal_form, SameCoefficients-normal_form}
use Rattle.mono_order.specs.declared.limits.TheConstants.{RUN_DEGREE, VARIABLES}
use Rattle.mono_order.specs.Term.{Term, IsTerm}
use Rattle.mono_order.specs.TermOrder.{over_position, zero_dominates}
use Rattle.mono_order.specs.BlockOrders.{zero_dominates_laws}
use Rattle.module_vec.specs.ModuleVector.{ModuleVector, IsVector, component_of}
use Rattle.module_vec.proofs.Components.{component_keys}
use Rattle.module_basis.specs.GroebnerBasis.{IsReducedBasis}
use Rattle.module_basis.specs.PlainRun.{RunEnd, Done}
use Rattle.module_basis.proofs.RunLaws.{run_monic, run_groebner, run_ends}
use Rattle.module_basis.proofs.SomeReduced.{some_reduced_low}
use Rattle.family.specs.declared.parts.Budget.{Budget}
use Rattle.family.specs.declared.parts.StrippedField.{StrippedField}
use Rattle.family.specs.Shapes.{HasVariables}
use Rattle.family.specs.Conditions.{IsInSectorModule}
use Rattle.sector_module.specs.Factors.{factor_generator, factor_generators, sector_factors, sector_generators, sector_pair_order, SectorRunEnds}
use Rattle.sector_module.specs.FieldsOf.{IsComponentOf, IsFieldOf}
use Rattle.sector_module.specs.SectorBasis.{IsSectorBasis}
use Rattle.sector_module.proofs.Syzygies.{IsSyzygy}
use Rattle.sector_module.proofs.Components.{components_from, length-components}
use Rattle.sector_module.proofs.FieldVectors.{fields_members, fields_basis}
use Rattle.sector_module.proofs.Generating.{generator_some}
use Rattle.sector_module.proofs.SectorReduced.{long_factors}
use Rattle.sector_module.proofs.SectorRun.{generators_valid, polynomials, run_reduced}

-- ---- the generators

generators_are : (first : ℕ) (fs : List Polynomial) → 0 < first → AllByRecursion (AllKeys (IsTerm VARIABLES)) (factor_generators VARIABLES first fs)
    → AllByRecursion (λ g. IsVector zero_dominates VARIABLES g × (g ≢ [])) (map (normal_form zero_dominates) (factor_generators VARIABLES first fs))
generators_are first [] some valid = tt
generators_are first (f ∷ fs) some valid = (
  (
    record {
      canonical = IsCanonical-normal_form zero_dominates (zero_dominates_laws VARIABLES).total (zero_dominates_laws VARIABLES).unique (factor_generator VARIABLES first f);
      terms = AllKeys-normal_form zero_dominates (zero_dominates_laws VARIABLES).total (zero_dominates_laws VARIABLES).unique (IsTerm VARIABLES) (factor_generator VARIABLES first f) valid.0;
    },
    generator_some first f some,
  ),
  generators_are (suc first) fs (omega arith) valid.1,
)

-- ---- the fields that vectors stand for

part_of : ℕ → ModuleVector → Polynomial
part_of i v = normal_form deg_rev_lex (component_of i v)

field_from : ℕ → ModuleVector → StrippedField
field_from n v = record { c = map (normal_form deg_rev_lex) (components_from 1 n v); b = part_of (1 + n) v }

-- a number that no degree of the vector is above
pub degree_bound : (v : ModuleVector) → (limit : ℕ) × AllKeys (λ t. sum t.1 ≤ limit) v
degree_bound [] = (0, tt)
degree_bound (t ∷ v) =
    let rest = degree_bound v in
    (sum t.0.1 + rest.0, (omega arith, AllKeys-weaker (λ (u : Term). sum u.1 ≤ rest.0) (λ (u : Term). sum u.1 ≤ sum t.0.1 + rest.0) (λ u h. omega (arith, h)) v rest.1))

degrees_bound : (list : List ModuleVector) → (limit : ℕ) × AllByRecursion (AllKeys (λ t. sum t.1 ≤ limit)) list
degrees_bound [] = (0, tt)
degrees_bound (v ∷ list) =
    let first = degree_bound v in
    let rest = degrees_bound list in (
      first.0 + rest.0,
      (
        AllKeys-weaker (λ (u : Term). sum u.1 ≤ first.0) (λ (u : Term). sum u.1 ≤ first.0 + rest.0) (λ u h. omega (arith, h)) v first.1,
        recursion_from_All (AllKeys (λ t. sum t.1 ≤ first.0 + rest.0)) list
            (All-weaker (AllKeys (λ t. sum t.1 ≤ rest.0)) (AllKeys (λ t. sum t.1 ≤ first.0 + rest.0))
            (λ w h. AllKeys-weaker (λ (u : Term). sum u.1 ≤ rest.0) (λ (u : Term). sum u.1 ≤ first.0 + rest.0) (λ u h. omega (arith, h)) w h) list
            (All-from_recursion (AllKeys (λ t. sum t.1 ≤ rest.0)) list rest.1)),
      ),
    )

pub component_at : (first n i : ℕ) (v : ModuleVector) → i < n → get_or (components_from first n v) i [] ≡ component_of (first + i) v
component_at first zero i v below = absurd (omega arith)
component_at first (suc n) zero v below = ap (λ k. component_of k v) (let e : first ≡ first + 0 = omega arith in e)
component_at first (suc n) (suc i) v below = component_at (suc first) n i v (omega arith) ∙ ap (λ k. component_of k v) (let e : suc first + i ≡ first + suc i = omega arith in e)

part_is : (degree i : ℕ) (v : ModuleVector) → AllKeys (λ t. sum t.1 ≤ degree) v → IsComponentOf degree i v (part_of i v)
unfolding part_of
part_is degree i v bound = record {
  same = SameCoefficients-normal_form deg_rev_lex deg_rev_lex_total deg_rev_lex_unique same_exponents exponents_decide (component_of i v);
  canonical = IsCanonical-normal_form deg_rev_lex deg_rev_lex_total deg_rev_lex_unique (component_of i v);
  within = AllKeys-normal_form deg_rev_lex deg_rev_lex_total deg_rev_lex_unique (λ m. sum m ≤ degree) (component_of i v) (component_keys (λ m. sum m ≤ degree) i v bound);
}

field_is : (degree n : ℕ) (v : ModuleVector) → AllKeys (λ t. sum t.1 ≤ degree) v → IsFieldOf degree n v (field_from n v)
unfolding field_from part_of
field_is degree n v bound = record {
  count = length-map (components_from 1 n v) (normal_form deg_rev_lex) ∙ length-components 1 n v;
  polynomials = λ i below.
      let inside : i < length (components_from 1 n v) = omega (arith, below, length-components 1 n v) in
      let is : get_or (map (normal_form deg_rev_lex) (components_from 1 n v)) i [] ≡ part_of (1 + i) v =
      get_or-map (normal_form deg_rev_lex) (components_from 1 n v) i [] [] inside ∙ ap (normal_form deg_rev_lex) (component_at 1 n i v below)
      in
      subst (IsComponentOf degree (1 + i) v) (sym is) (part_is degree (1 + i) v bound);
  factor = part_is degree (1 + n) v bound;
}

fields_are : (degree n : ℕ) (list : List ModuleVector) → AllByRecursion (AllKeys (λ t. sum t.1 ≤ degree)) list → AllZip (IsFieldOf degree n) list (map (field_from n) list)
fields_are degree n [] h = tt
fields_are degree n (v ∷ list) h = (field_is degree n v h.0, fields_are degree n list h.1)

counts_are : (degree n : ℕ) (list : List ModuleVector) (fields : List StrippedField) → AllZip (IsFieldOf degree n) list fields → AllByRecursion (λ f. length f.c ≡ n) fields
counts_are degree n [] [] h = tt
counts_are degree n [] (f ∷ fields) h = absurd h
counts_are degree n (v ∷ list) [] h = absurd h
counts_are degree n (v ∷ list) (f ∷ fields) h = (h.0.count, counts_are degree n list fields h.1)

-- n polynomials and a factor, in the module of the sector
pub record IsMemberField (p : Polynomial) (n sector : ℕ) (field : StrippedField) : Type 0 where
  pub count : length field.c ≡ n
  pub member : IsInSectorModule p sector field

module _ (p : Polynomial) (n sector : ℕ) (few : n ≤ VARIABLES) (shape : AllKeys (HasVariables n) p) (budget : Budget) where
  all_generators : All (λ g. IsVector zero_dominates VARIABLES g × (g ≢ [])) (sector_generators p n sector)
  all_generators =
      All-from_recursion (λ g. IsVector zero_dominates VARIABLES g × (g ≢ [])) (sector_generators p n sector)
      (generators_are 1 (sector_factors p n sector) (omega arith) (generators_valid 1 (sector_factors p n sector) (polynomials p n sector few shape) (omega (arith, long_factors p n sector few shape))))

  vectors : All (IsVector zero_dominates VARIABLES) (sector_generators p n sector)
  vectors = All-weaker (λ g. IsVector zero_dominates VARIABLES g × (g ≢ [])) (IsVector zero_dominates VARIABLES) (λ g h. h.0) (sector_generators p n sector) all_generators

  not_zero : All (λ g. g ≢ []) (sector_generators p n sector)
  not_zero = All-weaker (λ g. IsVector zero_dominates VARIABLES g × (g ≢ [])) (λ g. g ≢ []) (λ g h. h.1) (sector_generators p n sector) all_generators

  pub some_run_end : (end : RunEnd) × SectorRunEnds p n sector budget end
  some_run_end = run_ends (zero_dominates_laws VARIABLES) (sector_generators p n sector) vectors not_zero (sector_pair_order p n sector budget) RUN_DEGREE budget.pairs

  pub some_sector_basis : (elements : List ModuleVector) (taken : ℕ) → SectorRunEnds p n sector budget (Done elements taken) → (fields : List StrippedField) × IsSectorBasis p n sector fields × All (IsMemberField p n sector) fields
  some_sector_basis elements taken run =
      let gs = sector_generators p n sector in
      let monic = run_monic (zero_dominates_laws VARIABLES) gs vectors not_zero (sector_pair_order p n sector budget) RUN_DEGREE budget.pairs elements taken run in
      let groebner = run_groebner (zero_dominates_laws VARIABLES) gs vectors not_zero (sector_pair_order p n sector budget) RUN_DEGREE budget.pairs elements taken run in
      let low = some_reduced_low (zero_dominates_laws VARIABLES) elements monic in
      let list = low.0 in
      let h : IsReducedBasis over_position VARIABLES (IsSyzygy VARIABLES (sector_factors p n sector)) list = run_reduced p n sector few shape elements list groebner low.1 in
      let bound = degrees_bound list in
      let fields = map (field_from n) list in
      let zip = fields_are bound.0 n list bound.1 in
      let counts = counts_are bound.0 n list fields zip in
      let members = fields_members bound.0 p n sector few shape list h fields zip in (
        fields,
        fields_basis bound.0 p n sector few shape list h fields zip,
        λ k d below. record { count = All-from_recursion (λ (f : StrippedField). length f.c ≡ n) fields counts k d below; member = members k d below },
      )
