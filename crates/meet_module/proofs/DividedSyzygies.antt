-- The syzygies of the factors of sector 0 that the variables of a sector divide: in the variables of the family they are the
-- vectors of the fields that meet the two conditions for the sector.
use Rattle.std.proofs.Common.{◌≡◌, ◌≢◌, ℕ, zero, suc, ◌+◌, ◌-◌, ◌*◌, ◌%◌, ◌<◌, ◌≤◌, ◌^◌, Bool, true, false, if◌then◌else◌, ◌&&◌, length, get_or, List, [], ◌∷◌, ◌++◌, ◌⊎◌, ⊎_elim, sym, refl, ap, subst, ◌∙◌, arith, length-append}
use Rattle.std.specs.Prelude.{nat_eq}
use Rattle.std.specs.Cmp.{unsigned_Decides}
use Rattle.std.specs.List.{AllByRecursion}
use Rattle.std.proofs.lemmas.Bool.{cases_lt}
use Rattle.std.proofs.lemmas.Bool.Decides.{not_from_Decides}
use Rattle.std.proofs.lemmas.List.{get_or_append_left}
use Rattle.std.proofs.lemmas.List.Elements.{All-from_recursion, recursion_from_All, All-weaker}
use Rattle.std.proofs.lemmas.Nat.Bits.{bit_at_above}
use Rattle.ibp_algebra.specs.FormalSum.{weighted_sum, coefficient, AllKeys, IsCanonical, scale, normal_form}
use Rattle.ibp_algebra.specs.Exponents.{add_exponents, same_exponents}
use Rattle.ibp_algebra.specs.ExponentOrder.{exponents_decide}
use Rattle.ibp_algebra.specs.Field.{unstripped, unstripped_from, variable, IsInModule, IsTangent}
use Rattle.ibp_algebra.specs.Polynomial.{Polynomial, SamePolynomial, IsDivisibleBy, multiply}
use Rattle.ibp_algebra.proofs.ExponentLaws.{get_or-padded_sum, length-padded_sum}
use Rattle.ibp_algebra.proofs.Weights.{unit_weight, weighted_sum-append, weighted_sum-ext, weighted_sum-SameCoefficients, SameCoefficients-from_weights}
use Rattle.ibp_algebra.proofs.SumLaws.{SameCoefficients-refl, SameCoefficients-sym, SameCoefficients-trans, SameCoefficients-append, SameCoefficients-scale}
use Rattle.ibp_algebra.proofs.NormalForm.{IsCanonical-normal_form, AllKeys-normal_form}
use Rattle.ibp_algebra.proofs.ZeroDivisors.{AllKeys-append, AllKeys-scale}
use Rattle.ibp_algebra.proofs.Combinations.{AllKeys-weaker}
use Rattle.ibp_algebra.proofs.Divisibility.{IsDivisibleBy-from_all}
use Rattle.ibp_algebra.proofs.Terms.{AllKeys-canonical}
use Rattle.ibp_field.proofs.Congruence.{IsCongruent-trans, IsCongruent-from_eq}
use Rattle.mono_order.specs.declared.limits.TheConstants.{VARIABLES}
use Rattle.mono_order.specs.Term.{Term, same_term, multiply_term}
use Rattle.mono_order.specs.TermOrder.{over_position}
use Rattle.mono_order.specs.BlockOrders.{over_position_laws}
use Rattle.mono_order.proofs.Terms.{terms_decide}
use Rattle.module_vec.specs.ModuleVector.{ModuleVector, SameVector, multiply_vector, component_of, IsSubmodule}
use Rattle.module_vec.proofs.Components.{component_keys}
use Rattle.module_vec.proofs.Multiples.{AllKeys-map_keys, AllKeys-coefficient, SameVector-multiply}
use Rattle.module_vec.proofs.NormalForms.{SameVector-normal}
use Rattle.module_basis.specs.GroebnerBasis.{IsReducedBasis}
use Rattle.module_basis.proofs.UniqueBasis.{reduced_basis_unique}
use Rattle.family.specs.declared.parts.Field.{Field}
use Rattle.family.specs.Shapes.{HasVariables}
use Rattle.family.specs.Conditions.{in_sector, MeetsTwoConditions}
use Rattle.sector_module.specs.Factors.{sector_factors, at_component}
use Rattle.sector_module.specs.SectorBasis.{vector_of}
use Rattle.sector_module.proofs.Syzygies.{IsPolynomialIn, IsInRange, IsSyzygy}
use Rattle.sector_module.proofs.Fields.{IsInModule-syzygy}
use Rattle.sector_module.proofs.Components.{components_from, field_of, length-components, components_keys, SameVector-field_of, IsInModule-field_of}
use Rattle.sector_module.proofs.SectorBasis.{IsSubmodule-IsSyzygy}
use Rattle.sector_module.proofs.SomeBasis.{component_at}
use Rattle.sector_module.proofs.Splitting.{low_part, NoneFrom, length-low}
use Rattle.sector_module.proofs.Parts.{part, low_term, AllKeys-part, SameVector-part}
use Rattle.sector_module.proofs.Restricting.{first_keys, inner_reduced, terms_restricted, outer_reduced}
use Rattle.sector_module.proofs.SectorReduced.{long_factors, part_is_syzygy}
use Rattle.sector_module.proofs.SectorRun.{polynomials, few_factors}
use Rattle.sector_module.proofs.OneBasis.{at_weight, other_weight, first_weight, with_last}
use Rattle.meet_module.specs.Divided.{IsDividedTerm}
use Rattle.meet_module.specs.MeetRuns.{IsUnstripped, IsUnstrippedBasis}
use Rattle.meet_module.proofs.Stripping.{no_member, member_below, divided_in_range}

pub record IsDividedSyzygy (p : Polynomial) (n sector : ℕ) (v : ModuleVector) : Type 0 where
  pub terms : ModuleVector
  pub divided : AllKeys (IsDividedTerm n sector) terms
  pub same : SameVector v terms
  pub syzygy : IsSyzygy VARIABLES (sector_factors p n 0) terms

-- ---- terms of canonical vectors

-- what holds of the terms of a vector holds of those of its canonical form
pub canonical_terms : (P : Term → Type 0) (v terms : ModuleVector) → IsCanonical over_position v → SameVector v terms → AllKeys P terms → AllKeys P v
canonical_terms P v terms canonical same h =
    AllKeys-canonical same_term terms_decide over_position (over_position_laws VARIABLES).total P v canonical
    (λ key counts. AllKeys-coefficient P terms h key (λ zero. counts (same.same_at key ∙ zero)))

-- ---- the polynomials at components

sum_if : (w : List ℕ → ℕ) (b : Bool) (m : List ℕ) (k : ℕ) (f : Polynomial) (rest : ℕ) → weighted_sum w f ≡ rest
    → weighted_sum w (if b then ((m, k) ∷ f) else f) ≡ k * (if b then w m else 0) + rest
sum_if w true m k f rest e = omega (arith, e)
sum_if w false m k f rest e = omega (arith, e)

component_sum : (i : ℕ) (w : List ℕ → ℕ) (v : ModuleVector) → weighted_sum w (component_of i v) ≡ weighted_sum (at_weight i w) v
component_sum i w [] = refl
component_sum i w (t ∷ v) = sum_if w (nat_eq t.0.0 i) t.0.1 t.1 (component_of i v) (weighted_sum (at_weight i w) v) (component_sum i w v)

same_component : (i : ℕ) (v w : ModuleVector) → SameVector v w → SamePolynomial (component_of i v) (component_of i w)
same_component i v w same =
    SameCoefficients-from_weights same_exponents exponents_decide _ _ (λ x.
    IsCongruent-trans (IsCongruent-from_eq (component_sum i x v))
    (IsCongruent-trans (weighted_sum-SameCoefficients same_term terms_decide (at_weight i x) v w same) (IsCongruent-from_eq (sym (component_sum i x w)))))

keys_if : (P : List ℕ → Type 0) (b : Bool) (m : List ℕ) (k : ℕ) (f : Polynomial) → (b ≡ true → P m) → AllKeys P f → AllKeys P (if b then ((m, k) ∷ f) else f)
keys_if P true m k f here h = (here refl, h)
keys_if P false m k f here h = h

keys_at : (P : List ℕ → Type 0) (i : ℕ) (v : ModuleVector) → AllKeys (λ (t : Term). t.0 ≡ i → P t.1) v → AllKeys P (component_of i v)
keys_at P i [] h = tt
keys_at P i (t ∷ v) h = keys_if P (nat_eq t.0.0 i) t.0.1 t.1 (component_of i v) (λ e. h.0 ((unsigned_Decides t.0.0 i).0 e)) (keys_at P i v h.1)

-- the polynomial at a component of the vector of some polynomials
polynomial_sum : (first i : ℕ) (w : List ℕ → ℕ) (fs : List Polynomial) → i < length fs → weighted_sum (at_weight (first + i) w) (vector_of first fs) ≡ weighted_sum w (get_or fs i [])
polynomial_sum first i w [] below = absurd (omega arith)
polynomial_sum first zero w (f ∷ fs) below = let e : first + 0 ≡ first = omega arith in ap (λ k. weighted_sum (at_weight k w) (vector_of first (f ∷ fs))) e ∙ first_weight first w f fs
polynomial_sum first (suc i) w (f ∷ fs) below =
    let e : first + suc i ≡ suc first + i = omega arith in
    omega (
      arith,
      weighted_sum-append (at_weight (first + suc i) w) (at_component first f) (vector_of (suc first) fs),
      other_weight (first + suc i) first (λ same. omega (arith, same)) w f,
      ap (λ k. weighted_sum (at_weight k w) (vector_of (suc first) fs)) e,
      polynomial_sum (suc first) i w fs (omega arith),
    )

unit_if : (a b : Bool) → ◌≡◌ {A = ℕ} (if a && b then 1 else 0) (if a then (if b then 1 else 0) else 0)
unit_if true b = refl
unit_if false b = refl

-- the coefficient at a term is that of its exponents in the polynomial of its component
coefficient_sum : (i : ℕ) (m : List ℕ) (v : ModuleVector) → weighted_sum (unit_weight same_term (i, m)) v ≡ weighted_sum (at_weight i (unit_weight same_exponents m)) v
coefficient_sum i m v = weighted_sum-ext _ _ (λ t. unit_if (nat_eq t.0 i) (same_exponents t.1 m)) v

-- ---- parts

low_at : (n i : ℕ) (m : List ℕ) → i < n → get_or (low_part n m) i 0 ≡ get_or m i 0
low_at zero i m below = absurd (omega arith)
low_at (suc n) i [] below = refl
low_at (suc n) zero (x ∷ m) below = refl
low_at (suc n) (suc i) (x ∷ m) below = low_at n i m (omega arith)

-- ---- sector 0 has no factors

nothing_put : (place : ℕ) (c : List Polynomial) → unstripped_from place (in_sector 0) c ≡ c
nothing_put place [] = refl
nothing_put place (f ∷ c) = λ i. (if no_member place i then multiply (variable place) f else f) ∷ nothing_put (suc place) c i

module _ (p : Polynomial) (n sector : ℕ) (few : n ≤ VARIABLES) (shape : AllKeys (HasVariables n) p) (small : sector < 2 ^ n) where
  Syzygies : IsSubmodule VARIABLES (IsSyzygy VARIABLES (sector_factors p n 0))
  Syzygies = IsSubmodule-IsSyzygy VARIABLES (sector_factors p n 0) (polynomials p n 0 few shape) (few_factors p n 0 few shape)

  pub divided_times : (m : List ℕ) → length m ≡ VARIABLES → (t : Term) → IsDividedTerm n sector t → IsDividedTerm n sector (multiply_term m t)
  divided_times m long t d =
      record {
        positive = d.positive;
        within = d.within;
        exponents = length-padded_sum ◌+◌ VARIABLES m t.1 long d.exponents;
        divided = λ inside. omega (arith, get_or-padded_sum ◌+◌ 0 (λ x. omega arith) (λ x. omega arith) m t.1 (t.0 - 1), d.divided inside);
      }

  -- They are a submodule.
  pub IsSubmodule-IsDividedSyzygy : IsSubmodule VARIABLES (IsDividedSyzygy p n sector)
  IsSubmodule-IsDividedSyzygy =
      record {
        same = λ v w s h. record { terms = h.terms; divided = h.divided; same = SameCoefficients-trans (SameCoefficients-sym s) h.same; syzygy = h.syzygy };
        zero = record { terms = []; divided = tt; same = SameCoefficients-refl same_term []; syzygy = Syzygies.zero };
        sum = λ v w h k.
            record {
              terms = h.terms ++ k.terms;
              divided = AllKeys-append (IsDividedTerm n sector) h.terms k.terms h.divided k.divided;
              same = SameCoefficients-append same_term terms_decide h.same k.same;
              syzygy = Syzygies.sum h.terms k.terms h.syzygy k.syzygy;
            };
        scaled = λ c v h.
            record {
              terms = scale c h.terms;
              divided = AllKeys-scale (IsDividedTerm n sector) c h.terms h.divided;
              same = SameCoefficients-scale same_term terms_decide c h.same;
              syzygy = Syzygies.scaled c h.terms h.syzygy;
            };
        multiplied = λ m v long h.
            record {
              terms = multiply_vector m h.terms;
              divided = AllKeys-map_keys (IsDividedTerm n sector) (IsDividedTerm n sector) (multiply_term m) (divided_times m long) h.terms h.divided;
              same = SameVector-multiply m h.same;
              syzygy = Syzygies.multiplied m h.terms long h.syzygy;
            };
      }

  pub divided_canonical : (v : ModuleVector) → IsCanonical over_position v → IsDividedSyzygy p n sector v → AllKeys (IsDividedTerm n sector) v
  divided_canonical v canonical h = canonical_terms (IsDividedTerm n sector) v h.terms canonical h.same h.divided

  pub in_range : (v : ModuleVector) → IsCanonical over_position v → IsDividedSyzygy p n sector v → AllKeys (IsInRange VARIABLES (suc n)) v
  in_range v canonical h = divided_in_range n sector few small v (divided_canonical v canonical h)

  part_is_divided : (b : List ℕ) (v : ModuleVector) → AllKeys (IsInRange VARIABLES (suc n)) v → IsDividedSyzygy p n sector v → IsDividedSyzygy p n sector (part n b v)
  part_is_divided b v range h =
      record {
        terms = part n b h.terms;
        divided = AllKeys-part n b (IsDividedTerm n sector) (IsDividedTerm n sector)
            (λ t d e.
            record {
              positive = d.positive;
              within = d.within;
              exponents = length-low n t.1 ∙ d.exponents;
              divided = λ inside. omega (arith, low_at n (t.0 - 1) t.1 (member_below n sector (t.0 - 1) small inside), d.divided inside);
            })
            h.terms h.divided;
        same = SameVector-part n b v h.terms h.same;
        syzygy = part_is_syzygy p n 0 few shape b h.terms (divided_in_range n sector few small h.terms h.divided) h.syzygy;
      }

  -- ---- fields

  divisible_at : (v : ModuleVector) → IsDividedSyzygy p n sector v → (i : ℕ) → in_sector sector i ≡ true → IsDivisibleBy i (component_of (1 + i) v)
  divisible_at v h i inside m some =
      let place : 1 + i - 1 ≡ i = omega arith in
      let all : AllKeys (λ m. 0 < get_or m i 0) (component_of (1 + i) h.terms) =
      keys_at (λ m. 0 < get_or m i 0) (1 + i) h.terms
      (AllKeys-weaker (IsDividedTerm n sector) (λ (t : Term). t.0 ≡ 1 + i → 0 < get_or t.1 i 0)
      (λ t d is.
      let here : t.0 - 1 ≡ i = ap (λ k. k - 1) is ∙ place in
      subst (λ k. 0 < get_or t.1 k 0) here (d.divided (ap (in_sector sector) here ∙ inside)))
      h.terms h.divided)
      in
      let same = (same_component (1 + i) v h.terms h.same).same_at m in
      IsDivisibleBy-from_all i (component_of (1 + i) h.terms) all m (λ zero. some (same ∙ zero))

  -- in the first n variables one of them is a field that meets the two conditions
  pub unstripped_from_syzygy : (v : ModuleVector) → AllKeys (IsInRange VARIABLES (suc n)) v → AllKeys (λ t. NoneFrom n t.1) v → IsDividedSyzygy p n sector v → IsUnstripped p n sector v
  unstripped_from_syzygy v range none h =
      let variables : AllKeys (λ (t : Term). HasVariables n t.1) v = first_keys n v range none in
      let f = field_of n v in
      let whole : IsSyzygy VARIABLES (sector_factors p n 0) v = Syzygies.same h.terms v (SameCoefficients-sym h.same) h.syzygy in
      let member = IsInModule-field_of VARIABLES p (in_sector 0) n v range whole in
      record {
        field = record { a = f.c; b = f.b };
        count = length-components 1 n v;
        polynomials = All-from_recursion (AllKeys (HasVariables n)) f.c (components_keys (HasVariables n) 1 n v variables);
        factor = component_keys (HasVariables n) (1 + n) v variables;
        meets = record {
          divisible = λ i below inside.
              let is : get_or (components_from 1 n v) i [] ≡ component_of (1 + i) v = component_at 1 n i v (omega (arith, below, length-components 1 n v)) in
              subst (IsDivisibleBy i) (sym is) (divisible_at v h i inside);
          tangent = subst (λ (l : List Polynomial). IsTangent p l f.b) (nothing_put 0 f.c) member.tangent;
        };
        same = SameVector-field_of VARIABLES n v range;
      }

  range_of : (w : ModuleVector) (s : IsSyzygy VARIABLES (sector_factors p n 0) w) → AllKeys (IsInRange VARIABLES (suc n)) s.terms
  range_of w s = subst (λ k. AllKeys (IsInRange VARIABLES k) s.terms) (long_factors p n 0 few shape) s.in_range

  -- and each such field is one of them
  pub syzygy_from_unstripped : (v : ModuleVector) → IsUnstripped p n sector v → IsDividedSyzygy p n sector v
  syzygy_from_unstripped v u =
      let a = u.field.a in
      let b = u.field.b in
      let fs = a ++ b ∷ [] in
      let raw = vector_of 1 fs in
      let order = over_position_laws VARIABLES in
      let terms = normal_form over_position raw in
      let wider : (f : Polynomial) → AllKeys (HasVariables n) f → IsPolynomialIn VARIABLES f = λ f h. AllKeys-weaker (HasVariables n) (λ m. length m ≡ VARIABLES) (λ m h. h.each_variable) f h in
      let all : AllByRecursion (IsPolynomialIn VARIABLES) fs =
      with_last (IsPolynomialIn VARIABLES) a (recursion_from_All (IsPolynomialIn VARIABLES) a (All-weaker (AllKeys (HasVariables n)) (IsPolynomialIn VARIABLES) wider a u.polynomials)) b (wider b u.factor)
      in
      let member : IsInModule p (in_sector 0) a b =
      record {
        divisible = λ i below inside. absurd (let clash : true ≡ false = sym inside ∙ no_member i in let no : ⊥ = cc in no);
        tangent = subst (λ (l : List Polynomial). IsTangent p l b) (sym (nothing_put 0 a)) u.meets.tangent;
      }
      in
      let syzygy = (IsInModule-syzygy VARIABLES p b (in_sector 0) n a u.count all).0 member in
      let is_same : SameVector terms raw = SameVector-normal order terms raw refl in
      let canonical = IsCanonical-normal_form over_position order.total order.unique raw in
      let whole : IsSyzygy VARIABLES (sector_factors p n 0) terms = Syzygies.same raw terms (SameCoefficients-sym is_same) syzygy in
      record {
        terms = terms;
        divided = AllKeys-canonical same_term terms_decide over_position order.total (IsDividedTerm n sector) terms canonical
            (λ t counts.
            let there : coefficient same_term raw t ≢ 0 = λ zero. counts (is_same.same_at t ∙ zero) in
            let range = AllKeys-coefficient (IsInRange VARIABLES (suc n)) syzygy.terms (range_of raw syzygy) t (λ zero. there (syzygy.same.same_at t ∙ zero)) in
            record {
              positive = range.positive;
              within = range.within;
              exponents = range.exponents;
              divided = λ inside.
                  let i = t.0 - 1 in
                  let below : i < n = member_below n sector i small inside in
                  let number : 1 + i ≡ t.0 = omega (arith, range.positive) in
                  let first : get_or fs i [] ≡ get_or a i [] = get_or_append_left a (b ∷ []) [] i (omega (arith, below, u.count)) in
                  u.meets.divisible i (omega (arith, below, u.count)) inside t.1 (λ zero.
                  there
                  (ap (λ k. k % 2147483647)
                  (ap (λ k. weighted_sum (unit_weight same_term (k, t.1)) raw) (sym number) ∙ coefficient_sum (1 + i) t.1 raw
                  ∙ polynomial_sum 1 i (unit_weight same_exponents t.1) fs (omega (arith, below, u.count, length-append a (b ∷ []))) ∙ ap (λ (f : Polynomial). weighted_sum (unit_weight same_exponents t.1) f) first)
                  ∙ zero));
            });
        same = SameCoefficients-trans u.same (SameCoefficients-sym is_same);
        syzygy = whole;
      }

  -- Their reduced basis is that of the fields that meet the two conditions, and the other way round.
  pub unstripped_reduced : (list : List ModuleVector) → IsReducedBasis over_position VARIABLES (IsDividedSyzygy p n sector) list → IsUnstrippedBasis p n sector list
  unstripped_reduced list h = inner_reduced n (IsDividedSyzygy p n sector) (IsUnstripped p n sector) in_range part_is_divided unstripped_from_syzygy syzygy_from_unstripped list h

  pub divided_reduced : (list : List ModuleVector) → IsUnstrippedBasis p n sector list → IsReducedBasis over_position VARIABLES (IsDividedSyzygy p n sector) list
  divided_reduced list h = outer_reduced n (IsDividedSyzygy p n sector) (IsUnstripped p n sector) in_range part_is_divided unstripped_from_syzygy syzygy_from_unstripped list h

  -- At most one list is it.
  pub one_unstripped : (first second : List ModuleVector) → IsUnstrippedBasis p n sector first → IsUnstrippedBasis p n sector second → first ≡ second
  one_unstripped first second h k =
      reduced_basis_unique (over_position_laws VARIABLES) (IsDividedSyzygy p n sector) IsSubmodule-IsDividedSyzygy first second (divided_reduced first h) (divided_reduced second k)
