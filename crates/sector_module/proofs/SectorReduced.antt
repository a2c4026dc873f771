-- The reduced basis of the syzygies of the factors of a sector is in the variables of the Baikov polynomial, so it is
-- the reduced basis of the module of the sector, whose fields are in these variables; and the other way round.
use Rattle.std.proofs.Common.{◌≡◌, ◌≢◌, ℕ, suc, ◌+◌, ◌<◌, ◌≤◌, Bool, true, false, if◌then◌else◌, length, get_or, sum, List, [], ◌∷◌, ◌++◌, ◌⊎◌, inl, inr, ⊎_elim, sym, refl, ap, subst, ◌∙◌, arith}
use Rattle.std.specs.Prelude.{nat_eq}
use Rattle.std.specs.List.{AllByRecursion, Contains}
use Rattle.std.specs.Cmp.{unsigned_Decides}
use Rattle.std.specs.declared.cmp.Ordering.TheVariants.{Less, Greater}
use Rattle.std.proofs.lemmas.Bool.{cases_lt}
use Rattle.std.proofs.lemmas.Bool.Decides.{not_from_Decides}
use Rattle.std.proofs.lemmas.List.{get_or_default}
use Rattle.std.proofs.lemmas.List.Elements.{All-from_recursion, recursion_from_All, All-weaker}
use Rattle.ibp_algebra.specs.FormalSum.{AllKeys, IsCanonical}
use Rattle.ibp_algebra.specs.ExponentOrder.{exponents_decide}
use Rattle.ibp_algebra.specs.Polynomial.{Polynomial}
use Rattle.ibp_algebra.proofs.Canonical.{Less-reverse}
use Rattle.ibp_algebra.proofs.Combinations.{AllKeys-weaker}
use Rattle.ibp_algebra.proofs.SumLaws.{SameCoefficients-refl, SameCoefficients-sym, SameCoefficients-trans}
use Rattle.ibp_algebra.proofs.Terms.{AllKeys-canonical}
use Rattle.mono_order.specs.Term.{Term, same_term, divides}
use Rattle.mono_order.specs.TermOrder.{over_position}
use Rattle.mono_order.specs.BlockOrders.{over_position_laws}
use Rattle.ibp_base.proofs.Tests.{and_true, both_true}
use Rattle.mono_order.specs.declared.limits.TheConstants.{VARIABLES}
use Rattle.mono_order.proofs.Terms.{terms_decide, divides-trans}
use Rattle.mono_order.proofs.Places.{sum-quotient}
use Rattle.module_vec.specs.ModuleVector.{ModuleVector, lead}
use Rattle.module_vec.proofs.Components.{component_keys}
use Rattle.module_vec.proofs.Multiples.{AllKeys-coefficient, IsTerm-lead}
use Rattle.module_vec.proofs.NormalForms.{SameVector-normal}
use Rattle.module_basis.specs.GroebnerBasis.{IsReducedBasis}
use Rattle.family.specs.Shapes.{HasVariables}
use Rattle.family.specs.Conditions.{in_sector}
use Rattle.sector_module.specs.Factors.{sector_factors}
use Rattle.sector_module.specs.SectorBasis.{vector_of, field_vector, IsSectorMember}
use Rattle.sector_module.proofs.Syzygies.{IsPolynomialIn, IsInRange, IsSyzygy}
use Rattle.sector_module.proofs.Fields.{SamePolynomial-value_at, length-factors, IsInModule-syzygy}
use Rattle.sector_module.proofs.Components.{field_of, length-components, components_keys, SameVector-field_of, IsInModule-field_of}
use Rattle.sector_module.proofs.Restricting.{exponents_of, part_in_range, part_none, first_keys, inner_reduced, terms_restricted, outer_reduced}
use Rattle.sector_module.proofs.Splitting.{high_part, NoneFrom, NoneFrom-low, length-low, low-divides, sum-parts, none_or_some}
use Rattle.sector_module.proofs.Parts.{IsInFirst, has_high, low_term, part, Among, AllKeys-from_among, AllKeys-among, AllKeys-part, part-lead, IsCanonical-part, value_of_part}
use Rattle.sector_module.proofs.Variables.{IsInFirst-from_HasVariables, HasVariables-from_IsInFirst, factors_in_first}

-- ---- the factors

module _ (p : Polynomial) (n sector : ℕ) (few : n ≤ VARIABLES) (shape : AllKeys (HasVariables n) p) where
  pub factors_first : AllByRecursion (AllKeys (IsInFirst VARIABLES n)) (sector_factors p n sector)
  factors_first =
      factors_in_first VARIABLES n p (in_sector sector) few (AllKeys-weaker (HasVariables n) (IsInFirst VARIABLES n) (IsInFirst-from_HasVariables n) p shape) 0 n (omega arith)

  pub long_factors : length (sector_factors p n sector) ≡ suc n
  long_factors = omega (arith, length-factors p (in_sector sector) 0 n)

  -- a canonical syzygy has terms of the components 1 to n + 1 alone
  pub in_range : (v : ModuleVector) → IsCanonical over_position v → IsSyzygy VARIABLES (sector_factors p n sector) v → AllKeys (IsInRange VARIABLES (suc n)) v
  in_range v canonical s =
      let range = subst (λ k. AllKeys (IsInRange VARIABLES k) s.terms) long_factors s.in_range in
      AllKeys-canonical same_term terms_decide over_position (over_position_laws VARIABLES).total (IsInRange VARIABLES (suc n)) v canonical
      (λ key counts. AllKeys-coefficient (IsInRange VARIABLES (suc n)) s.terms range key (λ zero. counts (s.same.same_at key ∙ zero)))

  -- each part of a syzygy is one
  pub part_is_syzygy : (b : List ℕ) (v : ModuleVector) → AllKeys (IsInRange VARIABLES (suc n)) v → IsSyzygy VARIABLES (sector_factors p n sector) v → IsSyzygy VARIABLES (sector_factors p n sector) (part n b v)
  part_is_syzygy b v range s =
      let fs = sector_factors p n sector in
      let zero = SameCoefficients-trans (SamePolynomial-value_at fs v s.terms s.same) s.vanishes in
      record {
        terms = part n b v;
        in_range = subst (λ k. AllKeys (IsInRange VARIABLES k) (part n b v)) (sym long_factors) (part_in_range n b v range);
        same = SameCoefficients-refl same_term (part n b v);
        vanishes = value_of_part VARIABLES n fs factors_first b v (exponents_of n v range) zero;
      }

  -- A syzygy in the first n variables is a member.
  pub sector_member : (v : ModuleVector) → AllKeys (IsInRange VARIABLES (suc n)) v → AllKeys (λ t. NoneFrom n t.1) v → IsSyzygy VARIABLES (sector_factors p n sector) v → IsSectorMember p n sector v
  sector_member v range none s =
      let variables : AllKeys (λ (t : Term). HasVariables n t.1) v = first_keys n v range none in
      record {
        field = field_of n v;
        shape = record {
          count = length-components 1 n v;
          polynomials = All-from_recursion (AllKeys (HasVariables n)) (field_of n v).c (components_keys (HasVariables n) 1 n v variables);
          factor = component_keys (HasVariables n) (1 + n) v variables;
        };
        member = IsInModule-field_of VARIABLES p (in_sector sector) n v range s;
        same = SameCoefficients-trans (SameVector-field_of VARIABLES n v range)
            (SameCoefficients-sym (SameVector-normal (over_position_laws VARIABLES) (field_vector (field_of n v)) (vector_of 1 ((field_of n v).c ++ (field_of n v).b ∷ [])) refl));
      }

  -- Each member is a syzygy.
  pub syzygy_from_member : (v : ModuleVector) → IsSectorMember p n sector v → IsSyzygy VARIABLES (sector_factors p n sector) v
  syzygy_from_member v m =
      let c = m.field.c in
      let b = m.field.b in
      let wider : (f : Polynomial) → AllKeys (HasVariables n) f → IsPolynomialIn VARIABLES f = λ f h. AllKeys-weaker (HasVariables n) (λ m. length m ≡ VARIABLES) (λ m h. h.each_variable) f h in
      let polynomials : AllByRecursion (IsPolynomialIn VARIABLES) (c ++ b ∷ []) =
      with_last c (recursion_from_All (IsPolynomialIn VARIABLES) c (All-weaker (AllKeys (HasVariables n)) (IsPolynomialIn VARIABLES) wider c m.shape.polynomials)) b (wider b m.shape.factor)
      in
      let s = (IsInModule-syzygy VARIABLES p b (in_sector sector) n c m.shape.count polynomials).0 m.member in
      record {
        terms = s.terms;
        in_range = s.in_range;
        same = SameCoefficients-trans m.same
            (SameCoefficients-trans (SameVector-normal (over_position_laws VARIABLES) (field_vector m.field) (vector_of 1 (c ++ b ∷ [])) refl) s.same);
        vanishes = s.vanishes;
      }
    where
      with_last : (c : List Polynomial) → AllByRecursion (IsPolynomialIn VARIABLES) c → (b : Polynomial) → IsPolynomialIn VARIABLES b → AllByRecursion (IsPolynomialIn VARIABLES) (c ++ b ∷ [])
      with_last [] h b k = (k, tt)
      with_last (f ∷ c) h b k = (h.0, with_last c h.1 b k)

  -- The reduced basis of the syzygies is that of the module of the sector.
  pub sector_reduced : (list : List ModuleVector) → IsReducedBasis over_position VARIABLES (IsSyzygy VARIABLES (sector_factors p n sector)) list
      → IsReducedBasis over_position VARIABLES (IsSectorMember p n sector) list
  sector_reduced list h = inner_reduced n (IsSyzygy VARIABLES (sector_factors p n sector)) (IsSectorMember p n sector) in_range part_is_syzygy sector_member syzygy_from_member list h

  pub element_terms : (list : List ModuleVector) → IsReducedBasis over_position VARIABLES (IsSyzygy VARIABLES (sector_factors p n sector)) list → (j : ℕ) → j < length list
      → AllKeys (λ t. IsInRange VARIABLES (suc n) t × NoneFrom n t.1) (get_or list j [])
  element_terms list h = terms_restricted n (IsSyzygy VARIABLES (sector_factors p n sector)) (IsSectorMember p n sector) in_range part_is_syzygy sector_member syzygy_from_member list h

  -- The reduced basis of the module of the sector is that of all syzygies.
  pub syzygy_reduced : (list : List ModuleVector) → IsReducedBasis over_position VARIABLES (IsSectorMember p n sector) list
      → IsReducedBasis over_position VARIABLES (IsSyzygy VARIABLES (sector_factors p n sector)) list
  syzygy_reduced list h = outer_reduced n (IsSyzygy VARIABLES (sector_factors p n sector)) (IsSectorMember p n sector) in_range part_is_syzygy sector_member syzygy_from_member list h
