-- A set of vectors with the components 1 to n + 1, and with each vector its parts (*Parts*), has a reduced basis in the
-- first n variables: it is the reduced basis of the vectors of the set that are in these variables; and the other way
-- round.
--     Member, Inner     the set, and its vectors in the first n variables
use Rattle.std.proofs.Common.{◌≡◌, ◌≢◌, ℕ, suc, ◌+◌, ◌<◌, ◌≤◌, Bool, true, false, if◌then◌else◌, length, get_or, sum, List, [], ◌∷◌, ◌++◌, ◌⊎◌, inl, inr, ⊎_elim, sym, refl, ap, subst, ◌∙◌, arith}
use Rattle.std.specs.Prelude.{nat_eq}
use Rattle.std.specs.List.{AllByRecursion, Contains}
use Rattle.std.specs.Cmp.{unsigned_Decides}
use Rattle.std.specs.declared.cmp.Ordering.TheVariants.{Less, Greater}
use Rattle.std.proofs.lemmas.Bool.{cases_lt}
use Rattle.std.proofs.lemmas.Bool.Decides.{not_from_Decides}
use Rattle.std.proofs.lemmas.List.{get_or_default}
use Rattle.std.proofs.lemmas.List.Elements.{All-from_recursion, recursion_from_All, All-weaker}
use Rattle.ibp_algebra.specs.FormalSum.{AllKeys, IsCanonical}
use Rattle.ibp_algebra.specs.ExponentOrder.{exponents_decide}
use Rattle.ibp_algebra.specs.Polynomial.{Polynomial}
use Rattle.ibp_algebra.proofs.Canonical.{Less-reverse}
use Rattle.ibp_algebra.proofs.Combinations.{AllKeys-weaker}
use Rattle.ibp_algebra.proofs.SumLaws.{SameCoefficients-refl, SameCoefficients-sym, SameCoefficients-trans}
use Rattle.ibp_algebra.proofs.Terms.{AllKeys-canonical}
use Rattle.mono_order.specs.Term.{Term, same_term, divides}
use Rattle.mono_order.specs.TermOrder.{over_position}
use Rattle.mono_order.specs.BlockOrders.{over_position_laws}
use Rattle.ibp_base.proofs.Tests.{and_true, both_true}
use Rattle.mono_order.specs.declared.limits.TheConstants.{VARIABLES}
use Rattle.mono_order.proofs.Terms.{terms_decide, divides-trans}
use Rattle.mono_order.proofs.Places.{sum-quotient}
use Rattle.module_vec.specs.ModuleVector.{ModuleVector, lead}
use Rattle.module_vec.proofs.Components.{component_keys}
use Rattle.module_vec.proofs.Multiples.{AllKeys-coefficient, IsTerm-lead}
use Rattle.module_vec.proofs.NormalForms.{SameVector-normal}
use Rattle.module_basis.specs.GroebnerBasis.{IsReducedBasis}
use Rattle.family.specs.Shapes.{HasVariables}
use Rattle.family.specs.Conditions.{in_sector}
use Rattle.sector_module.specs.Factors.{sector_factors}
use Rattle.sector_module.specs.SectorBasis.{vector_of, field_vector, IsSectorMember}
use Rattle.sector_module.proofs.Syzygies.{IsPolynomialIn, IsInRange, IsSyzygy}
use Rattle.sector_module.proofs.Fields.{SamePolynomial-value_at, length-factors, IsInModule-syzygy}
use Rattle.sector_module.proofs.Components.{field_of, length-components, components_keys, SameVector-field_of, IsInModule-field_of}
use Rattle.sector_module.proofs.Splitting.{high_part, NoneFrom, NoneFrom-low, length-low, low-divides, sum-parts, none_or_some}
use Rattle.sector_module.proofs.Parts.{IsInFirst, has_high, low_term, part, Among, AllKeys-from_among, AllKeys-among, AllKeys-part, part-lead, IsCanonical-part, value_of_part}
use Rattle.sector_module.proofs.Variables.{IsInFirst-from_HasVariables, HasVariables-from_IsInFirst, factors_in_first}

-- ---- leads

lead_or_below : (v : ModuleVector) → IsCanonical over_position v → (t : Term) → Among v t → (lead v ≡ t) ⊎ (over_position (lead v) t ≡ Greater)
lead_or_below [] h t among = absurd among
lead_or_below (term ∷ v) h t among =
    ⊎_elim (λ (is : term.0 ≡ t). inl is) (λ (rest : Among v t). inr (AllKeys-among (λ k. over_position term.0 k ≡ Greater) v h.2 t rest)) among

-- no term has a degree above that of the lead
degree_of_lead : (v : ModuleVector) → IsCanonical over_position v → (t : Term) → Among v t → sum t.1 ≤ sum (lead v).1
degree_of_lead v h t among =
    ⊎_elim (λ (is : lead v ≡ t). let same = ap (λ (k : Term). sum k.1) is in omega (arith, same))
    (λ (below : over_position (lead v) t ≡ Greater).
    ⊎_elim
    (λ (more : sum (lead v).1 < sum t.1).
    let above = (over_position_laws VARIABLES).degree_first t (lead v) refl refl more in
    absurd (let clash : Less ≡ Greater = sym (Less-reverse over_position (over_position_laws VARIABLES).total (lead v) t below) ∙ above in let no : ⊥ = cc in no))
    (λ (le : sum t.1 ≤ sum (lead v).1). le) (cases_lt (sum (lead v).1) (sum t.1)))
    (lead_or_below v h t among)

own_lead_if : (c : Bool) (t : Term) (k : ℕ) (rest : ModuleVector) → c ≡ true → ((if c then ((t, k) ∷ rest) else rest) ≢ []) × (lead (if c then ((t, k) ∷ rest) else rest) ≡ t)
own_lead_if true t k rest e = (λ none. cc, refl)
own_lead_if false t k rest e = absurd (let no : ⊥ = cc in no)

-- the part of the lead's exponents begins with the lead
own_lead : (n : ℕ) (v : ModuleVector) → v ≢ []
    → (part n (high_part n (lead v).1) v ≢ []) × (lead (part n (high_part n (lead v).1) v) ≡ low_term n (lead v))
own_lead n [] some = absurd (some refl)
own_lead n (t ∷ v) some =
    own_lead_if (has_high n (high_part n t.0.1) t.0) (low_term n t.0) t.1 (part n (high_part n t.0.1) v) ((exponents_decide (high_part n t.0.1) (high_part n t.0.1)).1 refl)

low_term-divides : (n : ℕ) (t : Term) → divides (low_term n t) t ≡ true
low_term-divides n t = and_true _ _ ((unsigned_Decides t.0 t.0).1 refl) (low-divides n t.1)

-- a divisor has at most the degree
degree_of_divisor : (s t : Term) → length s.1 ≡ VARIABLES → length t.1 ≡ VARIABLES → divides s t ≡ true → sum s.1 ≤ sum t.1
degree_of_divisor s t p q h = omega (arith, sum-quotient VARIABLES s.1 t.1 p q (both_true _ _ h).1)

place_is : (list : List ModuleVector) (g : ModuleVector) (c : Contains list g) → get_or list c.0 [] ≡ g
place_is list g c = get_or_default list c.0 [] g c.1 ∙ c.2

module _ (n : ℕ) where
  pub exponents_of : (v : ModuleVector) → AllKeys (IsInRange VARIABLES (suc n)) v → AllKeys (λ t. length t.1 ≡ VARIABLES) v
  exponents_of v range = AllKeys-weaker (IsInRange VARIABLES (suc n)) (λ (t : Term). length t.1 ≡ VARIABLES) (λ t r. r.exponents) v range

  pub part_in_range : (b : List ℕ) (v : ModuleVector) → AllKeys (IsInRange VARIABLES (suc n)) v → AllKeys (IsInRange VARIABLES (suc n)) (part n b v)
  part_in_range b v range =
      AllKeys-part n b (IsInRange VARIABLES (suc n)) (IsInRange VARIABLES (suc n))
      (λ t r e. record { positive = r.positive; within = r.within; exponents = length-low n t.1 ∙ r.exponents }) v range

  pub part_none : (b : List ℕ) (v : ModuleVector) → AllKeys (IsInRange VARIABLES (suc n)) v → AllKeys (λ t. NoneFrom n t.1) (part n b v)
  part_none b v range = AllKeys-part n b (IsInRange VARIABLES (suc n)) (λ t. NoneFrom n t.1) (λ t r e. NoneFrom-low n t.1) v range

  pub first_keys : (v : ModuleVector) → AllKeys (IsInRange VARIABLES (suc n)) v → AllKeys (λ t. NoneFrom n t.1) v → AllKeys (λ (t : Term). HasVariables n t.1) v
  first_keys [] range none = tt
  first_keys (t ∷ v) range none = (HasVariables-from_IsInFirst n t.0.1 (record { exponents = range.0.exponents; none = none.0 }), first_keys v range.1 none.1)

-- ---- the set

module _ (n : ℕ) (Member Inner : ModuleVector → Type 0)
    (in_range : (v : ModuleVector) → IsCanonical over_position v → Member v → AllKeys (IsInRange VARIABLES (suc n)) v)
    (part_is_member : (b : List ℕ) (v : ModuleVector) → AllKeys (IsInRange VARIABLES (suc n)) v → Member v → Member (part n b v))
    (inner : (v : ModuleVector) → AllKeys (IsInRange VARIABLES (suc n)) v → AllKeys (λ t. NoneFrom n t.1) v → Member v → Inner v)
    (outer : (v : ModuleVector) → Inner v → Member v) where
  module _ (list : List ModuleVector) (h : IsReducedBasis over_position VARIABLES Member list) where
    element_range : (j : ℕ) → j < length list → AllKeys (IsInRange VARIABLES (suc n)) (get_or list j [])
    element_range j below = in_range (get_or list j []) (h.monic j [] below).canonical (h.basis.members j [] below)

    -- a divisor of a term without its exponents from place n on is no element's lead
    no_divisor : (j : ℕ) → j < length list → (s : Term) → Among (get_or list j []) s → 0 < sum (high_part n s.1) → (g : ModuleVector) → Contains list g
        → divides (lead g) (low_term n s) ≡ true → ⊥
    no_divisor j below s among high g contained divisor =
        let r = get_or list j [] in
        let range = element_range j below in
        let is = place_is list g contained in
        let whole : divides (lead g) s ≡ true = divides-trans (lead g) (low_term n s) s divisor (low_term-divides n s) in
        let long : length s.1 ≡ VARIABLES = AllKeys-among (λ (t : Term). length t.1 ≡ VARIABLES) r (exponents_of n r range) s among in
        elim (nat_eq contained.0 j) as (λ b. nat_eq contained.0 j ≡ b → ⊥) [
          | true ↦ λ e.
              let same : contained.0 ≡ j = (unsigned_Decides contained.0 j).0 e in
              let own : g ≡ r = sym is ∙ ap (λ k. get_or list k []) same in
              let divided : divides (lead r) (low_term n s) ≡ true = subst (λ (u : ModuleVector). divides (lead u) (low_term n s) ≡ true) own divisor in
              let monic = h.monic j [] below in
              let lead_long : length (lead r).1 ≡ VARIABLES = (IsTerm-lead (over_position_laws VARIABLES) r monic.monic monic.terms).exponents in
              let small = degree_of_divisor (lead r) (low_term n s) lead_long (length-low n s.1 ∙ long) divided in
              omega (arith, small, degree_of_lead r monic.canonical s among, sum-parts n s.1, high)
          | false ↦ λ e.
              let apart : contained.0 ≢ j = not_from_Decides _ (unsigned_Decides contained.0 j) e in
              let fails = AllKeys-among (λ t. divides (lead (get_or list contained.0 [])) t ≡ false) r (h.reduced contained.0 j contained.1 below apart) s among in
              let clash : true ≡ false = sym whole ∙ sym (ap (λ (u : ModuleVector). divides (lead u) s) is) ∙ fails in
              cc
        ] refl

    -- Each element is in the first n variables.
    element_none : (j : ℕ) → j < length list → AllKeys (λ t. NoneFrom n t.1) (get_or list j [])
    element_none j below =
        let r = get_or list j [] in
        let range = element_range j below in
        AllKeys-from_among (λ t. NoneFrom n t.1) r (λ t among.
        ⊎_elim (λ (none : NoneFrom n t.1). none)
        (λ (some : 0 < sum (high_part n t.1)).
        let b = high_part n t.1 in
        let hl = part-lead n b r t among ((exponents_decide b b).1 refl) in
        let same : high_part n hl.term.1 ≡ b = (exponents_decide (high_part n hl.term.1) b).0 hl.high in
        let high : 0 < sum (high_part n hl.term.1) = subst (λ (m : List ℕ). 0 < sum m) (sym same) some in
        let canonical = IsCanonical-part (over_position_laws VARIABLES) n b r (exponents_of n r range) (h.monic j [] below).canonical in
        let d = h.basis.divisible (part n b r) canonical hl.some (part_is_member b r range (h.basis.members j [] below)) in
        absurd (no_divisor j below hl.term hl.among high d.0 d.1 (subst (λ (t : Term). divides (lead d.0) t ≡ true) hl.leads d.2)))
        (none_or_some n t.1))

    element_member : (j : ℕ) → j < length list → Inner (get_or list j [])
    element_member j below = inner (get_or list j []) (element_range j below) (element_none j below) (h.basis.members j [] below)

    pub inner_reduced : IsReducedBasis over_position VARIABLES Inner list
    inner_reduced =
        record {
          ascends = h.ascends;
          monic = h.monic;
          basis = record {
            members = λ j d below. subst Inner (get_or_default list j [] d below) (element_member j below);
            divisible = λ v canonical some m. h.basis.divisible v canonical some (outer v m);
          };
          reduced = h.reduced;
        }

    pub terms_restricted : (j : ℕ) → j < length list → AllKeys (λ t. IsInRange VARIABLES (suc n) t × NoneFrom n t.1) (get_or list j [])
    terms_restricted j below = together (get_or list j []) (element_range j below) (element_none j below)
      where
        together : (v : ModuleVector) → AllKeys (IsInRange VARIABLES (suc n)) v → AllKeys (λ t. NoneFrom n t.1) v → AllKeys (λ t. IsInRange VARIABLES (suc n) t × NoneFrom n t.1) v
        together [] a b = tt
        together (t ∷ v) a b = ((a.0, b.0), together v a.1 b.1)

  -- The reduced basis of the vectors in the first n variables is that of the whole set.
  pub outer_reduced : (list : List ModuleVector) → IsReducedBasis over_position VARIABLES Inner list
      → IsReducedBasis over_position VARIABLES Member list
  outer_reduced list h =
      record {
        ascends = h.ascends;
        monic = h.monic;
        basis = record {
          members = λ j d below. outer (get_or list j d) (h.basis.members j d below);
          divisible = λ v canonical some s.
              let range = in_range v canonical s in
              let b = high_part n (lead v).1 in
              let own = own_lead n v some in
              let member = inner (part n b v) (part_in_range n b v range) (part_none n b v range) (part_is_member b v range s) in
              let d = h.basis.divisible (part n b v) (IsCanonical-part (over_position_laws VARIABLES) n b v (exponents_of n v range) canonical) own.0 member in
              let divisor = subst (λ (t : Term). divides (lead d.0) t ≡ true) own.1 d.2 in
              (d.0, d.1, divides-trans (lead d.0) (low_term n (lead v)) (lead v) divisor (low_term-divides n (lead v)));
        };
        reduced = h.reduced;
      }
