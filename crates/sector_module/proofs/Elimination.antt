-- The syzygies are the members without component 0 of the module that the vectors f_i e_0 + e_i generate.
use Rattle.std.proofs.Common.{◌≡◌, ℕ, zero, suc, ◌+◌, ◌-◌, ◌*◌, ◌<◌, true, false, ◌==◌, length, get_or, replicate, List, [], ◌∷◌, ◌++◌, sym, refl, ap, subst, ◌∙◌, lit<, arith}
use Rattle.std.specs.Prelude.{nat_eq}
use Rattle.std.specs.List.{AllByRecursion, Contains}
use Rattle.std.specs.Cmp.{unsigned_Decides}
use Rattle.std.proofs.lemmas.Bool.Decides.{Decides-eqb, not_from_Decides}
use Rattle.std.proofs.lemmas.List.{get_or_default}
use Rattle.std.proofs.lemmas.List.Elements.{Contains-get_or}
use Rattle.ibp_algebra.specs.FormalSum.{weighted_sum, coefficient, AllKeys, scale, map_keys}
use Rattle.ibp_algebra.proofs.Weights.{unit_weight, weighted_sum-append, weighted_sum-scale, weighted_sum-ext, weighted_sum-add, weighted_sum-map_keys}
use Rattle.ibp_algebra.proofs.SumLaws.{SameCoefficients-refl, SameCoefficients-sym, SameCoefficients-trans, SameCoefficients-append, SameCoefficients-scale, SameCoefficients-map_keys, SameCoefficients-from_sums}
use Rattle.ibp_algebra.proofs.ZeroDivisors.{AllKeys-append, AllKeys-scale}
use Rattle.ibp_algebra.proofs.Combinations.{AllKeys-weaker, weighted_sum-combination}
use Rattle.ibp_algebra.specs.Exponents.{add_exponents, same_exponents}
use Rattle.ibp_algebra.specs.Polynomial.{Polynomial, SamePolynomial}
use Rattle.ibp_algebra.proofs.ExponentLaws.{length-padded_sum, padded_sum_assoc, padded_sum_comm}
use Rattle.ibp_algebra.specs.ExponentOrder.{exponents_decide}
use Rattle.mono_order.specs.Term.{Term, same_term, multiply_term, IsTerm}
use Rattle.mono_order.specs.TermOrder.{zero_high}
use Rattle.mono_order.proofs.Terms.{terms_decide, add_exponents-one, length-ones}
use Rattle.module_vec.specs.ModuleVector.{ModuleVector, SameVector, multiply_vector, IsMember, IsSubmodule}
use Rattle.module_vec.proofs.Multiples.{AllKeys-coefficient, AllKeys-map_keys, SameVector-multiply}
use Rattle.module_vec.proofs.Submodules.{IsMember-same, IsMember-zero, IsMember-append, IsMember-scale, IsMember-multiply, IsMember-generator, IsMember-least}
use Rattle.module_basis.specs.GroebnerBasis.{IsLowMember}
use Rattle.sector_module.specs.Factors.{at_component, unit_vector, factor_generators}
use Rattle.sector_module.proofs.Syzygies.{IsPolynomialIn, factor_at, value_at, IsInRange, IsSyzygy}

module _ (variables : ℕ) (fs : List Polynomial) (polynomials : AllByRecursion (IsPolynomialIn variables) fs) (few : length fs < 255) where
  -- the vector, with the value at component 0
  graph : ModuleVector → ModuleVector
  graph u = at_component 0 (value_at fs u) ++ u

  -- its weighted sums, term by term
  graph_weight : (Term → ℕ) → Term → ℕ
  graph_weight w t = weighted_sum (λ m. w (0, add_exponents t.1 m)) (factor_at fs t.0) + w t

  weighted_sum-graph : (w : Term → ℕ) (u : ModuleVector) → weighted_sum w (graph u) ≡ weighted_sum (graph_weight w) u
  unfolding graph graph_weight
  weighted_sum-graph w u =
      weighted_sum-append w (at_component 0 (value_at fs u)) u
      ∙ ap (λ n. n + weighted_sum w u)
      (weighted_sum-map_keys (λ m. (0, m)) w (value_at fs u)
      ∙ weighted_sum-combination (λ (t : Term). map_keys (add_exponents t.1) (factor_at fs t.0)) (λ m. w (0, m)) u
      ∙ weighted_sum-ext _ _ (λ t. weighted_sum-map_keys (add_exponents t.1) (λ m. w (0, m)) (factor_at fs t.0)) u)
      ∙ sym (weighted_sum-add (λ (t : Term). weighted_sum (λ m. w (0, add_exponents t.1 m)) (factor_at fs t.0)) w u)

  -- the vectors of this form
  record IsGraph (v : ModuleVector) : Type 0 where
    terms : ModuleVector
    in_range : AllKeys (IsInRange variables (length fs)) terms
    same : SameVector v (graph terms)

  IsGraph-same : (v w : ModuleVector) → SameVector v w → IsGraph v → IsGraph w
  IsGraph-same v w s h = record { terms = h.terms; in_range = h.in_range; same = SameCoefficients-trans (SameCoefficients-sym s) h.same }

  multiplied_weight : (w : Term → ℕ) (m : List ℕ) (t : Term) → graph_weight w (multiply_term m t) ≡ graph_weight (λ s. w (multiply_term m s)) t
  unfolding graph_weight
  multiplied_weight w m t =
      ap (λ n. n + w (multiply_term m t)) (weighted_sum-ext _ _ (λ k. ap (λ (e : List ℕ). w (0, e)) (padded_sum_assoc ◌+◌ (λ x y z. omega arith) m t.1 k)) (factor_at fs t.0))

  IsSubmodule-IsGraph : IsSubmodule variables IsGraph
  unfolding graph
  IsSubmodule-IsGraph =
      record {
        same = IsGraph-same;
        zero = record { terms = []; in_range = tt; same = SameCoefficients-refl same_term [] };
        sum = λ v w h k.
            record {
              terms = h.terms ++ k.terms;
              in_range = AllKeys-append (IsInRange variables (length fs)) h.terms k.terms h.in_range k.in_range;
              same = SameCoefficients-trans (SameCoefficients-append same_term terms_decide h.same k.same)
                  (SameCoefficients-from_sums same_term terms_decide _ _ (λ x.
                  weighted_sum-append x (graph h.terms) (graph k.terms)
                  ∙ (λ i. weighted_sum-graph x h.terms i + weighted_sum-graph x k.terms i)
                  ∙ sym (weighted_sum-append (graph_weight x) h.terms k.terms) ∙ sym (weighted_sum-graph x (h.terms ++ k.terms))));
            };
        scaled = λ c v h.
            record {
              terms = scale c h.terms;
              in_range = AllKeys-scale (IsInRange variables (length fs)) c h.terms h.in_range;
              same = SameCoefficients-trans (SameCoefficients-scale same_term terms_decide c h.same)
                  (SameCoefficients-from_sums same_term terms_decide _ _ (λ x.
                  weighted_sum-scale x c (graph h.terms) ∙ ap (λ n. c * n) (weighted_sum-graph x h.terms)
                  ∙ sym (weighted_sum-scale (graph_weight x) c h.terms) ∙ sym (weighted_sum-graph x (scale c h.terms))));
            };
        multiplied = λ m v p h.
            record {
              terms = multiply_vector m h.terms;
              in_range = AllKeys-map_keys (IsInRange variables (length fs)) (IsInRange variables (length fs)) (multiply_term m)
                  (λ t r. record { positive = r.positive; within = r.within; exponents = length-padded_sum ◌+◌ variables m t.1 p r.exponents }) h.terms h.in_range;
              same = SameCoefficients-trans (SameVector-multiply m h.same)
                  (SameCoefficients-from_sums same_term terms_decide _ _ (λ x.
                  weighted_sum-map_keys (multiply_term m) x (graph h.terms) ∙ weighted_sum-graph (λ s. x (multiply_term m s)) h.terms
                  ∙ weighted_sum-ext _ _ (λ t. sym (multiplied_weight x m t)) h.terms
                  ∙ sym (weighted_sum-map_keys (multiply_term m) (graph_weight x) h.terms) ∙ sym (weighted_sum-graph x (multiply_vector m h.terms))));
            };
      }

  -- ---- the generators

  generator : ℕ → ModuleVector
  generator i = at_component 0 (get_or fs i []) ++ unit_vector variables (1 + i)

  map_keys-one : (f : Polynomial) → IsPolynomialIn variables f → map_keys (add_exponents (replicate variables 0)) f ≡ f
  map_keys-one [] h = refl
  map_keys-one (t ∷ f) h = let e = add_exponents-one variables t.0 h.0 in λ i. (e i, t.1) ∷ map_keys-one f h.1 i

  polynomial_at : (gs : List Polynomial) → AllByRecursion (IsPolynomialIn variables) gs → (i : ℕ) → IsPolynomialIn variables (get_or gs i [])
  polynomial_at [] h i = tt
  polynomial_at (g ∷ gs) h zero = h.0
  polynomial_at (g ∷ gs) h (suc i) = polynomial_at gs h.1 i

  factor_after : (i : ℕ) → factor_at fs (1 + i) ≡ get_or fs i []
  factor_after i = let e : 1 + i - 1 ≡ i = omega arith in ap (λ k. get_or fs k []) e

  IsGraph-generator : (i : ℕ) → i < length fs → IsGraph (generator i)
  unfolding generator graph
  IsGraph-generator i below =
      let one : List ℕ = replicate variables 0 in
      let same : map_keys (add_exponents one) (factor_at fs (1 + i)) ≡ get_or fs i [] =
      ap (map_keys (add_exponents one)) (factor_after i) ∙ map_keys-one (get_or fs i []) (polynomial_at fs polynomials i)
      in
      record {
        terms = unit_vector variables (1 + i);
        in_range = (record { positive = omega arith; within = omega arith; exponents = length-ones variables }, tt);
        same = SameCoefficients-from_sums same_term terms_decide _ _ (λ w.
            let f = get_or fs i [] in
            let moved = map_keys (add_exponents one) (factor_at fs (1 + i)) in
            let values = scale 1 moved ++ [] in
            let at_zero = weighted_sum-map_keys (λ m. (0, m)) w values ∙ weighted_sum-append (λ m. w (0, m)) (scale 1 moved) [] in
            let scaled = weighted_sum-scale (λ m. w (0, m)) 1 moved in
            let is = ap (weighted_sum (λ m. w (0, m))) same in
            omega (
              arith,
              at_zero,
              scaled,
              is,
              weighted_sum-map_keys (λ m. (0, m)) w f,
              weighted_sum-append w (at_component 0 f) (unit_vector variables (1 + i)),
              weighted_sum-append w (at_component 0 values) (unit_vector variables (1 + i)),
            ));
      }

  length-generators : (first : ℕ) (gs : List Polynomial) → length (factor_generators variables first gs) ≡ length gs
  length-generators first [] = refl
  length-generators first (g ∷ gs) = omega (arith, length-generators (suc first) gs)

  generator_at : (first : ℕ) (gs : List Polynomial) (i : ℕ) → i < length gs
      → get_or (factor_generators variables first gs) i [] ≡ at_component 0 (get_or gs i []) ++ unit_vector variables (first + i)
  generator_at first [] i below = absurd (omega arith)
  generator_at first (g ∷ gs) zero below = let e : first ≡ first + 0 = omega arith in ap (λ k. at_component 0 g ++ unit_vector variables k) e
  generator_at first (g ∷ gs) (suc i) below =
      let e : suc first + i ≡ first + suc i = omega arith in
      generator_at (suc first) gs i (omega arith) ∙ ap (λ k. at_component 0 (get_or gs i []) ++ unit_vector variables k) e

  IsGraph-contained : (g : ModuleVector) → Contains (factor_generators variables 1 fs) g → IsGraph g
  unfolding generator
  IsGraph-contained g h =
      let below : h.0 < length fs = omega (arith, h.1, length-generators 1 fs) in
      let is : get_or (factor_generators variables 1 fs) h.0 [] ≡ g = get_or_default (factor_generators variables 1 fs) h.0 [] g h.1 ∙ h.2 in
      subst IsGraph (sym (generator_at 1 fs h.0 below) ∙ is) (IsGraph-generator h.0 below)

  -- ---- coefficients at component 0

  none_there : (P : Term → Type 0) (v : ModuleVector) → AllKeys P v → (t : Term) → (P t → ⊥) → coefficient same_term v t ≡ 0
  none_there P v h t apart =
      elim (coefficient same_term v t == 0) as (λ b. (coefficient same_term v t == 0) ≡ b → coefficient same_term v t ≡ 0) [
        | true ↦ λ e. (Decides-eqb (coefficient same_term v t) 0).0 e
        | false ↦ λ e. absurd (apart (AllKeys-coefficient P v h t (not_from_Decides _ (Decides-eqb (coefficient same_term v t) 0) e)))
      ] refl

  coefficient_at_zero : (f : Polynomial) (m : List ℕ) → weighted_sum (unit_weight same_term (0, m)) (at_component 0 f) ≡ weighted_sum (unit_weight same_exponents m) f
  coefficient_at_zero f m = weighted_sum-map_keys (λ k. (0, k)) (unit_weight same_term (0, m)) f

  -- where the value is zero, the graph is the vector itself
  graph-vanishes : (u : ModuleVector) → SamePolynomial (value_at fs u) [] → SameVector (graph u) u
  unfolding graph
  graph-vanishes u h =
      SameCoefficients-append same_term terms_decide
      (SameCoefficients-map_keys same_exponents exponents_decide same_term terms_decide (λ m. (0, m)) {f = value_at fs u} {g = []} h) (SameCoefficients-refl same_term u)

  -- A low member of the module is a syzygy.
  pub IsSyzygy-from_member : (v : ModuleVector) → IsLowMember zero_high (IsMember variables (factor_generators variables 1 fs)) v → IsSyzygy variables fs v
  unfolding graph
  IsSyzygy-from_member v h =
      let g = IsMember-least variables (factor_generators variables 1 fs) IsGraph IsSubmodule-IsGraph IsGraph-contained v h.0 in
      let low = h.1 in
      let vanishes : SamePolynomial (value_at fs g.terms) [] =
      record {
        same_at = λ m.
            let zero : coefficient same_term v (0, m) ≡ 0 =
            low.same.same_at (0, m) ∙ none_there (λ t. zero_high t.0 ≡ false) low.low_terms low.low (0, m) (λ e. cc)
            in
            let none : coefficient same_term g.terms (0, m) ≡ 0 = none_there (IsInRange variables (length fs)) g.terms g.in_range (0, m) (λ r. absurd (let p = r.positive in omega arith)) in
            omega (arith, zero, none, g.same.same_at (0, m), weighted_sum-append (unit_weight same_term (0, m)) (at_component 0 (value_at fs g.terms)) g.terms, coefficient_at_zero (value_at fs g.terms) m);
      }
      in
      record { terms = g.terms; in_range = g.in_range; same = SameCoefficients-trans g.same (graph-vanishes g.terms vanishes); vanishes = vanishes }

  -- ---- the converse

  generator_graph_weight : (w : Term → ℕ) (t : Term) → IsInRange variables (length fs) t
      → weighted_sum w (multiply_vector t.1 (generator (t.0 - 1))) ≡ graph_weight w t
  unfolding generator graph_weight
  generator_graph_weight w t r =
      let i = t.0 - 1 in
      let f = get_or fs i [] in
      let v = λ (s : Term). w (multiply_term t.1 s) in
      let number : 1 + i ≡ t.0 = omega (arith, r.positive) in
      let one : List ℕ = replicate variables 0 in
      let unit : multiply_term t.1 (1 + i, one) ≡ t =
      λ k. (number k, (padded_sum_comm ◌+◌ (λ x y. omega arith) t.1 one ∙ add_exponents-one variables t.1 r.exponents) k)
      in
      omega (
        arith,
        weighted_sum-map_keys (multiply_term t.1) w (generator i),
        weighted_sum-append v (at_component 0 f) (unit_vector variables (1 + i)),
        weighted_sum-map_keys (λ (m : List ℕ). (0, m)) v f,
        ap w unit,
      )

  generator_contained : (i : ℕ) → i < length fs → Contains (factor_generators variables 1 fs) (generator i)
  unfolding generator
  generator_contained i below =
      subst (Contains (factor_generators variables 1 fs)) (generator_at 1 fs i below)
      (Contains-get_or (factor_generators variables 1 fs) i [] (omega (arith, below, length-generators 1 fs)))

  generator_valid : (i : ℕ) → i < length fs → AllKeys (IsTerm variables) (generator i)
  unfolding generator
  generator_valid i below =
      AllKeys-append (IsTerm variables) (at_component 0 (get_or fs i [])) (unit_vector variables (1 + i))
      (AllKeys-map_keys (λ m. length m ≡ variables) (IsTerm variables) (λ m. (0, m)) (λ m long. record { component = lit< tt; exponents = long }) (get_or fs i []) (polynomial_at fs polynomials i))
      (record { component = omega (arith, few, below); exponents = length-ones variables }, tt)

  graph_is_member : (u : ModuleVector) → AllKeys (IsInRange variables (length fs)) u → IsMember variables (factor_generators variables 1 fs) (graph u)
  unfolding graph
  graph_is_member [] h = IsMember-zero variables (factor_generators variables 1 fs)
  graph_is_member (t ∷ u) h =
      let gs = factor_generators variables 1 fs in
      let i = t.0.0 - 1 in
      let below : i < length fs = omega (arith, h.0.positive, h.0.within) in
      let contained : Contains gs (generator i) = generator_contained i below in
      let valid = generator_valid i below in
      let first = IsMember-scale variables gs t.1 _ (IsMember-multiply variables gs t.0.1 (generator i) h.0.exponents (IsMember-generator variables gs (generator i) contained valid)) in
      IsMember-same variables gs (scale t.1 (multiply_vector t.0.1 (generator i)) ++ graph u) (graph (t ∷ u))
      (SameCoefficients-from_sums same_term terms_decide _ _ (λ w.
      weighted_sum-append w (scale t.1 (multiply_vector t.0.1 (generator i))) (graph u)
      ∙ (λ k. (weighted_sum-scale w t.1 (multiply_vector t.0.1 (generator i)) ∙ ap (λ n. t.1 * n) (generator_graph_weight w t.0 h.0)) k + weighted_sum-graph w u k)
      ∙ sym (weighted_sum-graph w (t ∷ u))))
      (IsMember-append variables gs _ (graph u) first (graph_is_member u h.1))

  zero_is_high : (n : ℕ) → 0 < n → zero_high n ≡ false
  zero_is_high n h =
      elim (nat_eq n 0) as (λ b. nat_eq n 0 ≡ b → b ≡ false) [
        | true ↦ λ e. absurd (omega (arith, (unsigned_Decides n 0).0 e))
        | false ↦ λ e. refl
      ] refl

  -- A syzygy is a low member of the module.
  pub member_from_IsSyzygy : (v : ModuleVector) → IsSyzygy variables fs v → IsLowMember zero_high (IsMember variables (factor_generators variables 1 fs)) v
  member_from_IsSyzygy v s = (
    IsMember-same variables (factor_generators variables 1 fs) (graph s.terms) v
        (SameCoefficients-trans (graph-vanishes s.terms s.vanishes) (SameCoefficients-sym s.same)) (graph_is_member s.terms s.in_range),
    record { low_terms = s.terms; low = AllKeys-weaker _ (λ (t : Term). zero_high t.0 ≡ false) (λ t r. zero_is_high t.0 r.positive) s.terms s.in_range; same = s.same },
  )
