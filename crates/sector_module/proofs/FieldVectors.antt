-- The fields that the elements of a sector's reduced basis stand for: their vectors are the elements, and they are
-- canonical fields of the module of the sector, in its variables.
use Rattle.std.proofs.Common.{◌≡◌, ℕ, zero, suc, ◌+◌, ◌<◌, ◌≤◌, List, [], ◌∷◌, ◌++◌, length, get_or, map, sym, refl, subst, arith}
use Rattle.std.specs.List.{All, AllZip, AllByRecursion}
use Rattle.std.proofs.lemmas.List.Elements.{All-from_get_or, All-from_recursion, recursion_from_All, All-weaker}
use Rattle.ibp_algebra.specs.FormalSum.{AllKeys, IsCanonical}
use Rattle.ibp_algebra.specs.Exponents.{same_exponents, deg_rev_lex}
use Rattle.ibp_algebra.specs.ExponentOrder.{exponents_decide}
use Rattle.ibp_algebra.specs.Polynomial.{Polynomial, SamePolynomial}
use Rattle.ibp_algebra.proofs.Combinations.{AllKeys-weaker}
use Rattle.ibp_algebra.proofs.SumLaws.{SameCoefficients-refl, SameCoefficients-sym, SameCoefficients-trans, SameCoefficients-append, SameCoefficients-map_keys}
use Rattle.mono_order.specs.Term.{Term, same_term}
use Rattle.mono_order.specs.TermOrder.{over_position}
use Rattle.mono_order.specs.BlockOrders.{over_position_laws}
use Rattle.mono_order.proofs.Terms.{terms_decide}
use Rattle.module_vec.specs.ModuleVector.{ModuleVector, SameVector, component_of}
use Rattle.module_vec.proofs.Components.{component_keys}
use Rattle.module_vec.proofs.NormalForms.{is_normal_form}
use Rattle.module_basis.specs.GroebnerBasis.{IsReducedBasis}
use Rattle.family.specs.declared.parts.StrippedField.{StrippedField}
use Rattle.family.specs.Shapes.{HasVariables, IsPolynomial, IsField}
use Rattle.family.specs.Conditions.{in_sector, IsInSectorModule}
use Rattle.sector_module.specs.Factors.{sector_factors}
use Rattle.sector_module.specs.FieldsOf.{IsComponentOf, IsFieldOf}
use Rattle.sector_module.specs.SectorBasis.{vector_of, field_vector, IsCanonicalField, IsSectorMember, IsSectorBasis}
use Rattle.sector_module.proofs.Syzygies.{IsPolynomialIn, IsInRange, IsSyzygy}
use Rattle.sector_module.proofs.Fields.{IsInModule-syzygy}
use Rattle.sector_module.proofs.Components.{components_from, SameVector-field_of}
use Rattle.ibp_algebra.proofs.Degrees.{AllKeys-same}
use Rattle.mono_order.specs.declared.limits.TheConstants.{VARIABLES}
use Rattle.sector_module.proofs.OneBasis.{with_last}
use Rattle.sector_module.proofs.Splitting.{NoneFrom}
use Rattle.sector_module.proofs.Variables.{HasVariables-from_IsInFirst}
use Rattle.sector_module.proofs.SectorReduced.{element_terms, sector_reduced}

vector_same : (v : ModuleVector) (b d : Polynomial) → SamePolynomial b d → (first n : ℕ) (ds : List Polynomial) → length ds ≡ n
    → ((i : ℕ) → i < n → SamePolynomial (get_or ds i []) (component_of (first + i) v))
    → SameVector (vector_of first (ds ++ b ∷ [])) (vector_of first (components_from first n v ++ d ∷ []))
vector_same v b d last first zero [] e same =
    SameCoefficients-append same_term terms_decide
    (SameCoefficients-map_keys same_exponents exponents_decide same_term terms_decide (λ m. (first, m)) {f = b} {g = d} last) (SameCoefficients-refl same_term [])
vector_same v b d last first zero (f ∷ ds) e same = absurd (omega arith)
vector_same v b d last first (suc n) [] e same = absurd (omega arith)
vector_same v b d last first (suc n) (f ∷ ds) e same =
    let here : first + 0 ≡ first = omega arith in
    let own : SamePolynomial f (component_of first v) = subst (λ k. SamePolynomial f (component_of k v)) here (same 0 (omega arith)) in
    SameCoefficients-append same_term terms_decide
    (SameCoefficients-map_keys same_exponents exponents_decide same_term terms_decide (λ m. (first, m)) {f = f} {g = component_of first v} own)
    (vector_same v b d last (suc first) n ds (omega arith) (λ i below.
    let next : first + suc i ≡ suc first + i = omega arith in
    subst (λ k. SamePolynomial (get_or ds i []) (component_of k v)) next (same (suc i) (omega arith))))

module _ (degree : ℕ) (p : Polynomial) (n sector : ℕ) (few : n ≤ VARIABLES) (shape : AllKeys (HasVariables n) p) where
  -- what is known of an element of the reduced basis
  record IsElement (v : ModuleVector) : Type 0 where
    canonical : IsCanonical over_position v
    terms : AllKeys (λ t. IsInRange VARIABLES (suc n) t × NoneFrom n t.1) v
    syzygy : IsSyzygy VARIABLES (sector_factors p n sector) v

  record HasFieldFacts (v : ModuleVector) (f : StrippedField) : Type 0 where
    vector : field_vector f ≡ v
    canonical : IsCanonicalField n f
    fits : IsField n degree f.c f.b
    member : IsInSectorModule p sector f

  variables_of : (v : ModuleVector) → IsElement v → AllKeys (λ (t : Term). HasVariables n t.1) v
  variables_of v h =
      AllKeys-weaker (λ (t : Term). IsInRange VARIABLES (suc n) t × NoneFrom n t.1) (λ (t : Term). HasVariables n t.1)
      (λ t k. HasVariables-from_IsInFirst n t.1 (record { exponents = k.0.exponents; none = k.1 })) v h.terms

  polynomial_of : (v : ModuleVector) → IsElement v → (i : ℕ) (f : Polynomial) → IsComponentOf degree i v f → IsPolynomial n degree f
  polynomial_of v h i f k =
      record {
        canonical = k.canonical;
        variables = AllKeys-same (HasVariables n) f (component_of i v) k.canonical k.same (component_keys (HasVariables n) i v (variables_of v h));
        degree_within = k.within;
      }

  field_facts : (v : ModuleVector) (f : StrippedField) → IsElement v → IsFieldOf degree n v f → HasFieldFacts v f
  field_facts v f h k =
      let all : All (IsPolynomial n degree) f.c =
      All-from_get_or (IsPolynomial n degree) f.c [] (λ i below. polynomial_of v h (1 + i) (get_or f.c i []) (k.polynomials i (omega (arith, below, k.count))))
      in
      let last : IsPolynomial n degree f.b = polynomial_of v h (1 + n) f.b k.factor in
      let range : AllKeys (IsInRange VARIABLES (suc n)) v = AllKeys-weaker (λ (t : Term). IsInRange VARIABLES (suc n) t × NoneFrom n t.1) (IsInRange VARIABLES (suc n)) (λ t r. r.0) v h.terms in
      let same : SameVector v (vector_of 1 (f.c ++ f.b ∷ [])) =
      SameCoefficients-trans (SameVector-field_of VARIABLES n v range)
      (SameCoefficients-sym (vector_same v f.b (component_of (1 + n) v) k.factor.same 1 n f.c k.count (λ i below. (k.polynomials i below).same)))
      in
      let wider : (g : Polynomial) → IsPolynomial n degree g → IsPolynomialIn VARIABLES g =
      λ g j. AllKeys-weaker (HasVariables n) (λ m. length m ≡ VARIABLES) (λ m has. has.each_variable) g j.variables
      in
      let polynomials : AllByRecursion (IsPolynomialIn VARIABLES) (f.c ++ f.b ∷ []) =
      with_last (IsPolynomialIn VARIABLES) f.c (recursion_from_All (IsPolynomialIn VARIABLES) f.c (All-weaker (IsPolynomial n degree) (IsPolynomialIn VARIABLES) wider f.c all)) f.b (wider f.b last)
      in
      let s = h.syzygy in
      let own : IsSyzygy VARIABLES (sector_factors p n sector) (vector_of 1 (f.c ++ f.b ∷ [])) =
      record { terms = s.terms; in_range = s.in_range; same = SameCoefficients-trans (SameCoefficients-sym same) s.same; vanishes = s.vanishes }
      in
      record {
        vector = sym (is_normal_form (over_position_laws VARIABLES) v (vector_of 1 (f.c ++ f.b ∷ [])) h.canonical same);
        canonical = record {
          count = k.count;
          polynomials = All-weaker (IsPolynomial n degree) (IsCanonical deg_rev_lex) (λ g j. j.canonical) f.c all;
          factor = last.canonical;
        };
        fits = record { count = k.count; polynomials = all; factor = last };
        member = (IsInModule-syzygy VARIABLES p f.b (in_sector sector) n f.c k.count polynomials).1 own;
      }

  all_facts : (list : List ModuleVector) (fields : List StrippedField) → AllByRecursion IsElement list → AllZip (IsFieldOf degree n) list fields → AllZip HasFieldFacts list fields
  all_facts [] [] h k = tt
  all_facts [] (f ∷ fields) h k = absurd k
  all_facts (v ∷ list) [] h k = absurd k
  all_facts (v ∷ list) (f ∷ fields) h k = (field_facts v f h.0 k.0, all_facts list fields h.1 k.1)

  vectors_are : (list : List ModuleVector) (fields : List StrippedField) → AllZip HasFieldFacts list fields → map field_vector fields ≡ list
  vectors_are [] [] k = refl
  vectors_are [] (f ∷ fields) k = absurd k
  vectors_are (v ∷ list) [] k = absurd k
  vectors_are (v ∷ list) (f ∷ fields) k = λ i. k.0.vector i ∷ vectors_are list fields k.1 i

  each_field : (P : StrippedField → Type 0) → ((v : ModuleVector) (f : StrippedField) → HasFieldFacts v f → P f) → (list : List ModuleVector) (fields : List StrippedField)
      → AllZip HasFieldFacts list fields → AllByRecursion P fields
  each_field P h [] [] k = tt
  each_field P h [] (f ∷ fields) k = absurd k
  each_field P h (v ∷ list) [] k = absurd k
  each_field P h (v ∷ list) (f ∷ fields) k = (h v f k.0, each_field P h list fields k.1)

  module _ (list : List ModuleVector) (h : IsReducedBasis over_position VARIABLES (IsSyzygy VARIABLES (sector_factors p n sector)) list) (fields : List StrippedField) (zip : AllZip (IsFieldOf degree n) list fields) where
    facts : AllZip HasFieldFacts list fields
    facts =
        all_facts list fields
        (recursion_from_All IsElement list (All-from_get_or IsElement list [] (λ j below.
        record { canonical = (h.monic j [] below).canonical; terms = element_terms p n sector few shape list h j below; syzygy = h.basis.members j [] below }))) zip

    pub fields_fit : All (λ f. IsField n degree f.c f.b) fields
    fields_fit = All-from_recursion (λ f. IsField n degree f.c f.b) fields (each_field (λ f. IsField n degree f.c f.b) (λ v f k. k.fits) list fields facts)

    pub fields_members : All (IsInSectorModule p sector) fields
    fields_members = All-from_recursion (IsInSectorModule p sector) fields (each_field (IsInSectorModule p sector) (λ v f k. k.member) list fields facts)

    pub fields_basis : IsSectorBasis p n sector fields
    fields_basis =
        record {
          canonical = All-from_recursion (IsCanonicalField n) fields (each_field (IsCanonicalField n) (λ v f k. k.canonical) list fields facts);
          reduced = subst (IsReducedBasis over_position VARIABLES (IsSectorMember p n sector)) (sym (vectors_are list fields facts)) (sector_reduced p n sector few shape list h);
        }
