-- A vector with components 1 to k is the vector of its components, so each syzygy of the factors of a sector is
-- the vector of a stripped field of the sector's module.
use Rattle.std.proofs.Common.{◌≡◌, ℕ, zero, suc, ◌+◌, ◌*◌, ◌<◌, ◌≤◌, Bool, true, false, if◌then◌else◌, ◌⊎◌, inl, inr, ⊎_elim, length, List, [], ◌∷◌, ◌++◌, sym, refl, ap, subst, ◌∙◌, arith}
use Rattle.std.specs.Prelude.{nat_eq}
use Rattle.std.specs.Cmp.{unsigned_Decides}
use Rattle.std.specs.List.{AllByRecursion}
use Rattle.std.proofs.lemmas.Bool.{cases_lt}
use Rattle.std.proofs.lemmas.Bool.Decides.{not_from_Decides}
use Rattle.ibp_algebra.specs.FormalSum.{weighted_sum, AllKeys}
use Rattle.ibp_algebra.proofs.Weights.{weighted_sum-append}
use Rattle.ibp_algebra.proofs.Combinations.{AllKeys-weaker}
use Rattle.family.specs.declared.parts.StrippedField.{StrippedField}
use Rattle.ibp_algebra.proofs.SumLaws.{SameCoefficients-sym, SameCoefficients-trans, SameCoefficients-from_sums}
use Rattle.ibp_algebra.specs.Polynomial.{Polynomial}
use Rattle.mono_order.specs.Term.{Term, same_term}
use Rattle.mono_order.proofs.Terms.{terms_decide}
use Rattle.module_vec.specs.ModuleVector.{ModuleVector, SameVector, component_of}
use Rattle.module_vec.proofs.Components.{component_keys}
use Rattle.ibp_algebra.specs.Field.{IsInModule}
use Rattle.sector_module.specs.Factors.{at_component}
use Rattle.sector_module.specs.SectorBasis.{vector_of}
use Rattle.sector_module.proofs.Syzygies.{IsPolynomialIn, IsInRange, IsSyzygy}
use Rattle.sector_module.specs.Factors.{factors_from}
use Rattle.sector_module.proofs.Fields.{IsInModule-syzygy}

-- the polynomials at the components from `first` on
abbrev pub components_from : ℕ → ℕ → ModuleVector → List Polynomial
components_from first zero v = []
components_from first (suc n) v = component_of first v ∷ components_from (suc first) n v

pub length-components : (first n : ℕ) (v : ModuleVector) → length (components_from first n v) ≡ n
length-components first zero v = refl
length-components first (suc n) v = omega (arith, length-components (suc first) n v)

-- what a term adds at one component
term_at : (w : Term → ℕ) (i : ℕ) (t : Term × ℕ) (v : ModuleVector)
    → ((t.0.0 ≡ i) × (weighted_sum w (at_component i (component_of i (t ∷ v))) ≡ t.1 * w t.0 + weighted_sum w (at_component i (component_of i v))))
    ⊎ ((t.0.0 ≡ i → ⊥) × (weighted_sum w (at_component i (component_of i (t ∷ v))) ≡ weighted_sum w (at_component i (component_of i v))))
term_at w i t v =
    elim (nat_eq t.0.0 i) as (λ b. nat_eq t.0.0 i ≡ b
    → ((t.0.0 ≡ i) × (weighted_sum w (at_component i (if b then ((t.0.1, t.1) ∷ component_of i v) else component_of i v)) ≡ t.1 * w t.0 + weighted_sum w (at_component i (component_of i v))))
    ⊎ ((t.0.0 ≡ i → ⊥) × (weighted_sum w (at_component i (if b then ((t.0.1, t.1) ∷ component_of i v) else component_of i v)) ≡ weighted_sum w (at_component i (component_of i v))))) [
      | true ↦ λ e.
          let is : t.0.0 ≡ i = (unsigned_Decides t.0.0 i).0 e in
          inl (is, omega (arith, ap (λ k. t.1 * w (k, t.0.1)) is))
      | false ↦ λ e. inr (not_from_Decides _ (unsigned_Decides t.0.0 i) e, refl)
    ] refl

-- a term outside the components adds nothing
term_outside : (w : Term → ℕ) (first n : ℕ) (t : Term × ℕ) (v : ModuleVector) → t.0.0 < first
    → weighted_sum w (vector_of first (components_from first n (t ∷ v))) ≡ weighted_sum w (vector_of first (components_from first n v))
term_outside w first zero t v below = refl
term_outside w first (suc n) t v below =
    let rest = term_outside w (suc first) n t v (omega arith) in
    let here : weighted_sum w (at_component first (component_of first (t ∷ v))) ≡ weighted_sum w (at_component first (component_of first v)) =
    ⊎_elim (λ (h : (t.0.0 ≡ first) × (weighted_sum w (at_component first (component_of first (t ∷ v))) ≡ t.1 * w t.0 + weighted_sum w (at_component first (component_of first v)))). absurd (omega (arith, h.0)))
    (λ (h : (t.0.0 ≡ first → ⊥) × (weighted_sum w (at_component first (component_of first (t ∷ v))) ≡ weighted_sum w (at_component first (component_of first v)))). h.1)
    (term_at w first t v)
    in
    omega (
      arith,
      rest,
      here,
      weighted_sum-append w (at_component first (component_of first (t ∷ v))) (vector_of (suc first) (components_from (suc first) n (t ∷ v))),
      weighted_sum-append w (at_component first (component_of first v)) (vector_of (suc first) (components_from (suc first) n v)),
    )

-- one of the components adds itself once
term_inside : (w : Term → ℕ) (first n : ℕ) (t : Term × ℕ) (v : ModuleVector) → first ≤ t.0.0 → t.0.0 < first + n
    → weighted_sum w (vector_of first (components_from first n (t ∷ v))) ≡ t.1 * w t.0 + weighted_sum w (vector_of first (components_from first n v))
term_inside w first zero t v low high = absurd (omega arith)
term_inside w first (suc n) t v low high =
    let left = weighted_sum-append w (at_component first (component_of first (t ∷ v))) (vector_of (suc first) (components_from (suc first) n (t ∷ v))) in
    let right = weighted_sum-append w (at_component first (component_of first v)) (vector_of (suc first) (components_from (suc first) n v)) in
    ⊎_elim
    (λ (h : (t.0.0 ≡ first) × (weighted_sum w (at_component first (component_of first (t ∷ v))) ≡ t.1 * w t.0 + weighted_sum w (at_component first (component_of first v)))).
    let rest = term_outside w (suc first) n t v (omega (arith, h.0)) in omega (arith, h.1, rest, left, right))
    (λ (h : (t.0.0 ≡ first → ⊥) × (weighted_sum w (at_component first (component_of first (t ∷ v))) ≡ weighted_sum w (at_component first (component_of first v)))).
    let above : suc first ≤ t.0.0 = ⊎_elim (λ (l : first < t.0.0). l) (λ (l : t.0.0 ≤ first). absurd (h.0 (omega arith))) (cases_lt first t.0.0) in
    let rest = term_inside w (suc first) n t v above (omega arith) in
    omega (arith, h.1, rest, left, right))
    (term_at w first t v)

empty_components : (w : Term → ℕ) (first n : ℕ) → weighted_sum w (vector_of first (components_from first n [])) ≡ 0
empty_components w first zero = refl
empty_components w first (suc n) = empty_components w (suc first) n

components_sum : (variables count : ℕ) (w : Term → ℕ) (v : ModuleVector) → AllKeys (IsInRange variables count) v
    → weighted_sum w (vector_of 1 (components_from 1 count v)) ≡ weighted_sum w v
components_sum variables count w [] h = empty_components w 1 count
components_sum variables count w (t ∷ v) h =
    let rest = components_sum variables count w v h.1 in
    omega (arith, rest, term_inside w 1 count t v h.0.positive (omega (arith, h.0.within)))

-- A vector with components 1 to `count` is the vector of its components.
pub SameVector-components : (variables count : ℕ) (v : ModuleVector) → AllKeys (IsInRange variables count) v → SameVector v (vector_of 1 (components_from 1 count v))
SameVector-components variables count v h =
    SameCoefficients-from_sums same_term terms_decide v (vector_of 1 (components_from 1 count v)) (λ w. sym (components_sum variables count w v h))

-- what holds of the exponents of each term holds of those of each component
pub components_keys : (P : List ℕ → Type 0) (first n : ℕ) (v : ModuleVector) → AllKeys (λ t. P t.1) v → AllByRecursion (AllKeys P) (components_from first n v)
components_keys P first zero v h = tt
components_keys P first (suc n) v h = (component_keys P first v h, components_keys P (suc first) n v h)

-- ---- stripped fields

components-last : (first n : ℕ) (v : ModuleVector) → components_from first (suc n) v ≡ components_from first n v ++ component_of (first + n) v ∷ []
components-last first zero v = let e : first ≡ first + 0 = omega arith in ap (λ k. component_of k v ∷ []) e
components-last first (suc n) v =
    let e : suc first + n ≡ first + suc n = omega arith in
    ap (λ l. component_of first v ∷ l) (components-last (suc first) n v ∙ ap (λ k. components_from (suc first) n v ++ component_of k v ∷ []) e)

-- the components of a vector, as the polynomials of a stripped field and its factor
abbrev pub field_of : ℕ → ModuleVector → StrippedField
field_of n v = record { c = components_from 1 n v; b = component_of (1 + n) v }

pub whole_components : (n : ℕ) (v : ModuleVector) → components_from 1 (suc n) v ≡ components_from 1 n v ++ component_of (1 + n) v ∷ []
whole_components n v = components-last 1 n v

-- A vector with components 1 to n + 1 is that of its field.
pub SameVector-field_of : (variables n : ℕ) (v : ModuleVector) → AllKeys (IsInRange variables (suc n)) v → SameVector v (vector_of 1 ((field_of n v).c ++ (field_of n v).b ∷ []))
SameVector-field_of variables n v range = subst (λ l. SameVector v (vector_of 1 l)) (whole_components n v) (SameVector-components variables (suc n) v range)

-- The field of a syzygy of the factors of a sector is in the module of the sector.
pub IsInModule-field_of : (variables : ℕ) (p : Polynomial) (inside : ℕ → Bool) (n : ℕ) (v : ModuleVector) → AllKeys (IsInRange variables (suc n)) v
    → IsSyzygy variables (factors_from p inside 0 n) v → IsInModule p inside (field_of n v).c (field_of n v).b
IsInModule-field_of variables p inside n v range s =
    let c = components_from 1 n v in
    let b = component_of (1 + n) v in
    let polynomials : AllByRecursion (IsPolynomialIn variables) (c ++ b ∷ []) =
    subst (AllByRecursion (IsPolynomialIn variables)) (whole_components n v)
    (components_keys (λ m. length m ≡ variables) 1 (suc n) v (AllKeys-weaker (IsInRange variables (suc n)) (λ (t : Term). length t.1 ≡ variables) (λ t r. r.exponents) v range))
    in
    let same = SameVector-field_of variables n v range in
    let is_syzygy : IsSyzygy variables (factors_from p inside 0 n) (vector_of 1 (c ++ b ∷ [])) =
    record { terms = s.terms; in_range = s.in_range; same = SameCoefficients-trans (SameCoefficients-sym same) s.same; vanishes = s.vanishes }
    in
    (IsInModule-syzygy variables p b inside n c (length-components 1 n v) polynomials).1 is_syzygy
