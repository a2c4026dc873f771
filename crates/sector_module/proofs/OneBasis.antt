-- At most one list of fields is the reduced basis of the module of a sector.
use Rattle.std.proofs.Common.{◌≡◌, ◌≢◌, ℕ, suc, ◌+◌, ◌%◌, ◌<◌, ◌≤◌, true, false, if◌then◌else◌, length, List, [], ◌∷◌, ◌++◌, map, sym, refl, ap, ◌∙◌, arith, length-append}
use Rattle.std.specs.Prelude.{nat_eq}
use Rattle.std.specs.List.{AllByRecursion}
use Rattle.std.specs.Cmp.{unsigned_Decides}
use Rattle.std.proofs.lemmas.List.{same_from_push}
use Rattle.std.proofs.lemmas.List.Elements.{recursion_from_All}
use Rattle.ibp_field.proofs.Congruence.{IsCongruent-trans, IsCongruent-from_eq}
use Rattle.ibp_algebra.specs.FormalSum.{weighted_sum, AllKeys, IsCanonical}
use Rattle.ibp_algebra.specs.Exponents.{same_exponents, deg_rev_lex}
use Rattle.ibp_algebra.specs.ExponentOrder.{exponents_decide}
use Rattle.ibp_algebra.specs.Polynomial.{Polynomial}
use Rattle.ibp_algebra.proofs.PolynomialLaws.{same_polynomials}
use Rattle.ibp_algebra.proofs.SumLaws.{SameCoefficients-sym, SameCoefficients-trans}
use Rattle.ibp_algebra.proofs.Weights.{weighted_sum-append, weighted_sum-map_keys, weighted_sum-ext, weighted_sum-zero, weighted_sum-SameCoefficients, SameCoefficients-from_weights}
use Rattle.mono_order.specs.declared.limits.TheConstants.{VARIABLES}
use Rattle.mono_order.specs.Term.{Term, same_term}
use Rattle.mono_order.specs.BlockOrders.{over_position_laws}
use Rattle.mono_order.proofs.Terms.{terms_decide}
use Rattle.module_vec.specs.ModuleVector.{SameVector}
use Rattle.module_vec.proofs.NormalForms.{SameVector-normal}
use Rattle.family.specs.declared.parts.StrippedField.{StrippedField}
use Rattle.family.specs.Shapes.{HasVariables}
use Rattle.sector_module.specs.Factors.{at_component, sector_factors}
use Rattle.sector_module.specs.SectorBasis.{vector_of, field_vector, IsCanonicalField, IsSectorBasis}
use Rattle.sector_module.proofs.SectorBasis.{syzygy_basis_unique}
use Rattle.sector_module.proofs.SectorReduced.{syzygy_reduced}
use Rattle.sector_module.proofs.SectorRun.{polynomials, few_factors}

-- ---- the polynomials of a vector

-- the weight of the exponents at one component
abbrev pub at_weight : ℕ → (List ℕ → ℕ) → Term → ℕ
at_weight i w t = if nat_eq t.0 i then w t.1 else 0

pub same_number : (i : ℕ) → nat_eq i i ≡ true
same_number i = (unsigned_Decides i i).1 refl

other_number : (i j : ℕ) → i ≢ j → nat_eq i j ≡ false
other_number i j apart =
    elim (nat_eq i j) as (λ b. nat_eq i j ≡ b → b ≡ false) [
      | true ↦ λ e. absurd (apart ((unsigned_Decides i j).0 e))
      | false ↦ λ e. refl
    ] refl

own_weight : (i : ℕ) (w : List ℕ → ℕ) (f : Polynomial) → weighted_sum (at_weight i w) (at_component i f) ≡ weighted_sum w f
own_weight i w f =
    weighted_sum-map_keys (λ (m : List ℕ). (i, m)) (at_weight i w) f ∙ weighted_sum-ext _ _ (λ m. ap (λ b. if b then w m else 0) (same_number i)) f

pub other_weight : (i j : ℕ) → j ≢ i → (w : List ℕ → ℕ) (f : Polynomial) → weighted_sum (at_weight i w) (at_component j f) ≡ 0
other_weight i j apart w f =
    weighted_sum-map_keys (λ (m : List ℕ). (j, m)) (at_weight i w) f ∙ weighted_sum-ext _ _ (λ m. ap (λ b. if b then w m else 0) (other_number j i apart)) f ∙ weighted_sum-zero f

later_weight : (i first : ℕ) → i < first → (w : List ℕ → ℕ) (fs : List Polynomial) → weighted_sum (at_weight i w) (vector_of first fs) ≡ 0
later_weight i first below w [] = refl
later_weight i first below w (f ∷ fs) =
    omega (
      arith,
      weighted_sum-append (at_weight i w) (at_component first f) (vector_of (suc first) fs),
      other_weight i first (λ e. omega (arith, e, below)) w f,
      later_weight i (suc first) (omega (arith, below)) w fs,
    )

pub first_weight : (first : ℕ) (w : List ℕ → ℕ) (f : Polynomial) (fs : List Polynomial) → weighted_sum (at_weight first w) (vector_of first (f ∷ fs)) ≡ weighted_sum w f
first_weight first w f fs =
    omega (
      arith,
      weighted_sum-append (at_weight first w) (at_component first f) (vector_of (suc first) fs),
      own_weight first w f,
      later_weight first (suc first) (omega arith) w fs,
    )

cancelled : (a x y : ℕ) → (a + x) % 2147483647 ≡ (a + y) % 2147483647 → x % 2147483647 ≡ y % 2147483647
cancelled a x y e = omega (arith, e)

-- two lists of canonical polynomials with one vector are equal
polynomials_one : (first : ℕ) (fs gs : List Polynomial) → length fs ≡ length gs → AllByRecursion (IsCanonical deg_rev_lex) fs → AllByRecursion (IsCanonical deg_rev_lex) gs
    → SameVector (vector_of first fs) (vector_of first gs) → fs ≡ gs
polynomials_one first [] [] e h k same = refl
polynomials_one first [] (g ∷ gs) e h k same = absurd (omega arith)
polynomials_one first (f ∷ fs) [] e h k same = absurd (omega arith)
polynomials_one first (f ∷ fs) (g ∷ gs) e h k same =
    let head : f ≡ g =
    same_polynomials f g h.0 k.0
    (SameCoefficients-from_weights same_exponents exponents_decide f g (λ w.
    IsCongruent-trans (IsCongruent-from_eq (sym (first_weight first w f fs)))
    (IsCongruent-trans (weighted_sum-SameCoefficients same_term terms_decide (at_weight first w) _ _ same) (IsCongruent-from_eq (first_weight first w g gs)))))
    in
    let rest : SameVector (vector_of (suc first) fs) (vector_of (suc first) gs) =
    SameCoefficients-from_weights same_term terms_decide _ _ (λ w.
    let whole = (weighted_sum-SameCoefficients same_term terms_decide w _ _ same).same_residue in
    let left = weighted_sum-append w (at_component first f) (vector_of (suc first) fs) in
    let right = weighted_sum-append w (at_component first g) (vector_of (suc first) gs) in
    let heads : weighted_sum w (at_component first f) ≡ weighted_sum w (at_component first g) = ap (λ (c : Polynomial). weighted_sum w (at_component first c)) head in
    let sums : (weighted_sum w (at_component first f) + weighted_sum w (vector_of (suc first) fs)) % 2147483647
    ≡ (weighted_sum w (at_component first f) + weighted_sum w (vector_of (suc first) gs)) % 2147483647 =
    sym (ap (λ k. k % 2147483647) left) ∙ whole ∙ ap (λ k. k % 2147483647) (right ∙ ap (λ k. k + weighted_sum w (vector_of (suc first) gs)) (sym heads))
    in
    record { same_residue = cancelled (weighted_sum w (at_component first f)) _ _ sums })
    in
    λ i. head i ∷ polynomials_one (suc first) fs gs (omega arith) h.1 k.1 rest i

pub with_last : (P : Polynomial → Type 0) (c : List Polynomial) → AllByRecursion P c → (b : Polynomial) → P b → AllByRecursion P (c ++ b ∷ [])
with_last P [] h b k = (k, tt)
with_last P (f ∷ c) h b k = (h.0, with_last P c h.1 b k)

all_canonical : (n : ℕ) (f : StrippedField) → IsCanonicalField n f → AllByRecursion (IsCanonical deg_rev_lex) (f.c ++ f.b ∷ [])
all_canonical n f h = with_last (IsCanonical deg_rev_lex) f.c (recursion_from_All (IsCanonical deg_rev_lex) f.c h.polynomials) f.b h.factor

-- a canonical field is determined by its vector
pub field_one : (n : ℕ) (f g : StrippedField) → IsCanonicalField n f → IsCanonicalField n g → field_vector f ≡ field_vector g → f ≡ g
field_one n f g h k e =
    let vf = vector_of 1 (f.c ++ f.b ∷ []) in
    let vg = vector_of 1 (g.c ++ g.b ∷ []) in
    let first = SameVector-normal (over_position_laws VARIABLES) (field_vector f) vf refl in
    let second = SameVector-normal (over_position_laws VARIABLES) (field_vector f) vg e in
    let lists = polynomials_one 1 (f.c ++ f.b ∷ []) (g.c ++ g.b ∷ []) (omega (arith, length-append f.c (f.b ∷ []), length-append g.c (g.b ∷ []), h.count, k.count))
    (all_canonical n f h) (all_canonical n g k) (SameCoefficients-trans (SameCoefficients-sym first) second)
    in
    let both = same_from_push f.c g.c f.b g.b lists in
    λ i. record { c = both.0 i; b = both.1 i }

fields_one : (n : ℕ) (l k : List StrippedField) → AllByRecursion (IsCanonicalField n) l → AllByRecursion (IsCanonicalField n) k → map field_vector l ≡ map field_vector k → l ≡ k
fields_one n [] [] h j e = refl
fields_one n [] (g ∷ k) h j e = absurd (let no : ⊥ = cc in no)
fields_one n (f ∷ l) [] h j e = absurd (let no : ⊥ = cc in no)
fields_one n (f ∷ l) (g ∷ k) h j e =
    let heads : field_vector f ≡ field_vector g = cc in
    let tails : map field_vector l ≡ map field_vector k = cc in
    λ i. field_one n f g h.0 j.0 heads i ∷ fields_one n l k h.1 j.1 tails i

pub one_basis : (p : Polynomial) (n sector : ℕ) → n ≤ VARIABLES → AllKeys (HasVariables n) p → (first second : List StrippedField) → IsSectorBasis p n sector first → IsSectorBasis p n sector second
    → first ≡ second
one_basis p n sector few shape first second h k =
    let vectors = syzygy_basis_unique VARIABLES (sector_factors p n sector) (polynomials p n sector few shape) (few_factors p n sector few shape) (map field_vector first) (map field_vector second)
    (syzygy_reduced p n sector few shape (map field_vector first) h.reduced) (syzygy_reduced p n sector few shape (map field_vector second) k.reduced)
    in
    fields_one n first second (recursion_from_All (IsCanonicalField n) first h.canonical) (recursion_from_All (IsCanonicalField n) second k.canonical) vectors
