-- Lists of integrals with numbers.
use Rattle.std.proofs.Common.{◌≡◌, ℕ, zero, suc, ◌+◌, ◌<◌, List, [], ◌∷◌, ◌++◌, length, map, get_or, take, sym, refl, ap, ◌∙◌, arith}
use Rattle.std.specs.Prelude.{ℤ}
use Rattle.std.proofs.lemmas.List.{take_more}
use Rattle.ibp_algebra.specs.FormalSum.{FormalSum, IsCanonical}
use Rattle.ibp_algebra.proofs.Lookups.{key_falls}
use Rattle.sector_lattice.specs.Sectors.{integral_cmp}
use Rattle.sector_lattice.specs.Orders.{integral_cmp_total, same_integrals}
use Rattle.sparse_rows.specs.Rows.{IntegralSum}
use Rattle.row_echelon.specs.Columns.{integral_at, named, Falls}

pub at_map : (f : IntegralSum) (i : ℕ) → integral_at (map (λ (t : List ℤ × ℕ). t.0) f) i ≡ (get_or f i ([], 0)).0
at_map [] i = refl
at_map (t ∷ f) zero = refl
at_map (t ∷ f) (suc i) = at_map f i

pub length_map : (f : IntegralSum) → length (map (λ (t : List ℤ × ℕ). t.0) f) ≡ length f
length_map [] = refl
length_map (t ∷ f) = ap suc (length_map f)

pub Falls-canonical : (f : IntegralSum) → IsCanonical integral_cmp f → Falls (map (λ (t : List ℤ × ℕ). t.0) f)
Falls-canonical f h = λ i j less within.
    (λ k. integral_cmp (at_map f i k) (at_map f j k)) ∙ key_falls integral_cmp integral_cmp_total same_integrals f i j ([], 0) h less (omega (arith, length_map f, within))

-- the integral of a term that is looked up
pub at_term : (f : IntegralSum) (i : ℕ) (t : List ℤ × ℕ) (d : List ℤ × ℕ) → i < length f → get_or f i d ≡ t → integral_at (map (λ (u : List ℤ × ℕ). u.0) f) i ≡ t.0
at_term [] i t d within is = absurd (omega arith)
at_term (u ∷ f) zero t d within is = ap (λ (v : List ℤ × ℕ). v.0) is
at_term (u ∷ f) (suc i) t d within is = at_term f i t d (omega arith) is

named-append : (cs : List (List ℤ)) (f : FormalSum ℕ) (t : ℕ × ℕ) → named cs (f ++ t ∷ []) ≡ named cs f ++ (integral_at cs t.0, t.1) ∷ []
named-append cs [] t = refl
named-append cs (u ∷ f) t = ap (λ (g : IntegralSum). (integral_at cs u.0, u.1) ∷ g) (named-append cs f t)

pub numbered_more : (cs : List (List ℤ)) (terms terms' : FormalSum ℕ) (items : IntegralSum) (n number : ℕ) (t : List ℤ × ℕ) → n < length items → t ≡ get_or items n t → integral_at cs number ≡ t.0
    → terms' ≡ terms ++ (number, t.1) ∷ [] → named cs terms ≡ take n items → named cs terms' ≡ take (n + 1) items
numbered_more cs terms terms' items n number t within is number_is more h =
    let term : (integral_at cs number, t.1) ≡ t = λ i. (number_is i, t.1) in
    ap (named cs) more ∙ named-append cs terms (number, t.1) ∙ (λ i. h i ++ term i ∷ []) ∙ ap (λ (u : List ℤ × ℕ). take n items ++ u ∷ []) is ∙ sym (take_more items n t within)

pub named_more : (cs : List (List ℤ)) (found found' : IntegralSum) (terms : FormalSum ℕ) (n : ℕ) (t : ℕ × ℕ) (integral : List ℤ) → n < length terms → t ≡ get_or terms n t → integral ≡ integral_at cs t.0
    → found' ≡ found ++ (integral, t.1) ∷ [] → found ≡ named cs (take n terms) → found' ≡ named cs (take (n + 1) terms)
named_more cs found found' terms n t integral within is integral_is more h =
    more ∙ (λ i. h i ++ (integral_is i, t.1) ∷ []) ∙ sym (named-append cs (take n terms) t)
    ∙ ap (named cs) (ap (λ (u : ℕ × ℕ). take n terms ++ u ∷ []) is ∙ sym (take_more terms n t within))
