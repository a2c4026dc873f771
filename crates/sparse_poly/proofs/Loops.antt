-- The steps of the loops that go over the terms of a polynomial.
use Rattle.std.specs.declared.cmp.Ordering.TheVariants.{Greater}
use Rattle.ibp_algebra.proofs.ZeroDivisors.{AllKeys-append}
use Rattle.ibp_algebra.proofs.Striking.{IsCanonical-strike}
use Rattle.ibp_algebra.proofs.ReverseLex.{deg_rev_lex-add}
use Rattle.mono_order.specs.Monomial.{IsMonomial}
use Rattle.mono_order.specs.declared.limits.TheConstants.{VARIABLES}
use Rattle.std.specs.Prelude.{slice_get, nat_lt}
use Rattle.std.proofs.lemmas.Bool.{lt-ltb}
use Rattle.ibp_algebra.proofs.Degrees.{degree_of-first, products_fit}
use Rattle.std.proofs.Common.{◌≡◌, ◌≢◌, ℕ, Bool, true, false, Option, Some, None, sum, if◌then◌else◌, append-nil, drop, length-drop, zero, suc, ◌+◌, ◌-◌, ◌*◌, ◌%◌, ◌<◌, ◌≤◌, List, [], ◌∷◌, ◌++◌, length, take, get_or, set, sym, ap, subst, ◌∙◌, refl, append_assoc, arith}
use Rattle.std.proofs.lemmas.List.{map_more, take_all, take_more, take-append-drop}
use Rattle.ibp_field.specs.Arithmetic.{IsCongruent}
use Rattle.ibp_field.proofs.Congruence.{IsCongruent-reduced}
use Rattle.ibp_algebra.specs.FormalSum.{FormalSum, scale, map_keys, strike, times_term, AllKeys, IsCanonical}
use Rattle.ibp_algebra.proofs.SumLaws.{SameCoefficients-trans, SameCoefficients-from_eq, SameCoefficients-append, SameCoefficients-push, SameCoefficients-push_zero}
use Rattle.ibp_algebra.specs.Exponents.{same_exponents, add_exponents, deg_rev_lex}
use Rattle.ibp_algebra.specs.Polynomial.{Polynomial, SamePolynomial, degree_of, derivative, multiply}
use Rattle.ibp_algebra.specs.ExponentOrder.{exponents_decide}

same_lists : {f g h k : Polynomial} → f ≡ h → g ≡ k → SamePolynomial h k → SamePolynomial f g
same_lists p q e = SameCoefficients-trans (SameCoefficients-from_eq p) (SameCoefficients-trans e (SameCoefficients-from_eq (sym q)))

derivative_more : (place : ℕ) (f : Polynomial) (i : ℕ) (item : List ℕ × ℕ) → i < length f → item ≡ get_or f i item
    → derivative place (take (i + 1) f) ≡ derivative place (take i f) ++ (set item.0 place (get_or item.0 place 0 - 1), get_or item.0 place 0 * item.1) ∷ []
derivative_more place f i item h is =
    map_more _ f i item h
    ∙ ap (λ (t : List ℕ × ℕ). derivative place (take i f) ++ (set t.0 place (get_or t.0 place 0 - 1), get_or t.0 place 0 * t.1) ∷ []) (sym is)

pub derived_more : (place : ℕ) (f items new : Polynomial) (i : ℕ) (item : List ℕ × ℕ) (m : List ℕ) (c exponent : ℕ) → i < length f → item ≡ get_or f i item
    → new ≡ items ++ (m, c) ∷ [] → m ≡ set item.0 place (get_or item.0 place 0 - 1) → exponent ≡ get_or item.0 place 0 → c ≡ (exponent * item.1) % 2147483647
    → SamePolynomial items (derivative place (take i f)) → SamePolynomial new (derivative place (take (i + 1) f))
derived_more place f items new i item m c exponent h is pushed key at value e =
    let number : c ≡ (get_or item.0 place 0 * item.1) % 2147483647 = value ∙ ap (λ n. (n * item.1) % 2147483647) at in
    let moved : new ≡ items ++ (set item.0 place (get_or item.0 place 0 - 1), c) ∷ [] = pushed ∙ ap (λ (k : List ℕ). items ++ (k, c) ∷ []) key in
    same_lists moved (derivative_more place f i item h is)
    (SameCoefficients-push same_exponents exponents_decide (set item.0 place (get_or item.0 place 0 - 1)) c (get_or item.0 place 0 * item.1) e (IsCongruent-reduced _ _ number))

-- a term without the variable adds nothing
pub derived_skip : (place : ℕ) (f items new : Polynomial) (i : ℕ) (item : List ℕ × ℕ) (exponent : ℕ) → i < length f → item ≡ get_or f i item
    → new ≡ items → exponent ≡ get_or item.0 place 0 → exponent ≤ 0 → SamePolynomial items (derivative place (take i f))
    → SamePolynomial new (derivative place (take (i + 1) f))
derived_skip place f items new i item exponent h is kept at none e =
    let zero_exponent : get_or item.0 place 0 ≡ 0 = omega arith in
    let zero_term : IsCongruent (get_or item.0 place 0 * item.1) 0 = record { same_residue = rw zero_exponent (omega arith) } in
    same_lists kept (derivative_more place f i item h is)
    (SameCoefficients-push_zero same_exponents exponents_decide (set item.0 place (get_or item.0 place 0 - 1)) (get_or item.0 place 0 * item.1) e zero_term)

-- ---- sums and multiples

pub scale-one : {K : Type 0} (f : FormalSum K) → scale 1 f ≡ f
scale-one [] = refl
scale-one (t ∷ f) = let same : 1 * t.1 ≡ t.1 = omega arith in λ i. (t.0, same i) ∷ scale-one f i

pub scale-map_keys : (t : List ℕ × ℕ) (g : Polynomial) → scale t.1 (map_keys (add_exponents t.0) g) ≡ times_term add_exponents t g
scale-map_keys t [] = refl
scale-map_keys t (u ∷ g) = ap (λ (l : Polynomial). (add_exponents t.0 u.0, t.1 * u.1) ∷ l) (scale-map_keys t g)

-- the product of one term
pub product_of_one : (f g moved items : Polynomial) (t d : List ℕ × ℕ) → length f ≡ 1 → t ≡ get_or f 0 d → moved ≡ map_keys (add_exponents t.0) g
    → SamePolynomial items ([] ++ scale t.1 moved) → SamePolynomial items (multiply f g)
product_of_one [] g moved items t d p is e h = absurd (omega arith)
product_of_one (u ∷ v ∷ f) g moved items t d p is e h = absurd (omega arith)
product_of_one (u ∷ []) g moved items t d p is e h =
    let row : scale t.1 moved ≡ times_term add_exponents t g = ap (scale t.1) e ∙ scale-map_keys t g in
    let whole : times_term add_exponents u g ++ [] ≡ scale t.1 moved = append-nil (times_term add_exponents u g) ∙ ap (λ (x : List ℕ × ℕ). times_term add_exponents x g) (sym is) ∙ sym row in
    SameCoefficients-trans h (SameCoefficients-from_eq (sym whole))

multiply-split : (f h g : Polynomial) → multiply (f ++ h) g ≡ multiply f g ++ multiply h g
multiply-split [] h g = refl
multiply-split (t ∷ f) h g = ap (λ (l : Polynomial). times_term add_exponents t g ++ l) (multiply-split f h g) ∙ sym (append_assoc (times_term add_exponents t g) (multiply f g) (multiply h g))

-- the product of two parts
pub product_of_parts : (one : ℕ) (f first_part second_part g first second items : Polynomial) → one ≡ 1 → first_part ++ second_part ≡ f
    → SamePolynomial first (multiply first_part g) → SamePolynomial second (multiply second_part g) → SamePolynomial items (first ++ scale one second)
    → SamePolynomial items (multiply f g)
product_of_parts one f first_part second_part g first second items is_one is p q h =
    let parts : multiply f g ≡ multiply first_part g ++ multiply second_part g = ap (λ (l : Polynomial). multiply l g) (sym is) ∙ multiply-split first_part second_part g in
    SameCoefficients-trans h
    (SameCoefficients-trans (SameCoefficients-append same_exponents exponents_decide p (SameCoefficients-trans (SameCoefficients-from_eq (ap (λ n. scale n second) is_one ∙ scale-one second)) q))
    (SameCoefficients-from_eq (sym parts)))

pub sum_of_both : (one : ℕ) (f g items f' g' : Polynomial) → one ≡ 1 → f' ≡ f → g' ≡ g → SamePolynomial items (f' ++ scale one g') → SamePolynomial items (f ++ g)
sum_of_both one f g items f' g' is_one p q h =
    SameCoefficients-trans h (SameCoefficients-from_eq ((λ i. p i ++ scale (is_one i) (q i)) ∙ ap (λ (l : Polynomial). f ++ l) (scale-one g)))

-- ---- keys that are moved

pub AllKeys-take_more : (P : List ℕ → Type 0) (f : Polynomial) (i : ℕ) (item : List ℕ × ℕ) → i < length f → item ≡ get_or f i item → P item.0
    → AllKeys P (take i f) → AllKeys P (take (i + 1) f)
AllKeys-take_more P f i item h is p k =
    subst (AllKeys P) (sym (take_more f i item h))
    (AllKeys-append P (take i f) (get_or f i item ∷ []) k (subst (λ (u : List ℕ × ℕ). P u.0) is p, tt))

pub AllKeys-whole : (P : List ℕ → Type 0) (f : Polynomial) (i : ℕ) → length f ≤ i → AllKeys P (take i f) → AllKeys P f
AllKeys-whole P f i h k = subst (AllKeys P) (take_all i f h) k

pub moved_more : (move : List ℕ → List ℕ) (f items new : Polynomial) (i : ℕ) (item : List ℕ × ℕ) (m : List ℕ) → i < length f → item ≡ get_or f i item
    → new ≡ items ++ (m, item.1) ∷ [] → m ≡ move item.0 → items ≡ map_keys move (take i f) → new ≡ map_keys move (take (i + 1) f)
moved_more move f items new i item m h is pushed key e =
    pushed
    ∙ (λ n. e n ++ (key n, item.1) ∷ [])
    ∙ ap (λ (t : List ℕ × ℕ). map_keys move (take i f) ++ (move t.0, t.1) ∷ []) is
    ∙ sym (map_more _ f i item h)

pub moved_whole : (move : List ℕ → List ℕ) (f items : Polynomial) (i : ℕ) → length f ≤ i → items ≡ map_keys move (take i f) → items ≡ map_keys move f
moved_whole move f items i h e = e ∙ ap (map_keys move) (take_all i f h)

-- what holds of all keys holds at a place
pub AllKeys-at : (P : List ℕ → Type 0) (f : Polynomial) (i : ℕ) (d : List ℕ × ℕ) → AllKeys P f → i < length f → P (get_or f i d).0
AllKeys-at P [] i d h within = absurd (omega arith)
AllKeys-at P (t ∷ f) zero d h within = h.0
AllKeys-at P (t ∷ f) (suc i) d h within = AllKeys-at P f i d h.1 (omega arith)

-- both lists have an exponent for each variable
abbrev pub AreMonomials : List ℕ → List ℕ → Type 0
AreMonomials m k = IsMonomial m × IsMonomial k

shift_below : (m key : List ℕ) (f : Polynomial) → AreMonomials m key → AllKeys (AreMonomials m) f
    → AllKeys (λ k. deg_rev_lex key k ≡ Greater) f → AllKeys (λ k. deg_rev_lex (add_exponents m key) k ≡ Greater) (map_keys (add_exponents m) f)
shift_below m key [] p l h = tt
shift_below m key (t ∷ f) p l h =
    (deg_rev_lex-add VARIABLES m key t.0 p.0.each_variable p.1.each_variable l.0.1.each_variable ∙ h.0, shift_below m key f p l.1 h.1)

shifted_canonical : (m : List ℕ) (f : Polynomial) → AllKeys (AreMonomials m) f → IsCanonical deg_rev_lex f → IsCanonical deg_rev_lex (map_keys (add_exponents m) f)
shifted_canonical m [] l h = tt
shifted_canonical m (t ∷ f) l h = (h.0, h.1, shift_below m t.0 f l.0 l.1 h.2, shifted_canonical m f l.1 h.3)

-- a canonical polynomial times a monomial is canonical
pub IsCanonical-shift : (m : List ℕ) (f items : Polynomial) → items ≡ map_keys (add_exponents m) f → AllKeys (AreMonomials m) f → IsCanonical deg_rev_lex f → IsCanonical deg_rev_lex items
IsCanonical-shift m f items e l h = subst (IsCanonical deg_rev_lex) (sym e) (shifted_canonical m f l h)

pub AllKeys-item : (P : List ℕ → Type 0) (f : Polynomial) (i : ℕ) (item : List ℕ × ℕ) → AllKeys P f → i < length f → item ≡ get_or f i item → P item.0
AllKeys-item P f i item h within is = subst (λ (u : List ℕ × ℕ). P u.0) (sym is) (AllKeys-at P f i item h within)

pub AllKeys-take : (P : List ℕ → Type 0) (f : Polynomial) (n : ℕ) → AllKeys P f → AllKeys P (take n f)
AllKeys-take P f zero h = tt
AllKeys-take P [] (suc n) h = tt
AllKeys-take P (t ∷ f) (suc n) h = (h.0, AllKeys-take P f n h.1)

pub AllKeys-drop : (P : List ℕ → Type 0) (f : Polynomial) (n : ℕ) → AllKeys P f → AllKeys P (drop n f)
AllKeys-drop P f zero h = h
AllKeys-drop P [] (suc n) h = tt
AllKeys-drop P (t ∷ f) (suc n) h = AllKeys-drop P f n h.1

-- the two halves of a list
pub halves : (f : Polynomial) (n : ℕ) → take n f ++ take (length f - n) (drop n f) ≡ f
halves f n = ap (λ (l : Polynomial). take n f ++ l) (take_all (length f - n) (drop n f) (omega (arith, length-drop n f))) ∙ take-append-drop n f

-- ---- terms without a variable

strike_step : (test : List ℕ → Bool) (t : List ℕ × ℕ) (new old last : Polynomial) (b : Bool) → new ≡ old ++ last → (if b then new else (t ∷ new)) ≡ (if b then old else (t ∷ old)) ++ last
strike_step test t new old last true e = e
strike_step test t new old last false e = ap (λ (l : Polynomial). t ∷ l) e

strike-append : (test : List ℕ → Bool) (f g : Polynomial) → strike test (f ++ g) ≡ strike test f ++ strike test g
strike-append test [] g = refl
strike-append test (t ∷ f) g = strike_step test t (strike test (f ++ g)) (strike test f) (strike test g) (test t.0) (strike-append test f g)

strike_more : (test : List ℕ → Bool) (f : Polynomial) (i : ℕ) (item : List ℕ × ℕ) (b : Bool) → i < length f → item ≡ get_or f i item → test item.0 ≡ b
    → strike test (take (i + 1) f) ≡ strike test (take i f) ++ (if b then [] else (item ∷ []))
strike_more test f i item b h is e =
    ap (strike test) (take_more f i item h)
    ∙ strike-append test (take i f) (get_or f i item ∷ [])
    ∙ ap (λ (t : List ℕ × ℕ). strike test (take i f) ++ (if test t.0 then [] else (t ∷ []))) (sym is)
    ∙ ap (λ c. strike test (take i f) ++ (if c then [] else (item ∷ []))) e

pub kept_more : (test : List ℕ → Bool) (f items new : Polynomial) (i : ℕ) (item : List ℕ × ℕ) → i < length f → item ≡ get_or f i item → test item.0 ≡ false
    → new ≡ items ++ item ∷ [] → items ≡ strike test (take i f) → new ≡ strike test (take (i + 1) f)
kept_more test f items new i item h is fails pushed e = pushed ∙ ap (λ (l : Polynomial). l ++ item ∷ []) e ∙ sym (strike_more test f i item false h is fails)

pub struck_more : (test : List ℕ → Bool) (f items new : Polynomial) (i : ℕ) (item : List ℕ × ℕ) → i < length f → item ≡ get_or f i item → test item.0 ≡ true
    → new ≡ items → items ≡ strike test (take i f) → new ≡ strike test (take (i + 1) f)
struck_more test f items new i item h is passes kept e = kept ∙ e ∙ sym (append-nil (strike test (take i f))) ∙ sym (strike_more test f i item true h is passes)

pub kept_whole : (test : List ℕ → Bool) (f g items : Polynomial) (i : ℕ) → length f ≤ i → f ≡ g → items ≡ strike test (take i f) → items ≡ strike test g
kept_whole test f g items i h is e = e ∙ ap (strike test) (take_all i f h ∙ is)

pub IsCanonical-kept : (test : List ℕ → Bool) (f items : Polynomial) → items ≡ strike test f → IsCanonical deg_rev_lex f → IsCanonical deg_rev_lex items
IsCanonical-kept test f items e h = subst (IsCanonical deg_rev_lex) (sym e) (IsCanonical-strike deg_rev_lex test f h)

first_degree : Option (List ℕ × ℕ) → ℕ
first_degree None = 0
first_degree (Some t) = sum t.0

-- the degree of the first term
pub degree_of_head : (f : Polynomial) (t : List ℕ × ℕ) → IsCanonical deg_rev_lex f → slice_get f 0 ≡ Some t → degree_of f ≡ sum t.0
unfolding first_degree
degree_of_head [] t h e = cc
degree_of_head (u ∷ f) t h e = degree_of-first u f h ∙ ap (λ (o : Option (List ℕ × ℕ)). first_degree o) e

-- the polynomial before a test for the limit is not zero
pub is_over : (limit : ℕ) (f g : Polynomial) → degree_of f ≤ limit → degree_of g ≤ limit → limit < degree_of f + degree_of g → (f ≢ []) × (g ≢ []) × (limit < degree_of f + degree_of g)
is_over limit f g p q more =
    (λ e. absurd (omega (arith, more, q, ap degree_of e)), λ e. absurd (omega (arith, more, p, ap degree_of e)), more)

pub lacks_variable : (exponent x : ℕ) → exponent ≡ x → exponent ≡ 0 → nat_lt 0 x ≡ false
lacks_variable exponent x is none = ap (nat_lt 0) (sym is ∙ none)

pub has_variable : (exponent x : ℕ) → exponent ≡ x → 0 < exponent → nat_lt 0 x ≡ true
has_variable exponent x is some = lt-ltb 0 x (omega arith)

pub fits_lists : (limit : ℕ) (f g f' g' : Polynomial) → f' ≡ f → g' ≡ g → degree_of f + degree_of g ≤ limit → AllKeys (λ m. AllKeys (λ k. sum m + sum k ≤ limit) g') f'
fits_lists limit f g f' g' p q h = products_fit limit f' g' (omega (arith, h, ap degree_of p, ap degree_of q))
