-- Polynomials that are added to a sum: the sum of the others, and the number of terms of the whole.
use Rattle.std.proofs.Common.{◌≡◌, ℕ, ◌+◌, ◌*◌, ◌%◌, ◌<◌, ◌≤◌, Bool, true, false, [], ◌∷◌, ◌++◌, take, length, get_or, refl, sym, ap, subst, ◌∙◌, append_assoc, append-nil, arith}
use Rattle.std.specs.Prelude.{IsTrue, ◌↔◌, nat_lt, cond, Result, Ok, Err, IfOk, List}
use Rattle.std.specs.Ordering.{eq_by_cmp}
use Rattle.std.proofs.lemmas.Bool.{lt-ltb, le-ltb}
use Rattle.std.proofs.lemmas.List.{map_more}
use Rattle.std.proofs.Math.Nat.{mod-mod}
use Rattle.ibp_field.specs.Arithmetic.{IsCongruent, add_mod, mul_mod}
use Rattle.ibp_algebra.specs.FormalSum.{IsCanonical, scale, insert_term, normal_form}
use Rattle.ibp_algebra.specs.Exponents.{same_exponents, deg_rev_lex}
use Rattle.ibp_algebra.specs.ExponentOrder.{exponents_decide, deg_rev_lex_total, deg_rev_lex_unique}
use Rattle.ibp_algebra.specs.Polynomial.{Polynomial, SamePolynomial}
use Rattle.ibp_algebra.specs.Spans.{coefficient_by}
use Rattle.ibp_algebra.proofs.Members.{order_decides}
use Rattle.ibp_algebra.proofs.NormalForm.{IsCanonical-insert_term, IsCanonical-normal_form, SameCoefficients-normal_form}
use Rattle.ibp_algebra.proofs.SumLaws.{SameCoefficients-refl, SameCoefficients-sym, SameCoefficients-trans, SameCoefficients-from_eq, SameCoefficients-push, append_comm, coefficient-append}
use Rattle.ibp_algebra.proofs.PolynomialLaws.{same_polynomials, SamePolynomial-append}
use Rattle.sparse_poly.proofs.Loops.{scale-one}
use Rattle.poly_text.specs.declared.fault.TextFault.{TextFault}
use Rattle.sparse_poly.specs.declared.limits.TheConstants.{TERM_LIMIT}
use Rattle.poly_text.specs.Value.{within_terms, both_values, sum_of}
use Rattle.poly_text.specs.Sum.{sum_of_both, sum_with_multiple, terms_of}
use Rattle.poly_text.proofs.Values.{same_normal_form, normal_is, normal_of_same, added_multiple}
use Rattle.poly_text.proofs.TermMaps.{found_at, found_at-coefficient, terms_of-found_at, length-insert_term}

pub IsCanonical-added : (f new : Polynomial) (t : List ℕ × ℕ) → IsCanonical deg_rev_lex f → new ≡ insert_term deg_rev_lex t f → IsCanonical deg_rev_lex new
IsCanonical-added f new t canonical is =
    subst (IsCanonical deg_rev_lex) (sym is) (IsCanonical-insert_term deg_rev_lex deg_rev_lex_total deg_rev_lex_unique t f canonical)

SamePolynomial-insert_term : (f : Polynomial) (t : List ℕ × ℕ) → IsCanonical deg_rev_lex f → SamePolynomial (insert_term deg_rev_lex t f) (f ++ t ∷ [])
SamePolynomial-insert_term f t canonical =
    let is : insert_term deg_rev_lex t f ≡ normal_form deg_rev_lex (t ∷ f) = ap (insert_term deg_rev_lex t) (normal_is f f canonical (SameCoefficients-refl same_exponents f)) in
    SameCoefficients-trans (SameCoefficients-from_eq is) (SameCoefficients-trans (same_normal_form (t ∷ f)) (append_comm same_exponents exponents_decide (t ∷ []) f))

same_sums : (first : Polynomial) {f g : Polynomial} → SamePolynomial f g → SamePolynomial (first ++ f) (first ++ g)
same_sums first h = SamePolynomial-append (SameCoefficients-refl same_exponents first) h

canonical_sum : (f g : Polynomial) → IsCanonical deg_rev_lex (sum_of_both f g)
canonical_sum f g = IsCanonical-normal_form deg_rev_lex deg_rev_lex_total deg_rev_lex_unique (f ++ g)

-- a term that is added to the others is added to the sum
sum_with_term : (first others : Polynomial) (t : List ℕ × ℕ) → IsCanonical deg_rev_lex others
    → sum_of_both first (insert_term deg_rev_lex t others) ≡ insert_term deg_rev_lex t (sum_of_both first others)
sum_with_term first others t canonical =
    let whole = sum_of_both first others in
    let apart : SamePolynomial (first ++ insert_term deg_rev_lex t others) ((first ++ others) ++ t ∷ []) =
    SameCoefficients-trans (same_sums first (SamePolynomial-insert_term others t canonical)) (SameCoefficients-from_eq (sym (append_assoc first others (t ∷ []))))
    in
    let together : SamePolynomial (insert_term deg_rev_lex t whole) ((first ++ others) ++ t ∷ []) =
    SameCoefficients-trans (SamePolynomial-insert_term whole t (canonical_sum first others))
    (SamePolynomial-append (same_normal_form (first ++ others)) (SameCoefficients-refl same_exponents (t ∷ [])))
    in
    same_polynomials _ _ (canonical_sum first (insert_term deg_rev_lex t others))
    (IsCanonical-insert_term deg_rev_lex deg_rev_lex_total deg_rev_lex_unique t whole (canonical_sum first others))
    (SameCoefficients-trans (same_normal_form (first ++ insert_term deg_rev_lex t others)) (SameCoefficients-trans apart (SameCoefficients-sym together)))

-- the coefficient of the sum is the sum of the coefficients
found_in_sum : (first others : Polynomial) (m : List ℕ) (a b before : ℕ) → a ≡ coefficient_by deg_rev_lex first m → b ≡ coefficient_by deg_rev_lex others m → before ≡ add_mod a b
    → before ≡ found_at deg_rev_lex deg_rev_lex_total (sum_of_both first others) m
found_in_sum first others m a b before is_first is_other is =
    let same = eq_by_cmp deg_rev_lex in
    let decides = order_decides deg_rev_lex deg_rev_lex_total deg_rev_lex_unique in
    is ∙ (λ i. add_mod (is_first i) (is_other i)) ∙ sym (coefficient-append same first others m)
    ∙ sym ((SameCoefficients-normal_form deg_rev_lex deg_rev_lex_total deg_rev_lex_unique same decides (first ++ others)).same_at m)
    ∙ sym (found_at-coefficient deg_rev_lex deg_rev_lex_total deg_rev_lex_unique (sum_of_both first others) m (canonical_sum first others))

pub before_counts : (first others : Polynomial) (m : List ℕ) (a b before len : ℕ) → a ≡ coefficient_by deg_rev_lex first m → b ≡ coefficient_by deg_rev_lex others m → before ≡ add_mod a b
    → len ≡ length (sum_of_both first others) → terms_of before ≤ len
before_counts first others m a b before len is_first is_other is counted =
    omega (arith, terms_of-found_at deg_rev_lex deg_rev_lex_total (sum_of_both first others) m, ap terms_of (found_in_sum first others m a b before is_first is_other is))

pub counted_after : (first others new : Polynomial) (m : List ℕ) (c a b before after len n : ℕ) → IsCanonical deg_rev_lex others → new ≡ insert_term deg_rev_lex (m, c) others
    → a ≡ coefficient_by deg_rev_lex first m → b ≡ coefficient_by deg_rev_lex others m → before ≡ add_mod a b → after ≡ add_mod before c
    → len ≡ length (sum_of_both first others) → n + terms_of before ≡ len + terms_of after → n ≡ length (sum_of_both first new)
counted_after first others new m c a b before after len n canonical added is_first is_other is is_after counted changed =
    let whole = sum_of_both first others in
    let found = found_in_sum first others m a b before is_first is_other is in
    let longer = length-insert_term deg_rev_lex deg_rev_lex_total whole m c (canonical_sum first others) in
    let is_new : length (sum_of_both first new) ≡ length (insert_term deg_rev_lex (m, c) whole) =
    ap (λ (f : Polynomial). length (sum_of_both first f)) added ∙ ap length (sum_with_term first others (m, c) canonical)
    in
    omega (arith, longer, is_new, ap terms_of found, ap terms_of is_after, ap (λ d. terms_of (add_mod d c)) found)

scale_more : (factor : ℕ) (start f : Polynomial) (i : ℕ) (item : List ℕ × ℕ) → i < length f → item ≡ get_or f i item
    → start ++ scale factor (take (i + 1) f) ≡ (start ++ scale factor (take i f)) ++ (item.0, factor * item.1) ∷ []
scale_more factor start f i item within is =
    ap (λ (l : Polynomial). start ++ l) (map_more _ f i item within ∙ ap (λ (t : List ℕ × ℕ). scale factor (take i f) ++ (t.0, factor * t.1) ∷ []) (sym is))
    ∙ sym (append_assoc start (scale factor (take i f)) ((item.0, factor * item.1) ∷ []))

-- one more term of a multiple
pub terms_more : (start old new f : Polynomial) (i factor c : ℕ) (item : List ℕ × ℕ) → IsCanonical deg_rev_lex old → i < length f → item ≡ get_or f i item
    → c ≡ mul_mod factor item.1 → new ≡ insert_term deg_rev_lex (item.0, c) old → SamePolynomial old (start ++ scale factor (take i f))
    → SamePolynomial new (start ++ scale factor (take (i + 1) f))
terms_more start old new f i factor c item canonical within is value added h =
    let congruent : IsCongruent c (factor * item.1) = record { same_residue = ap (λ n. n % 2147483647) value ∙ mod-mod (factor * item.1) 2147483647 } in
    SameCoefficients-trans (SameCoefficients-from_eq added)
    (SameCoefficients-trans (SamePolynomial-insert_term old (item.0, c) canonical)
    (SameCoefficients-trans (SameCoefficients-push same_exponents exponents_decide item.0 c (factor * item.1) h congruent)
    (SameCoefficients-from_eq (sym (scale_more factor start f i item within is)))))

-- a multiple that is added to the others is added to the sum
whole_multiple : (first start others f items value : Polynomial) (factor : ℕ) → sum_of_both first start ≡ value → items ≡ f
    → SamePolynomial others (start ++ scale factor items) → sum_of_both first others ≡ normal_form deg_rev_lex (value ++ scale factor f)
whole_multiple first start others f items value factor is_value is h =
    let apart : SamePolynomial (first ++ others) ((first ++ start) ++ scale factor f) =
    SameCoefficients-trans (same_sums first h) (SameCoefficients-from_eq (sym (append_assoc first start (scale factor items)) ∙ ap (λ (l : Polynomial). (first ++ start) ++ scale factor l) is))
    in
    let before : SamePolynomial (first ++ start) value = SameCoefficients-trans (SameCoefficients-sym (same_normal_form (first ++ start))) (SameCoefficients-from_eq is_value) in
    normal_of_same _ _ (SameCoefficients-trans apart (SamePolynomial-append before (SameCoefficients-refl same_exponents (scale factor f))))

within_if : (at : ℕ) (f : Polynomial) (b : Bool) → nat_lt TERM_LIMIT (length f) ≡ b → within_terms at f ≡ cond b (Err (TextFault.TermsOver at)) (Ok f)
within_if at f b e = ap (λ b. cond b (Err (TextFault.TermsOver at)) (Ok f)) e

pub too_many : (at : ℕ) (first start others f items value : Polynomial) (factor n : ℕ) → sum_of_both first start ≡ value → items ≡ f
    → SamePolynomial others (start ++ scale factor items) → n ≡ length (sum_of_both first others) → TERM_LIMIT < n
    → Err (TextFault.TermsOver at) ≡ sum_with_multiple at factor value f
too_many at first start others f items value factor n is_value is h counted over =
    sym (ap (within_terms at) (sym (whole_multiple first start others f items value factor is_value is h)) ∙ within_if at (sum_of_both first others) true (lt-ltb TERM_LIMIT _ (omega arith)))

pub few_enough : (at : ℕ) (first start others f items value : Polynomial) (factor n : ℕ) → sum_of_both first start ≡ value → items ≡ f
    → SamePolynomial others (start ++ scale factor items) → n ≡ length (sum_of_both first others) → n ≤ TERM_LIMIT
    → Ok (sum_of_both first others) ≡ sum_with_multiple at factor value f
few_enough at first start others f items value factor n is_value is h counted few =
    sym (ap (within_terms at) (sym (whole_multiple first start others f items value factor is_value is h)) ∙ within_if at (sum_of_both first others) false (le-ltb TERM_LIMIT _ (omega arith)))

-- one polynomial
pub one_polynomial : (first others : Polynomial) → others ≡ [] → IsCanonical deg_rev_lex first → sum_of_both first others ≡ first
one_polynomial first others none canonical =
    sym (normal_is first _ canonical (SameCoefficients-from_eq (sym (append-nil first) ∙ ap (λ (l : Polynomial). first ++ l) (sym none))))

-- the first and what is made of all entries
pub poly_of_entries : {E : Type 0} (r : Result Polynomial E) (first value entries others terms : Polynomial) → sum_of_both first entries ≡ value → terms ≡ entries
    → SamePolynomial others terms → IfOk r (λ p. p ≡ sum_of_both first others) → IfOk r (λ p. p ≡ value)
poly_of_entries (Ok p) first value entries others terms seen all same made =
    made ∙ normal_of_same _ _ (same_sums first (SameCoefficients-trans same (SameCoefficients-from_eq all))) ∙ seen
poly_of_entries (Err e) first value entries others terms seen all same made = tt

pub no_others : (first others value : Polynomial) (b : Bool) → sum_of_both first others ≡ value → IsCanonical deg_rev_lex first → IsTrue b ↔ (length others ≡ 0) → b ≡ true → first ≡ value
no_others first [] value b seen canonical empty is = sym (one_polynomial first [] refl canonical) ∙ seen
no_others first (t ∷ others) value b seen canonical empty is = absurd (omega (arith, empty.0 is))

-- the sum in one pass
pub merged : (at factor : ℕ) (v w r whole : Result Polynomial TextFault) (f g first multiple : Polynomial) → v ≡ Ok f → w ≡ Ok g → first ≡ f → multiple ≡ normal_form deg_rev_lex (scale factor g)
    → whole ≡ sum_of at first multiple → r ≡ whole → r ≡ both_values (sum_with_multiple at factor) v w
merged at factor v w r whole f g first multiple is_sum is_term is_first is_multiple made is =
    is ∙ made ∙ ap (λ (h : Polynomial). sum_of at h multiple) is_first ∙ ap (within_terms at) (added_multiple f g multiple factor is_multiple)
    ∙ sym (λ i. both_values (sum_with_multiple at factor) (is_sum i) (is_term i))

pub sum_is_multiple : {E : Type 0} (at : ℕ) (v w : Result Polynomial TextFault) (one : ℕ) (r : Result (Result Polynomial TextFault) E) → one ≡ 1
    → IfOk r (λ s. s ≡ both_values (sum_with_multiple at one) v w) → IfOk r (λ s. s ≡ both_values (sum_of at) v w)
sum_is_multiple at (Ok f) (Ok g) one (Ok s) is h = h ∙ ap (λ (k : Polynomial). within_terms at (normal_form deg_rev_lex (f ++ k))) (ap (λ n. scale n g) is ∙ scale-one g)
sum_is_multiple at (Ok f) (Err fault) one (Ok s) is h = h
sum_is_multiple at (Err fault) w one (Ok s) is h = h
sum_is_multiple at v w one (Err e) is h = tt
