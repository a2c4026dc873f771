-- The text of a polynomial and of a row, in front of bytes, is that of no other.
use Rattle.std.proofs.Common.{◌≡◌, ◌≢◌, ℕ, suc, ◌+◌, ◌^◌, ◌<◌, ◌≤◌, ℤ, List, [], ◌∷◌, ◌++◌, length, sum, false, refl, sym, ap, ap₂, ◌∙◌, append_assoc, arith, inl, inr}
use Rattle.std.specs.Prelude.{codes, decimal, ◌⊎◌}
use Rattle.std.specs.Fmt.{signed_decimal}
use Rattle.std.specs.List.{AllByRecursion}
use Rattle.std.proofs.lemmas.Fmt.{decimal-digits_value}
use Rattle.std.proofs.lemmas.List.{append_cancel_left}
use Rattle.ibp_algebra.specs.Polynomial.{Polynomial}
use Rattle.ibp_algebra.proofs.SumOfExponents.{sum-cons}
use Rattle.mono_order.specs.declared.limits.TheConstants.{VARIABLES, RUN_DEGREE}
use Rattle.sparse_rows.specs.Rows.{IntegralSum}
use Rattle.family.specs.Shapes.{IsPolynomial}
use Rattle.line_reader.specs.Entries.{more}
use Rattle.line_reader.specs.Fronts.{begins_with, EndsNumber}
use Rattle.line_reader.proofs.Digits.{own}
use Rattle.line_reader.proofs.Separated.{ends_more}
use Rattle.system_text.specs.Texts.{power_text, powers_text, monomial_text, poly_term_text, poly_text, integral_text, row_term_text, row_text}
use Rattle.system_text.specs.Polynomials.{is_power_byte, EndsTerm, EndsPoly, EndsPower, IsShort, IsPolyTerm, exponent_text}
use Rattle.system_text.specs.Integrals.{IsPower, IsRowTerm, Anything}
use Rattle.system_text.specs.SystemValues.{IsIntegral, IsRow}
use Rattle.system_text.proofs.Cuts.{IntegralParts, integral_parts, row_zero, apart}
use Rattle.system_text.proofs.PowerEnds.{number_ends, powers_end, IsPowerIn, power_cases, exponent_ends, exponent_cases, no_caret, power_ends, term_cut, term_ends, plus_ends}
use Rattle.system_text.proofs.Sums.{each_term, each_row_term}
use Rattle.system_check.proofs.FrontTexts.{IsFront, IsNarrow, number_front, number_word, power_front, EndsList, entries_front}

-- exponents
exponent_front : (e f : ℕ) (r s : List ℕ) → IsNarrow e → IsNarrow f → begins_with is_power_byte r ≡ false → begins_with is_power_byte s ≡ false
    → exponent_text e ++ r ≡ exponent_text f ++ s → (e ≡ f) × (r ≡ s)
exponent_front e f r s small small_f ends ends_f h = by (exponent_cases e r (exponent_text e ++ r) refl) (exponent_cases f s (exponent_text e ++ r) h)
  where
    by : ((e ≡ 1) × (exponent_text e ++ r ≡ r)) ⊎ (exponent_text e ++ r ≡ codes "^" ++ (decimal e ++ r))
        → ((f ≡ 1) × (exponent_text e ++ r ≡ s)) ⊎ (exponent_text e ++ r ≡ codes "^" ++ (decimal f ++ s)) → (e ≡ f) × (r ≡ s)
    by (inl (one, left)) (inl (one_f, left_f)) = (one ∙ sym one_f, sym left ∙ left_f)
    by (inl (one, left)) (inr behind) = absurd (no_caret r (decimal f ++ s) ends (sym left ∙ behind))
    by (inr behind) (inl (one, left)) = absurd (no_caret s (decimal e ++ r) ends_f (sym left ∙ behind))
    by (inr behind) (inr behind_f) =
        number_front e f r s small small_f (number_ends r ends) (number_ends s ends_f) (append_cancel_left (codes "^") (decimal e ++ r) (decimal f ++ s) (sym behind ∙ behind_f))

-- no later power is one of z_k
none_here : (k f : ℕ) (r s : List ℕ) → k < 2 ^ 32 → EndsPower k r → begins_with is_power_byte s ≡ false → r ≢ codes "*z" ++ (decimal k ++ (exponent_text f ++ s))
none_here k f r s small ends ends_f h =
    let later = ends.others (decimal k ++ (exponent_text f ++ s)) h in
    let same = number_front k later.j (exponent_text f ++ s) later.others small later.small (exponent_ends f s ends_f) later.ends later.is in
    absurd (omega (arith, same.0, later.later))

powers_front : (k : ℕ) (es fs : List ℕ) (r s : List ℕ) → length es ≡ length fs → k + length es < 2 ^ 32 → AllByRecursion IsNarrow es → AllByRecursion IsNarrow fs → EndsTerm r → EndsTerm s
    → powers_text k es ++ r ≡ powers_text k fs ++ s → (es ≡ fs) × (r ≡ s)
powers_front k [] [] r s same small are are_f ends ends_f h = (refl, h)
powers_front k [] (f ∷ fs) r s same small are are_f ends ends_f h = absurd (omega arith)
powers_front k (e ∷ es) [] r s same small are are_f ends ends_f h = absurd (omega arith)
powers_front k (e ∷ es) (f ∷ fs) r s same small are are_f ends ends_f h =
    by (powers_front (suc k) es fs r s fewer (omega (arith, small)) are.1 are_f.1 ends ends_f)
    (power_cases k e (powers_text (suc k) es ++ r) (powers_text k (e ∷ es) ++ r) (append_assoc (power_text k e) (powers_text (suc k) es) r))
    (power_cases k f (powers_text (suc k) fs ++ s) (powers_text k (e ∷ es) ++ r) (h ∙ append_assoc (power_text k f) (powers_text (suc k) fs) s))
  where
    fewer : length es ≡ length fs
    fewer = omega arith

    end : EndsPower k (powers_text (suc k) es ++ r)
    end = powers_end k (suc k) es r (omega arith) (omega (arith, small)) ends

    end_f : EndsPower k (powers_text (suc k) fs ++ s)
    end_f = powers_end k (suc k) fs s (omega arith) (omega (arith, small, fewer)) ends_f

    joined : e ≡ f → (es ≡ fs) × (r ≡ s) → (◌≡◌ {A = List ℕ} (e ∷ es) (f ∷ fs)) × (r ≡ s)
    joined here rest = (ap₂ (λ (x : ℕ) (xs : List ℕ). x ∷ xs) here rest.0, rest.1)

    by : (powers_text (suc k) es ++ r ≡ powers_text (suc k) fs ++ s → (es ≡ fs) × (r ≡ s))
        → IsPowerIn k e (powers_text (suc k) es ++ r) (powers_text k (e ∷ es) ++ r)
        → IsPowerIn k f (powers_text (suc k) fs ++ s) (powers_text k (e ∷ es) ++ r)
        → (◌≡◌ {A = List ℕ} (e ∷ es) (f ∷ fs)) × (r ≡ s)
    by others (inl (none, left)) (inl (none_f, left_f)) = joined (none ∙ sym none_f) (others (sym left ∙ left_f))
    by others (inl (none, left)) (inr (some, is)) =
        absurd (none_here k f (powers_text (suc k) es ++ r) (powers_text (suc k) fs ++ s) (omega (arith, small)) end end_f.power (sym left ∙ is))
    by others (inr (some, is)) (inl (none, left)) =
        absurd (none_here k e (powers_text (suc k) fs ++ s) (powers_text (suc k) es ++ r) (omega (arith, small)) end_f end.power (sym left ∙ is))
    by others (inr (some, is)) (inr (some_f, is_f)) =
        let text = exponent_text e ++ (powers_text (suc k) es ++ r) in
        let text_f = exponent_text f ++ (powers_text (suc k) fs ++ s) in
        let inside = append_cancel_left (codes "*z") (decimal k ++ text) (decimal k ++ text_f) (sym is ∙ is_f) in
        let here = exponent_front e f (powers_text (suc k) es ++ r) (powers_text (suc k) fs ++ s) are.0 are_f.0 end.power end_f.power (append_cancel_left (decimal k) text text_f inside) in
        joined here.0 (others here.1)

narrow_each : (m : List ℕ) → sum m ≤ RUN_DEGREE → AllByRecursion IsNarrow m
narrow_each [] within = tt
narrow_each (e ∷ m) within = (omega (arith, sum-cons e m), narrow_each m (omega (arith, sum-cons e m)))

monomial_front : (n : ℕ) → IsFront monomial_text EndsTerm (IsShort n)
monomial_front n m o r s is is_o ends ends_o e =
    let long : length m ≡ VARIABLES = is.variables.each_variable in
    let long_o : length o ≡ VARIABLES = is_o.variables.each_variable in
    powers_front 1 m o r s (omega arith) (omega arith) (narrow_each m is.degree) (narrow_each o is_o.degree) ends ends_o e

pub poly_term_front : (n : ℕ) → IsFront poly_term_text EndsTerm (IsPolyTerm n)
poly_term_front n x y r s is is_y ends ends_y e =
    let number = number_front x.1 y.1 (monomial_text x.0 ++ r) (monomial_text y.0 ++ s) (omega (arith, is.residue)) (omega (arith, is_y.residue)) (term_ends n x r is ends) (term_ends n y s is_y ends_y)
    (sym (term_cut x r (poly_term_text x ++ r) refl) ∙ term_cut y s (poly_term_text x ++ r) e) in
    let monomial = monomial_front n x.0 y.0 r s is.monomial is_y.monomial ends ends_y number.1 in
    (ap₂ (λ (m : List ℕ) (c : ℕ). (m, c)) monomial.0 number.0, monomial.1)

-- a zero in front of bytes is no other number
decimal_zero : decimal 0 ≡ 48 ∷ []
decimal_zero = decimal-digits_value own (48 ∷ []) refl (omega arith) (λ _. refl) (omega arith)

not_zero : (c : ℕ) (r s : List ℕ) → 0 < c → IsNarrow c → EndsNumber r → EndsNumber s → decimal c ++ r ≢ codes "0" ++ s
not_zero c r s some small ends ends_s e =
    let same = number_front c 0 r s small (omega arith) ends ends_s (e ∙ ap (λ (t : List ℕ). t ++ s) (sym decimal_zero)) in
    omega (arith, same.0)

term_list : (rest : List ℕ) → EndsPoly rest → EndsList (codes " + ") EndsTerm rest
term_list rest ends = record { entry = ends.term; no_more = ends.no_more }

zero_or_more : (n : ℕ) (t : List ℕ × ℕ) (p : Polynomial) (r s : List ℕ) → IsPolynomial n RUN_DEGREE (t ∷ p) → EndsPoly r → EndsPoly s → poly_text (t ∷ p) ++ r ≢ codes "0" ++ s
zero_or_more n t p r s is ends ends_s e =
    let terms = each_term n (t ∷ p) is.canonical is.variables is.degree_within in
    let others = more poly_term_text (codes " + ") p ++ r in
    let end : EndsTerm others = ends_more poly_term_text (codes " + ") EndsTerm p r ends.term plus_ends in
    not_zero t.1 (monomial_text t.0 ++ others) s is.canonical.0 (omega (arith, is.canonical.1)) (term_ends n t others terms.0 end) (number_ends s (power_ends s ends_s.term))
    (sym (term_cut t others (poly_term_text t ++ others) refl) ∙ sym (append_assoc (poly_term_text t) (more poly_term_text (codes " + ") p) r) ∙ e)

pub poly_front : (n : ℕ) → IsFront poly_text EndsPoly (IsPolynomial n RUN_DEGREE)
poly_front n [] [] r s is is_q ends ends_q e = (refl, append_cancel_left (codes "0") r s e)
poly_front n [] (u ∷ q) r s is is_q ends ends_q e = absurd (zero_or_more n u q s r is_q ends_q ends (sym e))
poly_front n (t ∷ p) [] r s is is_q ends ends_q e = absurd (zero_or_more n t p r s is ends ends_q e)
poly_front n (t ∷ p) (u ∷ q) r s is is_q ends ends_q e =
    entries_front poly_term_text (codes " + ") EndsTerm (IsPolyTerm n) (poly_term_front n) plus_ends t u p q r s
    (each_term n (t ∷ p) is.canonical is.variables is.degree_within) (each_term n (u ∷ q) is_q.canonical is_q.variables is_q.degree_within)
    (term_list r ends) (term_list s ends_q) e

pub integral_front : (n : ℕ) → 1 ≤ n → IsFront integral_text Anything (IsIntegral n)
integral_front n some a b r s is is_b ends ends_b e = by (integral_parts n a r (integral_text a ++ r) some is refl) (integral_parts n b s (integral_text a ++ r) some is_b e)
  where
    closes : (t : List ℕ) → EndsList (codes ",") EndsNumber (codes "]" ++ t)
    closes t = record { entry = refl; no_more = λ u. apart 93 44 t u (omega arith) }

    by : IntegralParts n a r (integral_text a ++ r) → IntegralParts n b s (integral_text a ++ r) → (a ≡ b) × (r ≡ s)
    by p q =
        let same = entries_front signed_decimal (codes ",") EndsNumber (IsPower n) (power_front n) (λ _. refl) p.z q.z p.zs q.zs (codes "]" ++ r) (codes "]" ++ s)
        (p.first, p.others) (q.first, q.others) (closes r) (closes s)
        (append_cancel_left (codes "[") _ _ (sym p.front ∙ q.front)) in
        (p.is ∙ same.0 ∙ sym q.is, append_cancel_left (codes "]") r s same.1)

row_term_front : (n : ℕ) → 1 ≤ n → IsFront row_term_text Anything (IsRowTerm n)
row_term_front n some x y r s is is_y ends ends_y e =
    let number = number_word (codes "*I") x.1 y.1 (integral_text x.0 ++ r) (integral_text y.0 ++ s) (λ _. refl) (omega (arith, is.residue)) (omega (arith, is_y.residue))
    (sym (cut x r) ∙ e ∙ cut y s) in
    let integral = integral_front n some x.0 y.0 r s is.integral is_y.integral tt tt number.1 in
    (ap₂ (λ (m : List ℤ) (c : ℕ). (m, c)) integral.0 number.0, integral.1)
  where
    cut : (t : List ℤ × ℕ) (rest : List ℕ) → row_term_text t ++ rest ≡ decimal t.1 ++ (codes "*I" ++ (integral_text t.0 ++ rest))
    cut t rest = append_assoc (decimal t.1 ++ codes "*I") (integral_text t.0) rest ∙ append_assoc (decimal t.1) (codes "*I") (integral_text t.0 ++ rest)

-- a row behind which its line ends
pub one_row : (n : ℕ) → 1 ≤ n → (row other : IntegralSum) → IsRow n row → IsRow n other → row_text row ++ 10 ∷ [] ≡ row_text other ++ 10 ∷ [] → row ≡ other
one_row n some [] other is is_o e = sym (row_zero n other (row_text [] ++ 10 ∷ []) is_o e refl)
one_row n some (t ∷ row) [] is is_o e = row_zero n (t ∷ row) (row_text (t ∷ row) ++ 10 ∷ []) is refl e
one_row n some (t ∷ row) (u ∷ other) is is_o e =
    (entries_front row_term_text (codes " ") Anything (IsRowTerm n) (row_term_front n some) (λ _. tt) t u row other (10 ∷ []) (10 ∷ [])
    (each_row_term n (t ∷ row) is.canonical is.integrals) (each_row_term n (u ∷ other) is_o.canonical is_o.integrals)
    (record { entry = tt; no_more = λ r. apart 10 32 [] r (omega arith) }) (record { entry = tt; no_more = λ r. apart 10 32 [] r (omega arith) }) e).0
