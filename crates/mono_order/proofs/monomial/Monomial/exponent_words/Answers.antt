use Rattle.std.proofs.Common.{◌≡◌, ◌∙◌, ◌/◌, ◌-◌, ℕ, ◌∷◌, [], ap, sym, refl, arith}
use Rattle.mono_order.specs.declared.words.TheConstants.{BASE}
use Rattle.mono_order.specs.PartialSums.{exponents_of, exponent_word, ArePartialSums}
use Rattle.mono_order.proofs.Packing.{HasExponents, exponents-word, highest-digit}
use Rattle.mono_order.proofs.monomial.Monomial.exponent_words.Goals as goal

low_word : (l m h : ℕ) → ArePartialSums l m h → HasExponents 0 (exponents_of l m h) l 0
low_word l m h inside = exponents-word 0 (exponents_of l m h) l 0 inside.is_monomial (omega arith) (sym inside.low_is) refl

middle_word : (l m h lowest : ℕ) → ArePartialSums l m h → lowest ≡ l / BASE / BASE / BASE → HasExponents 4 (exponents_of l m h) m lowest
middle_word l m h lowest inside e =
    exponents-word 4 (exponents_of l m h) m lowest inside.is_monomial (omega arith) (sym inside.middle_is)
    (e ∙ ap (λ w. w / BASE / BASE / BASE) (sym inside.low_is) ∙ highest-digit 0 (exponents_of l m h) inside.is_monomial.bounded)

high_word : (l m h lowest : ℕ) → ArePartialSums l m h → lowest ≡ m / BASE / BASE / BASE → HasExponents 8 (exponents_of l m h) h lowest
high_word l m h lowest inside e =
    exponents-word 8 (exponents_of l m h) h lowest inside.is_monomial (omega arith) (sym inside.high_is)
    (e ∙ ap (λ w. w / BASE / BASE / BASE) (sym inside.middle_is) ∙ highest-digit 4 (exponents_of l m h) inside.is_monomial.bounded)

pub overflow_sub-result : goal.overflow_sub-result
overflow_sub-result c = omega (arith, (low_word _ _ _ c.self.invariant).above, c.raised.ensures)

pub overflow_sub-result-2 : goal.overflow_sub-result-2
overflow_sub-result-2 c = omega (arith, (middle_word _ _ _ _ c.self.invariant c.highest.ensures.value).above, c.raised-2.ensures)

pub overflow_sub-result-3 : goal.overflow_sub-result-3
overflow_sub-result-3 c = omega (arith, (high_word _ _ _ _ c.self.invariant c.highest-2.ensures.value).above, c.raised-3.ensures)

pub returns-clause-value : goal.returns-clause-value
returns-clause-value c =
    let m = exponents_of c.self.inside.low c.self.inside.middle c.self.inside.high in
    let low : c.self.inside.low - c.raised.result ≡ exponent_word 0 m = ap (λ w. c.self.inside.low - w) c.raised.ensures ∙ (low_word _ _ _ c.self.invariant).value in
    let middle : c.self.inside.middle - c.raised-2.result ≡ exponent_word 4 m =
    ap (λ w. c.self.inside.middle - w) c.raised-2.ensures ∙ (middle_word _ _ _ _ c.self.invariant c.highest.ensures.value).value
    in
    let high : c.self.inside.high - c.raised-3.result ≡ exponent_word 8 m =
    ap (λ w. c.self.inside.high - w) c.raised-3.ensures ∙ (high_word _ _ _ _ c.self.invariant c.highest-2.ensures.value).value
    in
    (λ i. low i ∷ middle i ∷ high i ∷ []) ∙ (λ i. exponent_word 0 (c.self.view_is i) ∷ exponent_word 4 (c.self.view_is i) ∷ exponent_word 8 (c.self.view_is i) ∷ [])
