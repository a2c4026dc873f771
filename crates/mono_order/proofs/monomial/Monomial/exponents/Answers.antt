use Rattle.std.proofs.Common.{◌≡◌, ◌∙◌, ◌∷◌, [], get_or, ap}
use Rattle.mono_order.specs.PartialSums.{digits, exponent_word}
use Rattle.mono_order.proofs.Packing.{exponents-digits}
use Rattle.mono_order.proofs.monomial.Monomial.exponents.Goals as goal

pub returns-clause-value : goal.returns-clause-value
returns-clause-value c =
    let m = c.args.self.now in
    let words = c.exponent_words-words.ensures.value in
    let low : c.digits-low.result ≡ digits (exponent_word 0 m) = c.digits-low.ensures ∙ ap (λ ws. digits (get_or ws 0 0)) words in
    let middle : c.digits-middle.result ≡ digits (exponent_word 4 m) = c.digits-middle.ensures ∙ ap (λ ws. digits (get_or ws 1 0)) words in
    let high : c.digits-high.result ≡ digits (exponent_word 8 m) = c.digits-high.ensures ∙ ap (λ ws. digits (get_or ws 2 0)) words in
    (λ i. get_or (low i) 0 0 ∷ get_or (low i) 1 0 ∷ get_or (low i) 2 0 ∷ get_or (low i) 3 0
    ∷ get_or (middle i) 0 0 ∷ get_or (middle i) 1 0 ∷ get_or (middle i) 2 0 ∷ get_or (middle i) 3 0
    ∷ get_or (high i) 0 0 ∷ get_or (high i) 1 0 ∷ get_or (high i) 2 0 ∷ get_or (high i) 3 0 ∷ [])
    ∙ exponents-digits m c.exponent_words-words.ensures.kept
