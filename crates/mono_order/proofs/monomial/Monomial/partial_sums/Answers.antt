use Rattle.std.proofs.Common.{◌≡◌, ◌∙◌, ◌∷◌, [], get_or, ap, sym}
use Rattle.mono_order.specs.PartialSums.{digits, word_from, running_sums, exponents_of}
use Rattle.mono_order.proofs.Packing.{digits-sums}
use Rattle.mono_order.proofs.monomial.Monomial.partial_sums.Goals as goal

pub returns-clause-value : goal.returns-clause-value
returns-clause-value c =
    let m = exponents_of c.self.inside.low c.self.inside.middle c.self.inside.high in
    let low : c.digits-low.result ≡ digits (word_from 0 m) = c.digits-low.ensures ∙ ap digits (sym c.self.invariant.low_is) in
    let middle : c.digits-middle.result ≡ digits (word_from 4 m) = c.digits-middle.ensures ∙ ap digits (sym c.self.invariant.middle_is) in
    let high : c.digits-high.result ≡ digits (word_from 8 m) = c.digits-high.ensures ∙ ap digits (sym c.self.invariant.high_is) in
    (λ i. get_or (low i) 0 0 ∷ get_or (low i) 1 0 ∷ get_or (low i) 2 0 ∷ get_or (low i) 3 0
    ∷ get_or (middle i) 0 0 ∷ get_or (middle i) 1 0 ∷ get_or (middle i) 2 0 ∷ get_or (middle i) 3 0
    ∷ get_or (high i) 0 0 ∷ get_or (high i) 1 0 ∷ get_or (high i) 2 0 ∷ get_or (high i) 3 0 ∷ [])
    ∙ digits-sums m c.self.invariant.is_monomial ∙ ap (running_sums 0) c.self.view_is
