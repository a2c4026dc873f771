use Rattle.std.proofs.Common.{◌∙◌, ◌&&◌, sym, subst, get_or, List, ℕ}
use Rattle.mono_order.specs.PartialSums.{digits, AreFree}
use Rattle.mono_order.specs.Term.{divides_exponents}
use Rattle.mono_order.proofs.Lanes.{exponents-free, divides-words}
use Rattle.mono_order.proofs.monomial.Monomial.divides.Goals as goal

pub is_within-low-requires-clause-mine : goal.is_within-low-requires-clause-mine
is_within-low-requires-clause-mine c =
    subst (λ (ws : List ℕ). AreFree (get_or ws 0 0)) (sym c.exponent_words-mine.ensures.value) (exponents-free 0 c.args.self.now c.exponent_words-mine.ensures.kept.bounded)

pub is_within-low-requires-clause-others : goal.is_within-low-requires-clause-others
is_within-low-requires-clause-others c =
    subst (λ (ws : List ℕ). AreFree (get_or ws 0 0)) (sym c.exponent_words-others.ensures.value) (exponents-free 0 c.args.other.now c.exponent_words-others.ensures.kept.bounded)

pub is_within-middle-requires-clause-mine : goal.is_within-middle-requires-clause-mine
is_within-middle-requires-clause-mine c =
    subst (λ (ws : List ℕ). AreFree (get_or ws 1 0)) (sym c.exponent_words-mine.ensures.value) (exponents-free 4 c.args.self.now c.exponent_words-mine.ensures.kept.bounded)

pub is_within-middle-requires-clause-others : goal.is_within-middle-requires-clause-others
is_within-middle-requires-clause-others c =
    subst (λ (ws : List ℕ). AreFree (get_or ws 1 0)) (sym c.exponent_words-others.ensures.value) (exponents-free 4 c.args.other.now c.exponent_words-others.ensures.kept.bounded)

pub is_within-high-requires-clause-mine : goal.is_within-high-requires-clause-mine
is_within-high-requires-clause-mine c =
    subst (λ (ws : List ℕ). AreFree (get_or ws 2 0)) (sym c.exponent_words-mine.ensures.value) (exponents-free 8 c.args.self.now c.exponent_words-mine.ensures.kept.bounded)

pub is_within-high-requires-clause-others : goal.is_within-high-requires-clause-others
is_within-high-requires-clause-others c =
    subst (λ (ws : List ℕ). AreFree (get_or ws 2 0)) (sym c.exponent_words-others.ensures.value) (exponents-free 8 c.args.other.now c.exponent_words-others.ensures.kept.bounded)

pub returns : goal.returns
returns c =
    let mine = c.exponent_words-mine.ensures.value in
    let others = c.exponent_words-others.ensures.value in
    (λ i. (c.is_within-low.ensures i && c.is_within-middle.ensures i) && c.is_within-high.ensures i)
    ∙ (λ i. (divides_exponents (digits (get_or (mine i) 0 0)) (digits (get_or (others i) 0 0)) && divides_exponents (digits (get_or (mine i) 1 0)) (digits (get_or (others i) 1 0)))
    && divides_exponents (digits (get_or (mine i) 2 0)) (digits (get_or (others i) 2 0)))
    ∙ divides-words c.args.self.now c.args.other.now c.exponent_words-mine.ensures.kept c.exponent_words-others.ensures.kept
