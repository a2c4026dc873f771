use Rattle.std.proofs.Common.{◌≡◌, ◌∙◌, arith}
use Rattle.mono_order.specs.Monomial.{IsMonomial}
use Rattle.mono_order.specs.PartialSums.{word, word_from}
use Rattle.mono_order.proofs.Packing.{partial_sum-le, packed_as, partial_sums_as}
use Rattle.mono_order.proofs.monomial.packed.Goals as goal

pub word-requires-2-clause-second : goal.word-requires-2-clause-second
word-requires-2-clause-second c = omega (arith, c.partial_sums-sums.ensures 5 (omega arith), partial_sum-le 6 c.args.exponents.now, c.requires)

pub word-requires-2-clause-third : goal.word-requires-2-clause-third
word-requires-2-clause-third c = omega (arith, c.partial_sums-sums.ensures 6 (omega arith), partial_sum-le 7 c.args.exponents.now, c.requires)

pub word-requires-2-clause-fourth : goal.word-requires-2-clause-fourth
word-requires-2-clause-fourth c = omega (arith, c.partial_sums-sums.ensures 7 (omega arith), partial_sum-le 8 c.args.exponents.now, c.requires)

pub word-requires-3-clause-first : goal.word-requires-3-clause-first
word-requires-3-clause-first c = omega (arith, c.partial_sums-sums.ensures 8 (omega arith), partial_sum-le 9 c.args.exponents.now, c.requires)

pub word-requires-3-clause-second : goal.word-requires-3-clause-second
word-requires-3-clause-second c = omega (arith, c.partial_sums-sums.ensures 9 (omega arith), partial_sum-le 10 c.args.exponents.now, c.requires)

pub word-requires-3-clause-third : goal.word-requires-3-clause-third
word-requires-3-clause-third c = omega (arith, c.partial_sums-sums.ensures 10 (omega arith), partial_sum-le 11 c.args.exponents.now, c.requires)

pub word-requires-3-clause-fourth : goal.word-requires-3-clause-fourth
word-requires-3-clause-fourth c = omega (arith, c.partial_sums-sums.ensures 11 (omega arith), partial_sum-le 12 c.args.exponents.now, c.requires)

monomial : (c : goal.After-word-3) → IsMonomial c.args.exponents.now
monomial c = record { each_variable = c.told-exponents; bounded = c.requires }

low : (c : goal.After-word-3) → c.word.result ≡ word_from 0 c.args.exponents.now
unfolding word_from
low c =
    let sums = c.partial_sums-sums.ensures in
    c.word.ensures ∙ (λ i. word (sums 0 (omega arith) i) (sums 1 (omega arith) i) (sums 2 (omega arith) i) (sums 3 (omega arith) i))

middle : (c : goal.After-word-3) → c.word-2.result ≡ word_from 4 c.args.exponents.now
unfolding word_from
middle c =
    let sums = c.partial_sums-sums.ensures in
    c.word-2.ensures ∙ (λ i. word (sums 4 (omega arith) i) (sums 5 (omega arith) i) (sums 6 (omega arith) i) (sums 7 (omega arith) i))

high : (c : goal.After-word-3) → c.word-3.result ≡ word_from 8 c.args.exponents.now
unfolding word_from
high c =
    let sums = c.partial_sums-sums.ensures in
    c.word-3.ensures ∙ (λ i. word (sums 8 (omega arith) i) (sums 9 (omega arith) i) (sums 10 (omega arith) i) (sums 11 (omega arith) i))

pub invariant_of-result : goal.invariant_of-result
invariant_of-result c = partial_sums_as c.args.exponents.now c.word.result c.word-2.result c.word-3.result (monomial c) (low c) (middle c) (high c)

pub returns : goal.returns
returns c = packed_as c.args.exponents.now c.word.result c.word-2.result c.word-3.result (monomial c) (low c) (middle c) (high c)
